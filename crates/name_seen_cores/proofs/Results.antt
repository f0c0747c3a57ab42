-- What holds of results, where there was enough memory.
use Rattle.std.specs.Prelude.{Result, Ok, Err, IfOk}

pub turned-ok : {X E : Type 0} {P Q : X → Type 0} (result : Result X E) → IfOk result P → ((x : X) → P x → Q x) → IfOk result Q
turned-ok (Ok x) holds f = f x holds
turned-ok (Err e) holds f = tt
