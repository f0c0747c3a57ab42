-- What is known of a result, and of what a push leaves, whether or not there was memory.
use Rattle.std.proofs.Common.{◌≡◌, List, Result, Ok, Err, IfOk, OnOk, sym, subst}
use Rattle.std.specs.Prelude.{⊤}
use Rattle.perm_values.specs.declared.no_memory.NoMemory.{NoMemory}

pub when-ok : {X E P Q : Type 0} (result : Result X E) → OnOk result P → (P → Q) → OnOk result Q
when-ok (Ok x) holds f = f holds
when-ok (Err e) holds f = tt

pub ok-anyway : {X E P : Type 0} (result : Result X E) → P → OnOk result P
ok-anyway (Ok x) holds = holds
ok-anyway (Err e) holds = tt

pub where_made : {X E : Type 0} (P R : X → Type 0) (result : Result X E) → ((x : X) → P x → R x) → IfOk result P → IfOk result R
where_made P R (Ok x) f p = f x p
where_made P R (Err error) f p = tt

pub appended : {X : Type 0} (P : List X → Type 0) (xs ys : List X) (result : Result ⊤ NoMemory) → OnOk result (ys ≡ xs) → P xs → OnOk result (P ys)
appended P xs ys (Ok done) e p = subst P (sym e) p
appended P xs ys (Err error) e p = tt
