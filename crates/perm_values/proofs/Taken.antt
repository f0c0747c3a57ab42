-- What is known of a result before it is taken with others is known of what it holds.
use Rattle.std.proofs.Common.{◌≡◌, Result, Ok, IfOk, subst}
use Rattle.perm_values.specs.declared.no_memory.NoMemory.{NoMemory}

pub opened : {X : Type 0} (P : X → Type 0) (result : Result X NoMemory) (x : X) → result ≡ Ok x → IfOk result P → P x
opened P result x was h = subst (λ r. IfOk r P) was h
