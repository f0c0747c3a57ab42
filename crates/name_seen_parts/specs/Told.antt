-- What the code answers of what may break.
use Rattle.std.specs.Prelude.{◌≡◌, Result, Ok, Err}
use Rattle.name_meaning.specs.declared.answer.Break.{Break}
use Rattle.name_seen_parts.specs.declared.refusal.Refusal.{Refusal}
use Rattle.name_seen_parts.specs.declared.refusal.Refusal.TheVariants.{Break as Broken, NoMemory}

-- it answers what is found; want of memory says nothing
abbrev pub Tells : {X : Type 0} → Result X Break → Result X Refusal → Type 0
Tells found (Ok x) = found ≡ Ok x
Tells found (Err (Broken first)) = found ≡ Err first
Tells found (Err NoMemory) = Unit {0}
