-- What is made of a statement before it is carried out.
use Rattle.std.specs.Prelude.{◌≡◌, List, [], Result, Ok, Err}
use Rattle.perm_catalog.specs.Contents.{Contents}
use Rattle.sql_tree.specs.declared.statement.Statement.{Statement}
use Rattle.name_seen_parts.specs.Seen.{first_or}
use Rattle.name_meaning.specs.Statements.{breaks, resolved}
use Rattle.name_meaning.specs.declared.answer.Break.{Break}
use Rattle.name_meaning.specs.declared.answer.Resolved.{Resolved}
use Rattle.statement_meaning.specs.laws.Sounder.{KeepsSound}
use Rattle.statement_meaning.specs.Asking.{asks}
use Rattle.statement_meaning.specs.Ready.{IsReady}
use Rattle.statement_meaning.specs.declared.refusal.StepRefusal.{StepRefusal}
use Rattle.statement_meaning.specs.declared.refusal.StepRefusal.TheVariants as refusal

-- a statement without these breaks, whose names are looked up: it can be carried out, and keeps the catalog sound
pub record IsResolvedSoundly (breaks : List Break) (c : Contents) (statement : Statement) (made : Resolved) : Type 0 where
  pub whole : breaks ≡ []
  pub is : made ≡ resolved c statement
  pub ready : IsReady c made
  pub sound : KeepsSound (asks c statement.at made)

-- that, or the first of these breaks; want of memory says nothing
abbrev pub ResolvesBy : List Break → Contents → Statement → Result Resolved StepRefusal → Type 0
ResolvesBy breaks c statement (Ok made) = IsResolvedSoundly breaks c statement made
ResolvesBy breaks c statement (Err (refusal.Break b)) = first_or breaks (tt {0}) ≡ Err b
ResolvesBy breaks c statement (Err (refusal.Run fault at)) = ⊥
ResolvesBy breaks c statement (Err (refusal.Missing at)) = ⊥
ResolvesBy breaks c statement (Err (refusal.TooLarge at)) = ⊥
ResolvesBy breaks c statement (Err (refusal.Unfit rule)) = ⊥
ResolvesBy breaks c statement (Err refusal.ReadFault) = ⊥
ResolvesBy breaks c statement (Err refusal.NoMemory) = Unit {0}

abbrev pub Resolves : Contents → Statement → Result Resolved StepRefusal → Type 0
Resolves c statement result = ResolvesBy (breaks c statement) c statement result

-- where there are such breaks, the first of them is the answer
abbrev pub IsDue : {X : Type 0} → List Break → Result X StepRefusal → Type 0
IsDue breaks result = (first : Break) → first_or breaks (tt {0}) ≡ Err first → result ≡ Err (refusal.Break first)
