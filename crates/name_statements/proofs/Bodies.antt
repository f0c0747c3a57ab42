-- The first break of what a statement asks for: of its names and kinds, and then of its limits.
use Rattle.std.specs.Prelude.{◌≡◌, cond, List, [], ◌∷◌, Err}
use Rattle.std.proofs.Common.{ap, sym, subst}
use Rattle.name_seen_parts.specs.Told.{Tells}
use Rattle.name_meaning.specs.Meanings.{is_whole}
use Rattle.name_meaning.specs.declared.answer.Break.{Break}
use Rattle.name_meaning.specs.declared.answer.Resolved.{Resolved}
use Rattle.name_seen_parts.specs.Seen.{first_or}
use Rattle.name_seen_parts.specs.declared.refusal.Refusal.{Refusal}
use Rattle.name_seen_parts.specs.declared.refusal.Refusal.TheVariants.{Break as Broken, NoMemory}
use Rattle.name_statements.specs.Resolves.{Resolves}

-- all breaks: those of names and kinds, or where there are none those of the limits
abbrev pub limited_by : List Break → List Break → List Break
limited_by names limits = cond (is_whole names) limits names

pub names-first : (names limits : List Break) (first : Break) → first_or names (tt {0}) ≡ Err first → first_or (limited_by names limits) (tt {0}) ≡ Err first
names-first [] limits first e = absurd (cc)
names-first (b ∷ bs) limits first e = e

pub limits-behind : (names limits : List Break) → names ≡ [] → limited_by names limits ≡ limits
limits-behind names limits none = ap (λ (bs : List Break). limited_by bs limits) none

-- ---- refusals

pub breaks-first : (breaks : List Break) (wanted : Resolved) (refusal : Refusal) (first : Break) → refusal ≡ Broken first → first_or breaks (tt {0}) ≡ Err first
    → Resolves breaks wanted (Err refusal)
breaks-first breaks wanted refusal first is e = subst (λ (r : Refusal). Resolves breaks wanted (Err r)) (sym is) e

pub no-memory : (breaks : List Break) (wanted : Resolved) (refusal : Refusal) → refusal ≡ NoMemory → Resolves breaks wanted (Err refusal)
no-memory breaks wanted refusal is = subst (λ (r : Refusal). Resolves breaks wanted (Err r)) (sym is) tt

-- what refuses a part refuses the whole
pub refused-so : (part breaks : List Break) (wanted : Resolved) (refusal : Refusal) → Tells (first_or part (tt {0})) (Err refusal)
    → ((first : Break) → first_or part (tt {0}) ≡ Err first → first_or breaks (tt {0}) ≡ Err first) → Resolves breaks wanted (Err refusal)
refused-so part breaks wanted (Broken first) told so = so first told
refused-so part breaks wanted NoMemory told so = tt
