-- What the code answers of sublinks: what is asked of their queries, and the kinds of what stands over them.
use Rattle.std.specs.Prelude.{◌≡◌, ℕ, Bool, true, false, not, cond, List, [], ◌∷◌, Option, Some, None, Result, Ok, Err}
use Rattle.perm_values.specs.declared.kind.Kind.{Kind}
use Rattle.perm_values.specs.declared.kind.Kind.TheVariants as kind
use Rattle.name_meaning.specs.Meanings.{QueryMeant, broken, broken_if, unites}
use Rattle.name_meaning.specs.Sublinks.{is_one_column, first_kind}
use Rattle.name_meaning.specs.laws.Facts.{facts_of, both_facts}
use Rattle.name_seen_parts.specs.Seen.{FirstOr, first_or}
use Rattle.name_seen_parts.specs.declared.refusal.Refusal.{Refusal}
use Rattle.name_seen_parts.specs.declared.refusal.Refusal.TheVariants.{Break as Broken}
use Rattle.name_seen_cores.specs.from.Added.{facts_in}
use Rattle.name_seen_cores.specs.Expressed.{answered}
use Rattle.name_seen_cores.specs.declared.from.facts.Facts.{Facts as Gathered}
use Rattle.name_seen_parts.specs.declared.clauses.column.ShownColumn.{ShownColumn}
use Rattle.name_seen_cores.specs.declared.sublinks.InnerColumns.{InnerColumns}
use Rattle.name_meaning.specs.declared.rule.Rule.TheVariants as rule

abbrev pub kind_of_first : List ShownColumn → Option Kind
kind_of_first [] = None
kind_of_first (column ∷ columns) = column.kind

-- behind the facts so far stand those of a sublink with this query
pub record InnerIs (q : QueryMeant) (old new : Gathered) (inner : InnerColumns) : Type 0 where
  pub whole : q.breaks ≡ []
  pub one : is_one_column q.columns ≡ inner.one
  pub kind : first_kind q ≡ inner.kind
  pub adds : (wanted : List Kind) → facts_in new ≡ both_facts (facts_in old) (facts_of (q.make wanted))

abbrev pub InnerSeen : QueryMeant → Gathered → Gathered → Result InnerColumns Refusal → Type 0
InnerSeen q old new result = FirstOr q.breaks (InnerIs q old new) result

-- it is looked at where a sublink may stand
abbrev pub InnerLooked : Bool → QueryMeant → ℕ → Gathered → Gathered → Result InnerColumns Refusal → Type 0
InnerLooked true q at old new result = InnerSeen q old new result
InnerLooked false q at old new result = result ≡ Err (Broken (broken rule.MisplacedSublink at))

-- ---- what stands over the query

abbrev pub exists_over : Result InnerColumns Refusal → Result (Option Kind) Refusal
exists_over (Ok inner) = Ok (Some kind.Boolean)
exists_over (Err refusal) = Err refusal

abbrev pub scalar_over : ℕ → Result InnerColumns Refusal → Result (Option Kind) Refusal
scalar_over at (Ok inner) = answered (first_or (broken_if (not inner.one) rule.UnfitWidth at) inner.kind)
scalar_over at (Err refusal) = Err refusal

abbrev pub tested_by : Option Kind → ℕ → Result InnerColumns Refusal → Result (Option Kind) Refusal
tested_by tested at (Ok inner) =
    answered (first_or (cond inner.one (broken_if (not (unites tested inner.kind)) rule.UnfitKind at) (broken rule.UnfitWidth at ∷ [])) (Some kind.Boolean))
tested_by tested at (Err refusal) = Err refusal

abbrev pub tested_over : Result (Option Kind) Refusal → ℕ → Result InnerColumns Refusal → Result (Option Kind) Refusal
tested_over (Ok tested) at inner = tested_by tested at inner
tested_over (Err refusal) at inner = Err refusal
