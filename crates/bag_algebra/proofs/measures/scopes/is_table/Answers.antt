use Rattle.std.proofs.Common.{◌≡◌, ℕ, List, false, refl, sym}
use Rattle.perm_values.specs.declared.kind.Kind.{Kind}
use Rattle.bag_algebra.specs.built.Patterns.{BaseOf, FilterOf, ProjectOf, JoinOf, ApplyOf, UnionOf, IntersectOf, ExceptOf, DistinctOf, AggregateOf, LimitOf, ProvOf}
use Rattle.bag_algebra.specs.Scoped.{is_table}
use Rattle.bag_algebra.specs.declared.query.Query.{Query}
use Rattle.bag_algebra.specs.declared.query.Query.TheVariants.{Table, Single}
use Rattle.bag_algebra.proofs.measures.scopes.is_table.Goals as goal

no_table : (q : Query) → ((id : ℕ) (kinds : List Kind) → q ≡ Table id kinds → ⊥) → is_table q ≡ false
no_table (Table id kinds) other = absurd (other id kinds refl)
no_table Single other = refl
no_table (BaseOf input places label) other = refl
no_table (FilterOf input condition _ subs) other = refl
no_table (ProjectOf input items _ subs) other = refl
no_table (JoinOf kind left right condition _ subs) other = refl
no_table (ApplyOf kind left right) other = refl
no_table (UnionOf all left right) other = refl
no_table (IntersectOf all left right) other = refl
no_table (ExceptOf all left right) other = refl
no_table (DistinctOf input) other = refl
no_table (AggregateOf input groups aggregates) other = refl
no_table (LimitOf input keys count) other = refl
no_table (ProvOf input) other = refl

pub returns-in_default : goal.returns-in_default
returns-in_default c = sym (no_table c.args.query.now c.in_default.not-Table)
