use Rattle.std.proofs.Common.{◌≡◌, ℕ, ◌<◌, arith, List, [], ◌∷◌, length, Result, IfOk, refl}
use Rattle.std.proofs.lemmas.Grind.{common_steps}
use Rattle.perm_values.specs.declared.kind.Kind.{Kind}
use Rattle.perm_values.specs.declared.no_memory.NoMemory.{NoMemory}
use Rattle.bag_algebra.specs.built.Patterns.{ProjectOf}
use Rattle.bag_algebra.specs.declared.query.Query.{Query, end_of-Sublink}
use Rattle.rewrite_core.specs.UnionColumns.{items_behind, padded_behind}
use Rattle.rewrite_core.proofs.unions.padded_at.Goals as goal

padded-none : (query : Query) (first : ℕ) (kinds : List Kind) → length kinds ≡ 0 → query ≡ padded_behind query first kinds
padded-none query first [] e = refl
padded-none query first (kind ∷ kinds) e = absurd (omega arith)

padded-some : (query : Query) (first : ℕ) (kinds : List Kind) (result : Result Query NoMemory) → 0 < length kinds →
    IfOk result (λ p. p ≡ ProjectOf query (items_behind query first kinds) [] end_of-Sublink) → IfOk result (λ p. p ≡ padded_behind query first kinds)
padded-some query first [] result some made = absurd (omega arith)
padded-some query first (kind ∷ kinds) result some made = made

pub returns-then-is_empty : goal.returns-then-is_empty
returns-then-is_empty c =
    padded-none c.args.query c.args.first c.args.added.now (grind (arith, common_steps, c.is_empty.ensures, c.if-is_empty.true))

pub returns : goal.returns
returns c =
    padded-some c.args.query c.args.first c.args.added.now c.widened.result (grind (arith, common_steps, c.is_empty.ensures, c.if-is_empty.false))
    c.widened.ensures
