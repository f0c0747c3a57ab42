-- The first query that has too many columns.
use Rattle.std.specs.Prelude.{◌≡◌, ℕ, ◌+◌, ◌<◌, Bool, true, false, cond, List, [], ◌∷◌, length, nat_lt, find, Option, Some, Err}
use Rattle.std.proofs.Common.{ap, ◌∙◌, drop, get_or}
use Rattle.std.specs.Option.{option_map_or}
use Rattle.perm_values.proofs.Lists.{dropped}
use Rattle.name_meaning.specs.Meanings.{broken}
use Rattle.name_meaning.specs.Statements.{most_query_columns, width_limit}
use Rattle.name_meaning.specs.declared.answer.Break.{Break}
use Rattle.name_seen_parts.specs.Seen.{first_or}
use Rattle.name_inside.specs.Held.{is_wide}
use Rattle.name_meaning.specs.declared.rule.Rule.TheVariants as rule

limit-of : Option (ℕ × ℕ) → List Break
limit-of query = option_map_or (λ (query : ℕ × ℕ). broken rule.TooManyColumns query.0 ∷ []) query []

-- the first decides, or the others do
first-decides : (b : Bool) (query : ℕ × ℕ) (queries : List (ℕ × ℕ)) → is_wide query.1 ≡ b
    → width_limit (query ∷ queries) ≡ limit-of (cond b (Some query) (find (λ (q : ℕ × ℕ). nat_lt most_query_columns q.1) queries))
unfolding limit-of
first-decides b query queries e =
    ap (λ (b : Bool). limit-of (cond b (Some query) (find (λ (q : ℕ × ℕ). nat_lt most_query_columns q.1) queries))) e

pub narrow-first : (query : ℕ × ℕ) (queries : List (ℕ × ℕ)) → is_wide query.1 ≡ false → width_limit (query ∷ queries) ≡ width_limit queries
unfolding limit-of
narrow-first = first-decides false

pub wide-first : (query : ℕ × ℕ) (queries : List (ℕ × ℕ)) → is_wide query.1 ≡ true → width_limit (query ∷ queries) ≡ broken rule.TooManyColumns query.0 ∷ []
unfolding limit-of
wide-first = first-decides true

pub narrow-step : (queries : List (ℕ × ℕ)) (i : ℕ) (query : ℕ × ℕ) → i < length queries → query ≡ get_or queries i query → is_wide query.1 ≡ false
    → width_limit (drop i queries) ≡ width_limit (drop (i + 1) queries)
narrow-step queries i query within e narrow =
    ap width_limit (dropped queries i query within e) ∙ narrow-first query (drop (i + 1) queries) narrow

pub wide-step : (queries : List (ℕ × ℕ)) (i : ℕ) (query : ℕ × ℕ) → i < length queries → query ≡ get_or queries i query → is_wide query.1 ≡ true
    → first_or (width_limit (drop i queries)) (tt {0}) ≡ Err (broken rule.TooManyColumns query.0)
wide-step queries i query within e wide =
    ap (λ (breaks : List Break). first_or breaks (tt {0})) (ap width_limit (dropped queries i query within e) ∙ wide-first query (drop (i + 1) queries) wide)
