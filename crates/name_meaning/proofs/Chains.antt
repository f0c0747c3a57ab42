-- A chain of set operations, all of whose operands are made at the kinds of the whole.
use Rattle.std.specs.Prelude.{◌≡◌, List, [], ◌∷◌, ◌++◌, length, slice_index_or, Option, Some, None}
use Rattle.std.proofs.Common.{refl, ap, sym, ◌∙◌}
use Rattle.bag_algebra.specs.declared.query.Query.{Query}
use Rattle.perm_values.specs.declared.kind.Kind.{Kind}
use Rattle.perm_values.specs.declared.kind.Kind.TheVariants as kind
use Rattle.perm_values.proofs.Lists.{front-none, back-none}
use Rattle.name_meaning.specs.Cores.{settle, settle_known}
use Rattle.name_meaning.specs.Meanings.{Around, OutColumn, QueryMeant, settled, united_kind}
use Rattle.name_meaning.specs.Queries.{SetStepPart, columns_so_far, operand_breaks, set_chain, set_joined, set_of, united_columns, may_not_ask}
use Rattle.name_meaning.specs.nodes.Chained.{Serves}
use Rattle.name_meaning.specs.nodes.Makes.{MakesQuery}

settled-first : (left right : Option Kind) (k : Kind) → settled (united_kind left right) k ≡ k → settled left k ≡ k
settled-first None right k e = refl
settled-first (Some kind) right k e = e

-- kinds that serve united columns serve the first of them
pub settle-first : (left right : List OutColumn) (kinds : List Kind) → settle (united_columns left right) kinds ≡ kinds → settle left kinds ≡ kinds
settle-first [] right kinds e = e
settle-first (l ∷ left) [] kinds e = e
settle-first (l ∷ left) (r ∷ right) [] e = absurd (cc)
settle-first (l ∷ left) (r ∷ right) (k ∷ kinds) e =
    let this : settled (united_kind l.kind r.kind) k ≡ k = cc in
    let rest : settle (united_columns left right) kinds ≡ kinds = cc in
    ap (λ (k : Kind). k ∷ settle left kinds) (settled-first l.kind r.kind k this) ∙ ap (λ (ks : List Kind). k ∷ ks) (settle-first left right kinds rest)

-- the columns of what is joined further are known only where its own are, and its kinds serve them
pub known-first : (left right : Option (List OutColumn)) (kinds : List Kind) (columns : List OutColumn)
    → columns_so_far left right ≡ Some columns → settle_known (columns_so_far left right) kinds ≡ kinds → settle_known left kinds ≡ kinds
known-first None right kinds columns known e = absurd (cc)
known-first (Some left) None kinds columns known e = e
known-first (Some left) (Some right) kinds columns known e = settle-first left right kinds e

first-known : (left right : Option (List OutColumn)) (columns : List OutColumn) → columns_so_far left right ≡ Some columns
    → (known : List OutColumn) × (left ≡ Some known)
first-known None right columns known = absurd (cc)
first-known (Some left) right columns known = (left, refl)

serves-first : (left : QueryMeant) (step : SetStepPart) (right : QueryMeant) (kinds : List Kind) → Serves (set_joined left step right) kinds → Serves left kinds
serves-first left step right kinds s =
    let known = first-known left.columns right.columns s.columns s.known in
    record {
      whole = front-none left.breaks right.breaks (front-none (left.breaks ++ right.breaks) (operand_breaks step.at left.columns right.columns) s.whole);
      columns = known.0;
      known = known.1;
      serves = known-first left.columns right.columns kinds s.columns s.known s.serves;
    }

pub serves-so-far : (around : Around) (left : QueryMeant) (steps : List SetStepPart) (kinds : List Kind) → Serves (set_chain around left steps) kinds → Serves left kinds
serves-so-far around left [] kinds s = s
serves-so-far around left (step ∷ steps) kinds s =
    let right = step.operand.means (may_not_ask around) in
    serves-first left step right kinds (serves-so-far around (set_joined left step right) steps kinds s)

pub right-whole : (left : QueryMeant) (step : SetStepPart) (right : QueryMeant) (kinds : List Kind) → Serves (set_joined left step right) kinds → right.breaks ≡ []
right-whole left step right kinds s =
    back-none left.breaks right.breaks (front-none (left.breaks ++ right.breaks) (operand_breaks step.at left.columns right.columns) s.whole)

-- one more operand at the same kinds
pub joined-made : (left : QueryMeant) (step : SetStepPart) (right : QueryMeant) (kinds : List Kind) (a b : Query)
    → Serves (set_joined left step right) kinds → MakesQuery left kinds a → MakesQuery right kinds b
    → set_of step.word step.all a b ≡ (set_joined left step right).make kinds
joined-made left step right kinds a b s of_left of_right =
    let first = of_left.makes (serves-first left step right kinds s).whole in
    let second = of_right.makes (right-whole left step right kinds s) in
    ap (λ (a : Query). set_of step.word step.all a b) first
    ∙ ap (λ (b : Query). set_of step.word step.all (left.make kinds) b) second
    ∙ ap (λ (ks : List Kind). set_of step.word step.all (left.make ks) (right.make ks)) (sym s.serves)

pub chain-append : (around : Around) (left : QueryMeant) (steps more : List SetStepPart)
    → set_chain around left (steps ++ more) ≡ set_chain around (set_chain around left steps) more
chain-append around left [] more = refl
chain-append around left (step ∷ steps) more = chain-append around (set_joined left step (step.operand.means (may_not_ask around))) steps more

-- ---- kinds, one after the other

pub settle-more : (columns : List OutColumn) (column : OutColumn) (wanted : List Kind)
    → settle (columns ++ column ∷ []) wanted ≡ settle columns wanted ++ settled column.kind (slice_index_or wanted (length columns) kind.Text) ∷ []
settle-more [] column [] = refl
settle-more [] column (k ∷ ks) = refl
settle-more (c ∷ columns) column [] =
    ap (λ (ks : List Kind). settled c.kind kind.Text ∷ ks) (settle-more columns column [])
settle-more (c ∷ columns) column (k ∷ ks) = ap (λ (kinds : List Kind). settled c.kind k ∷ kinds) (settle-more columns column ks)
