-- How many columns a query and its places have, for what the constructors of code make.
use Rattle.std.proofs.Common.{◌≡◌, ℕ, ◌+◌, List, [], ◌∷◌, ◌++◌, length, refl, sym, ap, ◌∙◌, arith, length-append, append_assoc}
use Rattle.std.proofs.lemmas.List.{length-map}
use Rattle.bag_algebra.specs.built.Openings.{kinds_of-Project, kinds_of-Join, kinds_of-Apply, kinds_of-Aggregate, kinds_of-Prov, shape-Base}
use Rattle.bag_algebra.specs.Children.{inputs_shape, subs_shape}
use Rattle.bag_algebra.specs.Inputs.{inputs_of, sublinks_of}
use Rattle.bag_algebra.specs.Kinds.{kinds_of, kind_in, kinds_in, width_of, shape, place_kinds}
use Rattle.bag_algebra.specs.declared.expr.Expr.{Expr}
use Rattle.bag_algebra.specs.declared.expr.Item.{Item}
use Rattle.bag_algebra.specs.declared.place.Place.{Place}
use Rattle.bag_algebra.specs.declared.query.Aggr.{Aggr}
use Rattle.bag_algebra.specs.declared.query.JoinKind.{JoinKind}
use Rattle.bag_algebra.specs.declared.query.Label.{Label}
use Rattle.bag_algebra.specs.declared.query.Query.{Query}
use Rattle.bag_algebra.specs.declared.query.Query.TheVariants.{Base, Project, Join, Apply, Aggregate, Prov}
use Rattle.bag_algebra.specs.declared.query.Sublink.{Sublink}
use Rattle.bag_algebra.proofs.ByChildren.{shape-node}

-- the columns of all places together
abbrev pub places_width : List Place → ℕ
places_width places = length (place_kinds places)

abbrev pub shape_width : Query → ℕ
shape_width q = places_width (shape q)

pub place_kinds-append : (first more : List Place) → place_kinds (first ++ more) ≡ place_kinds first ++ place_kinds more
place_kinds-append [] more = refl
place_kinds-append (place ∷ first) more = ap (λ kinds. place.kinds ++ kinds) (place_kinds-append first more) ∙ sym (append_assoc place.kinds (place_kinds first) (place_kinds more))

pub places_width-append : (first more : List Place) → places_width (first ++ more) ≡ places_width first + places_width more
places_width-append first more = ap length (place_kinds-append first more) ∙ length-append (place_kinds first) (place_kinds more)

-- ---- the columns of a query

pub width-Project : (input : Query) (items : List Item) (subs : List Sublink) → width_of (Project input items subs) ≡ length items
width-Project input items subs = ap length (kinds_of-Project input items subs) ∙ length-map items (λ (item : Item). item.kind)

pub width-Join : (kind : JoinKind) (left right : Query) (condition : Expr) (subs : List Sublink) →
    width_of (Join kind left right condition subs) ≡ width_of left + width_of right
width-Join kind left right condition subs = ap length (kinds_of-Join kind left right condition subs) ∙ length-append (kinds_of left) (kinds_of right)

pub width-Apply : (kind : JoinKind) (left right : Query) → width_of (Apply kind left right) ≡ width_of left + width_of right
width-Apply kind left right = ap length (kinds_of-Apply kind left right) ∙ length-append (kinds_of left) (kinds_of right)

pub width-Aggregate : (input : Query) (groups : List ℕ) (aggregates : List Aggr) →
    width_of (Aggregate input groups aggregates) ≡ length groups + length aggregates
width-Aggregate input groups aggregates =
    ap length (kinds_of-Aggregate input groups aggregates)
    ∙ length-append (kinds_in (kinds_of input) groups) _
    ∙ (λ i. length-map groups (kind_in (kinds_of input)) i + length-map aggregates (λ (aggregate : Aggr). aggregate.kind) i)

pub width-Prov : (input : Query) → width_of (Prov input) ≡ width_of input + shape_width input
width-Prov input = ap length (kinds_of-Prov input) ∙ length-append (kinds_of input) (place_kinds (shape input))

-- ---- the columns of a query's places

pub shape_width-Base : (input : Query) (places : List ℕ) (label : Label) → shape_width (Base input places label) ≡ length places
shape_width-Base input places label =
    ap places_width (shape-Base input places label)
    ∙ length-append (kinds_in (kinds_of input) places) []
    ∙ omega (arith, length-map places (kind_in (kinds_of input)))

-- what neither is a source nor asks for provenance has those of its children
pub shape_width-node : (query : Query) → ((input : Query) (places : List ℕ) (label : Label) → query ≡ Base input places label → ⊥) → ((input : Query) → query ≡ Prov input → ⊥) →
    shape_width query ≡ places_width (inputs_shape (inputs_of query)) + places_width (subs_shape (sublinks_of query))
shape_width-node query base prov =
    ap places_width (shape-node query base prov) ∙ places_width-append (inputs_shape (inputs_of query)) (subs_shape (sublinks_of query))
