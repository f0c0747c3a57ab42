-- Nodes have no open sublink where their parts have none and their own sublinks are closed; what has none has parts without one. Of a well
-- formed query that is read off the columns.
use Rattle.std.proofs.Common.{◌≡◌, true, List, [], ◌∷◌, ◌++◌, All, refl, sym, subst}
use Rattle.std.proofs.lemmas.List.Elements.{All-nil, All-cons, All-head, All-tail}
use Rattle.perm_values.specs.declared.kind.Kind.{Kind}
use Rattle.bag_algebra.proofs.Closing.{query_within, query_inside}
use Rattle.bag_algebra.specs.Closed.{is_closed}
use Rattle.bag_algebra.specs.Kinds.{kinds_of}
use Rattle.bag_algebra.specs.WellFormed.{WellFormed, SubsForm}
use Rattle.bag_algebra.specs.built.Openings.{row_of_subs, Filter-is, Project_with-is, Join-is}
use Rattle.bag_algebra.specs.built.Patterns.{BaseOf, FilterOf, ProjectOf, JoinOf, ApplyOf, UnionOf, IntersectOf, ExceptOf, DistinctOf, AggregateOf, LimitOf, ProvOf}
use Rattle.bag_algebra.specs.declared.expr.Expr.{Expr}
use Rattle.bag_algebra.specs.declared.expr.Item.{Item}
use Rattle.bag_algebra.specs.declared.query.JoinKind.{JoinKind}
use Rattle.bag_algebra.specs.declared.query.Query.{Query, Row_of-Sublink, more_of-Sublink, end_of-Sublink}
use Rattle.bag_algebra.specs.declared.query.Query.TheBlock.{shape-the_row-Sublink-1, hidden-the_row-Sublink-1}
use Rattle.bag_algebra.specs.declared.query.Query.TheVariants.{Table, Single, Filter, Project, Join}
use Rattle.bag_algebra.specs.declared.query.Sublink.{Sublink}
use Rattle.rewrite_core.specs.rewritings.OpenSublinks.{EachOfSubs, IsClosedSublink, NoOpenSublink, NoSublinkReadsOut}

-- ---- what the constructors of code make

rows-closed : (subs : List Sublink) → All IsClosedSublink subs → EachOfSubs (WellFormed []) (row_of_subs subs)
unfolding shape-the_row-Sublink-1 hidden-the_row-Sublink-1 package.denote.Hole.Carrier.hidden
rows-closed [] h = tt
rows-closed (sub ∷ subs) h =
    let first = All-head IsClosedSublink sub subs h in
    (first.closed, first.inside, rows-closed subs (All-tail IsClosedSublink sub subs h))

closed-rows : (subs : List Sublink) → EachOfSubs (WellFormed []) (row_of_subs subs) → All IsClosedSublink subs
unfolding shape-the_row-Sublink-1 hidden-the_row-Sublink-1 package.denote.Hole.Carrier.hidden
closed-rows [] h = All-nil IsClosedSublink
closed-rows (sub ∷ subs) h = All-cons IsClosedSublink sub subs (record { closed = h.0; inside = h.1 }) (closed-rows subs h.2)

pub closed-Filter : (input : Query) (condition : Expr) (subs : List Sublink) → NoOpenSublink input → All IsClosedSublink subs →
    NoOpenSublink (Filter input condition subs)
closed-Filter input condition subs h k = subst (λ q. NoOpenSublink q) (sym (Filter-is input condition subs)) (h, rows-closed subs k)

pub parts-Filter : (input : Query) (condition : Expr) (subs : List Sublink) → NoOpenSublink (Filter input condition subs) →
    NoOpenSublink input × All IsClosedSublink subs
parts-Filter input condition subs h =
    let opened = subst (λ (q : Query). NoOpenSublink q) (Filter-is input condition subs) h in
    (opened.0, closed-rows subs opened.1)

pub closed-Project : (input : Query) (items : List Item) (subs : List Sublink) → NoOpenSublink input → All IsClosedSublink subs →
    NoOpenSublink (Project input items subs)
closed-Project input items subs h k = subst (λ q. NoOpenSublink q) (sym (Project_with-is input items subs)) (h, rows-closed subs k)

pub parts-Project : (input : Query) (items : List Item) (subs : List Sublink) → NoOpenSublink (Project input items subs) →
    NoOpenSublink input × All IsClosedSublink subs
parts-Project input items subs h =
    let opened = subst (λ (q : Query). NoOpenSublink q) (Project_with-is input items subs) h in
    (opened.0, closed-rows subs opened.1)

pub closed-Join : (kind : JoinKind) (left right : Query) (condition : Expr) (subs : List Sublink) → NoOpenSublink left → NoOpenSublink right →
    All IsClosedSublink subs → NoOpenSublink (Join kind left right condition subs)
closed-Join kind left right condition subs h g k =
    subst (λ q. NoOpenSublink q) (sym (Join-is kind left right condition subs)) (h, g, rows-closed subs k)

pub parts-Join : (kind : JoinKind) (left right : Query) (condition : Expr) (subs : List Sublink) → NoOpenSublink (Join kind left right condition subs) →
    NoOpenSublink left × NoOpenSublink right × All IsClosedSublink subs
parts-Join kind left right condition subs h =
    let opened = subst (λ (q : Query). NoOpenSublink q) (Join-is kind left right condition subs) h in
    (opened.0, opened.1, closed-rows subs opened.2)

-- ---- what a well formed query reads

mutual
  pub reading-from_closed : (q : Query) → NoOpenSublink q → NoSublinkReadsOut q
  reading-from_closed (Table id kinds) h = tt
  reading-from_closed Single h = tt
  reading-from_closed (BaseOf input places label) h = reading-from_closed input h
  reading-from_closed (FilterOf input condition _ subs) h = (reading-from_closed input h.0, subs_reading-from_closed subs h.1)
  reading-from_closed (ProjectOf input items _ subs) h = (reading-from_closed input h.0, subs_reading-from_closed subs h.1)
  reading-from_closed (JoinOf kind left right condition _ subs) h =
      (reading-from_closed left h.0, reading-from_closed right h.1, subs_reading-from_closed subs h.2)
  reading-from_closed (ApplyOf kind left right) h = (reading-from_closed left h.0, reading-from_closed right h.1)
  reading-from_closed (UnionOf all left right) h = (reading-from_closed left h.0, reading-from_closed right h.1)
  reading-from_closed (IntersectOf all left right) h = (reading-from_closed left h.0, reading-from_closed right h.1)
  reading-from_closed (ExceptOf all left right) h = (reading-from_closed left h.0, reading-from_closed right h.1)
  reading-from_closed (DistinctOf input) h = reading-from_closed input h
  reading-from_closed (AggregateOf input groups aggregates) h = reading-from_closed input h
  reading-from_closed (LimitOf input keys count) h = reading-from_closed input h
  reading-from_closed (ProvOf input) h = reading-from_closed input h

  subs_reading-from_closed : {m : _} (subs : Row_of-Sublink m) → EachOfSubs (WellFormed []) subs →
      EachOfSubs (λ (inner : Query). is_closed inner ≡ true) subs
  subs_reading-from_closed end_of-Sublink h = tt
  subs_reading-from_closed (more_of-Sublink kind tested query subs) h =
      (query_within [] query 0 refl h.0, reading-from_closed query h.1, subs_reading-from_closed subs h.2)

mutual
  pub closed-from_reading : (outer : List (List Kind)) (q : Query) → WellFormed outer q → NoSublinkReadsOut q → NoOpenSublink q
  closed-from_reading outer (Table id kinds) f h = tt
  closed-from_reading outer Single f h = tt
  closed-from_reading outer (BaseOf input places label) f h = closed-from_reading outer input f.input h
  closed-from_reading outer (FilterOf input condition _ subs) f h =
      (closed-from_reading outer input f.input h.0, subs_closed-from_reading (kinds_of input ∷ outer) subs f.subs h.1)
  closed-from_reading outer (ProjectOf input items _ subs) f h =
      (closed-from_reading outer input f.input h.0, subs_closed-from_reading (kinds_of input ∷ outer) subs f.subs h.1)
  closed-from_reading outer (JoinOf kind left right condition _ subs) f h = (
    closed-from_reading outer left f.left h.0,
    closed-from_reading outer right f.right h.1,
    subs_closed-from_reading ((kinds_of left ++ kinds_of right) ∷ outer) subs f.subs h.2,
  )
  closed-from_reading outer (ApplyOf kind left right) f h =
      (closed-from_reading outer left f.left h.0, closed-from_reading (kinds_of left ∷ outer) right f.right h.1)
  closed-from_reading outer (UnionOf all left right) f h =
      (closed-from_reading outer left f.left_side h.0, closed-from_reading outer right f.right_side h.1)
  closed-from_reading outer (IntersectOf all left right) f h =
      (closed-from_reading outer left f.left_side h.0, closed-from_reading outer right f.right_side h.1)
  closed-from_reading outer (ExceptOf all left right) f h =
      (closed-from_reading outer left f.left_side h.0, closed-from_reading outer right f.right_side h.1)
  closed-from_reading outer (DistinctOf input) f h = closed-from_reading outer input f h
  closed-from_reading outer (AggregateOf input groups aggregates) f h = closed-from_reading outer input f.input h
  closed-from_reading outer (LimitOf input keys count) f h = closed-from_reading outer input f.input h
  closed-from_reading outer (ProvOf input) f h = closed-from_reading outer input f h

  subs_closed-from_reading : (scopes : List (List Kind)) {m : _} (subs : Row_of-Sublink m) → SubsForm scopes subs →
      EachOfSubs (λ (inner : Query). is_closed inner ≡ true) subs → EachOfSubs (WellFormed []) subs
  subs_closed-from_reading scopes end_of-Sublink f h = tt
  subs_closed-from_reading scopes (more_of-Sublink kind tested query subs) f h = (
    query_inside scopes [] query 0 refl h.0 f.query,
    closed-from_reading scopes query f.query h.1,
    subs_closed-from_reading scopes subs f.others h.2,
  )
