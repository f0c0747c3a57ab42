-- Nodes over what stands for their parts, without an open sublink where the parts have none.
use Rattle.std.proofs.Common.{◌≡◌, ℕ, Bool, List, [], sym, subst}
use Rattle.perm_values.specs.declared.key.Key.{Key}
use Rattle.perm_values.specs.declared.kind.Kind.{Kind}
use Rattle.bag_algebra.specs.built.Openings.{Base-is, Apply-is, Union-is, Intersect-is, Except-is, Distinct-is, Aggregate-is, Limit-is, Prov-is}
use Rattle.bag_algebra.specs.Kinds.{shape}
use Rattle.bag_algebra.specs.declared.expr.Expr.{Expr}
use Rattle.bag_algebra.specs.declared.expr.Item.{Item}
use Rattle.bag_algebra.specs.declared.query.Aggr.{Aggr}
use Rattle.bag_algebra.specs.declared.query.JoinKind.{JoinKind}
use Rattle.bag_algebra.specs.declared.query.Label.{Label}
use Rattle.bag_algebra.specs.declared.query.Query.{Query}
use Rattle.bag_algebra.specs.declared.query.Query.TheVariants.{Table, Single, Base, Filter, Project, Join, Apply, Union, Intersect, Except, Distinct, Aggregate, Limit, Prov}
use Rattle.bag_algebra.specs.declared.query.Sublink.{Sublink}
use Rattle.query_laws.proofs.StandingNodes.{stands-Base, stands-Filter, stands-Project, stands-Join, stands-Apply, stands-Union, stands-Intersect, stands-Except, stands-Distinct, stands-Aggregate, stands-Limit}
use Rattle.query_laws.specs.SameExpressions.{SameAggregates, SameExpr, SameItems}
use Rattle.rewrite_core.proofs.ClosedSublinks.{closed-Filter, closed-Join, closed-Project, parts-Filter, parts-Join, parts-Project}
use Rattle.rewrite_core.proofs.Itself.{stands-Table, stands-Single}
use Rattle.rewrite_core.proofs.Provenance.{stands-Prov}
use Rattle.rewrite_core.proofs.WithoutPlaces.{rewrite-without_places}
use Rattle.rewrite_core.specs.rewritings.OpenSublinks.{NoOpenSublink}
use Rattle.rewrite_driver.specs.KeptClosed.{RewritesClosed, StandsClosed, SubsStandClosed}

pub along : {q n : Query} → q ≡ n → NoOpenSublink q → NoOpenSublink n
along e h = subst (λ (q : Query). NoOpenSublink q) e h

pub kept-Table : (id : ℕ) (kinds : List Kind) → StandsClosed (Table id kinds) (Table id kinds)
kept-Table id kinds = record { stands = stands-Table id kinds; none_open = λ h. h }

pub kept-Single : StandsClosed Single Single
kept-Single = record { stands = stands-Single; none_open = λ h. h }

module _ (q b : Query) (s : StandsClosed q b) where
  pub kept-Base : (places : List ℕ) (label : Label) → StandsClosed (Base q places label) b
  kept-Base places label = record {
    stands = stands-Base q b s.stands places label;
    none_open = λ h. s.none_open (along (Base-is q places label) h);
  }

  pub kept-Filter : (condition test : Expr) → SameExpr condition test → (subs others : List Sublink) → SubsStandClosed subs others →
      StandsClosed (Filter q condition subs) (Filter b test others)
  kept-Filter condition test same subs others t = record {
    stands = stands-Filter q b s.stands condition test same subs others t.stand;
    none_open = λ h. let parts = parts-Filter q condition subs h in closed-Filter b test others (s.none_open parts.0) (t.none_open parts.1);
  }

  pub kept-Project : (items columns : List Item) → SameItems items columns → (subs others : List Sublink) → SubsStandClosed subs others →
      StandsClosed (Project q items subs) (Project b columns others)
  kept-Project items columns same subs others t = record {
    stands = stands-Project q b s.stands items columns same subs others t.stand;
    none_open = λ h. let parts = parts-Project q items subs h in closed-Project b columns others (s.none_open parts.0) (t.none_open parts.1);
  }

  pub kept-Distinct : StandsClosed (Distinct q) (Distinct b)
  kept-Distinct = record {
    stands = stands-Distinct q b s.stands;
    none_open = λ h. along (sym (Distinct-is b)) (s.none_open (along (Distinct-is q) h));
  }

  pub kept-Aggregate : (groups : List ℕ) (aggregates others : List Aggr) → SameAggregates aggregates others →
      StandsClosed (Aggregate q groups aggregates) (Aggregate b groups others)
  kept-Aggregate groups aggregates others same = record {
    stands = stands-Aggregate q b s.stands groups aggregates others same;
    none_open = λ h. along (sym (Aggregate-is b groups others)) (s.none_open (along (Aggregate-is q groups aggregates) h));
  }

  pub kept-Limit : (keys : List Key) (most : ℕ) → StandsClosed (Limit q keys most) (Limit b keys most)
  kept-Limit keys most = record {
    stands = stands-Limit q b s.stands keys most;
    none_open = λ h. along (sym (Limit-is b keys most)) (s.none_open (along (Limit-is q keys most) h));
  }

  -- of a query without places it is a rewriting
  pub kept-without_places : shape q ≡ [] → RewritesClosed q b
  kept-without_places none = record { rewrites = rewrite-without_places q b none s.stands; none_open = s.none_open }

module _ (q b : Query) (s : StandsClosed q b) (r d : Query) (t : StandsClosed r d) where
  pub kept-Join : (kind : JoinKind) (condition test : Expr) → SameExpr condition test → (subs others : List Sublink) → SubsStandClosed subs others →
      StandsClosed (Join kind q r condition subs) (Join kind b d test others)
  kept-Join kind condition test same subs others k = record {
    stands = stands-Join q b s.stands r d t.stands kind condition test same subs others k.stand;
    none_open = λ h.
        let parts = parts-Join kind q r condition subs h in
        closed-Join kind b d test others (s.none_open parts.0) (t.none_open parts.1) (k.none_open parts.2);
  }

  pub kept-Apply : (kind : JoinKind) → StandsClosed (Apply kind q r) (Apply kind b d)
  kept-Apply kind = record {
    stands = stands-Apply q b s.stands r d t.stands kind;
    none_open = λ h. let parts = along (Apply-is kind q r) h in along (sym (Apply-is kind b d)) (s.none_open parts.0, t.none_open parts.1);
  }

  pub kept-Union : (all : Bool) → StandsClosed (Union all q r) (Union all b d)
  kept-Union all = record {
    stands = stands-Union q b s.stands r d t.stands all;
    none_open = λ h. let parts = along (Union-is all q r) h in along (sym (Union-is all b d)) (s.none_open parts.0, t.none_open parts.1);
  }

  pub kept-Intersect : (all : Bool) → StandsClosed (Intersect all q r) (Intersect all b d)
  kept-Intersect all = record {
    stands = stands-Intersect q b s.stands r d t.stands all;
    none_open = λ h. let parts = along (Intersect-is all q r) h in along (sym (Intersect-is all b d)) (s.none_open parts.0, t.none_open parts.1);
  }

  pub kept-Except : (all : Bool) → StandsClosed (Except all q r) (Except all b d)
  kept-Except all = record {
    stands = stands-Except q b s.stands r d t.stands all;
    none_open = λ h. let parts = along (Except-is all q r) h in along (sym (Except-is all b d)) (s.none_open parts.0, t.none_open parts.1);
  }

pub kept-Prov : (q p : Query) → RewritesClosed q p → StandsClosed (Prov q) (Distinct p)
kept-Prov q p r = record {
  stands = stands-Prov q p r.rewrites;
  none_open = λ h. along (sym (Distinct-is p)) (r.none_open (along (Prov-is q) h));
}
