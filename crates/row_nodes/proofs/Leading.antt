-- What leads among the filters of a query, from one depth to the next.
use Rattle.std.proofs.Common.{◌≡◌, ℕ, suc, ◌+◌, ◌-◌, ◌<◌, ◌≤◌, ◌^◌, nat_lt, Bool, true, false, cond, List, [], Option, Some, None, IfNone, refl, sym, ap, ◌∙◌, arith, below_more}
use Rattle.std.proofs.lemmas.Bool.Decides.{nat_tests}
use Rattle.bag_algebra.specs.FaultFree.{faultless}
use Rattle.bag_algebra.specs.declared.expr.Expr.{Expr}
use Rattle.bag_algebra.specs.declared.query.Query.{Query}
use Rattle.bag_algebra.specs.declared.query.Query.TheVariants.{Filter}
use Rattle.bag_algebra.specs.declared.query.Sublink.{Sublink}
use Rattle.query_facts.specs.reached.Reach.{reach_of}
use Rattle.row_nodes.specs.Keeping.{kept_reach, keyed_at, Keeps, RowsLead, InputLeads, Leads, IsKept, KeptOf, IsBelow, better}
use Rattle.row_nodes.specs.declared.keeping.Keeping.{Keeping}
use Rattle.row_nodes.specs.declared.keeping.Keeping.TheVariants as of
use Rattle.row_nodes.proofs.Kept.{keys, filter_top, filter_below, filter_of}

same_reach : (n m : ℕ) → ◌≡◌ {A = Option ℕ} (Some n) (Some m) → n ≤ m
same_reach n m e = let k : n ≡ m = cc in omega arith

apart : (d depth n m : ℕ) (b : Bool) → nat_lt d depth ≡ b → (d < depth → n ≤ m) → (depth ≤ d → n ≤ m) → n ≤ m
apart d depth n m true e low high = low (grind (arith, nat_tests))
apart d depth n m false e low high = high (grind (arith, nat_tests))

module _ (top : Query) where
  -- what is true of all reaches above a depth, and at it, is true above the next
  more : (depth n : ℕ) → ((d m : ℕ) → d < depth → keyed_at top d ≡ Some m → n ≤ m) → ((m : ℕ) → keyed_at top depth ≡ Some m → n ≤ m) →
      (d m : ℕ) → d < depth + 1 → keyed_at top d ≡ Some m → n ≤ m
  more depth n above here d m low e = below_more (λ k. (m : ℕ) → keyed_at top k ≡ Some m → n ≤ m) depth (λ k l m e. above k m l e) here d low m e

  -- a filter at the depth that reads more or less
  rows_more : (depth n m : ℕ) (b : Bool) → RowsLead top depth n → keyed_at top depth ≡ Some m → nat_lt m n ≡ b →
      Leads top (depth + 1) (cond b (of.Input m depth) (of.Rows n))
  rows_more depth n m true h e l =
      let fewer : m < n = grind (arith, nat_tests) in
      record {
        filter_is = e;
        fewer = omega (arith, h.reach_is);
        least = more depth m (λ d k low f. let w = h.least d k low f in omega arith) (λ k f. same_reach m k (sym e ∙ f));
        topmost = λ d k low f. let w = h.least d k low f in omega arith;
      }
  rows_more depth n m false h e l =
      let other : n ≤ m = grind (arith, nat_tests) in
      record { reach_is = h.reach_is; least = more depth n h.least (λ k f. let w = same_reach m k (sym e ∙ f) in omega arith) }

  input_more : (depth n at m : ℕ) (b : Bool) → InputLeads top depth n at → keyed_at top depth ≡ Some m → nat_lt m n ≡ b →
      Leads top (depth + 1) (cond b (of.Input m depth) (of.Input n at))
  input_more depth n at m true h e l =
      let fewer : m < n = grind (arith, nat_tests) in
      record {
        filter_is = e;
        fewer = omega (arith, h.fewer);
        least = more depth m (λ d k low f. let w = h.least d k low f in omega arith) (λ k f. same_reach m k (sym e ∙ f));
        topmost = λ d k low f. let w = h.least d k low f in omega arith;
      }
  input_more depth n at m false h e l =
      let other : n ≤ m = grind (arith, nat_tests) in
      record {
        filter_is = h.filter_is;
        fewer = h.fewer;
        least = more depth n h.least (λ k f. let w = same_reach m k (sym e ∙ f) in omega arith);
        topmost = h.topmost;
      }

  pub found_more : (depth m : ℕ) (best : Keeping) → Leads top depth best → keyed_at top depth ≡ Some m → Leads top (depth + 1) (better best depth (Some m))
  found_more depth m of.Nothing h e = absurd h
  found_more depth m (of.Rows n) h e = rows_more depth n m (nat_lt m n) h e refl
  found_more depth m (of.Input n at) h e = input_more depth n at m (nat_lt m n) h e refl

  -- no filter at the depth, or one that reads no less
  pub none_more : (depth : ℕ) (best : Keeping) → Leads top depth best → ((m : ℕ) → keyed_at top depth ≡ Some m → kept_reach best ≤ m) → Leads top (depth + 1) best
  none_more depth of.Nothing h here = absurd h
  none_more depth (of.Rows n) h here = record { reach_is = h.reach_is; least = more depth n h.least here }
  none_more depth (of.Input n at) h here = record { filter_is = h.filter_is; fewer = h.fewer; least = more depth n h.least here; topmost = h.topmost }

  -- none further down reads less
  pub all_lead : (depth below : ℕ) (best : Keeping) → Leads top depth best → ((d m : ℕ) → depth ≤ d → keyed_at top d ≡ Some m → kept_reach best ≤ m) → Leads top below best
  all_lead depth below of.Nothing h further = absurd h
  all_lead depth below (of.Rows n) h further = record {
    reach_is = h.reach_is;
    least = λ d m low e. apart d depth n m (nat_lt d depth) refl (λ l. h.least d m l e) (λ l. further d m l e);
  }
  all_lead depth below (of.Input n at) h further = record {
    filter_is = h.filter_is;
    fewer = h.fewer;
    least = λ d m low e. apart d depth n m (nat_lt d depth) refl (λ l. h.least d m l e) (λ l. further d m l e);
    topmost = h.topmost;
  }

-- ---- from a query to the one below it

module _ (top query : Query) (depth : ℕ) (below : IsBelow top depth query) (best : Keeping) (leads : Leads top depth best) where
  here : keyed_at top depth ≡ keyed_at query 0
  here = ap (keyed_at top) (let e : depth ≡ depth + 0 = omega arith in e) ∙ below 0

  -- what reads nothing leads
  pub nothing_leads : kept_reach best ≡ 0 → Leads top (2 ^ 64) best
  nothing_leads e = all_lead top depth (2 ^ 64) best leads (λ d m low f. omega arith)

  -- below a query that is no Filter, no Project and no Aggregate there is none
  pub leaf_leads : ((d : ℕ) → keyed_at query d ≡ None) → Leads top (2 ^ 64) best
  leaf_leads none = all_lead top depth (2 ^ 64) best leads (λ d m low f. absurd (no_such d m low f))
    where
      no_such : (d m : ℕ) → depth ≤ d → keyed_at top d ≡ Some m → ⊥
      no_such d m low f =
          let e : d ≡ depth + (d - depth) = omega arith in
          let g : None ≡ Some m = sym (none (d - depth)) ∙ sym (below (d - depth)) ∙ ap (keyed_at top) (sym e) ∙ f in
          cc

  module _ (input : Query) (condition : Expr) (subs : List Sublink) (is : query ≡ Filter input condition subs) where
    pub below_filter : IsBelow top (depth + 1) input
    below_filter d =
        let e : (depth + 1) + d ≡ depth + suc d = omega arith in
        ap (keyed_at top) e ∙ below (suc d) ∙ filter_below query input condition subs is d

    pub filter_leads : (reach : Option ℕ) → kept_reach best < 2 ^ 64 → ((n : ℕ) → reach ≡ Some n → (faultless condition ≡ true) × (subs ≡ []) × (n ≡ reach_of input)) →
        IfNone reach (faultless condition ≡ true → subs ≡ [] → 2 ^ 64 ≤ reach_of input) → Leads top (depth + 1) (better best depth reach)
    filter_leads None fits some none =
        none_more top depth best leads
        (λ m e. let f = filter_of query input condition subs is m (sym here ∙ e) in let w = none f.0 f.1 in omega (arith, f.2))
    filter_leads (Some n) fits some none =
        let f = some n refl in
        found_more top depth n best leads
        (here ∙ filter_top query input condition subs is ∙ (λ i. cond (keys condition (f.1 i)) (Some (reach_of input)) None)
        ∙ (λ i. cond (f.0 i) (Some (sym f.2 i)) None))

  -- over one that no filter is
  module _ (input : Query) (no_filter : keyed_at query 0 ≡ None) (deeper : (d : ℕ) → keyed_at query (suc d) ≡ keyed_at input d) where
    pub below_over : IsBelow top (depth + 1) input
    below_over d =
        let e : (depth + 1) + d ≡ depth + suc d = omega arith in
        ap (keyed_at top) e ∙ below (suc d) ∙ deeper d

    pub over_leads : Leads top (depth + 1) best
    over_leads = none_more top depth best leads (λ m e. let f : None ≡ Some m = sym no_filter ∙ sym here ∙ e in absurd (cc f))

-- ---- what leads among all is kept

pub lead_kept : (q : Query) (keeping : Keeping) → Leads q (2 ^ 64) keeping → IsKept q keeping
lead_kept q of.Nothing h = absurd h
lead_kept q (of.Rows n) h = h
lead_kept q (of.Input n depth) h = h

pub whole_leads : (q : Query) (n : ℕ) → n ≡ reach_of q → Leads q 0 (of.Rows n)
whole_leads q n e = record { reach_is = e; least = λ d m low f. absurd (omega arith) }

pub below_itself : (q : Query) → IsBelow q 0 q
below_itself q d = ap (keyed_at q) (let e : 0 + d ≡ d = omega arith in e)

-- what is kept may be
pub kept_keeps : (is_hashed : Bool) (q : Query) (keeping : Keeping) → KeptOf is_hashed q keeping → Keeps q keeping
kept_keeps is_hashed q of.Nothing h = tt
kept_keeps true q (of.Rows n) h = h.reach_is
kept_keeps true q (of.Input n depth) h = h.filter_is
kept_keeps false q (of.Rows n) h = absurd (cc h)
kept_keeps false q (of.Input n depth) h = absurd (cc h)
