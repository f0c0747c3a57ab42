-- Whether a query reads a table, and with which kinds.
use Rattle.std.proofs.Common.{◌≡◌, ◌≢◌, ℕ, inl, Bool, true, false, cond, ◌==◌, ◌&&◌, List, ◌++◌, Option, Some, None, Contains, refl, sym, ap, ◌∙◌, subst}
use mathlib.Core.Bool.{true≢false}
use Rattle.std.proofs.lemmas.Bool.{eqb-true, eq-eqb}
use Rattle.perm_values.specs.declared.kind.Kind.{Kind}
use Rattle.bag_algebra.proofs.Members.{IsIn, in-append_left, in-append_right}
use Rattle.bag_algebra.proofs.MembersByIndex.{contains-from_in}
use Rattle.bag_algebra.proofs.TablesRead.{each_table-told}
use Rattle.bag_algebra.proofs.Truths.{left-true, right-true}
use Rattle.bag_algebra.specs.Inputs.{inputs_of}
use Rattle.bag_algebra.specs.Scoped.{no_subs}
use Rattle.bag_algebra.specs.TablesRead.{TableRead, tables_read, sub_tables_read, EachSubTable}
use Rattle.bag_algebra.specs.built.Patterns.{BaseOf, FilterOf, ProjectOf, JoinOf, ApplyOf, UnionOf, IntersectOf, ExceptOf, DistinctOf, AggregateOf, LimitOf, ProvOf}
use Rattle.bag_algebra.specs.declared.query.JoinKind.TheVariants.{Inner, Left, Right, Full}
use Rattle.bag_algebra.specs.declared.query.Query.{Query, Row_of-Sublink, more_of-Sublink, end_of-Sublink}
use Rattle.bag_algebra.specs.declared.query.Query.TheVariants.{Table, Single}
use Rattle.query_facts.specs.monotone.Monotone.{is_monotone, is_relation, is_whole_table}
use Rattle.query_facts.proofs.Nodes.{whole_table-is}
use Rattle.delete_impact.specs.reduced.Reads.{Unread, IsRead, first_there, first_kinds, first_of}

then_none : (found : Option (List Kind)) → found ≡ first_there found None
then_none None = refl
then_none (Some kinds) = refl

module _ (id : ℕ) where
  -- of what is no table the inputs say it
  pub first_kinds-node : (q : Query) → ((other : ℕ) (kinds : List Kind) → q ≡ Table other kinds → ⊥) → first_kinds id q ≡ first_of id (inputs_of q)
  first_kinds-node (Table other kinds) other_than = absurd (other_than other kinds refl)
  first_kinds-node Single other_than = refl
  first_kinds-node (BaseOf input places label) other_than = then_none (first_kinds id input)
  first_kinds-node (FilterOf input condition _ subs) other_than = then_none (first_kinds id input)
  first_kinds-node (ProjectOf input items _ subs) other_than = then_none (first_kinds id input)
  first_kinds-node (JoinOf kind left right condition _ subs) other_than = ap (first_there (first_kinds id left)) (then_none (first_kinds id right))
  first_kinds-node (ApplyOf kind left right) other_than = ap (first_there (first_kinds id left)) (then_none (first_kinds id right))
  first_kinds-node (UnionOf all left right) other_than = ap (first_there (first_kinds id left)) (then_none (first_kinds id right))
  first_kinds-node (IntersectOf all left right) other_than = ap (first_there (first_kinds id left)) (then_none (first_kinds id right))
  first_kinds-node (ExceptOf all left right) other_than = ap (first_there (first_kinds id left)) (then_none (first_kinds id right))
  first_kinds-node (DistinctOf input) other_than = then_none (first_kinds id input)
  first_kinds-node (AggregateOf input groups aggregates) other_than = then_none (first_kinds id input)
  first_kinds-node (LimitOf input keys count) other_than = then_none (first_kinds id input)
  first_kinds-node (ProvOf input) other_than = then_none (first_kinds id input)

  -- ---- where one is found

  module _ (kinds : List Kind) where
    abbrev wanted : TableRead
    wanted = record { id = id; kinds = kinds }

    same_some : (k l : List Kind) → Some k ≡ Some l → k ≡ l
    same_some k l e = cc

    none-some : None ≡ Some kinds → ⊥
    none-some e = cc

    here-where : (other : ℕ) (own : List Kind) (b : Bool) → (other == id) ≡ b → cond b (Some own) None ≡ Some kinds → record { id = other; kinds = own } ≡ wanted
    here-where other own true e f = λ i. record { id = eqb-true other id e i; kinds = same_some own kinds f i }
    here-where other own false e f = absurd (none-some f)

    in-either : (before after : List TableRead) (first second : Option (List Kind)) → (first ≡ Some kinds → IsIn wanted before) → (second ≡ Some kinds → IsIn wanted after) →
        first_there first second ≡ Some kinds → IsIn wanted (before ++ after)
    in-either before after None second l r e = in-append_right wanted before after (r e)
    in-either before after (Some found) second l r e = in-append_left wanted before after (l e)

    found-read : (q : Query) → first_kinds id q ≡ Some kinds → IsIn wanted (tables_read q)
    found-read (Table other own) e = inl (here-where other own (other == id) refl e)
    found-read Single e = absurd (none-some e)
    found-read (BaseOf input places label) e = found-read input e
    found-read (FilterOf input condition _ subs) e = in-append_left wanted (tables_read input) (sub_tables_read subs) (found-read input e)
    found-read (ProjectOf input items _ subs) e = in-append_left wanted (tables_read input) (sub_tables_read subs) (found-read input e)
    found-read (JoinOf kind left right condition _ subs) e =
        in-append_left wanted (tables_read left ++ tables_read right) (sub_tables_read subs)
        (in-either (tables_read left) (tables_read right) (first_kinds id left) (first_kinds id right) (found-read left) (found-read right) e)
    found-read (ApplyOf kind left right) e = in-either (tables_read left) (tables_read right) (first_kinds id left) (first_kinds id right) (found-read left) (found-read right) e
    found-read (UnionOf all left right) e = in-either (tables_read left) (tables_read right) (first_kinds id left) (first_kinds id right) (found-read left) (found-read right) e
    found-read (IntersectOf all left right) e = in-either (tables_read left) (tables_read right) (first_kinds id left) (first_kinds id right) (found-read left) (found-read right) e
    found-read (ExceptOf all left right) e = in-either (tables_read left) (tables_read right) (first_kinds id left) (first_kinds id right) (found-read left) (found-read right) e
    found-read (DistinctOf input) e = found-read input e
    found-read (AggregateOf input groups aggregates) e = found-read input e
    found-read (LimitOf input keys count) e = found-read input e
    found-read (ProvOf input) e = found-read input e

    pub found-contained : (q : Query) → first_kinds id q ≡ Some kinds → Contains (tables_read q) wanted
    found-contained q e = contains-from_in wanted (tables_read q) (found-read q e)

    pub found-is_read : (q : Query) → first_kinds id q ≡ Some kinds → IsRead id q
    found-is_read q e unread = each_table-told (λ other own. other ≢ id) q unread wanted (found-contained q e) refl

  -- ---- where none is found

  apart-where : (other : ℕ) (own : List Kind) (b : Bool) → (other == id) ≡ b → cond b (Some own) None ≡ None → other ≢ id
  apart-where other own true e f = absurd (cc f)
  apart-where other own false e f = λ same. true≢false (sym (eq-eqb other id same) ∙ e)

  first-none : (first second : Option (List Kind)) → first_there first second ≡ None → first ≡ None
  first-none None second e = refl
  first-none (Some found) second e = e

  second-none : (first second : Option (List Kind)) → first_there first second ≡ None → second ≡ None
  second-none None second e = e
  second-none (Some found) second e = absurd (cc e)

  no-sublink : {m : _} (subs : Row_of-Sublink m) → no_subs subs ≡ true → EachSubTable (λ other kinds. other ≢ id) subs
  no-sublink end_of-Sublink e = tt
  no-sublink (more_of-Sublink kind tested query subs) e = absurd (true≢false (sym e))

  unread-over : (input : Query) → ((other : ℕ) × (kinds : List Kind) × (input ≡ Table other kinds)) → first_kinds id input ≡ None → Unread id input
  unread-over input table =
      subst (λ source. first_kinds id source ≡ None → Unread id source) (sym table.2) (apart-where table.0 table.1 (table.0 == id) refl)

  pub none-unread : (q : Query) → is_monotone q ≡ true → first_kinds id q ≡ None → Unread id q
  none-unread (Table other kinds) m e = absurd (true≢false (sym m))
  none-unread Single m e = tt
  none-unread (BaseOf input places label) m e =
      unread-over input (whole_table-is input places (right-true (is_relation label) (is_whole_table input places) m)) e
  none-unread (FilterOf input condition _ subs) m e =
      (none-unread input (right-true (no_subs subs) (is_monotone input) m) e, no-sublink subs (left-true (no_subs subs) (is_monotone input) m))
  none-unread (ProjectOf input items _ subs) m e =
      (none-unread input (right-true (no_subs subs) (is_monotone input) m) e, no-sublink subs (left-true (no_subs subs) (is_monotone input) m))
  none-unread (JoinOf Inner left right condition _ subs) m e =
      let none = left-true (no_subs subs) (is_monotone left && is_monotone right) m in
      let sides = right-true (no_subs subs) (is_monotone left && is_monotone right) m in (
        none-unread left (left-true (is_monotone left) (is_monotone right) sides) (first-none (first_kinds id left) (first_kinds id right) e),
        none-unread right (right-true (is_monotone left) (is_monotone right) sides) (second-none (first_kinds id left) (first_kinds id right) e),
        no-sublink subs none,
      )
  none-unread (JoinOf Left left right condition _ subs) m e = absurd (true≢false (sym m))
  none-unread (JoinOf Right left right condition _ subs) m e = absurd (true≢false (sym m))
  none-unread (JoinOf Full left right condition _ subs) m e = absurd (true≢false (sym m))
  none-unread (ApplyOf kind left right) m e = absurd (true≢false (sym m))
  none-unread (UnionOf all left right) m e = (
    none-unread left (left-true (is_monotone left) (is_monotone right) m) (first-none (first_kinds id left) (first_kinds id right) e),
    none-unread right (right-true (is_monotone left) (is_monotone right) m) (second-none (first_kinds id left) (first_kinds id right) e),
  )
  none-unread (IntersectOf all left right) m e = absurd (true≢false (sym m))
  none-unread (ExceptOf all left right) m e = absurd (true≢false (sym m))
  none-unread (DistinctOf input) m e = none-unread input m e
  none-unread (AggregateOf input groups aggregates) m e = absurd (true≢false (sym m))
  none-unread (LimitOf input keys count) m e = absurd (true≢false (sym m))
  none-unread (ProvOf input) m e = absurd (true≢false (sym m))
