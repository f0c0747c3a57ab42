-- A query without PROVENANCE that can be printed can be written.
use Rattle.std.proofs.Common.{◌≡◌, ◌&&◌, true, true≢false, sym}
use Rattle.bag_algebra.specs.Rewriting.{is_plain, subs_plain}
use Rattle.bag_algebra.specs.built.Patterns.{BaseOf, FilterOf, ProjectOf, JoinOf, ApplyOf, UnionOf, IntersectOf, ExceptOf, DistinctOf, AggregateOf, LimitOf, ProvOf}
use Rattle.bag_algebra.specs.declared.query.Query.{Query, Row_of-Sublink, more_of-Sublink, end_of-Sublink}
use Rattle.bag_algebra.specs.declared.query.Query.TheVariants.{Table, Single}
use Rattle.bag_algebra.proofs.Truths.{left-true, right-true}
use Rattle.sql_printer.specs.rows.Writable.{WritableQuery, WritableSubs}
use Rattle.sql_printer.specs.forms.Printable.{Printable, PrintableSubs}

mutual
  pub printable-writable : (q : Query) → is_plain q ≡ true → Printable q → WritableQuery q
  printable-writable (Table id kinds) e p = tt
  printable-writable Single e p = tt
  printable-writable (BaseOf input places label) e p = printable-writable input e p.1
  printable-writable (FilterOf input condition _ subs) e p = (
    printable-writable input (left-true (is_plain input) (subs_plain subs) e) p.2,
    p.1,
    subs-writable subs (right-true (is_plain input) (subs_plain subs) e) p.3,
  )
  printable-writable (ProjectOf input items _ subs) e p = (
    printable-writable input (left-true (is_plain input) (subs_plain subs) e) p.2,
    p.1,
    subs-writable subs (right-true (is_plain input) (subs_plain subs) e) p.3,
  )
  printable-writable (JoinOf kind left right condition _ subs) e p =
      let sides = left-true (is_plain left && is_plain right) (subs_plain subs) e in (
        printable-writable left (left-true (is_plain left) (is_plain right) sides) p.2,
        printable-writable right (right-true (is_plain left) (is_plain right) sides) p.3,
        p.1,
        subs-writable subs (right-true (is_plain left && is_plain right) (subs_plain subs) e) p.4,
      )
  printable-writable (ApplyOf kind left right) e p =
      (printable-writable left (left-true (is_plain left) (is_plain right) e) p.1, printable-writable right (right-true (is_plain left) (is_plain right) e) p.2)
  printable-writable (UnionOf all left right) e p =
      (printable-writable left (left-true (is_plain left) (is_plain right) e) p.1, printable-writable right (right-true (is_plain left) (is_plain right) e) p.2)
  printable-writable (IntersectOf all left right) e p =
      (printable-writable left (left-true (is_plain left) (is_plain right) e) p.1, printable-writable right (right-true (is_plain left) (is_plain right) e) p.2)
  printable-writable (ExceptOf all left right) e p =
      (printable-writable left (left-true (is_plain left) (is_plain right) e) p.1, printable-writable right (right-true (is_plain left) (is_plain right) e) p.2)
  printable-writable (DistinctOf input) e p = printable-writable input e p.1
  printable-writable (AggregateOf input groups aggregates) e p = (printable-writable input e p.2, p.1)
  printable-writable (LimitOf input keys count) e p = printable-writable input e p.1
  printable-writable (ProvOf input) e p = true≢false (sym e)

  subs-writable : {m : _} (subs : Row_of-Sublink m) → subs_plain subs ≡ true → PrintableSubs subs → WritableSubs subs
  subs-writable end_of-Sublink e p = tt
  subs-writable (more_of-Sublink kind tested query subs) e p =
      (p.0.0, printable-writable query (left-true (is_plain query) (subs_plain subs) e) p.0.1, subs-writable subs (right-true (is_plain query) (subs_plain subs) e) p.1)
