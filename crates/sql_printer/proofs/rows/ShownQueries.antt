-- What the text of a query is read as has rows that show the query's, or the same faults.
use Rattle.std.proofs.Common.{◌≡◌, ℕ, suc, ◌+◌, Bool, true, false, cond, List, [], ◌∷◌, ◌++◌, length, length-append, map, take, All, Option, Some, None, option_map, refl, sym, ap, subst, ◌∙◌, true≢false, arith}
use Rattle.std.specs.List.{range_with_len}
use Rattle.perm_values.specs.Rows.{printed_cmp}
use Rattle.perm_values.specs.declared.kind.Kind.{Kind}
use Rattle.perm_values.specs.declared.kind.Kind.TheVariants as kinds
use Rattle.perm_values.specs.declared.value.Value.{Value}
use Rattle.perm_values.specs.declared.value.Value.TheVariants.{Boolean}
use Rattle.bag_algebra.specs.Bags.{Row, Bag, once, sorted, union_of, intersect_of, except_of}
use Rattle.bag_algebra.specs.Children.{subs_denote, sublink_value}
use Rattle.bag_algebra.specs.Kinds.{kinds_of, width_of, kinds_in}
use Rattle.bag_algebra.specs.Meaning.{Database, meaning, sub_denote, optional_value, condition_on, items_on, arguments_on}
use Rattle.bag_algebra.specs.Means.{kept, joined_rows, under, sub_value, is_some_row, grouped as in_classes}
use Rattle.bag_algebra.specs.Outcome.{Outcome, Good, Bad, union, and_then, mapped, both, both_then, gather, each}
use Rattle.bag_algebra.specs.TablesRead.{EachTable, EachSubTable}
use Rattle.bag_algebra.specs.WellFormed.{WellFormed, SubsForm, sub_form, is_dependent}
use Rattle.bag_algebra.specs.built.Openings.{rows-with_lists, meaning-Filter, meaning-Project, meaning-Join, meaning-Apply, meaning-Union, meaning-Intersect, meaning-Except, meaning-Distinct, meaning-Aggregate, meaning-Limit, kinds_of-Project, kinds_of-Join, kinds_of-Apply, kinds_of-Union, kinds_of-Intersect, kinds_of-Except, kinds_of-Distinct, kinds_of-Limit}
use Rattle.bag_algebra.specs.built.Patterns.{BaseOf, FilterOf, ProjectOf, JoinOf, ApplyOf, UnionOf, IntersectOf, ExceptOf, DistinctOf, AggregateOf, LimitOf, ProvOf}
use Rattle.bag_algebra.specs.declared.expr.Expr.{Expr}
use Rattle.bag_algebra.specs.declared.expr.Item.{Item}
use Rattle.bag_algebra.specs.declared.query.Aggr.{Aggr}
use Rattle.bag_algebra.specs.declared.query.JoinKind.{JoinKind}
use Rattle.bag_algebra.specs.declared.query.JoinKind.TheVariants as join
use Rattle.bag_algebra.specs.declared.query.Query.{Query, Row_of-Sublink, more_of-Sublink, end_of-Sublink}
use Rattle.bag_algebra.specs.declared.query.Query.TheVariants.{Table, Single, Filter, Project, Join, Apply, Union, Intersect, Except, Distinct, Aggregate, Limit}
use Rattle.bag_algebra.specs.declared.query.SubKind.{SubKind}
use Rattle.bag_algebra.specs.declared.query.SubKind.TheVariants as ask
use Rattle.sql_printer.specs.rows.Carried.{Carries, IsGiven}
use Rattle.sql_printer.specs.rows.Printed.{Readings, a_block, a_select, a_whole, apart_unless, listed, column, columns_from, unread_item, or_unread, unread_of, idle, taken, asked_by, first_beside, printed_items, printed_condition, condition_subs, projected, lateral_kind, arguments, grouped, aggregates_from, or_counted, in_groups, readings, printed, printed_subs, printed_answer}
use Rattle.sql_printer.specs.rows.PrintedExpressions.{asked_in, printed_expr}
use Rattle.sql_printer.specs.rows.Writable.{WritableOption, WritableQuery, WritableSubs}
use Rattle.query_texts.specs.clauses.Chains.{is_chained}
use Rattle.query_texts.specs.clauses.Keys.{all_keys}
use Rattle.query_texts.specs.clauses.Unused.{items_use}
use Rattle.tree_texts.specs.expressions.Words.{is_any}
use Rattle.sql_printer.proofs.rows.AskedNumbers.{get-below}
use Rattle.sql_printer.proofs.rows.ReadSublinks.{answers_of, value-alone, condition-read, items-marked, items-wide}
use Rattle.sql_printer.proofs.rows.RelatedOutcomes.{Along, AlikeOutcomes, alike-both_then}
use Rattle.sql_printer.proofs.rows.ShownGroups.{groups-alike}
use Rattle.sql_printer.proofs.rows.ShownNodes.{Paired, pair-spans, filter-alike, joined-alike, applied-alike}
use Rattle.sql_printer.proofs.rows.ShownRows.{Shown, shown_kinds, shown_width, Faces, Spans, Ends, faces-carried, alike-itself, alike-ends, alike_spans-faces, items_values, copied-rows, mark, marked-alike, made-marked, wide-made, Wide, WideOutcome, alike-wide, alike_faces-wide}
use Rattle.sql_printer.proofs.rows.ShownSets.{union-alike, intersect-alike, except-alike, distinct-alike, limit-alike}

-- ---- columns

kinds-columns : (place : ℕ) (kinds : List Kind) → map (λ (item : Item). item.kind) (columns_from place kinds) ≡ kinds
kinds-columns place [] = refl
kinds-columns place (kind ∷ kinds) = ap (λ more. kind ∷ more) (kinds-columns (suc place) kinds)

kinds-unread : (place : ℕ) (kinds : List Kind) → map (λ (item : Item). item.kind) (or_unread unread_item (columns_from place kinds)) ≡ shown_kinds kinds
kinds-unread place [] = refl
kinds-unread place (kind ∷ kinds) = kinds-columns place (kind ∷ kinds)

kinds-counted : (all : List Kind) → map (λ (item : Item). item.kind) (or_unread (column 0 kinds.Integer) (columns_from 0 all)) ≡ shown_kinds all
kinds-counted [] = refl
kinds-counted (kind ∷ more) = kinds-columns 0 (kind ∷ more)

kinds-items : (unread : List ℕ) (n : ℕ) (items : List Item)
    → map (λ (item : Item). item.kind) (printed_items unread n items) ≡ map (λ (item : Item). item.kind) items
kinds-items unread n [] = refl
kinds-items unread n (item ∷ items) = ap (λ more. item.kind ∷ more) (kinds-items unread (n + length (asked_in item.expr)) items)

kinds-beside : (unread : List ℕ) (count : ℕ) (items : List Item)
    → map (λ (item : Item). item.kind) (first_beside unread count items) ≡ shown_kinds (map (λ (item : Item). item.kind) items)
kinds-beside unread count [] = refl
kinds-beside unread count (item ∷ items) = ap (λ more. item.kind ∷ more) (kinds-items unread (count + length (asked_in item.expr)) items)

kinds-listed : (kinds : List Kind) (before : ℕ) (q : Query) → kinds_of (listed kinds before q) ≡ shown_kinds kinds
kinds-listed kinds before q = kinds_of-Project q (or_unread unread_item (columns_from before kinds)) [] ∙ kinds-unread before kinds

-- what is read has columns of these kinds, or one; and as many behind those that nothing reads
pub record Widths (kinds : List Kind) (r : Readings) : Type 0 where
  pub whole : kinds_of r.whole ≡ shown_kinds kinds
  pub core : kinds_of r.core ≡ shown_kinds kinds
  pub from : width_of r.from ≡ r.from_before + length kinds

unread-width : (kinds : List Kind) → shown_width kinds ≡ unread_of kinds + length kinds
unread-width [] = refl
unread-width (kind ∷ kinds) = omega arith

whole-widths : (kinds : List Kind) (whole : Query) → kinds_of whole ≡ shown_kinds kinds → Widths kinds (a_whole kinds whole)
whole-widths kinds whole is = record { whole = is; core = kinds-listed kinds (unread_of kinds) whole; from = ap length is ∙ unread-width kinds }

select-widths : (kinds : List Kind) (core : Query) → kinds_of core ≡ shown_kinds kinds → Widths kinds (a_select kinds core)
select-widths kinds core is = record { whole = is; core = is; from = ap length is ∙ unread-width kinds }

block-widths : (kinds : List Kind) (followed : Bool) (before : ℕ) (block : Query) → (followed ≡ true → width_of block ≡ before + length kinds)
    → Widths kinds (a_block kinds followed before block)
block-widths kinds true before block is =
    record { whole = kinds-listed kinds before block; core = kinds-listed kinds before block; from = is refl }
block-widths kinds false before block is =
    record {
      whole = kinds-listed kinds before block;
      core = kinds-listed kinds before block;
      from = ap length (kinds-listed kinds before block) ∙ unread-width kinds;
    }

apart-widths : (kinds : List Kind) (chained : Bool) (r : Readings) → Widths kinds r → Widths kinds (apart_unless kinds chained r)
apart-widths kinds true r wide = wide
apart-widths kinds false r wide = whole-widths kinds r.whole wide.whole

any-width : (kinds : List Kind) → is_any (length kinds) ≡ true → shown_width kinds ≡ length kinds
any-width [] is = absurd (true≢false (sym is))
any-width (kind ∷ kinds) is = refl

-- a left side and a right side that has columns
pair-width : (before : ℕ) (left right : List Kind) → is_any (length right) ≡ true
    → before + length left + shown_width right ≡ before + length (left ++ right)
pair-width before left right is = omega (arith, any-width right is, length-append left right)

both-width : (before : ℕ) (left right : List Kind) (first second : Query) → width_of first ≡ before + length left → kinds_of second ≡ shown_kinds right
    → is_any (length right) ≡ true → length (kinds_of first ++ kinds_of second) ≡ before + length (left ++ right)
both-width before left right first second wide is any =
    length-append (kinds_of first) (kinds_of second) ∙ (λ i. wide i + length (is i)) ∙ pair-width before left right any

module _ (source : ℕ → List Kind → Query) where
  pub readings-wide : (outer : List (List Kind)) (unread : List ℕ) (q : Query) → WritableQuery q → Widths (kinds_of q) (readings source outer unread q)
  readings-wide outer unread (Table id kinds) w = select-widths kinds (listed kinds 0 (source id kinds)) (kinds-listed kinds 0 (source id kinds))
  readings-wide outer unread Single w = select-widths [] (listed [] 0 Single) (kinds-listed [] 0 Single)
  readings-wide outer unread (BaseOf input places label) w =
      whole-widths (kinds_of input) (readings source outer unread input).whole (readings-wide outer unread input w).whole
  readings-wide outer unread (FilterOf input condition _ subs) w =
      let below = readings source outer unread input in
      let asked = printed_subs source (kinds_of input ∷ outer) (below.from_before ∷ unread) subs in
      block-widths (kinds_of input) false below.from_before
      (Filter below.from (printed_condition (below.from_before ∷ unread) asked condition) (condition_subs asked condition)) (λ is. absurd (true≢false (sym is)))
  readings-wide outer unread (ProjectOf input items _ subs) w =
      let below = readings source outer unread input in
      let asked = printed_subs source (kinds_of input ∷ outer) (below.before ∷ unread) subs in
      let spared = idle (items_use items) (length asked) in
      select-widths (map (λ (item : Item). item.kind) items) (projected (below.before ∷ unread) asked items below.block)
      (kinds_of-Project below.block (first_beside (below.before ∷ unread) (length spared) items) (taken asked (spared ++ asked_by items))
      ∙ kinds-beside (below.before ∷ unread) (length spared) items)
  readings-wide outer unread (JoinOf kind left right condition _ subs) w =
      let both = kinds_of left ++ kinds_of right in
      let below = readings source outer unread left in
      let first = apart_unless (kinds_of left) (is_chained kind) below in
      let second = (readings source outer unread right).whole in
      let asked = printed_subs source ((kinds_of left ++ kinds_of right) ∷ outer) (first.from_before ∷ unread) subs in
      let test = printed_condition (first.from_before ∷ unread) asked condition in
      let asks = condition_subs asked condition in
      let block = Join kind first.from second test asks in
      apart-widths both (is_chained kind) (a_block both (is_any (width_of right)) first.from_before block)
      (block-widths both (is_any (width_of right)) first.from_before block
      (λ any. ap length (kinds_of-Join kind first.from second test asks)
      ∙ both-width first.from_before (kinds_of left) (kinds_of right) first.from second
      (apart-widths (kinds_of left) (is_chained kind) below (readings-wide outer unread left w.0)).from
      (readings-wide outer unread right w.1).whole any))
  readings-wide outer unread (ApplyOf kind left right) w =
      let first = readings source outer unread left in
      let second = (readings source (kinds_of left ∷ outer) (first.from_before ∷ unread) right).whole in
      block-widths (kinds_of left ++ kinds_of right) (is_any (width_of right)) first.from_before (Apply (lateral_kind kind) first.from second)
      (λ any. ap length (kinds_of-Apply (lateral_kind kind) first.from second)
      ∙ both-width first.from_before (kinds_of left) (kinds_of right) first.from second (readings-wide outer unread left w.0).from
      (readings-wide (kinds_of left ∷ outer) (first.from_before ∷ unread) right w.1).whole any)
  readings-wide outer unread (UnionOf all left right) w =
      let first = (readings source outer unread left).core in
      let second = (readings source outer unread right).core in
      whole-widths (kinds_of left) (Union all first second) (kinds_of-Union all first second ∙ (readings-wide outer unread left w.0).core)
  readings-wide outer unread (IntersectOf all left right) w =
      let first = (readings source outer unread left).core in
      let second = (readings source outer unread right).core in
      whole-widths (kinds_of left) (Intersect all first second) (kinds_of-Intersect all first second ∙ (readings-wide outer unread left w.0).core)
  readings-wide outer unread (ExceptOf all left right) w =
      let first = (readings source outer unread left).core in
      let second = (readings source outer unread right).core in
      whole-widths (kinds_of left) (Except all first second) (kinds_of-Except all first second ∙ (readings-wide outer unread left w.0).core)
  readings-wide outer unread (DistinctOf input) w =
      let below = (readings source outer unread input).core in
      whole-widths (kinds_of input) (Distinct below) (kinds_of-Distinct below ∙ (readings-wide outer unread input w).core)
  readings-wide outer unread (AggregateOf input groups aggregates) w =
      let own = kinds_of input in
      let below = readings source outer unread input in
      let all = kinds_in own groups ++ map (λ (aggregate : Aggr). aggregate.kind) aggregates in
      let inner = Project below.block (or_unread unread_item (grouped below.before own groups ++ arguments (own ∷ outer) (below.before ∷ unread) aggregates)) [] in
      whole-widths all (in_groups (own ∷ outer) (below.before ∷ unread) below.before groups aggregates own below.block)
      (kinds_of-Project (Aggregate inner (range_with_len 0 (length groups)) (or_counted groups (aggregates_from (length groups) aggregates)))
      (or_unread (column 0 kinds.Integer) (columns_from 0 all)) []
      ∙ kinds-counted all)
  readings-wide outer unread (LimitOf input keys count) w =
      let below = (readings source outer unread input).core in
      let all = all_keys (length (kinds_of input)) keys in
      whole-widths (kinds_of input) (Limit below all count) (kinds_of-Limit below all count ∙ (readings-wide outer unread input w).core)
  readings-wide outer unread (ProvOf input) w = absurd w

-- ---- what the rows are

module _ (db : Database) (other : List Row) where
  -- what is read of a query with columns of these kinds, whose rows or faults are these
  pub record ReadsAs (kinds : List Kind) (o : Outcome Bag) (r : Readings) : Type 0 where
    pub whole : AlikeOutcomes (Along (Shown kinds)) o (meaning r.whole db other)
    pub core : meaning r.core db other ≡ mapped (map (mark kinds)) o
    pub block : AlikeOutcomes (Along (Faces kinds r.before)) o (meaning r.block db other)
    pub from : AlikeOutcomes (Along (Ends kinds r.from_before)) o (meaning r.from db other)

  listed-marks : (kinds : List Kind) (before : ℕ) (q : Query) (o : Outcome Bag) → AlikeOutcomes (Along (Faces kinds before)) o (meaning q db other)
      → meaning (listed kinds before q) db other ≡ mapped (map (mark kinds)) o
  listed-marks kinds before q o f =
      meaning-Project db other q (or_unread unread_item (columns_from before kinds)) [] ∙ copied-rows other kinds before o (meaning q db other) f

  marks-shown : (kinds : List Kind) (o p : Outcome Bag) → WideOutcome (length kinds) o → p ≡ mapped (map (mark kinds)) o
      → AlikeOutcomes (Along (Shown kinds)) o p
  marks-shown kinds o p wide is = subst (AlikeOutcomes (Along (Shown kinds)) o) (sym is) (marked-alike kinds o wide)

  shown-faced : (kinds : List Kind) (o p : Outcome Bag) → AlikeOutcomes (Along (Shown kinds)) o p → AlikeOutcomes (Along (Faces kinds (unread_of kinds))) o p
  shown-faced kinds o p s = alike_spans-faces kinds (unread_of kinds) (unread_of kinds + length kinds) o p (alike-ends kinds o p s)

  whole-reads : (kinds : List Kind) (o : Outcome Bag) (whole : Query) → AlikeOutcomes (Along (Shown kinds)) o (meaning whole db other)
      → ReadsAs kinds o (a_whole kinds whole)
  whole-reads kinds o whole s = record {
    whole = s;
    core = listed-marks kinds (unread_of kinds) whole o (shown-faced kinds o (meaning whole db other) s);
    block = shown-faced kinds o (meaning whole db other) s;
    from = alike-ends kinds o (meaning whole db other) s;
  }

  select-reads : (kinds : List Kind) (o : Outcome Bag) (core : Query) → WideOutcome (length kinds) o → meaning core db other ≡ mapped (map (mark kinds)) o
      → ReadsAs kinds o (a_select kinds core)
  select-reads kinds o core wide is =
      let s = marks-shown kinds o (meaning core db other) wide is in
      record {
        whole = s;
        core = is;
        block = shown-faced kinds o (meaning core db other) s;
        from = alike-ends kinds o (meaning core db other) s;
      }

  block-reads : (kinds : List Kind) (followed : Bool) (before : ℕ) (o : Outcome Bag) (block : Query)
      → AlikeOutcomes (Along (Faces kinds before)) o (meaning block db other)
      → (followed ≡ true → AlikeOutcomes (Along (Ends kinds before)) o (meaning block db other)) → ReadsAs kinds o (a_block kinds followed before block)
  block-reads kinds followed before o block f ends =
      let marks = listed-marks kinds before block o f in
      let s = marks-shown kinds o (meaning (listed kinds before block) db other) (alike_faces-wide kinds before o (meaning block db other) f) marks in
      record { whole = s; core = marks; block = f; from = either followed ends (alike-ends kinds o (meaning (listed kinds before block) db other) s) }
    where
      either : (b : Bool) → (b ≡ true → AlikeOutcomes (Along (Ends kinds before)) o (meaning block db other))
          → AlikeOutcomes (Along (Ends kinds (unread_of kinds))) o (meaning (listed kinds before block) db other)
          → AlikeOutcomes (Along (Ends kinds (cond b before (unread_of kinds)))) o (meaning (cond b block (listed kinds before block)) db other)
      either true first second = first refl
      either false first second = second

  apart-reads : (kinds : List Kind) (chained : Bool) (o : Outcome Bag) (r : Readings) → ReadsAs kinds o r → ReadsAs kinds o (apart_unless kinds chained r)
  apart-reads kinds true o r reads = reads
  apart-reads kinds false o r reads = whole-reads kinds o r.whole reads.whole

  reads-wide : (kinds : List Kind) (o : Outcome Bag) (r : Readings) → ReadsAs kinds o r → WideOutcome (length kinds) o
  reads-wide kinds o r reads = alike-wide kinds o (meaning r.whole db other) reads.whole

all-wide : (width : ℕ) (us : Bag) → All (λ (row : Row). length row ≡ width) us → Wide width us
all-wide width [] h = tt
all-wide width (u ∷ us) h = (h 0 u (omega arith), all-wide width us (λ k d b. h (suc k) d (omega (arith, b))))

-- ---- sublinks

same_bags : (kind : Kind) (more : List Kind) (us vs : Bag) → Along (Shown (kind ∷ more)) us vs → vs ≡ us
same_bags kind more [] [] s = refl
same_bags kind more [] (v ∷ vs) s = absurd s
same_bags kind more (u ∷ us) [] s = absurd s
same_bags kind more (u ∷ us) (v ∷ vs) s = λ i. s.0.0 i ∷ same_bags kind more us vs s.1 i

some_rows : (kinds : List Kind) (us vs : Bag) → Along (Shown kinds) us vs → is_some_row vs ≡ is_some_row us
some_rows kinds [] [] s = refl
some_rows kinds [] (v ∷ vs) s = absurd s
some_rows kinds (u ∷ us) [] s = absurd s
some_rows kinds (u ∷ us) (v ∷ vs) s = refl

one_column : (column : Kind) (kinds : List Kind) → kinds ≡ column ∷ [] → (us vs : Bag) → Along (Shown kinds) us vs → vs ≡ us
one_column column kinds one us vs s = same_bags column [] us vs (subst (λ ks. Along (Shown ks) us vs) one s)

sub_value-same : (kind : SubKind) (tested : Option Expr) (scopes : List (List Kind)) (kinds : List Kind) → sub_form kind tested scopes kinds
    → (x : Value) (us vs : Bag) → Along (Shown kinds) us vs → sub_value kind x vs ≡ sub_value kind x us
sub_value-same ask.Exists tested scopes kinds form x us vs s = ap (λ b. Good (Boolean b)) (some_rows kinds us vs s)
sub_value-same (ask.Any c) None scopes kinds form x us vs s = absurd form
sub_value-same (ask.Any c) (Some part) scopes kinds form x us vs s = ap (sub_value (ask.Any c) x) (one_column form.column kinds form.one us vs s)
sub_value-same (ask.All c) None scopes kinds form x us vs s = absurd form
sub_value-same (ask.All c) (Some part) scopes kinds form x us vs s = ap (sub_value (ask.All c) x) (one_column form.column kinds form.one us vs s)
sub_value-same ask.Scalar None scopes kinds form x us vs s = ap (sub_value ask.Scalar x) (one_column form.column kinds form.one us vs s)
sub_value-same ask.Scalar (Some part) scopes kinds form x us vs s = absurd form

then-same : (R : Bag → Bag → Type 0) (f : Value → Bag → Outcome Value) → ((x : Value) (us vs : Bag) → R us vs → f x vs ≡ f x us)
    → (a : Outcome Value) (o p : Outcome Bag) → AlikeOutcomes R o p → both_then a p f ≡ both_then a o f
then-same R f same (Good x) (Good us) (Good vs) r = same x us vs r
then-same R f same (Good x) (Good us) (Bad g) r = absurd r
then-same R f same (Good x) (Bad h) (Good vs) r = absurd r
then-same R f same (Good x) (Bad h) (Bad g) r = ap Bad (sym r)
then-same R f same (Bad k) (Good us) (Good vs) r = refl
then-same R f same (Bad k) (Good us) (Bad g) r = absurd r
then-same R f same (Bad k) (Bad h) (Good vs) r = absurd r
then-same R f same (Bad k) (Bad h) (Bad g) r = λ i. Bad (union k (sym r i))

-- the left operand of a sublink
tested-same : (kind : SubKind) (tested : Option Expr) (scopes : List (List Kind)) (kinds : List Kind) → sub_form kind tested scopes kinds → WritableOption tested
    → (unread : List ℕ) (u v : Row) (env other : List Row) → Carries scopes unread (u ∷ env) (v ∷ other)
    → optional_value (option_map (printed_expr unread 0) tested) other v ≡ optional_value tested env u
tested-same kind None scopes kinds form w unread u v env other carried = refl
tested-same ask.Exists (Some part) scopes kinds form w unread u v env other carried = absurd form
tested-same (ask.Any c) (Some part) scopes kinds form w unread u v env other carried =
    value-alone scopes unread u v env other carried part form.column form.compared w
tested-same (ask.All c) (Some part) scopes kinds form w unread u v env other carried =
    value-alone scopes unread u v env other carried part form.column form.compared w
tested-same ask.Scalar (Some part) scopes kinds form w unread u v env other carried = absurd form

-- ---- joins

lateral-is : (kind : JoinKind) → is_dependent kind ≡ true → lateral_kind kind ≡ kind
lateral-is join.Inner e = refl
lateral-is join.Left e = refl
lateral-is join.Right e = absurd (true≢false (sym e))
lateral-is join.Full e = absurd (true≢false (sym e))

-- ---- queries

module _ (source : ℕ → List Kind → Query) (db : Database) where
  -- the kinds of a right side are those of the left side
  right-core : (other : List Row) (left right : List Kind) (o : Outcome Bag) (r : Readings) → left ≡ right → ReadsAs db other right o r
      → meaning r.core db other ≡ mapped (map (mark left)) o
  right-core other left right o r same reads = reads.core ∙ ap (λ kinds. mapped (map (mark kinds)) o) (sym same)

  right-wide : (other : List Row) (left right : List Kind) (o : Outcome Bag) (r : Readings) → left ≡ right → ReadsAs db other right o r → WideOutcome (length left) o
  right-wide other left right o r same reads = subst (λ kinds. WideOutcome (length kinds) o) (sym same) (reads-wide db other right o r reads)

  mutual
    pub rows-read : (q : Query) (outer : List (List Kind)) (unread : List ℕ) (env other : List Row) → WellFormed outer q → WritableQuery q
        → EachTable (IsGiven source db) q → Carries outer unread env other
        → ReadsAs db other (kinds_of q) (meaning q db env) (readings source outer unread q)
    rows-read (Table id kinds) outer unread env other form w given carried =
        let wide = all-wide (length kinds) (db id) given.wide in
        select-reads db other kinds (Good (db id)) (listed kinds 0 (source id kinds)) wide
        (listed-marks db other kinds 0 (source id kinds) (Good (db id))
        (subst (AlikeOutcomes (Along (Faces kinds 0)) (Good (db id))) (sym (given.rows other)) (alike-itself kinds (Good (db id)) wide)))
    rows-read Single outer unread env other form w given carried =
        select-reads db other [] (Good ([] ∷ [])) (listed [] 0 Single) (refl, tt)
        (listed-marks db other [] 0 Single (Good ([] ∷ [])) (alike-itself [] (Good ([] ∷ [])) (refl, tt)))
    rows-read (BaseOf input places label) outer unread env other form w given carried =
        let rows : meaning (BaseOf input places label) db env ≡ meaning input db env = rows-with_lists _ _ in
        let below = readings source outer unread input in
        subst (λ o. ReadsAs db other (kinds_of input) o (a_whole (kinds_of input) below.whole)) (sym rows)
        (whole-reads db other (kinds_of input) (meaning input db env) below.whole (rows-read input outer unread env other form.input w given carried).whole)
    rows-read (FilterOf input condition shape subs) outer unread env other form w given carried =
        let kinds = kinds_of input in
        let below = readings source outer unread input in
        let start = below.from_before in
        let asked = printed_subs source (kinds ∷ outer) (start ∷ unread) subs in
        let c = condition_on condition env (sub_denote subs db env) in
        let test = printed_condition (start ∷ unread) asked condition in
        let asks = condition_subs asked condition in
        let d = condition_on test other (subs_denote asks db other) in
        let block = Filter below.from test asks in
        let own = and_then (meaning input db env) (gather (kept c)) in
        let rows : meaning (FilterOf input condition shape subs) db env ≡ own = rows-with_lists _ _ in
        let here = filter-alike (Ends kinds start) c d
        (λ u v s. let carried_in = faces-carried kinds start u v outer unread env other s.faces carried in
        condition-read db (kinds ∷ outer) (start ∷ unread) u v env other carried_in subs asked
        (subs-shown subs (kinds ∷ outer) (start ∷ unread) u v env other form.subs w.2 given.1 carried_in) condition form.condition w.1)
        (meaning input db env) (meaning below.from db other) (rows-read input outer unread env other form.input w.0 given.0 carried).from in
        let read = subst (AlikeOutcomes (Along (Ends kinds start)) own) (sym (meaning-Filter db other below.from test asks)) here in
        subst (λ o. ReadsAs db other kinds o (a_block kinds false start block)) (sym rows)
        (block-reads db other kinds false start own block (alike_spans-faces kinds start (start + length kinds) own (meaning block db other) read)
        (λ is. absurd (true≢false (sym is))))
    rows-read (ProjectOf input items shape subs) outer unread env other form w given carried =
        let below = readings source outer unread input in
        let start = below.before in
        let inner = kinds_of input in
        let kinds = map (λ (item : Item). item.kind) items in
        let asked = printed_subs source (inner ∷ outer) (start ∷ unread) subs in
        let spared = idle (items_use items) (length asked) in
        let list = first_beside (start ∷ unread) (length spared) items in
        let asks = taken asked (spared ++ asked_by items) in
        let f = items_on items env (sub_denote subs db env) in
        let g = items_on list other (subs_denote asks db other) in
        let own = and_then (meaning input db env) (each f) in
        let rows : meaning (ProjectOf input items shape subs) db env ≡ own = rows-with_lists _ _ in
        let marks = made-marked kinds (Faces inner start) f g
        (λ u v s. let carried_in = faces-carried inner start u v outer unread env other s carried in
        items-marked db (inner ∷ outer) (start ∷ unread) u v env other carried_in subs asked
        (subs-shown subs (inner ∷ outer) (start ∷ unread) u v env other form.subs w.2 given.1 carried_in) items form.items w.1)
        (meaning input db env) (meaning below.block db other) (rows-read input outer unread env other form.input w.0 given.0 carried).block in
        subst (λ o. ReadsAs db other kinds o (a_select kinds (projected (start ∷ unread) asked items below.block))) (sym rows)
        (select-reads db other kinds own (projected (start ∷ unread) asked items below.block)
        (wide-made (length kinds) f (items-wide items env (sub_denote subs db env)) (meaning input db env))
        (meaning-Project db other below.block list asks ∙ marks))
    rows-read (JoinOf kind left right condition shape subs) outer unread env other form w given carried =
        let lefts = kinds_of left in
        let rights = kinds_of right in
        let both = lefts ++ rights in
        let below = readings source outer unread left in
        let first = apart_unless lefts (is_chained kind) below in
        let second = (readings source outer unread right).whole in
        let start = first.from_before in
        let scopes = both ∷ outer in
        let asked = printed_subs source scopes (start ∷ unread) subs in
        let test = printed_condition (start ∷ unread) asked condition in
        let asks = condition_subs asked condition in
        let block = Join kind first.from second test asks in
        let c = condition_on condition env (sub_denote subs db env) in
        let d = condition_on test other (subs_denote asks db other) in
        let own = both_then (meaning left db env) (meaning right db env) (joined_rows kind c (width_of left) (width_of right)) in
        let rows : meaning (JoinOf kind left right condition shape subs) db env ≡ own = rows-with_lists _ _ in
        let here = alike-both_then (Along (Ends lefts start)) (Along (Shown rights)) (Along (Paired lefts rights start))
        (joined_rows kind c (width_of left) (width_of right)) (joined_rows kind d (start + length lefts) (shown_width rights))
        (λ us vs ws xs s r. joined-alike lefts rights start c d
        (λ u v y z a b. let carried_in = faces-carried both start (u ++ y) (v ++ z) outer unread env other (pair-spans lefts rights start u v y z a b).faces carried in
        condition-read db scopes (start ∷ unread) (u ++ y) (v ++ z) env other carried_in subs asked
        (subs-shown subs scopes (start ∷ unread) (u ++ y) (v ++ z) env other form.subs w.3 given.2 carried_in) condition form.condition w.2)
        kind us vs ws xs s r)
        (meaning left db env) (meaning first.from db other) (meaning right db env) (meaning second db other)
        (apart-reads db other lefts (is_chained kind) (meaning left db env) below (rows-read left outer unread env other form.left w.0 given.0 carried)).from
        (rows-read right outer unread env other form.right w.1 given.1 carried).whole in
        let read : AlikeOutcomes (Along (Paired lefts rights start)) own (meaning block db other) =
        subst (AlikeOutcomes (Along (Paired lefts rights start)) own)
        ((λ i. both_then (meaning first.from db other) (meaning second db other) (joined_rows kind d
        (sym (apart-widths lefts (is_chained kind) below (readings-wide source outer unread left w.0)).from i)
        (length (sym (readings-wide source outer unread right w.1).whole i))))
        ∙ sym (meaning-Join db other kind first.from second test asks)) here in
        let fused = a_block both (is_any (width_of right)) start block in
        subst (λ o. ReadsAs db other both o (apart_unless both (is_chained kind) fused)) (sym rows)
        (apart-reads db other both (is_chained kind) own fused
        (block-reads db other both (is_any (width_of right)) start own block
        (alike_spans-faces both start (start + length lefts + shown_width rights) own (meaning block db other) read)
        (λ any. subst (λ n. AlikeOutcomes (Along (Spans both start n)) own (meaning block db other)) (pair-width start lefts rights any) read)))
    rows-read (ApplyOf kind left right) outer unread env other form w given carried =
        let lefts = kinds_of left in
        let rights = kinds_of right in
        let both = lefts ++ rights in
        let first = readings source outer unread left in
        let start = first.from_before in
        let second = (readings source (lefts ∷ outer) (start ∷ unread) right).whole in
        let block = Apply (lateral_kind kind) first.from second in
        let own = and_then (meaning left db env) (gather (λ u. mapped (under kind (width_of right) u) (meaning right db (u ∷ env)))) in
        let rows : meaning (ApplyOf kind left right) db env ≡ own = rows-with_lists _ _ in
        let here = applied-alike lefts rights start kind (λ u. meaning right db (u ∷ env)) (λ v. meaning second db (v ∷ other))
        (λ u v s. (rows-read right (lefts ∷ outer) (start ∷ unread) (u ∷ env) (v ∷ other) form.right w.1 given.1
        (faces-carried lefts start u v outer unread env other s.faces carried)).whole)
        (meaning left db env) (meaning first.from db other) (rows-read left outer unread env other form.left w.0 given.0 carried).from in
        let read : AlikeOutcomes (Along (Paired lefts rights start)) own (meaning block db other) =
        subst (AlikeOutcomes (Along (Paired lefts rights start)) own)
        ((λ i. and_then (meaning first.from db other) (gather (λ v. mapped (under (sym (lateral-is kind form.dependent) i)
        (length (sym (readings-wide source (lefts ∷ outer) (start ∷ unread) right w.1).whole i)) v) (meaning second db (v ∷ other)))))
        ∙ sym (meaning-Apply db other (lateral_kind kind) first.from second)) here in
        subst (λ o. ReadsAs db other both o (a_block both (is_any (width_of right)) start block)) (sym rows)
        (block-reads db other both (is_any (width_of right)) start own block
        (alike_spans-faces both start (start + length lefts + shown_width rights) own (meaning block db other) read)
        (λ any. subst (λ n. AlikeOutcomes (Along (Spans both start n)) own (meaning block db other)) (pair-width start lefts rights any) read))
    rows-read (UnionOf all left right) outer unread env other form w given carried =
        let lefts = kinds_of left in
        let first = readings source outer unread left in
        let second = readings source outer unread right in
        let s = rows-read left outer unread env other form.left_side w.0 given.0 carried in
        let r = rows-read right outer unread env other form.right_side w.1 given.1 carried in
        let one = meaning left db env in
        let two = meaning right db env in
        let own = both (union_of all) one two in
        let rows : meaning (UnionOf all left right) db env ≡ own = rows-with_lists _ _ in
        let read = meaning-Union db other all first.core second.core
        ∙ (λ i. both (union_of all) (s.core i) (right-core other lefts (kinds_of right) two second form.same_kinds r i)) in
        subst (λ o. ReadsAs db other lefts o (a_whole lefts (Union all first.core second.core))) (sym rows)
        (whole-reads db other lefts own (Union all first.core second.core)
        (subst (AlikeOutcomes (Along (Shown lefts)) own) (sym read)
        (union-alike lefts all one two (reads-wide db other lefts one first s) (right-wide other lefts (kinds_of right) two second form.same_kinds r))))
    rows-read (IntersectOf all left right) outer unread env other form w given carried =
        let lefts = kinds_of left in
        let first = readings source outer unread left in
        let second = readings source outer unread right in
        let s = rows-read left outer unread env other form.left_side w.0 given.0 carried in
        let r = rows-read right outer unread env other form.right_side w.1 given.1 carried in
        let one = meaning left db env in
        let two = meaning right db env in
        let own = both (intersect_of all) one two in
        let rows : meaning (IntersectOf all left right) db env ≡ own = rows-with_lists _ _ in
        let read = meaning-Intersect db other all first.core second.core
        ∙ (λ i. both (intersect_of all) (s.core i) (right-core other lefts (kinds_of right) two second form.same_kinds r i)) in
        subst (λ o. ReadsAs db other lefts o (a_whole lefts (Intersect all first.core second.core))) (sym rows)
        (whole-reads db other lefts own (Intersect all first.core second.core)
        (subst (AlikeOutcomes (Along (Shown lefts)) own) (sym read)
        (intersect-alike lefts all one two (reads-wide db other lefts one first s) (right-wide other lefts (kinds_of right) two second form.same_kinds r))))
    rows-read (ExceptOf all left right) outer unread env other form w given carried =
        let lefts = kinds_of left in
        let first = readings source outer unread left in
        let second = readings source outer unread right in
        let s = rows-read left outer unread env other form.left_side w.0 given.0 carried in
        let r = rows-read right outer unread env other form.right_side w.1 given.1 carried in
        let one = meaning left db env in
        let two = meaning right db env in
        let own = both (except_of all) one two in
        let rows : meaning (ExceptOf all left right) db env ≡ own = rows-with_lists _ _ in
        let read = meaning-Except db other all first.core second.core
        ∙ (λ i. both (except_of all) (s.core i) (right-core other lefts (kinds_of right) two second form.same_kinds r i)) in
        subst (λ o. ReadsAs db other lefts o (a_whole lefts (Except all first.core second.core))) (sym rows)
        (whole-reads db other lefts own (Except all first.core second.core)
        (subst (AlikeOutcomes (Along (Shown lefts)) own) (sym read)
        (except-alike lefts all one two (reads-wide db other lefts one first s) (right-wide other lefts (kinds_of right) two second form.same_kinds r))))
    rows-read (DistinctOf input) outer unread env other form w given carried =
        let kinds = kinds_of input in
        let below = readings source outer unread input in
        let s = rows-read input outer unread env other form w given carried in
        let own = mapped once (meaning input db env) in
        let rows : meaning (DistinctOf input) db env ≡ own = rows-with_lists _ _ in
        let read = meaning-Distinct db other below.core ∙ ap (mapped once) s.core in
        subst (λ o. ReadsAs db other kinds o (a_whole kinds (Distinct below.core))) (sym rows)
        (whole-reads db other kinds own (Distinct below.core)
        (subst (AlikeOutcomes (Along (Shown kinds)) own) (sym read)
        (distinct-alike kinds (meaning input db env) (reads-wide db other kinds (meaning input db env) below s))))
    rows-read (AggregateOf input groups aggregates) outer unread env other form w given carried =
        let inner = kinds_of input in
        let below = readings source outer unread input in
        let start = below.before in
        let all = kinds_in inner groups ++ map (λ (aggregate : Aggr). aggregate.kind) aggregates in
        let functions = map (λ (aggregate : Aggr). aggregate.function) aggregates in
        let numbers = or_counted groups (aggregates_from (length groups) aggregates) in
        let list = or_unread unread_item (grouped start inner groups ++ arguments (inner ∷ outer) (start ∷ unread) aggregates) in
        let lower = Project below.block list [] in
        let classes = Aggregate lower (range_with_len 0 (length groups)) numbers in
        let counting = in_classes (range_with_len 0 (length groups)) (map (λ (aggregate : Aggr). aggregate.function) numbers) (arguments_on numbers other) in
        let given_back = or_unread (column 0 kinds.Integer) (columns_from 0 all) in
        let own = and_then (meaning input db env) (in_classes groups functions (arguments_on aggregates env)) in
        let rows : meaning (AggregateOf input groups aggregates) db env ≡ own = rows-with_lists _ _ in
        let here = groups-alike inner start outer unread env other carried groups aggregates form.groups form.aggregates w.1 (meaning input db env)
        (meaning below.block db other) (rows-read input outer unread env other form.input w.0 given carried).block in
        let read = meaning-Project db other classes given_back []
        ∙ ap (λ o. and_then o (each (items_values other given_back)))
        (meaning-Aggregate db other lower (range_with_len 0 (length groups)) numbers ∙ ap (λ o. and_then o counting) (meaning-Project db other below.block list [])) in
        subst (λ o. ReadsAs db other all o (a_whole all (Project classes given_back []))) (sym rows)
        (whole-reads db other all own (Project classes given_back []) (subst (AlikeOutcomes (Along (Shown all)) own) (sym read) here))
    rows-read (LimitOf input keys count) outer unread env other form w given carried =
        let kinds = kinds_of input in
        let below = readings source outer unread input in
        let s = rows-read input outer unread env other form.input w given carried in
        let all = all_keys (length kinds) keys in
        let own = mapped (λ bag. take count (sorted (printed_cmp keys) bag)) (meaning input db env) in
        let rows : meaning (LimitOf input keys count) db env ≡ own = rows-with_lists _ _ in
        let read = meaning-Limit db other below.core all count ∙ ap (mapped (λ bag. take count (sorted (printed_cmp all) bag))) s.core in
        subst (λ o. ReadsAs db other kinds o (a_whole kinds (Limit below.core all count))) (sym rows)
        (whole-reads db other kinds own (Limit below.core all count)
        (subst (AlikeOutcomes (Along (Shown kinds)) own) (sym read)
        (limit-alike kinds keys count form.keys (meaning input db env) (reads-wide db other kinds (meaning input db env) below s))))
    rows-read (ProvOf input) outer unread env other form w given carried = absurd w

    subs-shown : {m : _} (subs : Row_of-Sublink m) (scopes : List (List Kind)) (unread : List ℕ) (u v : Row) (env other : List Row) → SubsForm scopes subs
        → WritableSubs subs → EachSubTable (IsGiven source db) subs → Carries scopes unread (u ∷ env) (v ∷ other)
        → map (sublink_value db other v) (printed_subs source scopes unread subs) ≡ answers_of db env u subs
    subs-shown end_of-Sublink scopes unread u v env other form w given carried = refl
    subs-shown (more_of-Sublink kind tested query subs) scopes unread u v env other form w given carried =
        let operand = tested-same kind tested scopes (kinds_of query) form.fitting w.0 unread u v env other carried in
        let rows = (rows-read query scopes unread (u ∷ env) (v ∷ other) form.query w.1 given.0 carried).whole in
        let here = ap (λ a. both_then a (meaning (printed source scopes unread query) db (v ∷ other)) (sub_value kind)) operand
        ∙ then-same (Along (Shown (kinds_of query))) (sub_value kind) (sub_value-same kind tested scopes (kinds_of query) form.fitting)
        (optional_value tested env u) (meaning query db (u ∷ env)) (meaning (printed source scopes unread query) db (v ∷ other)) rows in
        λ i. here i ∷ subs-shown subs scopes unread u v env other form.others w.2 given.1 carried i

-- ---- answers

nothing_carried : Carries [] [] [] []
nothing_carried level place kind e = absurd (omega (arith, get-below [] place kind e))

pub answer-read : (source : ℕ → List Kind → Query) (db : Database) (q : Query) (kind : Kind) (more : List Kind) → kinds_of q ≡ kind ∷ more → WellFormed [] q
    → WritableQuery q → EachTable (IsGiven source db) q → meaning (printed_answer source q) db [] ≡ meaning q db []
answer-read source db q kind more columns form w given =
    let below = readings source [] [] q in
    listed-marks db [] (kinds_of q) below.before below.block (meaning q db []) (rows-read source db q [] [] [] [] form w given nothing_carried).block
    ∙ ap (λ kinds. mapped (map (mark kinds)) (meaning q db [])) columns ∙ unmarked (meaning q db [])
  where
    same_rows : (us : Bag) → map (mark (kind ∷ more)) us ≡ us
    same_rows [] = refl
    same_rows (u ∷ us) = ap (λ vs. u ∷ vs) (same_rows us)

    unmarked : (o : Outcome Bag) → mapped (map (mark (kind ∷ more))) o ≡ o
    unmarked (Good us) = ap Good (same_rows us)
    unmarked (Bad f) = refl
