-- Conditions and items with their sublinks, as their text is read.
use Rattle.std.proofs.Common.{◌≡◌, ℕ, zero, suc, ◌+◌, ◌<◌, Bool, true, false, ◌||◌, List, [], ◌∷◌, ◌++◌, length, map, pos, refl, sym, ap, subst, ◌∙◌, arith}
use Rattle.std.specs.Prelude.{slice_index_or}
use Rattle.std.proofs.lemmas.List.{length-map}
use Rattle.perm_values.specs.Rows.{value_at}
use Rattle.perm_values.specs.declared.kind.Kind.{Kind}
use Rattle.perm_values.specs.declared.kind.Kind.TheVariants as kinds
use Rattle.perm_values.specs.declared.value.Value.{Value}
use Rattle.perm_values.specs.declared.value.Value.TheVariants.{Integer}
use Rattle.bag_algebra.specs.Bags.{Row}
use Rattle.bag_algebra.specs.Children.{subs_denote, sublink_value}
use Rattle.bag_algebra.specs.Expressions.{value}
use Rattle.bag_algebra.specs.Meaning.{Database, sub_denote, meaning, optional_value, condition_on, items_on}
use Rattle.bag_algebra.specs.Means.{SubMeans, sub_value}
use Rattle.bag_algebra.specs.Outcome.{Outcome, Good, Bad, and_then, mapped, both, both_then, each}
use Rattle.bag_algebra.specs.WellFormed.{HasKind, ItemsForm, sub_kinds}
use Rattle.bag_algebra.specs.declared.expr.Expr.{Expr}
use Rattle.bag_algebra.specs.declared.expr.Item.{Item}
use Rattle.bag_algebra.specs.declared.query.Query.{Row_of-Sublink, more_of-Sublink, end_of-Sublink}
use Rattle.bag_algebra.specs.declared.query.Sublink.{Sublink}
use Rattle.bag_algebra.proofs.Truths.{or_true}
use Rattle.query_texts.specs.clauses.Unused.{used_in, items_use}
use Rattle.sql_printer.specs.rows.Carried.{Carries, Answered}
use Rattle.sql_printer.specs.rows.Printed.{idle, idle_in, nothing_asked, taken, printed_condition, condition_subs, asked_by, printed_items, first_beside}
use Rattle.sql_printer.specs.rows.PrintedExpressions.{asked_in, integer, printed_expr}
use Rattle.sql_printer.specs.rows.Writable.{Writable, WritableItems}
use Rattle.sql_printer.proofs.rows.AskedNumbers.{asks, Below, asks-append, below-append, uses-asked, asked-below, idle-asks, idle-below}
use Rattle.sql_printer.proofs.rows.PrintedValues.{answered-rest, beside-value, value-printed}
use Rattle.sql_printer.proofs.rows.ShownRows.{mark, WideRow, wide-next}
use Rattle.sql_printer.proofs.rows.TakenAnswers.{Answers, answer_at, looked_at, taken-answers, answered-taken}

-- ---- without sublinks

none_below : (numbers : List ℕ) → Below 0 numbers → numbers ≡ []
none_below [] below = refl
none_below (number ∷ numbers) below = absurd (omega (arith, below.0))

pub value-alone : (scopes : List (List Kind)) (unread : List ℕ) (u v : Row) (env other : List Row) → Carries scopes unread (u ∷ env) (v ∷ other)
    → (part : Expr) (kind : Kind) → HasKind scopes [] part kind → Writable part → value (printed_expr unread 0 part) v other [] ≡ value part u env []
value-alone scopes unread u v env other carried part kind h w =
    let none = none_below (asked_in part) (asked-below scopes [] part kind h) in
    value-printed scopes [] unread u v env other carried [] [] part kind 0 h w (subst (Answered [] [] 0) (sym none) tt)

-- ---- the answers of sublinks

abbrev pub answers_of : Database → List Row → Row → {m : _} → Row_of-Sublink m → Answers
answers_of db env u end_of-Sublink = []
answers_of db env u (more_of-Sublink kind tested query subs) =
    both_then (optional_value tested env u) (meaning query db (u ∷ env)) (sub_value kind) ∷ answers_of db env u subs

module _ (db : Database) (env : List Row) (u : Row) where
  answers-looked : {m : _} (subs : Row_of-Sublink m) → (sub_denote subs db env).answers u ≡ looked_at (answers_of db env u subs)
  answers-looked end_of-Sublink = refl
  answers-looked (more_of-Sublink kind tested query subs) =
      ap (both (λ v vs. v ∷ vs) (both_then (optional_value tested env u) (meaning query db (u ∷ env)) (sub_value kind))) (answers-looked subs)

  pub length-answers : {m : _} (subs : Row_of-Sublink m) → length (answers_of db env u subs) ≡ length (sub_kinds subs)
  length-answers end_of-Sublink = refl
  length-answers (more_of-Sublink kind tested query subs) = ap suc (length-answers subs)

  listed-looked : (subs : List Sublink) → (subs_denote subs db env).answers u ≡ looked_at (map (sublink_value db env u) subs)
  listed-looked [] = refl
  listed-looked (sub ∷ subs) = ap (both (λ v vs. v ∷ vs) (sublink_value db env u sub)) (listed-looked subs)

module _ (f : Sublink → Outcome Value) where
  at-map : (subs : List Sublink) (number : ℕ) → number < length subs → f (slice_index_or subs number nothing_asked) ≡ answer_at (map f subs) number
  at-map [] number h = absurd (omega (arith, h))
  at-map (sub ∷ subs) zero h = refl
  at-map (sub ∷ subs) (suc number) h = at-map subs number (omega (arith, h))

  taken-values : (subs : List Sublink) (numbers : List ℕ) → Below (length subs) numbers
      → map f (taken subs numbers) ≡ map (answer_at (map f subs)) numbers
  taken-values subs [] h = refl
  taken-values subs (number ∷ numbers) h = λ i. at-map subs number h.0 i ∷ taken-values subs numbers h.1 i

-- ---- which are taken

-- each number is either spared or asked for
covered : (used : ℕ → Bool) (count : ℕ) (numbers : List ℕ) (number : ℕ) (b : Bool) → used number ≡ b → used number ≡ asks numbers number
    → number < count → asks (idle used count ++ numbers) number ≡ true
covered used count numbers number true e agrees h =
    asks-append number (idle used count) numbers
    ∙ ap (λ c. asks (idle used count) number || c) (sym agrees ∙ e) ∙ or_true (asks (idle used count) number)
covered used count numbers number false e agrees h =
    asks-append number (idle used count) numbers
    ∙ ap (λ c. c || asks numbers number) (idle-asks used count 0 number (omega arith) (omega (arith, h)) e)

items_use-asked : (items : List Item) (number : ℕ) → items_use items number ≡ asks (asked_by items) number
items_use-asked [] number = refl
items_use-asked (item ∷ items) number =
    (λ i. uses-asked number item.expr i || items_use-asked items number i) ∙ sym (asks-append number (asked_in item.expr) (asked_by items))

items-below : (scopes : List (List Kind)) (subs : List Kind) (items : List Item) → ItemsForm scopes subs items → Below (length subs) (asked_by items)
items-below scopes subs [] form = tt
items-below scopes subs (item ∷ items) form =
    below-append (length subs) (asked_in item.expr) (asked_by items) (asked-below scopes subs item.expr item.kind (form 0 item (omega arith)))
    (items-below scopes subs items (λ k d h. form (suc k) d (omega (arith, h))))

-- ---- what comes after the answers

and_then-mapped : {X Y Z : Type 0} (h : X → Y) (f : X → Outcome Z) (g : Y → Outcome Z) → ((x : X) → g (h x) ≡ f x) → (o : Outcome X)
    → and_then (mapped h o) g ≡ and_then o f
and_then-mapped h f g same (Good x) = same x
and_then-mapped h f g same (Bad k) = refl

wide-each : (f : Item → Outcome Value) (items : List Item) → WideRow (length items) (each f items)
wide-each f [] = refl
wide-each f (item ∷ items) = wide-next (length items) (f item) (each f items) (wide-each f items)

wide-after : {X : Type 0} (width : ℕ) (f : X → Outcome Row) → ((x : X) → WideRow width (f x)) → (o : Outcome X) → WideRow width (and_then o f)
wide-after width f wide (Good x) = wide x
wide-after width f wide (Bad g) = tt

unread-marked : {X : Type 0} (o : Outcome X) → and_then o (λ x. Good (Integer (pos 1) ∷ [])) ≡ mapped (mark []) (and_then o (λ x. Good []))
unread-marked (Good x) = refl
unread-marked (Bad f) = refl

same-marked : (kind : Kind) (more : List Kind) (o : Outcome Row) → o ≡ mapped (mark (kind ∷ more)) o
same-marked kind more (Good row) = refl
same-marked kind more (Bad f) = refl

-- ---- a node's expressions

module _ (db : Database) (scopes : List (List Kind)) (unread : List ℕ) (u v : Row) (env other : List Row)
    (carried : Carries scopes unread (u ∷ env) (v ∷ other)) {m : _} (subs : Row_of-Sublink m) (asked : List Sublink)
    (same : map (sublink_value db other v) asked ≡ answers_of db env u subs) where
  count_is : length asked ≡ length (sub_kinds subs)
  count_is = sym (length-map asked (sublink_value db other v)) ∙ ap length same ∙ length-answers db env u subs

  answers-read : (first numbers : List ℕ) → Below (length asked) (first ++ numbers)
      → ((number : ℕ) → number < length asked → asks (first ++ numbers) number ≡ true)
      → (subs_denote (taken asked (first ++ numbers)) db other).answers v
      ≡ mapped (λ vs. map (value_at vs) (first ++ numbers)) ((sub_denote subs db env).answers u)
  answers-read first numbers below all =
      let f = sublink_value db other v in
      let os = answers_of db env u subs in
      let count : length asked ≡ length os = sym (length-map asked f) ∙ ap length same in
      listed-looked db other v (taken asked (first ++ numbers))
      ∙ ap looked_at (taken-values f asked (first ++ numbers) below)
      ∙ ap (λ found. looked_at (map (answer_at found) (first ++ numbers))) same
      ∙ taken-answers os (first ++ numbers) (subst (λ n. Below n (first ++ numbers)) count below)
      (λ number h. all number (subst (λ n. number < n) (sym count) h))
      ∙ ap (mapped (λ vs. map (value_at vs) (first ++ numbers))) (sym (answers-looked db env u subs))

  all-below : (items : List Item) → ItemsForm scopes (sub_kinds subs) items
      → Below (length asked) (idle (items_use items) (length asked) ++ asked_by items)
  all-below items form =
      below-append (length asked) (idle (items_use items) (length asked)) (asked_by items)
      (idle-below (items_use items) (length asked) 0 (length asked) (omega arith))
      (subst (λ n. Below n (asked_by items)) (sym count_is) (items-below scopes (sub_kinds subs) items form))

  all-covered : (items : List Item) (number : ℕ) → number < length asked
      → asks (idle (items_use items) (length asked) ++ asked_by items) number ≡ true
  all-covered items number within =
      covered (items_use items) (length asked) (asked_by items) number (items_use items number) refl (items_use-asked items number) within

  pub condition-read : (condition : Expr) → HasKind scopes (sub_kinds subs) condition kinds.Boolean → Writable condition
      → condition_on (printed_condition unread asked condition) other (subs_denote (condition_subs asked condition) db other) v
      ≡ condition_on condition env (sub_denote subs db env) u
  condition-read condition h w =
      let first = idle_in condition asked in
      let numbers = asked_in condition in
      let count = length first in
      let spares : Below (length asked) first = idle-below (used_in condition) (length asked) 0 (length asked) (omega arith) in
      let known = subst (λ n. Below n numbers) (sym count_is) (asked-below scopes (sub_kinds subs) condition kinds.Boolean h) in
      ap (λ o. and_then o (value (printed_condition unread asked condition) v other))
      (answers-read first numbers (below-append (length asked) first numbers spares known)
      (λ number within. covered (used_in condition) (length asked) numbers number (used_in condition number) refl (uses-asked number condition) within))
      ∙ and_then-mapped (λ vs. map (value_at vs) (first ++ numbers)) (value condition u env) (value (printed_condition unread asked condition) v other)
      (λ vs. beside-value v other (map (value_at vs) (first ++ numbers)) kinds.Boolean count (printed_expr unread count condition)
      ∙ value-printed scopes (sub_kinds subs) unread u v env other carried vs (map (value_at vs) (first ++ numbers)) condition kinds.Boolean count h w
      (answered-taken vs first numbers))
      ((sub_denote subs db env).answers u)

  items-read : (given read : List Value) (items : List Item) (n : ℕ) → ItemsForm scopes (sub_kinds subs) items → WritableItems items
      → Answered read given n (asked_by items)
      → each (λ (item : Item). value item.expr v other read) (printed_items unread n items) ≡ each (λ (item : Item). value item.expr u env given) items
  items-read given read [] n form w a = refl
  items-read given read (item ∷ items) n form w a =
      let answered = answered-rest read given n (asked_in item.expr) (asked_by items) a in
      let here = value-printed scopes (sub_kinds subs) unread u v env other carried given read item.expr item.kind n (form 0 item (omega arith)) w.0 answered.0 in
      let rest = items-read given read items (n + length (asked_in item.expr)) (λ k d h. form (suc k) d (omega (arith, h))) w.1 answered.1 in
      λ i. both (λ x xs. x ∷ xs) (here i) (rest i)

  -- an item beside which unused sublinks stand, and the items after it
  first-read : (given read : List Value) (item : Item) (items : List Item) (count : ℕ) → ItemsForm scopes (sub_kinds subs) (item ∷ items)
      → WritableItems (item ∷ items) → Answered read given count (asked_by (item ∷ items))
      → each (λ (item : Item). value item.expr v other read) (first_beside unread count (item ∷ items))
      ≡ each (λ (item : Item). value item.expr u env given) (item ∷ items)
  first-read given read item items count form w a =
      ap (λ o. both (λ x xs. x ∷ xs) o (each (λ (item : Item). value item.expr v other read) (printed_items unread (count + length (asked_in item.expr)) items)))
      (beside-value v other read item.kind count (printed_expr unread count item.expr))
      ∙ items-read given read (item ∷ items) count form w a

  -- the values of items; where there are none, one that is read nowhere
  pub items-marked : (items : List Item) → ItemsForm scopes (sub_kinds subs) items → WritableItems items
      → items_on (first_beside unread (length (idle (items_use items) (length asked))) items) other
      (subs_denote (taken asked (idle (items_use items) (length asked) ++ asked_by items)) db other) v
      ≡ mapped (mark (map (λ (item : Item). item.kind) items)) (items_on items env (sub_denote subs db env) u)
  items-marked [] form w =
      let first = idle (items_use []) (length asked) in
      let given = (sub_denote subs db env).answers u in
      let printed : List Value → Outcome Row = λ vs. each (λ (item : Item). value item.expr v other vs) (first_beside unread (length first) []) in
      ap (λ o. and_then o printed) (answers-read first [] (all-below [] form) (all-covered []))
      ∙ and_then-mapped (λ vs. map (value_at vs) (first ++ [])) (λ vs. Good (Integer (pos 1) ∷ [])) printed
      (λ vs. ap (λ o. both (λ x xs. x ∷ xs) o (Good [])) (beside-value v other (map (value_at vs) (first ++ [])) kinds.Integer (length first) (integer 1)))
      given
      ∙ unread-marked given
  items-marked (item ∷ items) form w =
      let all = item ∷ items in
      let first = idle (items_use all) (length asked) in
      let given = (sub_denote subs db env).answers u in
      let own : List Value → Outcome Row = λ vs. each (λ (item : Item). value item.expr u env vs) all in
      let printed : List Value → Outcome Row = λ vs. each (λ (item : Item). value item.expr v other vs) (first_beside unread (length first) all) in
      ap (λ o. and_then o printed) (answers-read first (asked_by all) (all-below all form) (all-covered all))
      ∙ and_then-mapped (λ vs. map (value_at vs) (first ++ asked_by all)) own printed
      (λ vs. first-read vs (map (value_at vs) (first ++ asked_by all)) item items (length first) form w (answered-taken vs first (asked_by all)))
      given
      ∙ same-marked item.kind (map (λ (item : Item). item.kind) items) (and_then given own)

-- items have as many values as kinds
pub items-wide : (items : List Item) (env : List Row) (subs : SubMeans) (u : Row) → WideRow (length (map (λ (item : Item). item.kind) items)) (items_on items env subs u)
items-wide items env subs u =
    subst (λ n. WideRow n (items_on items env subs u)) (sym (length-map items (λ (item : Item). item.kind)))
    (wide-after (length items) (λ vs. each (λ (item : Item). value item.expr u env vs) items)
    (λ vs. wide-each (λ (item : Item). value item.expr u env vs) items) (subs.answers u))
