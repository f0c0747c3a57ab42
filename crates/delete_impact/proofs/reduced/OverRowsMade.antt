-- What code makes of a monotone query over some rows of a table, node by node.
use Rattle.std.proofs.Common.{◌≡◌, ℕ, Bool, true, false, ◌&&◌, List, [], ◌∷◌, IsTrue, Result, Ok, Err, IfOk, refl, sym, ap, ◌∙◌, subst}
use mathlib.Core.Bool.{true≢false}
use Rattle.perm_values.proofs.Taken.{opened}
use Rattle.perm_values.specs.declared.key.Key.{Key}
use Rattle.perm_values.specs.declared.kind.Kind.{Kind}
use Rattle.perm_values.specs.declared.no_memory.NoMemory.{NoMemory}
use Rattle.bag_algebra.proofs.Truths.{left-true, right-true}
use Rattle.bag_algebra.specs.built.Forms.{Filter_alone-is, Join_alone-is}
use Rattle.bag_algebra.specs.built.Openings.{Base-is, Filter-is, Project-is, Project_with-is, Join-is, Apply-is, Union-is, Intersect-is, Except-is, Distinct-is, Aggregate-is, Limit-is, Prov-is}
use Rattle.bag_algebra.specs.built.Patterns.{BaseOf, FilterOf, ProjectOf, JoinOf, UnionOf, DistinctOf}
use Rattle.bag_algebra.specs.built.Scopes.{no_subs-row_of_subs}
use Rattle.bag_algebra.specs.declared.expr.Expr.{Expr}
use Rattle.bag_algebra.specs.declared.expr.Item.{Item}
use Rattle.bag_algebra.specs.declared.query.Aggr.{Aggr}
use Rattle.bag_algebra.specs.declared.query.JoinKind.{JoinKind}
use Rattle.bag_algebra.specs.declared.query.Label.{Label}
use Rattle.bag_algebra.specs.declared.query.Query.{Query, end_of-Sublink}
use Rattle.bag_algebra.specs.declared.query.Query.TheVariants.{Table, Base, Filter, Project, Join, Apply, Union, Intersect, Except, Distinct, Aggregate, Limit, Prov}
use Rattle.bag_algebra.specs.declared.query.Sublink.{Sublink}
use Rattle.query_facts.specs.monotone.Monotone.{is_inner, is_monotone, is_relation, is_whole_table}
use Rattle.query_facts.proofs.Nodes.{is_monotone-Base, whole_table-is}
use Rattle.delete_impact.specs.reduced.Reduced.{over_rows, rows_of}

module _ (id : ℕ) (condition : Expr) where
  -- p is the query over the rows of the table on which the condition is true, where the query is monotone
  abbrev pub Made : Query → Query → Type 0
  Made q p = IsTrue (is_monotone q) → p ≡ over_rows id condition q

  -- what stands in the place of the input of a source
  abbrev pub MadeSource : Query → Query → Type 0
  MadeSource q p = (other : ℕ) (kinds : List Kind) → q ≡ Table other kinds → p ≡ rows_of id condition other kinds

  pub made-Base : (input i : Query) (places given : List ℕ) (label named : Label) (p : Query) → MadeSource input i → given ≡ places → named ≡ label → p ≡ Base i given named →
      Made (Base input places label) p
  made-Base input i places given label named p h e f made m =
      let is = sym (is_monotone-Base input places label) ∙ m in
      let table = whole_table-is input places (right-true (is_relation label) (is_whole_table input places) is) in
      let source : i ≡ over_rows id condition input = h table.0 table.1 table.2 ∙ ap (over_rows id condition) (sym table.2) in
      made ∙ Base-is i given named ∙ (λ k. BaseOf (source k) (e k) (f k)) ∙ ap (over_rows id condition) (sym (Base-is input places label))

  pub made-Filter : (input i : Query) (test given : Expr) (subs : List Sublink) (p : Query) → Made input i → given ≡ test → p ≡ FilterOf i given [] end_of-Sublink →
      Made (Filter input test subs) p
  made-Filter input i test given [] p h e made m =
      made ∙ (λ k. FilterOf (h (sym (ap is_monotone (Filter_alone-is input test)) ∙ m) k) (e k) [] end_of-Sublink) ∙ ap (over_rows id condition) (sym (Filter_alone-is input test))
  made-Filter input i test given (sub ∷ subs) p h e made m =
      absurd (true≢false (sym m ∙ ap is_monotone (Filter-is input test (sub ∷ subs)) ∙ ap (λ b. b && is_monotone input) (no_subs-row_of_subs (sub ∷ subs))))

  pub made-Project : (input i : Query) (items given : List Item) (subs : List Sublink) (p : Query) → Made input i → given ≡ items → p ≡ ProjectOf i given [] end_of-Sublink →
      Made (Project input items subs) p
  made-Project input i items given [] p h e made m =
      made ∙ (λ k. ProjectOf (h (sym (ap is_monotone (Project-is input items)) ∙ m) k) (e k) [] end_of-Sublink) ∙ ap (over_rows id condition) (sym (Project-is input items))
  made-Project input i items given (sub ∷ subs) p h e made m =
      absurd (true≢false (sym m ∙ ap is_monotone (Project_with-is input items (sub ∷ subs)) ∙ ap (λ b. b && is_monotone input) (no_subs-row_of_subs (sub ∷ subs))))

  no-inner : (b c : Bool) → (b && false) && c ≡ false
  no-inner true c = refl
  no-inner false c = refl

  pub made-Join : (kind : JoinKind) (left l right r : Query) (test given : Expr) (subs : List Sublink) (p : Query) → Made left l → Made right r → given ≡ test →
      p ≡ JoinOf kind l r given [] end_of-Sublink → Made (Join kind left right test subs) p
  made-Join kind left l right r test given [] p h g e made m =
      let is : ((is_inner kind && true) && (is_monotone left && is_monotone right)) ≡ true = sym (ap is_monotone (Join_alone-is kind left right test)) ∙ m in
      let sides = right-true (is_inner kind && true) (is_monotone left && is_monotone right) is in
      made ∙ (λ k. JoinOf kind (h (left-true (is_monotone left) (is_monotone right) sides) k) (g (right-true (is_monotone left) (is_monotone right) sides) k) (e k) [] end_of-Sublink)
      ∙ ap (over_rows id condition) (sym (Join_alone-is kind left right test))
  made-Join kind left l right r test given (sub ∷ subs) p h g e made m =
      absurd (true≢false (sym m ∙ ap is_monotone (Join-is kind left right test (sub ∷ subs))
      ∙ ap (λ b. (is_inner kind && b) && (is_monotone left && is_monotone right)) (no_subs-row_of_subs (sub ∷ subs))
      ∙ no-inner (is_inner kind) (is_monotone left && is_monotone right)))

  pub made-Union : (all : Bool) (left l right r p : Query) → Made left l → Made right r → p ≡ Union all l r → Made (Union all left right) p
  made-Union all left l right r p h g made m =
      let is : (is_monotone left && is_monotone right) ≡ true = sym (ap is_monotone (Union-is all left right)) ∙ m in
      made ∙ Union-is all l r
      ∙ (λ k. UnionOf all (h (left-true (is_monotone left) (is_monotone right) is) k) (g (right-true (is_monotone left) (is_monotone right) is) k))
      ∙ ap (over_rows id condition) (sym (Union-is all left right))

  pub made-Distinct : (input i p : Query) → Made input i → p ≡ Distinct i → Made (Distinct input) p
  made-Distinct input i p h made m =
      made ∙ Distinct-is i ∙ (λ k. DistinctOf (h (sym (ap is_monotone (Distinct-is input)) ∙ m) k)) ∙ ap (over_rows id condition) (sym (Distinct-is input))

  -- ---- what no monotone query has

  never-made : (q p : Query) → is_monotone q ≡ false → Made q p
  never-made q p e m = absurd (true≢false (sym m ∙ e))

  pub made-Table : (other : ℕ) (kinds : List Kind) (p : Query) → Made (Table other kinds) p
  made-Table other kinds p = never-made (Table other kinds) p refl

  pub made-Apply : (kind : JoinKind) (left right p : Query) → Made (Apply kind left right) p
  made-Apply kind left right p = never-made (Apply kind left right) p (ap is_monotone (Apply-is kind left right))

  pub made-Intersect : (all : Bool) (left right p : Query) → Made (Intersect all left right) p
  made-Intersect all left right p = never-made (Intersect all left right) p (ap is_monotone (Intersect-is all left right))

  pub made-Except : (all : Bool) (left right p : Query) → Made (Except all left right) p
  made-Except all left right p = never-made (Except all left right) p (ap is_monotone (Except-is all left right))

  pub made-Aggregate : (input : Query) (groups : List ℕ) (aggregates : List Aggr) (p : Query) → Made (Aggregate input groups aggregates) p
  made-Aggregate input groups aggregates p = never-made (Aggregate input groups aggregates) p (ap is_monotone (Aggregate-is input groups aggregates))

  pub made-Limit : (input : Query) (keys : List Key) (count : ℕ) (p : Query) → Made (Limit input keys count) p
  made-Limit input keys count p = never-made (Limit input keys count) p (ap is_monotone (Limit-is input keys count))

  pub made-Prov : (input p : Query) → Made (Prov input) p
  made-Prov input p = never-made (Prov input) p (ap is_monotone (Prov-is input))

  -- ---- as the arms of the code give them

  onward : (result : Result Query NoMemory) (P : Query → Type 0) (q query : Query) → query ≡ q → IfOk result P → ((p : Query) → P p → Made q p) → IfOk result (Made query)
  onward (Ok p) P q query is h next = subst (λ one. Made one p) (sym is) (next p h)
  onward (Err lack) P q query is h next = tt

  -- what was gone through is what the box holds
  held : (input got i : Query) → got ≡ input → Made got i → Made input i
  held input got i e h = subst (λ one. Made one i) e h

  pub base-answer : (query input got : Query) (places : List ℕ) (label : Label) → query ≡ Base input places label → got ≡ input →
      (r : Result Query NoMemory) (i : Query) → IfOk r (MadeSource got) → r ≡ Ok i →
      (s : Result (List ℕ) NoMemory) (given : List ℕ) → IfOk s (λ copy. copy ≡ places) → s ≡ Ok given →
      (l : Result Label NoMemory) (named : Label) → IfOk l (λ copy. copy ≡ label) → l ≡ Ok named →
      (result : Result Query NoMemory) → IfOk result (λ p. p ≡ Base i given named) → IfOk result (Made query)
  base-answer query input got places label is box r i h e s given k f l named j g result made =
      onward result (λ p. p ≡ Base i given named) (Base input places label) query is made (λ p whole.
      made-Base input i places given label named p (subst (λ one. MadeSource one i) box (opened (MadeSource got) r i e h))
      (opened (λ copy. copy ≡ places) s given f k) (opened (λ copy. copy ≡ label) l named g j) whole)

  pub filter-answer : (query input got : Query) (test : Expr) (subs : List Sublink) → query ≡ Filter input test subs → got ≡ input →
      (r : Result Query NoMemory) (i : Query) → IfOk r (Made got) → r ≡ Ok i → (t : Result Expr NoMemory) (given : Expr) → IfOk t (λ copy. copy ≡ test) → t ≡ Ok given →
      (result : Result Query NoMemory) → IfOk result (λ p. p ≡ FilterOf i given [] end_of-Sublink) → IfOk result (Made query)
  filter-answer query input got test subs is box r i h e t given k f result made =
      onward result (λ p. p ≡ FilterOf i given [] end_of-Sublink) (Filter input test subs) query is made (λ p whole.
      made-Filter input i test given subs p (held input got i box (opened (Made got) r i e h)) (opened (λ copy. copy ≡ test) t given f k) whole)

  pub project-answer : (query input got : Query) (items : List Item) (subs : List Sublink) → query ≡ Project input items subs → got ≡ input →
      (r : Result Query NoMemory) (i : Query) → IfOk r (Made got) → r ≡ Ok i → (t : Result (List Item) NoMemory) (given : List Item) → IfOk t (λ copy. copy ≡ items) → t ≡ Ok given →
      (result : Result Query NoMemory) → IfOk result (λ p. p ≡ ProjectOf i given [] end_of-Sublink) → IfOk result (Made query)
  project-answer query input got items subs is box r i h e t given k f result made =
      onward result (λ p. p ≡ ProjectOf i given [] end_of-Sublink) (Project input items subs) query is made (λ p whole.
      made-Project input i items given subs p (held input got i box (opened (Made got) r i e h)) (opened (λ copy. copy ≡ items) t given f k) whole)

  pub join-answer : (query : Query) (kind : JoinKind) (left right first second : Query) (test : Expr) (subs : List Sublink) → query ≡ Join kind left right test subs →
      first ≡ left → second ≡ right → (r : Result Query NoMemory) (l : Query) → IfOk r (Made first) → r ≡ Ok l →
      (s : Result Query NoMemory) (m : Query) → IfOk s (Made second) → s ≡ Ok m → (t : Result Expr NoMemory) (given : Expr) → IfOk t (λ copy. copy ≡ test) → t ≡ Ok given →
      (result : Result Query NoMemory) → IfOk result (λ p. p ≡ JoinOf kind l m given [] end_of-Sublink) → IfOk result (Made query)
  join-answer query kind left right first second test subs is box chest r l h e s m k f t given j g result made =
      onward result (λ p. p ≡ JoinOf kind l m given [] end_of-Sublink) (Join kind left right test subs) query is made (λ p whole.
      made-Join kind left l right m test given subs p (held left first l box (opened (Made first) r l e h)) (held right second m chest (opened (Made second) s m f k))
      (opened (λ copy. copy ≡ test) t given g j) whole)

  pub union-answer : (query : Query) (all : Bool) (left right first second : Query) → query ≡ Union all left right → first ≡ left → second ≡ right →
      (r : Result Query NoMemory) (l : Query) → IfOk r (Made first) → r ≡ Ok l → (s : Result Query NoMemory) (m : Query) → IfOk s (Made second) → s ≡ Ok m →
      (result : Result Query NoMemory) → IfOk result (λ p. p ≡ Union all l m) → IfOk result (Made query)
  union-answer query all left right first second is box chest r l h e s m k f result made =
      onward result (λ p. p ≡ Union all l m) (Union all left right) query is made (λ p whole.
      made-Union all left l right m p (held left first l box (opened (Made first) r l e h)) (held right second m chest (opened (Made second) s m f k)) whole)

  pub distinct-answer : (query input got i : Query) → query ≡ Distinct input → got ≡ input → Made got i →
      (result : Result Query NoMemory) → IfOk result (λ p. p ≡ Distinct i) → IfOk result (Made query)
  distinct-answer query input got i is box h result made =
      onward result (λ p. p ≡ Distinct i) (Distinct input) query is made (λ p whole. made-Distinct input i p (held input got i box h) whole)

  -- a copy of what no monotone query has
  pub copy-answer : (query q copied : Query) (result : Result Query NoMemory) → query ≡ q → ((p : Query) → Made q p) → IfOk result (λ copy. copy ≡ copied) → IfOk result (Made query)
  copy-answer query q copied result is other made = onward result (λ copy. copy ≡ copied) q query is made (λ p whole. other p)
