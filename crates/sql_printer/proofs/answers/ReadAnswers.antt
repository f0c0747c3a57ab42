-- The tree of an answer's form is read as the answer.
use Rattle.std.proofs.Common.{◌≡◌, ℕ, suc, ◌+◌, Bool, true, false, List, [], ◌∷◌, length, map, Some, None, refl, sym, ap, subst, ◌∙◌, arith}
use Rattle.std.specs.Option.{option_map_or}
use Rattle.std.specs.Prelude.{slice_get}
use Rattle.perm_values.specs.Rows.{KeysWithin}
use Rattle.perm_values.specs.declared.key.Key.{Key}
use Rattle.perm_values.specs.declared.kind.Kind.{Kind}
use Rattle.bag_algebra.specs.Kinds.{kinds_of}
use Rattle.bag_algebra.specs.TablesRead.{EachTable}
use Rattle.bag_algebra.specs.WellFormed.{WellFormed}
use Rattle.bag_algebra.specs.declared.expr.Expr.TheVariants.{Col}
use Rattle.bag_algebra.specs.declared.query.Query.{Query}
use Rattle.perm_catalog.specs.Contents.{Contents}
use Rattle.sql_tree.specs.declared.query.Core.{Core}
use Rattle.sql_tree.specs.declared.query.QueryTree.{QueryTree}
use Rattle.sql_tree.specs.declared.query.SelectItem.{SelectItem}
use Rattle.name_meaning.specs.Froms.{in_clause, names_of, settled_columns, named_columns}
use Rattle.name_meaning.specs.Meanings.{Surroundings, query_means_at}
use Rattle.name_meaning.specs.Scopes.{scope_of}
use Rattle.name_meaning.specs.Statements.{alone, columns_of, query_meant}
use Rattle.name_meaning.specs.Trees.{item_of}
use Rattle.name_meaning.specs.declared.scope.Scope.{Scope}
use Rattle.tree_texts.specs.Trees.{AreItems, IsCore, IsQuery, an_item_tree, no_item_trees}
use Rattle.query_texts.specs.clauses.Names.{outermost}
use Rattle.query_texts.specs.declared.clauses.tables.TableNames.{TableNames}
use Rattle.query_texts.specs.forms.ShownQueries.{Framed, called, called_from, framed, selected, shown_answer, sources}
use Rattle.name_meaning.proofs.SettledKinds.{named-names}
use Rattle.sql_printer.specs.rows.Printed.{Readings, columns_from, or_unread, printed_answer, readings, unread_item}
use Rattle.sql_printer.specs.rows.PrintedExpressions.{before}
use Rattle.sql_printer.specs.rows.Writable.{WritableQuery}
use Rattle.sql_printer.specs.expressions.Scopes.{Few, marks}
use Rattle.sql_printer.specs.answers.ReadAs.{IsNamed, IsReadAs, Narrow, source_in}
use Rattle.sql_printer.proofs.expressions.PlainTrees.{plain-tree}
use Rattle.sql_printer.specs.expressions.Reading.{Finds}
use Rattle.sql_printer.proofs.cores.ReadBlocks.{select-read}
use Rattle.sql_printer.proofs.cores.ReadFroms.{columns-settled}
use Rattle.sql_printer.proofs.expressions.ReadLeaves.{column-read}
use Rattle.sql_printer.proofs.cores.ReadLists.{ListRead, item-read, no_items-read}
use Rattle.sql_printer.specs.cores.Queries.{out_columns}
use Rattle.sql_printer.proofs.cores.ReadQueries.{CoreRead, one-read}
use Rattle.sql_printer.proofs.expressions.ReadScopes.{finds}
use Rattle.sql_printer.proofs.answers.ReadTrees.{query-read}

-- ---- columns under given names

module _ (c : Contents) (has_from : Bool) (scope : Scope) (here : Surroundings) (own : List Kind) (front : ℕ) (finds : Finds (marks 1) (own ∷ []) (front ∷ []) here.scopes)
    (outside : here.argument ≡ false) where
  called-read : (place : ℕ) (all : List Kind) (names : List (List ℕ)) → length names ≡ length all
      → ((i : ℕ) (kind : Kind) → slice_get all i ≡ Some kind → slice_get own (place + i) ≡ Some kind) → {items : List SelectItem}
      → AreItems (called_from (place + 1) names) items
      → ListRead has_from scope here (map (item_of c) items) names all (λ n. columns_from (before (front ∷ []) 0 + place) all) []
  called-read place [] [] same kinds_are no_item_trees = no_items-read has_from scope here
  called-read place [] (name ∷ names) same kinds_are d = absurd (omega (arith, same))
  called-read place (kind ∷ all) [] same kinds_are d = absurd (omega (arith, same))
  called-read place (kind ∷ all) (name ∷ names) same kinds_are (an_item_tree {items = items} d ds) =
      let later : place + 1 ≡ suc place = omega arith in
      let far : before (front ∷ []) 0 + suc place ≡ suc (before (front ∷ []) 0 + place) = omega arith in
      let at_place : place + 0 ≡ place = omega arith in
      let rest = called-read (suc place) all names (omega (arith, same))
      (λ i k e. let on : suc place + i ≡ place + suc i = omega arith in ap (slice_get own) on ∙ kinds_are (suc i) k e)
      (subst (λ m. AreItems (called_from (m + 1) names) items) later ds) in
      let others = subst (λ m. ListRead has_from scope here (map (item_of c) items) names all (λ n. columns_from m all) []) far rest in
      item-read c has_from scope here items names kind all (λ n. Col 0 (before (front ∷ []) 0 + place))
      (λ n. columns_from (suc (before (front ∷ []) 0 + place)) all) [] [] 0 d (λ tree e. plain-tree c tt e)
      (λ tree e. column-read c here (marks 1) (own ∷ []) (front ∷ []) finds outside 0 place kind (sym (ap (slice_get own) at_place) ∙ kinds_are 0 kind refl) e) others refl

wide : (names : List (List ℕ)) (all : List Kind) → length names ≡ length all → length (out_columns names all) ≡ length names
wide [] all same = refl
wide (name ∷ names) [] same = absurd (omega (arith, same))
wide (name ∷ names) (kind ∷ all) same = ap suc (wide names all (omega (arith, same)))

-- ---- the whole

module _ (c : Contents) (tables : List TableNames) (q : Query) (kind : Kind) (more : List Kind) (some : kinds_of q ≡ kind ∷ more) (form : WellFormed [] q) (w : WritableQuery q)
    (named : EachTable (IsNamed c tables) q) (narrow : Narrow q) (few : Few (kinds_of q)) where
  abbrev own : List Kind
  own = kinds_of q

  abbrev given : Readings
  given = readings (source_in c tables) [] [] q

  abbrev form_given : Framed
  form_given = framed tables outermost q

  core-called : (name : List ℕ) (names : List (List ℕ)) → length (name ∷ names) ≡ length own → (tree : Core)
      → IsCore (selected false (called (name ∷ names)) (sources form_given.block) form_given.test []) tree
      → CoreRead c alone (name ∷ names) own (printed_answer (source_in c tables) q) tree
  core-called name names same tree d =
      let block = (query-read c tables q 0 [] [] form w named narrow).block few [] tt in
      let front = given.before in
      let scope = scope_of block.items in
      let here = in_clause scope [] true in
      let found = finds 1 (own ∷ []) (front ∷ []) (scope ∷ []) (block.scope, tt) in
      let none : front + 0 ≡ front = omega arith in
      let shown_list : columns_from front own ≡ or_unread unread_item (columns_from front own) = (λ i. columns_from front (some i)) ∙ (λ i. or_unread unread_item (columns_from front (sym some i))) in
      select-read c 1 alone own front form_given.block form_given.test given.block block false (called (name ∷ names)) (name ∷ names) own (or_unread unread_item (columns_from front own)) []
      (λ has item more e es. record {
        made = λ n. columns_from front own;
        read = subst (λ place. ListRead has scope here (map (item_of c) (item ∷ more)) (name ∷ names) own (λ n. columns_from place own) []) none
            (called-read c has scope here own front found refl 0 own (name ∷ names) same
            (λ i k e. let none : 0 + i ≡ i = omega arith in ap (slice_get own) none ∙ e) (an_item_tree e es));
        whole = shown_list;
      }) tree d

  pub answer-read : (names : List (List ℕ)) (keys : List Key) → length names ≡ length own → KeysWithin (length names) keys → (tree : QueryTree)
      → IsQuery (shown_answer tables q names keys) tree
      → IsReadAs c tree (record { query = printed_answer (source_in c tables) q; names = names; keys = keys })
  unfolding query_means_at
  answer-read [] keys same within tree d = let wider : length own ≡ suc (length more) = ap length some in absurd (omega (arith, same, wider))
  answer-read (name ∷ names) keys same within tree d =
      let all = name ∷ names in
      let r = one-read c keys None alone all own (printed_answer (source_in c tables) q) (subst (λ n. KeysWithin n keys) (sym (wide all own same)) within) d
      (λ core e. core-called name names same core e) in
      let known : columns_of (query_meant c tree) ≡ named_columns all own = ap (λ columns. option_map_or settled_columns columns []) r.0.columns ∙ columns-settled all own in
      record {
        whole = r.0.breaks;
        same = λ i. record { query = r.0.make [] i; names = (ap names_of known ∙ named-names all own same) i; keys = r.1 i };
      }
