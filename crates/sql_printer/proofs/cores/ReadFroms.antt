-- FROM over a subquery whose query is read, and the scope of its columns.
use Rattle.std.proofs.Common.{◌≡◌, ℕ, suc, ◌+◌, ◌<◌, ◌^◌, List, [], ◌∷◌, ◌++◌, length, map, Option, Some, None, option_map, refl, sym, ap, subst, ◌∙◌}
use Rattle.std.specs.Fmt.{decimal}
use Rattle.std.specs.Option.{option_map_or}
use Rattle.perm_values.specs.declared.kind.Kind.{Kind}
use Rattle.perm_values.specs.declared.kind.Kind.TheVariants as kinds
use Rattle.bag_algebra.specs.declared.query.Query.{Query}
use Rattle.perm_catalog.specs.Contents.{Contents}
use Rattle.sql_tree.specs.declared.name.Name.{Name}
use Rattle.sql_tree.specs.declared.query.QueryTree.{QueryTree}
use Rattle.sql_tree.specs.declared.source.FromItem.{FromItem}
use Rattle.sql_tree.specs.declared.source.FromSource.TheVariants.{Inner}
use Rattle.sql_tree.specs.declared.source.FromTree.{FromTree, roll-FromTree}
use Rattle.sql_tree.specs.declared.source.ScopeMark.{ScopeMark}
use Rattle.sql_tree.specs.declared.source.ScopeMark.TheVariants.{Plain}
use Rattle.name_meaning.proofs.Equations.{fromitem-record, fromsource-inner, fromtree-record, token}
use Rattle.name_meaning.specs.Froms.{FromItemPart, FromPart, ItemMeant, SourcePart, external, first_item, from_all, in_from, item_meant, label_of, names_of, read_of, read_query, scope_name, settled_columns, named_columns}
use Rattle.name_meaning.specs.Meanings.{Around, QueryMeant}
use Rattle.name_meaning.specs.Scopes.{ScopeItem, numbered_columns, scope_of}
use Rattle.name_meaning.specs.Trees.{from_item_of, from_of, query_of, source_of}
use Rattle.name_meaning.specs.declared.scope.Scope.{Scope}
use Rattle.tree_texts.specs.Forms as f
use Rattle.tree_texts.specs.Forms.{QueryForm}
use Rattle.tree_texts.specs.Trees.{AreSources, IsQuery, no_join_trees, source_trees, subquery_tree}
use Rattle.sql_printer.proofs.rows.ShownRows.{shown_kinds}
use Rattle.sql_printer.specs.expressions.Scopes.{IsPrintedScope, Numbered, marks}
use Rattle.sql_printer.specs.cores.Queries.{QueryRead, numbered_names, out_columns}
use Rattle.sql_printer.proofs.cores.ReadCores.{FromRead}

-- ---- names of columns

-- where there is no column, that of one that nothing reads
abbrev pub listed_names : ℕ → ℕ → List Kind → List (List ℕ)
listed_names depth number [] = (marks depth ++ decimal 0) ∷ []
listed_names depth number (kind ∷ more) = numbered_names depth number (kind ∷ more)

pub columns-settled : (names : List (List ℕ)) (all : List Kind) → settled_columns (out_columns names all) ≡ named_columns names all
columns-settled [] all = refl
columns-settled (name ∷ names) [] = refl
columns-settled (name ∷ names) (kind ∷ more) = ap (λ others. record { name = name; kind = kind } ∷ others) (columns-settled names more)

-- ---- one subquery

abbrev pub item_of_query : List ℕ → List (List ℕ) → List Kind → ScopeItem
item_of_query name names all = record { name = name; columns = named_columns names all }

plain-of : (m : QueryMeant) (names : List (List ℕ)) (places : Option (List ℕ)) (q : Query) → places ≡ None → m.make [] ≡ q
    → option_map_or (external (m.make []) names) places (m.make []) ≡ q
plain-of m names places q e made = ap (λ found. option_map_or (external (m.make []) names) found (m.make [])) e ∙ made

-- an item whose query is read
pub query_item-read : (at : ℕ) (name label : List ℕ) (m : QueryMeant) (names : List (List ℕ)) (all : List Kind) (q : Query) → QueryRead m names all q
    → FromRead (first_item [] (item_meant at Plain [] name label (read_query m))) (item_of_query name names all ∷ []) q
query_item-read at name label m names all q r = record {
  breaks = λ i. r.breaks i ++ [] ++ [];
  items_are = ap (λ columns. option_map (λ known. record { name = name; columns = known } ∷ []) (option_map settled_columns columns)) r.columns
      ∙ ap (λ known. Some (record { name = name; columns = known } ∷ [])) (columns-settled names all);
  query_is = plain-of m (option_map_or (λ columns. names_of (settled_columns columns)) m.columns []) m.places q r.places (r.make []);
}

module _ (c : Contents) (outer : List Scope) where
  -- what an item is, from its source, its name and its mark
  abbrev pub item_from : ℕ → List (List ℕ) → SourcePart → Option Name → ScopeMark → Around → ItemMeant
  item_from at earlier source alias mark around = item_meant at mark earlier (scope_name source alias) (label_of source alias) (read_of c around source)

  pub item-is : (around : Around) (earlier : List (List ℕ)) (item : FromItem) (tree : QueryTree) (alias : Name) → item.source ≡ Inner tree → item.alias ≡ Some alias → item.mark ≡ Plain
      → (from_item_of c item).means around earlier
      ≡ item_meant item.at Plain earlier alias.text alias.text (read_query ((query_of c tree).means around))
  unfolding token
  item-is around earlier item tree alias source named mark =
      ap (λ (part : FromItemPart). part.means around earlier) (fromitem-record c item.at item.source item.alias item.mark)
      ∙ (λ i. item_from item.at earlier ((ap (source_of c) source ∙ fromsource-inner c tree) i) (named i) (mark i) around)

  pub from-is : (item : FromItem) → from_all outer (map (from_of c) (roll-FromTree (record { first = item; joins = [] }) ∷ []))
      ≡ first_item [] ((from_item_of c item).means (in_from outer) [])
  unfolding token
  from-is item = ap (λ (part : FromPart). part.means outer []) (fromtree-record c item [])

  -- FROM over the tree of a subquery
  pub subquery-read : {q : QueryForm} {name : List ℕ} {trees : List FromTree} (names : List (List ℕ)) (all : List Kind) (query : Query)
      → AreSources (f.from (f.subquery q name) f.no_joins) trees
      → ((tree : QueryTree) → IsQuery q tree → QueryRead ((query_of c tree).means (in_from outer)) names all query)
      → FromRead (from_all outer (map (from_of c) trees)) (item_of_query name names all ∷ []) query
  subquery-read {name = name} names all query (source_trees {item = item} (subquery_tree {tree = tree} {alias = alias} d source named called mark) no_join_trees is) read =
      subst (λ t. FromRead (from_all outer (map (from_of c) (t ∷ []))) (item_of_query name names all ∷ []) query) (sym is)
      (subst (λ m. FromRead m (item_of_query name names all ∷ []) query) (sym (from-is item))
      (subst (λ m. FromRead (first_item [] m) (item_of_query name names all ∷ []) query) (sym (item-is (in_from outer) [] item tree alias source named mark))
      (subst (λ n. FromRead (first_item [] (item_meant item.at Plain [] alias.text alias.text (read_query ((query_of c tree).means (in_from outer))))) (item_of_query n names all ∷ []) query) called
      (query_item-read item.at alias.text alias.text ((query_of c tree).means (in_from outer)) names all query (read tree d)))))

-- ---- its scope

pub numbered-columns : (depth number item : ℕ) (all : List Kind) → Numbered depth number all (numbered_columns item (named_columns (numbered_names depth number all) all))
numbered-columns depth number item [] = tt
numbered-columns depth number item (kind ∷ more) = (refl, refl, numbered-columns depth (suc number) item more)

-- over one query whose columns are numbered from 1 on
pub scope-over : (depth : ℕ) (name : List ℕ) (all : List Kind) → 1 + length all < 2 ^ 64
    → IsPrintedScope depth 0 all (scope_of (item_of_query name (listed_names depth 1 all) (shown_kinds all) ∷ []))
scope-over depth name [] bound = record {
  unread = [];
  own = [];
  back = record { item = 0; name = marks depth ++ decimal 0; kind = kinds.Integer } ∷ [];
  columns = refl;
  before = tt;
  count = refl;
  numbered = tt;
  behind = (refl, tt);
  ungrouped = refl;
  bound = bound;
}
scope-over depth name (kind ∷ more) bound = record {
  unread = [];
  own = numbered_columns 0 (named_columns (numbered_names depth 1 (kind ∷ more)) (kind ∷ more));
  back = [];
  columns = refl;
  before = tt;
  count = refl;
  numbered = numbered-columns depth 1 0 (kind ∷ more);
  behind = tt;
  ungrouped = refl;
  bound = bound;
}
