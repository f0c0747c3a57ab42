-- The texts of the nodes that constructors of code make, in words on plain lists of sublinks, and how they are joined piece by piece.
use Rattle.std.proofs.Common.{◌≡◌, ◌∙◌, ℕ, ◌+◌, Bool, List, [], ◌∷◌, ◌++◌, length, refl, sym, ap, ap₂, append-nil}
use Rattle.std.specs.Prelude.{codes}
use Rattle.perm_values.specs.declared.key.Key.{Key}
use Rattle.perm_values.specs.declared.kind.Kind.{Kind}
use Rattle.bag_algebra.specs.Kinds.{kinds_of, width_of}
use Rattle.bag_algebra.specs.built.Openings.{row_of_subs, shape_of_subs, Base-is, Filter-is, Project_with-is, Join-is, Apply-is, Union-is, Intersect-is, Except-is, Distinct-is, Aggregate-is, Limit-is, Prov-is}
use Rattle.bag_algebra.specs.built.Patterns.{JoinOf}
use Rattle.bag_algebra.specs.declared.expr.Expr.{Expr}
use Rattle.bag_algebra.specs.declared.expr.Item.{Item}
use Rattle.bag_algebra.specs.declared.query.Aggr.{Aggr}
use Rattle.bag_algebra.specs.declared.query.JoinKind.{JoinKind}
use Rattle.bag_algebra.specs.declared.query.Label.{Label}
use Rattle.bag_algebra.specs.declared.query.Query.{Query}
use Rattle.bag_algebra.specs.declared.query.Query.TheBlock.{shape-the_row-Sublink-1, hidden-the_row-Sublink-1}
use Rattle.bag_algebra.specs.declared.query.Query.TheVariants.{Table, Single, Base, Filter, Project, Join, Apply, Union, Intersect, Except, Distinct, Aggregate, Limit, Prov}
use Rattle.bag_algebra.specs.declared.query.Sublink.{Sublink}
use Rattle.query_texts.specs.clauses.Chains.{is_chained}
use Rattle.query_texts.specs.clauses.ClauseTexts.{asked_back, asking_text, beside_joined, beside_lateral, columns_text, condition_text, groups_text, limited_text, projecting_text, set_text, table_text, unread_text, where_text}
use Rattle.query_texts.specs.clauses.Names.{Naming, deeper, naming, names_of, own}
use Rattle.query_texts.specs.declared.clauses.tables.TableNames.{TableNames}
use Rattle.tree_texts.proofs.Pieces.{laid2, laid3}
use Rattle.tree_texts.specs.expressions.Words.{is_any}
use Rattle.query_texts.specs.QueryTexts.{apart_unless, query_bytes, select, sub_text, sub_texts, subs_texts, written}
use Rattle.query_texts.specs.built.Parts.{block_part, select_part}
use Rattle.query_texts.proofs.Shaped.{apart_whole}

module _ (tables : List TableNames) (prefix : List ℕ) where
  subs-opened : (subs : List Sublink) → sub_texts tables prefix (row_of_subs subs) ≡ subs_texts tables prefix subs
  unfolding shape-the_row-Sublink-1 hidden-the_row-Sublink-1 package.denote.Hole.Carrier.hidden
  subs-opened [] = refl
  subs-opened (sub ∷ subs) = ap (λ texts. sub_text tables prefix sub ∷ texts) (subs-opened subs)

  -- the text of a sublink, piece by piece; what begins empty is what is joined
  pub sub_joined : (sub : Sublink) (longer longer' back empty one two three : List ℕ) → empty ≡ [] → longer ≡ deeper prefix → longer' ≡ longer
      → one ≡ empty ++ asking_text prefix sub.kind sub.tested → two ≡ one ++ query_bytes tables longer' (naming longer' 1) sub.query
      → back ≡ asked_back sub.kind → three ≡ two ++ back → three ≡ sub_text tables prefix sub
  sub_joined sub longer longer' back empty one two three none longer_is same asked written back_is closed =
      let inner = same ∙ longer_is in
      laid3 empty one two three (asking_text prefix sub.kind sub.tested)
      (query_bytes tables (deeper prefix) (own (deeper prefix)) sub.query) (asked_back sub.kind)
      asked
      (written ∙ ap (λ p. one ++ query_bytes tables p (naming p 1) sub.query) inner)
      (closed ∙ ap (λ t. two ++ t) back_is)
      ∙ ap (λ t. t ++ sub_text tables prefix sub) none

  -- ---- FROM and WHERE

  abbrev bare : Query → List ℕ
  bare p = block_part tables prefix p

  abbrev from : Query → List ℕ
  from p = (written tables prefix p).from

  abbrev filtered : Query → Expr → List (List ℕ) → List ℕ
  filtered input condition texts = from input ++ where_text prefix texts condition

  filter_bare : (input : Query) (condition : Expr) (subs : List Sublink)
      → bare (Filter input condition subs) ≡ filtered input condition (subs_texts tables prefix subs)
  filter_bare input condition subs = ap bare (Filter-is input condition subs) ∙ ap (filtered input condition) (subs-opened subs)

  abbrev beside : JoinKind → Query → Query → List ℕ
  beside kind left right = beside_joined kind (width_of left + 1) (query_bytes tables prefix (naming prefix (width_of left + 1)) right)

  -- FROM on the left of a join
  abbrev left_side : JoinKind → Query → List ℕ
  left_side kind left = (apart_unless prefix (width_of left) (is_chained kind) (written tables prefix left)).from

  abbrev joining : JoinKind → Query → Query → Expr → List (List ℕ) → List ℕ
  joining kind left right condition texts = left_side kind left ++ (beside kind left right ++ condition_text prefix texts condition)

  join_bare : (kind : JoinKind) (left right : Query) (condition : Expr) (subs : List Sublink)
      → bare (Join kind left right condition subs) ≡ joining kind left right condition (subs_texts tables prefix subs)
  join_bare kind left right condition subs =
      ap bare (Join-is kind left right condition subs) ∙ ap (joining kind left right condition) (subs-opened subs)

  abbrev lateral : JoinKind → Query → Query → List ℕ
  lateral kind left right =
      beside_lateral kind (width_of left + 1) (query_bytes tables (deeper prefix) (naming prefix (width_of left + 1)) right)

  apply_bare : (kind : JoinKind) (left right : Query) → bare (Apply kind left right) ≡ from left ++ lateral kind left right
  apply_bare kind left right = ap bare (Apply-is kind left right)

  module _ (start : List ℕ) (q : Query) where
    -- a text of a variant is one of the query that is the variant
    laid_bare : (variant : Query) (text after : List ℕ) → q ≡ variant → bare variant ≡ text → after ≡ start ++ text → after ≡ start ++ bare q
    laid_bare variant text after is opened pushed = pushed ∙ ap (λ t. start ++ t) (sym (ap bare is ∙ opened))

    pub no_block : (variant : Query) → q ≡ variant → bare variant ≡ [] → start ≡ start ++ bare q
    no_block variant is none = laid_bare variant [] start is none (sym (append-nil start))

    pub filter_pushed : (input input' : Query) (condition : Expr) (subs subs' : List Sublink) (texts texts' : List (List ℕ)) (one two : List ℕ)
        → q ≡ Filter input condition subs → input' ≡ input → subs' ≡ subs → texts ≡ subs_texts tables prefix subs' → texts' ≡ texts
        → one ≡ start ++ from input' → two ≡ one ++ where_text prefix texts' condition → two ≡ start ++ bare q
    filter_pushed input input' condition subs subs' texts texts' one two is input_is subs_are texts_are same started closed =
        let these = same ∙ texts_are ∙ ap (subs_texts tables prefix) subs_are in
        laid_bare (Filter input condition subs) (filtered input condition (subs_texts tables prefix subs)) two is
        (filter_bare input condition subs)
        (laid2 start one two (from input) (where_text prefix (subs_texts tables prefix subs) condition)
        (started ∙ ap (λ p. start ++ from p) input_is)
        (closed ∙ ap (λ ts. one ++ where_text prefix ts condition) these))

    pub join_pushed : (kind : JoinKind) (left right l l' r : Query) (condition : Expr) (subs subs' : List Sublink) (texts texts' : List (List ℕ))
        (before : ℕ) (one two three : List ℕ) → q ≡ Join kind left right condition subs
        → subs' ≡ subs → texts ≡ subs_texts tables prefix subs' → texts' ≡ texts → l ≡ left
        → before ≡ width_of l → l' ≡ left → r ≡ right → one ≡ start ++ left_side kind l'
        → two ≡ one ++ beside_joined kind (before + 1) (query_bytes tables prefix (naming prefix (before + 1)) r)
        → three ≡ two ++ condition_text prefix texts' condition → three ≡ start ++ bare q
    join_pushed kind left right l l' r condition subs subs' texts texts' before one two three is subs_are texts_are same l_is before_is
        l'_is r_is started joined closed =
        let these = same ∙ texts_are ∙ ap (subs_texts tables prefix) subs_are in
        let behind = before_is ∙ ap width_of l_is in
        laid_bare (Join kind left right condition subs) (joining kind left right condition (subs_texts tables prefix subs)) three is
        (join_bare kind left right condition subs)
        (laid3 start one two three (left_side kind left) (beside kind left right) (condition_text prefix (subs_texts tables prefix subs) condition)
        (started ∙ ap (λ p. start ++ left_side kind p) l'_is)
        (joined ∙ (λ i. one ++ beside_joined kind (behind i + 1) (query_bytes tables prefix (naming prefix (behind i + 1)) (r_is i))))
        (closed ∙ ap (λ ts. two ++ condition_text prefix ts condition) these))

    pub apply_pushed : (kind : JoinKind) (left right l l' r : Query) (before : ℕ) (one two : List ℕ) → q ≡ Apply kind left right
        → l ≡ left → before ≡ width_of l → l' ≡ left → r ≡ right → one ≡ start ++ from l'
        → two ≡ one ++ beside_lateral kind (before + 1) (query_bytes tables (deeper prefix) (naming prefix (before + 1)) r)
        → two ≡ start ++ bare q
    apply_pushed kind left right l l' r before one two is l_is before_is l'_is r_is started joined =
        let behind = before_is ∙ ap width_of l_is in
        laid_bare (Apply kind left right) (from left ++ lateral kind left right) two is (apply_bare kind left right)
        (laid2 start one two (from left) (lateral kind left right)
        (started ∙ ap (λ p. start ++ from p) l'_is)
        (joined ∙ (λ i. one ++ beside_lateral kind (behind i + 1) (query_bytes tables (deeper prefix) (naming prefix (behind i + 1)) (r_is i)))))

-- ---- what stands behind SELECT

module _ (tables : List TableNames) (prefix : List ℕ) (out : Naming) where
  abbrev part : Query → List ℕ
  part p = select_part tables prefix out p

  -- all columns of a query that is written as FROM and WHERE
  abbrev all : Query → List ℕ
  all p = columns_text prefix out (width_of p) ++ block_part tables prefix p

  pub filter_all : (input : Query) (condition : Expr) (subs : List Sublink) → part (Filter input condition subs) ≡ all (Filter input condition subs)
  filter_all input condition subs = ap part (Filter-is input condition subs) ∙ sym (ap all (Filter-is input condition subs))

  pub join_all : (kind : JoinKind) (left right : Query) (condition : Expr) (subs : List Sublink)
      → part (Join kind left right condition subs) ≡ all (Join kind left right condition subs)
  join_all kind left right condition subs = ap part (Join-is kind left right condition subs) ∙ sym (ap all (Join-is kind left right condition subs))

  pub apply_all : (kind : JoinKind) (left right : Query) → part (Apply kind left right) ≡ all (Apply kind left right)
  apply_all kind left right = ap part (Apply-is kind left right) ∙ sym (ap all (Apply-is kind left right))

  abbrev projecting : Query → List Item → List (List ℕ) → List ℕ
  projecting input items texts = projecting_text prefix out texts items ++ (written tables prefix input).block

  project_part : (input : Query) (items : List Item) (subs : List Sublink)
      → part (Project input items subs) ≡ projecting input items (subs_texts tables prefix subs)
  project_part input items subs = ap part (Project_with-is input items subs) ∙ ap (projecting input items) (subs-opened tables prefix subs)

  module _ (start : List ℕ) (q : Query) where
    laid_part : (variant : Query) (text after : List ℕ) → q ≡ variant → part variant ≡ text → after ≡ start ++ text → after ≡ start ++ part q
    laid_part variant text after is opened pushed = pushed ∙ ap (λ t. start ++ t) (sym (ap part is ∙ opened))

    pub table_part : (id : ℕ) (kinds : List Kind) (after : List ℕ) → q ≡ Table id kinds → after ≡ start ++ table_text out (names_of tables id)
        → after ≡ start ++ part q
    table_part id kinds after is pushed = laid_part (Table id kinds) (table_text out (names_of tables id)) after is refl pushed

    pub single_part : (after : List ℕ) → q ≡ Single → after ≡ start ++ unread_text out.prefix (codes "1 ") 0 → after ≡ start ++ part q
    single_part after is pushed = laid_part Single (unread_text out.prefix (codes "1 ") 0) after is refl pushed

    pub no_part : (variant : Query) → q ≡ variant → part variant ≡ [] → start ≡ start ++ part q
    no_part variant is none = laid_part variant [] start is none (sym (append-nil start))

    pub all_part : (variant : Query) (after : List ℕ) → part variant ≡ all variant → q ≡ variant → after ≡ start ++ all q → after ≡ start ++ part q
    all_part variant after opened is pushed = laid_part variant (all variant) after is opened (pushed ∙ ap (λ p. start ++ all p) is)

    pub project_pushed : (input input' : Query) (items items' : List Item) (subs subs' : List Sublink) (texts texts' : List (List ℕ)) (one two : List ℕ)
        → q ≡ Project input items subs → input' ≡ input → items' ≡ items → subs' ≡ subs → texts ≡ subs_texts tables prefix subs' → texts' ≡ texts
        → one ≡ start ++ projecting_text prefix out texts' items' → two ≡ one ++ (written tables prefix input').block → two ≡ start ++ part q
    project_pushed input input' items items' subs subs' texts texts' one two is input_is items_are subs_are texts_are same started closed =
        let these = same ∙ texts_are ∙ ap (subs_texts tables prefix) subs_are in
        laid_part (Project input items subs) (projecting input items (subs_texts tables prefix subs)) two is (project_part input items subs)
        (laid2 start one two (projecting_text prefix out (subs_texts tables prefix subs) items) (written tables prefix input).block
        (started ∙ ap₂ (λ ts is. start ++ projecting_text prefix out ts is) these items_are)
        (closed ∙ ap (λ p. one ++ (written tables prefix p).block) input_is))

-- ---- whole queries

module _ (tables : List TableNames) (prefix : List ℕ) (out : Naming) where
  abbrev whole : Query → List ℕ
  whole p = query_bytes tables prefix out p

  abbrev selected : Query → List ℕ
  selected p = select (select_part tables prefix out p)

  pub filter_selected : (input : Query) (condition : Expr) (subs : List Sublink) → whole (Filter input condition subs) ≡ selected (Filter input condition subs)
  filter_selected input condition subs = ap whole (Filter-is input condition subs) ∙ sym (ap selected (Filter-is input condition subs))

  pub project_selected : (input : Query) (items : List Item) (subs : List Sublink) → whole (Project input items subs) ≡ selected (Project input items subs)
  project_selected input items subs = ap whole (Project_with-is input items subs) ∙ sym (ap selected (Project_with-is input items subs))

  pub join_selected : (kind : JoinKind) (left right : Query) (condition : Expr) (subs : List Sublink)
      → whole (Join kind left right condition subs) ≡ selected (Join kind left right condition subs)
  join_selected kind left right condition subs =
      ap whole (Join-is kind left right condition subs)
      ∙ apart_whole tables prefix (length (kinds_of left ++ kinds_of right)) (is_any (width_of right))
      (block_part tables prefix (JoinOf kind left right condition (shape_of_subs subs) (row_of_subs subs))) (is_chained kind) out
      ∙ sym (ap selected (Join-is kind left right condition subs))

  pub apply_selected : (kind : JoinKind) (left right : Query) → whole (Apply kind left right) ≡ selected (Apply kind left right)
  apply_selected kind left right = ap whole (Apply-is kind left right) ∙ sym (ap selected (Apply-is kind left right))

  abbrev listed : Query → List ℕ
  listed p = (written tables prefix p).listed out

  abbrev united : Query → Query → List ℕ → List ℕ
  united left right called = select (listed left) ++ (called ++ select (listed right))

  pub union_text : (all : Bool) (left right : Query) → whole (Union all left right) ≡ united left right (set_text (codes "UNION ") all)
  union_text all left right = ap whole (Union-is all left right)

  pub intersect_text : (all : Bool) (left right : Query) → whole (Intersect all left right) ≡ united left right (set_text (codes "INTERSECT ") all)
  intersect_text all left right = ap whole (Intersect-is all left right)

  pub except_text : (all : Bool) (left right : Query) → whole (Except all left right) ≡ united left right (set_text (codes "EXCEPT ") all)
  except_text all left right = ap whole (Except-is all left right)

  -- ---- what is pushed for each variant; the children that code reads are those of the variant

  module _ (start : List ℕ) (q : Query) where
    laid_whole : (variant : Query) (text after : List ℕ) → q ≡ variant → whole variant ≡ text → after ≡ start ++ text → after ≡ start ++ whole q
    laid_whole variant text after is opened pushed = pushed ∙ ap (λ t. start ++ t) (sym (ap whole is ∙ opened))

    pub base_pushed : (input input' : Query) (places : List ℕ) (label : Label) (after : List ℕ) → q ≡ Base input places label → input' ≡ input
        → after ≡ start ++ whole input' → after ≡ start ++ whole q
    base_pushed input input' places label after is same pushed =
        laid_whole (Base input places label) (whole input) after is (ap whole (Base-is input places label)) (pushed ∙ ap (λ p. start ++ whole p) same)

    pub prov_pushed : (input input' : Query) (after : List ℕ) → q ≡ Prov input → input' ≡ input → after ≡ start ++ whole input' → after ≡ start ++ whole q
    prov_pushed input input' after is same pushed =
        laid_whole (Prov input) (whole input) after is (ap whole (Prov-is input)) (pushed ∙ ap (λ p. start ++ whole p) same)

    -- a query that is one SELECT
    pub select_pushed : (variant : Query) (one two : List ℕ) → whole variant ≡ selected variant → q ≡ variant → one ≡ start ++ codes "SELECT "
        → two ≡ one ++ select_part tables prefix out q → two ≡ start ++ whole q
    select_pushed variant one two opened is started closed =
        laid_whole variant (selected variant) two is opened
        (laid2 start one two (codes "SELECT ") (select_part tables prefix out variant) started
        (closed ∙ ap (λ p. one ++ select_part tables prefix out p) is))

    -- a set operation of either word
    pub set_pushed : (variant left right l r : Query) (called : List ℕ) (all : Bool) (one two three four five : List ℕ)
        → whole variant ≡ united left right (set_text called all) → q ≡ variant → l ≡ left → r ≡ right
        → one ≡ start ++ codes "SELECT " → two ≡ one ++ listed l → three ≡ two ++ set_text called all → four ≡ three ++ codes "SELECT "
        → five ≡ four ++ listed r → five ≡ start ++ whole q
    set_pushed variant left right l r called all one two three four five opened is l_is r_is started first said again second =
        laid_whole variant (united left right (set_text called all)) five is opened
        (laid3 start two three five (select (listed left)) (set_text called all) (select (listed right))
        (laid2 start one two (codes "SELECT ") (listed left) started (first ∙ ap (λ p. one ++ listed p) l_is)) said
        (laid2 three four five (codes "SELECT ") (listed right) again (second ∙ ap (λ p. four ++ listed p) r_is)))

    pub distinct_pushed : (input input' : Query) (one two : List ℕ) → q ≡ Distinct input → input' ≡ input → one ≡ start ++ codes "SELECT DISTINCT "
        → two ≡ one ++ listed input' → two ≡ start ++ whole q
    distinct_pushed input input' one two is same started closed =
        laid_whole (Distinct input) (codes "SELECT DISTINCT " ++ listed input) two is (ap whole (Distinct-is input))
        (laid2 start one two (codes "SELECT DISTINCT ") (listed input) started (closed ∙ ap (λ p. one ++ listed p) same))

    pub aggregate_pushed : (input input' : Query) (groups groups' : List ℕ) (aggregates aggregates' : List Aggr) (after : List ℕ)
        → q ≡ Aggregate input groups aggregates → input' ≡ input → groups' ≡ groups → aggregates' ≡ aggregates
        → after ≡ start ++ groups_text prefix out groups' aggregates' (written tables prefix input').block → after ≡ start ++ whole q
    aggregate_pushed input input' groups groups' aggregates aggregates' after is same groups_are aggregates_are pushed =
        laid_whole (Aggregate input groups aggregates) (groups_text prefix out groups aggregates (written tables prefix input).block) after is
        (ap whole (Aggregate-is input groups aggregates))
        (pushed ∙ (λ i. start ++ groups_text prefix out (groups_are i) (aggregates_are i) (written tables prefix (same i)).block))

    pub limit_pushed : (input input' input'' : Query) (keys keys' : List Key) (count columns : ℕ) (one two three : List ℕ) → q ≡ Limit input keys count
        → input' ≡ input → columns ≡ width_of input' → input'' ≡ input → keys' ≡ keys → one ≡ start ++ codes "SELECT " → two ≡ one ++ listed input''
        → three ≡ two ++ limited_text keys' columns count → three ≡ start ++ whole q
    limit_pushed input input' input'' keys keys' count columns one two three is same wide again keys_are started said closed =
        let width = wide ∙ ap width_of same in
        laid_whole (Limit input keys count) (select (listed input) ++ limited_text keys (width_of input) count) three is
        (ap whole (Limit-is input keys count))
        (laid2 start two three (select (listed input)) (limited_text keys (width_of input) count)
        (laid2 start one two (codes "SELECT ") (listed input) started (said ∙ ap (λ p. one ++ listed p) again))
        (closed ∙ ap₂ (λ ks n. two ++ limited_text ks n count) keys_are width))
