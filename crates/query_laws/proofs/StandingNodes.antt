-- Nodes over what stands for their inputs, and for the queries of their sublinks, stand for them.
use Rattle.std.proofs.Common.{◌≡◌, ℕ, true, List, [], ◌∷◌, ◌++◌, length, Contains, refl, sym, ap, ◌∙◌}
use Rattle.std.proofs.lemmas.Bool.{and_from}
use Rattle.std.specs.Prelude.{Bool, ◌&&◌, IsTrue}
use Rattle.perm_values.specs.Rows.{KeysWithin, PlacesWithin}
use Rattle.perm_values.specs.declared.key.Key.{Key}
use Rattle.perm_values.specs.declared.kind.Kind.{Kind}
use Rattle.perm_values.specs.declared.kind.Kind.TheVariants.{Boolean}
use Rattle.perm_values.proofs.Steps.{by}
use Rattle.bag_algebra.proofs.TablesRead.{reads_among-each, reads_among-itself}
use Rattle.bag_algebra.specs.Bags.{Row, Bag, member}
use Rattle.bag_algebra.specs.built.Openings.{Base-is, Filter-is, Project_with-is, Join-is, Apply-is, Union-is, Intersect-is, Except-is, Distinct-is, Aggregate-is, Limit-is}
use Rattle.bag_algebra.specs.built.Forms.{AllSubsForm, subs_kinds, EachTableOfSubs, WellFormed-Base, WellFormed-Filter, WellFormed-Project, WellFormed-Join, WellFormed-Apply, WellFormed-Union, WellFormed-Intersect, WellFormed-Except, WellFormed-Distinct, WellFormed-Aggregate, WellFormed-Limit, EachTable-Base, EachTable-Filter, EachTable-Project, EachTable-Join, EachTable-Apply, EachTable-Union, EachTable-Intersect, EachTable-Except, EachTable-Distinct, EachTable-Aggregate, EachTable-Limit}
use Rattle.bag_algebra.specs.Fits.{bag_fits, env_fits, TablesFit}
use Rattle.bag_algebra.specs.Kinds.{kinds_of, kinds_in}
use Rattle.bag_algebra.specs.Meaning.{Database, meaning}
use Rattle.bag_algebra.specs.Outcome.{Good}
use Rattle.bag_algebra.specs.Rewriting.{is_plain, Stands, SameRows}
use Rattle.bag_algebra.specs.TablesRead.{tables_read, EachTable}
use Rattle.bag_algebra.specs.WellFormed.{HasKind, ItemsForm, AggregatesForm, sub_form, sub_kind, SetForm, WellFormed}
use Rattle.bag_algebra.specs.declared.expr.Expr.{Expr}
use Rattle.bag_algebra.specs.declared.expr.Item.{Item}
use Rattle.bag_algebra.specs.declared.query.Aggr.{Aggr}
use Rattle.bag_algebra.specs.declared.query.JoinKind.{JoinKind}
use Rattle.bag_algebra.specs.declared.query.Label.{Label}
use Rattle.bag_algebra.specs.declared.query.Query.{Query}
use Rattle.bag_algebra.specs.declared.query.Query.TheVariants.{Base, Filter, Project, Join, Apply, Union, Intersect, Except, Distinct, Aggregate, Limit}
use Rattle.bag_algebra.specs.declared.query.Sublink.{Sublink}
use Rattle.contribution.proofs.QueryKinds.{seen-row, rows_have-kinds}
use Rattle.contribution.proofs.RowKinds.{RowFits, row_fits-append}
use Rattle.contribution.proofs.WhereGood.{each-in}
use Rattle.bag_algebra.proofs.Members.{member-in}
use Rattle.query_laws.proofs.RowsAlone.{base-rows, filter-rows, project-rows, join-rows, apply-rows, union-rows, intersect-rows, except-rows, distinct-rows, aggregate-rows, limit-rows}
use Rattle.query_laws.proofs.SameExpressions.{item_kinds-same, aggregate_kinds-same, items-formed, aggregates-formed, tested-formed}
use Rattle.query_laws.specs.Agreeing.{SubsAgree}
use Rattle.query_laws.specs.SameExpressions.{SameExpr, SameItems, SameAggregates}
use Rattle.query_laws.specs.Standing.{SubsStand}
use Rattle.bag_algebra.specs.built.Scopes.{all_plain, is_plain-Filter, is_plain-Project, is_plain-Join, is_plain-Apply, is_plain-Union, is_plain-Intersect, is_plain-Except, is_plain-Distinct, is_plain-Aggregate, is_plain-Limit}

-- ---- sublinks

subs-plain : (subs others : List Sublink) → SubsStand subs others → all_plain others ≡ true
subs-plain [] [] s = refl
subs-plain [] (other ∷ others) s = absurd s
subs-plain (sub ∷ subs) [] s = absurd s
subs-plain (sub ∷ subs) (other ∷ others) s = and_from (is_plain other.query) (all_plain others) s.0.query.plain (subs-plain subs others s.1)

subs-tables : (P : ℕ → List Kind → Type 0) (subs others : List Sublink) → SubsStand subs others → EachTableOfSubs P subs → EachTableOfSubs P others
subs-tables P [] [] s h = tt
subs-tables P [] (other ∷ others) s h = absurd s
subs-tables P (sub ∷ subs) [] s h = absurd s
subs-tables P (sub ∷ subs) (other ∷ others) s h =
    (reads_among-each P other.query sub.query s.0.query.tables h.0, subs-tables P subs others s.1 h.1)

module _ (scopes : List (List Kind)) where
  subs-form : (subs others : List Sublink) → SubsStand subs others → AllSubsForm scopes subs → AllSubsForm scopes others
  subs-form [] [] s h = tt
  subs-form [] (other ∷ others) s h = absurd s
  subs-form (sub ∷ subs) [] s h = absurd s
  subs-form (sub ∷ subs) (other ∷ others) s h = record {
    query = s.0.query.formed scopes h.query;
    fitting = tested-formed other.kind sub.tested other.tested s.0.tested scopes (kinds_of other.query)
        (by (λ i. sub_form (s.0.kind i) sub.tested scopes (sym (s.0.query.kinds scopes h.query) i)) h.fitting);
    others = subs-form subs others s.1 h.others;
  }

  subs-kinds : (subs others : List Sublink) → SubsStand subs others → AllSubsForm scopes subs → subs_kinds subs ≡ subs_kinds others
  subs-kinds [] [] s h = refl
  subs-kinds [] (other ∷ others) s h = absurd s
  subs-kinds (sub ∷ subs) [] s h = absurd s
  subs-kinds (sub ∷ subs) (other ∷ others) s h =
      λ i. sub_kind (s.0.kind i) (sym (s.0.query.kinds scopes h.query) i) ∷ subs-kinds subs others s.1 h.others i

  subs-agree : (db : Database) (u : Row) (env : List Row) → env_fits (u ∷ env) scopes ≡ true → (subs others : List Sublink) → SubsStand subs others →
      AllSubsForm scopes subs → EachTableOfSubs (λ id kinds. bag_fits (db id) kinds ≡ true) subs → SubsAgree db env u subs others
  subs-agree db u env e [] [] s h f = tt
  subs-agree db u env e [] (other ∷ others) s h f = absurd s
  subs-agree db u env e (sub ∷ subs) [] s h f = absurd s
  subs-agree db u env e (sub ∷ subs) (other ∷ others) s h f = (
    record { kind = s.0.kind; tested = s.0.tested; rows = s.0.query.rows scopes db (u ∷ env) h.query f.0 e },
    subs-agree db u env e subs others s.1 h.others f.1,
  )

-- ---- nodes

-- the facts of a node whose tables, kinds and form follow from those of the node it stands for
module _ (n m : Query) where
  standing : is_plain m ≡ true → ((outer : List (List Kind)) → WellFormed outer n → kinds_of m ≡ kinds_of n) →
      ((outer : List (List Kind)) → WellFormed outer n → WellFormed outer m) →
      ((P : ℕ → List Kind → Type 0) → EachTable P n → EachTable P m) →
      ((outer : List (List Kind)) (db : Database) (env : List Row) → WellFormed outer n → TablesFit db n → env_fits env outer ≡ true →
      SameRows (meaning n db env) (meaning m db env)) →
      Stands n m
  standing plain kinds formed tables rows = record {
    plain = plain;
    kinds = kinds;
    formed = formed;
    tables = tables (λ id kinds. Contains (tables_read n) (record { id = id; kinds = kinds })) (reads_among-itself n);
    rows = rows;
  }

module _ (q b : Query) (s : Stands q b) where
  pub stands-Base : (places : List ℕ) (label : Label) → Stands (Base q places label) b
  stands-Base places label =
      standing (Base q places label) b s.plain
      (λ outer f. s.kinds outer (by (WellFormed-Base outer q places label) f).input ∙ sym (ap kinds_of (Base-is q places label)))
      (λ outer f. s.formed outer (by (WellFormed-Base outer q places label) f).input)
      (λ P h. reads_among-each P b q s.tables (by (EachTable-Base P q places label) h))
      (λ outer db env f h e.
      base-rows q b places label db env (s.rows outer db env (by (WellFormed-Base outer q places label) f).input (by (EachTable-Base _ q places label) h) e))

  -- the rows of the input have its kinds
  rows-fit : (outer : List (List Kind)) (db : Database) (env : List Row) → WellFormed outer q → TablesFit db q → env_fits env outer ≡ true →
      (us : Bag) (u : Row) → meaning q db env ≡ Good us → IsTrue (member u us) → RowFits (kinds_of q) u
  rows-fit outer db env f h e us u good here =
      each-in (RowFits (kinds_of q)) u us (rows_have-kinds outer q db env us (record { formed = f; tables = h; outer_rows = e }) good) (member-in u us here)

  -- and are outer rows of the sublinks' queries
  inner-fits : (outer : List (List Kind)) (db : Database) (env : List Row) → WellFormed outer q → TablesFit db q → env_fits env outer ≡ true →
      (us : Bag) (u : Row) → meaning q db env ≡ Good us → IsTrue (member u us) → env_fits (u ∷ env) (kinds_of q ∷ outer) ≡ true
  inner-fits outer db env f h e us u good here =
      (seen-row (kinds_of q) outer env u e (rows-fit outer db env f h e us u good here)).fitting

  pub stands-Filter : (condition test : Expr) → SameExpr condition test → (subs others : List Sublink) → SubsStand subs others →
      Stands (Filter q condition subs) (Filter b test others)
  stands-Filter condition test same subs others t =
      standing (Filter q condition subs) (Filter b test others)
      (is_plain-Filter b test others ∙ and_from (is_plain b) (all_plain others) s.plain (subs-plain subs others t))
      (λ outer f. ap kinds_of (Filter-is b test others) ∙ s.kinds outer (by (WellFormed-Filter outer q condition subs) f).input ∙ sym (ap kinds_of (Filter-is q condition subs)))
      (λ outer f.
      let g = by (WellFormed-Filter outer q condition subs) f in
      let e = sym (s.kinds outer g.input) in
      by (sym (WellFormed-Filter outer b test others)) (record {
        input = s.formed outer g.input;
        subs = by (λ i. AllSubsForm (e i ∷ outer) others) (subs-form (kinds_of q ∷ outer) subs others t g.subs);
        condition = same.kind _ _ Boolean (by (λ i. HasKind (e i ∷ outer) (subs-kinds (kinds_of q ∷ outer) subs others t g.subs i) condition Boolean) g.condition);
      }))
      (λ P h.
      let g = by (EachTable-Filter P q condition subs) h in
      by (sym (EachTable-Filter P b test others)) (reads_among-each P b q s.tables g.0, subs-tables P subs others t g.1))
      (λ outer db env f h e.
      let g = by (WellFormed-Filter outer q condition subs) f in
      let k = by (EachTable-Filter _ q condition subs) h in
      filter-rows q b condition test subs others db env same (s.rows outer db env g.input k.0 e)
      (λ us u good here. subs-agree (kinds_of q ∷ outer) db u env (inner-fits outer db env g.input k.0 e us u good here) subs others t g.subs k.1))

  pub stands-Project : (items columns : List Item) → SameItems items columns → (subs others : List Sublink) → SubsStand subs others →
      Stands (Project q items subs) (Project b columns others)
  stands-Project items columns same subs others t =
      standing (Project q items subs) (Project b columns others)
      (is_plain-Project b columns others ∙ and_from (is_plain b) (all_plain others) s.plain (subs-plain subs others t))
      (λ outer f. ap kinds_of (Project_with-is b columns others) ∙ sym (item_kinds-same items columns same) ∙ sym (ap kinds_of (Project_with-is q items subs)))
      (λ outer f.
      let g = by (WellFormed-Project outer q items subs) f in
      let e = sym (s.kinds outer g.input) in
      by (sym (WellFormed-Project outer b columns others)) (record {
        input = s.formed outer g.input;
        subs = by (λ i. AllSubsForm (e i ∷ outer) others) (subs-form (kinds_of q ∷ outer) subs others t g.subs);
        items = items-formed _ _ items columns same (by (λ i. ItemsForm (e i ∷ outer) (subs-kinds (kinds_of q ∷ outer) subs others t g.subs i) items) g.items);
      }))
      (λ P h.
      let g = by (EachTable-Project P q items subs) h in
      by (sym (EachTable-Project P b columns others)) (reads_among-each P b q s.tables g.0, subs-tables P subs others t g.1))
      (λ outer db env f h e.
      let g = by (WellFormed-Project outer q items subs) f in
      let k = by (EachTable-Project _ q items subs) h in
      project-rows q b items columns subs others db env same (s.rows outer db env g.input k.0 e)
      (λ us u good here. subs-agree (kinds_of q ∷ outer) db u env (inner-fits outer db env g.input k.0 e us u good here) subs others t g.subs k.1))

  pub stands-Distinct : Stands (Distinct q) (Distinct b)
  stands-Distinct =
      standing (Distinct q) (Distinct b) (is_plain-Distinct b ∙ s.plain)
      (λ outer f. ap kinds_of (Distinct-is b) ∙ s.kinds outer (by (WellFormed-Distinct outer q) f) ∙ sym (ap kinds_of (Distinct-is q)))
      (λ outer f. by (sym (WellFormed-Distinct outer b)) (s.formed outer (by (WellFormed-Distinct outer q) f)))
      (λ P h. by (sym (EachTable-Distinct P b)) (reads_among-each P b q s.tables (by (EachTable-Distinct P q) h)))
      (λ outer db env f h e. distinct-rows q b db env (s.rows outer db env (by (WellFormed-Distinct outer q) f) (by (EachTable-Distinct _ q) h) e))

  pub stands-Aggregate : (groups : List ℕ) (aggregates others : List Aggr) → SameAggregates aggregates others →
      Stands (Aggregate q groups aggregates) (Aggregate b groups others)
  stands-Aggregate groups aggregates others same =
      standing (Aggregate q groups aggregates) (Aggregate b groups others) (is_plain-Aggregate b groups others ∙ s.plain)
      (λ outer f.
      let e = s.kinds outer (by (WellFormed-Aggregate outer q groups aggregates) f).input in
      ap kinds_of (Aggregate-is b groups others) ∙ (λ i. kinds_in (e i) groups ++ sym (aggregate_kinds-same aggregates others same) i)
      ∙ sym (ap kinds_of (Aggregate-is q groups aggregates)))
      (λ outer f.
      let g = by (WellFormed-Aggregate outer q groups aggregates) f in
      let e = sym (s.kinds outer g.input) in
      by (sym (WellFormed-Aggregate outer b groups others)) (record {
        input = s.formed outer g.input;
        groups = by (λ i. PlacesWithin (length (e i)) groups) g.groups;
        aggregates = aggregates-formed _ aggregates others same (by (λ i. AggregatesForm (e i ∷ outer) aggregates) g.aggregates);
      }))
      (λ P h. by (sym (EachTable-Aggregate P b groups others)) (reads_among-each P b q s.tables (by (EachTable-Aggregate P q groups aggregates) h)))
      (λ outer db env f h e.
      aggregate-rows q b groups aggregates others db env same
      (s.rows outer db env (by (WellFormed-Aggregate outer q groups aggregates) f).input (by (EachTable-Aggregate _ q groups aggregates) h) e))

  pub stands-Limit : (keys : List Key) (most : ℕ) → Stands (Limit q keys most) (Limit b keys most)
  stands-Limit keys most =
      standing (Limit q keys most) (Limit b keys most) (is_plain-Limit b keys most ∙ s.plain)
      (λ outer f. ap kinds_of (Limit-is b keys most) ∙ s.kinds outer (by (WellFormed-Limit outer q keys most) f).input ∙ sym (ap kinds_of (Limit-is q keys most)))
      (λ outer f.
      let g = by (WellFormed-Limit outer q keys most) f in
      let e = sym (s.kinds outer g.input) in
      by (sym (WellFormed-Limit outer b keys most)) (record {
        input = s.formed outer g.input;
        keys = by (λ i. KeysWithin (length (e i)) keys) g.keys;
        bound = g.bound;
      }))
      (λ P h. by (sym (EachTable-Limit P b keys most)) (reads_among-each P b q s.tables (by (EachTable-Limit P q keys most) h)))
      (λ outer db env f h e.
      limit-rows q b keys most db env (s.rows outer db env (by (WellFormed-Limit outer q keys most) f).input (by (EachTable-Limit _ q keys most) h) e))

-- ---- two inputs

module _ (q b : Query) (s : Stands q b) (r d : Query) (t : Stands r d) where
  -- the pairs are outer rows of the sublinks' queries
  pairs-fit : (outer : List (List Kind)) (db : Database) (env : List Row) → WellFormed outer q → WellFormed outer r → TablesFit db q → TablesFit db r →
      env_fits env outer ≡ true → (us vs : Bag) (u v : Row) → meaning q db env ≡ Good us → meaning r db env ≡ Good vs → IsTrue (member u us) →
      IsTrue (member v vs) → env_fits ((u ++ v) ∷ env) ((kinds_of q ++ kinds_of r) ∷ outer) ≡ true
  pairs-fit outer db env f g h k e us vs u v of_left of_right here there =
      (seen-row (kinds_of q ++ kinds_of r) outer env (u ++ v) e
      (row_fits-append u v (kinds_of q) (kinds_of r) (rows-fit q b s outer db env f h e us u of_left here)
      (rows-fit r d t outer db env g k e vs v of_right there))).fitting

  pub stands-Join : (kind : JoinKind) (condition test : Expr) → SameExpr condition test → (subs others : List Sublink) → SubsStand subs others →
      Stands (Join kind q r condition subs) (Join kind b d test others)
  stands-Join kind condition test same subs others k =
      standing (Join kind q r condition subs) (Join kind b d test others)
      (is_plain-Join kind b d test others ∙ and_from (is_plain b && is_plain d) (all_plain others) (and_from (is_plain b) (is_plain d) s.plain t.plain) (subs-plain subs others k))
      (λ outer f.
      let g = by (WellFormed-Join outer kind q r condition subs) f in
      ap kinds_of (Join-is kind b d test others) ∙ (λ i. s.kinds outer g.left i ++ t.kinds outer g.right i) ∙ sym (ap kinds_of (Join-is kind q r condition subs)))
      (λ outer f.
      let g = by (WellFormed-Join outer kind q r condition subs) f in
      let e : kinds_of q ++ kinds_of r ≡ kinds_of b ++ kinds_of d = λ i. sym (s.kinds outer g.left) i ++ sym (t.kinds outer g.right) i in
      by (sym (WellFormed-Join outer kind b d test others)) (record {
        left = s.formed outer g.left;
        right = t.formed outer g.right;
        subs = by (λ i. AllSubsForm (e i ∷ outer) others) (subs-form ((kinds_of q ++ kinds_of r) ∷ outer) subs others k g.subs);
        condition = same.kind _ _ Boolean
            (by (λ i. HasKind (e i ∷ outer) (subs-kinds ((kinds_of q ++ kinds_of r) ∷ outer) subs others k g.subs i) condition Boolean) g.condition);
      }))
      (λ P h.
      let g = by (EachTable-Join P kind q r condition subs) h in
      by (sym (EachTable-Join P kind b d test others))
      (reads_among-each P b q s.tables g.0, reads_among-each P d r t.tables g.1, subs-tables P subs others k g.2))
      (λ outer db env f h e.
      let g = by (WellFormed-Join outer kind q r condition subs) f in
      let j = by (EachTable-Join _ kind q r condition subs) h in
      join-rows kind q r b d condition test subs others db env same (s.rows outer db env g.left j.0 e) (t.rows outer db env g.right j.1 e)
      (ap length (sym (s.kinds outer g.left))) (ap length (sym (t.kinds outer g.right)))
      (λ us vs u v of_left of_right here there. subs-agree ((kinds_of q ++ kinds_of r) ∷ outer) db (u ++ v) env
      (pairs-fit outer db env g.left g.right j.0 j.1 e us vs u v of_left of_right here there) subs others k g.subs j.2))

  pub stands-Apply : (kind : JoinKind) → Stands (Apply kind q r) (Apply kind b d)
  stands-Apply kind =
      standing (Apply kind q r) (Apply kind b d)
      (is_plain-Apply kind b d ∙ and_from (is_plain b) (is_plain d) s.plain t.plain)
      (λ outer f.
      let g = by (WellFormed-Apply outer kind q r) f in
      ap kinds_of (Apply-is kind b d) ∙ (λ i. s.kinds outer g.left i ++ t.kinds (kinds_of q ∷ outer) g.right i) ∙ sym (ap kinds_of (Apply-is kind q r)))
      (λ outer f.
      let g = by (WellFormed-Apply outer kind q r) f in
      by (sym (WellFormed-Apply outer kind b d)) (record {
        left = s.formed outer g.left;
        right = by (λ i. WellFormed (sym (s.kinds outer g.left) i ∷ outer) d) (t.formed (kinds_of q ∷ outer) g.right);
        dependent = g.dependent;
      }))
      (λ P h.
      let g = by (EachTable-Apply P kind q r) h in
      by (sym (EachTable-Apply P kind b d)) (reads_among-each P b q s.tables g.0, reads_among-each P d r t.tables g.1))
      (λ outer db env f h e.
      let g = by (WellFormed-Apply outer kind q r) f in
      let j = by (EachTable-Apply _ kind q r) h in
      apply-rows kind q r b d db env (s.rows outer db env g.left j.0 e) (ap length (sym (t.kinds (kinds_of q ∷ outer) g.right)))
      (λ us u good here. t.rows (kinds_of q ∷ outer) db (u ∷ env) g.right j.1 (inner-fits q b s outer db env g.left j.0 e us u good here)))

  -- set operations differ in their rows alone
  module _ (node : Query → Query → Query)
      (plain-is : (left right : Query) → is_plain (node left right) ≡ (is_plain left && is_plain right))
      (kinds-is : (left right : Query) → kinds_of (node left right) ≡ kinds_of left)
      (formed-is : (outer : List (List Kind)) (left right : Query) →
      WellFormed outer (node left right) ≡ SetForm (WellFormed outer left) (WellFormed outer right) (kinds_of left) (kinds_of right))
      (tables-is : (P : ℕ → List Kind → Type 0) (left right : Query) → EachTable P (node left right) ≡ (EachTable P left × EachTable P right))
      (same : (db : Database) (env : List Row) → SameRows (meaning q db env) (meaning b db env) → SameRows (meaning r db env) (meaning d db env) →
      SameRows (meaning (node q r) db env) (meaning (node b d) db env)) where
    stands-set : Stands (node q r) (node b d)
    stands-set =
        standing (node q r) (node b d) (plain-is b d ∙ and_from (is_plain b) (is_plain d) s.plain t.plain)
        (λ outer f. kinds-is b d ∙ s.kinds outer (by (formed-is outer q r) f).left_side ∙ sym (kinds-is q r))
        (λ outer f.
        let g = by (formed-is outer q r) f in
        by (sym (formed-is outer b d)) (record {
          left_side = s.formed outer g.left_side;
          right_side = t.formed outer g.right_side;
          same_kinds = s.kinds outer g.left_side ∙ g.same_kinds ∙ sym (t.kinds outer g.right_side);
        }))
        (λ P h.
        let g = by (tables-is P q r) h in
        by (sym (tables-is P b d)) (reads_among-each P b q s.tables g.0, reads_among-each P d r t.tables g.1))
        (λ outer db env f h e.
        let g = by (formed-is outer q r) f in
        let j = by (tables-is _ q r) h in
        same db env (s.rows outer db env g.left_side j.0 e) (t.rows outer db env g.right_side j.1 e))

  pub stands-Union : (all : Bool) → Stands (Union all q r) (Union all b d)
  stands-Union all =
      stands-set (Union all) (is_plain-Union all) (λ left right. ap kinds_of (Union-is all left right)) (λ outer. WellFormed-Union outer all)
      (λ P. EachTable-Union P all) (λ db env. union-rows all q r b d db env)

  pub stands-Intersect : (all : Bool) → Stands (Intersect all q r) (Intersect all b d)
  stands-Intersect all =
      stands-set (Intersect all) (is_plain-Intersect all) (λ left right. ap kinds_of (Intersect-is all left right)) (λ outer. WellFormed-Intersect outer all)
      (λ P. EachTable-Intersect P all) (λ db env. intersect-rows all q r b d db env)

  pub stands-Except : (all : Bool) → Stands (Except all q r) (Except all b d)
  stands-Except all =
      stands-set (Except all) (is_plain-Except all) (λ left right. ap kinds_of (Except-is all left right)) (λ outer. WellFormed-Except outer all)
      (λ P. EachTable-Except P all) (λ db env. except-rows all q r b d db env)
