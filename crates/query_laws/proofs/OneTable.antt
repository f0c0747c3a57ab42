-- A query in the place of one table, beside every other table in its own.
use Rattle.std.proofs.Common.{◌≡◌, ◌≢◌, inl, inr, ℕ, Bool, true, false, cond, ◌==◌, List, [], Contains, refl, sym, ap, ◌∙◌, subst}
use Rattle.std.proofs.lemmas.Bool.{eqb-true, eq-eqb}
use mathlib.Core.Bool.{true≢false}
use Rattle.std.specs.List.{flat_map}
use Rattle.perm_values.specs.declared.kind.Kind.{Kind}
use Rattle.bag_algebra.proofs.BagLaws.{same_bag-refl}
use Rattle.bag_algebra.proofs.Members.{IsIn, in-flat_map, from-flat_map}
use Rattle.bag_algebra.proofs.MembersByIndex.{in-from_contains, contains-from_in}
use Rattle.bag_algebra.proofs.TablesRead.{each_table-kept, each_table-from_told}
use Rattle.bag_algebra.specs.Bags.{Row}
use Rattle.bag_algebra.specs.Fits.{bag_fits, TablesFit}
use Rattle.bag_algebra.specs.Kinds.{kinds_of, shape}
use Rattle.bag_algebra.specs.Meaning.{Database, meaning}
use Rattle.bag_algebra.specs.Outcome.{Good}
use Rattle.bag_algebra.specs.Rewriting.{SameRows}
use Rattle.bag_algebra.specs.TablesRead.{TableRead, tables_read, EachTable}
use Rattle.bag_algebra.specs.WellFormed.{WellFormed}
use Rattle.bag_algebra.specs.declared.query.Query.{Query}
use Rattle.bag_algebra.specs.declared.query.Query.TheVariants.{Table}
use Rattle.contribution.proofs.Growth.{denote-closed}
use Rattle.query_laws.specs.replaced.OverQueries.{over_queries, standing, ReadsAs, HasColumns, HasTable}
use Rattle.query_laws.specs.replaced.TablesOver.{read_at, IsReadOver, another, in_its_place}
use Rattle.query_laws.proofs.TablesInPlace.{tables-over, each_table-over}

module _ (id : ℕ) (p : Query) where
  -- ---- what stands for each table

  columns-where : (other : ℕ) (own : List Kind) (b : Bool) → (other == id) ≡ b → shape p ≡ [] → (other ≡ id → own ≡ kinds_of p) →
      HasColumns own (cond b p (Table other own))
  columns-where other own true e places f = record { columns = sym (f (eqb-true other id e)); places = places }
  columns-where other own false e places f = record { columns = refl; places = refl }

  pub columns-standing : (q : Query) → shape p ≡ [] → ReadsAs id (kinds_of p) q → EachTable (λ other own. HasColumns own (standing id p other own)) q
  columns-standing q places reads =
      each_table-kept _ (λ other own. HasColumns own (standing id p other own)) (λ other own f. columns-where other own (other == id) refl places f) q reads

  own-where : (other : ℕ) (own : List Kind) (b : Bool) → (other == id) ≡ b → other ≢ id → cond b p (Table other own) ≡ Table other own
  own-where other own true e apart = absurd (apart (eqb-true other id e))
  own-where other own false e apart = refl

  pub own-standing : (q : Query) → EachTable (λ other own. other ≢ id) q → EachTable (λ other own. standing id p other own ≡ Table other own) q
  own-standing q unread =
      each_table-kept _ (λ other own. standing id p other own ≡ Table other own) (λ other own apart. own-where other own (other == id) refl apart) q unread

  module _ (closed : WellFormed [] p) where
    closed-where : (other : ℕ) (own : List Kind) (b : Bool) → WellFormed [] (cond b p (Table other own))
    closed-where other own true = closed
    closed-where other own false = tt

    pub closed-standing : (q : Query) → EachTable (λ other own. WellFormed [] (standing id p other own)) q
    closed-standing q = each_table-from_told _ q (λ read h. closed-where read.id read.kinds (read.id == id))

    module _ (db : Database) (rows : SameRows (meaning p db []) (Good (db id))) where
      rows-where : (other : ℕ) (own : List Kind) (b : Bool) → (other == id) ≡ b → (env : List Row) → SameRows (meaning (cond b p (Table other own)) db env) (Good (db other))
      rows-where other own true e env =
          subst (λ m. SameRows m (Good (db other))) (λ i. (denote-closed p db [] env closed i).rows)
          (subst (λ one. SameRows (meaning p db []) (Good (db one))) (sym (eqb-true other id e)) rows)
      rows-where other own false e env = same_bag-refl (db other)

      pub table-standing : (q : Query) → shape p ≡ [] → ReadsAs id (kinds_of p) q → EachTable (λ other own. HasTable db other own (standing id p other own)) q
      table-standing q places reads =
          each_table-kept _ (λ other own. HasTable db other own (standing id p other own))
          (λ other own f. record { columns = columns-where other own (other == id) refl places f; rows = rows-where other own (other == id) refl }) q reads

  -- ---- the tables that are read

  module _ (q : Query) (read : TableRead) where
    from-place : (one : TableRead) (b : Bool) → (one.id == id) ≡ b → IsIn one (tables_read q) → IsIn read (tables_read (cond b p (Table one.id one.kinds))) →
        IsReadOver id p q read
    from-place one true e h r =
        let same : one ≡ record { id = id; kinds = one.kinds } = λ i. record { id = eqb-true one.id id e i; kinds = one.kinds } in
        in_its_place one.kinds (contains-from_in _ (tables_read q) (subst (λ o. IsIn o (tables_read q)) same h)) (contains-from_in read (tables_read p) r)
    from-place one false e h (inl same) =
        another (contains-from_in read (tables_read q) (subst (λ o. IsIn o (tables_read q)) same h))
        (λ is. true≢false (sym (eq-eqb one.id id (ap (λ (o : TableRead). o.id) same ∙ is)) ∙ e))
    from-place one false e h (inr none) = absurd none

    pub from-read_over : Contains (tables_read (over_queries (standing id p) q)) read → IsReadOver id p q read
    from-read_over h =
        let found = from-flat_map (read_at (standing id p)) read (tables_read q)
        (subst (IsIn read) (tables-over (standing id p) q) (in-from_contains read _ h)) in
        from-place found.0 (found.0.id == id) refl found.1 found.2

    own_place : (kinds : List Kind) (b : Bool) → (id == id) ≡ b → IsIn read (tables_read p) → IsIn read (tables_read (cond b p (Table id kinds)))
    own_place kinds true e h = h
    own_place kinds false e h = absurd (true≢false (sym (eq-eqb id id refl) ∙ e))

    in-place : IsReadOver id p q read → IsIn read (flat_map (read_at (standing id p)) (tables_read q))
    in-place (another h apart) =
        in-flat_map (read_at (standing id p)) read read (tables_read q) (in-from_contains read (tables_read q) h)
        (subst (λ other. IsIn read (tables_read other)) (sym (own-where read.id read.kinds (read.id == id) refl apart)) (inl refl))
    in-place (in_its_place kinds h r) =
        in-flat_map (read_at (standing id p)) read (record { id = id; kinds = kinds }) (tables_read q) (in-from_contains _ (tables_read q) h)
        (own_place kinds (id == id) refl (in-from_contains read (tables_read p) r))

    pub in-read_over : IsReadOver id p q read → Contains (tables_read (over_queries (standing id p) q)) read
    in-read_over h = contains-from_in read _ (subst (IsIn read) (sym (tables-over (standing id p) q)) (in-place h))

  fit-where : (db : Database) (other : ℕ) (own : List Kind) (b : Bool) → TablesFit db p → bag_fits (db other) own ≡ true → TablesFit db (cond b p (Table other own))
  fit-where db other own true f g = f
  fit-where db other own false f g = g

  pub fit-standing : (q : Query) (db : Database) → TablesFit db p → TablesFit db q → TablesFit db (over_queries (standing id p) q)
  fit-standing q db f g =
      each_table-over (standing id p) (λ other own. bag_fits (db other) own ≡ true) q
      (each_table-kept _ (λ other own. TablesFit db (standing id p other own)) (λ other own fits. fit-where db other own (other == id) f fits) q g)
