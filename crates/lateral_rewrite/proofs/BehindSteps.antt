-- A step that first puts some columns behind each row: beside what a right side has under these rows, and then without the columns again.
use Rattle.std.proofs.Common.{◌≡◌, ℕ, true, List, [], ◌∷◌, ◌++◌, ◌+◌, map, length, length-append, refl, sym, ap, ◌∙◌, subst, arith}
use Rattle.perm_values.specs.Rows.{picked}
use Rattle.perm_values.specs.declared.kind.Kind.{Kind}
use Rattle.perm_values.specs.declared.value.Value.TheVariants.{Null}
use Rattle.bag_algebra.proofs.Members.{IsIn, in-map, from-map, in-member}
use Rattle.bag_algebra.proofs.Outcomes.{same_good}
use Rattle.bag_algebra.specs.Bags.{Row, Bag}
use Rattle.bag_algebra.specs.built.Forms.{AllSubsForm}
use Rattle.bag_algebra.specs.ColumnItems.{column_items}
use Rattle.bag_algebra.specs.Fits.{bag_fits, row_begins}
use Rattle.bag_algebra.specs.Kinds.{kinds_of, kinds_in, place_kinds, shape, width_of}
use Rattle.bag_algebra.specs.Meaning.{Database, meaning}
use Rattle.bag_algebra.specs.Means.{Witness, flat, good_rows}
use Rattle.bag_algebra.specs.Outcome.{Faults, Outcome, Good, Bad, and_then, mapped, each}
use Rattle.bag_algebra.specs.Rewriting.{is_plain}
use Rattle.bag_algebra.specs.TablesRead.{EachTable}
use Rattle.bag_algebra.specs.WellFormed.{WellFormed}
use Rattle.bag_algebra.specs.declared.query.Query.{Query}
use Rattle.bag_algebra.specs.declared.query.Sublink.{Sublink}
use Rattle.contribution.proofs.ColumnQueries.{kinds_of-columns, meaning-columns, formed-columns}
use Rattle.contribution.proofs.GoodRows.{from-each}
use Rattle.contribution.proofs.NodeQueries.{plain-projected}
use Rattle.contribution.specs.Fitting.{Fitting}
use Rattle.query_laws.proofs.Outcomes.{over-each, good-good}
use Rattle.query_laws.specs.SublinkLists.{Contributes}
use Rattle.rewrite_core.proofs.Faults.{in-each}
use Rattle.rewrite_core.proofs.KeptRows.{row-width, kept-kinds}
use Rattle.rewrite_core.proofs.Places.{at-kept, kept-within}
use Rattle.rewrite_core.specs.rewritings.KeptColumns.{columns_kept, kept_places}
use Rattle.rewrite_sublink.proofs.Contributing.{padded_rows}
use Rattle.rewrite_sublink.proofs.LongerRows.{row-begun}
use Rattle.rewrite_sublink.proofs.Steps.{SubsFitting, Begun, HasValue, OnRows, Reached, StepGiven}
use Rattle.lateral_rewrite.proofs.BesideRows.{IsBeside, Besides, answer-beside, good-bag}
use Rattle.lateral_rewrite.proofs.RightRows.{Contributions, contribution-width}
use Rattle.lateral_rewrite.specs.Dependent.{beside}

-- a row, what stands behind it, and what the right side has under the two: what the sublink contributes on the row
pub record Made (db : Database) (env : List Row) (sub : Sublink) (extra : List Kind) (on : Row → Outcome Row) (right : Query) (b : Row) : Type 0 where
  pub behind : Row
  pub wide : length behind ≡ length extra
  pub row : on b ≡ Good (b ++ behind)
  pub rows : Bag
  pub good : meaning right db ((b ++ behind) ∷ env) ≡ Good rows
  pub contributions : Contributions db env b sub (width_of right) rows

-- over puts columns of these kinds behind the rows, and right stands under each of its rows
pub record Behind (known : OnRows) (sub : Sublink) (extra : List Kind) (over right : Query → Query) : Type 1 where
  pub has : (db : Database) (env : List Row) (b : Row) → known db env b → HasValue db env sub b
  pub kinds : (rows : Query) → kinds_of (over rows) ≡ kinds_of rows ++ extra
  pub plain : (rows : Query) → is_plain rows ≡ true → is_plain (over rows) ≡ true
  pub tables : (P : ℕ → List Kind → Type 0) (rows : Query) → EachTable P rows → EachTable P sub.query → EachTable P (over rows)
  pub formed : (columns : List Kind) (outer : List (List Kind)) (rows : Query) (more : List Kind) → AllSubsForm (columns ∷ outer) (sub ∷ []) →
      kinds_of rows ≡ columns ++ more → WellFormed outer rows → WellFormed outer (over rows)
  pub on : Database → List Row → Query → Row → Outcome Row
  pub is_on : (db : Database) (env : List Row) (rows : Query) → meaning (over rows) db env ≡ and_then (meaning rows db env) (each (on db env rows))
  pub right_kinds : (scopes : List (List Kind)) (rows : Query) → AllSubsForm scopes (sub ∷ []) → kinds_of (right rows) ≡ place_kinds (shape sub.query)
  pub right_plain : (rows : Query) → is_plain (right rows) ≡ true
  pub right_tables : (P : ℕ → List Kind → Type 0) (rows : Query) → EachTable P sub.query → EachTable P (right rows)
  pub right_formed : (columns : List Kind) (outer : List (List Kind)) (rows : Query) (more : List Kind) → AllSubsForm (columns ∷ outer) (sub ∷ []) →
      kinds_of rows ≡ columns ++ more → WellFormed (kinds_of (over rows) ∷ outer) (right rows)
  pub made : (columns : List Kind) (outer : List (List Kind)) (db : Database) (env : List Row) → SubsFitting columns outer (sub ∷ []) db env → (rows : Query) (b : Row) →
      row_begins b columns ≡ true → length b ≡ width_of rows → known db env b → Made db env sub extra (on db env rows) (right rows) b

-- inner being what the dependent join of the two is
module _ {known : OnRows} {sub : Sublink} {extra : List Kind} {over right : Query → Query} (h : Behind known sub extra over right) (inner : Query → Query)
    (is : (rows : Query) → IsBeside (over rows) (right rows) (inner rows)) where
  abbrev next : Query → Query
  next rows = columns_kept (inner rows) (width_of rows) (length extra)

  abbrev places : Query → List ℕ
  places rows = kept_places (width_of rows) (length extra) (width_of (inner rows))

  kinds-inner : (scopes : List (List Kind)) (rows : Query) → AllSubsForm scopes (sub ∷ []) → kinds_of (inner rows) ≡ (kinds_of rows ++ extra) ++ place_kinds (shape sub.query)
  kinds-inner scopes rows f = (is rows).kinds ∙ (λ i. h.kinds rows i ++ h.right_kinds scopes rows f i)

  kinds-next : (scopes : List (List Kind)) (rows : Query) → AllSubsForm scopes (sub ∷ []) → kinds_of (next rows) ≡ kinds_of rows ++ place_kinds (shape sub.query)
  kinds-next scopes rows f =
      kinds_of-columns (inner rows) (places rows)
      ∙ ap (λ ks. kinds_in ks (kept_places (width_of rows) (length extra) (length ks))) (kinds-inner scopes rows f)
      ∙ kept-kinds (kinds_of rows) extra (place_kinds (shape sub.query)) (width_of rows) (length extra) refl refl

  plain-next : (rows : Query) → is_plain rows ≡ true → is_plain (next rows) ≡ true
  plain-next rows plain =
      plain-projected (inner rows) (column_items (kinds_of (inner rows)) (places rows)) ∙ (is rows).plain (h.plain rows plain) (h.right_plain rows)

  tables-next : (P : ℕ → List Kind → Type 0) (rows : Query) → EachTable P rows → EachTable P sub.query → EachTable P (next rows)
  tables-next P rows of_rows of_sub = ((is rows).tables P (h.tables P rows of_rows of_sub) (h.right_tables P rows of_sub), tt)

  whole-width : (scopes : List (List Kind)) (rows : Query) → AllSubsForm scopes (sub ∷ []) →
      width_of (inner rows) ≡ (width_of rows + length extra) + length (place_kinds (shape sub.query))
  whole-width scopes rows f =
      omega (arith, ap length (kinds-inner scopes rows f), length-append (kinds_of rows ++ extra) (place_kinds (shape sub.query)), length-append (kinds_of rows) extra)

  formed-next : (columns : List Kind) (outer : List (List Kind)) (rows : Query) (more : List Kind) → AllSubsForm (columns ∷ outer) (sub ∷ []) →
      kinds_of rows ≡ columns ++ more → WellFormed outer rows → WellFormed outer (next rows)
  formed-next columns outer rows more f begins w =
      let wide = whole-width (columns ∷ outer) rows f in
      formed-columns (inner rows) (places rows) (kept-within (width_of rows) (length extra) (width_of (inner rows)) (omega (arith, wide)))
      outer ((is rows).formed outer (h.formed columns outer rows more f begins w) (h.right_formed columns outer rows more f begins))

  module _ (columns : List Kind) (outer : List (List Kind)) (db : Database) (env : List Row) (f : SubsFitting columns outer (sub ∷ []) db env) (rows : Query) where
    abbrev of_tables : ℕ → List Kind → Type 0
    of_tables id kinds = bag_fits (db id) kinds ≡ true

    bad-next : (faults : Faults) → meaning rows db env ≡ Bad faults → meaning (next rows) db env ≡ Bad faults
    bad-next faults e =
        meaning-columns (inner rows) (places rows) db env
        ∙ ap (mapped (map (picked (places rows))))
        ((is rows).bad db env faults (h.right_tables of_tables rows f.tables.0) (h.is_on db env rows ∙ ap (λ o. and_then o (each (h.on db env rows))) e))

    module _ (us : Bag) (g : Begun columns outer db env rows us) (given : (b : Row) → IsIn b us → known db env b) where
      made : (b : Row) → IsIn b us → Made db env sub extra (h.on db env rows) (right rows) b
      made b i = h.made columns outer db env f rows b (row-begun g b i) (row-width outer rows db env g.fitting us b g.good (in-member b us i)) (given b i)

      width-of : (b : Row) → IsIn b us → length b ≡ width_of rows
      width-of b i = row-width outer rows db env g.fitting us b g.good (in-member b us i)

      has : (b : Row) → IsIn b us → HasValue db env sub b
      has b i = h.has db env b (given b i)

      -- without the columns behind
      moved : (b : Row) (i : IsIn b us) (k : Row) → length k ≡ length (place_kinds (shape sub.query)) → picked (places rows) ((b ++ (made b i).behind) ++ k) ≡ b ++ k
      moved b i k e =
          at-kept Null b (made b i).behind k (width_of rows) (length extra) (width_of (inner rows)) (width-of b i) (made b i).wide
          (omega (
            arith,
            length-append (b ++ (made b i).behind) k,
            length-append b (made b i).behind,
            width-of b i,
            (made b i).wide,
            e,
            whole-width (columns ∷ outer) rows f.form,
          ))

      -- ---- the rows with the columns behind them

      longer : (zs : Bag) × (each (h.on db env rows) us ≡ Good zs)
      longer =
          good-bag (each (h.on db env rows) us)
          ((over-each (h.on db env rows) us).is_good (λ b i. good-good (h.on db env rows b) (b ++ (made b i).behind) (made b i).row))

      longer-good : meaning (over rows) db env ≡ Good longer.0
      longer-good = h.is_on db env rows ∙ ap (λ o. and_then o (each (h.on db env rows))) g.good ∙ longer.1

      longer-in : (b : Row) (i : IsIn b us) → IsIn (b ++ (made b i).behind) longer.0
      longer-in b i = in-each (h.on db env rows) (b ++ (made b i).behind) b us longer.0 longer.1 i (made b i).row

      origin : (z : Row) → IsIn z longer.0 → (b : Row) × (i : IsIn b us) × (b ++ (made b i).behind ≡ z)
      origin z j =
          let found = from-each (h.on db env rows) z us (subst (λ o. IsIn z (good_rows o)) (sym longer.1) j) in
          (found.0, found.1, same_good (found.0 ++ (made found.0 found.1).behind) z (sym (made found.0 found.1).row ∙ found.2))

      goods : (z : Row) → IsIn z longer.0 → (ks : Bag) × (meaning (right rows) db (z ∷ env) ≡ Good ks)
      goods z j =
          let o = origin z j in
          let m = made o.0 o.1 in
          (m.rows, subst (λ z. meaning (right rows) db (z ∷ env) ≡ Good m.rows) o.2 m.good)

      fits : Fitting outer (beside (over rows) (right rows)) db env
      fits = record {
        formed = record {
          left = h.formed columns outer rows g.more f.form g.begins g.fitting.formed;
          right = h.right_formed columns outer rows g.more f.form g.begins;
          dependent = refl;
        };
        tables = (h.tables of_tables rows g.fitting.tables f.tables.0, h.right_tables of_tables rows f.tables.0);
        outer_rows = f.outer_rows;
      }

      answer : (bag : Bag) × (meaning (inner rows) db env ≡ Good bag) × Besides (width_of (right rows)) (λ u. meaning (right rows) db (u ∷ env)) longer.0 bag
      answer = answer-beside (is rows) fits longer.0 longer-good goods

      there : (b : Row) (c : Witness) → IsIn b us → Contributes db env b sub c → IsIn (b ++ flat c) (map (picked (places rows)) answer.0)
      there b c i k =
          let m = made b i in
          let z = b ++ m.behind in
          subst (λ y. IsIn y (map (picked (places rows)) answer.0)) (moved b i (flat c) (contribution-width f b (row-begun g b i) (has b i) c k))
          (in-map (picked (places rows)) (z ++ flat c) answer.0 (answer.2.there z (flat c) m.rows (longer-in b i) m.good (m.contributions.there c k)))

      back : (y : Row) → IsIn y (map (picked (places rows)) answer.0) → (b : Row) × (c : Witness) × IsIn b us × Contributes db env b sub c × (b ++ flat c ≡ y)
      back y j =
          let from = from-map (picked (places rows)) y answer.0 j in
          let found = answer.2.back from.0 from.1 in
          let o = origin found.0 found.3 in
          let b = o.0 in
          let m = made b o.1 in
          let same : found.2 ≡ m.rows = same_good found.2 m.rows (sym found.4 ∙ subst (λ z. meaning (right rows) db (z ∷ env) ≡ Good m.rows) o.2 m.good) in
          let c = m.contributions.back found.1 (subst (λ ks. IsIn found.1 (padded_rows (width_of (right rows)) ks)) same found.5) in (
            b,
            c.0,
            o.1,
            c.1,
            sym (moved b o.1 (flat c.0) (contribution-width f b (row-begun g b o.1) (has b o.1) c.0 c.1))
                ∙ ap (picked (places rows)) ((λ k. o.2 k ++ c.2 k) ∙ found.6)
                ∙ from.2,
          )

      reached : Reached (next rows) db env (λ b c. Contributes db env b sub c) us
      reached = record {
        bag = map (picked (places rows)) answer.0;
        good = meaning-columns (inner rows) (places rows) db env ∙ ap (mapped (map (picked (places rows)))) answer.1;
        extended = record { there = there; back = back };
      }

  pub step_behind : StepGiven known sub next
  step_behind = record {
    kinds = kinds-next;
    plain = plain-next;
    tables = tables-next;
    formed = formed-next;
    bad = λ columns outer db env f rows faults e. bad-next columns outer db env f rows faults e;
    good = reached;
  }
