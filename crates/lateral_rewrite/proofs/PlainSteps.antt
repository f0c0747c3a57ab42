-- A sublink to which all rows of its query contribute: the provenance of a rewriting under each row is a step.
use Rattle.std.proofs.Common.{◌≡◌, ℕ, ◌+◌, true, false, not, ◌||◌, List, [], ◌∷◌, ◌++◌, map, filter, length, None, Contains, length-append, refl, sym, ap, ◌∙◌, subst}
use Rattle.perm_values.specs.Rows.{picked}
use Rattle.perm_values.specs.declared.kind.Kind.{Kind}
use Rattle.perm_values.specs.declared.value.Value.{Value}
use Rattle.bag_algebra.proofs.Members.{IsIn}
use Rattle.bag_algebra.proofs.Outcomes.{same_good}
use Rattle.bag_algebra.proofs.TablesRead.{reads_among-each}
use Rattle.bag_algebra.specs.Bags.{Row, Bag}
use Rattle.bag_algebra.specs.built.Forms.{AllSubsForm}
use Rattle.bag_algebra.specs.Fits.{bag_fits, row_begins}
use Rattle.bag_algebra.specs.Kinds.{kinds_of, place_kinds, shape, width_of}
use Rattle.bag_algebra.specs.Meaning.{Database, meaning, witnesses}
use Rattle.bag_algebra.specs.Means.{Witness, flat}
use Rattle.bag_algebra.specs.Outcome.{Outcome, Good, mapped}
use Rattle.bag_algebra.specs.Rewriting.{IsRewrite}
use Rattle.bag_algebra.specs.TablesRead.{EachTable}
use Rattle.bag_algebra.specs.WellFormed.{WellFormed}
use Rattle.bag_algebra.specs.declared.query.Query.{Query}
use Rattle.bag_algebra.specs.declared.query.SubKind.{SubKind}
use Rattle.bag_algebra.specs.declared.query.SubKind.TheVariants.{Exists, Any, All, Scalar}
use Rattle.bag_algebra.specs.declared.query.Sublink.{Sublink}
use Rattle.contribution.proofs.ColumnQueries.{meaning-columns}
use Rattle.contribution.proofs.LongerKinds.{well_formed-longer}
use Rattle.contribution.specs.Fitting.{Fitting}
use Rattle.query_laws.specs.SublinkLists.{Contributes}
use Rattle.rewrite_core.specs.rewritings.KeptColumns.{kept_places}
use Rattle.rewrite_sublink.proofs.Contributing.{padded_rows}
use Rattle.rewrite_sublink.proofs.LongerRows.{names-begin, row-begun}
use Rattle.rewrite_sublink.proofs.Steps.{SubsFitting, Begun, HasValue, Extended, OnRows, Reached, Step, StepGiven}
use Rattle.rewrite_sublink.proofs.SublinkRows as under
use Rattle.rewrite_sublink.proofs.TestValues.{none-any}
use Rattle.rewrite_sublink.specs.Candidates.{deciding}
use Rattle.lateral_rewrite.proofs.BesideRows.{IsBeside, Besides, answer-beside, left-beside}
use Rattle.lateral_rewrite.proofs.Provenance.{kinds-provenance, formed-provenance, plain-provenance, chosen-lists}
use Rattle.lateral_rewrite.proofs.RightRows.{Contributions, contributions, is_chosen}
use Rattle.lateral_rewrite.specs.Dependent.{beside, provenance_of}

-- a sublink whose value doesn't choose lets every row contribute
pub all-chosen : (kind : SubKind) → deciding kind ≡ None → (x : Value) (vs : Bag) (row : Row) → true ≡ is_chosen kind x vs row
all-chosen Exists e x vs row = ap (λ d. not d || false) (sym (none-any vs))
all-chosen (Any c) e x vs row = absurd (cc e)
all-chosen (All c) e x vs row = absurd (cc e)
all-chosen Scalar e x vs row = ap (λ d. not d || false) (sym (none-any vs))

all-pass : (rs : Bag) → rs ≡ filter (λ (row : Row). true) rs
all-pass [] = refl
all-pass (row ∷ rs) = ap (λ others. row ∷ others) (all-pass rs)

-- how wide a row of the sublink's query is beside a list
pub whole-width : {columns : List Kind} {outer : List (List Kind)} {db : Database} {env : List Row} {sub : Sublink} {r : Query} (f : SubsFitting columns outer (sub ∷ []) db env)
    (b : Row) (begins : row_begins b columns ≡ true) (v : HasValue db env sub b) → IsRewrite sub.query r → (row : Row) (w : Witness) → IsIn row (under.vs f b begins v) →
    Contains (witnesses sub.query db (b ∷ env) row) w → length (row ++ flat w) ≡ width_of r
whole-width {columns} {outer} {db} {env} {sub} {r} f b begins v rewritten row w h c =
    length-append row (flat w)
    ∙ (λ i. under.wide f b begins v row h i + under.long f b begins v row w c i)
    ∙ sym (length-append (kinds_of sub.query) (place_kinds (shape sub.query)))
    ∙ sym (ap length (rewritten.kinds (columns ∷ outer) f.form.query))

-- rows that stand beside their contributions, where a right side has these
pub extended-besides : (width : ℕ) (right : Row → Outcome Bag) (db : Database) (env : List Row) (sub : Sublink) (us bag : Bag) → Besides width right us bag →
    ((b : Row) → IsIn b us → (ks : Bag) × (right b ≡ Good ks) × Contributions db env b sub width ks) → Extended (λ b c. Contributes db env b sub c) us bag
extended-besides width right db env sub us bag besides made = record {
  there = λ b c h k. let m = made b h in besides.there b (flat c) m.0 h m.1 (m.2.there c k);
  back = λ y h.
      let found = besides.back y h in
      let m = made found.0 found.3 in
      let same : found.2 ≡ m.0 = same_good found.2 m.0 (sym found.4 ∙ m.1) in
      let c = m.2.back found.1 (subst (λ ks. IsIn found.1 (padded_rows width ks)) same found.5) in
      (found.0, c.0, found.3, c.1, ap (λ k. found.0 ++ k) c.2 ∙ found.6);
}

-- over a query that has as many columns, next being what the dependent join is
module _ {known : OnRows} (sub : Sublink) (r : Query) (own : ℕ) (rewritten : IsRewrite sub.query r)
    (own_is : (scopes : List (List Kind)) → AllSubsForm scopes (sub ∷ []) → width_of sub.query ≡ own)
    (has : (db : Database) (env : List Row) (b : Row) → known db env b → HasValue db env sub b)
    (all : (columns : List Kind) (outer : List (List Kind)) (db : Database) (env : List Row) (f : SubsFitting columns outer (sub ∷ []) db env) (b : Row)
    (begins : row_begins b columns ≡ true) (k : known db env b) (row : Row) →
    true ≡ is_chosen sub.kind (under.x f b begins (has db env b k)) (under.vs f b begins (has db env b k)) row)
    (next : Query → Query) (is : (rows : Query) → IsBeside rows (provenance_of r own) (next rows)) where
  abbrev right : Query
  right = provenance_of r own

  kinds-right : (scopes : List (List Kind)) → AllSubsForm scopes (sub ∷ []) → kinds_of right ≡ place_kinds (shape sub.query)
  kinds-right scopes f = kinds-provenance r own (kinds_of sub.query) (place_kinds (shape sub.query)) (rewritten.kinds scopes f.query) (own_is scopes f)

  tables-right : (P : ℕ → List Kind → Type 0) → EachTable P sub.query → EachTable P right
  tables-right P of_sub = (reads_among-each P r sub.query rewritten.tables of_sub, tt)

  module _ (columns : List Kind) (outer : List (List Kind)) where
    formed-right : AllSubsForm (columns ∷ outer) (sub ∷ []) → (rows : Query) (more : List Kind) → kinds_of rows ≡ columns ++ more → WellFormed (kinds_of rows ∷ outer) right
    formed-right f rows more begins =
        formed-provenance r own (kinds_of rows ∷ outer)
        (well_formed-longer r (columns ∷ outer) (kinds_of rows ∷ outer) (names-begin columns more (kinds_of rows) outer begins) (rewritten.formed (columns ∷ outer) f.query))

    module _ (db : Database) (env : List Row) (f : SubsFitting columns outer (sub ∷ []) db env) (rows : Query) (us : Bag) (g : Begun columns outer db env rows us)
        (given : (b : Row) → IsIn b us → known db env b) where
      made : (b : Row) → IsIn b us → (ks : Bag) × (meaning right db (b ∷ env) ≡ Good ks) × Contributions db env b sub (width_of right) ks
      made b h =
          let begins = row-begun g b h in
          let v = has db env b (given b h) in
          let rs = under.rewriting-rows f b begins v rewritten in
          let places = kept_places 0 own (width_of r) in
          let ks = map (picked places) (filter (λ (row : Row). true) rs.0) in (
            ks,
            meaning-columns r places db (b ∷ env) ∙ ap (mapped (map (picked places))) (rs.1 ∙ ap Good (all-pass rs.0)),
            contributions f b begins v (width_of right) (sym (ap length (kinds-right (columns ∷ outer) f.form))) ks
                (chosen-lists sub.kind (under.x f b begins v) (under.vs f b begins v) rs.0 (witnesses sub.query db (b ∷ env)) rs.2 own (width_of r)
                (λ row i. under.wide f b begins v row i ∙ own_is (columns ∷ outer) f.form) (λ row w i c. whole-width f b begins v rewritten row w i c) (λ row. true)
                (λ row w i c. all columns outer db env f b begins (given b h) row)),
          )

      fits : Fitting outer (beside rows right) db env
      fits = record {
        formed = record { left = g.fitting.formed; right = formed-right f.form rows g.more g.begins; dependent = refl };
        tables = (g.fitting.tables, tables-right (λ id kinds. bag_fits (db id) kinds ≡ true) f.tables.0);
        outer_rows = f.outer_rows;
      }

      reached : Reached (next rows) db env (λ b c. Contributes db env b sub c) us
      reached =
          let answer = answer-beside (is rows) fits us g.good (λ u h. let m = made u h in (m.0, m.1)) in
          record {
            bag = answer.0;
            good = answer.1;
            extended = extended-besides (width_of right) (λ u. meaning right db (u ∷ env)) db env sub us answer.0 answer.2 made;
          }

  pub plain_step_given : StepGiven known sub next
  plain_step_given = record {
    kinds = λ scopes rows f. (is rows).kinds ∙ ap (λ ks. kinds_of rows ++ ks) (kinds-right scopes f);
    plain = λ rows plain. (is rows).plain plain (plain-provenance r own ∙ rewritten.plain);
    tables = λ P rows of_rows of_sub. (is rows).tables P of_rows (tables-right P of_sub);
    formed = λ columns outer rows more f begins formed. (is rows).formed outer formed (formed-right columns outer f rows more begins);
    bad = λ columns outer db env f rows faults e. (is rows).bad db env faults (tables-right (λ id kinds. bag_fits (db id) kinds ≡ true) f.tables.0) e;
    good = reached;
  }

-- of a sublink whose value doesn't choose
pub plain_step_over : (sub : Sublink) (r : Query) (own : ℕ) → IsRewrite sub.query r →
    ((scopes : List (List Kind)) → AllSubsForm scopes (sub ∷ []) → width_of sub.query ≡ own) →
    ((scopes : List (List Kind)) → AllSubsForm scopes (sub ∷ []) → deciding sub.kind ≡ None) →
    (next : Query → Query) → ((rows : Query) → IsBeside rows (provenance_of r own) (next rows)) → Step sub next
plain_step_over sub r own rewritten own_is undecided next is =
    plain_step_given sub r own rewritten own_is (λ db env b values. values)
    (λ columns outer db env f b begins v row. all-chosen sub.kind (undecided (columns ∷ outer) f.form) (under.x f b begins v) (under.vs f b begins v) row) next is

-- under each row the provenance of a rewriting, for EXISTS and for scalar sublinks
pub plain_step : (sub : Sublink) (r : Query) → deciding sub.kind ≡ None → IsRewrite sub.query r → Step sub (λ rows. beside rows (provenance_of r (width_of sub.query)))
plain_step sub r undecided rewritten =
    plain_step_over sub r (width_of sub.query) rewritten (λ scopes f. refl) (λ scopes f. undecided) (λ rows. beside rows (provenance_of r (width_of sub.query)))
    (λ rows. left-beside rows (provenance_of r (width_of sub.query)))
