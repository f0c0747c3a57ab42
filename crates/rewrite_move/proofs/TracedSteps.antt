-- A step of what is traced of a sublink is a step of the sublink.
use Rattle.std.proofs.Common.{◌≡◌, ℕ, List, [], ◌∷◌, ◌++◌, refl, sym, ap, ◌∙◌}
use Rattle.perm_values.specs.declared.kind.Kind.{Kind}
use Rattle.bag_algebra.proofs.Members.{IsIn}
use Rattle.bag_algebra.specs.Bags.{Row, Bag}
use Rattle.bag_algebra.specs.built.Forms.{AllSubsForm}
use Rattle.bag_algebra.specs.Kinds.{kinds_of, place_kinds, shape}
use Rattle.bag_algebra.specs.Meaning.{Database}
use Rattle.bag_algebra.specs.TablesRead.{EachTable}
use Rattle.bag_algebra.specs.WellFormed.{WellFormed}
use Rattle.bag_algebra.specs.declared.query.Query.{Query}
use Rattle.bag_algebra.specs.declared.query.SubKind.{SubKind}
use Rattle.bag_algebra.specs.declared.query.SubKind.TheVariants.{Exists, Any, All, Scalar}
use Rattle.bag_algebra.specs.declared.query.Sublink.{Sublink}
use Rattle.query_laws.specs.SublinkLists.{Contributes}
use Rattle.rewrite_move.proofs.BelowGroups.{shape-below, formed-below, tables-below}
use Rattle.rewrite_move.proofs.Contributed.{traced-contributes, traced-value}
use Rattle.rewrite_move.specs.Traced.{below_by, traced_by, traced_sub}
use Rattle.rewrite_sublink.proofs.Steps.{SubsFitting, Begun, HasValue, Extended, Reached, Step}

shape-by : (kind : SubKind) (sub : Sublink) → shape (traced_by kind sub).query ≡ shape sub.query
shape-by Exists sub = shape-below sub.query
shape-by (Any c) sub = refl
shape-by (All c) sub = refl
shape-by Scalar sub = shape-below sub.query

form-by : (kind : SubKind) (scopes : List (List Kind)) (sub : Sublink) → AllSubsForm scopes (sub ∷ []) → AllSubsForm scopes (traced_by kind sub ∷ [])
form-by Exists scopes sub f = record { query = formed-below scopes sub.query f.query; fitting = tt; others = tt }
form-by (Any c) scopes sub f = f
form-by (All c) scopes sub f = f
form-by Scalar scopes sub f = record { query = formed-below scopes sub.query f.query; fitting = tt; others = tt }

tables-by : (kind : SubKind) (P : ℕ → List Kind → Type 0) (sub : Sublink) → EachTable P sub.query → EachTable P (traced_by kind sub).query
tables-by Exists P sub h = tables-below P sub.query h
tables-by (Any c) P sub h = h
tables-by (All c) P sub h = h
tables-by Scalar P sub h = tables-below P sub.query h

pub query-by : (kind : SubKind) (sub : Sublink) → (traced_by kind sub).query ≡ below_by kind sub.query
query-by Exists sub = refl
query-by (Any c) sub = refl
query-by (All c) sub = refl
query-by Scalar sub = refl

pub places-by : (kind : SubKind) (sub : Sublink) → shape (below_by kind sub.query) ≡ shape sub.query
places-by kind sub = ap shape (sym (query-by kind sub)) ∙ shape-by kind sub

pub formed-by : (kind : SubKind) (scopes : List (List Kind)) (sub : Sublink) → WellFormed scopes sub.query → WellFormed scopes (below_by kind sub.query)
formed-by Exists scopes sub f = formed-below scopes sub.query f
formed-by (Any c) scopes sub f = f
formed-by (All c) scopes sub f = f
formed-by Scalar scopes sub f = formed-below scopes sub.query f

pub traced-shape : (sub : Sublink) → shape (traced_sub sub).query ≡ shape sub.query
traced-shape sub = shape-by sub.kind sub

pub traced-form : (scopes : List (List Kind)) (sub : Sublink) → AllSubsForm scopes (sub ∷ []) → AllSubsForm scopes (traced_sub sub ∷ [])
traced-form scopes sub f = form-by sub.kind scopes sub f

pub traced-tables : (P : ℕ → List Kind → Type 0) (sub : Sublink) → EachTable P sub.query → EachTable P (traced_sub sub).query
traced-tables P sub h = tables-by sub.kind P sub h

module _ (sub : Sublink) (next : Query → Query) (step : Step (traced_sub sub) next) where
  fitting : (columns : List Kind) (outer : List (List Kind)) (db : Database) (env : List Row) → SubsFitting columns outer (sub ∷ []) db env →
      SubsFitting columns outer (traced_sub sub ∷ []) db env
  fitting columns outer db env f = record {
    form = traced-form (columns ∷ outer) sub f.form;
    tables = (traced-tables _ sub f.tables.0, tt);
    outer_rows = f.outer_rows;
  }

  module _ (columns : List Kind) (outer : List (List Kind)) (db : Database) (env : List Row) (f : SubsFitting columns outer (sub ∷ []) db env) (rows : Query) (us : Bag)
      (g : Begun columns outer db env rows us) (values : (b : Row) → IsIn b us → HasValue db env sub b) where
    reached : Reached (next rows) db env (λ b c. Contributes db env b (traced_sub sub) c) us
    reached = step.good columns outer db env (fitting columns outer db env f) rows us g (λ b h. let has = values b h in traced-value db env b sub has.0 has.1)

    extended : Extended (λ b c. Contributes db env b sub c) us reached.bag
    extended = record {
      there = λ b c h contributes. let has = values b h in reached.extended.there b c h ((traced-contributes db env b sub has.0 has.1 c).0 contributes);
      back = λ y h. let origin = reached.extended.back y h in let has = values origin.0 origin.2 in
          (origin.0, origin.1, origin.2, (traced-contributes db env origin.0 sub has.0 has.1 origin.1).1 origin.3, origin.4);
    }

  pub traced-step : Step sub next
  traced-step = record {
    kinds = λ scopes rows f. step.kinds scopes rows (traced-form scopes sub f) ∙ ap (λ places. kinds_of rows ++ place_kinds places) (traced-shape sub);
    plain = step.plain;
    tables = λ P rows of_rows of_sub. step.tables P rows of_rows (traced-tables P sub of_sub);
    formed = λ columns outer rows more f begins formed. step.formed columns outer rows more (traced-form (columns ∷ outer) sub f) begins formed;
    bad = λ columns outer db env f rows faults bad. step.bad columns outer db env (fitting columns outer db env f) rows faults bad;
    good = λ columns outer db env f rows us g values. record {
      bag = (reached columns outer db env f rows us g values).bag;
      good = (reached columns outer db env f rows us g values).good;
      extended = extended columns outer db env f rows us g values;
    };
  }
