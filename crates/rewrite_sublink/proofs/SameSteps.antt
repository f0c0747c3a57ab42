-- What has the rows of a step is one too.
use Rattle.std.proofs.Common.{◌≡◌, ℕ, true, List, [], ◌∷◌, ◌++◌, refl, sym, ◌∙◌, subst}
use Rattle.perm_values.specs.declared.kind.Kind.{Kind}
use Rattle.bag_algebra.proofs.BagLaws.{member-same_bag}
use Rattle.bag_algebra.proofs.Members.{in-member, member-in}
use Rattle.bag_algebra.specs.Bags.{Row, Bag}
use Rattle.bag_algebra.specs.built.Forms.{AllSubsForm}
use Rattle.bag_algebra.specs.Kinds.{kinds_of}
use Rattle.bag_algebra.specs.Meaning.{Database, meaning}
use Rattle.bag_algebra.specs.Means.{Witness}
use Rattle.bag_algebra.specs.Outcome.{Faults, Outcome, Good, Bad}
use Rattle.bag_algebra.specs.Rewriting.{SameRows, is_plain}
use Rattle.bag_algebra.specs.TablesRead.{EachTable}
use Rattle.bag_algebra.specs.WellFormed.{WellFormed}
use Rattle.bag_algebra.specs.declared.query.Query.{Query}
use Rattle.bag_algebra.specs.declared.query.Sublink.{Sublink}
use Rattle.rewrite_sublink.proofs.Steps.{SubsFitting, Begun, Reached, Step}

-- other makes what next makes, up to the order of the rows
pub record SameStep (sub : Sublink) (next other : Query → Query) : Type 1 where
  pub kinds : (scopes : List (List Kind)) (rows : Query) → AllSubsForm scopes (sub ∷ []) → kinds_of (other rows) ≡ kinds_of (next rows)
  pub plain : (rows : Query) → is_plain (next rows) ≡ true → is_plain (other rows) ≡ true
  pub tables : (P : ℕ → List Kind → Type 0) (rows : Query) → EachTable P rows → EachTable P sub.query → EachTable P (next rows) → EachTable P (other rows)
  pub formed : (columns : List Kind) (outer : List (List Kind)) (rows : Query) (more : List Kind) → AllSubsForm (columns ∷ outer) (sub ∷ []) →
      kinds_of rows ≡ columns ++ more → WellFormed outer (next rows) → WellFormed outer (other rows)
  pub bad : (columns : List Kind) (outer : List (List Kind)) (db : Database) (env : List Row) → SubsFitting columns outer (sub ∷ []) db env → (rows : Query) (faults : Faults) →
      meaning rows db env ≡ Bad faults → meaning (next rows) db env ≡ Bad faults → meaning (other rows) db env ≡ Bad faults
  pub rows : (columns : List Kind) (outer : List (List Kind)) (db : Database) (env : List Row) → SubsFitting columns outer (sub ∷ []) db env → (rows : Query) (us : Bag) →
      Begun columns outer db env rows us → SameRows (meaning (next rows) db env) (meaning (other rows) db env)

module _ (p o : Query) (db : Database) (env : List Row) (contributes : Row → Witness → Type 0) (us : Bag) (r : Reached p db env contributes us) where
  reached-where : (outcome : Outcome Bag) → meaning o db env ≡ outcome → SameRows (Good r.bag) outcome → Reached o db env contributes us
  reached-where (Good bag) e s = record {
    bag = bag;
    good = e;
    extended = record {
      there = λ b c h k.
          let here = r.extended.there b c h k in
          member-in _ bag (sym (member-same_bag _ r.bag bag s) ∙ in-member _ r.bag here);
      back = λ y h. r.extended.back y (member-in y r.bag (member-same_bag y r.bag bag s ∙ in-member y bag h));
    };
  }
  reached-where (Bad faults) e s = absurd s

  pub reached-same : SameRows (meaning p db env) (meaning o db env) → Reached o db env contributes us
  reached-same s = reached-where (meaning o db env) refl (subst (λ outcome. SameRows outcome (meaning o db env)) r.good s)

pub step-along : (sub : Sublink) (next other : Query → Query) → Step sub next → SameStep sub next other → Step sub other
step-along sub next other step same = record {
  kinds = λ scopes rows f. same.kinds scopes rows f ∙ step.kinds scopes rows f;
  plain = λ rows plain. same.plain rows (step.plain rows plain);
  tables = λ P rows of_rows of_sub. same.tables P rows of_rows of_sub (step.tables P rows of_rows of_sub);
  formed = λ columns outer rows more f begins w. same.formed columns outer rows more f begins (step.formed columns outer rows more f begins w);
  bad = λ columns outer db env f rows faults e. same.bad columns outer db env f rows faults e (step.bad columns outer db env f rows faults e);
  good = λ columns outer db env f rows us g values.
      reached-same (next rows) (other rows) db env _ us (step.good columns outer db env f rows us g values) (same.rows columns outer db env f rows us g);
}
