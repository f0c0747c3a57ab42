-- The contributions of each sublink by a dependent join are a step.
use Rattle.std.proofs.Common.{◌≡◌, List, [], ◌∷◌, length, Option, Some, None, refl, sym, ap, ◌∙◌, subst}
use Rattle.null_logic.specs.declared.truth.Truth.TheVariants.{True, False}
use Rattle.perm_values.specs.declared.kind.Kind.{Kind}
use Rattle.bag_algebra.specs.built.Forms.{AllSubsForm}
use Rattle.bag_algebra.specs.Kinds.{kinds_of, width_of}
use Rattle.bag_algebra.specs.Rewriting.{IsRewrite}
use Rattle.bag_algebra.specs.WellFormed.{sub_form}
use Rattle.bag_algebra.specs.declared.expr.Expr.{Expr}
use Rattle.bag_algebra.specs.declared.query.Query.{Query}
use Rattle.bag_algebra.specs.declared.query.SubKind.{SubKind}
use Rattle.bag_algebra.specs.declared.query.SubKind.TheVariants.{Exists, Any, All, Scalar}
use Rattle.bag_algebra.specs.declared.query.Sublink.{Sublink}
use Rattle.query_laws.proofs.SameExpressions.{tested-formed}
use Rattle.query_laws.specs.Standing.{SubStands, SubsStand}
use Rattle.rewrite_sublink.proofs.AllSublinks.{no_step, one_step_more}
use Rattle.rewrite_sublink.proofs.Steps.{Step, Steps}
use Rattle.rewrite_sublink.specs.Candidates.{deciding}
use Rattle.rewrite_sublink.specs.SubRewritings.{SubsRewritten}
use Rattle.lateral_rewrite.proofs.BesideRows.{left-beside}
use Rattle.lateral_rewrite.proofs.Choosing.{Decides, any-decides, all-decides}
use Rattle.lateral_rewrite.proofs.ChosenSteps.{chosen_step_over}
use Rattle.lateral_rewrite.proofs.PlainSteps.{plain_step_over}
use Rattle.lateral_rewrite.specs.Dependent.{all_beside, all_contributed, beside, choice_of, chosen_beside, chosen_provenance, contributed, contributed_by, provenance_of, valued}
use Rattle.lateral_rewrite.specs.declared.choices.Choice.{Choice}

module _ (sub stand : Sublink) (r : Query) (s : SubStands sub stand) (rewritten : IsRewrite sub.query r) where
  -- where all rows contribute, the right side being that of what stands for the sublink
  all_step : ((scopes : List (List Kind)) → AllSubsForm scopes (sub ∷ []) → deciding sub.kind ≡ None) → Step sub (λ rows. all_beside rows stand r)
  all_step undecided =
      plain_step_over sub r (width_of stand.query) rewritten (λ scopes f. sym (ap length (s.query.kinds scopes f.query))) undecided (λ rows. all_beside rows stand r)
      (λ rows. left-beside rows (provenance_of r (width_of stand.query)))

  chosen_step : (choice : Choice) (operand : Expr) → Decides sub.kind choice → stand.tested ≡ Some operand → Step sub (λ rows. chosen_beside choice operand rows stand r)
  chosen_step choice operand d tested_is =
      chosen_step_over choice operand s rewritten d tested_is (λ rows. beside (valued rows stand operand) (chosen_provenance choice (width_of rows) stand r))
      (λ rows. left-beside (valued rows stand operand) (chosen_provenance choice (width_of rows) stand r))

  -- an ANY or ALL without a left operand isn't well formed
  module _ (kind : SubKind) (kind_is : stand.kind ≡ kind) (tested_is : stand.tested ≡ None) (none : (scopes : List (List Kind)) (kinds : List Kind) → sub_form kind None scopes kinds → ⊥) where
    never_formed : (scopes : List (List Kind)) → AllSubsForm scopes (sub ∷ []) → deciding sub.kind ≡ None
    never_formed scopes f =
        absurd (none scopes (kinds_of sub.query)
        (subst (λ tested. sub_form kind tested scopes (kinds_of sub.query)) tested_is
        (subst (λ k. sub_form k stand.tested scopes (kinds_of sub.query)) (s.kind ∙ kind_is)
        (tested-formed sub.kind sub.tested stand.tested s.tested scopes (kinds_of sub.query) f.fitting))))

  by_kind : (kind : SubKind) (tested : Option Expr) → stand.kind ≡ kind → stand.tested ≡ tested → Step sub (λ rows. contributed_by (choice_of kind) tested rows stand r)
  by_kind Exists tested e t = all_step (λ scopes f. ap deciding (s.kind ∙ e))
  by_kind (Any c) None e t = all_step (never_formed (Any c) e t (λ scopes kinds f. f))
  by_kind (Any c) (Some operand) e t =
      let choice : Choice = record { truth = True; compare = c } in
      chosen_step choice operand (subst (λ k. Decides k choice) (sym (s.kind ∙ e)) (any-decides c)) t
  by_kind (All c) None e t = all_step (never_formed (All c) e t (λ scopes kinds f. f))
  by_kind (All c) (Some operand) e t =
      let choice : Choice = record { truth = False; compare = c } in
      chosen_step choice operand (subst (λ k. Decides k choice) (sym (s.kind ∙ e)) (all-decides c)) t
  by_kind Scalar tested e t = all_step (λ scopes f. ap deciding (s.kind ∙ e))

  pub dependent_step : Step sub (λ rows. contributed rows stand r)
  dependent_step = by_kind stand.kind stand.tested refl refl

pub dependent_steps : (subs standing : List Sublink) (rewritings : List Query) → SubsStand subs standing → SubsRewritten subs rewritings →
    Steps subs (λ rows. all_contributed rows standing rewritings)
dependent_steps [] [] [] s r = no_step
dependent_steps [] [] (p ∷ ps) s r = absurd r
dependent_steps [] (stand ∷ standing) rewritings s r = absurd s
dependent_steps (sub ∷ subs) [] rewritings s r = absurd s
dependent_steps (sub ∷ subs) (stand ∷ standing) [] s r = absurd r
dependent_steps (sub ∷ subs) (stand ∷ standing) (p ∷ ps) s r =
    one_step_more sub subs (λ rows. contributed rows stand p) (λ rows. all_contributed rows standing ps)
    (dependent_step sub stand p s.0 r.0) (dependent_steps subs standing ps s.1 r.1)
