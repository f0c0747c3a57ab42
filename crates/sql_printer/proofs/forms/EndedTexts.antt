-- A script of the tokens of a form is read as one query of the form.
use Rattle.std.proofs.Common.{ℕ, List}
use Rattle.tree_texts.specs.plans.Plans.{tokens_of}
use Rattle.tree_texts.specs.FormPlans as plan
use Rattle.tree_texts.specs.Forms.{QueryForm}
use Rattle.tree_texts.specs.Standing.{given, standing}
use Rattle.tree_texts.specs.Texts.{script}
use Rattle.tree_texts.proofs.FormTrees.{query_is}
use Rattle.tree_texts.proofs.Standing.{given_spelled}
use Rattle.tree_texts.specs.layout.Lines.{EndsScript}
use Rattle.sql_printer.specs.forms.EndedTexts.{IsTextOfForm}
use Rattle.sql_printer.proofs.forms.PlainWords.{form-plain}

pub ended-form : (form : QueryForm) (text : List ℕ) → EndsScript (tokens_of (plan.query form)) text → IsTextOfForm form text
ended-form form text ends =
    let p = script (plan.query form) in
    let places = ends.places in
    record {
      start = (places 0).start;
      tree = given places 0 (plan.query form);
      is = query_is places form 0;
      spelled = record {
        tokens = standing places 0 (tokens_of p);
        lexes = ends.split;
        spelled = given_spelled places p 0;
      };
      plain = form-plain form places;
    }
