use Rattle.std.proofs.Common.{◌≡◌, ◌∙◌, List, ℕ, ap, option_map, subst}
use Rattle.std.proofs.lemmas.Result.{IfOk-weaker}
use Rattle.clap.specs.Faults.{fault_of}
use Rattle.clap.specs.Kinds.{HasKind}
use Rattle.clap.specs.Matches.{found_of}
use Rattle.clap.specs.Walk.{texts}
use Rattle.perm_engine.specs.meaning.words.Requests.{command}
use Rattle.perm_engine.proofs.meaning.words.Asked.{found_is, refused}
use Rattle.perm_engine.proofs.meaning.words.read_words.Goals as goal

pub returns-in-Ok : goal.returns-in-Ok
returns-in-Ok c =
    let words_are : texts c.as_slice.result.now ≡ c.args.words.now = ap texts c.as_slice.ensures.value ∙ c.in_ok-texts.ensures in
    IfOk-weaker c.given.result _ _
    (λ wanted given. given ∙ found_is c.args.words.now (texts c.as_slice.result.now) (found_of c.in-Ok.matches) (option_map (λ s. s.now) c.get_str.result)
    (option_map (λ s. s.now) c.get_str-in-Ok.result) words_are c.in-Ok.ensures.taken c.in-Ok.ensures.rows c.get_str.ensures c.get_str-in-Ok.ensures)
    c.given.ensures

pub returns : goal.returns
returns c =
    let words_are : texts c.as_slice.result.now ≡ c.args.words.now = ap texts c.as_slice.ensures.value ∙ c.in_ok-texts.ensures in
    let has = subst (λ (words : List (List ℕ)). HasKind (fault_of command words) c.in-Err.error) words_are c.in-Err.ensures.refused in
    IfOk-weaker c.refused.result _ _ (λ wanted said. said.0 ∙ refused c.args.words.now c.in-Err.error has (λ memory. said.1 (c.kind.ensures ∙ memory))) c.refused.ensures
