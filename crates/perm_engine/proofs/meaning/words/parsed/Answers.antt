use Rattle.std.proofs.Common.{rules, ◌≡◌, ◌∙◌, ap, ap₂, true, subst, Some, codes}
use Rattle.std.proofs.lemmas.Result.{IfOk-weaker}
use Rattle.clap.specs.Faults.{fault_of, is_simple_and_free}
use Rattle.clap.specs.Kinds.{FailsBy}
use Rattle.clap.specs.Simple.{App, app_of, app_of_fields, is_simple, matches_of, new_app, on_top, with_rule}
use Rattle.clap.specs.Walk.{rule_of, texts}
use Rattle.clap.specs.declared.builder.value_parser.ValueParser.TheVariants.{Unsigned}
use Rattle.perm_engine.specs.meaning.words.Requests.{command, generate_rule, script_rule}
use Rattle.perm_engine.proofs.meaning.words.Asked.{is_free_command, is_refused, is_simple_command, is_taken}
use Rattle.perm_engine.proofs.meaning.words.parsed.Goals as goal

abbrev unnamed : App → App
unnamed = on_top (λ s. record s { no_binary_name = true })

pub returns : goal.returns
returns c =
    let words = texts c.args.words.now in
    let given = c.value_parser-rows.ensures.given in
    let parser_is : c.value_parser-rows.result.value_parser ≡ Some (Unsigned 1 100000) = given.1 ∙ ap Some (given.2 ∙ c.unsigned.ensures) in
    let script_is : rule_of c.new-script.result ≡ script_rule = search rules in
    let rows_is : rule_of c.value_parser-rows.result ≡ generate_rule = search rules in
    let start_is : app_of c.no_binary_name.result ≡ unnamed (new_app (codes "perm")) = ap app_of_fields c.no_binary_name.ensures ∙ ap unnamed c.new-2.ensures.app in
    let first_is : app_of c.in_ok-arg.field-0 ≡ with_rule (unnamed (new_app (codes "perm"))) script_rule =
    c.in_ok-arg.ensures.shape (search rules) ∙ ap₂ with_rule start_is script_is in
    let command_is : app_of c.in_ok-command.command ≡ command = c.in_ok-command.ensures.shape (search rules) ∙ ap₂ with_rule first_is rows_is in
    let parse = c.try_get_matches_from in
    let fails : FailsBy (fault_of command words) parse.result =
    subst (λ (a : App). FailsBy (fault_of a words) parse.result) command_is (parse.ensures.kinds (ap is_simple_and_free command_is ∙ is_free_command)) in
    record {
      taken = is_taken (fault_of command words) parse.result fails;
      rows = IfOk-weaker parse.result _ _ (λ m h. (h (ap is_simple command_is ∙ is_simple_command)).0 ∙ ap (λ (a : App). matches_of a words) command_is) parse.ensures.matches;
      refused = is_refused (fault_of command words) parse.result fails;
    }
