use Rattle.std.proofs.Common.{Err, length, refl, subst}
use Rattle.sql_parser.specs.Spells.{Parses}
use Rattle.refusal_tokens.proofs.Beginning.{begins_end, deep_begins_not, end_begins, spelled_begins}
use Rattle.refusal_tokens.proofs.begins.tokens_begin.Goals as goal

pub returns-in-Ok : goal.returns-in-Ok
returns-in-Ok c = (
  λ yes. spelled_begins c.args.bytes.now c.args.found.now c.requires (c.lexing_is_unique.ensures.one_list c.args.bytes.now) c.in-Ok.tree c.in-Ok.ensures.0 c.in-Ok.ensures.1,
  λ begins. refl,
)

pub returns-in-Err-Unexpected : goal.returns-in-Err-Unexpected
returns-in-Err-Unexpected c =
    let why = subst (λ e. Parses c.args.found.now (length c.args.bytes.now) (Err e)) c.in-Err-Unexpected.field-0-is c.in-Err-Unexpected.ensures in
    let one_list = c.lexing_is_unique.ensures.one_list c.args.bytes.now in (
      λ yes. end_begins c.args.bytes.now c.args.found.now c.requires one_list c.in-Err-Unexpected.at
          (c.spans_rise.ensures.span c.args.bytes.now c.args.found.now c.requires) why.0 why.1 (c.is_end.ensures.0 yes),
      λ begins. c.is_end.ensures.1 (begins_end c.args.bytes.now c.args.found.now c.requires one_list c.in-Err-Unexpected.at why.1 begins),
    )

pub returns-in-Err-TooDeep : goal.returns-in-Err-TooDeep
returns-in-Err-TooDeep c =
    let why = subst (λ e. Parses c.args.found.now (length c.args.bytes.now) (Err e)) c.in-Err-TooDeep.field-0-is c.in-Err-TooDeep.ensures in (
      λ yes. absurd cc,
      λ begins. absurd (deep_begins_not c.args.bytes.now c.args.found.now c.requires (c.lexing_is_unique.ensures.one_list c.args.bytes.now) _ why begins),
    )
