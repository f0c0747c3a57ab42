use Rattle.std.proofs.Common.{◌≡◌, ◌∙◌, ◌-◌, suc, sym, ap, arith}
use Rattle.std.specs.Option.{option_map}
use Rattle.csv.specs.Records.{fields_of}
use Rattle.refusal_hints.specs.Fields.{numbered}
use Rattle.refusal_hints.proofs.Numbered.{numbered_found, numbered_missing, numbered_zero}
use Rattle.refusal_hints.proofs.fields.numbered.Goals as goal

pub returns-then-field-eq0 : goal.returns-then-field-eq0
returns-then-field-eq0 c =
    sym (ap (numbered (fields_of c.args.fields.now)) c.if-field-eq0.true ∙ numbered_zero (fields_of c.args.fields.now))

pub returns-in-Some : goal.returns-in-Some
returns-in-Some c =
    let fields = fields_of c.args.fields.now in
    let e : suc (c.args.field - 1) ≡ c.args.field = omega (arith, c.if-field-eq0.false) in
    numbered_found fields (c.args.field - 1) c.in-Some.found.now (sym c.get.ensures.value ∙ ap (option_map (λ s. s.now)) c.in-Some.is)
    ∙ ap (numbered fields) e

pub returns-in-None : goal.returns-in-None
returns-in-None c =
    let fields = fields_of c.args.fields.now in
    let e : suc (c.args.field - 1) ≡ c.args.field = omega (arith, c.if-field-eq0.false) in
    sym (ap (numbered fields) (sym e) ∙ numbered_missing fields (c.args.field - 1) (sym c.get.ensures.value ∙ ap (option_map (λ s. s.now)) c.in-None.is))
