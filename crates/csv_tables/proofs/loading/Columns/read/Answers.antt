use Rattle.std.proofs.Common.{◌≡◌, ◌<◌, ◌∙◌, ap, sym, arith, length, Some}
use Rattle.std.specs.Option.{option_map}
use Rattle.csv.proofs.RecordFacts.{field-there}
use Rattle.csv.specs.Records.{field_at, fields_of}
use Rattle.csv_tables.proofs.Rules.{FieldsRead-broken, FieldsRead-more, field-at, item-at, kept-error}
use Rattle.csv_tables.proofs.loading.Columns.read.Goals as goal

pub unreachable-requires : goal.unreachable-requires
unreachable-requires c =
    let within : c.loop-place.place < length (fields_of c.args.fields.now) = omega (arith, c.len.ensures, c.if-len-self.false) in
    field-there (fields_of c.args.fields.now) c.loop-place.place within (sym c.get.ensures.value ∙ ap (option_map (λ s. s.now)) c.in_default.is)

pub returns-in_err-value-clause-err : goal.returns-in_err-value-clause-err
returns-in_err-value-clause-err c =
    let fields = fields_of c.args.fields.now in
    let place = c.loop-place.place in
    let wide : length fields ≡ length c.args.self.now.kinds.now = sym c.len.ensures ∙ c.if-len-self.false in
    let within : place < length fields = omega (arith, wide) in
    let here : field_at fields place ≡ Some c.in-Some.field.now = sym c.get.ensures.value ∙ ap (option_map (λ s. s.now)) c.in-Some.is in
    kept-error c.from_residual-in_err-value.result c.in_err-value.field-0.0 _ c.from_residual-in_err-value.ensures.1
    (FieldsRead-broken _ _ _ fields _ place _ c.in-Some.field.now c.loop-place.invariant (item-at _ place _ c.loop-place-test.true) (field-at fields place _ within here) c.in_err-value.field-0.0 wide c.in_err-value.ensures.err)

pub loop-place-preserved : goal.loop-place-preserved
loop-place-preserved c =
    let fields = fields_of c.args.fields.now in
    let place = c.loop-place.place in
    let wide : length fields ≡ length c.args.self.now.kinds.now = sym c.len.ensures ∙ c.if-len-self.false in
    let within : place < length fields = omega (arith, wide) in
    let here : field_at fields place ≡ Some c.in-Some.field.now = sym c.get.ensures.value ∙ ap (option_map (λ s. s.now)) c.in-Some.is in
    rw c.in_ok-push.ensures.ok
    (FieldsRead-more _ _ _ fields _ place _ c.in-Some.field.now c.loop-place.invariant (item-at _ place _ c.loop-place-test.true) (field-at fields place _ within here) c.in_ok-value.field-0 c.in_ok-value.ensures.ok.0 c.in_ok-value.ensures.ok.1)
