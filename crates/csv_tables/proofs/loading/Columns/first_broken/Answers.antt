use Rattle.std.proofs.Common.{◌≡◌, ◌<◌, ◌∙◌, ap, sym, arith, length, Some}
use Rattle.std.specs.Option.{option_map}
use Rattle.csv.proofs.RecordFacts.{field-there}
use Rattle.csv.specs.Records.{field_at, fields_of}
use Rattle.csv_tables.proofs.Rules.{Unbroken-found, Unbroken-more, field-at, item-at}
use Rattle.csv_tables.proofs.loading.Columns.first_broken.Goals as goal

pub unreachable-requires : goal.unreachable-requires
unreachable-requires c =
    let within : c.loop-place.place < length (fields_of c.args.fields.now) = omega (arith, c.len.ensures, c.if-len-self.false) in
    field-there (fields_of c.args.fields.now) c.loop-place.place within (sym c.get.ensures.value ∙ ap (option_map (λ s. s.now)) c.in_default.is)

pub returns-then-is_some : goal.returns-then-is_some
returns-then-is_some c =
    let fields = fields_of c.args.fields.now in
    let place = c.loop-place.place in
    let wide : length fields ≡ length c.args.self.now.kinds.now = sym c.len.ensures ∙ c.if-len-self.false in
    let within : place < length fields = omega (arith, wide) in
    let here : field_at fields place ≡ Some c.in-Some.field.now = sym c.get.ensures.value ∙ ap (option_map (λ s. s.now)) c.in-Some.is in
    Unbroken-found c.args.self.now.null_field.now c.args.self.now.kinds.now c.args.number fields place _ c.in-Some.field.now c.loop-place.invariant (item-at _ place _ c.loop-place-test.true) (field-at fields place _ within here)
    c.broken_by-broken.result c.broken_by-broken.ensures (sym c.is_some.ensures ∙ c.if-is_some.true) wide

pub loop-place-preserved : goal.loop-place-preserved
loop-place-preserved c =
    let fields = fields_of c.args.fields.now in
    let place = c.loop-place.place in
    let wide : length fields ≡ length c.args.self.now.kinds.now = sym c.len.ensures ∙ c.if-len-self.false in
    let within : place < length fields = omega (arith, wide) in
    let here : field_at fields place ≡ Some c.in-Some.field.now = sym c.get.ensures.value ∙ ap (option_map (λ s. s.now)) c.in-Some.is in
    Unbroken-more c.args.self.now.null_field.now c.args.self.now.kinds.now c.args.number fields place _ c.in-Some.field.now c.loop-place.invariant (item-at _ place _ c.loop-place-test.true) (field-at fields place _ within here)
    c.broken_by-broken.result c.broken_by-broken.ensures (sym c.is_some.ensures ∙ c.if-is_some.false)
