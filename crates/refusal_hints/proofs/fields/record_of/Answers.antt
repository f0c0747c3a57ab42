use Rattle.std.proofs.Common.{Bor, List, ℕ, ◌≡◌, ◌∙◌, ap, arith, true, false, inr, Some, sym}
use Rattle.std.proofs.lemmas.Bool.Decides.{nat_tests}
use Rattle.csv.specs.Records.{fields_of}
use Rattle.refusal_hints.specs.Fields.{record_of}
use Rattle.refusal_hints.proofs.Reading.{Gave-more, Gave-none, Gave-record, Gave-short}
use Rattle.refusal_hints.proofs.fields.record_of.Goals as goal

pub loop-number-init : goal.loop-number-init
loop-number-init c =
    let made = c.from_reader-reader.ensures in
    let plain = c.has_headers.ensures in
    let flexible = c.flexible.ensures in
    rw c.new-fields.ensures.fields
    (Gave-none (λ (s : Bor (List ℕ)). Some s.now) c.args.file.now _
    (rw (flexible, plain) at made.trim ∙ c.new.ensures.trim)
    (inr (inr (rw (flexible, plain) at made.has_headers, made.headers)))
    (rw (flexible, plain) at made.config ∙ c.new.ensures.config)
    made.source
    made.state)

pub loop-number-preserved : goal.loop-number-preserved
loop-number-preserved c =
    let gave = c.loop-number.invariant in
    let found : c.in-Ok.found ≡ true = grind (arith, nat_tests, c.if-not-found.false) in
    Gave-more (λ (s : Bor (List ℕ)). Some s.now) c.args.file.now c.loop-number.reader c.read_byte_record.new.self c.loop-number._number (fields_of c.loop-number.fields) gave
    (fields_of c.read_byte_record.new.row) (rw found at (c.in-Ok.ensures.reads gave.untrimmed gave.ready)) (c.in-Ok.ensures.ready gave.untrimmed)

pub returns-then-not-found : goal.returns-then-not-found
returns-then-not-found c =
    let gave = c.loop-number.invariant in
    let none : c.in-Ok.found ≡ false = grind (arith, nat_tests, c.if-not-found.true) in
    c.new-then-not-found.ensures.fields
    ∙ sym (Gave-short (λ (s : Bor (List ℕ)). Some s.now) c.args.file.now c.loop-number.reader c.read_byte_record.new.self c.loop-number._number (fields_of c.loop-number.fields) gave
    c.args.row (fields_of c.read_byte_record.new.row) (rw none at (c.in-Ok.ensures.reads gave.untrimmed gave.ready)) c.loop-number-test.true)

pub returns : goal.returns
returns c =
    let gave = c.loop-number.invariant in
    let all : c.loop-number._number ≡ c.args.row = omega (arith, c.loop-number.auto._number-end, c.loop-number-test.false) in
    Gave-record (λ (s : Bor (List ℕ)). Some s.now) c.args.file.now c.loop-number.reader c.loop-number.reader c.loop-number._number (fields_of c.loop-number.fields) gave
    ∙ ap (record_of c.args.file.now) all
