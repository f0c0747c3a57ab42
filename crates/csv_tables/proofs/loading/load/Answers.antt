use Rattle.std.proofs.Common.{Bor, List, ℕ, ◌≡◌, ◌+◌, ◌∙◌, refl, inr, Some, length}
use Rattle.csv.specs.Records.{fields_of}
use Rattle.csv_tables.proofs.Fitting.{bag_fits-spelled}
use Rattle.csv_tables.proofs.InLoop.{InLoop-broken, InLoop-end, InLoop-header, InLoop-row, InLoop-start}
use Rattle.csv_tables.proofs.Rules.{kept-error}
use Rattle.csv_tables.specs.Loading.{skipped}
use Rattle.csv_tables.proofs.loading.load.Goals as goal
use Rattle.csv_tables.proofs.loading.load.Goals.{else-skip+in_ok-row+in_ok-push, then-skip}

pub loop-entry-init : goal.loop-entry-init
loop-entry-init c =
    let made = c.from_reader-reader.ensures in
    let plain = c.has_headers.ensures in
    let flexible = c.flexible.ensures in
    let start = c.into_iter-entry-iterator.ensures.into_iter_gives ∙ refl in
    let items = c.into_byte_records-entry-items.ensures in
    rw (start, items.rdr, c.new-rows.ensures)
    (InLoop-start _ c.args.null_field.now c.args.kinds.now c.args.header c.args.bytes.now _ _
    (rw (flexible, plain) at made.trim ∙ c.new.ensures.trim)
    (inr (inr (rw (flexible, plain) at made.has_headers, made.headers)))
    items.left
    (rw (flexible, plain) at made.config ∙ c.new.ensures.config)
    made.source
    made.state)

pub returns-in_err-row-clause-err : goal.returns-in_err-row-clause-err
returns-in_err-row-clause-err c =
    let inv = c.loop-entry.invariant in
    let s = rw (c.in-Some.is, c.in_ok-fields.was) at ((c.next.ensures.steps inv.more_turns inv.untrimmed).0 inv.ready) in
    let counted : c.len.result + c.from.result + 1 ≡ length c.loop-entry.rows + skipped c.args.header + 1 = rw (c.len.ensures.value, c.from.ensures) refl in
    kept-error c.from_residual-in_err-row.result c.in_err-row.field-0.0 _ c.from_residual-in_err-row.ensures.1
    (InLoop-broken (λ (s : Bor (List ℕ)). Some s.now) c.args.null_field.now c.args.kinds.now c.args.header c.args.bytes.now c.loop-entry.entry-iterator.rdr c.next.new.self.rdr c.loop-entry.entry-iterator.left
    c.loop-entry.skip c.loop-entry.rows inv (fields_of c.in_ok-fields.fields) s.0 _ c.in_err-row.field-0.0 c.if-skip.false counted c.in_err-row.ensures.err)

pub loop-entry-preserved : goal.loop-entry-preserved
loop-entry-preserved c =
    let inv = c.loop-entry.invariant in
    let s = rw (c.in-Some.is, c.in_ok-fields.was) at ((c.next.ensures.steps inv.more_turns inv.untrimmed).0 inv.ready) in
    elim c.if-skip.branch [
      | then-skip w ↦ rw (w.rows-is, w.skip-is) (InLoop-header (λ (s : Bor (List ℕ)). Some s.now) c.args.null_field.now c.args.kinds.now c.args.header c.args.bytes.now c.loop-entry.entry-iterator.rdr c.next.new.self.rdr c.loop-entry.entry-iterator.left
          c.loop-entry.skip c.loop-entry.rows inv (fields_of c.in_ok-fields.fields) s.0 s.1 c.next.new.self.left s.2 w.if-skip.true)
      | else-skip+in_ok-row+in_ok-push w ↦
          let counted : w.len.result + w.from.result + 1 ≡ length c.loop-entry.rows + skipped c.args.header + 1 = rw (w.len.ensures.value, w.from.ensures) refl in
          rw (w.rows-is, w.skip-is, w.in_ok-push.ensures.ok) (InLoop-row (λ (s : Bor (List ℕ)). Some s.now) c.args.null_field.now c.args.kinds.now c.args.header c.args.bytes.now c.loop-entry.entry-iterator.rdr c.next.new.self.rdr c.loop-entry.entry-iterator.left
          c.loop-entry.skip c.loop-entry.rows inv (fields_of c.in_ok-fields.fields) s.0 s.1 c.next.new.self.left s.2 _ w.in_ok-row.field-0 w.if-skip.false counted w.in_ok-row.ensures.ok.0 w.in_ok-row.ensures.ok.1)
    ]

pub returns-clause-ok : goal.returns-clause-ok
returns-clause-ok c =
    let inv = c.loop-entry.invariant in
    let s = rw c.in-None.is at ((c.next.ensures.steps inv.more_turns inv.untrimmed).0 inv.ready) in
    rw c.tighten.ensures (InLoop-end (λ (s : Bor (List ℕ)). Some s.now) c.args.null_field.now c.args.kinds.now c.args.header c.args.bytes.now c.loop-entry.entry-iterator.rdr c.next.new.self.rdr c.loop-entry.entry-iterator.left
    c.loop-entry.skip c.loop-entry.rows inv s)

pub returns-clause-fit : goal.returns-clause-fit
returns-clause-fit c =
    let read = returns-clause-ok c in
    rw read.1 (bag_fits-spelled c.args.null_field.now c.args.kinds.now c.args.header c.args.bytes.now read.0)
