-- A line that ends the output.
use Rattle.std.proofs.Common.{◌≡◌, ◌∙◌, ℕ, ◌≤◌, false, List, length, take, refl, sym, ap, subst, arith}
use Rattle.std.specs.Io.KnownBytes.{append_known}
use Rattle.perm_io.specs.Counts.{HasRisen}
use Rattle.perm_engine.specs.meaning.Ends.{Written, Ends, IsSaid}
use Rattle.perm_engine.specs.meaning.Run.{Ran, ended, IsWhole}
use Rattle.perm_engine.specs.meaning.Stops.{Stop, line_of, status_of}
use Rattle.perm_engine.specs.declared.meaning.status.Status.{Status}
use Rattle.perm_engine.specs.declared.meaning.status.Status.TheVariants as status

ends-whole : (ran : Ran) (texts : ℕ) (w : Written) (s : Status) → IsWhole s → IsSaid ran texts w s → Ends ran texts w s
ends-whole ran texts w status.Done h said = said
ends-whole ran texts w status.Usage h said = said
ends-whole ran texts w status.Syntax h said = said
ends-whole ran texts w status.Refused h said = said
ends-whole ran texts w status.RunFault h said = said
ends-whole ran texts w status.BadData h said = said
ends-whole ran texts w status.ReadFault h said = said
ends-whole ran texts w status.WriteFault h said = absurd h
ends-whole ran texts w status.NoMemory h said = absurd h

-- the line is written and flushed
pub finished : (stop : Stop) (line : List ℕ) (s : Status) (w : Written) → line_of stop ≡ line → status_of stop ≡ s → IsWhole s → w.after ≡ append_known w.before line → w.unflushed ≡ false →
    w.faults_after ≡ w.faults_before → Ends (ended stop) 0 w s
finished stop line s w same said whole text flushed steady =
    ends-whole (ended stop) 0 w s whole (record { said = said; all = refl; text = text ∙ ap (append_known w.before) (sym same); flushed = flushed; steady = steady })

-- the output fails before its end, or when it is flushed
pub cut-short : (stop : Stop) (line : List ℕ) (w : Written) (count : ℕ) → line_of stop ≡ line → count ≤ length line → w.after ≡ append_known w.before (take count line) →
    HasRisen w.faults_before w.faults_after → Ends (ended stop) 0 w status.WriteFault
cut-short stop line w count same within text risen = record {
  some = omega arith;
  part = count;
  within = subst (λ l. count ≤ length l) (sym same) within;
  whole = λ _. refl;
  text = text ∙ ap (λ l. append_known w.before (take count l)) (sym same);
  risen = risen;
}
