use mathlib.Core.Bool.{true≢false}
use Rattle.std.proofs.Common.{◌∙◌, sym, OnOk, IsOk, Result, Ok, Err}
use Rattle.indexmap.proofs.CallerLemmas.{insert_entry-new}
use Rattle.perm_catalog.proofs.last.add_last.Goals as goal

at_ok : {T E : Type 0} {P : Type 0} (r : Result T E) → IsOk r → OnOk r P → P
at_ok (Ok x) ok h = h
at_ok (Err e) ok h = absurd (true≢false (sym ok))

pub returns : goal.returns
returns g c = at_ok _ (c.insert.ensures.succeeds c.requires.room) c.insert.ensures.entries ∙ insert_entry-new _ c.args.entries.now c.args.key c.args.entry c.requires.absent
