use mathlib.Core.Bool.{true≢false}
use Rattle.std.proofs.Common.{◌≡◌, ◌++◌, sym, ap, ◌∙◌, [], OnOk, OnErr, Result, Ok, Err, Option, Some, None, IsSome, is_some}
use Rattle.std.specs.FinMap as map
use Rattle.std.specs.FinMap.{from_entries}
use Rattle.std.specs.Map.{lookup}
use Rattle.std.specs.BTreeMap.{is_at}
use Rattle.std.specs.Option.{unwrap_or, option_copied_mut}
use Rattle.std.specs.Ordering.{nat_cmp}
use Rattle.bag_algebra.specs.TableRows.{rows_in}
use Rattle.bag_algebra.proofs.FiniteMap.{insert-view, get-view, insert-same}
use Rattle.bag_algebra.proofs.tables.Tables.append_held.Goals as goal
use Rattle.bag_algebra.proofs.tables.Tables.append_held.Goals.{in-Some, in-None}

on_ok : {T E : Type 0} {P Q : Type 0} (r : Result T E) → (P → Q) → OnOk r P → OnOk r Q
on_ok (Ok x) f h = f h
on_ok (Err e) f h = tt

on_err : {T E : Type 0} {P Q : Type 0} (r : Result T E) → (P → Q) → OnErr r P → OnErr r Q
on_err (Ok x) f h = tt
on_err (Err e) f h = f h

some_is_none : {X : Type 0} {P : Type 0} (o : Option X) → IsSome o → o ≡ None → P
some_is_none o h e = absurd (true≢false (sym h ∙ ap is_some e))

missing : {X : Type 0} {P : Type 0} (o p : Option X) → IsSome o → o ≡ p → p ≡ None → P
missing o p h e none = some_is_none o h (e ∙ none)

pub returns-clause-ok : goal.returns-clause-ok
returns-clause-ok c =
    let old = c.self.inside.rows.entries in
    elim c.match-get_mut.branch [
      | in-Some w ↦
          let found : lookup (is_at (nat_cmp c.args.id)) old ≡ Some w.in-Some.held.now = sym (sym (ap option_copied_mut w.in-Some.is) ∙ c.get_mut.ensures.value) in
          let held : map.get (from_entries {R = nat_cmp} old) c.args.id ≡ Some w.in-Some.held.now = get-view old c.args.id ∙ found in
          let v = w.append.new.self in
          let written = insert-view (c.get_mut.follows.lender v).entries old c.args.id v (λ q. ((c.get_mut.follows.holds v).3 (ap is_some found)).0 q) in
          let rows_is : rows_in c.args.self.now c.args.id ≡ w.in-Some.held.now =
          ap (λ m. unwrap_or (map.get m c.args.id) []) (sym c.self.view_is) ∙ ap (λ o. unwrap_or o []) held in
          rw (w.result-is, w.self-inside-is)
          (on_ok w.append.result
          (λ (e : v ≡ w.in-Some.held.now ++ c.args.rows). written ∙ (λ i. map.insert (c.self.view_is i) c.args.id (e i)) ∙ ap (λ b. map.insert c.args.self.now c.args.id (b ++ c.args.rows)) (sym rows_is))
          w.append.ensures.ok)
      | in-None w ↦ missing (map.get c.args.self.now c.args.id) (lookup (is_at (nat_cmp c.args.id)) old) c.requires
          (ap (λ m. map.get m c.args.id) (sym c.self.view_is) ∙ get-view old c.args.id) (sym (sym (ap option_copied_mut w.in-None.is) ∙ c.get_mut.ensures.value))
    ]

pub returns-clause-err : goal.returns-clause-err
returns-clause-err c =
    let old = c.self.inside.rows.entries in
    elim c.match-get_mut.branch [
      | in-Some w ↦
          let found : lookup (is_at (nat_cmp c.args.id)) old ≡ Some w.in-Some.held.now = sym (sym (ap option_copied_mut w.in-Some.is) ∙ c.get_mut.ensures.value) in
          let held : map.get (from_entries {R = nat_cmp} old) c.args.id ≡ Some w.in-Some.held.now = get-view old c.args.id ∙ found in
          let v = w.append.new.self in
          let written = insert-view (c.get_mut.follows.lender v).entries old c.args.id v (λ q. ((c.get_mut.follows.holds v).3 (ap is_some found)).0 q) in
          rw (w.result-is, w.self-inside-is)
          (on_err w.append.result
          (λ (e : v ≡ w.in-Some.held.now). written ∙ ap (map.insert (from_entries {R = nat_cmp} old) c.args.id) e
          ∙ insert-same (from_entries {R = nat_cmp} old) c.args.id w.in-Some.held.now held ∙ c.self.view_is)
          w.append.ensures.err)
      | in-None w ↦ missing (map.get c.args.self.now c.args.id) (lookup (is_at (nat_cmp c.args.id)) old) c.requires
          (ap (λ m. map.get m c.args.id) (sym c.self.view_is) ∙ get-view old c.args.id) (sym (sym (ap option_copied_mut w.in-None.is) ∙ c.get_mut.ensures.value))
    ]
