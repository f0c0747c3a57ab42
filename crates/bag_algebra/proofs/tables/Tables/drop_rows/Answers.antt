use mathlib.Core.Bool.{true≢false}
use Rattle.std.proofs.Common.{◌≡◌, ℕ, sym, ap, ◌∙◌, length, List, [], Some, None, IsSome, is_some}
use Rattle.std.specs.FinMap as map
use Rattle.std.specs.FinMap.{FinMap, from_entries}
use Rattle.std.specs.Map.{lookup}
use Rattle.std.specs.BTreeMap.{is_at}
use Rattle.std.specs.Option.{unwrap_or, option_copied_mut}
use Rattle.std.specs.Ordering.{nat_cmp}
use Rattle.perm_values.specs.Marked.{unmarked}
use Rattle.bag_algebra.specs.Bags.{Bag}
use Rattle.bag_algebra.specs.TableRows.{rows_in}
use Rattle.bag_algebra.proofs.FiniteMap.{insert-view, get-view}
use Rattle.bag_algebra.proofs.tables.Tables.drop_rows.Goals as goal
use Rattle.bag_algebra.proofs.tables.Tables.drop_rows.Goals.{in-Some, in-None}

-- what the entries give for a key are the map's rows of it
rows_in-found : (entries : List (ℕ × Bag)) (m : FinMap nat_cmp Bag) (id : ℕ) (rows : Bag) → from_entries {R = nat_cmp} entries ≡ m →
    lookup (is_at (nat_cmp id)) entries ≡ Some rows → rows_in m id ≡ rows
rows_in-found entries m id rows seen found = ap (λ (t : FinMap nat_cmp Bag). rows_in t id) (sym seen) ∙ ap (λ o. unwrap_or o []) (get-view entries id ∙ found)

missing : {P : Type 0} (entries : List (ℕ × Bag)) (m : FinMap nat_cmp Bag) (id : ℕ) → from_entries {R = nat_cmp} entries ≡ m →
    lookup (is_at (nat_cmp id)) entries ≡ None → IsSome (map.get m id) → P
missing entries m id seen none held =
    absurd (true≢false (sym held ∙ ap is_some (ap (λ (t : FinMap nat_cmp Bag). map.get t id) (sym seen) ∙ get-view entries id ∙ none)))

pub remove_marked-requires : goal.remove_marked-requires
remove_marked-requires c =
    c.requires.flags ∙ ap length (rows_in-found _ _ c.args.id _ c.self.view_is (sym (sym (ap option_copied_mut c.in-Some.is) ∙ c.get_mut.ensures.value)))

pub returns-clause-kept : goal.returns-clause-kept
returns-clause-kept c =
    let old = c.self.inside.rows.entries in
    elim c.match-get_mut.branch [
      | in-Some w ↦
          let found : lookup (is_at (nat_cmp c.args.id)) old ≡ Some w.in-Some.held.now = sym (sym (ap option_copied_mut w.in-Some.is) ∙ c.get_mut.ensures.value) in
          let v = w.remove_marked.new.self in
          let written = insert-view (c.get_mut.follows.lender v).entries old c.args.id v (λ q. ((c.get_mut.follows.holds v).3 (ap is_some found)).0 q) in
          let rows_is = rows_in-found _ _ c.args.id _ c.self.view_is found in
          rw (w.self-inside-is)
          (written ∙ (λ i. map.insert (c.self.view_is i) c.args.id (w.remove_marked.ensures.kept i))
          ∙ ap (λ rows. map.insert c.args.self.now c.args.id (unmarked c.args.doomed.now rows)) (sym rows_is))
      | in-None w ↦ missing _ _ c.args.id c.self.view_is (sym (sym (ap option_copied_mut w.in-None.is) ∙ c.get_mut.ensures.value)) c.requires.held
    ]

pub returns-clause-counted : goal.returns-clause-counted
returns-clause-counted c = elim c.match-get_mut.branch [
  | in-Some w ↦ w.result-is ∙ w.remove_marked.ensures.counted
  | in-None w ↦ missing _ _ c.args.id c.self.view_is (sym (sym (ap option_copied_mut w.in-None.is) ∙ c.get_mut.ensures.value)) c.requires.held
]
