-- A type may reach itself through `Boxed`: a box is one value of the type, behind a pointer and an allocator.
use mathlib.Core.Path.{refl}
use mathlib.Core.Former.{Former, this, const, pair, via}
use base.Fml.{ftrue}
use base.Stored.{gnil}
use denote.Hole.Fix.{over}
use denote.HoleLaws.{Alike}
use denote.HolePlaces.{Recodes, struct_places, laid, one_value}
use denote.Memory.{part_of}
use denote.Model.Placed.{view_places}
use denote.Param.Weighed.{Weighed}
use denote.RattleType.{RattleType}
use denote.RawPtr.{Ptr}
use denote.Sharing.{nothing}
use Rattle.std.specs.contracts.alloc.Global as heap
use Rattle.std.specs.contracts.boxed.Box as box
use Rattle.std.specs.contracts.impls.GlobalAllocator.TheImpl.{ghosts}
use Rattle.std.specs.declared.alloc.Global.{Global}
use Rattle.std.specs.declared.boxed.Box.{Box}
use Rattle.perm_values.specs.contracts.boxed.Boxed as contract
use Rattle.perm_values.specs.contracts.boxed.Boxed.TheInside as inside
use Rattle.perm_values.specs.declared.boxed.Boxed.TheInside.{Inside}
use Rattle.perm_values.specs.declared.boxed.Boxed.TheView.{view, invariant}

abbrev pub the_former : Former {0} → Former {0}
the_former held = held

abbrev pub the_weighed : {held : Former {0}} → Weighed held → Weighed (the_former held)
the_weighed weight = weight

-- what a box has beside its value, and the value
abbrev parts : Former {0}
parts = via (pair (const (Ptr × Global)) this) Inside
    (λ X a. ((a.inner.ptr, a.inner.alloc), a.inner.value))
    (λ X v. record { inner = record { ptr = v.0.0; alloc = v.0.1; value = v.1 } })
    (λ X a. refl) (λ X v. refl)

abbrev swapped : {X Y : Type 0} → Box X Global → Y → Box Y Global
swapped b y = record { ptr = b.ptr; alloc = b.alloc; value = y }

abbrev boxed_row : RattleType → RattleType
boxed_row R = box.the_row R heap.the_row ghosts

module _ (R S : RattleType) (h : R.Denot → S.Denot) where
  box_places : Alike R S h → Alike (boxed_row R) (boxed_row S) (λ b. swapped b (h b.value))
  unfolding part_of
  box_places a = record {
    mir_same = λ i. (boxed_row (one_value R (a.mir_same i) (λ _. ftrue) (λ _ _. nothing) gnil)).mir;
    own_same = λ b i. (boxed_row (one_value R (a.mir_same i) (a.own_same b.value i) (a.shr_same b.value i) gnil)).own_val (swapped b tt);
    shr_same = λ b i. (boxed_row (one_value R (a.mir_same i) (a.own_same b.value i) (a.shr_same b.value i) gnil)).shr_at (swapped b tt);
  }

  pub the_places : Alike R S h → Alike (contract.the_row R) (contract.the_row S) ((the_former this).map R.Denot S.Denot h)
  the_places a = view_places parts this view (λ X Y k u. refl) (λ X u. refl) R.Denot S.Denot h
      (contract.the_row R).coded (contract.the_row S).coded (invariant R.Denot) (invariant S.Denot)
      (λ u p q. refl) (λ u p q. refl) (λ u e. tt) (λ u e. tt) (over (inside.the_row R)) (over (inside.the_row S))
      (struct_places (inside.the_type R) (inside.the_type S) ((λ b. swapped b (h b.value)), tt) _ (λ d. refl) refl
      (laid _ _ _ (box_places a), tt))

  pub the_codes_placed : Recodes R S h → Recodes (contract.the_row R) (contract.the_row S) ((the_former this).map R.Denot S.Denot h)
  the_codes_placed e d = e d
