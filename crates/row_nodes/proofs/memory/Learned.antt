-- What a memory has after an item is put in.
use Rattle.std.proofs.Common.{◌≡◌, ℕ, Bool, true, false, cond, List, Option, Some, refl, sym, ap, ◌∙◌}
use Rattle.std.specs.Map.{lookup}
use Rattle.perm_values.specs.Rows.{same_row}
use Rattle.perm_values.specs.declared.value.Value.{Value}
use Rattle.bag_algebra.proofs.BagLaws.{same_row-refl}
use Rattle.row_nodes.specs.memory.Memory.{Remembered, remembered, found_under, Forgets, Learns}

-- what a table has after an entry is put in
abbrev pub Put : {A : Type 0} → List (List Value × A) → List (List Value × A) → List Value → A → Type 0
Put old new key item = (q : List Value) → lookup (same_row q) new ≡ cond (same_row key q) (Some item) (lookup (same_row q) old)

module _ {A : Type 0} (old made : Remembered A) (places : List ℕ) (key : List Value) (entries more : List (List Value × A)) (copy : List Value) (item : A)
    (view : made ≡ remembered places key entries) (forgets : Forgets old made) (same : copy ≡ key) (put : Put entries more copy item) where
  own_key : key ≡ old.key
  own_key = ap (λ m. m.key) (sym view) ∙ forgets.key_stays

  chosen : (b : Bool) (o : Option A) → b ≡ true → cond b (Some item) o ≡ Some item
  chosen true o e = refl
  chosen false o e = absurd (cc e)

  passed : (b : Bool) (o : Option A) → b ≡ false → cond b (Some item) o ≡ o
  passed true o e = absurd (cc e)
  passed false o e = refl

  pub learned : Learns old (remembered places key more) item
  learned = record {
    places_stay = ap (λ m. m.places) (sym view) ∙ forgets.places_stay;
    key_stays = own_key;
    item_is = put key ∙ chosen (same_row copy key) (lookup (same_row key) entries) (ap (λ k. same_row k key) same ∙ same_row-refl key);
    others = λ k other apart is.
        let before : lookup (same_row k) entries ≡ Some other =
        sym (passed (same_row copy k) (lookup (same_row k) entries) (ap (λ r. same_row r k) (same ∙ own_key) ∙ apart)) ∙ sym (put k) ∙ is in
        forgets.fewer k other (ap (λ m. found_under m k) view ∙ before);
  }
