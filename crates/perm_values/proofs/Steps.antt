-- Steps that proofs take anywhere: to an equal type, from what can't be, and past a choice.
use Rattle.std.proofs.Common.{◌≡◌, ℕ, Bool, true, false, cond, Option, Some, None, is_some, unwrap_or, refl, subst, true≢false}

-- what one type has, an equal one has
pub by : {A B : Type 0} → A ≡ B → A → B
by e a = subst (λ (X : Type 0). X) e a

pub none_is_some : {X : Type 0} {P : Type 0} {x : X} → None ≡ Some x → P
none_is_some e = cc

pub is_none-is : {X : Type 0} (o : Option X) → is_some o ≡ false → o ≡ None
is_none-is None e = refl
is_none-is (Some x) e = absurd (true≢false e)

pub unwrap-cond : (old : Option ℕ) (b : Bool) (n : ℕ) → unwrap_or (cond b (Some n) old) 0 ≡ cond b n (unwrap_or old 0)
unwrap-cond old true n = refl
unwrap-cond old false n = refl
