-- What is added to a text, one part behind the other.
use Rattle.std.proofs.Common.{◌≡◌, ◌∙◌, ℕ, List, ◌++◌, Ok, Err, Result, ap, append_assoc, sym}
use Rattle.std.specs.Prelude.{OnOk}

pub added-twice : {T E : Type 0} (r : Result T E) (old middle new first second : List ℕ) → middle ≡ old ++ first →
    OnOk r (new ≡ middle ++ second) → OnOk r (new ≡ old ++ (first ++ second))
added-twice (Ok x) old middle new first second e h = h ∙ ap (λ xs. xs ++ second) e ∙ append_assoc old first second
added-twice (Err x) old middle new first second e h = h

pub added-thrice : {T E : Type 0} (r : Result T E) (old one two new first second third : List ℕ) → one ≡ old ++ first → two ≡ one ++ second →
    OnOk r (new ≡ two ++ third) → OnOk r (new ≡ old ++ (first ++ second ++ third))
added-thrice r old one two new first second third e f h =
    added-twice r old two new (first ++ second) third (f ∙ ap (λ xs. xs ++ second) e ∙ append_assoc old first second) h
