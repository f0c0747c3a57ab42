-- Those of some texts that could stand, of more and more texts.
use Rattle.std.proofs.Common.{◌≡◌, ◌∙◌, ◌<◌, ◌↔◌, ◌+◌, ℕ, Bool, false, IsTrue, cond, codes, List, [], ◌∷◌, ◌++◌, length, take, map, get_or, Result, Ok, Err, OnOk, ap, subst, sym, append-nil}
use Rattle.std.proofs.lemmas.List.{map-append, take_more}
use Rattle.std.specs.Borrow.{Bor}
use Rattle.refusal_tokens.specs.Standing.{AreThose, AreWords, none, standing, left_out, CouldStand}
use Rattle.refusal_tokens.specs.Tables.{names, texts_of, words}

pub those_of_both : (front : List ℕ) {texts more those others : List (List ℕ)} → AreThose front texts those → AreThose front more others
    → AreThose front (texts ++ more) (those ++ others)
those_of_both front none b = b
those_of_both front (standing could a) b = standing could (those_of_both front a b)
those_of_both front (left_out cannot a) b = left_out cannot (those_of_both front a b)

pub one_more : (front text : List ℕ) {texts those : List (List ℕ)} → AreThose front texts those → CouldStand front text
    → AreThose front (texts ++ text ∷ []) (those ++ text ∷ [])
one_more front text a could = those_of_both front a (standing could none)

pub one_less : (front text : List ℕ) {texts those : List (List ℕ)} → AreThose front texts those → (CouldStand front text → ⊥)
    → AreThose front (texts ++ text ∷ []) those
one_less front text {texts = texts} {those = those} a cannot = subst (AreThose front (texts ++ text ∷ [])) (append-nil those) (those_of_both front a (left_out cannot none))

-- the texts so far, with one more
more_texts : (texts : List (Bor (List ℕ))) (i : ℕ) (d : Bor (List ℕ)) → i < length texts
    → texts_of (take (i + 1) texts) ≡ texts_of (take i texts) ++ (get_or texts i d).now ∷ []
more_texts texts i d below =
    ap (map (λ t. t.now)) (take_more texts i d below) ∙ map-append (λ t. t.now) (take i texts) (get_or texts i d ∷ [])

pub next_of : (front : List ℕ) (texts those : List (Bor (List ℕ))) (i : ℕ) (d : Bor (List ℕ)) → i < length texts
    → AreThose front (texts_of (take i texts) ++ (get_or texts i d).now ∷ []) (texts_of those)
    → AreThose front (texts_of (take (i + 1) texts)) (texts_of those)
next_of front texts those i d below a = subst (λ l. AreThose front l (texts_of those)) (sym (more_texts texts i d below)) a

pub added : {T E : Type 0} (r : Result T E) (front : List ℕ) (old new : List (Bor (List ℕ))) (text : Bor (List ℕ)) → OnOk r (new ≡ old ++ text ∷ [])
    → CouldStand front text.now → (texts : List (List ℕ)) → AreThose front texts (texts_of old)
    → OnOk r (AreThose front (texts ++ text.now ∷ []) (texts_of new))
added (Ok x) front old new text e could texts a =
    subst (AreThose front (texts ++ text.now ∷ [])) (sym (ap texts_of e ∙ map-append (λ t. t.now) old (text ∷ [])))
    (one_more front text.now a could)
added (Err x) front old new text e could texts a = e

pub words_more : (front : List ℕ) (could : Bool) (old more new : List (Bor (List ℕ))) → could ≡ false → (IsTrue could ↔ CouldStand front (codes "x"))
    → new ≡ old ++ more → AreThose front words (texts_of old) → AreThose front names (texts_of more) → AreWords front (texts_of new)
words_more front could old more new e told f a b = (
  could,
  told,
  subst (λ x. AreThose front (words ++ cond x [] names) (texts_of new)) (sym e)
      (subst (AreThose front (words ++ names)) (sym (ap texts_of f ∙ map-append (λ t. t.now) old more)) (those_of_both front a b)),
)
