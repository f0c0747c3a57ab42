-- A part that breaks nothing holds what its own parts hold.
use Rattle.std.specs.Prelude.{◌≡◌, ℕ, List, [], ◌∷◌, ◌++◌}
use Rattle.std.proofs.Common.{refl, ap, sym, subst, ◌∙◌, append_assoc, append-nil}
use Rattle.perm_values.proofs.Lists.{front-none, back-none}
use Rattle.name_meaning.specs.Meanings.{Inside, both_inside, nothing_inside}
use Rattle.name_meaning.specs.declared.answer.Break.{Break}
use Rattle.name_inside.specs.Held.{Adds, Held, all_breaks, all_inside, inside_in}
use Rattle.name_inside.specs.declared.gathered.Gathered.{Gathered}

-- ---- what stands inside, one behind the other

pub inside-alike : {a b : List (ℕ × ℕ)} {n m : List (List ℕ)} → a ≡ b → n ≡ m
    → ◌≡◌ {A = Inside} (record { queries = a; names = n }) (record { queries = b; names = m })
inside-alike e f = λ i. record { queries = e i; names = f i }

pub both-nothing : (a : Inside) → both_inside a nothing_inside ≡ a
both-nothing a = inside-alike (append-nil a.queries) (append-nil a.names)

pub both-both : (a b c : Inside) → both_inside (both_inside a b) c ≡ both_inside a (both_inside b c)
both-both a b c = inside-alike (append_assoc a.queries b.queries c.queries) (append_assoc a.names b.names c.names)

pub inside-append : (hs ks : List Held) → all_inside (hs ++ ks) ≡ both_inside (all_inside hs) (all_inside ks)
inside-append [] ks = refl
inside-append (h ∷ hs) ks = ap (both_inside h.inside) (inside-append hs ks) ∙ sym (both-both h.inside (all_inside hs) (all_inside ks))

pub breaks-append : (hs ks : List Held) → all_breaks (hs ++ ks) ≡ all_breaks hs ++ all_breaks ks
breaks-append [] ks = refl
breaks-append (h ∷ hs) ks = ap (λ (bs : List Break). h.breaks ++ bs) (breaks-append hs ks) ∙ sym (append_assoc h.breaks (all_breaks hs) (all_breaks ks))

pub inside-one : (h : Held) → all_inside (h ∷ []) ≡ h.inside
inside-one h = both-nothing h.inside

pub breaks-one : (h : Held) → all_breaks (h ∷ []) ≡ h.breaks
breaks-one h = append-nil h.breaks

-- ---- what was gathered

pub adds-none : (old : Gathered) → Adds [] old old
adds-none old = record { adds = λ whole. sym (both-nothing (inside_in old)) }

pub adds-both : {hs ks : List Held} {old middle new : Gathered} → Adds hs old middle → Adds ks middle new → Adds (hs ++ ks) old new
adds-both {hs = hs} {ks = ks} {old = old} first second = record {
  adds = λ whole.
      let none = sym (breaks-append hs ks) ∙ whole in
      second.adds (back-none (all_breaks hs) (all_breaks ks) none)
      ∙ ap (λ (before : Inside). both_inside before (all_inside ks)) (first.adds (front-none (all_breaks hs) (all_breaks ks) none))
      ∙ both-both (inside_in old) (all_inside hs) (all_inside ks)
      ∙ ap (both_inside (inside_in old)) (sym (inside-append hs ks));
}

-- ---- a whole over its parts

pub record IsOver (whole : Held) (parts : List Held) : Type 0 where
  pub breaks : whole.breaks ≡ [] → all_breaks parts ≡ []
  pub inside : whole.breaks ≡ [] → whole.inside ≡ all_inside parts

pub over-alike : {h k : Held} {parts : List Held} → h ≡ k → IsOver k parts → IsOver h parts
over-alike {parts = parts} e over = subst (λ (h : Held). IsOver h parts) (sym e) over

pub adds-over : {h : Held} {parts : List Held} {old new : Gathered} → IsOver h parts → Adds parts old new → Adds (h ∷ []) old new
adds-over {h = h} {old = old} over added = record {
  adds = λ whole.
      let none = sym (breaks-one h) ∙ whole in
      added.adds (over.breaks none) ∙ ap (both_inside (inside_in old)) (sym (over.inside none) ∙ sym (inside-one h));
}

pub over-self : (h : Held) → IsOver h (h ∷ [])
over-self h = record { breaks = λ none. breaks-one h ∙ none; inside = λ none. sym (inside-one h) }

pub over-pair : (h a b : Held) → (h.breaks ≡ [] → a.breaks ++ b.breaks ≡ []) → (h.breaks ≡ [] → h.inside ≡ both_inside a.inside b.inside) → IsOver h (a ∷ b ∷ [])
over-pair h a b breaks same = record {
  breaks = λ none. ap (λ (bs : List Break). a.breaks ++ bs) (breaks-one b) ∙ breaks none;
  inside = λ none. same none ∙ ap (both_inside a.inside) (sym (inside-one b));
}

-- its first part in the place of that one's own parts
pub over-front : {h k : Held} (parts more : List Held) → IsOver h (k ∷ more) → IsOver k parts → IsOver h (parts ++ more)
over-front {k = k} parts more over first = record {
  breaks = λ none.
      let all = over.breaks none in
      breaks-append parts more
      ∙ (λ i. first.breaks (front-none k.breaks (all_breaks more) all) i ++ back-none k.breaks (all_breaks more) all i);
  inside = λ none.
      over.inside none
      ∙ ap (λ (before : Inside). both_inside before (all_inside more)) (first.inside (front-none k.breaks (all_breaks more) (over.breaks none)))
      ∙ sym (inside-append parts more);
}

pub adds-nothing : {h : Held} (old : Gathered) → IsOver h [] → Adds (h ∷ []) old old
adds-nothing old over = adds-over over (adds-none old)

-- what breaks holds nothing that is of account
pub adds-broken : {h : Held} (old : Gathered) → (h.breaks ≡ [] → ⊥) → Adds (h ∷ []) old old
adds-broken {h = h} old broken = record { adds = λ whole. absurd (broken (sym (breaks-one h) ∙ whole)) }

-- what was added as it stands
pub adds-this : {h : Held} {old new : Gathered} → (h.breaks ≡ [] → inside_in new ≡ both_inside (inside_in old) h.inside) → Adds (h ∷ []) old new
adds-this {h = h} {old = old} same = record {
  adds = λ whole. same (sym (breaks-one h) ∙ whole) ∙ ap (both_inside (inside_in old)) (sym (inside-one h));
}

pub adds-alike : {h k : Held} {old new : Gathered} → h ≡ k → Adds (k ∷ []) old new → Adds (h ∷ []) old new
adds-alike {old = old} {new = new} e added = subst (λ (h : Held). Adds (h ∷ []) old new) (sym e) added
