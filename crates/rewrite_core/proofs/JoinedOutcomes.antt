-- The faults of a join of rewritings: it is bad exactly where the node is, with the same faults.
use Rattle.std.proofs.Common.{◌≡◌, inl, inr, List, [], ◌∷◌, ◌++◌, Contains, IsTrue, refl, sym, ap, ◌∙◌, subst, append-nil}
use Rattle.bag_algebra.proofs.BagLaws.{member-same_bag}
use Rattle.bag_algebra.proofs.Members.{IsIn, in-member, member-in}
use Rattle.bag_algebra.specs.Bags.{Row, Bag, member}
use Rattle.bag_algebra.specs.Meaning.{Database, meaning, witnesses}
use Rattle.bag_algebra.specs.Means.{Witness, flat, good_rows}
use Rattle.bag_algebra.specs.Outcome.{Outcome, Good, Bad, union, mapped, both_then}
use Rattle.bag_algebra.specs.Rewriting.{SameRows}
use Rattle.bag_algebra.specs.declared.query.Query.{Query}
use Rattle.contribution.proofs.ListedRows.{only_rows}
use Rattle.contribution.proofs.NoRowLost.{none_lost}
use Rattle.rewrite_core.specs.rewritings.Rewritten.{SomeList, Beside, Rewritten}
use Rattle.bag_algebra.proofs.MembersByIndex.{in-from_contains, contains-from_in}

-- the same set of faults, or bags that are related
abbrev pub Related : (Bag → Bag → Type 0) → Outcome Bag → Outcome Bag → Type 0
Related R (Good us) (Good vs) = R us vs
Related R (Good us) (Bad g) = ⊥
Related R (Bad f) (Good vs) = ⊥
Related R (Bad f) (Bad g) = f ≡ g

pub related-from_rewritten : (lists : Row → List Witness) (o s : Outcome Bag) → Rewritten lists o s → Related (Beside lists) o s
related-from_rewritten lists (Good us) (Good vs) r = r
related-from_rewritten lists (Good us) (Bad g) r = r
related-from_rewritten lists (Bad f) (Good vs) r = r
related-from_rewritten lists (Bad f) (Bad g) r = r

pub rewritten-from_related : (lists : Row → List Witness) (o s : Outcome Bag) → Related (Beside lists) o s → Rewritten lists o s
rewritten-from_related lists (Good us) (Good vs) r = r
rewritten-from_related lists (Good us) (Bad g) r = r
rewritten-from_related lists (Bad f) (Good vs) r = r
rewritten-from_related lists (Bad f) (Bad g) r = r

pub related-onward : (R S : Bag → Bag → Type 0) (o s : Outcome Bag) → ((us vs : Bag) → R us vs → S us vs) → Related R o s → Related S o s
related-onward R S (Good us) (Good vs) next r = next us vs r
related-onward R S (Good us) (Bad g) next r = r
related-onward R S (Bad f) (Good vs) next r = r
related-onward R S (Bad f) (Bad g) next r = r

-- the node is bad exactly where one of its sides is, with the faults of both
abbrev pub Combines : Outcome Bag → Outcome Bag → Outcome Bag → Type 0
Combines (Good ns) (Good ts) (Good us) = Unit
Combines (Good ns) (Good ts) (Bad h) = ⊥
Combines (Good ns) (Bad g) b = ⊥
Combines (Bad f) (Good ts) (Good us) = ⊥
Combines (Bad f) (Good ts) (Bad h) = f ≡ h
Combines (Bad f) (Bad g) (Good us) = f ≡ g
Combines (Bad f) (Bad g) (Bad h) = f ≡ union g h

-- what is asked of a join of good sides that are related to good bags
abbrev pub Joins : (R P Q : Bag → Bag → Type 0) (n a s b r : Outcome Bag) (join : Bag → Bag → Outcome Bag) (move : Bag → Bag) → Type 0
Joins R P Q n a s b r join move = (ns ts zs us xs : Bag) → n ≡ Good ns → a ≡ Good ts → b ≡ Good us → P ts zs → Q us xs →
    (bag : Bag) × (join zs xs ≡ Good bag) × R ns (move bag)

pub joined-related : (R P Q : Bag → Bag → Type 0) (n a s b r : Outcome Bag) (join : Bag → Bag → Outcome Bag) (move : Bag → Bag) → Combines n a b →
    Related P a s → Related Q b r → Joins R P Q n a s b r join move → Related R n (mapped move (both_then s r join))
joined-related R P Q (Good ns) (Good ts) (Good zs) (Good us) (Good xs) join move c p q k =
    let made = k ns ts zs us xs refl refl refl p q in
    subst (λ o. Related R (Good ns) (mapped move o)) (sym made.1) made.2
joined-related R P Q (Good ns) (Good ts) (Good zs) (Good us) (Bad h) join move c p q k = absurd q
joined-related R P Q (Good ns) (Good ts) (Good zs) (Bad g) r join move c p q k = absurd c
joined-related R P Q (Good ns) (Good ts) (Bad g) b r join move c p q k = absurd p
joined-related R P Q (Good ns) (Bad g) s b r join move c p q k = absurd c
joined-related R P Q (Bad f) (Good ts) (Good zs) (Good us) r join move c p q k = absurd c
joined-related R P Q (Bad f) (Good ts) (Good zs) (Bad g) (Good xs) join move c p q k = absurd q
joined-related R P Q (Bad f) (Good ts) (Good zs) (Bad g) (Bad h) join move c p q k = c ∙ q
joined-related R P Q (Bad f) (Good ts) (Bad g) b r join move c p q k = absurd p
joined-related R P Q (Bad f) (Bad g) (Good zs) b r join move c p q k = absurd p
joined-related R P Q (Bad f) (Bad g) (Bad h) (Good us) (Good xs) join move c p q k = c ∙ p
joined-related R P Q (Bad f) (Bad g) (Bad h) (Good us) (Bad i) join move c p q k = absurd q
joined-related R P Q (Bad f) (Bad g) (Bad h) (Bad i) (Good xs) join move c p q k = absurd q
joined-related R P Q (Bad f) (Bad g) (Bad h) (Bad i) (Bad j) join move c p q k = c ∙ (λ d. union (p d) (q d))

-- ---- rows without provenance

-- the one list without entries
abbrev pub unlisted : Row → List Witness
unlisted t = [] ∷ []

pub no_entries : (t : Row) (w : Witness) → Contains (unlisted t) w → [] ≡ w
no_entries t w c = elim (in-from_contains w ([] ∷ []) c) [ inl e ↦ e | inr h ↦ absurd h ]

pub unlisted_list : (t : Row) → Contains (unlisted t) []
unlisted_list t = contains-from_in [] ([] ∷ []) (inl refl)

unlisted-beside : (us vs : Bag) → ((t : Row) → member t us ≡ member t vs) → Beside unlisted us vs
unlisted-beside us vs same = record {
  covers = λ t h. record { list = []; is_list = unlisted_list t };
  there = λ t w h c. subst (λ x. IsTrue (member x vs)) (sym (append-nil t) ∙ ap (λ w. t ++ flat w) (no_entries t w c)) (sym (same t) ∙ h);
  back = λ x h. record { origin = x; list = []; row = same x ∙ h; is_list = unlisted_list x; whole = append-nil x };
}

-- a query's rows, as often or not, stand beside no list
pub unlisted-related : (o s : Outcome Bag) → SameRows o s → Related (Beside unlisted) o s
unlisted-related (Good us) (Good vs) same = unlisted-beside us vs (λ t. member-same_bag t us vs same)
unlisted-related (Good us) (Bad g) same = same
unlisted-related (Bad f) (Good vs) same = same
unlisted-related (Bad f) (Bad g) same = same

-- each row of a good answer has a list
pub answer-listed : (n : Query) (db : Database) (env : List Row) (ns : Bag) → meaning n db env ≡ Good ns → (t : Row) → IsTrue (member t ns) →
    SomeList (witnesses n db env t)
answer-listed n db env ns e t h =
    let found = (none_lost n db env).listed t (subst (λ o. IsIn t (good_rows o)) (sym e) (member-in t ns h)) in
    record { list = found.0; is_list = contains-from_in found.0 (witnesses n db env t) found.1 }

-- a row that has a list is one of a good answer
pub listed-row : (q : Query) (db : Database) (env : List Row) (us : Bag) → meaning q db env ≡ Good us → (t : Row) (w : Witness) → Contains (witnesses q db env t) w →
    IsTrue (member t us)
listed-row q db env us e t w c =
    in-member t us (subst (λ o. IsIn t (good_rows o)) e ((only_rows q db env).row t w (in-from_contains w (witnesses q db env t) c)))
