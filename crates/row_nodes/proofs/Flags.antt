-- The rows that flags leave are those of the definitions.
use Rattle.std.proofs.Common.{◌≡◌, suc, ◌+◌, ◌-◌, ◌≤◌, Bool, true, false, cond, not, ◌&&◌, ◌||◌, nat_lt, List, [], ◌∷◌, ◌++◌, filter, length, refl, sym, ap, ◌∙◌, arith, append_assoc, append-nil, true≢false}
use Rattle.perm_values.specs.Marked.{unmarked}
use Rattle.perm_values.specs.Rows.{same_row}
use Rattle.bag_algebra.specs.Bags.{Row, Bag, count, member, once, without_first, in_both, beyond, intersect_of, except_of}
use Rattle.bag_algebra.proofs.BagLaws.{same_row-is, member_decides, member-append, member-filter, count-append, count-of_none}
use Rattle.row_nodes.specs.Marks.{marks_behind, marks_by, left_out, wanted, is_over}
use Rattle.row_values.proofs.Once.{once_more}
use Rattle.bag_algebra.proofs.Truths.{not_not}

-- ---- one more row

marks_behind-more : (test : Bag → Row → Bool) (earlier us : Bag) (u : Row) →
    marks_behind test earlier (us ++ u ∷ []) ≡ marks_behind test earlier us ++ test (earlier ++ us) u ∷ []
marks_behind-more test earlier [] u = ap (λ l. test l u ∷ []) (sym (append-nil earlier))
marks_behind-more test earlier (v ∷ us) u =
    ap (λ l. test earlier v ∷ l) (marks_behind-more test (earlier ++ v ∷ []) us u
    ∙ ap (λ l. marks_behind test (earlier ++ v ∷ []) us ++ test l u ∷ []) (append_assoc earlier (v ∷ []) us))

pub marks-more : (test : Bag → Row → Bool) (us : Bag) (u : Row) → marks_by test (us ++ u ∷ []) ≡ marks_by test us ++ test us u ∷ []
marks-more test us u = marks_behind-more test [] us u

length-marks_behind : (test : Bag → Row → Bool) (earlier us : Bag) → length (marks_behind test earlier us) ≡ length us
length-marks_behind test earlier [] = refl
length-marks_behind test earlier (u ∷ us) = ap suc (length-marks_behind test (earlier ++ u ∷ []) us)

pub length-marks : (test : Bag → Row → Bool) (us : Bag) → length (marks_by test us) ≡ length us
length-marks test us = length-marks_behind test [] us

-- ---- each wanted row once

pub filter-more : (p : Row → Bool) (us : Bag) (u : Row) → filter p (us ++ u ∷ []) ≡ filter p us ++ cond (p u) (u ∷ []) []
filter-more p [] u = refl
filter-more p (v ∷ us) u = by (p v) (filter-more p us u)
  where
    by : (b : Bool) → filter p (us ++ u ∷ []) ≡ filter p us ++ cond (p u) (u ∷ []) [] →
        cond b (v ∷ filter p (us ++ u ∷ [])) (filter p (us ++ u ∷ [])) ≡ cond b (v ∷ filter p us) (filter p us) ++ cond (p u) (u ∷ []) []
    by true e = ap (λ l. v ∷ l) e
    by false e = e

once_filter-more : (p : Row → Bool) (us : Bag) (u : Row) (b : Bool) → p u ≡ b →
    once (filter p us ++ cond b (u ∷ []) []) ≡ once (filter p us) ++ cond (not b || member u us) [] (u ∷ [])
once_filter-more p us u false e = ap once (append-nil (filter p us)) ∙ sym (append-nil (once (filter p us)))
once_filter-more p us u true e =
    once_more (filter p us) u ∙ ap (λ m. cond m (once (filter p us)) (once (filter p us) ++ u ∷ [])) (member-filter u p us ∙ ap (λ b. member u us && b) e)
    ∙ by (member u us)
  where
    by : (m : Bool) → cond (m && true) (once (filter p us)) (once (filter p us) ++ u ∷ []) ≡ once (filter p us) ++ cond m [] (u ∷ [])
    by true = sym (append-nil (once (filter p us)))
    by false = refl

one_left : (flag : Bool) (u : Row) (us vs : Bag) → us ++ (cond flag [] (u ∷ []) ++ vs) ≡ us ++ cond flag vs (u ∷ vs)
one_left true u us vs = refl
one_left false u us vs = refl

once_behind : (p : Row → Bool) (earlier us : Bag) →
    once (filter p (earlier ++ us)) ≡ once (filter p earlier) ++ unmarked (marks_behind (left_out p) earlier us) us
once_behind p earlier [] = ap (λ l. once (filter p l)) (append-nil earlier) ∙ sym (append-nil (once (filter p earlier)))
once_behind p earlier (u ∷ us) =
    ap (λ l. once (filter p l)) (sym (append_assoc earlier (u ∷ []) us))
    ∙ once_behind p (earlier ++ u ∷ []) us
    ∙ ap (λ l. l ++ unmarked (marks_behind (left_out p) (earlier ++ u ∷ []) us) us) (ap once (filter-more p earlier u) ∙ once_filter-more p earlier u (p u) refl)
    ∙ append_assoc (once (filter p earlier)) (cond (not (p u) || member u earlier) [] (u ∷ [])) _
    ∙ one_left (not (p u) || member u earlier) u (once (filter p earlier)) _

pub once-marks : (p : Row → Bool) (us : Bag) → unmarked (marks_by (left_out p) us) us ≡ once (filter p us)
once-marks p us = sym (once_behind p [] us)

pub filter-all : (us : Bag) → filter (λ u. true) us ≡ us
filter-all [] = refl
filter-all (u ∷ us) = ap (λ l. u ∷ l) (filter-all us)

seen_or_held : (us earlier vs : Bag) → marks_behind (left_out (λ u. true)) (us ++ earlier) vs ≡ marks_behind (left_out (wanted false us)) earlier vs
seen_or_held us earlier [] = refl
seen_or_held us earlier (v ∷ vs) =
    let flag : member v (us ++ earlier) ≡ (not (not (member v us)) || member v earlier) =
    member-append v us earlier ∙ ap (λ b. b || member v earlier) (sym (not_not (member v us))) in
    let rest : marks_behind (left_out (λ u. true)) ((us ++ earlier) ++ v ∷ []) vs ≡ marks_behind (left_out (wanted false us)) (earlier ++ v ∷ []) vs =
    ap (λ l. marks_behind (left_out (λ u. true)) l vs) (append_assoc us earlier (v ∷ [])) ∙ seen_or_held us (earlier ++ v ∷ []) vs in
    λ i. flag i ∷ rest i

-- each row of both sides once: those of the left, then those of the right that the left lacks
pub once-append : (us vs : Bag) → once (us ++ vs) ≡ once us ++ once (filter (λ v. not (member v us)) vs)
once-append us vs =
    ap once (sym (filter-all (us ++ vs)))
    ∙ once_behind (λ u. true) us vs
    ∙ (λ i. once (filter-all us i) ++ unmarked (flags i) vs)
    ∙ ap (λ l. once us ++ l) (once-marks (wanted false us) vs)
  where
    flags : marks_behind (left_out (λ u. true)) us vs ≡ marks_by (left_out (wanted false us)) vs
    flags = ap (λ l. marks_behind (left_out (λ u. true)) l vs) (sym (append-nil us)) ∙ seen_or_held us [] vs

-- ---- rows as often as they are met

no_one : (d : Bool) → 0 ≡ 0 - cond d 1 0
no_one true = refl
no_one false = refl

count-without_first : (t u : Row) (ws : Bag) → count t (without_first u ws) ≡ count t ws - cond (same_row u t) 1 0
count-without_first t u [] = no_one (same_row u t)
count-without_first t u (w ∷ ws) = by (same_row w u) (same_row u t) (same_row w t) refl refl refl (count-without_first t u ws)
  where
    by : (s d m : Bool) → same_row w u ≡ s → same_row u t ≡ d → same_row w t ≡ m → count t (without_first u ws) ≡ count t ws - cond (same_row u t) 1 0 →
        count t (cond s ws (w ∷ without_first u ws)) ≡ cond m (suc (count t ws)) (count t ws) - cond d 1 0
    by true true true p q r e = omega arith
    by true true false p q r e = absurd (true≢false (sym (ap (λ x. same_row x t) (same_row-is w u p) ∙ q) ∙ r))
    by true false true p q r e = absurd (true≢false (sym r ∙ ap (λ x. same_row x t) (same_row-is w u p) ∙ q))
    by true false false p q r e = omega arith
    by false true true p q r e = absurd (true≢false (sym r ∙ ap (λ x. same_row w x) (sym (same_row-is u t q)) ∙ p))
    by false true false p q r e = rw r (e ∙ ap (λ b. count t ws - cond b 1 0) q)
    by false false true p q r e = rw r (let k = e ∙ ap (λ b. count t ws - cond b 1 0) q in omega arith)
    by false false false p q r e = rw r (e ∙ ap (λ b. count t ws - cond b 1 0) q)

-- what is left of the other side once the earlier rows have met theirs
record IsRest (earlier vs ws : Bag) : Type 0 where
  counts : (t : Row) → count t ws ≡ count t vs - count t earlier

pub count-more : (t : Row) (us : Bag) (u : Row) → count t (us ++ u ∷ []) ≡ count t us + cond (same_row u t) 1 0
count-more t us u = count-append t us (u ∷ [])

met : (earlier vs ws : Bag) (u : Row) → IsRest earlier vs ws → IsRest (earlier ++ u ∷ []) vs (without_first u ws)
met earlier vs ws u r = record {
  counts = λ t. let e = r.counts t in let k = count-without_first t u ws in let m = count-more t earlier u in omega arith;
}

unmet : (earlier vs ws : Bag) (u : Row) → member u ws ≡ false → IsRest earlier vs ws → IsRest (earlier ++ u ∷ []) vs ws
unmet earlier vs ws u none r = record { counts = λ t. by t (same_row u t) refl }
  where
    by : (t : Row) (b : Bool) → same_row u t ≡ b → count t ws ≡ count t vs - count t (earlier ++ u ∷ [])
    by t true e =
        let z : count t ws ≡ 0 = ap (λ x. count x ws) (sym (same_row-is u t e)) ∙ count-of_none u ws none in
        let k = r.counts t in
        let m : count t (earlier ++ u ∷ []) ≡ count t earlier + 1 = count-more t earlier u ∙ ap (λ b. count t earlier + cond b 1 0) e in
        omega arith
    by t false e =
        let k = r.counts t in
        let m : count t (earlier ++ u ∷ []) ≡ count t earlier + 0 = count-more t earlier u ∙ ap (λ b. count t earlier + cond b 1 0) e in
        omega arith

is_member : (earlier vs ws : Bag) (u : Row) → IsRest earlier vs ws → nat_lt (count u earlier) (count u vs) ≡ member u ws
is_member earlier vs ws u r = let k = r.counts u in let d = member_decides u ws in grind (arith, k, d)

in_both_behind : (earlier vs us ws : Bag) → IsRest earlier vs ws → unmarked (marks_behind (is_over true vs) earlier us) us ≡ in_both us ws
in_both_behind earlier vs [] ws r = refl
in_both_behind earlier vs (u ∷ us) ws r =
    ap (λ b. cond (not b) (unmarked (marks_behind (is_over true vs) (earlier ++ u ∷ []) us) us) (u ∷ unmarked (marks_behind (is_over true vs) (earlier ++ u ∷ []) us) us)) (is_member earlier vs ws u r)
    ∙ by (member u ws) refl (in_both_behind (earlier ++ u ∷ []) vs us (without_first u ws) (met earlier vs ws u r))
    (λ e. in_both_behind (earlier ++ u ∷ []) vs us ws (unmet earlier vs ws u e r))
  where
    by : (b : Bool) → member u ws ≡ b → unmarked (marks_behind (is_over true vs) (earlier ++ u ∷ []) us) us ≡ in_both us (without_first u ws) →
        (member u ws ≡ false → unmarked (marks_behind (is_over true vs) (earlier ++ u ∷ []) us) us ≡ in_both us ws) →
        cond (not b) (unmarked (marks_behind (is_over true vs) (earlier ++ u ∷ []) us) us) (u ∷ unmarked (marks_behind (is_over true vs) (earlier ++ u ∷ []) us) us) ≡ cond b (u ∷ in_both us (without_first u ws)) (in_both us ws)
    by true e met_it unmet_it = ap (λ l. u ∷ l) met_it
    by false e met_it unmet_it = unmet_it e

beyond_behind : (earlier vs us ws : Bag) → IsRest earlier vs ws → unmarked (marks_behind (is_over false vs) earlier us) us ≡ beyond us ws
beyond_behind earlier vs [] ws r = refl
beyond_behind earlier vs (u ∷ us) ws r =
    ap (λ b. cond b (unmarked (marks_behind (is_over false vs) (earlier ++ u ∷ []) us) us) (u ∷ unmarked (marks_behind (is_over false vs) (earlier ++ u ∷ []) us) us)) (is_member earlier vs ws u r)
    ∙ by (member u ws) refl (beyond_behind (earlier ++ u ∷ []) vs us (without_first u ws) (met earlier vs ws u r))
    (λ e. beyond_behind (earlier ++ u ∷ []) vs us ws (unmet earlier vs ws u e r))
  where
    by : (b : Bool) → member u ws ≡ b → unmarked (marks_behind (is_over false vs) (earlier ++ u ∷ []) us) us ≡ beyond us (without_first u ws) →
        (member u ws ≡ false → unmarked (marks_behind (is_over false vs) (earlier ++ u ∷ []) us) us ≡ beyond us ws) →
        cond b (unmarked (marks_behind (is_over false vs) (earlier ++ u ∷ []) us) us) (u ∷ unmarked (marks_behind (is_over false vs) (earlier ++ u ∷ []) us) us) ≡ cond b (beyond us (without_first u ws)) (u ∷ beyond us ws)
    by true e met_it unmet_it = met_it
    by false e met_it unmet_it = ap (λ l. u ∷ l) (unmet_it e)

at_first : (vs : Bag) → IsRest [] vs vs
at_first vs = record { counts = λ t. omega arith }

pub in_both-marks : (us vs : Bag) → unmarked (marks_by (is_over true vs) us) us ≡ in_both us vs
in_both-marks us vs = in_both_behind [] vs us vs (at_first vs)

pub beyond-marks : (us vs : Bag) → unmarked (marks_by (is_over false vs) us) us ≡ beyond us vs
beyond-marks us vs = beyond_behind [] vs us vs (at_first vs)

-- ---- counts and lengths

pub count-length : (t : Row) (us : Bag) → count t us ≤ length us
count-length t [] = omega arith
count-length t (u ∷ us) = by (same_row u t) (count-length t us)
  where
    by : (b : Bool) → count t us ≤ length us → cond b (suc (count t us)) (count t us) ≤ suc (length us)
    by true h = omega arith
    by false h = omega arith

-- ---- what the flags of a set operation leave

pub over_left : (all common : Bool) (us vs : Bag) (flags : List Bool) → all ≡ true → flags ≡ marks_by (is_over common vs) us →
    unmarked flags us ≡ cond common (intersect_of all us vs) (except_of all us vs)
over_left true true us vs flags e f = ap (λ l. unmarked l us) f ∙ in_both-marks us vs
over_left true false us vs flags e f = ap (λ l. unmarked l us) f ∙ beyond-marks us vs
over_left false common us vs flags e f = absurd (true≢false (sym e))

pub once_left : (all common : Bool) (us vs : Bag) (flags : List Bool) → all ≡ false → flags ≡ marks_by (left_out (wanted common vs)) us →
    unmarked flags us ≡ cond common (intersect_of all us vs) (except_of all us vs)
once_left true common us vs flags e f = absurd (true≢false e)
once_left false true us vs flags e f = ap (λ l. unmarked l us) f ∙ once-marks (wanted true vs) us
once_left false false us vs flags e f = ap (λ l. unmarked l us) f ∙ once-marks (wanted false vs) us

pub long : (test : Bag → Row → Bool) (us : Bag) (flags : List Bool) → flags ≡ marks_by test us → length flags ≡ length us
long test us flags e = ap length e ∙ length-marks test us

pub repeats_left : (us : Bag) (flags : List Bool) → flags ≡ marks_by (left_out (wanted false [])) us → unmarked flags us ≡ once us
repeats_left us flags e = ap (λ l. unmarked l us) e ∙ once-marks (wanted false []) us ∙ ap once (filter-all us)

-- the rows of both sides once, from the rest of the right
pub united_is : (us vs left right found : Bag) (flags more : List Bool) → left ≡ us → right ≡ vs → more ≡ flags →
    unmarked flags right ≡ once (filter (λ v. not (member v left)) right) → found ≡ unmarked more vs → once us ++ found ≡ once (us ++ vs)
united_is us vs left right found flags more p q e f g =
    ap (λ l. once us ++ l) (g ∙ ap (λ l. unmarked l vs) e ∙ ap (unmarked flags) (sym q) ∙ f ∙ (λ i. once (filter (λ v. not (member v (p i))) (q i))))
    ∙ sym (once-append us vs)
