-- What a rule spells is read, where the tokens behind it don't go on with it; so it has one value.
use Rattle.std.proofs.Common.{◌≡◌, ℕ, zero, suc, ◌≤◌, Bool, true, false, cond, List, [], ◌∷◌, ◌++◌, length, refl, sym, ap, subst, ◌∙◌, append_assoc, append-nil, arith}
use Rattle.std.proofs.lemmas.Map.Views.{list_any-from_Contains}
use Rattle.sql_tree.specs.grammar.Rules.{◌then◌, many, placed, symbol, Grammar, RuleOf, ValueOf, StartsAt, Spelled, a_word, a_token, both, first, second, front_first, front_second, absent, present, no_more, one_more, at_place, as_symbol}
use Rattle.sql_tree.specs.grammar.Descent.{Parsed, Taken, and_then, mapped, Tables, nullable, next_is, begins_with, start_of, is_flat, fronts, repeated, step, read}
use Rattle.sql_tree.proofs.Sound.{IsTold, Claims, step-claims}
use Rattle.sql_tree.proofs.Begins.{both_true, none-left, none-right, has, HasBegins, Begins, begins}
use Rattle.sql_tree.proofs.Depth.{Falls, shorter, and_then-alike, read-is, read-claims}
use Rattle.sql_tree.proofs.Fine.{extends, extends_of, last_of, apart, apart-law, EndsBefore, IsFine, IsShut}

-- what holds of a grammar and its tables that the next token decides
pub record IsDecided (g : Grammar) (tables : Tables g) (goes_on : g.Symbol → List g.Sort) : Type 0 where
  pub told : IsTold g
  pub has_begins : HasBegins g tables
  pub falls : Falls g tables
  pub fine : (n : g.Symbol) → IsFine g tables goes_on (g.body n)
  pub ends : (n : g.Symbol) (t : g.Token) → has g tables (goes_on n) t ≡ false → has g tables (extends tables.empty tables.begins goes_on (g.body n)) t ≡ false

module _ (g : Grammar) (tables : Tables g) (goes_on : g.Symbol → List g.Sort) (decided : IsDecided g tables goes_on) where
  -- reading by a rule
  abbrev pub by : (r : RuleOf g) → List g.Token → Parsed g.Token (ValueOf g r)
  by r ts = step g tables (read g tables) r ts

  pub by-claims : (r : RuleOf g) (ts : List g.Token) → Claims g r ts (by r ts)
  by-claims r ts = step-claims g tables decided.told (read g tables) (read-claims g tables decided.told) r ts

  -- the tokens don't go on with what the rule spelled
  abbrev pub Ends : RuleOf g → List g.Token → Type 0
  Ends r rest = next_is g tables (extends_of g tables goes_on r) rest ≡ false

  ends-left : (xs ys : List g.Sort) (rest : List g.Token) → next_is g tables (xs ++ ys) rest ≡ false → next_is g tables xs rest ≡ false
  ends-left xs ys [] e = refl
  ends-left xs ys (t ∷ rest) e = none-left (g.same (g.sort t)) xs ys e

  ends-right : (xs ys : List g.Sort) (rest : List g.Token) → next_is g tables (xs ++ ys) rest ≡ false → next_is g tables ys rest ≡ false
  ends-right xs ys [] e = refl
  ends-right xs ys (t ∷ rest) e = none-right (g.same (g.sort t)) xs ys e

  -- enough turns are enough
  repeated-enough : (r : RuleOf g) → nullable tables.empty r ≡ false → (c d : ℕ) (ts : List g.Token) → length ts ≤ c → length ts ≤ d
      → repeated g tables (start_of g tables r) (by r) c ts ≡ repeated g tables (start_of g tables r) (by r) d ts
  unfolding repeated
  repeated-enough r full zero zero ts a b = refl
  repeated-enough r full zero (suc d) [] a b = refl
  repeated-enough r full zero (suc d) (t ∷ ts) a b = absurd (omega arith)
  repeated-enough r full (suc c) zero [] a b = refl
  repeated-enough r full (suc c) zero (t ∷ ts) a b = absurd (omega arith)
  repeated-enough r full (suc c) (suc d) ts a b =
      ap (λ o. cond (next_is g tables (start_of g tables r) ts) o (Taken [] ts))
      (and_then-alike g tables r ts (by r ts) _ _ (by-claims r ts)
      (λ x mid spells.
      let less = shorter g tables decided.has_begins r ts mid x full spells in
      ap (mapped (λ xs. x ∷ xs)) (repeated-enough r full c d mid (omega arith) (omega arith))))

  -- a repetition reads one, where the next token begins one, and goes on
  pub many-is : (r : RuleOf g) → nullable tables.empty r ≡ false → (ts : List g.Token)
      → by (many r) ts ≡ cond (next_is g tables (start_of g tables r) ts) (and_then (by r ts) (λ x mid. mapped (λ xs. x ∷ xs) (by (many r) mid))) (Taken [] ts)
  unfolding repeated
  many-is r full [] = refl
  many-is r full (t ∷ ts) =
      ap (λ o. cond (next_is g tables (start_of g tables r) (t ∷ ts)) o (Taken [] (t ∷ ts)))
      (and_then-alike g tables r (t ∷ ts) (by r (t ∷ ts)) _ _ (by-claims r (t ∷ ts))
      (λ x mid spells.
      let less = shorter g tables decided.has_begins r (t ∷ ts) mid x full spells in
      ap (mapped (λ xs. x ∷ xs)) (repeated-enough r full (length ts) (length mid) mid (omega arith) (omega arith))))

  -- what follows a word of the rest either begins it or ends what stood before
  ends_before : (r s : RuleOf g) (vs rest : List g.Token) → apart g.same (extends_of g tables goes_on r) (start_of g tables s) ≡ true
      → Begins g tables s vs → next_is g tables (cond (nullable tables.empty s) (extends_of g tables goes_on r) []) rest ≡ false → Ends r (vs ++ rest)
  ends_before r s [] rest away b e = subst (λ empty. next_is g tables (cond empty (extends_of g tables goes_on r) []) rest ≡ false) b e
  ends_before r s (t ∷ vs) rest away b e = apart-law g tables decided.told (extends_of g tables goes_on r) (start_of g tables s) t away b

  then-complete : (r s : RuleOf g) (us vs rest : List g.Token) (x : ValueOf g r) (y : ValueOf g s)
      → by r (us ++ (vs ++ rest)) ≡ Taken x (vs ++ rest) → by s (vs ++ rest) ≡ Taken y rest → by (r then s) ((us ++ vs) ++ rest) ≡ Taken (x, y) rest
  then-complete r s us vs rest x y a b = ap (by (r then s)) (append_assoc us vs rest) ∙ rw (a, b) refl

  -- a rule that isn't nothing begins with a token of its sorts
  begun : (r : RuleOf g) (us rest : List g.Token) → nullable tables.empty r ≡ false → Begins g tables r us → next_is g tables (start_of g tables r) (us ++ rest) ≡ true
  begun r [] rest full b = let no : true ≡ false = sym b ∙ full in absurd cc
  begun r (t ∷ us) rest full b = b

  not_begun : (r s : RuleOf g) (us rest : List g.Token) → apart g.same (start_of g tables r) (start_of g tables s) ≡ true → Begins g tables s us
      → next_is g tables (cond (nullable tables.empty s) (start_of g tables r) []) rest ≡ false → next_is g tables (start_of g tables r) (us ++ rest) ≡ false
  not_begun r s [] rest away b e = subst (λ empty. next_is g tables (cond empty (start_of g tables r) []) rest ≡ false) b e
  not_begun r s (t ∷ us) rest away b e = apart-law g tables decided.told (start_of g tables r) (start_of g tables s) t away b

  pub flat-fronts : (r s : RuleOf g) → is_flat r ≡ true → fronts (r then s) ≡ fronts r ++ fronts s
  flat-fronts r s flat = ap (λ f. fronts r ++ cond f (fronts s) []) flat

  -- tokens that spell a sequence of single tokens begin with its sorts
  flat-begins : {r : RuleOf g} {us : List g.Token} {x : ValueOf g r} → Spelled g r us x → (more : List (List g.Sort)) (rest : List g.Token) → is_flat r ≡ true
      → begins_with g tables (fronts r ++ more) (us ++ rest) ≡ begins_with g tables more rest
  flat-begins (a_word {sort = sort} {t = t} e) more rest flat = rw (e, decided.has_begins.same.refl sort) refl
  flat-begins (a_token {sorts = sorts} {t = t} c) more rest flat = rw (list_any-from_Contains decided.has_begins.same (g.sort t) sorts c) refl
  flat-begins (both {r = r} {s = s} {us = us} {vs = vs} a b) more rest flat =
      let flats = both_true flat in
      ap (λ sorts. begins_with g tables (sorts ++ more) ((us ++ vs) ++ rest)) (flat-fronts r s flats.0)
      ∙ rw (append_assoc (fronts r) (fronts s) more, append_assoc us vs rest) (flat-begins a (fronts s ++ more) (vs ++ rest) flats.0 ∙ flat-begins b more rest flats.1)
  flat-begins (first a) more rest flat = absurd cc
  flat-begins (second a) more rest flat = absurd cc
  flat-begins (front_first a) more rest flat = absurd cc
  flat-begins (front_second a) more rest flat = absurd cc
  flat-begins absent more rest flat = absurd cc
  flat-begins (present a) more rest flat = absurd cc
  flat-begins no_more more rest flat = absurd cc
  flat-begins (one_more a b) more rest flat = absurd cc
  flat-begins (at_place a c) more rest flat = absurd cc
  flat-begins (as_symbol a) more rest flat = absurd cc

  both-front : (r s : RuleOf g) (us vs rest : List g.Token)
      → (is_flat r ≡ true → begins_with g tables (fronts r ++ fronts s) (us ++ (vs ++ rest)) ≡ true) → begins_with g tables (fronts r) (us ++ (vs ++ rest)) ≡ true
      → begins_with g tables (fronts (r then s)) ((us ++ vs) ++ rest) ≡ true
  both-front r s us vs rest whole one = by_flat (is_flat r) refl where
    by_flat : (f : Bool) → is_flat r ≡ f → begins_with g tables (fronts r ++ cond f (fronts s) []) ((us ++ vs) ++ rest) ≡ true
    by_flat true e = rw (append_assoc us vs rest) (whole e)
    by_flat false e = rw (append_assoc us vs rest, append-nil (fronts r)) one

  -- what a rule spells begins with the single tokens at its front
  front-spelled : {r : RuleOf g} {us : List g.Token} {x : ValueOf g r} → Spelled g r us x → (rest : List g.Token) → begins_with g tables (fronts r) (us ++ rest) ≡ true
  front-spelled (a_word {sort = sort} {t = t} e) rest = rw (e, decided.has_begins.same.refl sort) refl
  front-spelled (a_token {sorts = sorts} {t = t} c) rest = rw (list_any-from_Contains decided.has_begins.same (g.sort t) sorts c) refl
  front-spelled (both {r = r} {s = s} {us = us} {vs = vs} a b) rest =
      both-front r s us vs rest (λ flat. flat-begins a (fronts s) (vs ++ rest) flat ∙ front-spelled b rest) (front-spelled a (vs ++ rest))
  front-spelled (first a) rest = refl
  front-spelled (second a) rest = refl
  front-spelled (front_first a) rest = refl
  front-spelled (front_second a) rest = refl
  front-spelled absent rest = refl
  front-spelled (present a) rest = refl
  front-spelled no_more rest = refl
  front-spelled (one_more a b) rest = refl
  front-spelled (at_place a c) rest = front-spelled a rest
  front-spelled (as_symbol a) rest = refl

  -- the first rule's tokens aren't in front where the other is read
  not_front : (r s : RuleOf g) (ts rest : List g.Token) (y : ValueOf g s) → IsShut g tables goes_on r s → next_is g tables (last_of [] (fronts r)) rest ≡ false
      → by s ts ≡ Taken y rest → begins_with g tables (fronts r) ts ≡ false
  not_front r s ts rest y shut ends e = by_test (begins_with g tables (fronts r) ts) refl where
    by_test : (b : Bool) → begins_with g tables (fronts r) ts ≡ b → b ≡ false
    by_test false f = refl
    by_test true f =
        let before : EndsBefore g tables goes_on (fronts r) ts (Taken y rest) = subst (EndsBefore g tables goes_on (fronts r) ts) e (shut ts f) in
        let no : true ≡ false = sym before.1 ∙ ends in
        absurd cc

  more-complete : (r : RuleOf g) (us vs rest : List g.Token) (x : ValueOf g r) (xs : List (ValueOf g r)) → nullable tables.empty r ≡ false → Begins g tables r us
      → by r (us ++ (vs ++ rest)) ≡ Taken x (vs ++ rest) → by (many r) (vs ++ rest) ≡ Taken xs rest → by (many r) ((us ++ vs) ++ rest) ≡ Taken (x ∷ xs) rest
  more-complete r us vs rest x xs full b one others =
      ap (by (many r)) (append_assoc us vs rest) ∙ many-is r full (us ++ (vs ++ rest)) ∙ rw (begun r us (vs ++ rest) full b, one, others) refl

  placed-complete : (r : RuleOf g) (us rest : List g.Token) (x : ValueOf g r) (offset : ℕ) → nullable tables.empty r ≡ false → Begins g tables r us → StartsAt g offset us
      → by r (us ++ rest) ≡ Taken x rest → by (placed r) (us ++ rest) ≡ Taken (offset, x) rest
  placed-complete r [] rest x offset full b at a = let no : true ≡ false = sym b ∙ full in absurd cc
  placed-complete r (t ∷ us) rest x offset full b at a = rw (a, at) refl

  nothing_more : (r : RuleOf g) (rest : List g.Token) → nullable tables.empty r ≡ false → Ends (many r) rest → by (many r) rest ≡ Taken [] rest
  nothing_more r rest full e = many-is r full rest ∙ rw (ends-left (start_of g tables r) (extends_of g tables goes_on r) rest e) refl

  ends_inside : (r : RuleOf g) (vs rest : List g.Token) → apart g.same (extends_of g tables goes_on r) (start_of g tables r) ≡ true
      → Begins g tables (many r) vs → Ends (many r) rest → Ends r (vs ++ rest)
  ends_inside r [] rest away b e = ends-right (start_of g tables r) (extends_of g tables goes_on r) rest e
  ends_inside r (t ∷ vs) rest away b e = apart-law g tables decided.told (extends_of g tables goes_on r) (start_of g tables r) t away b

  ends_of : (n : g.Symbol) (rest : List g.Token) → Ends (symbol n) rest → Ends (g.body n) rest
  ends_of n [] e = refl
  ends_of n (t ∷ rest) e = decided.ends n t e

  pub complete : {r : RuleOf g} {us : List g.Token} {x : ValueOf g r} → Spelled g r us x → IsFine g tables goes_on r → (rest : List g.Token) → Ends r rest
      → by r (us ++ rest) ≡ Taken x rest
  complete (a_word {sort = sort} {t = t} e) is rest ends = rw (e, decided.has_begins.same.refl sort) refl
  complete (a_token {sorts = sorts} {t = t} c) is rest ends = rw (list_any-from_Contains decided.has_begins.same (g.sort t) sorts c) refl
  complete (both {r = r} {s = s} {us = us} {vs = vs} {x = x} {y = y} a b) is rest ends =
      let here : List g.Sort = extends_of g tables goes_on s in
      let on : List g.Sort = cond (nullable tables.empty s) (extends_of g tables goes_on r) [] in
      then-complete r s us vs rest x y
      (complete a is.0 (vs ++ rest) (ends_before r s vs rest is.2 (begins g tables decided.has_begins b) (ends-right here on rest ends)))
      (complete b is.1 rest (ends-left here on rest ends))
  complete (first {r = r} {s = s} {us = us} a) is rest ends =
      let one : List g.Sort = extends_of g tables goes_on r ++ extends_of g tables goes_on s in
      let e = complete a is.0 rest (ends-left (extends_of g tables goes_on r) (extends_of g tables goes_on s) rest (ends-left one _ rest ends)) in
      rw (begun r us rest is.2 (begins g tables decided.has_begins a), e) refl
  complete (second {r = r} {s = s} {us = us} a) is rest ends =
      let one : List g.Sort = extends_of g tables goes_on r ++ extends_of g tables goes_on s in
      let e = complete a is.1 rest (ends-right (extends_of g tables goes_on r) (extends_of g tables goes_on s) rest (ends-left one _ rest ends)) in
      rw (not_begun r s us rest is.3 (begins g tables decided.has_begins a) (ends-right one _ rest ends), e) refl
  complete (front_first {r = r} {s = s} {us = us} a) is rest ends =
      let one : List g.Sort = extends_of g tables goes_on r ++ extends_of g tables goes_on s in
      let e = complete a is.0 rest (ends-left (extends_of g tables goes_on r) (extends_of g tables goes_on s) rest (ends-left one _ rest ends)) in
      rw (front-spelled a rest, e) refl
  complete (front_second {r = r} {s = s} {us = us} {y = y} a) is rest ends =
      let one : List g.Sort = extends_of g tables goes_on r ++ extends_of g tables goes_on s in
      let e = complete a is.1 rest (ends-right (extends_of g tables goes_on r) (extends_of g tables goes_on s) rest (ends-left one _ rest ends)) in
      rw (not_front r s (us ++ rest) rest y is.2 (ends-right one (last_of [] (fronts r)) rest ends) e, e) refl
  complete (absent {r = r}) is rest ends = rw (ends-left (start_of g tables r) (extends_of g tables goes_on r) rest ends) refl
  complete (present {r = r} {us = us} a) is rest ends =
      let e = complete a is.0 rest (ends-right (start_of g tables r) (extends_of g tables goes_on r) rest ends) in
      rw (begun r us rest is.1 (begins g tables decided.has_begins a), e) refl
  complete (no_more {r = r}) is rest ends = nothing_more r rest is.1 ends
  complete (one_more {r = r} {us = us} {vs = vs} {x = x} {xs = xs} a b) is rest ends =
      more-complete r us vs rest x xs is.1 (begins g tables decided.has_begins a)
      (complete a is.0 (vs ++ rest) (ends_inside r vs rest is.2 (begins g tables decided.has_begins b) ends))
      (complete b is rest ends)
  complete (at_place {r = r} {offset = offset} {us = us} {x = x} a at) is rest ends =
      placed-complete r us rest x offset is.1 (begins g tables decided.has_begins a) at (complete a is.0 rest ends)
  complete (as_symbol {n = n} {us = us} a) is rest ends =
      let e = complete a (decided.fine n) rest (ends_of n rest ends) in
      read-is g tables decided.told decided.has_begins decided.falls n (us ++ rest) ∙ ap (mapped (g.build n)) e
