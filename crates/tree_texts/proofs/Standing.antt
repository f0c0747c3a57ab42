-- The tokens of a plan spell what it gives wherever they stand, and can be written where those that it chooses can.
use Rattle.std.proofs.Common.{◌≡◌, ℕ, zero, suc, ◌+◌, true, List, [], ◌∷◌, ◌++◌, length, Contains, add-zero, refl, sym, ap, subst, ◌∙◌, append-nil, arith}
use Rattle.std.specs.Prelude.{nat_lt}
use Rattle.std.specs.List.{list_all, AllByRecursion}
use Rattle.std.specs.Str.{IsAscii}
use Rattle.std.proofs.lemmas.Bool.{ltb-true, and_parts}
use Rattle.std.proofs.lemmas.Str.{IsUtf8-from_ascii}
use Rattle.sql_lexer.specs.declared.token.Token.{Token}
use Rattle.sql_tree.specs.grammar.Grammar.{sql, SqlRule}
use Rattle.sql_tree.specs.grammar.Rules as rules
use Rattle.sql_tree.specs.grammar.Rules.{◌then◌, many, Spelled, StartsAt}
use Rattle.sql_tree.specs.grammar.Sorts.{sort_of}
use Rattle.sql_tree.specs.declared.grammar.sort.Sort.{Sort}
use Rattle.sql_tree.specs.declared.grammar.sort.Sort.TheVariants as s
use Rattle.tree_texts.specs.plans.Plans.{Plan, a_word, a_choice, a_token, both, before, behind, first, second, front_first, front_second, absent, present, no_more, one_more, one_last, at_start, as_symbol, tokens_of}
use Rattle.tree_texts.specs.plans.Written.{is_written, token_for}
use Rattle.tree_texts.proofs.Planned.{sort_again, contained, blank_spelled}
use Rattle.tree_texts.proofs.Written.{sorted, spellable}
use Rattle.tree_texts.specs.Standing.{Span, Places, at_span, standing, given, CanStand, Sound}

-- ---- what tokens spell

sort_stays : (span : Span) (t : Token) → sort_of (at_span span t) ≡ sort_of t
sort_stays span t = sort_again t.kind t.spelled t.number

module _ (places : Places) where
  standing_append : (i : ℕ) (us vs : List Token) → standing places i (us ++ vs) ≡ standing places i us ++ standing places (i + length us) vs
  standing_append i [] vs = ap (λ n. standing places n vs) (sym (add-zero i))
  standing_append i (t ∷ us) vs =
      let next : suc i + length us ≡ i + length (t ∷ us) = omega arith in
      ap (λ ts. at_span (places i) t ∷ ts) (standing_append (suc i) us vs ∙ ap (λ n. standing places (suc i) us ++ standing places n vs) next)

  starts : (i : ℕ) (tokens : List Token) → StartsAt sql (places i).start (standing places i tokens)
  starts i [] = tt
  starts i (t ∷ tokens) = refl

  pub given_spelled : {rule : SqlRule} (p : Plan rule) (i : ℕ) → Spelled sql rule (standing places i (tokens_of p)) (given places i p)
  given_spelled (a_word {sort = sort} written) i = rules.a_word (sort_stays (places i) (token_for sort) ∙ sorted sort written)
  given_spelled (a_choice {sorts = sorts} {sort = sort} written is) i =
      rules.a_token (subst (Contains sorts) (sym (sort_stays (places i) (token_for sort) ∙ sorted sort written)) (contained is))
  given_spelled (a_token {sorts = sorts} t is) i = rules.a_token (subst (Contains sorts) (sym (sort_stays (places i) t)) (contained is))
  given_spelled (both {r = r} {s = s} p q) i =
      subst (λ us. Spelled sql (r then s) us (given places i (both p q))) (sym (standing_append i (tokens_of p) (tokens_of q)))
      (rules.both (given_spelled p i) (given_spelled q (i + length (tokens_of p))))
  given_spelled (before {r = r} {s = s} p b) i =
      subst (λ us. Spelled sql (r then s) us (given places i (before p b))) (append-nil (standing places i (tokens_of p)))
      (rules.both (given_spelled p i) (blank_spelled b))
  given_spelled (behind b p) i = rules.both {us = []} (blank_spelled b) (given_spelled p i)
  given_spelled (first p) i = rules.first (given_spelled p i)
  given_spelled (second p) i = rules.second (given_spelled p i)
  given_spelled (front_first p) i = rules.front_first (given_spelled p i)
  given_spelled (front_second p) i = rules.front_second (given_spelled p i)
  given_spelled absent i = rules.absent
  given_spelled (present p) i = rules.present (given_spelled p i)
  given_spelled no_more i = rules.no_more
  given_spelled (one_more {r = r} p q) i =
      subst (λ us. Spelled sql (many r) us (given places i (one_more p q))) (sym (standing_append i (tokens_of p) (tokens_of q)))
      (rules.one_more (given_spelled p i) (given_spelled q (i + length (tokens_of p))))
  given_spelled (one_last {r = r} p) i =
      subst (λ us. Spelled sql (many r) us (given places i (one_last p))) (append-nil (standing places i (tokens_of p)))
      (rules.one_more (given_spelled p i) rules.no_more)
  given_spelled (at_start p) i = rules.at_place (given_spelled p i) (starts i (tokens_of p))
  given_spelled (as_symbol p) i = rules.as_symbol (given_spelled p i)

-- ---- tokens that can be written

pub all_ascii : (bytes : List ℕ) → list_all (λ b. nat_lt b 128) bytes ≡ true → IsAscii bytes
all_ascii [] all i = omega arith
all_ascii (b ∷ bytes) all zero = ltb-true b 128 (and_parts (nat_lt b 128) (list_all (λ b. nat_lt b 128) bytes) all).0
all_ascii (b ∷ bytes) all (suc i) = all_ascii bytes (and_parts (nat_lt b 128) (list_all (λ b. nat_lt b 128) bytes) all).1 i

-- the words and the symbols of the grammar are ASCII
written_ascii : (sort : Sort) → list_all (λ b. nat_lt b 128) (token_for sort).spelled ≡ true
written_ascii s.Plain = refl
written_ascii _ = refl

word_stands : (sort : Sort) → is_written sort ≡ true → CanStand (token_for sort)
word_stands sort written = (spellable sort written, IsUtf8-from_ascii _ (all_ascii (token_for sort).spelled (written_ascii sort)))

all_append : (us vs : List Token) → AllByRecursion CanStand us → AllByRecursion CanStand vs → AllByRecursion CanStand (us ++ vs)
all_append [] vs all more = more
all_append (x ∷ us) vs all more = (all.0, all_append us vs all.1 more)

pub all_stand : {rule : SqlRule} (p : Plan rule) → Sound p → AllByRecursion CanStand (tokens_of p)
all_stand (a_word {sort = sort} written) sound = (word_stands sort written, tt)
all_stand (a_choice {sort = sort} written is) sound = (word_stands sort written, tt)
all_stand (a_token t is) sound = (sound, tt)
all_stand (both p q) sound = all_append (tokens_of p) (tokens_of q) (all_stand p sound.0) (all_stand q sound.1)
all_stand (before p b) sound = all_stand p sound
all_stand (behind b p) sound = all_stand p sound
all_stand (first p) sound = all_stand p sound
all_stand (second p) sound = all_stand p sound
all_stand (front_first p) sound = all_stand p sound
all_stand (front_second p) sound = all_stand p sound
all_stand absent sound = tt
all_stand (present p) sound = all_stand p sound
all_stand no_more sound = tt
all_stand (one_more p q) sound = all_append (tokens_of p) (tokens_of q) (all_stand p sound.0) (all_stand q sound.1)
all_stand (one_last p) sound = all_stand p sound
all_stand (at_start p) sound = all_stand p sound
all_stand (as_symbol p) sound = all_stand p sound
