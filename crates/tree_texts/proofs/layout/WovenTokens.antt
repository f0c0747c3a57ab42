-- Tokens with gaps behind each: one token more, and what they are read as once `;` stands behind them.
use Rattle.std.proofs.Common.{◌≡◌, ℕ, ℤ, ◌+◌, ◌-◌, ⊎_elim, Bool, true, false, List, [], ◌∷◌, ◌++◌, length, take, drop, refl, sym, ap, subst, ◌∙◌, arith, append_assoc}
use Rattle.std.specs.List.{list_all, AllByRecursion, slice_range}
use Rattle.std.specs.Prelude.{codes}
use Rattle.std.proofs.Math.Seq.{take-append_seam, drop-append_seam}
use Rattle.std.proofs.lemmas.Bool.{and_from, and_parts}
use Rattle.std.proofs.lemmas.List.{append-nil, drop-drop, length-append}
use Rattle.sql_lexer.specs.declared.token.Token.{Token}
use Rattle.sql_lexer.specs.declared.token.TokenKind.{TokenKind}
use Rattle.sql_lexer.specs.declared.token.TokenKind.TheVariants.{Word, Quoted, Number, Text, Symbol}
use Rattle.sql_lexer.specs.Bytes.{is_blank, next_is}
use Rattle.sql_lexer.specs.Lexes.{goes_on, Lexes}
use Rattle.sql_lexer.specs.Printing.{plain_spelled}
use Rattle.sql_lexer.proofs.Ascii.{one_utf8}
use Rattle.sql_tree.specs.declared.grammar.sort.Sort.TheVariants.{Semicolon}
use Rattle.tree_texts.specs.plans.Written.{token_for}
use Rattle.tree_texts.specs.Standing.{Span, at_span, standing, CanStand}
use Rattle.tree_texts.specs.Texts.{shown_by, shown, shown_tokens, places_from}
use Rattle.tree_texts.proofs.Shown.{shifted}
use Rattle.tree_texts.specs.layout.Lines.{EndsScript}
use Rattle.tree_texts.specs.layout.Woven.{IsFree, BeginsFree, IsGap, AddsBlanks, AddsGap, IsWoven}
use Rattle.tree_texts.proofs.layout.LaidRead.{IsLaid, laid_is_read}
use Rattle.tree_texts.proofs.layout.Touching.{blank_apart, free_apart, stops, free_stops}

-- ---- blanks

further_in : (more : List ℕ) → list_all is_blank more ≡ true → list_all is_blank (more ++ 32 ∷ 32 ∷ []) ≡ true
further_in [] all = refl
further_in (b ∷ more) all =
    let parts = and_parts (is_blank b) (list_all is_blank more) all in
    and_from (is_blank b) (list_all is_blank (more ++ 32 ∷ 32 ∷ [])) parts.0 (further_in more parts.1)

pub longer : (old now after : List ℕ) → AddsBlanks old now → after ≡ now ++ 32 ∷ 32 ∷ [] → AddsBlanks old after
longer old now after adds joined = (
  adds.0,
  adds.1 ++ 32 ∷ 32 ∷ [],
  adds.2,
  further_in adds.1 adds.3,
  joined ∙ ap (λ t. t ++ 32 ∷ 32 ∷ []) adds.4 ∙ append_assoc old (adds.0 ∷ adds.1) (32 ∷ 32 ∷ []),
)

pub as_gap : (t : Token) (others : List Token) (old after : List ℕ) → AddsBlanks old after → AddsGap t others old after
as_gap t others old after adds = (adds.0 ∷ adds.1, (adds.2, adds.3), adds.4)

-- ---- one more token

module _ (text : List ℕ) where
  one_more : (tokens : List Token) (t : Token) (others : List Token) (gap laid : List ℕ) → IsGap t others gap
      → IsWoven text tokens (t ∷ others) laid → IsWoven text (tokens ++ t ∷ []) others (laid ++ (slice_range text t.start t.end ++ gap))
  one_more [] t others gap laid is woven =
      let bytes = slice_range text t.start t.end in
      (gap, [], is, ap (λ l. l ++ (bytes ++ gap)) woven ∙ ap (λ r. bytes ++ r) (sym (append-nil gap)), refl)
  one_more (u ∷ tokens) t others gap laid is woven =
      let bytes = slice_range text t.start t.end in
      let first = slice_range text u.start u.end in
      let follow : (tokens ++ t ∷ []) ++ others ≡ tokens ++ t ∷ others = append_assoc tokens (t ∷ []) others in (
        woven.0,
        woven.1 ++ (bytes ++ gap),
        subst (λ ts. IsGap u ts woven.0) (sym follow) woven.2,
        ap (λ l. l ++ (bytes ++ gap)) woven.3 ∙ append_assoc first (woven.0 ++ woven.1) (bytes ++ gap)
            ∙ ap (λ r. first ++ r) (append_assoc woven.0 woven.1 (bytes ++ gap)),
        one_more tokens t others gap woven.1 is woven.4,
      )

  pub woven_next : (tokens : List Token) (t : Token) (others : List Token) (laid between after : List ℕ)
      → IsWoven text tokens (t ∷ others) laid → between ≡ laid ++ slice_range text t.start t.end → AddsGap t others between after
      → IsWoven text (tokens ++ t ∷ []) others after
  woven_next tokens t others laid between after woven added adds =
      let bytes = slice_range text t.start t.end in
      subst (IsWoven text (tokens ++ t ∷ []) others) (sym (adds.2 ∙ ap (λ l. l ++ adds.0) added ∙ append_assoc laid bytes adds.0))
      (one_more tokens t others adds.0 laid adds.1 woven)

-- ---- with `;` behind them

abbrev semicolon : Token
semicolon = token_for Semicolon

-- what stands behind a token begins with the bytes of the next one
behind_next : (test : ℕ → Bool) (b : ℕ) (bytes more rest : List ℕ) → bytes ≡ b ∷ [] → rest ≡ bytes ++ more → next_is test rest ≡ test b
behind_next test b bytes more rest is e = ap (next_is test) (e ∙ ap (λ front. front ++ more) is)

-- a symbol is shown as it is spelled
free_shown : (kind : TokenKind) (spelled : List ℕ) (number : ℤ) (b : ℕ) → kind ≡ Symbol → plain_spelled kind spelled number ≡ b ∷ []
    → shown_by kind spelled number ≡ b ∷ []
free_shown Word spelled number b is e = absurd (cc)
free_shown Quoted spelled number b is e = absurd (cc)
free_shown Number spelled number b is e = absurd (cc)
free_shown Text spelled number b is e = absurd (cc)
free_shown Symbol spelled number b is e = e

stops_free : (t : Token) (span : Span) (rest : List ℕ) → IsFree (at_span span t) → next_is (goes_on t.kind (shown t)) rest ≡ false
stops_free t span rest free =
    let bytes = free_shown t.kind t.spelled t.number free.0 free.2.0 free.2.1 in
    subst (λ kind. next_is (goes_on kind (shown t)) rest ≡ false) (sym free.2.0)
    (subst (λ shows. next_is (goes_on Symbol shows) rest ≡ false) (sym bytes) (free_stops free.0 rest free.1))

-- the next token, or `;`, is free
stops_before : (t : Token) (places : ℕ → Span) (tokens : List Token) (rest : List ℕ) → CanStand t → BeginsFree (standing places 0 tokens)
    → IsLaid (tokens ++ semicolon ∷ []) rest → next_is (goes_on t.kind (shown t)) rest ≡ false
stops_before t places [] rest can free laid =
    behind_next (goes_on t.kind (shown t)) 59 (59 ∷ []) (laid.0 ++ laid.1) rest refl laid.4 ∙ stops t.kind t.spelled t.number 59 can.0 refl
stops_before t places (u ∷ tokens) rest can free laid =
    let bytes = free_shown u.kind u.spelled u.number free.0 free.2.0 free.2.1 in
    behind_next (goes_on t.kind (shown t)) free.0 (shown u) (laid.0 ++ laid.1) rest bytes laid.4
    ∙ stops t.kind t.spelled t.number free.0 can.0 (free_apart free.0 free.1)

stops_at : (t : Token) (span : Span) (places : ℕ → Span) (tokens : List Token) (gap rest : List ℕ) → CanStand t
    → IsGap (at_span span t) (standing places 0 tokens) gap → IsLaid (tokens ++ semicolon ∷ []) rest
    → (list_all is_blank gap ≡ true) × (next_is (goes_on t.kind (shown t)) (gap ++ rest) ≡ false)
stops_at t span places tokens [] rest can is laid =
    (refl, ⊎_elim (λ free. stops_free t span rest free) (λ free. stops_before t places tokens rest can free laid) is)
stops_at t span places tokens (b ∷ gap) rest can is laid =
    (and_from (is_blank b) (list_all is_blank gap) is.0 is.1, stops t.kind t.spelled t.number b can.0 (blank_apart b is.0))

semicolon_can : CanStand semicolon
semicolon_can = ((refl, refl), one_utf8 59 (omega arith))

all_can : (tokens : List Token) → AllByRecursion CanStand tokens → AllByRecursion CanStand (tokens ++ semicolon ∷ [])
all_can [] all = (semicolon_can, tt)
all_can (t ∷ tokens) all = (all.0, all_can tokens all.1)

module _ (text : List ℕ) where
  woven_laid : (at : ℕ) (tokens : List Token) (laid : List ℕ) → AllByRecursion CanStand tokens → drop at text ≡ shown_tokens tokens
      → IsWoven text (standing (places_from at tokens) 0 tokens) [] laid → IsLaid (tokens ++ semicolon ∷ []) (laid ++ codes ";\n")
  woven_laid at [] laid all is woven = (10 ∷ [], [], refl, refl, ap (λ l. l ++ codes ";\n") woven, refl)
  woven_laid at (t ∷ tokens) laid all is woven =
      let width = length (shown t) in
      let next = at + width + 1 in
      let places = places_from next tokens in
      let behind : List ℕ = 32 ∷ shown_tokens tokens in
      let cut : drop at text ≡ shown t ++ behind = is ∙ append_assoc (shown t) (32 ∷ []) (shown_tokens tokens) in
      let wide : at + width - at ≡ width = omega arith in
      let sliced : slice_range text at (at + width) ≡ shown t =
      ap (λ n. take n (drop at text)) wide ∙ ap (take width) cut ∙ take-append_seam (shown t) behind in
      let far : next ≡ at + length (shown t ++ 32 ∷ []) = omega (arith, length-append (shown t) (32 ∷ [])) in
      let on : drop next text ≡ shown_tokens tokens =
      ap (λ n. drop n text) far ∙ sym (drop-drop (length (shown t ++ 32 ∷ [])) at text) ∙ ap (drop (length (shown t ++ 32 ∷ []))) is
      ∙ drop-append_seam (shown t ++ 32 ∷ []) (shown_tokens tokens) in
      let others : standing (places_from at (t ∷ tokens)) 1 tokens ≡ standing places 0 tokens = shifted (places_from at (t ∷ tokens)) 0 tokens in
      let gap = woven.0 in
      let rest = woven.1 ++ codes ";\n" in
      let inner : IsLaid (tokens ++ semicolon ∷ []) rest = woven_laid next tokens woven.1 all.1 on (subst (λ ts. IsWoven text ts [] woven.1) others woven.4) in
      let follow : standing (places_from at (t ∷ tokens)) 1 tokens ++ [] ≡ standing places 0 tokens = append-nil _ ∙ others in
      let ends = stops_at t (places_from at (t ∷ tokens) 0) places tokens gap rest all.0
      (subst (λ ts. IsGap (at_span (places_from at (t ∷ tokens) 0) t) ts gap) follow woven.2) inner in (
        gap,
        rest,
        ends.0,
        ends.1,
        ap (λ l. l ++ codes ";\n") woven.3 ∙ append_assoc (slice_range text at (at + width)) (gap ++ woven.1) (codes ";\n")
            ∙ ap (λ r. slice_range text at (at + width) ++ r) (append_assoc gap woven.1 (codes ";\n")) ∙ ap (λ s. s ++ (gap ++ rest)) sliced,
        inner,
      )

  pub woven_script : (tokens : List Token) (laid after : List ℕ) → AllByRecursion CanStand tokens → text ≡ shown_tokens tokens
      → IsWoven text (standing (places_from 0 tokens) 0 tokens) [] laid → after ≡ laid ++ codes ";\n" → EndsScript tokens after
  woven_script tokens laid after all is woven ended =
      let read = laid_is_read (tokens ++ semicolon ∷ []) (laid ++ codes ";\n") (all_can tokens all) (woven_laid 0 tokens laid all is woven) in
      record {
        places = read.0;
        split = subst (λ t. Lexes t (standing read.0 0 (tokens ++ semicolon ∷ []))) (sym ended) read.1;
        front = laid;
        ended = ended;
      }
