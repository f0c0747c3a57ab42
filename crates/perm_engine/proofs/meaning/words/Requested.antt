-- What some words ask for, by the steps of `clap`'s definition.
use Rattle.std.proofs.Common.{◌≡◌, ◌∙◌, ◌≤◌, ℕ, Bool, true, false, List, [], ◌∷◌, ◌++◌, Option, Some, None, is_some, refl, ap, ap₂}
use Rattle.std.specs.Prelude.{codes, if◌then◌else◌}
use Rattle.std.specs.Fmt.{decimal}
use Rattle.clap.specs.Faults.{check_fault, defaults_fault, entered_fault, fault_of, settle_fault, step_fault, turn_fault, walk_fault}
use Rattle.clap.specs.Kinds.{Kinds, or_else}
use Rattle.clap.specs.Simple.{App, Shape, built, entered, matches_of}
use Rattle.clap.specs.ValueTests.{is_unsigned_in}
use Rattle.clap.specs.Walk.{Held, Row, Rule, Step, Text, Walk, after_step, finished, first_of, idle, nothing_held, option, settled, value, walk_from, walked}
use Rattle.clap.specs.declared.error.kind.ErrorKind.TheVariants.{UnknownArgument, ValueValidation}
use Rattle.clap.proofs.OnLiterals.{clap_on_literals}
use Rattle.perm_engine.specs.meaning.words.Requests.{asked_by, command, is_dashed, numbered, one_of_both, request_of}
use Rattle.perm_engine.specs.declared.meaning.words.wanted.Wanted.{Wanted}
use Rattle.perm_engine.specs.declared.meaning.words.wanted.Wanted.TheVariants.{Script, Generated, Misworded}
use Rattle.perm_engine.proofs.meaning.words.Numbers.{decimal_numbered, decimal_taken, decimal_undashed, numbered_within, script≢generated, misworded≢generated, IsWithin}
use Rattle.perm_engine.proofs.meaning.words.Walked.{plain_fault, plain_met}

abbrev whole : App
whole = built command

abbrev shape : Shape
shape = whole.top

abbrev arguments : List Rule
arguments = shape.rules

abbrev start : Walk
start = walk_from nothing_held

-- what is wrong with words whose walk ends so, where this was wrong on the way
abbrev wrong_at : Walk → Kinds → Kinds
wrong_at w on_the_way =
    or_else on_the_way (or_else (entered_fault whole w.stopped) (or_else (settle_fault arguments shape.args_override_self w.held)
    (or_else (defaults_fault (settled arguments w.held).rows arguments) (check_fault shape (finished arguments w.held) (is_some (entered whole w.stopped))))))

-- what they ask for
abbrev answer : Walk → Kinds → Wanted
answer w on_the_way = asked_by (wrong_at w on_the_way) (finished arguments w.held)

unfoldable step : Walk → Text → Walk
step w word = walked arguments [] w word

unfoldable turn : Walk → Text → Kinds
turn w word = turn_fault shape [] w word

one_word : (a : Text) → request_of (a ∷ []) ≡ answer (step start a) (or_else (turn start a) [])
unfolding request_of walk_fault step turn
one_word a = refl

two_words : (a b : Text) → request_of (a ∷ b ∷ []) ≡ answer (step (step start a) b) (or_else (turn start a) (or_else (turn (step start a) b) []))
unfolding request_of walk_fault step turn
two_words a b = refl

three_words : (a b c : Text) → request_of (a ∷ b ∷ c ∷ [])
    ≡ answer (step (step (step start a) b) c) (or_else (turn start a) (or_else (turn (step start a) b) (or_else (turn (step (step start a) b) c) [])))
unfolding request_of walk_fault step turn
three_words a b c = refl

-- ---- a script

abbrev behind_script : Text → Walk
behind_script word = record {
  held = record { rows = []; pending = Some (codes "script", word ∷ []); skip = 0 };
  waiting = idle;
  position = 2;
  is_trailing = false;
  stopped = None;
}

script_step : (word : Text) → is_dashed word ≡ false → step start word ≡ behind_script word
unfolding step clap_on_literals
script_step word plain = ap (λ (met : Held × Step). after_step arguments word start met.0 met.1) (plain_met word plain arguments idle 1 nothing_held)

script_turn : (word : Text) → is_dashed word ≡ false → turn start word ≡ []
unfolding turn clap_on_literals
script_turn word plain =
    ap₂ (λ (wrong : Kinds) (met : Held × Step). or_else wrong (step_fault shape 1 met.0 met.1)) (plain_fault word plain shape idle nothing_held)
    (plain_met word plain arguments idle 1 nothing_held)

script_answer : (word : Text) → answer (behind_script word) [] ≡ Script word
unfolding clap_on_literals
script_answer word = refl

pub script_alone : (word : Text) → is_dashed word ≡ false → request_of (word ∷ []) ≡ Script word
script_alone word plain =
    one_word word ∙ ap₂ (λ (w : Walk) (wrong : Kinds). answer w (or_else wrong [])) (script_step word plain) (script_turn word plain) ∙ script_answer word

pub dash_alone : request_of (codes "-" ∷ []) ≡ Script (codes "-")
unfolding request_of clap_on_literals
dash_alone = refl

pub script_behind : (word : Text) → request_of (codes "--" ∷ word ∷ []) ≡ Script word
unfolding request_of clap_on_literals
script_behind word = refl

pub no_words : request_of [] ≡ Misworded
unfolding request_of clap_on_literals
no_words = refl

-- ---- a second word is one too many

second_turn : (a b : Text) → is_dashed b ≡ false → turn (behind_script a) b ≡ UnknownArgument ∷ []
unfolding turn clap_on_literals
second_turn a b plain =
    ap₂ (λ (wrong : Kinds) (met : Held × Step). or_else wrong (step_fault shape 2 met.0 met.1)) (plain_fault b plain shape idle (behind_script a).held)
    (plain_met b plain arguments idle 2 (behind_script a).held)

pub two_scripts : (a b : Text) → is_dashed a ≡ false → is_dashed b ≡ false → request_of (a ∷ b ∷ []) ≡ Misworded
two_scripts a b first second =
    two_words a b
    ∙ ap₂ (λ (w : Walk) (wrong : Kinds). answer (step w b) (or_else wrong (or_else (turn w b) []))) (script_step a first) (script_turn a first)
    ∙ ap (λ (wrong : Kinds). answer (step (behind_script a) b) (or_else wrong [])) (second_turn a b second)

-- ---- a number

abbrev behind_option : Walk
behind_option = record {
  held = record { rows = []; pending = Some (codes "generate", []); skip = 0 };
  waiting = option (codes "generate");
  position = 1;
  is_trailing = false;
  stopped = None;
}

abbrev behind_number : Text → Walk
behind_number text = record {
  held = record { rows = []; pending = Some (codes "generate", text ∷ []); skip = 0 };
  waiting = idle;
  position = 1;
  is_trailing = false;
  stopped = None;
}

option_step : step start (codes "--generate") ≡ behind_option
unfolding step clap_on_literals
option_step = refl

option_turn : turn start (codes "--generate") ≡ []
unfolding turn clap_on_literals
option_turn = refl

number_step : (text : Text) → is_dashed text ≡ false → step behind_option text ≡ behind_number text
unfolding step clap_on_literals
number_step text plain =
    ap (λ (met : Held × Step). after_step arguments text behind_option met.0 met.1) (plain_met text plain arguments (option (codes "generate")) 1 behind_option.held)

number_turn : (text : Text) → is_dashed text ≡ false → turn behind_option text ≡ []
unfolding turn clap_on_literals
number_turn text plain =
    ap₂ (λ (wrong : Kinds) (met : Held × Step). or_else wrong (step_fault shape 1 met.0 met.1)) (plain_fault text plain shape (option (codes "generate")) behind_option.held)
    (plain_met text plain arguments (option (codes "generate")) 1 behind_option.held)

abbrev judged : Bool → Text → Wanted
judged fits text = asked_by (or_else (or_else (if fits then [] else ValueValidation ∷ []) []) []) (finished arguments (behind_number text).held)

number_answer : (text : Text) → answer (behind_number text) [] ≡ judged (is_unsigned_in 1 100000 text) text
unfolding clap_on_literals
number_answer text = refl

number_found : (text : Text) → judged true text ≡ numbered text
unfolding clap_on_literals
number_found text = refl

pub number_behind : (rows : ℕ) → 1 ≤ rows → rows ≤ 100000 → request_of (codes "--generate" ∷ decimal rows ∷ []) ≡ Generated rows
number_behind rows least most =
    let text = decimal rows in
    let plain = decimal_undashed rows most in
    two_words (codes "--generate") text
    ∙ ap₂ (λ (w : Walk) (wrong : Kinds). answer (step w text) (or_else wrong (or_else (turn w text) []))) option_step option_turn
    ∙ ap₂ (λ (w : Walk) (wrong : Kinds). answer w (or_else wrong [])) (number_step text plain) (number_turn text plain)
    ∙ number_answer text ∙ ap (λ (fits : Bool). judged fits text) (decimal_taken rows least most) ∙ number_found text ∙ decimal_numbered rows least most

-- ---- a script behind a number

abbrev behind_both : Text → Text → Walk
behind_both text word = after_step arguments word (behind_number text) (behind_number text).held value

abbrev number_wrong : Bool → Kinds
number_wrong fits = or_else (or_else (if fits then [] else ValueValidation ∷ []) []) []

both_step : (text word : Text) → is_dashed word ≡ false → step (behind_number text) word ≡ behind_both text word
unfolding step clap_on_literals
both_step text word plain =
    ap (λ (met : Held × Step). after_step arguments word (behind_number text) met.0 met.1) (plain_met word plain arguments idle 1 (behind_number text).held)

both_turn : (text word : Text) → is_dashed word ≡ false → turn (behind_number text) word ≡ or_else (if is_unsigned_in 1 100000 text then [] else ValueValidation ∷ []) []
unfolding turn clap_on_literals
both_turn text word plain =
    ap₂ (λ (wrong : Kinds) (met : Held × Step). or_else wrong (step_fault shape 1 met.0 met.1)) (plain_fault word plain shape idle (behind_number text).held)
    (plain_met word plain arguments idle 1 (behind_number text).held)

both_answer : (text word : Text) (fits : Bool) → answer (behind_both text word) (number_wrong fits) ≡ Misworded
unfolding clap_on_literals
both_answer text word true = refl
both_answer text word false = refl

pub number_and_script : (text word : Text) → is_dashed text ≡ false → is_dashed word ≡ false → request_of (codes "--generate" ∷ text ∷ word ∷ []) ≡ Misworded
number_and_script text word first second =
    three_words (codes "--generate") text word
    ∙ ap₂ (λ (w : Walk) (wrong : Kinds). answer (step (step w text) word) (or_else wrong (or_else (turn w text) (or_else (turn (step w text) word) [])))) option_step option_turn
    ∙ ap₂ (λ (w : Walk) (wrong : Kinds). answer (step w word) (or_else wrong (or_else (turn w word) []))) (number_step text first) (number_turn text first)
    ∙ ap₂ (λ (w : Walk) (wrong : Kinds). answer w (or_else wrong [])) (both_step text word second) (both_turn text word second)
    ∙ both_answer text word (is_unsigned_in 1 100000 text)

-- ---- a number behind `=`

abbrev joined : Text → Text
joined text = codes "--generate=" ++ text

joined_turn : (text : Text) → turn start (joined text) ≡ number_wrong (is_unsigned_in 1 100000 text)
unfolding turn clap_on_literals
joined_turn text = refl

joined_answer : (text : Text) → answer (step start (joined text)) [] ≡ numbered text
unfolding step clap_on_literals
joined_answer text = refl

pub number_joined : (rows : ℕ) → 1 ≤ rows → rows ≤ 100000 → request_of ((codes "--generate=" ++ decimal rows) ∷ []) ≡ Generated rows
number_joined rows least most =
    let text = decimal rows in
    one_word (joined text)
    ∙ ap (λ (wrong : Kinds). answer (step start (joined text)) (or_else wrong [])) (joined_turn text ∙ ap number_wrong (decimal_taken rows least most))
    ∙ joined_answer text ∙ decimal_numbered rows least most

pub within : (words : List Text) (rows : ℕ) → request_of words ≡ Generated rows → IsWithin rows
unfolding request_of
within words rows e = by_kinds (fault_of command words) (matches_of command words) e where
  by_both : (a b : Option Text) → one_of_both a b ≡ Generated rows → IsWithin rows
  by_both (Some name) None e = absurd (script≢generated name rows e)
  by_both None (Some text) e = numbered_within text rows e
  by_both (Some name) (Some text) e = absurd (misworded≢generated rows e)
  by_both None None e = absurd (misworded≢generated rows e)

  by_kinds : (kinds : Kinds) (found : List Row) → asked_by kinds found ≡ Generated rows → IsWithin rows
  by_kinds [] found e = by_both (first_of (codes "script") found) (first_of (codes "generate") found) e
  by_kinds (kind ∷ kinds) found e = absurd (misworded≢generated rows e)
