use Rattle.std.proofs.Common.{◌≡◌, Some, None, take, sym, ap, ◌∙◌, arith}
use Rattle.std.specs.List.{prefix_len}
use Rattle.std.proofs.lemmas.List.Folds.{length-prefix_len}
use Rattle.sql_lexer.specs.Bytes.{is_digit}
use Rattle.sql_lexer.specs.Spelled.{value_in_range}
use Rattle.sql_lexer.proofs.Fronts.{front_passes}
use Rattle.sql_lexer.proofs.Ascii.{digits_utf8}
use Rattle.sql_lexer.proofs.Numbers.{below, parsed, too_large, digits_some}
use Rattle.sql_lexer.proofs.words.number.Goals as goal

pub value_of-requires : goal.value_of-requires
value_of-requires c =
    rw c.digits_len-len.ensures.value (digits_some c.args.text.now c.requires.nonempty c.requires.digit, front_passes is_digit c.args.text.now)

pub new-requires : goal.new-requires
new-requires c =
    let text = c.args.text.now in
    let found : value_in_range (take (prefix_len is_digit text) text) ≡ Some c.in-Some.field-0 =
    ap (λ len. value_in_range (take len text)) (sym c.digits_len-len.ensures.value) ∙ sym c.value_of.ensures ∙ c.in-Some.is in
    rw c.digits_len-len.ensures.value (record {
      utf8 = digits_utf8 _ (front_passes is_digit text);
      fits = omega (arith, length-prefix_len is_digit text, c.digits_len-len.ensures.value, c.digits_len-len.ensures.within, c.requires.fits);
      range = ((digits_some text c.requires.nonempty c.requires.digit, front_passes is_digit text), below (take (prefix_len is_digit text) text) c.in-Some.field-0 found);
    })

pub returns-in-Some : goal.returns-in-Some
returns-in-Some c =
    let text = c.args.text.now in
    let found : value_in_range (take (prefix_len is_digit text) text) ≡ Some c.in-Some.field-0 =
    ap (λ len. value_in_range (take len text)) (sym c.digits_len-len.ensures.value) ∙ sym c.value_of.ensures ∙ c.in-Some.is in
    rw (c.new.ensures, c.digits_len-len.ensures.value) (parsed c.args.at text c.in-Some.field-0 found)

pub returns-in-None : goal.returns-in-None
returns-in-None c =
    let text = c.args.text.now in
    let none : value_in_range (take (prefix_len is_digit text) text) ≡ None =
    ap (λ len. value_in_range (take len text)) (sym c.digits_len-len.ensures.value) ∙ sym c.value_of.ensures ∙ c.in-None.is in
    too_large c.args.at text none
