use Rattle.std.proofs.Common.{arith}
use Rattle.std.proofs.lemmas.List.Folds.{length-prefix_len}
use Rattle.sql_lexer.specs.Bytes.{is_word}
use Rattle.sql_lexer.proofs.Ascii.{lowered_utf8}
use Rattle.sql_lexer.proofs.Fronts.{front_passes}
use Rattle.sql_lexer.proofs.words.word.Goals as goal

pub new-requires : goal.new-requires
new-requires c =
    let text = c.args.text.now in
    rw c.word_len-len.ensures.value (record {
      utf8 = lowered_utf8 _ (front_passes is_word text);
      fits = omega (arith, length-prefix_len is_word text, c.word_len-len.ensures.value, c.word_len-len.ensures.within, c.requires);
      range = tt;
    })
