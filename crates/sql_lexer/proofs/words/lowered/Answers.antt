use Rattle.sql_lexer.proofs.words.lowered.Goals as goal

pub text_of-requires : goal.text_of-requires
text_of-requires c = rw (c.as_slice.ensures.value, c.in_ok-lower.ensures.ok) c.requires
