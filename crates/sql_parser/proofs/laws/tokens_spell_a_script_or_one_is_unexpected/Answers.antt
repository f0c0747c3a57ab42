use Rattle.std.proofs.Common.{◌≡◌, ◌⊎◌, ℕ, List, [], ◌∷◌, inl, inr, refl}
use Rattle.sql_lexer.specs.declared.token.Token.{Token}
use Rattle.sql_tree.specs.grammar.Cursors.{reading}
use Rattle.sql_tree.specs.grammar.Descent.{Parsed, Taken, Stopped}
use Rattle.sql_tree.specs.grammar.Grammar.{sql}
use Rattle.sql_tree.specs.grammar.Symbols.{ScriptOf}
use Rattle.sql_tree.specs.grammar.Tables.{sql_tables}
use Rattle.sql_tree.proofs.Decided.{goes_on, decided}
use Rattle.sql_tree.proofs.Exact.{whole-spelled, stopped-wrong, left-wrong}
use Rattle.sql_tree.proofs.Samples.{samples}
use Rattle.sql_parser.specs.Spells.{Spells, IsUnexpected, offset_in}
use Rattle.sql_tree.specs.declared.statement.Script.{Script}
use Rattle.sql_parser.proofs.laws.tokens_spell_a_script_or_one_is_unexpected.Goals as goal

by_read : (tokens : List Token) (length : ℕ) (o : Parsed Token Script) → reading ScriptOf tokens ≡ o
    → ((script : Script) × Spells tokens script) ⊎ ((at : ℕ) × IsUnexpected tokens length at)
unfolding reading
by_read tokens length (Taken script []) e = inl (script, whole-spelled sql sql_tables goes_on decided ScriptOf tokens script e)
by_read tokens length (Taken script (t ∷ rest)) e = inr (
  t.start,
  record {
    wrong = t ∷ rest;
    first = left-wrong sql sql_tables goes_on decided samples ScriptOf tokens rest t script e;
    offset = refl;
  },
)
by_read tokens length (Stopped rest) e = inr (
  offset_in length rest,
  record {
    wrong = rest;
    first = stopped-wrong sql sql_tables goes_on decided samples ScriptOf tokens rest e;
    offset = refl;
  },
)

pub returns : goal.returns
returns c = λ tokens length. by_read tokens length (reading ScriptOf tokens) refl
