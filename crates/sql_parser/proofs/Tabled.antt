-- The operators of the grammar are those of the table: by computation, row by row.
use Rattle.std.proofs.Common.{◌≡◌, List, [], ◌∷◌, Some, refl}
use Rattle.std.specs.List.{AllByRecursion}
use Rattle.null_logic.specs.Operators.{Entry, operator_table}
use Rattle.sql_lexer.specs.Lexes.{Lexes}
use Rattle.sql_tree.specs.grammar.Sorts.{word_sort, symbol_sort, same_sort}
use Rattle.sql_parser.specs.Levels.{token_of, Makes, AreReadByTable}
use Rattle.sql_parser.specs.Texts.{tokens_in}
use Rattle.sql_parser.proofs.Texts.{tokens-lex}

abbrev AreSplit : List Entry → Type 0
AreSplit rows = AllByRecursion (λ row. tokens_in row.1 ≡ Some (token_of row ∷ [])) rows

split : AreSplit operator_table
unfolding tokens_in
split = (refl, (refl, (refl, (refl, (refl, (refl, (refl, (refl, (refl, (refl, (refl, (refl, (refl, (refl, (refl, (refl, (refl, (refl, tt))))))))))))))))))

spelled : (rows : List Entry) → AreSplit rows → AllByRecursion (λ row. Lexes row.1 (token_of row ∷ [])) rows
spelled [] s = tt
spelled (row ∷ rows) s = (tokens-lex row.1 (token_of row ∷ []) s.0, spelled rows s.1)

made : AllByRecursion (λ row. Makes (token_of row) row.5) operator_table
unfolding word_sort symbol_sort same_sort
made = (
  refl,
  (
    refl,
    (
      (refl, refl),
      (
        refl,
        (
          refl,
          (
            refl,
            (
              refl,
              (
                refl,
                (
                  refl,
                  (
                    (refl, λ pattern part negated. refl),
                    (
                      (refl, λ low high part negated. refl),
                      ((refl, λ list part negated. refl), (refl, (refl, (refl, (refl, (refl, ((refl, refl), tt))))))),
                    ),
                  ),
                ),
              ),
            ),
          ),
        ),
      ),
    ),
  ),
)

pub tabled : AreReadByTable
unfolding word_sort symbol_sort same_sort
tabled = record {
  spelled = spelled operator_table split;
  made = made;
  operators = refl;
  rows = refl;
  before = refl;
  fourth = refl;
  operands = refl;
  numbered = refl;
}
