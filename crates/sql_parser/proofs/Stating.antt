-- Statements as their functions read them.
use Rattle.std.proofs.Common.{◌≡◌, ◌≤◌, Bool, true, false, cond, List, [], ◌∷◌, length, Option, Some, None, refl, sym, ap, ◌∙◌, arith}
use Rattle.std.specs.Borrow.{Bor}
use Rattle.sql_lexer.specs.declared.token.Token.{Token}
use Rattle.sql_tree.specs.grammar.Building as b
use Rattle.sql_tree.specs.grammar.Cursors.{reading, one, past, offset, sees}
use Rattle.sql_tree.specs.grammar.Descent.{Parsed, Taken, Stopped, and_then, mapped}
use Rattle.sql_tree.specs.grammar.Grammar.{build}
use Rattle.sql_tree.specs.grammar.Lists.{listed}
use Rattle.sql_tree.specs.grammar.built.Pieces.{passes}
use Rattle.sql_tree.specs.grammar.built.Sequences.{both}
use Rattle.sql_parser.specs.built.Statements.{null, null_field_of, null_seen, statement_body, optional_statement, statements}
use Rattle.sql_tree.specs.grammar.Symbols as n
use Rattle.sql_tree.specs.grammar.Tables.{begins}
use Rattle.sql_tree.specs.declared.grammar.sort.Sort.TheVariants as s
use Rattle.sql_tree.specs.declared.statement.Statement.{Statement}
use Rattle.sql_tree.specs.declared.statement.StatementBody.TheVariants as st
use Rattle.sql_tree.proofs.Outcomes.{fused, pushed, pulled, nested, chosen}
use Rattle.sql_tree.proofs.Steps.{reading_is, reading-keeps}

pub null_field_is : (null : Option (Bor Token)) → b.null_field (null_seen null) ≡ null_field_of null
null_field_is None = refl
null_field_is (Some t) = refl

pub columns_is : (tokens : List Token) → reading n.Columns tokens
    ≡ and_then (past s.Opening tokens) (λ word first. and_then (listed s.Comma (reading n.Column) first) (λ list rest. mapped (λ end. list) (past s.Closing rest)))
columns_is tokens = reading_is n.Columns tokens ∙ simp (fused, pushed, pulled, nested)

pub copy_is : (tokens : List Token) → reading n.Copy tokens
    ≡ and_then (past s.Copy tokens) (λ word first. and_then (reading n.NameOf first) (λ table second. and_then (past s.From second) (λ from third.
    and_then (one (s.Literal ∷ []) third) (λ file fourth. and_then (passes s.Header fourth) (λ header last.
    mapped (λ field. st.Copy table file.spelled header (b.null_field field)) (null last))))))
copy_is tokens = reading_is n.Copy tokens ∙ simp (fused, pushed, pulled, nested)

pub insert_is : (tokens : List Token) → reading n.Insert tokens
    ≡ and_then (past s.Insert tokens) (λ word first. and_then (past s.Into first) (λ into second. and_then (reading n.NameOf second) (λ table third.
    and_then (past s.Values third) (λ values rest. mapped (λ list. st.Insert table list) (listed s.Comma (reading n.Row) rest)))))
insert_is tokens = reading_is n.Insert tokens ∙ simp (fused, pushed, pulled, nested)

pub impact_is : (tokens : List Token) → reading n.Impact tokens
    ≡ and_then (past s.Impact tokens) (λ word first. and_then (both s.Delete s.From first) (λ words second. and_then (reading n.NameOf second) (λ table third.
    and_then (reading n.Condition third) (λ condition fourth. and_then (past s.Of fourth) (λ of last. mapped (λ query. st.Impact table condition query) (reading n.Query last))))))
impact_is tokens = reading_is n.Impact tokens ∙ simp (fused, pushed, pulled, nested)

pub statement_is : (tokens : List Token) → reading n.StatementOf tokens ≡ mapped (λ body. record { at = offset tokens; body = body }) (statement_body tokens)
statement_is tokens =
    reading_is n.StatementOf tokens
    ∙ fused (build n.StatementOf) (λ x. (offset tokens, x)) _
    ∙ sym (fused (λ body. b.statement (offset tokens, body)) (b.one_of (b.one_of (b.one_of (b.one_of (b.one_of (b.one_of (b.one_of (b.one_of st.Select)))))))) _)
    ∙ ap (mapped (λ body. b.statement (offset tokens, body)))
    (chosen (sees (begins n.Create) tokens) _ _ _ _
    (chosen (sees (begins n.Copy) tokens) _ _ _ _
    (chosen (sees (begins n.Insert) tokens) _ _ _ _
    (chosen (sees (begins n.Delete) tokens) _ _ _ _
    (chosen (sees (begins n.Drop) tokens) _ _ _ _
    (chosen (sees (begins n.Explain) tokens) _ _ _ _
    (chosen (sees (begins n.Show) tokens) _ _ _ _
    (chosen (sees (begins n.Impact) tokens) _ _ _ _ refl))))))))

pub script_is : (tokens : List Token) → reading n.ScriptOf tokens ≡ mapped (λ list. record { statements = list }) (statements tokens)
script_is tokens =
    reading_is n.ScriptOf tokens
    ∙ sym (fused (λ (list : List (Option Statement)). record { statements = b.present list }) b.items _)
    ∙ sym (fused (λ list. record { statements = list }) b.present (listed s.Semicolon optional_statement tokens))

pub optional_statement-keeps : (old : List Token) (x : Option Statement) (new : List Token) → optional_statement old ≡ Taken x new → length new ≤ length old
optional_statement-keeps old x new e = by_sort (sees (begins n.StatementOf) old) (reading n.StatementOf old) refl e where
  by_sort : (q : Bool) (o : Parsed Token Statement) → reading n.StatementOf old ≡ o → cond q (mapped Some o) (Taken None old) ≡ Taken x new → length new ≤ length old
  by_sort true (Taken y rest) e f = let g : rest ≡ new = cc in omega (arith, reading-keeps n.StatementOf old y rest e, ap length g)
  by_sort true (Stopped rest) e f = absurd cc
  by_sort false o e f = let g : old ≡ new = cc in omega (arith, ap length g)
