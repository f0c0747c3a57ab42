-- One step of reading each symbol, as its function takes it.
use Rattle.std.proofs.Common.{◌≡◌, ◌≤◌, ◌<◌, false, List, [], ◌∷◌, length, subst}
use Rattle.sql_lexer.specs.declared.token.Token.{Token}
use Rattle.sql_tree.specs.grammar.Building as b
use Rattle.sql_tree.specs.grammar.Cursors.{reading}
use Rattle.sql_tree.specs.grammar.Descent.{Taken, and_then, mapped, step}
use Rattle.sql_tree.specs.grammar.Grammar.{sql, body, build}
use Rattle.sql_tree.specs.grammar.Lists.{all_of, listed}
use Rattle.sql_tree.specs.grammar.Rules.{symbol}
use Rattle.sql_tree.specs.grammar.Symbols as n
use Rattle.sql_tree.specs.grammar.Symbols.{Symbol, Tree}
use Rattle.sql_tree.specs.grammar.Tables.{empty, sql_tables}
use Rattle.sql_tree.specs.declared.grammar.sort.Sort.TheVariants as s
use Rattle.sql_tree.proofs.Depth.{read-is, read-claims, no_longer, shorter}
use Rattle.sql_tree.proofs.Sound.{Claims}
use Rattle.sql_tree.proofs.TablesHold.{told, has_begins, has_falls}

-- a symbol is read by its rule
pub reading_is : (n : Symbol) (tokens : List Token) → reading n tokens ≡ mapped (build n) (step sql sql_tables reading (body n) tokens)
unfolding reading
reading_is n tokens = read-is sql sql_tables told has_begins has_falls n tokens

-- what is read leaves no more tokens, and fewer where it can't be nothing
pub reading-keeps : (n : Symbol) (old : List Token) (x : Tree n) (new : List Token) → reading n old ≡ Taken x new → length new ≤ length old
unfolding reading
reading-keeps n old x new e =
    no_longer sql sql_tables (symbol n) old new x (subst (Claims sql (symbol n) old) e (read-claims sql sql_tables told n old))

pub reading-takes : (n : Symbol) → empty n ≡ false → (old : List Token) (x : Tree n) (new : List Token) → reading n old ≡ Taken x new → length new < length old
unfolding reading
reading-takes n full old x new e =
    shorter sql sql_tables has_begins (symbol n) old new x full (subst (Claims sql (symbol n) old) e (read-claims sql sql_tables told n old))

-- ---- each symbol

pub create_is : (tokens : List Token) → reading n.Create tokens ≡ mapped (build n.Create) (step sql sql_tables reading (body n.Create) tokens)
create_is tokens = reading_is n.Create tokens

pub create_table_is : (tokens : List Token) → reading n.CreateTable tokens ≡ mapped (build n.CreateTable) (step sql sql_tables reading (body n.CreateTable) tokens)
create_table_is tokens = reading_is n.CreateTable tokens

pub create_view_is : (tokens : List Token) → reading n.CreateView tokens ≡ mapped (build n.CreateView) (step sql sql_tables reading (body n.CreateView) tokens)
create_view_is tokens = reading_is n.CreateView tokens

pub column_is : (tokens : List Token) → reading n.Column tokens ≡ mapped (build n.Column) (step sql sql_tables reading (body n.Column) tokens)
column_is tokens = reading_is n.Column tokens

pub column_kind_is : (tokens : List Token) → reading n.ColumnKind tokens ≡ mapped (build n.ColumnKind) (step sql sql_tables reading (body n.ColumnKind) tokens)
column_kind_is tokens = reading_is n.ColumnKind tokens

pub row_is : (tokens : List Token) → reading n.Row tokens ≡ mapped (build n.Row) (step sql sql_tables reading (body n.Row) tokens)
row_is tokens = reading_is n.Row tokens

pub delete_is : (tokens : List Token) → reading n.Delete tokens ≡ mapped (build n.Delete) (step sql sql_tables reading (body n.Delete) tokens)
delete_is tokens = reading_is n.Delete tokens

pub drop_is : (tokens : List Token) → reading n.Drop tokens ≡ mapped (build n.Drop) (step sql sql_tables reading (body n.Drop) tokens)
drop_is tokens = reading_is n.Drop tokens

pub explain_is : (tokens : List Token) → reading n.Explain tokens ≡ mapped (build n.Explain) (step sql sql_tables reading (body n.Explain) tokens)
explain_is tokens = reading_is n.Explain tokens

pub show_is : (tokens : List Token) → reading n.Show tokens ≡ mapped (build n.Show) (step sql sql_tables reading (body n.Show) tokens)
show_is tokens = reading_is n.Show tokens

pub name_of_is : (tokens : List Token) → reading n.NameOf tokens ≡ mapped (build n.NameOf) (step sql sql_tables reading (body n.NameOf) tokens)
name_of_is tokens = reading_is n.NameOf tokens

pub names_is : (tokens : List Token) → reading n.Names tokens ≡ listed s.Comma (reading n.NameOf) tokens
names_is tokens = reading_is n.Names tokens

pub qualified_is : (tokens : List Token) → reading n.Qualified tokens ≡ mapped (build n.Qualified) (step sql sql_tables reading (body n.Qualified) tokens)
qualified_is tokens = reading_is n.Qualified tokens

pub column_of_is : (tokens : List Token) → reading n.ColumnOf tokens ≡ mapped (build n.ColumnOf) (step sql sql_tables reading (body n.ColumnOf) tokens)
column_of_is tokens = reading_is n.ColumnOf tokens

pub exprs_is : (tokens : List Token) → reading n.Exprs tokens ≡ listed s.Comma (reading n.Expr) tokens
exprs_is tokens = reading_is n.Exprs tokens

pub test_is : (tokens : List Token) → reading n.Test tokens ≡ mapped (build n.Test) (step sql sql_tables reading (body n.Test) tokens)
test_is tokens = reading_is n.Test tokens

pub compared_is : (tokens : List Token) → reading n.Compared tokens ≡ mapped (build n.Compared) (step sql sql_tables reading (body n.Compared) tokens)
compared_is tokens = reading_is n.Compared tokens

pub sum_is : (tokens : List Token) → reading n.Sum tokens
    ≡ mapped b.chain (and_then (reading n.Product tokens) (λ first rest. mapped (λ steps. (first, steps)) (all_of (s.Plus ∷ s.Minus ∷ []) (reading n.SumStep) rest)))
sum_is tokens = reading_is n.Sum tokens

pub sum_step_is : (tokens : List Token) → reading n.SumStep tokens ≡ mapped (build n.SumStep) (step sql sql_tables reading (body n.SumStep) tokens)
sum_step_is tokens = reading_is n.SumStep tokens

pub product_is : (tokens : List Token) → reading n.Product tokens
    ≡ mapped b.chain (and_then (reading n.Sign tokens) (λ first rest. mapped (λ steps. (first, steps)) (all_of (s.Star ∷ s.Slash ∷ s.Percent ∷ []) (reading n.ProductStep) rest)))
product_is tokens = reading_is n.Product tokens

pub product_step_is : (tokens : List Token) → reading n.ProductStep tokens ≡ mapped (build n.ProductStep) (step sql sql_tables reading (body n.ProductStep) tokens)
product_step_is tokens = reading_is n.ProductStep tokens

pub literal_is : (tokens : List Token) → reading n.Literal tokens ≡ mapped (build n.Literal) (step sql sql_tables reading (body n.Literal) tokens)
literal_is tokens = reading_is n.Literal tokens

pub cast_is : (tokens : List Token) → reading n.Cast tokens ≡ mapped (build n.Cast) (step sql sql_tables reading (body n.Cast) tokens)
cast_is tokens = reading_is n.Cast tokens

pub cast_kind_is : (tokens : List Token) → reading n.CastKind tokens ≡ mapped (build n.CastKind) (step sql sql_tables reading (body n.CastKind) tokens)
cast_kind_is tokens = reading_is n.CastKind tokens

pub otherwise_is : (tokens : List Token) → reading n.Otherwise tokens ≡ mapped (build n.Otherwise) (step sql sql_tables reading (body n.Otherwise) tokens)
otherwise_is tokens = reading_is n.Otherwise tokens

pub exists_is : (tokens : List Token) → reading n.Exists tokens ≡ mapped (build n.Exists) (step sql sql_tables reading (body n.Exists) tokens)
exists_is tokens = reading_is n.Exists tokens
