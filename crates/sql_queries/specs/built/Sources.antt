-- Items of FROM as they are read.
use Rattle.std.specs.Prelude.{ℕ, Bool, List, [], ◌∷◌, Option}
use Rattle.std.proofs.Common.{inl}
use Rattle.sql_lexer.specs.declared.token.Token.{Token}
use Rattle.sql_tree.specs.grammar.Building as b
use Rattle.sql_tree.specs.grammar.Cursors.{reading, past}
use Rattle.sql_tree.specs.grammar.Descent.{Parsed, and_then, mapped}
use Rattle.sql_tree.specs.grammar.built.Pieces.{by, passes, sees_pair}
use Rattle.sql_tree.specs.grammar.Grammar.{lateral}
use Rattle.sql_tree.specs.grammar.Rules.{word, ◌then◌, symbol}
use Rattle.sql_tree.specs.grammar.Symbols as n
use Rattle.sql_tree.specs.declared.grammar.sort.Sort.TheVariants as s
use Rattle.sql_tree.specs.declared.name.Name.{Name}
use Rattle.sql_tree.specs.declared.source.FromItem.{FromItem}
use Rattle.sql_tree.specs.declared.source.FromSource.{FromSource}
use Rattle.sql_tree.specs.declared.source.JoinStep.{JoinStep}
use Rattle.sql_tree.specs.declared.source.JoinWord.{JoinWord}
use Rattle.sql_tree.specs.declared.source.ScopeMark.TheVariants.{Plain}

-- the name of an inner query, behind the parenthesis that closes it
abbrev pub name_behind : List Token → Parsed Token Name
name_behind tokens = and_then (past s.Closing tokens) (λ _ a. and_then (passes s.As a) (λ _ c. reading n.NameOf c))

-- an item, which was read before, with the mark behind it
abbrev pub marked : ℕ → FromSource × Option Name → List Token → Parsed Token FromItem
marked at (source, alias) tokens = mapped (λ mark. record { at = at; source = source; alias = alias; mark = mark }) (reading n.Mark tokens)

-- whether LATERAL stands next and is no name
abbrev pub sees_lateral : List Token → Bool
sees_lateral tokens = sees_pair (s.Lateral ∷ []) (s.Opening ∷ []) tokens

-- an item that has no mark
abbrev pub unmarked : ℕ → FromSource × Option Name → FromItem
unmarked at (source, alias) = record { at = at; source = source; alias = alias; mark = Plain }

-- an item and the condition on which it is joined
abbrev pub source_on : JoinWord → List Token → Parsed Token JoinStep
source_on operation tokens = mapped (λ v. b.joined_on (operation, v)) (by (symbol n.Source then word s.On then symbol n.Expr) tokens)

-- a lateral item behind LEFT JOIN: all its rows are joined
abbrev pub lateral_on : List Token → Parsed Token JoinStep
lateral_on tokens = mapped (λ v. b.left_joined (inl v)) (by (lateral then word s.On then word s.True) tokens)
