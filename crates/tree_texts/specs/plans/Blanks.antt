-- What a rule gives where no token stands: its options are left out, and what may stand any number of times stands nowhere.
use Rattle.std.specs.Prelude.{[], None}
use Rattle.sql_tree.specs.grammar.Grammar.{SqlRule, Given, body, build}
use Rattle.sql_tree.specs.grammar.Rules.{◌then◌, optional, many, symbol}
use Rattle.sql_tree.specs.grammar.Symbols.{Symbol}

pub data Blank : SqlRule → Type 0 where
  left_out : {r : SqlRule} → Blank (optional r)
  none : {r : SqlRule} → Blank (many r)
  both_blank : {r s : SqlRule} → Blank r → Blank s → Blank (r then s)
  blank_symbol : {n : Symbol} → Blank (body n) → Blank (symbol n)

abbrev pub blank_value : {rule : SqlRule} → Blank rule → Given rule
blank_value left_out = None
blank_value none = []
blank_value (both_blank b c) = (blank_value b, blank_value c)
blank_value (blank_symbol {n = n} b) = build n (blank_value b)
