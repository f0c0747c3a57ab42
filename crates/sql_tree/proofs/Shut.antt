-- An item that begins with a name, a dot and a star is no value, and LATERAL before a parenthesis no table's name.
use Rattle.std.proofs.Common.{◌≡◌, ◌||◌, Bool, true, false, cond, List, [], ◌∷◌, ◌++◌, None, inl, inr, refl, sym, ap, subst, ◌∙◌}
use Rattle.std.specs.List.{list_any}
use Rattle.sql_lexer.specs.declared.token.Token.{Token}
use Rattle.sql_tree.specs.grammar.Building as b
use Rattle.sql_tree.specs.grammar.Rules.{word, token, ◌then◌, ◌or◌, optional, many, placed, symbol}
use Rattle.sql_tree.specs.grammar.Descent.{Parsed, Taken, Stopped, and_then, mapped, start_of, repeated, step, read}
use Rattle.sql_tree.specs.grammar.Grammar.{SqlRule, Given, sql, body, build, in_parentheses, plain_names}
use Rattle.sql_tree.specs.grammar.Sorts.{names, same_sort, sort_of}
use Rattle.sql_tree.specs.grammar.Symbols as n
use Rattle.sql_tree.specs.grammar.Symbols.{Symbol}
use Rattle.sql_tree.specs.grammar.Tables.{begins, sql_tables}
use Rattle.sql_tree.specs.declared.grammar.sort.Sort.{Sort}
use Rattle.sql_tree.specs.declared.grammar.sort.Sort.TheVariants as s
use Rattle.sql_tree.proofs.Begins.{has}
use Rattle.sql_tree.proofs.Depth.{read-is}
use Rattle.sql_tree.proofs.Fine.{apart, apart-law}
use Rattle.sql_tree.proofs.Local.{or_false}
use Rattle.sql_tree.proofs.TablesHold.{told, has_begins, has_falls}
use Rattle.sql_tree.specs.declared.source.FromSource.TheVariants.{Named}
use Rattle.sql_tree.specs.declared.source.ScopeMark.TheVariants.{Plain}

abbrev reads : (r : SqlRule) → List Token → Parsed Token (Given r)
reads r ts = step sql sql_tables (read sql sql_tables) r ts

-- the words of functions
abbrev functions : List Sort
functions = s.Count ∷ s.Sum ∷ s.Min ∷ s.Max ∷ s.Coalesce ∷ s.NullIf ∷ []

abbrev is_one : List Sort → Token → Bool
is_one sorts t = has sql sql_tables sorts t

-- a symbol stops where its rule does
stops_so : (n : Symbol) (ts rest : List Token) → reads (body n) ts ≡ Stopped rest → read sql sql_tables n ts ≡ Stopped rest
stops_so n ts rest e = read-is sql sql_tables told has_begins has_falls n ts ∙ ap (mapped (build n)) e

stops_first : (r s : SqlRule) (ts rest : List Token) → reads r ts ≡ Stopped rest → reads (r then s) ts ≡ Stopped rest
stops_first r s ts rest e = ap (λ o. and_then o (λ x mid. mapped (λ y. (x, y)) (reads s mid))) e

stops_placed : (r : SqlRule) (ts rest : List Token) → reads r ts ≡ Stopped rest → reads (placed r) ts ≡ Stopped rest
stops_placed r ts rest e = rw e refl

-- no token of this sort stands before what stops
stops_behind : (sort : Sort) (r : SqlRule) (t : Token) (ts rest : List Token) → is_one (sort ∷ []) t ≡ false → reads r (t ∷ ts) ≡ Stopped rest → reads (many (word sort) then r) (t ∷ ts) ≡ Stopped rest
unfolding repeated
stops_behind sort r t ts rest other e = rw (other, e) refl

stops_second : (r s : SqlRule) (t : Token) (ts rest : List Token) → is_one (start_of sql sql_tables r) t ≡ false → reads s (t ∷ ts) ≡ Stopped rest → reads (r or s) (t ∷ ts) ≡ Stopped rest
stops_second r s t ts rest other e = rw (other, e) refl

stops_either : (r s : SqlRule) (t : Token) (ts rest : List Token) → (is_one (start_of sql sql_tables r) t ≡ true → reads r (t ∷ ts) ≡ Stopped rest)
    → (is_one (start_of sql sql_tables r) t ≡ false → reads s (t ∷ ts) ≡ Stopped rest) → reads (r or s) (t ∷ ts) ≡ Stopped rest
stops_either r s t ts rest a b = by_test (is_one (start_of sql sql_tables r) t) refl where
  by_test : (c : Bool) → is_one (start_of sql sql_tables r) t ≡ c → cond c (mapped inl (reads r (t ∷ ts))) (mapped inr (reads s (t ∷ ts))) ≡ Stopped rest
  by_test true e = ap (mapped inl) (a e)
  by_test false e = ap (mapped inr) (b e)

none_both : {X : Type 0} (p : X → Bool) (xs ys : List X) → list_any p xs ≡ false → list_any p ys ≡ false → list_any p (xs ++ ys) ≡ false
none_both p [] ys a b = b
none_both p (x ∷ xs) ys a b = by_first (p x) a (λ c. none_both p xs ys c b) where
  by_first : (q : Bool) → q || list_any p xs ≡ false → (list_any p xs ≡ false → list_any p (xs ++ ys) ≡ false) → q || list_any p (xs ++ ys) ≡ false
  by_first true e onward = absurd cc
  by_first false e onward = onward e

-- the alternatives of a primary from one on
abbrev from_null_if : SqlRule
from_null_if = symbol n.NullIf or symbol n.Reference

abbrev from_coalesce : SqlRule
from_coalesce = symbol n.Coalesce or from_null_if

abbrev from_aggregate : SqlRule
from_aggregate = symbol n.Aggregate or from_coalesce

abbrev from_count : SqlRule
from_count = symbol n.Count or from_aggregate

abbrev from_parentheses : SqlRule
from_parentheses = symbol n.Parentheses or from_count

abbrev from_exists : SqlRule
from_exists = symbol n.Exists or from_parentheses

abbrev from_case : SqlRule
from_case = symbol n.Case or from_exists

abbrev from_cast : SqlRule
from_cast = symbol n.Cast or from_case

module _ (t u v : Token) (more : List Token) (name : is_one names t ≡ true) (dot : is_one (s.Dot ∷ []) u ≡ true) (star : is_one (s.Star ∷ []) v ≡ true) where
  -- a name is of no other sort
  no_other : (sorts : List Sort) → apart same_sort sorts names ≡ true → is_one sorts t ≡ false
  no_other sorts away = apart-law sql sql_tables told sorts names t away name

  abbrev ts : List Token
  ts = t ∷ u ∷ v ∷ more

  is_dot : same_sort (sort_of u) s.Dot ≡ true
  is_dot = or_false (same_sort (sort_of u) s.Dot) dot

  no_name : is_one names v ≡ false
  unfolding same_sort
  no_name = apart-law sql sql_tables told names (s.Star ∷ []) v refl star

  no_opening : is_one (s.Opening ∷ []) u ≡ false
  unfolding same_sort
  no_opening = apart-law sql sql_tables told (s.Opening ∷ []) (s.Dot ∷ []) u refl dot

  name-stops : read sql sql_tables n.NameOf (v ∷ more) ≡ Stopped (v ∷ more)
  name-stops = stops_so n.NameOf (v ∷ more) (v ∷ more) (rw no_name refl)

  qualified-stops : read sql sql_tables n.Qualified (u ∷ v ∷ more) ≡ Stopped (v ∷ more)
  qualified-stops = stops_so n.Qualified (u ∷ v ∷ more) (v ∷ more) (rw (is_dot, name-stops) refl)

  called-stops : (sorts : List Sort) (r : SqlRule) → is_one sorts t ≡ true → reads (token sorts then (in_parentheses r or symbol n.Qualified)) (t ∷ u ∷ v ∷ more) ≡ Stopped (v ∷ more)
  called-stops sorts r e = rw (e, no_opening, qualified-stops) refl

  column-stops : is_one plain_names t ≡ true → reads (body n.Reference) (t ∷ u ∷ v ∷ more) ≡ Stopped (v ∷ more)
  column-stops e = rw (e, qualified-stops) refl

  no_function : is_one (s.Count ∷ []) t ≡ false → is_one (s.Sum ∷ s.Min ∷ s.Max ∷ []) t ≡ false → is_one (s.Coalesce ∷ []) t ≡ false → is_one (s.NullIf ∷ []) t ≡ false
      → is_one plain_names t ≡ true
  no_function a b c d = by_test (is_one plain_names t) refl where
    none : is_one functions t ≡ false
    none = none_both (same_sort (sort_of t)) (s.Count ∷ s.Sum ∷ s.Min ∷ s.Max ∷ s.Coalesce ∷ []) (s.NullIf ∷ [])
        (none_both (same_sort (sort_of t)) (s.Count ∷ s.Sum ∷ s.Min ∷ s.Max ∷ []) (s.Coalesce ∷ []) (none_both (same_sort (sort_of t)) (s.Count ∷ []) (s.Sum ∷ s.Min ∷ s.Max ∷ []) a b) c) d

    by_test : (p : Bool) → is_one plain_names t ≡ p → p ≡ true
    by_test true e = refl
    by_test false e = let no : true ≡ false = sym name ∙ none_both (same_sort (sort_of t)) plain_names functions e none in absurd cc

  primary-stops : read sql sql_tables n.Primary (t ∷ u ∷ v ∷ more) ≡ Stopped (v ∷ more)
  unfolding same_sort
  primary-stops =
      stops_so n.Primary ts (v ∷ more) (stops_placed (symbol n.Literal or from_cast) ts (v ∷ more)
      (stops_second (symbol n.Literal) from_cast t (u ∷ v ∷ more) (v ∷ more) (no_other (begins n.Literal) refl)
      (stops_second (symbol n.Cast) from_case t (u ∷ v ∷ more) (v ∷ more) (no_other (begins n.Cast) refl)
      (stops_second (symbol n.Case) from_exists t (u ∷ v ∷ more) (v ∷ more) (no_other (begins n.Case) refl)
      (stops_second (symbol n.Exists) from_parentheses t (u ∷ v ∷ more) (v ∷ more) (no_other (begins n.Exists) refl)
      (stops_second (symbol n.Parentheses) from_count t (u ∷ v ∷ more) (v ∷ more) (no_other (begins n.Parentheses) refl)
      (stops_either (symbol n.Count) from_aggregate t (u ∷ v ∷ more) (v ∷ more) (λ e. stops_so n.Count ts (v ∷ more) (called-stops (s.Count ∷ []) (symbol n.Counted) e)) λ a.
      stops_either (symbol n.Aggregate) from_coalesce t (u ∷ v ∷ more) (v ∷ more) (λ e. stops_so n.Aggregate ts (v ∷ more) (called-stops (s.Sum ∷ s.Min ∷ s.Max ∷ []) (symbol n.Expr) e)) λ b.
      stops_either (symbol n.Coalesce) from_null_if t (u ∷ v ∷ more) (v ∷ more) (λ e. stops_so n.Coalesce ts (v ∷ more) (called-stops (s.Coalesce ∷ []) (symbol n.Exprs) e)) λ c.
      stops_either (symbol n.NullIf) (symbol n.Reference) t (u ∷ v ∷ more) (v ∷ more) (λ e. stops_so n.NullIf ts (v ∷ more) (called-stops (s.NullIf ∷ []) (symbol n.Expr then word s.Comma then symbol n.Expr) e)) λ d.
      stops_so n.Reference ts (v ∷ more) (column-stops (no_function a b c d)))))))))

  -- up to here each level begins with the level below it
  pub value-stops : read sql sql_tables n.ItemValue (t ∷ u ∷ v ∷ more) ≡ Stopped (v ∷ more)
  unfolding same_sort
  value-stops =
      let sign = stops_so n.Sign ts (v ∷ more) (stops_placed (many (word s.Minus) then symbol n.Primary) ts (v ∷ more) (stops_behind s.Minus (symbol n.Primary) t (u ∷ v ∷ more) (v ∷ more) (no_other (s.Minus ∷ []) refl) primary-stops)) in
      let product = stops_so n.Product ts (v ∷ more) (stops_first (symbol n.Sign) (many (symbol n.ProductStep)) ts (v ∷ more) sign) in
      let sum = stops_so n.Sum ts (v ∷ more) (stops_first (symbol n.Product) (many (symbol n.SumStep)) ts (v ∷ more) product) in
      let ranged = stops_so n.Ranged ts (v ∷ more) (stops_first (symbol n.Sum) (optional (optional (word s.Not) then symbol n.Range)) ts (v ∷ more) sum) in
      let compared = stops_so n.Compared ts (v ∷ more) (stops_first (symbol n.Ranged) (optional (symbol n.Comparison)) ts (v ∷ more) ranged) in
      let test = stops_so n.Test ts (v ∷ more) (stops_first (symbol n.Compared) (optional (symbol n.IsTest)) ts (v ∷ more) compared) in
      let negated = stops_so n.Negated ts (v ∷ more) (stops_placed (many (word s.Not) then symbol n.Test) ts (v ∷ more) (stops_behind s.Not (symbol n.Test) t (u ∷ v ∷ more) (v ∷ more) (no_other (s.Not ∷ []) refl) test)) in
      let both = stops_so n.Both ts (v ∷ more) (stops_first (symbol n.Negated) (many (word s.And then symbol n.Negated)) ts (v ∷ more) negated) in
      let expr = stops_so n.Expr ts (v ∷ more) (stops_first (symbol n.Both) (many (word s.Or then symbol n.Both)) ts (v ∷ more) both) in
      stops_so n.ItemValue ts (v ∷ more) (stops_first (symbol n.Expr) (symbol n.Alias) ts (v ∷ more) expr)

-- ---- LATERAL before a parenthesis

or_nothing : (a : Bool) → a || false ≡ false → a ≡ false
or_nothing true e = absurd cc
or_nothing false e = refl

module _ (t u : Token) (more : List Token) (is_word : is_one (s.Lateral ∷ []) t ≡ true) (opening : is_one (s.Opening ∷ []) u ≡ true) where
  is_lateral : sort_of t ≡ s.Lateral
  is_lateral = told.sound (sort_of t) s.Lateral (or_false (same_sort (sort_of t) s.Lateral) is_word)

  is_name : is_one names t ≡ true
  unfolding same_sort
  is_name = subst (λ sort. list_any (same_sort sort) names ≡ true) (sym is_lateral) refl

  -- a parenthesis is of none of these sorts
  unnamed : is_one (s.As ∷ names) u ≡ false
  unfolding same_sort
  unnamed = apart-law sql sql_tables told (s.As ∷ names) (s.Opening ∷ []) u refl opening

  unmarked : is_one (s.BaseRelation ∷ s.Provenance ∷ []) u ≡ false
  unfolding same_sort
  unmarked = apart-law sql sql_tables told (s.BaseRelation ∷ s.Provenance ∷ []) (s.Opening ∷ []) u refl opening

  no_on : is_one (s.On ∷ []) u ≡ false
  unfolding same_sort
  no_on = apart-law sql sql_tables told (s.On ∷ []) (s.Opening ∷ []) u refl opening

  is_no_on : same_sort (sort_of u) s.On ≡ false
  is_no_on = or_nothing (same_sort (sort_of u) s.On) no_on

  reads_so : (n : Symbol) (ts rest : List Token) (v : Given (body n)) → reads (body n) ts ≡ Taken v rest → read sql sql_tables n ts ≡ Taken (build n v) rest
  reads_so n ts rest v e = read-is sql sql_tables told has_begins has_falls n ts ∙ ap (mapped (build n)) e

  name-taken : read sql sql_tables n.NameOf (t ∷ u ∷ more) ≡ Taken (b.name_of t) (u ∷ more)
  name-taken = reads_so n.NameOf (t ∷ u ∷ more) (u ∷ more) t (rw is_name refl)

  no_alias : read sql sql_tables n.Alias (u ∷ more) ≡ Taken None (u ∷ more)
  no_alias = reads_so n.Alias (u ∷ more) (u ∷ more) None (rw unnamed refl)

  no_mark : read sql sql_tables n.Mark (u ∷ more) ≡ Taken Plain (u ∷ more)
  no_mark = reads_so n.Mark (u ∷ more) (u ∷ more) None (rw unmarked refl)

  named-taken : read sql sql_tables n.Aliased (t ∷ u ∷ more) ≡ Taken (Named (b.name_of t), None) (u ∷ more)
  named-taken = reads_so n.Aliased (t ∷ u ∷ more) (u ∷ more) (inl (b.name_of t, None)) (rw (is_name, name-taken, no_alias) refl)

  -- as a source it is a table's name, and the parenthesis is left
  pub source-taken : read sql sql_tables n.Source (t ∷ u ∷ more) ≡ Taken (b.from_item ((t.start, (Named (b.name_of t), None)), Plain)) (u ∷ more)
  source-taken = reads_so n.Source (t ∷ u ∷ more) (u ∷ more) ((t.start, (Named (b.name_of t), None)), Plain) (rw (named-taken, no_mark) refl)

  -- and no ON stands behind it
  pub joined-stops : reads (symbol n.Source then word s.On then symbol n.Expr) (t ∷ u ∷ more) ≡ Stopped (u ∷ more)
  joined-stops = rw (source-taken, is_no_on) refl
