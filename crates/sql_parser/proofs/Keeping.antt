-- A list of statements as a loop reads it, which keeps those that are there.
use Rattle.std.proofs.Common.{◌≡◌, true, false, List, [], ◌∷◌, ◌++◌, Option, Some, None, refl, sym, ap, ◌∙◌}
use Rattle.sql_lexer.specs.declared.token.Token.{Token}
use Rattle.sql_tree.specs.grammar.Building.{present}
use Rattle.sql_tree.specs.grammar.Cursors.{past, sees}
use Rattle.sql_tree.specs.grammar.Descent.{Parsed, Taken, Stopped, mapped}
use Rattle.sql_tree.specs.grammar.Lists.{listed}
use Rattle.sql_tree.specs.declared.grammar.sort.Sort.TheVariants.{Semicolon}
use Rattle.sql_tree.proofs.Listing.{Keeps, Amid, Amid-first, Amid-next, Amid-stopped, Amid-done, listed-first}
use Rattle.sql_parser.specs.built.Statements.{optional_statement}
use Rattle.sql_parser.proofs.Stating.{optional_statement-keeps}
use Rattle.sql_tree.specs.declared.statement.Statement.{Statement}

abbrev Whole : Type 0
Whole = Parsed Token (List (Option Statement))

-- the whole is what was found, of which those are kept that are there, and what is still to be read
pub record Keeping (whole : Whole) (kept : List Statement) (ts : List Token) : Type 0 where
  pub found : List (Option Statement)
  pub is : kept ≡ present found
  pub amid : Amid Semicolon optional_statement whole found ts

keeps : Keeps optional_statement
keeps = record { fewer = optional_statement-keeps }

present-next : {X : Type 0} (xs : List (Option X)) (x : Option X) → present (xs ++ x ∷ []) ≡ present xs ++ present (x ∷ [])
present-next [] x = refl
present-next (None ∷ xs) x = present-next xs x
present-next (Some y ∷ xs) x = ap (λ ys. y ∷ ys) (present-next xs x)

pub keeping-first : (ts mid : List Token) (x : Option Statement) → optional_statement ts ≡ Taken x mid
    → Keeping (listed Semicolon optional_statement ts) (present (x ∷ [])) mid
keeping-first ts mid x e = record {
  found = x ∷ [];
  is = refl;
  amid = rw (listed-first Semicolon optional_statement ts mid x e) (Amid-first Semicolon optional_statement x mid);
}

pub keeping-next : (whole : Whole) (kept : List Statement) (ts mid rest : List Token) (x : Option Statement)
    → sees (Semicolon ∷ []) ts ≡ true → past Semicolon ts ≡ Taken tt mid → optional_statement mid ≡ Taken x rest
    → Keeping whole kept ts → Keeping whole (kept ++ present (x ∷ [])) rest
keeping-next whole kept ts mid rest x seen e f keeping = record {
  found = keeping.found ++ x ∷ [];
  is = ap (λ l. l ++ present (x ∷ [])) keeping.is ∙ sym (present-next keeping.found x);
  amid = Amid-next Semicolon optional_statement keeps whole keeping.found ts mid rest x seen e f keeping.amid;
}

pub keeping-stopped : (whole : Whole) (kept : List Statement) (ts mid rest : List Token)
    → sees (Semicolon ∷ []) ts ≡ true → past Semicolon ts ≡ Taken tt mid → optional_statement mid ≡ Stopped rest
    → Keeping whole kept ts → mapped present whole ≡ Stopped rest
keeping-stopped whole kept ts mid rest seen e f keeping =
    ap (mapped present) (Amid-stopped Semicolon optional_statement keeps whole keeping.found ts mid rest seen e f keeping.amid)

pub keeping-done : (whole : Whole) (kept : List Statement) (ts : List Token) → sees (Semicolon ∷ []) ts ≡ false
    → Keeping whole kept ts → mapped present whole ≡ Taken kept ts
keeping-done whole kept ts unseen keeping =
    ap (mapped present) (Amid-done Semicolon optional_statement whole keeping.found ts unseen keeping.amid) ∙ ap (λ l. Taken l ts) (sym keeping.is)
