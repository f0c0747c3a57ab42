-- What becomes of an EXPLAIN that breaks no rule.
use Rattle.std.proofs.Common.{◌≡◌, ◌∙◌, ℕ, List, [], ◌∷◌, Ok, Err, refl, ap, subst}
use Rattle.bag_algebra.specs.declared.query.Answer.{Answer}
use Rattle.statement_meaning.specs.explains.Explains.{Explains}
use Rattle.perm_catalog.specs.Contents.{Contents}
use Rattle.sql_tree.specs.declared.statement.Statement.{Statement}
use Rattle.name_meaning.specs.Statements.{breaks, resolved}
use Rattle.name_meaning.specs.declared.answer.Break.{Break}
use Rattle.name_meaning.specs.declared.answer.Resolved.{Resolved}
use Rattle.name_meaning.specs.declared.answer.Resolved.TheVariants as r
use Rattle.statement_meaning.proofs.Asked.{asked-by_breaks}
use Rattle.statement_meaning.specs.Answers.{Files, TakesTurn, can_be}
use Rattle.statement_meaning.specs.Asking.{Asked, Explained, asked, asks, unless_broken}
use Rattle.statement_meaning.specs.declared.refusal.StepRefusal.{StepRefusal}
use Rattle.statement_meaning.specs.declared.refusal.StepRefusal.TheVariants.{NoMemory}
use Rattle.statement_meaning.specs.laws.Asks.{AsksToExplain}

-- ---- what asks for an explanation is an EXPLAIN

same-answer : (c after : Contents) (a b : Answer) → Explained c a ≡ Explained after b → a ≡ b
same-answer c after a b e = cc

explain-of : (c : Contents) (at : ℕ) (made : Resolved) (after : Contents) (answer : Answer) → asks c at made ≡ Explained after answer → made ≡ r.Explain answer
explain-of c at (r.CreateTable name columns) after answer e = absurd (cc e)
explain-of c at (r.CreateTableAs name columns given places) after answer e = absurd (cc e)
explain-of c at (r.CreateView name entry) after answer e = absurd (cc e)
explain-of c at (r.Copy name kinds file null_field header) after answer e = absurd (cc e)
explain-of c at (r.Insert name rows) after answer e = absurd (cc e)
explain-of c at (r.Delete name condition) after answer e = absurd (cc e)
explain-of c at (r.DropTable name) after answer e = absurd (cc e)
explain-of c at (r.DropView name) after answer e = absurd (cc e)
explain-of c at (r.Select given) after answer e = absurd (cc e)
explain-of c at (r.Explain given) after answer e = ap r.Explain (same-answer c after given answer e)
explain-of c at (r.ShowFresh name) after answer e = absurd (cc e)
explain-of c at (r.Impact name condition given) after answer e = absurd (cc e)

unbroken-explained : (bs : List Break) (a : Asked) (after : Contents) (answer : Answer) → unless_broken bs a ≡ Explained after answer → (bs ≡ []) × (a ≡ Explained after answer)
unbroken-explained [] a after answer e = (refl, e)
unbroken-explained (first ∷ more) a after answer e = absurd (cc e)

pub asked-explained : (c : Contents) (statement : Statement) (after : Contents) (answer : Answer) → asked c statement ≡ Explained after answer → AsksToExplain c statement answer
asked-explained c statement after answer e =
    let parts = unbroken-explained (breaks c statement) (asks c statement.at (resolved c statement)) after answer e in
    record { whole = parts.0; is = explain-of c statement.at (resolved c statement) after answer parts.1 }

-- ---- what a call answers

module _ (files : Files) (c new : Contents) (statement : Statement) (answer : Answer) (asked_for : AsksToExplain c statement answer) where
  asks-explained : asked c statement ≡ Explained c answer
  asks-explained = asked-by_breaks c statement [] asked_for.whole ∙ ap (asks c statement.at) asked_for.is

  pub explains : (text : List ℕ) → TakesTurn (can_be files) (asked c statement) c new (Ok text) → Explains c answer text × (new ≡ c)
  explains text h = subst (λ (a : Asked). TakesTurn (can_be files) a c new (Ok text)) asks-explained h

  pub unexplained : (refusal : StepRefusal) → TakesTurn (can_be files) (asked c statement) c new (Err refusal) → (refusal ≡ NoMemory) × (new ≡ c)
  unexplained refusal h = subst (λ (a : Asked). TakesTurn (can_be files) a c new (Err refusal)) asks-explained h
