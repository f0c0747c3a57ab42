-- The rows that a query doesn't have over what is left of a table: what they are, their columns, form and tables.
use Rattle.std.proofs.Common.{◌≡◌, ℕ, true, false, List, [], sym, ◌∙◌}
use Rattle.perm_values.specs.declared.kind.Kind.{Kind}
use Rattle.perm_values.proofs.Steps.{by}
use Rattle.bag_algebra.proofs.Truths.{both-true}
use Rattle.bag_algebra.specs.Bags.{except_of}
use Rattle.bag_algebra.specs.Kinds.{kinds_of}
use Rattle.bag_algebra.specs.Meaning.{Database, meaning}
use Rattle.bag_algebra.specs.Outcome.{both}
use Rattle.bag_algebra.specs.Rewriting.{is_plain}
use Rattle.bag_algebra.specs.TablesRead.{EachTable}
use Rattle.bag_algebra.specs.WellFormed.{WellFormed}
use Rattle.bag_algebra.specs.built.Forms.{WellFormed-Except, EachTable-Except}
use Rattle.bag_algebra.specs.built.Openings.{meaning-Except, kinds_of-Except}
use Rattle.bag_algebra.specs.built.Scopes.{is_plain-Except}
use Rattle.bag_algebra.specs.declared.expr.Expr.{Expr}
use Rattle.bag_algebra.specs.declared.query.Query.{Query}
use Rattle.bag_algebra.specs.declared.query.Query.TheVariants.{Except}
use Rattle.query_facts.specs.monotone.Monotone.{is_monotone}
use Rattle.delete_impact.specs.reduced.Reduced.{not_true, over_rows, reduced, missing, missing_part}
use Rattle.delete_impact.proofs.reduced.OverRowsForms.{plain-monotone, formed-over_rows, kinds-over_rows, plain-over_rows, tables-over_rows, not_true-on_tables, OnTables}

-- ---- of any two queries

module _ (q others : Query) where
  meaning-beyond : (db : Database) → meaning (Except false q others) db [] ≡ both (except_of false) (meaning q db []) (meaning others db [])
  meaning-beyond db = meaning-Except db [] false q others

  kinds-beyond : kinds_of (Except false q others) ≡ kinds_of q
  kinds-beyond = kinds_of-Except false q others

  plain-beyond : is_plain q ≡ true → is_plain others ≡ true → is_plain (Except false q others) ≡ true
  plain-beyond e f = is_plain-Except false q others ∙ both-true (is_plain q) (is_plain others) e f

  tables-beyond : (P : ℕ → List Kind → Type 0) → EachTable P q → EachTable P others → EachTable P (Except false q others)
  tables-beyond P h k = by (sym (EachTable-Except P false q others)) (h, k)

  formed-beyond : WellFormed [] q → WellFormed [] others → kinds_of q ≡ kinds_of others → WellFormed [] (Except false q others)
  formed-beyond f g e = by (sym (WellFormed-Except [] false q others)) (record { left_side = f; right_side = g; same_kinds = e })

-- ---- of the query, whole or over the rows that go, and of what is left

module _ (id : ℕ) (condition : Expr) (q : Query) where
  abbrev going : Query
  going = over_rows id condition q

  abbrev others : Query
  others = reduced id condition q

  pub meaning-missing : (db : Database) → meaning (missing id condition q) db [] ≡ both (except_of false) (meaning q db []) (meaning others db [])
  meaning-missing = meaning-beyond q others

  pub meaning-missing_part : (db : Database) → meaning (missing_part id condition q) db [] ≡ both (except_of false) (meaning going db []) (meaning others db [])
  meaning-missing_part = meaning-beyond going others

  pub kinds-missing : kinds_of (missing id condition q) ≡ kinds_of q
  kinds-missing = kinds-beyond q others

  pub kinds-missing_part : kinds_of (missing_part id condition q) ≡ kinds_of q
  kinds-missing_part = kinds-beyond going others ∙ kinds-over_rows id condition q

  module _ (m : is_monotone q ≡ true) where
    pub plain-missing : is_plain (missing id condition q) ≡ true
    plain-missing = plain-beyond q others (plain-monotone q m) (plain-over_rows id (not_true condition) q m)

    pub plain-missing_part : is_plain (missing_part id condition q) ≡ true
    plain-missing_part = plain-beyond going others (plain-over_rows id condition q m) (plain-over_rows id (not_true condition) q m)

  module _ (P : ℕ → List Kind → Type 0) (h : EachTable P q) where
    pub tables-missing : EachTable P (missing id condition q)
    tables-missing = tables-beyond q others P h (tables-over_rows id (not_true condition) P q h)

    pub tables-missing_part : EachTable P (missing_part id condition q)
    tables-missing_part = tables-beyond going others P (tables-over_rows id condition P q h) (tables-over_rows id (not_true condition) P q h)

  module _ (on : OnTables id condition q) (f : WellFormed [] q) where
    formed-others : WellFormed [] others
    formed-others = formed-over_rows id (not_true condition) q (not_true-on_tables id condition q on) f

    pub formed-missing : WellFormed [] (missing id condition q)
    formed-missing = formed-beyond q others f formed-others (sym (kinds-over_rows id (not_true condition) q))

    pub formed-missing_part : WellFormed [] (missing_part id condition q)
    formed-missing_part =
        formed-beyond going others (formed-over_rows id condition q on f) formed-others (kinds-over_rows id condition q ∙ sym (kinds-over_rows id (not_true condition) q))
