use Rattle.std.proofs.Common.{◌≡◌, ◌↔◌, ◌++◌, ◌∙◌, List, Contains, IfOk, IsTrue, ap, subst}
use Rattle.perm_values.specs.declared.kind.Kind.{Kind}
use Rattle.bag_algebra.specs.Bags.{Row, Bag, member}
use Rattle.bag_algebra.specs.TablesRead.{ReadsAmong}
use Rattle.bag_algebra.specs.Kinds.{kinds_of, shape, place_kinds}
use Rattle.bag_algebra.specs.Meaning.{Database, meaning, witnesses}
use Rattle.bag_algebra.specs.Means.{Witness, flat}
use Rattle.bag_algebra.specs.Outcome.{Good}
use Rattle.bag_algebra.specs.Rewriting.{is_plain}
use Rattle.bag_algebra.specs.WellFormed.{WellFormed}
use Rattle.bag_algebra.specs.declared.query.Query.TheVariants.{Single}
use Rattle.std.specs.Prelude.{None}
use Rattle.contribution.proofs.NodeQueries.{of_made}
use Rattle.contribution.proofs.CrossBases.{kinds_of-cross_base, meaning-cross_base, formed-cross_base, plain-cross_base, tables-cross_base}
use Rattle.contribution.proofs.CrossedRows.{FlatAt}
use Rattle.contribution.proofs.ListsInBases.{lists-in_cross_base}
use Rattle.contribution.proofs.cross.cross_base.Goals as goal
use Rattle.contribution.specs.CrossBase.{table_sources, crossed, cross_base_of}
use Rattle.contribution.specs.HeldRows.{held_rows}

pub returns-clause-made : goal.returns-clause-made
returns-clause-made c =
    subst (λ sources. IfOk c.crossed.result (λ p. p ≡ crossed sources Single))
    (c.as_slice.ensures ∙ c.in_ok-add_sources.ensures ∙ ap (λ before. before ++ table_sources c.args.query.now) c.new-sources.ensures) c.crossed.ensures

pub returns-clause-kinds : goal.returns-clause-kinds
returns-clause-kinds c =
    of_made (λ p. kinds_of p ≡ place_kinds (shape c.args.query.now)) c.crossed.result (cross_base_of c.args.query.now) (returns-clause-made c)
    (kinds_of-cross_base c.args.query.now c.requires)

pub returns-clause-rows : goal.returns-clause-rows
returns-clause-rows c =
    of_made (λ p. (db : Database) (env : List Row) → (found : Bag) × (meaning p db env ≡ Good found) ×
    ((u : Row) → IsTrue (member u found) ↔ FlatAt (shape c.args.query.now) (held_rows c.args.query.now db None) u))
    c.crossed.result (cross_base_of c.args.query.now) (returns-clause-made c) (meaning-cross_base c.args.query.now c.requires)

pub returns-clause-lists : goal.returns-clause-lists
returns-clause-lists c =
    of_made (λ p. (db : Database) (env other : List Row) (t : Row) (w : Witness) → Contains (witnesses c.args.query.now db env t) w →
    (found : Bag) × (meaning p db other ≡ Good found) × IsTrue (member (flat w) found))
    c.crossed.result (cross_base_of c.args.query.now) (returns-clause-made c) (lists-in_cross_base c.args.query.now c.requires)

pub returns-clause-formed : goal.returns-clause-formed
returns-clause-formed c =
    of_made (λ p. (outer other : List (List Kind)) → WellFormed outer c.args.query.now → WellFormed other p)
    c.crossed.result (cross_base_of c.args.query.now) (returns-clause-made c) (formed-cross_base c.args.query.now)

pub returns-clause-plain : goal.returns-clause-plain
returns-clause-plain c =
    of_made (λ p. IsTrue (is_plain p)) c.crossed.result (cross_base_of c.args.query.now) (returns-clause-made c) (plain-cross_base c.args.query.now)

pub returns-clause-tables : goal.returns-clause-tables
returns-clause-tables c =
    of_made (λ p. ReadsAmong p c.args.query.now)
    c.crossed.result (cross_base_of c.args.query.now) (returns-clause-made c) (tables-cross_base c.args.query.now)
