-- Worked examples of what explains nothing: a view may hide what is asked.
use Rattle.std.specs.Prelude.{◌≡◌, true, false, ◌&&◌, [], ◌∷◌, codes}
use Rattle.std.proofs.Common.{ap, refl, ◌∙◌}
use Rattle.bag_algebra.specs.Rewriting.{is_plain}
use Rattle.bag_algebra.specs.built.Scopes.{is_plain-Base, is_plain-Project, is_plain-Prov}
use Rattle.bag_algebra.specs.declared.query.Label.TheVariants.{External}
use Rattle.bag_algebra.specs.declared.query.Query.TheVariants.{Base, Prov}
use Rattle.name_meaning.specs.Meanings.{broken}
use Rattle.name_meaning.specs.Statements.{name_breaks}
use Rattle.name_meaning.specs.declared.rule.Rule.TheVariants as rule
use Rattle.name_meaning.proofs.Equations.{tree_equations, token-given}
use Rattle.sql_tree.specs.declared.statement.StatementBody.TheVariants as st
use Rattle.statement_meaning.specs.explains.Explains.{read_as}
use Rattle.worked_examples.specs.NamedCatalog.{contents, a_of_r}
use Rattle.worked_examples.specs.NamedTrees.{number, table, from, item, select, core, query}
use Rattle.worked_examples.proofs.ResolvedItems.{item_view_of_provenance}

-- a query that names a view breaks a rule where there are none but the tables: SELECT 1 FROM v
pub view_named :
    name_breaks (record contents { views = [] }) (st.Select (query 0 (core (select 0 (item (number 7 1) ∷ []) (from (table 14 (codes "v")) [] ∷ [])))))
    ≡ broken rule.UnknownRelation 14 ∷ []
view_named = simp (tree_equations, name_breaks) (rw token-given refl)

-- over a view that is made with PROVENANCE no query is plain, though the word isn't in it: SELECT 1 FROM w
pub provenance_hidden :
    is_plain (read_as contents (query 0 (core (select 0 (item (number 7 1) ∷ []) (from (table 14 (codes "w")) [] ∷ []))))).query ≡ false
provenance_hidden =
    let source = Base (Prov a_of_r) (1 ∷ 2 ∷ []) (External (codes "prov_r_a" ∷ codes "prov_r_b" ∷ [])) in
    ap is_plain item_view_of_provenance ∙ is_plain-Project source _ []
    ∙ ap (λ plain. plain && true) (is_plain-Base (Prov a_of_r) (1 ∷ 2 ∷ []) (External (codes "prov_r_a" ∷ codes "prov_r_b" ∷ [])) ∙ is_plain-Prov a_of_r)
