-- The laws of what every regular tree is made to.
use Rattle.std.specs.Prelude.{◌≡◌, ◌<◌, true, List, [], length}
use Rattle.std.proofs.Common.{refl, ap, sym, ◌∙◌, subst}
use Rattle.perm_catalog.specs.Contents.{Contents}
use Rattle.perm_catalog.specs.Sound.{IsSound}
use Rattle.perm_values.specs.declared.kind.Kind.{Kind}
use Rattle.bag_algebra.specs.Closed.{is_closed}
use Rattle.bag_algebra.specs.Kinds.{width_of}
use Rattle.bag_algebra.specs.WellFormed.{WellFormed}
use Rattle.bag_algebra.proofs.Closing.{query_within}
use Rattle.sql_tree.specs.Regular.{IsFilled, RegularExpr, RegularQuery}
use Rattle.sql_tree.specs.declared.expression.ExprTree.{ExprTree}
use Rattle.sql_tree.specs.declared.query.QueryTree.{QueryTree}
use Rattle.name_meaning.specs.Meanings.{Surroundings, Before, Around, means_at, query_means_at, settled}
use Rattle.name_meaning.specs.Trees.{part_of, query_of}
use Rattle.name_meaning.proofs.Trees.{query-known}
use Rattle.name_meaning.specs.laws.Formed.{IsFormedExpr, IsAnswer}
use Rattle.name_meaning.specs.laws.Standing.{RowsHold}
use Rattle.name_meaning.proofs.Filled.{Shown, filled-length}
use Rattle.name_meaning.proofs.FilledTrees.{filled-query}
use Rattle.name_meaning.proofs.Queries.{length-settle}
use Rattle.name_meaning.proofs.FormedTrees.{good-expr, good-query}

pub expr-formed : (c : Contents) (tree : ExprTree) (here : Surroundings) → IsSound c → RegularExpr tree
    → (means_at (part_of c tree) here).breaks ≡ [] → (wanted : Kind) (before : Before)
    → IsFormedExpr here before ((means_at (part_of c tree) here).make wanted before) (settled (means_at (part_of c tree) here).kind wanted)
unfolding means_at
expr-formed c tree here sound regular whole wanted before = (good-expr c sound regular).formed here whole wanted before

pub query-formed : (c : Contents) (tree : QueryTree) (around : Around) → IsSound c → RegularQuery tree
    → (query_means_at (query_of c tree) around).breaks ≡ [] → (rows : List (List Kind)) → RowsHold around.outer rows → (wanted : List Kind)
    → WellFormed rows ((query_means_at (query_of c tree) around).make wanted)
unfolding query_means_at
query-formed c tree around sound regular whole rows hold wanted = (good-query c sound regular around).formed whole rows hold wanted

pub query-closed : (c : Contents) (tree : QueryTree) (around : Around) → IsSound c → RegularQuery tree
    → (query_means_at (query_of c tree) around).breaks ≡ [] → around.outer ≡ [] → (wanted : List Kind)
    → WellFormed [] ((query_means_at (query_of c tree) around).make wanted) × (is_closed ((query_means_at (query_of c tree) around).make wanted) ≡ true)
query-closed c tree around sound regular whole none wanted =
    let query = (query_means_at (query_of c tree) around).make wanted in
    let formed : WellFormed [] query = query-formed c tree around sound regular whole [] (subst (λ scopes. RowsHold scopes []) (sym none) tt) wanted in
    (formed, query_within [] query 0 refl formed)

pub query-answer : (c : Contents) (tree : QueryTree) (around : Around) → IsSound c → RegularQuery tree
    → (query_means_at (query_of c tree) around).breaks ≡ [] → IsAnswer (query_means_at (query_of c tree) around)
unfolding query_means_at
query-answer c tree around sound regular whole =
    let known = query-known c tree around sound whole in
    let good = good-query c sound regular around in
    record {
      columns = known.columns;
      known = known.known;
      named = λ wanted. sym (ap length (known.kinds wanted) ∙ length-settle known.columns wanted);
      keys = λ wanted. good.keys whole wanted;
      places = good.places whole;
    }

pub query-wide : (c : Contents) (tree : QueryTree) (around : Around) → IsSound c → RegularQuery tree
    → (query_means_at (query_of c tree) around).breaks ≡ [] → (wanted : List Kind)
    → 0 < width_of ((query_means_at (query_of c tree) around).make wanted)
unfolding query_means_at
query-wide c tree around sound regular whole wanted =
    let answer : IsAnswer (query_means_at (query_of c tree) around) = query-answer c tree around sound regular whole in
    let filled : IsFilled answer.columns = subst Shown answer.known (filled-query c sound regular around) in
    subst (λ width. 0 < width) (answer.named wanted) (filled-length answer.columns filled)
