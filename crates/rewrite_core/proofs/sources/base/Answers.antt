use Rattle.std.proofs.Common.{◌≡◌, [], Result, Ok, Err, List, ℕ, IfOk, sym, ◌∙◌, subst}
use Rattle.perm_values.specs.declared.no_memory.NoMemory.{NoMemory}
use Rattle.bag_algebra.specs.ColumnItems.{column_items}
use Rattle.bag_algebra.specs.Kinds.{kinds_of}
use Rattle.bag_algebra.specs.built.Patterns.{ProjectOf}
use Rattle.bag_algebra.specs.Rewriting.{IsRewrite, Stands}
use Rattle.bag_algebra.specs.declared.query.Label.{Label}
use Rattle.bag_algebra.specs.declared.query.Query.{Query, end_of-Sublink}
use Rattle.bag_algebra.specs.declared.query.Query.TheVariants.{Base}
use Rattle.rewrite_core.proofs.BaseRows.{order_of, rewrite-Base}
use Rattle.rewrite_core.proofs.sources.base.Goals as goal

rewrite-laid : (input : Query) (places order : List ℕ) (result : Result Query NoMemory) → order ≡ order_of input places →
    IfOk result (λ p. (q : Query) → IsRewrite q (ProjectOf input (column_items (kinds_of input) order) [] end_of-Sublink) → IsRewrite q p) →
    IfOk result (λ p. (q : Query) (label : Label) → Stands q input → IsRewrite (Base q places label) p)
rewrite-laid input places order (Ok p) e laid = λ q label stands.
    laid (Base q places label)
    (subst (λ order. IsRewrite (Base q places label) (ProjectOf input (column_items (kinds_of input) order) [] end_of-Sublink)) (sym e)
    (rewrite-Base q input places label stands))
rewrite-laid input places order (Err error) e laid = tt

pub returns-clause-rewrites : goal.returns-clause-rewrites
returns-clause-rewrites c =
    rewrite-laid c.args.input c.args.places.now _ c.with_columns.result (c.as_slice.ensures ∙ c.in-Ok.ensures) c.with_columns.ensures.laid

pub returns-clause-none_open : goal.returns-clause-none_open
returns-clause-none_open c = c.with_columns.ensures.none_open
