-- When a join without the columns that stand there twice is a rewriting of a node.
use Rattle.std.proofs.Common.{◌≡◌, ℕ, ◌≤◌, true, List, [], ◌∷◌, ◌++◌, map, length, length-append, sym, ap, ◌∙◌, subst, arith}
use Rattle.perm_values.specs.Rows.{picked}
use Rattle.perm_values.specs.declared.kind.Kind.{Kind}
use Rattle.perm_values.specs.declared.kind.Kind.TheVariants.{Boolean}
use Rattle.bag_algebra.proofs.TablesRead.{reads_among-onward}
use Rattle.bag_algebra.proofs.Truths.{both-true}
use Rattle.bag_algebra.specs.Bags.{Row}
use Rattle.bag_algebra.specs.built.Openings.{Prov-is}
use Rattle.bag_algebra.specs.ColumnItems.{column_items}
use Rattle.bag_algebra.specs.Expressions.{value}
use Rattle.bag_algebra.specs.Kinds.{kinds_of, kinds_in, width_of, shape, place_kinds}
use Rattle.bag_algebra.specs.Meaning.{Database, meaning, witnesses}
use Rattle.bag_algebra.specs.Means.{joined_rows}
use Rattle.bag_algebra.specs.Outcome.{mapped, both_then}
use Rattle.bag_algebra.specs.Rewriting.{IsRewrite, SameSet, is_plain}
use Rattle.bag_algebra.specs.TablesRead.{ReadsAmong}
use Rattle.bag_algebra.specs.WellFormed.{WellFormed, HasKind}
use Rattle.bag_algebra.specs.declared.expr.Expr.{Expr}
use Rattle.bag_algebra.specs.declared.query.JoinKind.{JoinKind}
use Rattle.bag_algebra.specs.declared.query.Query.{Query}
use Rattle.contribution.specs.Fitting.{Fitting}
use Rattle.contribution.proofs.ColumnQueries.{kinds_of-columns, meaning-columns, formed-columns}
use Rattle.contribution.proofs.NodeQueries.{meaning-pairs, formed-pairs, plain-pairs, plain-projected}
use Rattle.rewrite_core.proofs.JoinedOutcomes.{Related, related-from_rewritten, rewritten-from_related}
use Rattle.rewrite_core.proofs.Places.{kept-within}
use Rattle.rewrite_core.specs.rewritings.KeptColumns.{kept_places, pairs_of, columns_kept}
use Rattle.rewrite_core.proofs.BesideLists.{rewritten-from_same, same-from_rewritten}
use Rattle.rewrite_core.specs.rewritings.Rewritten.{Beside}

-- the rows of a rewriting stand beside the lists
pub rewriting-related : (outer : List (List Kind)) (q p : Query) (db : Database) (env : List Row) → Fitting outer q db env → IsRewrite q p →
    Related (Beside (witnesses q db env)) (meaning q db env) (meaning p db env)
rewriting-related outer q p db env f r =
    related-from_rewritten (witnesses q db env) (meaning q db env) (meaning p db env)
    (rewritten-from_same q p db env
    (subst (λ n. SameSet (meaning n db env) (meaning p db env)) (sym (Prov-is q)) (r.rows outer db env f.formed f.tables f.outer_rows)))

-- a plain query that is well formed where the node is, and reads the node's tables alone
pub record Side (n side : Query) : Type 0 where
  pub plain : is_plain side ≡ true
  pub formed : (outer : List (List Kind)) → WellFormed outer n → WellFormed outer side
  pub tables : ReadsAmong side n

-- so is a rewriting of an input of the node
pub rewriting-side : (n q p : Query) → ((outer : List (List Kind)) → WellFormed outer n → WellFormed outer q) → ReadsAmong q n → IsRewrite q p → Side n p
rewriting-side n q p formed among r = record {
  plain = r.plain;
  formed = λ outer w. r.formed outer (formed outer w);
  tables = reads_among-onward p q n r.tables among;
}

pub record Kept (n left right : Query) (kind : JoinKind) (condition : Expr) (kept left_out : ℕ) : Type 0 where
  pub left_side : Side n left
  pub right_side : Side n right
  pub within : kept ≤ width_of left
  pub formed : (outer : List (List Kind)) → WellFormed outer n → HasKind ((kinds_of left ++ kinds_of right) ∷ outer) [] condition Boolean
  pub kinds : (outer : List (List Kind)) → WellFormed outer n →
      kinds_in (kinds_of left ++ kinds_of right) (kept_places kept left_out (length (kinds_of left ++ kinds_of right))) ≡ kinds_of n ++ place_kinds (shape n)
  pub rows : (outer : List (List Kind)) (db : Database) (env : List Row) → Fitting outer n db env →
      Related (Beside (witnesses n db env)) (meaning n db env)
      (mapped (map (picked (kept_places kept left_out (length (kinds_of left ++ kinds_of right)))))
      (both_then (meaning left db env) (meaning right db env) (joined_rows kind (λ u. value condition u env []) (width_of left) (width_of right))))

pub kept-rewrites : (n left right : Query) (kind : JoinKind) (condition : Expr) (kept left_out : ℕ) → Kept n left right kind condition kept left_out →
    IsRewrite n (columns_kept (pairs_of kind left right condition) kept left_out)
kept-rewrites n left right kind condition kept left_out k =
    let pairs = pairs_of kind left right condition in
    let places = kept_places kept left_out (width_of pairs) in
    let p = columns_kept pairs kept left_out in
    let l : Side n left = k.left_side in
    let r : Side n right = k.right_side in
    let wide : kept ≤ width_of pairs = omega (arith, k.within, length-append (kinds_of left) (kinds_of right)) in
    record {
      plain =
          plain-projected pairs (column_items (kinds_of pairs) places)
          ∙ plain-pairs kind left right condition
          ∙ both-true (is_plain left) (is_plain right) l.plain r.plain;
      kinds = λ outer w. kinds_of-columns pairs places ∙ k.kinds outer w;
      formed = λ outer w.
          formed-columns pairs places (kept-within kept left_out (width_of pairs) wide) outer
          (formed-pairs kind left right condition outer (l.formed outer w) (r.formed outer w) (k.formed outer w));
      tables = ((l.tables, r.tables, tt), tt);
      rows = λ outer db env w fitting env_fitting.
          let means = meaning-columns pairs places db env ∙ ap (mapped (map (picked places))) (meaning-pairs kind left right condition db env) in
          subst (λ q. SameSet (meaning q db env) (meaning p db env)) (Prov-is n)
          (same-from_rewritten n p db env
          (rewritten-from_related (witnesses n db env) (meaning n db env) (meaning p db env)
          (subst (λ o. Related (Beside (witnesses n db env)) (meaning n db env) o) (sym means)
          (k.rows outer db env (record { formed = w; tables = fitting; outer_rows = env_fitting })))));
    }
