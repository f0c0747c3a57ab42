-- Where of each sublink of a condition the value decides, what is traced for it is its own query; and one sublink more, as code takes them.
use Rattle.std.proofs.Common.{◌≡◌, ℕ, suc, ◌+◌, ◌<◌, ◌≤◌, true, false, not, ◌&&◌, List, [], ◌∷◌, length, drop, get_or, Option, Some, None, refl, sym, ap, ◌∙◌, subst, true≢false, arith}
use Rattle.std.proofs.lemmas.List.{drop_all}
use Rattle.std.specs.List.{list_all}
use Rattle.null_logic.specs.declared.truth.Truth.{Truth}
use Rattle.null_logic.specs.declared.truth.Truth.TheVariants.{True, False, Unknown}
use Rattle.perm_values.proofs.Lists.{dropped}
use Rattle.bag_algebra.proofs.Truths.{left-true, right-true}
use Rattle.bag_algebra.specs.Rewriting.{IsRewrite}
use Rattle.bag_algebra.specs.declared.expr.Expr.{Expr}
use Rattle.bag_algebra.specs.declared.query.Query.{Query}
use Rattle.bag_algebra.specs.declared.query.SubKind.{SubKind}
use Rattle.bag_algebra.specs.declared.query.SubKind.TheVariants.{Exists, Any, All, Scalar}
use Rattle.bag_algebra.specs.declared.query.Sublink.{Sublink}
use Rattle.query_laws.specs.spines.Spines.{is_spine}
use Rattle.rewrite_move.specs.ForcedTruths.{forces}
use Rattle.rewrite_move.specs.Moved.{SubsTraced}
use Rattle.rewrite_move.specs.Shares.{all_by_value, all_dependent, is_by_value, share_of}
use Rattle.rewrite_move.specs.Traced.{below_by}
use Rattle.rewrite_sublink.specs.SubRewritings.{SubsRewritten}

-- ---- its own query

own-below : (query : Query) (kind : SubKind) (known : Option Truth) → is_by_value (share_of kind known) ≡ true → below_by kind query ≡ query
own-below query Exists None e = absurd (true≢false (sym e))
own-below query Exists (Some True) e = absurd (true≢false (sym e))
own-below query Exists (Some False) e = absurd (true≢false (sym e))
own-below query Exists (Some Unknown) e = absurd (true≢false (sym e))
own-below query (Any c) known e = refl
own-below query (All c) known e = refl
own-below query Scalar known e = absurd (true≢false (sym e))

rewritten-own : (condition : Expr) (at : ℕ) (subs : List Sublink) (rewritings : List Query) → all_by_value condition at subs ≡ true →
    SubsTraced subs rewritings → SubsRewritten subs rewritings
rewritten-own condition at [] [] e s = tt
rewritten-own condition at [] (p ∷ ps) e s = absurd s
rewritten-own condition at (sub ∷ subs) [] e s = absurd s
rewritten-own condition at (sub ∷ subs) (p ∷ ps) e s =
    let first = is_by_value (share_of sub.kind (forces condition at)) in
    let others = all_by_value condition (suc at) subs in (
      subst (λ (q : Query). IsRewrite q p) (own-below sub.query sub.kind (forces condition at) (left-true first others e)) s.0,
      rewritten-own condition (suc at) subs ps (right-true first others e) s.1,
    )

pub rewritten-dependent : (condition : Expr) (subs : List Sublink) (given rewritings : List Query) → all_dependent condition subs given ≡ true →
    SubsTraced subs rewritings → SubsRewritten subs rewritings
rewritten-dependent condition subs given rewritings e s =
    rewritten-own condition 0 subs rewritings (left-true (all_by_value condition 0 subs) (list_all (λ rewriting. not (is_spine rewriting)) given) e) s

-- ---- one sublink more

module _ (condition : Expr) (subs : List Sublink) (at : ℕ) (sub : Sublink) (there : at < length subs) (is : sub ≡ get_or subs at sub) where
  taken : all_by_value condition at (drop at subs) ≡ (is_by_value (share_of sub.kind (forces condition at)) && all_by_value condition (suc at) (drop (at + 1) subs))
  taken = ap (all_by_value condition at) (dropped subs at sub there is)

  pub next-by_value : is_by_value (share_of sub.kind (forces condition at)) ≡ true → all_by_value condition at (drop at subs) ≡ all_by_value condition (at + 1) (drop (at + 1) subs)
  next-by_value e =
      let following : suc at ≡ at + 1 = omega arith in
      taken ∙ ap (λ b. b && all_by_value condition (suc at) (drop (at + 1) subs)) e ∙ ap (λ n. all_by_value condition n (drop (at + 1) subs)) following

  pub not-by_value : is_by_value (share_of sub.kind (forces condition at)) ≡ false → all_by_value condition at (drop at subs) ≡ false
  not-by_value e = taken ∙ ap (λ b. b && all_by_value condition (suc at) (drop (at + 1) subs)) e

pub all-taken : (condition : Expr) (subs : List Sublink) (at : ℕ) → length subs ≤ at → all_by_value condition at (drop at subs) ≡ true
all-taken condition subs at h = ap (all_by_value condition at) (drop_all at subs h)
