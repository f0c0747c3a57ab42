-- Sublinks that stand for others, and rewritings of their queries, one more at the end.
use Rattle.std.proofs.Common.{◌≡◌, List, [], ◌∷◌, ◌++◌, All, sym, subst}
use Rattle.std.proofs.lemmas.List.Elements.{All-nil, All-head, All-tail, All-push}
use Rattle.bag_algebra.specs.Rewriting.{IsRewrite}
use Rattle.bag_algebra.specs.declared.query.Query.{Query}
use Rattle.bag_algebra.specs.declared.query.Sublink.{Sublink}
use Rattle.query_facts.proofs.AlikeRows.{all-first}
use Rattle.query_laws.specs.Standing.{SubStands}
use Rattle.query_laws.proofs.StandingSublinks.{stand-more}
use Rattle.rewrite_core.specs.rewritings.OpenSublinks.{IsClosedSublink, NoOpenSublink}
use Rattle.rewrite_driver.specs.KeptClosed.{RewritesClosed, SubsStandClosed, SubsTracedClosed}
use Rattle.rewrite_move.proofs.ClosedMoves.{traced-closed}
use Rattle.rewrite_move.specs.Moved.{SubsTraced}
use Rattle.rewrite_move.specs.Traced.{traced_of}

rewritten-more : (subs : List Sublink) (rewritings : List Query) (sub : Sublink) (p : Query) → SubsTraced subs rewritings → IsRewrite (traced_of sub) p →
    SubsTraced (subs ++ sub ∷ []) (rewritings ++ p ∷ [])
rewritten-more [] [] sub p s t = (t, tt)
rewritten-more [] (rewriting ∷ rewritings) sub p s t = absurd s
rewritten-more (first ∷ subs) [] sub p s t = absurd s
rewritten-more (first ∷ subs) (rewriting ∷ rewritings) sub p s t = (s.0, rewritten-more subs rewritings sub p s.1 t)

-- ---- without an open sublink where there was none

all-last : {X : Type 0} (P : X → Type 0) (xs : List X) (x : X) → All P (xs ++ x ∷ []) → P x
all-last P [] x h = All-head P x [] h
all-last P (y ∷ xs) x h = all-last P xs x (All-tail P y (xs ++ x ∷ []) h)

pub kept-none : (others : List Sublink) → others ≡ [] → SubsStandClosed [] others
kept-none others e = subst (SubsStandClosed []) (sym e) (record { stand = tt; none_open = λ h. h })

pub kept-more : (subs others : List Sublink) (sub other : Sublink) → SubsStandClosed subs others → SubStands sub other →
    (NoOpenSublink sub.query → NoOpenSublink other.query) → SubsStandClosed (subs ++ sub ∷ []) (others ++ other ∷ [])
kept-more subs others sub other s t inner = record {
  stand = stand-more subs others sub other s.stand t;
  none_open = λ h.
      let own = all-last IsClosedSublink subs sub h in
      All-push IsClosedSublink others other (s.none_open (all-first IsClosedSublink subs (sub ∷ []) h))
      (record { closed = t.query.formed [] own.closed; inside = inner own.inside });
}

pub traced-none : (rewritings : List Query) → rewritings ≡ [] → SubsTracedClosed [] rewritings
traced-none rewritings e = subst (SubsTracedClosed []) (sym e) (record { traced = tt; none_open = λ h. All-nil NoOpenSublink })

pub traced-more : (subs : List Sublink) (rewritings : List Query) (sub : Sublink) (p : Query) → SubsTracedClosed subs rewritings → RewritesClosed (traced_of sub) p →
    SubsTracedClosed (subs ++ sub ∷ []) (rewritings ++ p ∷ [])
traced-more subs rewritings sub p s t = record {
  traced = rewritten-more subs rewritings sub p s.traced t.rewrites;
  none_open = λ h.
      let own = all-last IsClosedSublink subs sub h in
      All-push NoOpenSublink rewritings p (s.none_open (all-first IsClosedSublink subs (sub ∷ []) h)) (t.none_open (traced-closed sub own.inside));
}
