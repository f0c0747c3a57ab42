use Rattle.std.proofs.Common.{◌≡◌, sym, subst, ◌∙◌}
use Rattle.perm_values.proofs.Results.{where_made}
use Rattle.bag_algebra.specs.Kinds.{width_of}
use Rattle.bag_algebra.specs.declared.query.Query.{Query}
use Rattle.lateral_rewrite.specs.Dependent.{contributed, provenance_of}
use Rattle.rewrite_move.proofs.MovedRows.{StandBeside, all-moved, moved-as, nulls-like, stand_beside}
use Rattle.rewrite_move.proofs.contributions.with_contribution.Goals as goal
use Rattle.rewrite_move.specs.Moved.{Like, beside_nulls, matched, moved, provenance_kinds}
use Rattle.rewrite_move.specs.Traced.{query_from}
use Rattle.rewrite_move.specs.declared.share.Share.TheVariants.{NoRow, AllRows, MatchingRows, ByValue}

pub returns-in-NoRow : goal.returns-in-NoRow
returns-in-NoRow c whole l =
    where_made (λ p. p ≡ beside_nulls c.args.rows (provenance_kinds c.args.rewriting.now (width_of c.query_from.result.now)))
    (Like (moved c.args.origin c.args.known whole c.args.sub.now c.args.standing.now c.args.rewriting.now)) c.beside_nothing.result
    (λ p is. moved-as c.args.origin c.args.sub.now c.args.standing.now c.args.rewriting.now c.args.known whole p NoRow (sym c.share_of.ensures ∙ c.in-NoRow.is)
    (subst (Like (beside_nulls whole (provenance_kinds c.args.rewriting.now (width_of (query_from c.args.origin c.args.sub.now)))))
    (sym (subst (λ (q : Query). p ≡ beside_nulls c.args.rows (provenance_kinds c.args.rewriting.now (width_of q))) c.query_from.ensures is))
    (nulls-like whole c.args.rows l (provenance_kinds c.args.rewriting.now (width_of (query_from c.args.origin c.args.sub.now))))))
    c.beside_nothing.ensures

pub returns-in-AllRows : goal.returns-in-AllRows
returns-in-AllRows c whole l =
    where_made (StandBeside c.args.rows (provenance_of c.args.rewriting.now (width_of c.query_from-in-AllRows.result.now)))
    (Like (moved c.args.origin c.args.known whole c.args.sub.now c.args.standing.now c.args.rewriting.now)) c.beside_all.result
    (λ p is. moved-as c.args.origin c.args.sub.now c.args.standing.now c.args.rewriting.now c.args.known whole p AllRows (sym c.share_of.ensures ∙ c.in-AllRows.is)
    (all-moved whole c.args.rows l c.args.rewriting.now c.requires.given.plain p (width_of (query_from c.args.origin c.args.sub.now))
    (subst (λ (q : Query). StandBeside c.args.rows (provenance_of c.args.rewriting.now (width_of q)) p) c.query_from-in-AllRows.ensures is)))
    (stand_beside c.args.rows (provenance_of c.args.rewriting.now (width_of c.query_from-in-AllRows.result.now)) c.beside_all.result c.beside_all.ensures.beside
    c.beside_all.ensures.joined)

pub returns-in-MatchingRows : goal.returns-in-MatchingRows
returns-in-MatchingRows c whole l =
    where_made (Like (matched c.in-MatchingRows.choice c.args.standing.now.tested whole c.args.standing.now c.args.rewriting.now))
    (Like (moved c.args.origin c.args.known whole c.args.sub.now c.args.standing.now c.args.rewriting.now)) c.beside_matched.result
    (λ p like. moved-as c.args.origin c.args.sub.now c.args.standing.now c.args.rewriting.now c.args.known whole p (MatchingRows c.in-MatchingRows.choice)
    (sym c.share_of.ensures ∙ c.in-MatchingRows.is) like) (c.beside_matched.ensures whole l)

pub returns-in-ByValue : goal.returns-in-ByValue
returns-in-ByValue c whole l =
    where_made (Like (contributed whole c.args.standing.now c.args.rewriting.now))
    (Like (moved c.args.origin c.args.known whole c.args.sub.now c.args.standing.now c.args.rewriting.now)) c.beside_compared.result
    (λ p like. moved-as c.args.origin c.args.sub.now c.args.standing.now c.args.rewriting.now c.args.known whole p ByValue (sym c.share_of.ensures ∙ c.in-ByValue.is) like)
    (c.beside_compared.ensures whole l)
