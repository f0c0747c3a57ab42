-- The candidates of each sublink that are its contributions are a step.
use Rattle.std.proofs.Common.{◌≡◌, true, List, [], ◌∷◌, Option, subst}
use Rattle.bag_algebra.proofs.TablesRead.{reads_among-each}
use Rattle.bag_algebra.proofs.Truths.{left-true, right-true}
use Rattle.bag_algebra.specs.built.Scopes.{all_over_tables}
use Rattle.bag_algebra.specs.Rewriting.{IsRewrite}
use Rattle.bag_algebra.specs.Scoped.{over_tables}
use Rattle.bag_algebra.specs.declared.expr.Expr.{Expr}
use Rattle.bag_algebra.specs.declared.query.Query.{Query}
use Rattle.bag_algebra.specs.declared.query.Sublink.{Sublink}
use Rattle.contribution.proofs.CrossBases.{tables-cross_base}
use Rattle.contribution.specs.CrossBase.{cross_base_of}
use Rattle.query_laws.specs.Standing.{SubStands, SubsStand}
use Rattle.rewrite_sublink.proofs.AllSublinks.{no_step, one_step_more}
use Rattle.rewrite_sublink.proofs.Extending.{reached-contributed}
use Rattle.rewrite_sublink.proofs.Forming.{kinds-contributed, bad-contributed, plain-contributed, tables-contributed, formed-contributed}
use Rattle.rewrite_sublink.proofs.Ready.{Ready, stand_of, base_of}
use Rattle.rewrite_sublink.proofs.Steps.{Step, Steps}
use Rattle.rewrite_sublink.specs.Candidates.{all_contributed, contributed}
use Rattle.rewrite_sublink.specs.SubRewritings.{SubsRewritten}

ready-step : {sub : Sublink} {tested : Option Expr} {s r : Query} (is : Ready sub tested s r) → Step sub (λ rows. contributed rows (base_of is) (stand_of is) r)
ready-step {sub} {tested} {s} {r} is = record {
  kinds = λ scopes rows f. kinds-contributed is rows;
  plain = λ rows plain. plain-contributed is rows plain;
  tables = λ P rows of_rows of_sub.
      tables-contributed is rows P (reads_among-each P s sub.query is.stands.tables of_sub) (reads_among-each P r sub.query is.rewritten.tables of_sub) of_rows
      (reads_among-each P (base_of is) sub.query (tables-cross_base sub.query) of_sub);
  formed = λ columns outer rows more f begins formed. formed-contributed is rows columns outer more f begins formed;
  bad = λ columns outer db env f rows faults bad. bad-contributed is rows db env faults bad;
  good = λ columns outer db env f rows us g values. reached-contributed is f rows us g values;
}

candidate_step : (sub stand : Sublink) (r : Query) → SubStands sub stand → IsRewrite sub.query r → over_tables sub.query ≡ true →
    Step sub (λ rows. contributed rows (cross_base_of sub.query) stand r)
candidate_step sub stand r s rewritten over =
    let is : Ready sub stand.tested stand.query r = record { same = s.tested; stands = s.query; rewritten = rewritten; over = over } in
    let same : record { kind = sub.kind; tested = stand.tested; query = stand.query } ≡ stand =
    λ i. record { kind = s.kind i; tested = stand.tested; query = stand.query } in
    subst (λ made. Step sub (λ rows. contributed rows (cross_base_of sub.query) made r)) same (ready-step is)

pub candidate_steps : (subs standing : List Sublink) (rewritings : List Query) → SubsStand subs standing → SubsRewritten subs rewritings → all_over_tables subs ≡ true →
    Steps subs (λ rows. all_contributed rows subs standing rewritings)
candidate_steps [] [] [] s r over = no_step
candidate_steps [] [] (p ∷ ps) s r over = absurd r
candidate_steps [] (stand ∷ standing) rewritings s r over = absurd s
candidate_steps (sub ∷ subs) [] rewritings s r over = absurd s
candidate_steps (sub ∷ subs) (stand ∷ standing) [] s r over = absurd r
candidate_steps (sub ∷ subs) (stand ∷ standing) (p ∷ ps) s r over =
    one_step_more sub subs (λ rows. contributed rows (cross_base_of sub.query) stand p) (λ rows. all_contributed rows subs standing ps)
    (candidate_step sub stand p s.0 r.0 (left-true (over_tables sub.query) (all_over_tables subs) over))
    (candidate_steps subs standing ps s.1 r.1 (right-true (over_tables sub.query) (all_over_tables subs) over))
