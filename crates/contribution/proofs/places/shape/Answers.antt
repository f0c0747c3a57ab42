use Rattle.std.proofs.Common.{◌∙◌, ◌++◌, All, Some, sym, ap, refl, subst}
use Rattle.bag_algebra.specs.Kinds.{shape}
use Rattle.bag_algebra.specs.Meaning.{witnesses}
use Rattle.contribution.proofs.EntriesAtPlaces.{all-at}
use Rattle.contribution.proofs.Growth.{denote-longer}
use Rattle.contribution.proofs.ListedRows.{row-listed, contributing_rows-suffice}
use Rattle.bag_algebra.proofs.MembersByIndex.{all-from_in}
use Rattle.contribution.proofs.places.shape.Goals as goal
use Rattle.contribution.specs.HeldRows.{held_rows, StandAt}

pub returns-clause-entries : goal.returns-clause-entries
returns-clause-entries c db env t =
    let places = c.in_ok-add_places.ensures ∙ ap (λ before. before ++ shape c.args.query.now) c.new-places.ensures in
    subst (λ ps. All (StandAt ps (held_rows c.args.query.now db (Some env))) (witnesses c.args.query.now db env t)) (sym places)
    (all-from_in (StandAt (shape c.args.query.now) (held_rows c.args.query.now db (Some env))) (witnesses c.args.query.now db env t)
    (λ w h. (((all-at c.args.query.now db (Some env) env (record { same = refl })).all t).each w h).stand))

pub returns-clause-no_row_lost : goal.returns-clause-no_row_lost
returns-clause-no_row_lost c = row-listed c.args.query.now

pub returns-in_err-add_places-clause-no_row_lost : goal.returns-in_err-add_places-clause-no_row_lost
returns-in_err-add_places-clause-no_row_lost c = row-listed c.args.query.now

pub returns-clause-truth_kept : goal.returns-clause-truth_kept
returns-clause-truth_kept c subs db env u has = contributing_rows-suffice subs db env u

pub returns-in_err-add_places-clause-truth_kept : goal.returns-in_err-add_places-clause-truth_kept
returns-in_err-add_places-clause-truth_kept c subs db env u has = contributing_rows-suffice subs db env u

pub returns-clause-growth : goal.returns-clause-growth
returns-clause-growth c outer db env other = denote-longer outer c.args.query.now db env other

pub returns-in_err-add_places-clause-growth : goal.returns-in_err-add_places-clause-growth
returns-in_err-add_places-clause-growth c outer db env other = denote-longer outer c.args.query.now db env other
