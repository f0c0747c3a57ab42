use Rattle.std.proofs.Common.{Some, refl}
use Rattle.bag_algebra.specs.Kinds.{shape}
use Rattle.bag_algebra.specs.Meaning.{witnesses}
use Rattle.contribution.proofs.EntriesAtPlaces.{all-at}
use Rattle.bag_algebra.proofs.MembersByIndex.{all-from_in}
use Rattle.contribution.proofs.laws.witnesses.entries_stand_at_their_places.Goals as goal
use Rattle.contribution.specs.HeldRows.{held_rows, StandAt}

pub returns : goal.returns
returns c q db env t =
    all-from_in (StandAt (shape q) (held_rows q db (Some env))) (witnesses q db env t)
    (λ w h. (((all-at q db (Some env) env (record { same = refl })).all t).each w h).stand)
