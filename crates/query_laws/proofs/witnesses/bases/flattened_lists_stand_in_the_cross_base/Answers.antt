use Rattle.contribution.proofs.ListsInBases.{lists-in_cross_base}
use Rattle.query_laws.proofs.witnesses.bases.flattened_lists_stand_in_the_cross_base.Goals as goal

pub returns : goal.returns
returns c q db env other t w e h = lists-in_cross_base q e db env other t w h
