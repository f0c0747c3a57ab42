use Rattle.bag_algebra.specs.Bags.{once}
use Rattle.query_laws.proofs.Once.{listed}
use Rattle.query_laws.proofs.laws.every_bag_can_be_listed.Goals as goal

pub returns : goal.returns
returns c us = (once us, listed us)
