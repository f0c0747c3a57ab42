use Rattle.std.proofs.Common.{◌≡◌, ◌++◌, take}
use Rattle.bag_algebra.specs.Children.{subs_shape}
use Rattle.contribution.proofs.places.+shape.Given as goal

abbrev pub invariant-add_sub_places-loop-sub : goal.invariant-add_sub_places-loop-sub
invariant-add_sub_places-loop-sub l = l.found ≡ l.initial.found ++ subs_shape (take l.sub-index l.subs)
