use Rattle.std.proofs.Common.{◌+◌, [], ◌++◌, drop, ap, ◌∙◌, arith}
use Rattle.std.proofs.lemmas.List.{at_drop_all}
use Rattle.bag_algebra.specs.built.Openings.{shape-Prov}
use Rattle.bag_algebra.specs.Children.{inputs_shape, subs_shape}
use Rattle.bag_algebra.specs.Inputs.{given}
use Rattle.bag_algebra.specs.Kinds.{shape}
use Rattle.bag_algebra.proofs.Rest.{from_here}
use Rattle.bag_algebra.proofs.Widths.{places_width, shape_width, places_width-append, shape_width-Base, shape_width-node}
use Rattle.bag_algebra.proofs.measures.kinds.+places_width.Goals as goal

pub places_width-returns-in-Base : goal.places_width-returns-in-Base
places_width-returns-in-Base t c =
    omega (arith, ap shape_width c.in-Base.is ∙ shape_width-Base c.in-Base.input c.in-Base.places c.in-Base.label)

pub places_width-returns-in-Prov : goal.places_width-returns-in-Prov
places_width-returns-in-Prov t c =
    omega (arith, ap shape_width c.in-Prov.is ∙ ap places_width (shape-Prov c.in-Prov.input))

pub places_width-returns-in_default : goal.places_width-returns-in_default
places_width-returns-in_default t c =
    omega (arith, shape_width-node c.args.query.now c.in_default.not-Base c.in_default.not-Prov, ap (λ queries. places_width (inputs_shape queries)) c.inputs.ensures, ap (λ subs. places_width (subs_shape subs)) c.sublinks.ensures)

pub inputs_places_width-returns-in-One : goal.inputs_places_width-returns-in-One
inputs_places_width-returns-in-One t c =
    omega (arith, ap (λ inputs. places_width (inputs_shape (given inputs))) c.in-One.is, places_width-append (shape c.in-One.input.now) [])

pub inputs_places_width-returns-in-Two : goal.inputs_places_width-returns-in-Two
inputs_places_width-returns-in-Two t c =
    omega (arith, ap (λ inputs. places_width (inputs_shape (given inputs))) c.in-Two.is, places_width-append (shape c.in-Two.left.now) (shape c.in-Two.right.now ++ []), places_width-append (shape c.in-Two.right.now) [])

pub subs_places_width-loop-sub-preserved : goal.subs_places_width-loop-sub-preserved
subs_places_width-loop-sub-preserved t c =
    let rest = from_here (λ subs. places_width (subs_shape subs)) c.args.subs.now c.loop-sub.sub-index c.sub-item.result c.loop-sub-test.true c.sub-item.is in
    let joined = places_width-append (shape c.sub-item.result.query) (subs_shape (drop (c.loop-sub.sub-index + 1) c.args.subs.now)) in
    (omega (arith, c.loop-sub.invariant.0, rest, joined), omega arith)

pub subs_places_width-returns : goal.subs_places_width-returns
subs_places_width-returns t c =
    omega (arith, c.loop-sub.invariant.0, c.loop-sub.invariant.1, at_drop_all (λ subs. places_width (subs_shape subs)) c.args.subs.now c.loop-sub.sub-index (omega arith))
