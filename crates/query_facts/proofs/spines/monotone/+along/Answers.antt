use Rattle.std.proofs.Common.{◌≡◌, ◌∷◌, [], refl, sym, ap, arith, ◌∙◌}
use Rattle.bag_algebra.specs.Inputs.{given}
use Rattle.query_facts.proofs.spines.Nodes.{one_input, left_input}
use Rattle.bag_algebra.proofs.Smaller.{first_smaller}
use Rattle.query_facts.proofs.spines.Smaller.{second_smaller}
use Rattle.query_facts.proofs.spines.monotone.+along.Goals as goal

pub down-smaller-in-One : goal.down-smaller-in-One
down-smaller-in-One t c =
    let are = sym c.inputs.ensures ∙ ap given c.in-One.is in
    first_smaller c.down.node.now c.in-One.input.now c.in-One.input.now [] refl are

pub down-preserved-in-One : goal.down-preserved-in-One
down-preserved-in-One t c =
    let are = sym c.inputs.ensures ∙ ap given c.in-One.is in
    let smaller = first_smaller c.down.node.now c.in-One.input.now c.in-One.input.now [] refl are in (
      one_input c.down.node.now c.in-One.input.now (sym c.goes_on.ensures ∙ c.down-test.true) (sym are) ∙ c.down.invariant.0,
      omega (arith, smaller, c.down.invariant.1),
    )

pub is_monotone_along-requires : goal.is_monotone_along-requires
is_monotone_along-requires t c =
    let are = sym c.inputs.ensures ∙ ap given c.in-Two.is in
    omega (arith, second_smaller c.down.node.now c.in-Two.left.now c.in-Two.right.now are, c.down.invariant.1)

pub down-smaller : goal.down-smaller
down-smaller t c =
    let are = sym c.inputs.ensures ∙ ap given c.in-Two.is in
    first_smaller c.down.node.now c.in-Two.left.now c.in-Two.left.now (c.in-Two.right.now ∷ []) refl are

pub down-preserved : goal.down-preserved
down-preserved t c =
    let are = sym c.inputs.ensures ∙ ap given c.in-Two.is in
    let smaller = first_smaller c.down.node.now c.in-Two.left.now c.in-Two.left.now (c.in-Two.right.now ∷ []) refl are in (
      left_input c.down.node.now c.in-Two.left.now c.in-Two.right.now (sym c.goes_on.ensures ∙ c.down-test.true) (sym are)
          (sym c.if-is_monotone_along.true ∙ c.is_monotone_along.ensures) ∙ c.down.invariant.0,
      omega (arith, smaller, c.down.invariant.1),
    )
