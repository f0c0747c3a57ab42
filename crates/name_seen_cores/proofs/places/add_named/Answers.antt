use Rattle.std.specs.Prelude.{List, ℕ, Some}
use Rattle.std.proofs.Common.{ap, arith, get_or}
use Rattle.std.proofs.lemmas.List.{get_or_default}
use Rattle.perm_values.specs.declared.kind.Kind.{Kind}
use Rattle.perm_values.specs.declared.kind.Kind.TheVariants as kind
use Rattle.name_seen_cores.proofs.Named.{column_named, named-end, named-step}
use Rattle.name_seen_cores.proofs.places.add_named.Goals as goal

pub loop-at-preserved : goal.loop-at-preserved
loop-at-preserved c =
    let kind_is : Kind = get_or c.args.kinds.now c.loop-at.at kind.Integer in
    named-step c.args.names.now c.args.kinds.now c.loop-at.at c.index-names-at.result kind_is c.loop-at.columns c.push.new.self
    (record { name = c.in_ok-copy.field-0; kind = Some kind_is }) _
    (omega (arith, c.loop-at-test.true, c.min-at-end.ensures)) (omega (arith, c.loop-at-test.true, c.min-at-end.ensures)) c.index-names-at.is
    (get_or_default c.args.kinds.now c.loop-at.at kind.Integer kind_is (omega (arith, c.loop-at-test.true, c.min-at-end.ensures)))
    c.loop-at.invariant c.in_ok-push.ensures.ok (ap (λ (name : List ℕ). column_named name kind_is) c.in_ok-copy.ensures)

pub returns : goal.returns
returns c =
    named-end c.args.names.now c.args.kinds.now c.loop-at.at c.min-at-end.result c.loop-at.columns _ c.min-at-end.ensures c.loop-at-test.false c.loop-at.invariant
