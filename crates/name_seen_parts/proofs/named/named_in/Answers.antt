use Rattle.std.proofs.Common.{◌≡◌, ℕ, cond, ap, sym, ◌∙◌, take, arith}
use Rattle.std.specs.List.{filter}
use Rattle.name_meaning.specs.Scopes.{is_meant, placed}
use Rattle.name_seen_parts.specs.Named.{named_of, with_column}
use Rattle.name_seen_parts.specs.declared.named.Named.{Named}
use Rattle.name_seen_parts.proofs.Matches.{all-before, named-more}
use Rattle.name_seen_parts.proofs.named.named_in.Goals as goal

pub loop-place-init : goal.loop-place-init
loop-place-init c = (c.places_of-first.ensures.within.0, sym (ap named_of (c.places_of-first.ensures.before c.args.name.now)))

pub loop-place-preserved : goal.loop-place-preserved
loop-place-preserved c = (
  omega (arith, c.loop-place-test.true),
  c.with_if-named.ensures
      ∙ ap (λ meant. cond meant (with_column c.loop-place.named c.loop-place.place c.index-columns-place.result.kind) c.loop-place.named) c.is_meant.ensures
      ∙ ap (λ (named : Named). cond (is_meant c.args.item c.args.name.now (c.loop-place.place, c.index-columns-place.result)) (with_column named c.loop-place.place c.index-columns-place.result.kind) named) c.loop-place.invariant.1
      ∙ sym (named-more (is_meant c.args.item c.args.name.now) c.args.scope.now.columns c.loop-place.place c.index-columns-place.result
      (omega (arith, c.loop-place-test.true, c.places_of-first.ensures.within.1)) (rw c.as_slice-columns.ensures at c.index-columns-place.is)),
)

pub returns : goal.returns
returns c =
    let whole : c.loop-place.place ≡ c.places_of-first.result.1 = omega (arith, c.loop-place.invariant.0, c.loop-place-test.false) in
    c.loop-place.invariant.1
    ∙ ap (λ (place : ℕ). named_of (filter (is_meant c.args.item c.args.name.now) (take place (placed c.args.scope.now)))) whole
    ∙ ap named_of (all-before (is_meant c.args.item c.args.name.now) (placed c.args.scope.now) c.places_of-first.result.1 (c.places_of-first.ensures.behind c.args.name.now))
