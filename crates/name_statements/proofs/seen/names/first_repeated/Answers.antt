use Rattle.std.specs.Prelude.{List, ◌++◌, ◌∷◌, []}
use Rattle.std.proofs.Common.{ap, refl, sym, ◌∙◌, take}
use Rattle.std.proofs.lemmas.List.{drop_all}
use mathlib.Core.List.{reverse}
use Rattle.name_meaning.specs.Statements.{repeated_columns}
use Rattle.name_meaning.specs.declared.answer.Break.{Break}
use Rattle.name_seen_parts.specs.Seen.{first_or}
use Rattle.name_statements.specs.Earlier.{texts_of}
use Rattle.name_statements.proofs.Broken.{columns-first, columns-step, column-new, column-repeated, texts-behind}
use Rattle.name_statements.proofs.seen.names.first_repeated.Goals as goal

pub loop-column-init : goal.loop-column-init
loop-column-init c = record { names = c.none-names.ensures; rest = refl }

pub returns-then-not-is_new : goal.returns-then-not-is_new
returns-then-not-is_new c =
    sym (ap (λ (breaks : List Break). first_or breaks (tt {0})) c.loop-column.invariant.rest
    ∙ columns-first c.args.columns.now c.loop-column.column-index c.column-item.result _ c.loop-column-test.true c.column-item.is
    (column-repeated (take c.loop-column.column-index c.args.columns.now) c.column-item.result c.loop-column.names.known.keys c.in_ok-is_new.is_new
    c.loop-column.invariant.names c.in_ok-is_new.ensures.tells c.if-not-is_new.true))

pub loop-column-preserved : goal.loop-column-preserved
loop-column-preserved c =
    let before = take c.loop-column.column-index c.args.columns.now in
    record {
      names = c.in_ok-is_new.ensures.adds c.if-not-is_new.false
          ∙ texts-behind c.args.columns.now c.loop-column.column-index c.column-item.result c.loop-column.names.known.keys
          c.loop-column-test.true c.column-item.is c.loop-column.invariant.names;
      rest = c.loop-column.invariant.rest
          ∙ columns-step c.args.columns.now c.loop-column.column-index c.column-item.result c.loop-column-test.true c.column-item.is
          (column-new before c.column-item.result c.loop-column.names.known.keys c.in_ok-is_new.is_new c.loop-column.invariant.names
          c.in_ok-is_new.ensures.tells c.if-not-is_new.false);
    }

pub returns : goal.returns
returns c =
    sym (ap (λ (breaks : List Break). first_or breaks (tt {0})) (c.loop-column.invariant.rest
    ∙ ap (repeated_columns (reverse (texts_of (take c.loop-column.column-index c.args.columns.now))))
    (drop_all c.loop-column.column-index c.args.columns.now c.loop-column-test.false)))
