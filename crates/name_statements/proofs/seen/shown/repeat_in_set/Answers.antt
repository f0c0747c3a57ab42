use Rattle.std.specs.Prelude.{List}
use Rattle.std.proofs.Common.{ap, refl, sym, ◌∙◌}
use Rattle.std.proofs.lemmas.List.{take_all}
use Rattle.name_seen_parts.specs.Columns.{columns_of}
use Rattle.name_meaning.specs.Froms.{names_of, settled_columns}
use Rattle.name_meaning.specs.Statements.{repeats}
use Rattle.name_seen_parts.specs.declared.clauses.column.ShownColumn.{ShownColumn}
use Rattle.name_statements.proofs.Broken.{names-new, names-repeat, shown-behind}
use Rattle.name_statements.proofs.seen.shown.repeat_in_set.Goals as goal

pub loop-column-init : goal.loop-column-init
loop-column-init c = record { names = c.none-names.ensures; apart = refl }

pub returns-then-not-is_new : goal.returns-then-not-is_new
returns-then-not-is_new c =
    sym (names-repeat c.args.columns.now c.loop-column.column-index c.column-item.result c.loop-column.names.known.keys c.in_ok-is_new.is_new
    c.loop-column-test.true c.column-item.is c.loop-column.invariant.names c.in_ok-is_new.ensures.tells c.if-not-is_new.true)

pub loop-column-preserved : goal.loop-column-preserved
loop-column-preserved c =
    let keys = c.loop-column.names.known.keys in
    record {
      names = c.in_ok-is_new.ensures.adds c.if-not-is_new.false
          ∙ shown-behind c.args.columns.now c.loop-column.column-index c.column-item.result keys c.loop-column-test.true c.column-item.is
          c.loop-column.invariant.names;
      apart = names-new c.args.columns.now c.loop-column.column-index c.column-item.result keys c.in_ok-is_new.is_new c.loop-column-test.true
          c.column-item.is c.loop-column.invariant.names c.in_ok-is_new.ensures.tells c.if-not-is_new.false c.loop-column.invariant.apart;
    }

pub returns : goal.returns
returns c =
    sym (ap (λ (columns : List ShownColumn). repeats (names_of (settled_columns (columns_of columns))))
    (sym (take_all c.loop-column.column-index c.args.columns.now c.loop-column-test.false)) ∙ c.loop-column.invariant.apart)
