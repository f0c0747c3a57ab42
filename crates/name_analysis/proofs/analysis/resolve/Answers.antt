use Rattle.std.proofs.Common.{sym}
use Rattle.name_seen_parts.proofs.Firsts.{none-broken}
use Rattle.name_statements.specs.Own.{own_breaks}
use Rattle.name_statements.proofs.Owned.{first-told, none-told, own-first}
use Rattle.name_analysis.proofs.analysis.resolve.Goals as goal

pub behind_names-requires : goal.behind_names-requires
behind_names-requires c = record {
  sound = c.requires;
  own = none-broken (own_breaks c.args.catalog.now c.args.statement.body) (tt {0}) (tt {0}) (sym c.in-Ok.ensures);
}

pub returns-in-Err : goal.returns-in-Err
returns-in-Err c = record {
  resolves = own-first c.args.catalog.now c.args.statement.body c.in-Err.first (sym c.in-Err.ensures);
  due = first-told (own_breaks c.args.catalog.now c.args.statement.body) c.in-Err.first (sym c.in-Err.ensures);
}

pub returns-in-Ok : goal.returns-in-Ok
returns-in-Ok c = record {
  resolves = c.behind_names.ensures;
  due = none-told (own_breaks c.args.catalog.now c.args.statement.body) c.behind_names.result
      (none-broken (own_breaks c.args.catalog.now c.args.statement.body) (tt {0}) (tt {0}) (sym c.in-Ok.ensures));
}
