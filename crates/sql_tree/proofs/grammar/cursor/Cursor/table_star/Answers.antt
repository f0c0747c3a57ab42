use Rattle.std.proofs.Common.{rules}
use Rattle.sql_tree.proofs.Sequenced.{table_star_is}
use Rattle.sql_tree.proofs.grammar.cursor.Cursor.table_star.Goals as goal

pub returns-in_err-token-clause-given : goal.returns-in_err-token-clause-given
returns-in_err-token-clause-given c = rw (table_star_is c.args.self.now) (search rules)

pub returns-in_err-past_both-clause-given : goal.returns-in_err-past_both-clause-given
returns-in_err-past_both-clause-given c = rw (table_star_is c.args.self.now) (search rules)

pub returns-clause-given : goal.returns-clause-given
returns-clause-given c = rw (table_star_is c.args.self.now) (search rules)
