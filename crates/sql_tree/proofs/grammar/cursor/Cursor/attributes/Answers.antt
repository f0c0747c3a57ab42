use Rattle.std.proofs.Common.{rules}
use Rattle.sql_tree.proofs.Sequenced.{attributes_is}
use Rattle.sql_tree.proofs.grammar.cursor.Cursor.attributes.Goals as goal

pub returns-in_err-past_both-clause-given : goal.returns-in_err-past_both-clause-given
returns-in_err-past_both-clause-given c = rw (attributes_is c.args.self.now) (search rules)

pub returns-in_err-attributes-clause-given : goal.returns-in_err-attributes-clause-given
returns-in_err-attributes-clause-given c = rw (attributes_is c.args.self.now) (search rules)

pub returns-clause-given : goal.returns-clause-given
returns-clause-given c = rw (attributes_is c.args.self.now) (search rules)
