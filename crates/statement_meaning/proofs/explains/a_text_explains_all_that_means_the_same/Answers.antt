use Rattle.statement_meaning.specs.explains.Explains.{read_as}
use Rattle.statement_meaning.proofs.SameMeanings.{same-trans}
use Rattle.statement_meaning.proofs.explains.a_text_explains_all_that_means_the_same.Goals as goal

pub returns : goal.returns
returns c = λ contents answer other text same explains. record {
  start = explains.start;
  tree = explains.tree;
  spelled = explains.spelled;
  plain = explains.plain;
  front = explains.front;
  ended = explains.ended;
  tables = explains.tables;
  whole = explains.whole;
  plainly = explains.plainly;
  means = same-trans contents other answer (read_as contents explains.tree) same explains.means;
}
