use Rattle.std.proofs.Common.{subst}
use Rattle.statement_meaning.specs.explains.Explains.{MeansTheSame, read_as}
use Rattle.statement_meaning.proofs.SameMeanings.{same-sym, same-trans, one_query}
use Rattle.statement_meaning.proofs.explains.a_text_explains_one_meaning.Goals as goal

pub returns : goal.returns
returns c = λ contents answer other text a b.
    let means = subst (λ tree. MeansTheSame contents answer (read_as contents tree)) (one_query text a.start b.start a.tree b.tree a.spelled b.spelled) a.means in
    same-trans contents answer (read_as contents b.tree) other means (same-sym contents other (read_as contents b.tree) b.means)
