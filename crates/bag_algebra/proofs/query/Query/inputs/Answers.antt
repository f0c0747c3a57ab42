use Rattle.std.proofs.Common.{[], ◌∷◌, sym, ap, ◌∙◌}
use Rattle.bag_algebra.specs.Inputs.{inputs_of}
use Rattle.bag_algebra.specs.declared.query.Query.{Query}
use Rattle.bag_algebra.specs.declared.query.Query.TheBlock.{shape-the_row-Query-0, hidden-the_row-Query-0}
use Rattle.bag_algebra.proofs.query.Query.inputs.Goals as goal

pub returns-in-Base : goal.returns-in-Base
unfolding shape-the_row-Query-0 hidden-the_row-Query-0 package.denote.Hole.Carrier.hidden
returns-in-Base c = ap (λ (q : Query). q ∷ []) c.get.ensures ∙ sym (ap inputs_of c.in-Base.is)

pub returns-in-Filter : goal.returns-in-Filter
unfolding shape-the_row-Query-0 hidden-the_row-Query-0 package.denote.Hole.Carrier.hidden
returns-in-Filter c = ap (λ (q : Query). q ∷ []) c.get-in-Filter.ensures ∙ sym (ap inputs_of c.in-Filter.is)

pub returns-in-Project : goal.returns-in-Project
unfolding shape-the_row-Query-0 hidden-the_row-Query-0 package.denote.Hole.Carrier.hidden
returns-in-Project c = ap (λ (q : Query). q ∷ []) c.get-in-Project.ensures ∙ sym (ap inputs_of c.in-Project.is)

pub returns-in-Join : goal.returns-in-Join
unfolding shape-the_row-Query-0 hidden-the_row-Query-0 package.denote.Hole.Carrier.hidden
returns-in-Join c = ap (λ (q : Query). q ∷ c.get-in-Join-2.result.now ∷ []) c.get-in-Join.ensures ∙ ap (λ (q : Query). c.in-Join.left ∷ q ∷ []) c.get-in-Join-2.ensures ∙ sym (ap inputs_of c.in-Join.is)

pub returns-in-Apply : goal.returns-in-Apply
unfolding shape-the_row-Query-0 hidden-the_row-Query-0 package.denote.Hole.Carrier.hidden
returns-in-Apply c = ap (λ (q : Query). q ∷ c.get-in-Apply-2.result.now ∷ []) c.get-in-Apply.ensures ∙ ap (λ (q : Query). c.in-Apply.left ∷ q ∷ []) c.get-in-Apply-2.ensures ∙ sym (ap inputs_of c.in-Apply.is)

pub returns-in-Union : goal.returns-in-Union
unfolding shape-the_row-Query-0 hidden-the_row-Query-0 package.denote.Hole.Carrier.hidden
returns-in-Union c = ap (λ (q : Query). q ∷ c.get-in-Union-2.result.now ∷ []) c.get-in-Union.ensures ∙ ap (λ (q : Query). c.in-Union.left ∷ q ∷ []) c.get-in-Union-2.ensures ∙ sym (ap inputs_of c.in-Union.is)

pub returns-in-Intersect : goal.returns-in-Intersect
unfolding shape-the_row-Query-0 hidden-the_row-Query-0 package.denote.Hole.Carrier.hidden
returns-in-Intersect c = ap (λ (q : Query). q ∷ c.get-in-Intersect-2.result.now ∷ []) c.get-in-Intersect.ensures ∙ ap (λ (q : Query). c.in-Intersect.left ∷ q ∷ []) c.get-in-Intersect-2.ensures ∙ sym (ap inputs_of c.in-Intersect.is)

pub returns-in-Except : goal.returns-in-Except
unfolding shape-the_row-Query-0 hidden-the_row-Query-0 package.denote.Hole.Carrier.hidden
returns-in-Except c = ap (λ (q : Query). q ∷ c.get-in-Except-2.result.now ∷ []) c.get-in-Except.ensures ∙ ap (λ (q : Query). c.in-Except.left ∷ q ∷ []) c.get-in-Except-2.ensures ∙ sym (ap inputs_of c.in-Except.is)

pub returns-in-Distinct : goal.returns-in-Distinct
unfolding shape-the_row-Query-0 hidden-the_row-Query-0 package.denote.Hole.Carrier.hidden
returns-in-Distinct c = ap (λ (q : Query). q ∷ []) c.get-in-Distinct.ensures ∙ sym (ap inputs_of c.in-Distinct.is)

pub returns-in-Aggregate : goal.returns-in-Aggregate
unfolding shape-the_row-Query-0 hidden-the_row-Query-0 package.denote.Hole.Carrier.hidden
returns-in-Aggregate c = ap (λ (q : Query). q ∷ []) c.get-in-Aggregate.ensures ∙ sym (ap inputs_of c.in-Aggregate.is)

pub returns-in-Limit : goal.returns-in-Limit
unfolding shape-the_row-Query-0 hidden-the_row-Query-0 package.denote.Hole.Carrier.hidden
returns-in-Limit c = ap (λ (q : Query). q ∷ []) c.get-in-Limit.ensures ∙ sym (ap inputs_of c.in-Limit.is)

pub returns-in-Prov : goal.returns-in-Prov
unfolding shape-the_row-Query-0 hidden-the_row-Query-0 package.denote.Hole.Carrier.hidden
returns-in-Prov c = ap (λ (q : Query). q ∷ []) c.get-in-Prov.ensures ∙ sym (ap inputs_of c.in-Prov.is)
