use Rattle.std.proofs.Common.{length, ap, ◌∙◌, arith}
use Rattle.bag_algebra.specs.built.Openings.{kinds_of-Base, kinds_of-Filter, kinds_of-Union, kinds_of-Intersect, kinds_of-Except, kinds_of-Distinct, kinds_of-Limit}
use Rattle.bag_algebra.specs.Kinds.{width_of}
use Rattle.bag_algebra.proofs.Widths.{shape_width, width-Project, width-Join, width-Apply, width-Aggregate, width-Prov}
use Rattle.bag_algebra.proofs.measures.kinds.+width.Goals as goal

pub returns-in-Base : goal.returns-in-Base
returns-in-Base t c =
    omega (arith, ap width_of c.in-Base.is ∙ ap length (kinds_of-Base c.in-Base.input c.in-Base.places c.in-Base.label), ap width_of c.get.ensures)

pub returns-in-Filter : goal.returns-in-Filter
returns-in-Filter t c =
    omega (arith, ap width_of c.in-Filter.is ∙ ap length (kinds_of-Filter c.in-Filter.input c.in-Filter.condition c.in-Filter.subs), ap width_of c.get-in-Filter.ensures)

pub returns-in-Project : goal.returns-in-Project
returns-in-Project t c =
    omega (arith, ap width_of c.in-Project.is ∙ width-Project c.in-Project.input c.in-Project.items c.in-Project.subs)

pub returns-in-Join : goal.returns-in-Join
returns-in-Join t c =
    omega (arith, ap width_of c.in-Join.is ∙ width-Join c.in-Join.kind c.in-Join.left c.in-Join.right c.in-Join.condition c.in-Join.subs, ap width_of c.get-in-Join.ensures, ap width_of c.get-in-Join-2.ensures)

pub returns-in-Union : goal.returns-in-Union
returns-in-Union t c =
    omega (arith, ap width_of c.in-Union.is ∙ ap length (kinds_of-Union c.in-Union.all c.in-Union.left c.in-Union.right), ap width_of c.get-in-Union.ensures)

pub returns-in-Intersect : goal.returns-in-Intersect
returns-in-Intersect t c =
    omega (arith, ap width_of c.in-Intersect.is ∙ ap length (kinds_of-Intersect c.in-Intersect.all c.in-Intersect.left c.in-Intersect.right), ap width_of c.get-in-Intersect.ensures)

pub returns-in-Except : goal.returns-in-Except
returns-in-Except t c =
    omega (arith, ap width_of c.in-Except.is ∙ ap length (kinds_of-Except c.in-Except.all c.in-Except.left c.in-Except.right), ap width_of c.get-in-Except.ensures)

pub returns-in-Distinct : goal.returns-in-Distinct
returns-in-Distinct t c =
    omega (arith, ap width_of c.in-Distinct.is ∙ ap length (kinds_of-Distinct c.in-Distinct.input), ap width_of c.get-in-Distinct.ensures)

pub returns-in-Aggregate : goal.returns-in-Aggregate
returns-in-Aggregate t c =
    omega (arith, ap width_of c.in-Aggregate.is ∙ width-Aggregate c.in-Aggregate.input c.in-Aggregate.groups c.in-Aggregate.aggregates)

pub returns-in-Limit : goal.returns-in-Limit
returns-in-Limit t c =
    omega (arith, ap width_of c.in-Limit.is ∙ ap length (kinds_of-Limit c.in-Limit.input c.in-Limit.keys c.in-Limit.count), ap width_of c.get-in-Limit.ensures)

pub returns-in-Prov : goal.returns-in-Prov
returns-in-Prov t c =
    omega (arith, ap width_of c.in-Prov.is ∙ width-Prov c.in-Prov.input, ap width_of c.get-in-Prov.ensures, ap shape_width c.get-in-Prov-2.ensures)

pub returns-in-Apply : goal.returns-in-Apply
returns-in-Apply t c =
    omega (arith, ap width_of c.in-Apply.is ∙ width-Apply c.in-Apply.kind c.in-Apply.left c.in-Apply.right, ap width_of c.get-in-Apply.ensures, ap width_of c.get-in-Apply-2.ensures)
