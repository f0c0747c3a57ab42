use Rattle.std.proofs.Common.{◌≡◌, ℕ, ◌+◌, ◌^◌, sym, ap, ◌∙◌, subst, arith}
use Rattle.bag_algebra.specs.built.Openings.{Base-is, Join-is, Apply-is, Union-is, Intersect-is, Except-is, Distinct-is, Limit-is, Prov-is}
use Rattle.row_nodes.specs.Keeping.{Leads, better, keyed_at}
use Rattle.row_nodes.proofs.Leading.{leaf_leads, below_filter, filter_leads, below_over, over_leads}
use Rattle.row_nodes.proofs.Kept.{project_top, project_below, aggregate_top, aggregate_below}
use Rattle.row_nodes.proofs.keeping.+least.Goals as goal

last : (depth : ℕ) → depth ≡ 18446744073709551615 → depth + 1 ≡ 18446744073709551616
last depth e = omega arith

pub returns-then-depth-eq18446744073709551615 : goal.returns-then-depth-eq18446744073709551615
returns-then-depth-eq18446744073709551615 t c = λ top below leads.
    subst (Leads top (2 ^ 64)) (sym c.better-best.ensures)
    (subst (λ k. Leads top k (better c.args.best c.args.depth c.input_reach-reach.result)) (last c.args.depth c.if-depth-eq18446744073709551615.true)
    (filter_leads top c.args.query.now c.args.depth below c.args.best leads c.in-Filter.input c.in-Filter.condition c.in-Filter.subs c.in-Filter.is c.input_reach-reach.result (let e = c.reach.ensures in omega arith)
    (λ n e. let h = c.input_reach-reach.ensures.some n e in (h.0, sym c.as_slice.ensures ∙ h.1, rw c.get.ensures at h.2))
    (rw (c.get.ensures, c.as_slice.ensures) at c.input_reach-reach.ensures.none)))

pub returns-else-depth-eq18446744073709551615 : goal.returns-else-depth-eq18446744073709551615
returns-else-depth-eq18446744073709551615 t c = λ top below leads.
    c.least.ensures top
    (λ d. below_filter top c.args.query.now c.args.depth below c.args.best leads c.in-Filter.input c.in-Filter.condition c.in-Filter.subs c.in-Filter.is d ∙ ap (λ q. keyed_at q d) (sym c.get-in-Filter.ensures))
    (subst (Leads top (c.args.depth + 1)) (sym c.better-best.ensures)
    (filter_leads top c.args.query.now c.args.depth below c.args.best leads c.in-Filter.input c.in-Filter.condition c.in-Filter.subs c.in-Filter.is c.input_reach-reach.result (let e = c.reach.ensures in omega arith)
    (λ n e. let h = c.input_reach-reach.ensures.some n e in (h.0, sym c.as_slice.ensures ∙ h.1, rw c.get.ensures at h.2))
    (rw (c.get.ensures, c.as_slice.ensures) at c.input_reach-reach.ensures.none)))

pub returns-then-depth-eq18446744073709551615-2 : goal.returns-then-depth-eq18446744073709551615-2
returns-then-depth-eq18446744073709551615-2 t c = λ top below leads.
    subst (λ k. Leads top k c.args.best) (last c.args.depth c.if-depth-eq18446744073709551615-2.true)
    (over_leads top c.args.query.now c.args.depth below c.args.best leads c.in-Project.input (project_top c.args.query.now c.in-Project.input c.in-Project.items c.in-Project.subs c.in-Project.is) (project_below c.args.query.now c.in-Project.input c.in-Project.items c.in-Project.subs c.in-Project.is))

pub returns-else-depth-eq18446744073709551615-2 : goal.returns-else-depth-eq18446744073709551615-2
returns-else-depth-eq18446744073709551615-2 t c = λ top below leads.
    c.least-in-Project.ensures top
    (λ d. below_over top c.args.query.now c.args.depth below c.args.best leads c.in-Project.input (project_top c.args.query.now c.in-Project.input c.in-Project.items c.in-Project.subs c.in-Project.is) (project_below c.args.query.now c.in-Project.input c.in-Project.items c.in-Project.subs c.in-Project.is) d ∙ ap (λ q. keyed_at q d) (sym c.get-in-Project.ensures))
    (over_leads top c.args.query.now c.args.depth below c.args.best leads c.in-Project.input (project_top c.args.query.now c.in-Project.input c.in-Project.items c.in-Project.subs c.in-Project.is) (project_below c.args.query.now c.in-Project.input c.in-Project.items c.in-Project.subs c.in-Project.is))

pub returns-then-depth-eq18446744073709551615-3 : goal.returns-then-depth-eq18446744073709551615-3
returns-then-depth-eq18446744073709551615-3 t c = λ top below leads.
    subst (λ k. Leads top k c.args.best) (last c.args.depth c.if-depth-eq18446744073709551615-3.true)
    (over_leads top c.args.query.now c.args.depth below c.args.best leads c.in-Aggregate.input (aggregate_top c.args.query.now c.in-Aggregate.input c.in-Aggregate.groups c.in-Aggregate.aggregates c.in-Aggregate.is) (aggregate_below c.args.query.now c.in-Aggregate.input c.in-Aggregate.groups c.in-Aggregate.aggregates c.in-Aggregate.is))

pub returns-else-depth-eq18446744073709551615-3 : goal.returns-else-depth-eq18446744073709551615-3
returns-else-depth-eq18446744073709551615-3 t c = λ top below leads.
    c.least-in-Aggregate.ensures top
    (λ d. below_over top c.args.query.now c.args.depth below c.args.best leads c.in-Aggregate.input (aggregate_top c.args.query.now c.in-Aggregate.input c.in-Aggregate.groups c.in-Aggregate.aggregates c.in-Aggregate.is) (aggregate_below c.args.query.now c.in-Aggregate.input c.in-Aggregate.groups c.in-Aggregate.aggregates c.in-Aggregate.is) d ∙ ap (λ q. keyed_at q d) (sym c.get-in-Aggregate.ensures))
    (over_leads top c.args.query.now c.args.depth below c.args.best leads c.in-Aggregate.input (aggregate_top c.args.query.now c.in-Aggregate.input c.in-Aggregate.groups c.in-Aggregate.aggregates c.in-Aggregate.is) (aggregate_below c.args.query.now c.in-Aggregate.input c.in-Aggregate.groups c.in-Aggregate.aggregates c.in-Aggregate.is))

pub returns-in-Table : goal.returns-in-Table
returns-in-Table t c = λ top below leads.
    leaf_leads top c.args.query.now c.args.depth below c.args.best leads (λ d. ap (λ q. keyed_at q d) c.in-Table.is)

pub returns-in-Single : goal.returns-in-Single
returns-in-Single t c = λ top below leads.
    leaf_leads top c.args.query.now c.args.depth below c.args.best leads (λ d. ap (λ q. keyed_at q d) c.in-Single.is)

pub returns-in-Base : goal.returns-in-Base
returns-in-Base t c = λ top below leads.
    leaf_leads top c.args.query.now c.args.depth below c.args.best leads (λ d. ap (λ q. keyed_at q d) (c.in-Base.is ∙ Base-is c.in-Base.input c.in-Base.places c.in-Base.label))

pub returns-in-Join : goal.returns-in-Join
returns-in-Join t c = λ top below leads.
    leaf_leads top c.args.query.now c.args.depth below c.args.best leads (λ d. ap (λ q. keyed_at q d) (c.in-Join.is ∙ Join-is c.in-Join.kind c.in-Join.left c.in-Join.right c.in-Join.condition c.in-Join.subs))

pub returns-in-Apply : goal.returns-in-Apply
returns-in-Apply t c = λ top below leads.
    leaf_leads top c.args.query.now c.args.depth below c.args.best leads (λ d. ap (λ q. keyed_at q d) (c.in-Apply.is ∙ Apply-is c.in-Apply.kind c.in-Apply.left c.in-Apply.right))

pub returns-in-Union : goal.returns-in-Union
returns-in-Union t c = λ top below leads.
    leaf_leads top c.args.query.now c.args.depth below c.args.best leads (λ d. ap (λ q. keyed_at q d) (c.in-Union.is ∙ Union-is c.in-Union.all c.in-Union.left c.in-Union.right))

pub returns-in-Intersect : goal.returns-in-Intersect
returns-in-Intersect t c = λ top below leads.
    leaf_leads top c.args.query.now c.args.depth below c.args.best leads (λ d. ap (λ q. keyed_at q d) (c.in-Intersect.is ∙ Intersect-is c.in-Intersect.all c.in-Intersect.left c.in-Intersect.right))

pub returns-in-Except : goal.returns-in-Except
returns-in-Except t c = λ top below leads.
    leaf_leads top c.args.query.now c.args.depth below c.args.best leads (λ d. ap (λ q. keyed_at q d) (c.in-Except.is ∙ Except-is c.in-Except.all c.in-Except.left c.in-Except.right))

pub returns-in-Distinct : goal.returns-in-Distinct
returns-in-Distinct t c = λ top below leads.
    leaf_leads top c.args.query.now c.args.depth below c.args.best leads (λ d. ap (λ q. keyed_at q d) (c.in-Distinct.is ∙ Distinct-is c.in-Distinct.input))

pub returns-in-Limit : goal.returns-in-Limit
returns-in-Limit t c = λ top below leads.
    leaf_leads top c.args.query.now c.args.depth below c.args.best leads (λ d. ap (λ q. keyed_at q d) (c.in-Limit.is ∙ Limit-is c.in-Limit.input c.in-Limit.keys c.in-Limit.count))

pub returns-in-Prov : goal.returns-in-Prov
returns-in-Prov t c = λ top below leads.
    leaf_leads top c.args.query.now c.args.depth below c.args.best leads (λ d. ap (λ q. keyed_at q d) (c.in-Prov.is ∙ Prov-is c.in-Prov.input))
