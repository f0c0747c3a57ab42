use Rattle.std.proofs.Common.{◌++◌, refl, sym, ap, ◌∙◌, arith}
use Rattle.query_facts.specs.reached.reads.Columns.{behind, columns_of, expr_columns, option_columns, items_columns, aggregates_columns}
use Rattle.query_facts.specs.reached.reads.built.Columns.{all_subs_columns, sub_columns, columns-Base, columns-Filter, columns-Project, columns-Join, columns-Apply, columns-Union, columns-Intersect, columns-Except, columns-Distinct, columns-Aggregate, columns-Limit, columns-Prov}
use Rattle.query_facts.proofs.Gathered.{said_as, no-more, two-more, node-more, none-yet, one-more, all-done}
use Rattle.query_facts.proofs.reached.reads.queries.+query_columns.Goals as goal

pub query_columns-returns-in-Table : goal.query_columns-returns-in-Table
query_columns-returns-in-Table t c = no-more c.args.found _ (ap columns_of c.in-Table.is)

pub query_columns-returns-in-Single : goal.query_columns-returns-in-Single
query_columns-returns-in-Single t c = no-more c.args.found _ (ap columns_of c.in-Single.is)

pub query_columns-returns-in-Base : goal.query_columns-returns-in-Base
query_columns-returns-in-Base t c =
    said_as _ _ _ (ap (λ cs. c.args.found ++ cs) (ap columns_of c.get.ensures ∙ sym (ap columns_of c.in-Base.is ∙ columns-Base c.in-Base.input c.in-Base.places c.in-Base.label)))
    c.query_columns.ensures

pub query_columns-returns-in-Distinct : goal.query_columns-returns-in-Distinct
query_columns-returns-in-Distinct t c =
    said_as _ _ _ (ap (λ cs. c.args.found ++ cs) (ap columns_of c.get-in-Distinct.ensures ∙ sym (ap columns_of c.in-Distinct.is ∙ columns-Distinct c.in-Distinct.input)))
    c.query_columns-in-Distinct.ensures

pub query_columns-returns-in-Limit : goal.query_columns-returns-in-Limit
query_columns-returns-in-Limit t c =
    said_as _ _ _ (ap (λ cs. c.args.found ++ cs) (ap columns_of c.get-in-Limit.ensures ∙ sym (ap columns_of c.in-Limit.is ∙ columns-Limit c.in-Limit.input c.in-Limit.keys c.in-Limit.count)))
    c.query_columns-in-Limit.ensures

pub query_columns-returns-in-Prov : goal.query_columns-returns-in-Prov
query_columns-returns-in-Prov t c =
    said_as _ _ _ (ap (λ cs. c.args.found ++ cs) (ap columns_of c.get-in-Prov.ensures ∙ sym (ap columns_of c.in-Prov.is ∙ columns-Prov c.in-Prov.input)))
    c.query_columns-in-Prov.ensures

pub query_columns-returns-in_ok-found-in-Union : goal.query_columns-returns-in_ok-found-in-Union
query_columns-returns-in_ok-found-in-Union t c =
    said_as _ _ _
    (ap (λ p. c.in_ok-found-in-Union.found ++ columns_of p) c.get-in-Union-2.ensures
    ∙ two-more c.args.found (columns_of c.in-Union.left) (columns_of c.in-Union.right) c.in_ok-found-in-Union.found _
    (c.in_ok-found-in-Union.ensures ∙ ap (λ p. c.args.found ++ columns_of p) c.get-in-Union.ensures)
    (ap columns_of c.in-Union.is ∙ columns-Union c.in-Union.all c.in-Union.left c.in-Union.right))
    c.query_columns-in-Union-2.ensures

pub query_columns-returns-in_ok-found-in-Intersect : goal.query_columns-returns-in_ok-found-in-Intersect
query_columns-returns-in_ok-found-in-Intersect t c =
    said_as _ _ _
    (ap (λ p. c.in_ok-found-in-Intersect.found ++ columns_of p) c.get-in-Intersect-2.ensures
    ∙ two-more c.args.found (columns_of c.in-Intersect.left) (columns_of c.in-Intersect.right) c.in_ok-found-in-Intersect.found _
    (c.in_ok-found-in-Intersect.ensures ∙ ap (λ p. c.args.found ++ columns_of p) c.get-in-Intersect.ensures)
    (ap columns_of c.in-Intersect.is ∙ columns-Intersect c.in-Intersect.all c.in-Intersect.left c.in-Intersect.right))
    c.query_columns-in-Intersect-2.ensures

pub query_columns-returns-in_ok-found-in-Except : goal.query_columns-returns-in_ok-found-in-Except
query_columns-returns-in_ok-found-in-Except t c =
    said_as _ _ _
    (ap (λ p. c.in_ok-found-in-Except.found ++ columns_of p) c.get-in-Except-2.ensures
    ∙ two-more c.args.found (columns_of c.in-Except.left) (columns_of c.in-Except.right) c.in_ok-found-in-Except.found _
    (c.in_ok-found-in-Except.ensures ∙ ap (λ p. c.args.found ++ columns_of p) c.get-in-Except.ensures)
    (ap columns_of c.in-Except.is ∙ columns-Except c.in-Except.all c.in-Except.left c.in-Except.right))
    c.query_columns-in-Except-2.ensures

pub query_columns-returns-in_ok-own-in-Filter-2 : goal.query_columns-returns-in_ok-own-in-Filter-2
query_columns-returns-in_ok-own-in-Filter-2 t c =
    said_as _ _ _
    (ap (λ cs. c.in_ok-found-in-Filter.found ++ behind cs) c.as_slice-in-Filter.ensures
    ∙ node-more c.args.found (columns_of c.in-Filter.input) (expr_columns c.in-Filter.condition ++ all_subs_columns c.in-Filter.subs) c.in_ok-found-in-Filter.found c.in_ok-own-in-Filter-2.own _
    (c.in_ok-found-in-Filter.ensures ∙ ap (λ p. c.args.found ++ columns_of p) c.get-in-Filter.ensures)
    (c.in_ok-own-in-Filter-2.ensures ∙ ap (λ l. c.in_ok-own-in-Filter.own ++ all_subs_columns l) c.as_slice.ensures ∙ ap (λ cs. cs ++ all_subs_columns c.in-Filter.subs) (c.in_ok-own-in-Filter.ensures ∙ ap (λ cs. cs ++ expr_columns c.in-Filter.condition) c.new.ensures))
    (ap columns_of c.in-Filter.is ∙ columns-Filter c.in-Filter.input c.in-Filter.condition c.in-Filter.subs))
    c.with_behind.ensures

pub query_columns-returns-in_ok-own-in-Project-2 : goal.query_columns-returns-in_ok-own-in-Project-2
query_columns-returns-in_ok-own-in-Project-2 t c =
    said_as _ _ _
    (ap (λ cs. c.in_ok-found-in-Project.found ++ behind cs) c.as_slice-in-Project-3.ensures
    ∙ node-more c.args.found (columns_of c.in-Project.input) (items_columns c.in-Project.items ++ all_subs_columns c.in-Project.subs) c.in_ok-found-in-Project.found c.in_ok-own-in-Project-2.own _
    (c.in_ok-found-in-Project.ensures ∙ ap (λ p. c.args.found ++ columns_of p) c.get-in-Project.ensures)
    (c.in_ok-own-in-Project-2.ensures ∙ ap (λ l. c.in_ok-own-in-Project.own ++ all_subs_columns l) c.as_slice-in-Project-2.ensures ∙ ap (λ cs. cs ++ all_subs_columns c.in-Project.subs) (c.in_ok-own-in-Project.ensures ∙ ap (λ l. c.new-in-Project.result ++ items_columns l) c.as_slice-in-Project.ensures ∙ ap (λ cs. cs ++ items_columns c.in-Project.items) c.new-in-Project.ensures))
    (ap columns_of c.in-Project.is ∙ columns-Project c.in-Project.input c.in-Project.items c.in-Project.subs))
    c.with_behind-in-Project.ensures

pub query_columns-returns-in_ok-own-in-Join-2 : goal.query_columns-returns-in_ok-own-in-Join-2
query_columns-returns-in_ok-own-in-Join-2 t c =
    said_as _ _ _
    (ap (λ cs. c.in_ok-found-in-Join-2.found ++ behind cs) c.as_slice-in-Join-2.ensures
    ∙ node-more c.args.found (columns_of c.in-Join.left ++ columns_of c.in-Join.right) (expr_columns c.in-Join.condition ++ all_subs_columns c.in-Join.subs) c.in_ok-found-in-Join-2.found c.in_ok-own-in-Join-2.own _
    (c.in_ok-found-in-Join-2.ensures ∙ ap (λ p. c.in_ok-found-in-Join.found ++ columns_of p) c.get-in-Join-2.ensures
    ∙ two-more c.args.found (columns_of c.in-Join.left) (columns_of c.in-Join.right) c.in_ok-found-in-Join.found (columns_of c.in-Join.left ++ columns_of c.in-Join.right)
    (c.in_ok-found-in-Join.ensures ∙ ap (λ p. c.args.found ++ columns_of p) c.get-in-Join.ensures) refl)
    (c.in_ok-own-in-Join-2.ensures ∙ ap (λ l. c.in_ok-own-in-Join.own ++ all_subs_columns l) c.as_slice-in-Join.ensures ∙ ap (λ cs. cs ++ all_subs_columns c.in-Join.subs) (c.in_ok-own-in-Join.ensures ∙ ap (λ cs. cs ++ expr_columns c.in-Join.condition) c.new-in-Join.ensures))
    (ap columns_of c.in-Join.is ∙ columns-Join c.in-Join.kind c.in-Join.left c.in-Join.right c.in-Join.condition c.in-Join.subs))
    c.with_behind-in-Join.ensures

pub query_columns-returns-in_ok-inner-in-Apply : goal.query_columns-returns-in_ok-inner-in-Apply
query_columns-returns-in_ok-inner-in-Apply t c =
    said_as _ _ _
    (ap (λ cs. c.in_ok-found-in-Apply.found ++ behind cs) c.as_slice-in-Apply.ensures
    ∙ node-more c.args.found (columns_of c.in-Apply.left) (columns_of c.in-Apply.right) c.in_ok-found-in-Apply.found c.in_ok-inner-in-Apply.inner _
    (c.in_ok-found-in-Apply.ensures ∙ ap (λ p. c.args.found ++ columns_of p) c.get-in-Apply.ensures)
    (c.in_ok-inner-in-Apply.ensures ∙ ap (λ p. c.new-in-Apply.result ++ columns_of p) c.get-in-Apply-2.ensures ∙ ap (λ cs. cs ++ columns_of c.in-Apply.right) c.new-in-Apply.ensures)
    (ap columns_of c.in-Apply.is ∙ columns-Apply c.in-Apply.kind c.in-Apply.left c.in-Apply.right))
    c.with_behind-in-Apply.ensures

pub query_columns-returns-in_ok-own-in-Aggregate : goal.query_columns-returns-in_ok-own-in-Aggregate
query_columns-returns-in_ok-own-in-Aggregate t c =
    said_as _ _ _
    (ap (λ cs. c.in_ok-found-in-Aggregate.found ++ behind cs) c.as_slice-in-Aggregate-2.ensures
    ∙ node-more c.args.found (columns_of c.in-Aggregate.input) (aggregates_columns c.in-Aggregate.aggregates) c.in_ok-found-in-Aggregate.found c.in_ok-own-in-Aggregate.own _
    (c.in_ok-found-in-Aggregate.ensures ∙ ap (λ p. c.args.found ++ columns_of p) c.get-in-Aggregate.ensures)
    (c.in_ok-own-in-Aggregate.ensures ∙ ap (λ l. c.new-in-Aggregate.result ++ aggregates_columns l) c.as_slice-in-Aggregate.ensures ∙ ap (λ cs. cs ++ aggregates_columns c.in-Aggregate.aggregates) c.new-in-Aggregate.ensures)
    (ap columns_of c.in-Aggregate.is ∙ columns-Aggregate c.in-Aggregate.input c.in-Aggregate.groups c.in-Aggregate.aggregates))
    c.with_behind-in-Aggregate.ensures

pub subs_columns-loop-sub-init : goal.subs_columns-loop-sub-init
subs_columns-loop-sub-init t c = none-yet sub_columns c.args.subs.now c.args.found

pub subs_columns-loop-sub-preserved : goal.subs_columns-loop-sub-preserved
subs_columns-loop-sub-preserved t c =
    one-more sub_columns c.args.subs.now c.args.found c.loop-sub.sub-index c.loop-sub.columns c.loop-sub.invariant c.sub-item.result c.in_ok-columns-2.columns
    c.loop-sub-test.true c.sub-item.is
    (c.in_ok-columns-2.ensures
    ∙ two-more c.loop-sub.columns (option_columns c.sub-item.result.tested) (columns_of c.sub-item.result.query) c.in_ok-columns.columns (sub_columns c.sub-item.result) c.in_ok-columns.ensures refl)

pub subs_columns-returns : goal.subs_columns-returns
subs_columns-returns t c = all-done sub_columns c.args.subs.now c.args.found c.loop-sub.sub-index c.loop-sub.columns c.loop-sub.invariant (omega arith)
