use Rattle.query_laws.proofs.StandingNodes.{stands-Base, stands-Filter, stands-Project, stands-Join, stands-Apply, stands-Union, stands-Intersect, stands-Except, stands-Distinct, stands-Aggregate, stands-Limit}
use Rattle.query_laws.proofs.congruence.laws.nodes_over_what_stands_stand.Goals as goal

pub returns-clause-base : goal.returns-clause-base
returns-clause-base c q b places label s = stands-Base q b s places label

pub returns-clause-filter : goal.returns-clause-filter
returns-clause-filter c q b condition test subs others same s t = stands-Filter q b s condition test same subs others t

pub returns-clause-project : goal.returns-clause-project
returns-clause-project c q b items columns subs others same s t = stands-Project q b s items columns same subs others t

pub returns-clause-join : goal.returns-clause-join
returns-clause-join c kind q b r d condition test subs others same s t k = stands-Join q b s r d t kind condition test same subs others k

pub returns-clause-apply : goal.returns-clause-apply
returns-clause-apply c kind q b r d s t = stands-Apply q b s r d t kind

pub returns-clause-union_of : goal.returns-clause-union_of
returns-clause-union_of c all q b r d s t = stands-Union q b s r d t all

pub returns-clause-intersect : goal.returns-clause-intersect
returns-clause-intersect c all q b r d s t = stands-Intersect q b s r d t all

pub returns-clause-except : goal.returns-clause-except
returns-clause-except c all q b r d s t = stands-Except q b s r d t all

pub returns-clause-distinct : goal.returns-clause-distinct
returns-clause-distinct c q b s = stands-Distinct q b s

pub returns-clause-aggregate : goal.returns-clause-aggregate
returns-clause-aggregate c q b groups aggregates others same s = stands-Aggregate q b s groups aggregates others same

pub returns-clause-limit : goal.returns-clause-limit
returns-clause-limit c q b keys most s = stands-Limit q b s keys most
