-- The sources over tables of what the constructors of code make.
use Rattle.std.proofs.Common.{◌≡◌, ℕ, ◌+◌, ◌<◌, Bool, List, [], ◌∷◌, ◌++◌, length, get_or, take, refl, sym, ap, ◌∙◌, append_assoc, append-nil}
use Rattle.perm_values.specs.declared.key.Key.{Key}
use Rattle.perm_values.proofs.Lists.{taken}
use Rattle.bag_algebra.specs.built.Openings.{row_of_subs, Base-is, Filter-is, Project_with-is, Join-is, Apply-is, Union-is, Intersect-is, Except-is, Distinct-is, Aggregate-is, Limit-is, Prov-is}
use Rattle.bag_algebra.specs.declared.expr.Expr.{Expr}
use Rattle.bag_algebra.specs.declared.expr.Item.{Item}
use Rattle.bag_algebra.specs.declared.query.Aggr.{Aggr}
use Rattle.bag_algebra.specs.declared.query.JoinKind.{JoinKind}
use Rattle.bag_algebra.specs.declared.query.JoinKind.TheVariants.{Inner}
use Rattle.bag_algebra.specs.declared.query.Label.{Label}
use Rattle.bag_algebra.specs.declared.query.Query.{Query, end_of-Sublink}
use Rattle.bag_algebra.specs.declared.query.Query.TheBlock.{shape-the_row-Sublink-1, hidden-the_row-Sublink-1}
use Rattle.bag_algebra.specs.declared.query.Query.TheVariants.{Base, Filter, Project, Join, Apply, Union, Intersect, Except, Distinct, Aggregate, Limit, Prov}
use Rattle.bag_algebra.specs.declared.query.Sublink.{Sublink}
use Rattle.bag_algebra.specs.built.Patterns.{JoinOf}
use Rattle.contribution.specs.CrossBase.{base_source, table_sources, sub_table_sources, subs_table_sources, source_query, crossed}
use Rattle.contribution.specs.Conjunctions.{always}
use Rattle.contribution.specs.declared.cross.TableSource.{TableSource}

sub_table_sources-row_of_subs : (subs : List Sublink) → sub_table_sources (row_of_subs subs) ≡ subs_table_sources subs
unfolding shape-the_row-Sublink-1 hidden-the_row-Sublink-1 package.denote.Hole.Carrier.hidden
sub_table_sources-row_of_subs [] = refl
sub_table_sources-row_of_subs (sub ∷ subs) = ap (λ sources. table_sources sub.query ++ sources) (sub_table_sources-row_of_subs subs)

pub table_sources-Base : (input : Query) (places : List ℕ) (label : Label) → table_sources (Base input places label) ≡ base_source input places
table_sources-Base input places label = ap table_sources (Base-is input places label)

pub table_sources-Filter : (input : Query) (condition : Expr) (subs : List Sublink) →
    table_sources (Filter input condition subs) ≡ table_sources input ++ subs_table_sources subs
table_sources-Filter input condition subs =
    ap table_sources (Filter-is input condition subs) ∙ ap (λ sources. table_sources input ++ sources) (sub_table_sources-row_of_subs subs)

pub table_sources-Project : (input : Query) (items : List Item) (subs : List Sublink) →
    table_sources (Project input items subs) ≡ table_sources input ++ subs_table_sources subs
table_sources-Project input items subs =
    ap table_sources (Project_with-is input items subs) ∙ ap (λ sources. table_sources input ++ sources) (sub_table_sources-row_of_subs subs)

pub table_sources-Join : (kind : JoinKind) (left right : Query) (condition : Expr) (subs : List Sublink) →
    table_sources (Join kind left right condition subs) ≡ table_sources left ++ table_sources right ++ subs_table_sources subs
table_sources-Join kind left right condition subs =
    ap table_sources (Join-is kind left right condition subs)
    ∙ ap (λ sources. table_sources left ++ table_sources right ++ sources) (sub_table_sources-row_of_subs subs)

pub table_sources-Apply : (kind : JoinKind) (left right : Query) → table_sources (Apply kind left right) ≡ table_sources left ++ table_sources right
table_sources-Apply kind left right = ap table_sources (Apply-is kind left right)

pub table_sources-Union : (all : Bool) (left right : Query) → table_sources (Union all left right) ≡ table_sources left ++ table_sources right
table_sources-Union all left right = ap table_sources (Union-is all left right)

pub table_sources-Intersect : (all : Bool) (left right : Query) → table_sources (Intersect all left right) ≡ table_sources left ++ table_sources right
table_sources-Intersect all left right = ap table_sources (Intersect-is all left right)

pub table_sources-Except : (all : Bool) (left right : Query) → table_sources (Except all left right) ≡ table_sources left ++ table_sources right
table_sources-Except all left right = ap table_sources (Except-is all left right)

pub table_sources-Distinct : (input : Query) → table_sources (Distinct input) ≡ table_sources input
table_sources-Distinct input = ap table_sources (Distinct-is input)

pub table_sources-Aggregate : (input : Query) (groups : List ℕ) (aggregates : List Aggr) → table_sources (Aggregate input groups aggregates) ≡ table_sources input
table_sources-Aggregate input groups aggregates = ap table_sources (Aggregate-is input groups aggregates)

pub table_sources-Limit : (input : Query) (keys : List Key) (count : ℕ) → table_sources (Limit input keys count) ≡ table_sources input
table_sources-Limit input keys count = ap table_sources (Limit-is input keys count)

pub table_sources-Prov : (input : Query) → table_sources (Prov input) ≡ []
table_sources-Prov input = ap table_sources (Prov-is input)

-- a join without sublinks
-- ---- loops

subs_table_sources-append : (ss rs : List Sublink) → subs_table_sources (ss ++ rs) ≡ subs_table_sources ss ++ subs_table_sources rs
subs_table_sources-append [] rs = refl
subs_table_sources-append (s ∷ ss) rs =
    ap (λ sources. table_sources s.query ++ sources) (subs_table_sources-append ss rs)
    ∙ sym (append_assoc (table_sources s.query) (subs_table_sources ss) (subs_table_sources rs))

pub subs_table_sources-more : (ss : List Sublink) (i : ℕ) (s : Sublink) → i < length ss → s ≡ get_or ss i s →
    subs_table_sources (take i ss) ++ table_sources s.query ≡ subs_table_sources (take (i + 1) ss)
subs_table_sources-more ss i s within e =
    sym (ap subs_table_sources (taken ss i s within e) ∙ subs_table_sources-append (take i ss) (s ∷ [])
    ∙ ap (λ sources. subs_table_sources (take i ss) ++ sources) (append-nil (table_sources s.query)))

-- sources from the last one on, each in front of those behind it
crossed-last : (sources : List TableSource) (source : TableSource) (rest : Query) →
    crossed (sources ++ source ∷ []) rest ≡ crossed sources (JoinOf Inner (source_query source) rest always [] end_of-Sublink)
crossed-last [] source rest = refl
crossed-last (first ∷ sources) source rest =
    ap (λ q. JoinOf Inner (source_query first) q always [] end_of-Sublink) (crossed-last sources source rest)

pub crossed-before : (sources : List TableSource) (i : ℕ) (source : TableSource) (rest : Query) → i < length sources → source ≡ get_or sources i source →
    crossed (take (i + 1) sources) rest ≡ crossed (take i sources) (JoinOf Inner (source_query source) rest always [] end_of-Sublink)
crossed-before sources i source rest within e = ap (λ ss. crossed ss rest) (taken sources i source within e) ∙ crossed-last (take i sources) source rest
