-- What FROM is made of, its parts made one after the other.
use Rattle.std.specs.Prelude.{◌≡◌, ℕ, suc, ◌+◌, true, false, List, [], ◌∷◌, ◌++◌, length, Option, Some, None, option_map}
use Rattle.std.specs.Option.{option_map_or}
use Rattle.std.proofs.Common.{refl, ap, sym, subst, ◌∙◌, arith, append-nil, append_assoc, length-append}
use Rattle.perm_values.proofs.Lists.{front-none, back-none}
use Rattle.bag_algebra.specs.declared.query.JoinKind.TheVariants as join
use Rattle.bag_algebra.specs.declared.query.Query.{Query}
use Rattle.bag_algebra.specs.declared.query.Query.TheVariants.{Apply, Join}
use Rattle.perm_catalog.specs.Contents.{Contents}
use Rattle.sql_tree.specs.Regular.{is_lateral}
use Rattle.sql_tree.specs.declared.name.Name.{Name}
use Rattle.sql_tree.specs.declared.query.QueryTree.{QueryTree}
use Rattle.sql_tree.specs.declared.source.FromItem.{FromItem}
use Rattle.sql_tree.specs.declared.source.FromSource.TheVariants as source
use Rattle.sql_tree.specs.declared.source.JoinStep.{JoinStep, out-JoinStep}
use Rattle.sql_tree.specs.declared.expression.ExprBody.TheViews.{roll-out-JoinStep}
use Rattle.sql_tree.specs.declared.source.ScopeMark.{ScopeMark}
use Rattle.contribution.specs.Conjunctions.{always}
use Rattle.name_meaning.specs.Froms.{FromMeant, FromPart, ItemMeant, JoinPart, Read, SourcePart, beside_from, both_known, first_item, from_all, from_more, in_on, item_meant, join_item, join_kind, label_of, marked, no_from, named as named_source, inner as inner_source, optional_breaks, on_meant, read_named, read_names, read_of, read_query, scope_items, scope_name, joined_item, on_built, applied, beside_items, in_from}
use Rattle.name_meaning.specs.Meanings.{Around, Meant, query_means_at}
use Rattle.name_meaning.specs.Scopes.{ScopeItem, scope_of}
use Rattle.name_meaning.specs.Trees.{from_item_of, join_of, part_of, query_of, source_of}
use Rattle.name_meaning.specs.declared.scope.Scope.{Scope}
use Rattle.name_meaning.proofs.Equations.{token, fromitem-record, fromsource-inner, fromsource-named}
use Rattle.name_meaning.proofs.Lateral.{join-begins, join-items, join-lateral, join-plain, lateral_item, plain_item, plainly}
use Rattle.name_meaning.proofs.Opened.{join-record}
use Rattle.name_made_parts.specs.Sources.{IsScope, JoinsMade, MakesBeside, MakesFrom, MakesJoin, MakesOn, MakesSource, SourcesMade, StandsIn, beside_left, text_of, join_on_kept, kept_or_yes}
use Rattle.name_seen_parts.proofs.Scoping.{more-behind}
use Rattle.name_made_parts.proofs.Coring.{own-whole}
use Rattle.name_made_parts.specs.Cored.{AreKept}
use Rattle.name_meaning.specs.declared.nodes.cores.Condition.{Condition}
use Rattle.name_made_parts.specs.declared.asked.cores.MadeCondition.{MadeCondition}

-- ---- items in scope

-- all items of FROM stand in the core's own scope
pub own-stands : (m : FromMeant) (own scope : Scope) (groups : Option (List ℕ)) → IsScope m own → scope ≡ record own { groups = groups } → StandsIn m.items 0 scope
own-stands m own scope groups s is =
    record {
      before = [];
      own = s.items;
      after = [];
      known = s.known;
      scope_is = ap (λ (t : Scope). record t { groups = None }) is ∙ ap (λ (t : Scope). record t { groups = None }) s.scope_is
          ∙ ap scope_of (sym (append-nil s.items));
      at = refl;
    }

pub stands-left : (a b : Option (List ScopeItem)) (first : ℕ) (scope : Scope) → StandsIn (both_known a b) first scope → StandsIn a first scope
stands-left None b first scope s = absurd (cc s.known)
stands-left (Some xs) None first scope s = absurd (cc s.known)
stands-left (Some xs) (Some ys) first scope s =
    let own : s.own ≡ xs ++ ys = cc s.known in
    record {
      before = s.before;
      own = xs;
      after = ys ++ s.after;
      known = refl;
      scope_is = s.scope_is ∙ ap (λ (items : List ScopeItem). scope_of (s.before ++ (items ++ s.after))) own
          ∙ ap (λ (items : List ScopeItem). scope_of (s.before ++ items)) (append_assoc xs ys s.after);
      at = s.at;
    }

pub stands-right : (a b : Option (List ScopeItem)) (first count : ℕ) (scope : Scope) → ((items : List ScopeItem) → a ≡ Some items → length items ≡ count)
    → StandsIn (both_known a b) first scope → StandsIn b (first + count) scope
stands-right None b first count scope counts s = absurd (cc s.known)
stands-right (Some xs) None first count scope counts s = absurd (cc s.known)
stands-right (Some xs) (Some ys) first count scope counts s =
    let own : s.own ≡ xs ++ ys = cc s.known in
    record {
      before = s.before ++ xs;
      own = ys;
      after = s.after;
      known = refl;
      scope_is = s.scope_is ∙ ap (λ (items : List ScopeItem). scope_of (s.before ++ (items ++ s.after))) own
          ∙ ap (λ (items : List ScopeItem). scope_of (s.before ++ items)) (append_assoc xs ys s.after)
          ∙ ap scope_of (sym (append_assoc s.before xs (ys ++ s.after)));
      at = length-append s.before xs ∙ ap (λ (n : ℕ). n + length xs) s.at ∙ ap (λ (n : ℕ). first + n) (counts xs refl);
    }

pub both-count : (a b : Option (List ScopeItem)) (m n : ℕ) → ((items : List ScopeItem) → a ≡ Some items → length items ≡ m)
    → ((items : List ScopeItem) → b ≡ Some items → length items ≡ n) → (items : List ScopeItem) → both_known a b ≡ Some items → length items ≡ m + n
both-count None b m n first second items known = absurd (cc known)
both-count (Some xs) None m n first second items known = absurd (cc known)
both-count (Some xs) (Some ys) m n first second items known =
    let own : items ≡ xs ++ ys = cc known in
    ap length own ∙ length-append xs ys ∙ ap (λ (k : ℕ). k + length ys) (first xs refl) ∙ ap (λ (k : ℕ). m + k) (second ys refl)

pub one-item : (m : ItemMeant) (items : List ScopeItem) → scope_items m ≡ Some items → length items ≡ 1
one-item m items known = of-columns m.columns known where
  of-columns : (columns : Option (List _)) → option_map (λ columns. record { name = m.name; columns = columns } ∷ []) columns ≡ Some items → length items ≡ 1
  of-columns None e = absurd (cc e)
  of-columns (Some columns) e = ap length (sym (some e)) where
    some : {X : Type 0} {x y : X} → Some x ≡ Some y → x ≡ y
    some e = cc

-- ---- joins

-- one more join
pub join-more : (outer : List Scope) (left : FromMeant) (step : JoinPart) (first joins : ℕ) (scope : Scope) (before after : Query)
    → JoinsMade left first scope before joins → MakesJoin outer step first (joins + 1) scope before after
    → JoinsMade (join_item outer left step (joined_item outer left step)) first scope after (suc joins)
join-more outer left step first joins scope before after so_far makes =
    let m = joined_item outer left step in
    let items = join-items outer left step m in
    record {
      makes = λ whole stands.
          makes left (λ own known. let n = so_far.counts own known in omega (arith, n))
          (so_far.makes (join-begins outer left step m whole) (stands-left left.items (scope_items m) first scope
          (subst (λ (known : Option (List ScopeItem)). StandsIn known first scope) items stands))) whole stands;
      counts = λ own known.
          let n = both-count left.items (scope_items m) (suc joins) 1 so_far.counts (one-item m) own (sym items ∙ known) in omega (arith, n);
    }

-- the first item alone
pub first-made : (earlier : List (List ℕ)) (m : ItemMeant) (first : ℕ) (scope : Scope) (made : Query) → MakesSource m made
    → JoinsMade (first_item earlier m) first scope made 0
first-made earlier m first scope made makes = record { makes = λ whole stands. makes whole; counts = one-item m }

abbrev on_condition : Option Meant → Condition
on_condition on = record { expr = (on_built on).expr; subs = (on_built on).subs }

kept-so : (on : Option Meant) (kept : MadeCondition) → AreKept on kept → kept_or_yes kept.condition ≡ on_condition on
kept-so None kept is = ap kept_or_yes is.condition
kept-so (Some m) kept is = ap kept_or_yes is.condition

plainly-made : (outer : List Scope) (left : FromMeant) (step : JoinPart) (first count : ℕ) (scope : Scope) (before right after : Query) (kept : MadeCondition)
    → MakesOn outer step.condition first count scope kept → MakesSource (plain_item outer left step) right
    → after ≡ join_on_kept (join_kind step.word) before right kept
    → ((items : List ScopeItem) → (plainly outer left step (plain_item outer left step)).items ≡ Some items → length items ≡ count)
    → before ≡ left.query → MakesFrom (plainly outer left step (plain_item outer left step)) first scope after
plainly-made outer left step first count scope before right after kept on item is counts same whole stands =
    let m = plain_item outer left step in
    let known = both_known left.items (scope_items m) in
    let sees = on_meant outer known step.condition in
    let own : known ≡ Some stands.own = stands.known in
    let breaks : optional_breaks step.condition (on_meant outer (Some stands.own) step.condition) ≡ [] =
    subst (λ (items : Option (List ScopeItem)). optional_breaks step.condition (on_meant outer items step.condition) ≡ []) own
    (back-none (left.breaks ++ m.breaks) (optional_breaks step.condition sees) whole) in
    let made = item (back-none left.breaks m.breaks (front-none (left.breaks ++ m.breaks) (optional_breaks step.condition sees) whole)) in
    let stands_own : StandsIn (Some stands.own) first scope =
    record { before = stands.before; own = stands.own; after = stands.after; known = refl; scope_is = stands.scope_is; at = stands.at } in
    let keeps : AreKept sees kept =
    subst (λ (items : Option (List ScopeItem)). AreKept (on_meant outer items step.condition) kept) (sym own)
    (on stands.own stands_own (counts stands.own own) (own-whole (in_on stands.own outer) step.condition breaks)) in
    is ∙ ap (λ (q : Query). join_on_kept (join_kind step.word) q right kept) same
    ∙ ap (λ (q : Query). join_on_kept (join_kind step.word) left.query q kept) made
    ∙ ap (λ (k : Condition). Join (join_kind step.word) left.query m.query k.expr k.subs) (kept-so sees kept keeps)

-- a join of what is made
pub join-made : (outer : List Scope) (step : JoinPart) (first before : ℕ) (scope : Scope) (whole right after : Query) (kept : MadeCondition)
    → is_lateral step.word ≡ false → MakesOn outer step.condition first (suc before) scope kept
    → ((earlier : List (List ℕ)) → MakesSource (step.item.means (in_from outer) earlier) right)
    → after ≡ join_on_kept (join_kind step.word) whole right kept → MakesJoin outer step first before scope whole after
join-made outer step first before scope whole right after kept plain on item is left counts same =
    let m = plain_item outer left step in
    subst (λ (m : FromMeant). MakesFrom m first scope after) (sym (join-plain outer left step plain))
    (plainly-made outer left step first (suc before) scope whole right after kept on (item left.names) is
    (λ items known. let n = both-count left.items (scope_items m) before 1 counts (one-item m) items known in omega (arith, n)) same)

applied-made : (outer : List Scope) (left : FromMeant) (step : JoinPart) (first before : ℕ) (scope : Scope) (whole right after : Query)
    → MakesBeside outer step.item first before scope right → after ≡ Apply (join_kind step.word) whole right
    → ((items : List ScopeItem) → left.items ≡ Some items → length items ≡ before)
    → whole ≡ left.query → MakesFrom (applied left step.word (lateral_item outer left step)) first scope after
applied-made outer left step first before scope whole right after item is counts same none stands =
    let m = lateral_item outer left step in
    let own = stands-left left.items (scope_items m) first scope stands in
    let stands_own : StandsIn (Some own.own) first scope =
    record { before = own.before; own = own.own; after = own.after; known = refl; scope_is = own.scope_is; at = own.at } in
    let made : MakesSource m right =
    subst (λ (items : Option (List ScopeItem)). MakesSource (step.item.means (beside_items items outer) left.names) right) (sym own.known)
    (item own.own stands_own (counts own.own own.known) left.names) in
    is ∙ ap (λ (q : Query). Apply (join_kind step.word) q right) same
    ∙ ap (Apply (join_kind step.word) left.query) (made (back-none left.breaks m.breaks none))

-- a lateral subquery beside what is made
pub lateral-made : (outer : List Scope) (step : JoinPart) (first before : ℕ) (scope : Scope) (whole right after : Query)
    → is_lateral step.word ≡ true → MakesBeside outer step.item first before scope right → after ≡ Apply (join_kind step.word) whole right
    → MakesJoin outer step first before scope whole after
lateral-made outer step first before scope whole right after lateral item is left counts same =
    subst (λ (m : FromMeant). MakesFrom m first scope after) (sym (join-lateral outer left step lateral))
    (applied-made outer left step first before scope whole right after item is counts same)

-- ---- parts before and behind commas

pub no-sources : (outer : List Scope) (scope : Scope) → SourcesMade outer [] scope None 0
no-sources outer scope = record { makes = λ whole stands. refl; counts = λ items known. let none : items ≡ [] = cc known in ap length none }

pub source-more : (outer : List Scope) (parts : List FromPart) (part : FromPart) (scope : Scope) (before : Option Query) (next after : Query) (count joins : ℕ)
    → SourcesMade outer parts scope before count → ((earlier : List (List ℕ)) → MakesFrom (part.means outer earlier) count scope next)
    → ((earlier : List (List ℕ)) (items : List ScopeItem) → (part.means outer earlier).items ≡ Some items → length items ≡ suc joins)
    → after ≡ beside_left before next → SourcesMade outer (parts ++ part ∷ []) scope (Some after) (count + suc joins)
source-more outer [] part scope before next after count joins so_far makes counts is =
    let m = part.means outer [] in
    let none : count ≡ 0 = sym (so_far.counts [] refl) in
    record {
      makes = λ whole stands.
          let nothing : StandsIn (Some []) 0 scope = record {
            before = stands.before;
            own = [];
            after = stands.own ++ stands.after;
            known = refl;
            scope_is = stands.scope_is;
            at = stands.at;
          } in
          ap Some (is ∙ ap (λ (left : Option Query). beside_left left next) (so_far.makes refl nothing)
          ∙ subst (λ (n : ℕ). StandsIn m.items n scope → next ≡ m.query) none (makes [] whole) stands);
      counts = λ items known. let n = counts [] items known in omega (arith, n, none);
    }
source-more outer (first ∷ parts) part scope before next after count joins so_far makes counts is =
    let left = from_more outer (first.means outer []) parts in
    let right = part.means outer left.names in
    let start : 0 + count ≡ count = omega arith in
    let is_beside : from_more outer (first.means outer []) (parts ++ part ∷ []) ≡ beside_from left right =
    more-behind outer (first.means outer []) parts part in
    record {
      makes = λ whole stands.
          let none : left.breaks ++ right.breaks ≡ [] = subst (λ (m : FromMeant). m.breaks ≡ []) is_beside whole in
          let both : StandsIn (both_known left.items right.items) 0 scope = subst (λ (m : FromMeant). StandsIn m.items 0 scope) is_beside stands in
          ap Some (is ∙ ap (λ (left : Option Query). beside_left left next)
          (so_far.makes (front-none left.breaks right.breaks none) (stands-left left.items right.items 0 scope both))
          ∙ ap (λ (q : Query). Join join.Inner left.query q always [])
          (makes left.names (back-none left.breaks right.breaks none)
          (subst (λ (n : ℕ). StandsIn right.items n scope) start (stands-right left.items right.items 0 count scope so_far.counts both)))
          ∙ ap (λ (m : FromMeant). m.query) (sym is_beside));
      counts = λ items known.
          both-count left.items right.items count (suc joins) so_far.counts (counts left.names) items
          (ap (λ (m : FromMeant). m.items) (sym is_beside) ∙ known);
    }

-- all of FROM
pub sources-made : (outer : List Scope) (parts : List FromPart) (scope : Scope) (made : Option Query) (count : ℕ) (query : Query)
    → SourcesMade outer parts scope made count → query ≡ option_map_or (λ query. query) made no_from.query → MakesFrom (from_all outer parts) 0 scope query
sources-made outer [] scope made count query so_far is whole stands =
    is ∙ ap (λ (made : Option Query). option_map_or (λ query. query) made no_from.query) (so_far.makes whole stands)
sources-made outer (part ∷ parts) scope made count query so_far is whole stands =
    is ∙ ap (λ (made : Option Query). option_map_or (λ query. query) made no_from.query) (so_far.makes whole stands)

-- ---- trees

pub join-fields : (c : Contents) (tree : JoinStep) → join_of c tree ≡ record {
  word = (out-JoinStep tree).word;
  item = from_item_of c (out-JoinStep tree).item;
  condition = option_map (part_of c) (out-JoinStep tree).condition;
}
join-fields c tree =
    ap (join_of c) (sym (roll-out-JoinStep tree)) ∙ join-record c (out-JoinStep tree).word (out-JoinStep tree).item (out-JoinStep tree).condition

-- ---- items

item-so : (at : ℕ) (mark : ScopeMark) (earlier : List (List ℕ)) (name label : List ℕ) (read : Read) (made : Query)
    → (read.breaks ≡ [] → made ≡ marked mark label (read_names read) read) → MakesSource (item_meant at mark earlier name label read) made
item-so at mark earlier name label read made makes whole =
    makes (front-none read.breaks _ (front-none _ _ whole))

pub item-named : (c : Contents) (around : Around) (item : FromItem) (name : Name) (made : Query) → item.source ≡ source.Named name
    → ((read_named c name).breaks ≡ [] → made ≡ marked item.mark name.text (read_names (read_named c name)) (read_named c name))
    → (earlier : List (List ℕ)) → MakesSource ((from_item_of c item).means around earlier) made
unfolding token
item-named c around item name made is makes earlier =
    let part : source_of c item.source ≡ named_source name = ap (source_of c) is ∙ fromsource-named c name in
    subst (λ (m : ItemMeant). MakesSource m made)
    (sym (ap (λ (p : _). p.means around earlier) (fromitem-record c item.at item.source item.alias item.mark)
    ∙ ap (λ (s : SourcePart). item_meant item.at item.mark earlier (scope_name s item.alias) (label_of s item.alias) (read_of c around s)) part))
    (item-so item.at item.mark earlier (scope_name (named_source name) item.alias) name.text (read_named c name) made makes)

pub item-inner : (c : Contents) (around : Around) (item : FromItem) (query : QueryTree) (made : Query) → item.source ≡ source.Inner query
    → ((query_means_at (query_of c query) around).breaks ≡ []
    → made ≡ marked item.mark (option_map_or text_of item.alias [])
    (read_names (read_query (query_means_at (query_of c query) around)))
    (read_query (query_means_at (query_of c query) around)))
    → (earlier : List (List ℕ)) → MakesSource ((from_item_of c item).means around earlier) made
unfolding token query_means_at
item-inner c around item query made is makes earlier =
    let part : source_of c item.source ≡ inner_source (query_of c query) = ap (source_of c) is ∙ fromsource-inner c query in
    subst (λ (m : ItemMeant). MakesSource m made)
    (sym (ap (λ (p : _). p.means around earlier) (fromitem-record c item.at item.source item.alias item.mark)
    ∙ ap (λ (s : SourcePart). item_meant item.at item.mark earlier (scope_name s item.alias) (label_of s item.alias) (read_of c around s)) part))
    (item-so item.at item.mark earlier (scope_name (inner_source (query_of c query)) item.alias) (option_map_or text_of item.alias [])
    (read_of c around (inner_source (query_of c query))) made makes)
