-- No rule of names and kinds is the want of a number to draw.
use Rattle.std.proofs.Common.{◌≡◌, ◌≢◌, ◌∙◌, ℕ, Bool, true, false, true≢false, cond, not, ◌&&◌, is_none, is_some, nat_eq, nat_lt, find, List, [], ◌∷◌, ◌++◌, map, length, Option, Some, None, Contains, refl, sym, ap}
use Rattle.std.specs.List.{count_by, flat_map, list_any}
use Rattle.std.specs.Option.{option_map_or}
use Rattle.null_logic.specs.declared.operator.Operator.TheVariants as x
use Rattle.null_logic.specs.declared.compare.Compare.TheVariants.{Equal, NotEqual}
use Rattle.perm_values.specs.declared.kind.Kind.{Kind}
use Rattle.perm_values.specs.declared.kind.Kind.TheVariants as kind
use Rattle.bag_algebra.proofs.MembersByIndex.{in-from_contains}
use Rattle.bag_algebra.specs.declared.expr.Expr.{Expr}
use Rattle.bag_algebra.specs.declared.expr.Expr.TheVariants.{Op, IsNull, IsTruth, Same}
use Rattle.bag_algebra.specs.declared.query.SubKind.{SubKind}
use Rattle.query_facts.specs.monotone.Monotone.{is_monotone}
use Rattle.perm_catalog.specs.Changes.{table_named, view_named, is_free}
use Rattle.perm_catalog.specs.Columns.{column_kinds}
use Rattle.perm_catalog.specs.Contents.{Contents}
use Rattle.perm_catalog.specs.Lookups.{first_user}
use Rattle.perm_catalog.specs.declared.entries.TableEntry.{TableEntry}
use Rattle.perm_catalog.specs.declared.entries.ViewEntry.{ViewEntry}
use Rattle.sql_tree.specs.declared.expression.AggWord.{AggWord}
use Rattle.sql_tree.specs.declared.expression.ExprBody.TheOpen.{ExprBody-F, SelectItem-F, SetTree-F, FromSource-F}
use Rattle.sql_tree.specs.declared.expression.ExprTree.{ExprTree}
use Rattle.sql_tree.specs.declared.name.ColRef.{ColRef}
use Rattle.sql_tree.specs.declared.name.Name.{Name}
use Rattle.sql_tree.specs.declared.query.OrderKey.{OrderKey}
use Rattle.sql_tree.specs.declared.query.OrderKey.TheVariants.{Named as named_key, Position}
use Rattle.sql_tree.specs.declared.query.OrderTree.{OrderTree}
use Rattle.sql_tree.specs.declared.query.QueryTree.{QueryTree}
use Rattle.sql_tree.specs.declared.source.ScopeMark.{ScopeMark}
use Rattle.sql_tree.specs.declared.source.ScopeMark.TheVariants as mark
use Rattle.sql_tree.specs.declared.statement.ColumnDef.{ColumnDef}
use Rattle.sql_tree.specs.declared.statement.Statement.{Statement}
use Rattle.sql_tree.specs.declared.statement.StatementBody.{StatementBody}
use Rattle.sql_tree.specs.declared.statement.StatementBody.TheVariants as st
use Rattle.sql_tree.specs.declared.statement.ValuesRow.{ValuesRow}
use Rattle.name_meaning.proofs.Equations.{ExprBodyFrame, SelectItemFrame, SetTreeFrame, FromSourceFrame, CoreFrame}
use Rattle.name_meaning.specs.Cores.{BodyPart, core_step, core_over, core_seen, has_some, group_scope, group_break, group_found, word_breaks}
use Rattle.name_meaning.specs.Expressions.{Body, ArmPart, StepPart, body_step, first_of, second_of, negated_if, times, chain_made, step_operand, first_need, chain_gives, in_kind, arm_operands, else_operand, case_made}
use Rattle.name_meaning.specs.Froms.{Read, SourcePart, named, inner, FromItemPart, FromMeant, FromPart, ItemMeant, JoinPart, attribute_breaks, column_breaks, condition_breaks, first_item, from_all, from_more, beside_from, in_on, item_meant, join_all, join_item, label_of, mark_breaks, named_so, names_of, optional_breaks, on_meant, both_known, scope_items, read_of, read_named, read_table, read_view, read_nothing, scope_name, source_step, applied, in_from, joined, joined_around, joined_item, in_clause, optional_meant}
use Rattle.name_meaning.specs.Items.{SelectPart, columns_meant, item_step, no_columns, star_meant, table_star_meant, items_breaks, is_ungrouped}
use Rattle.name_meaning.specs.Meanings.{Around, Meant, OutColumn, Part, QueryMeant, QueryPart, Surroundings, broken, broken_if, is_whole, means_at, query_means_at, seen_kind, unites}
use Rattle.name_meaning.specs.Operands.{Operand, first_unfit, gives_of, need_of, node, operand, operated, parts_breaks, unfit_break}
use Rattle.name_meaning.specs.Queries.{SetStepPart, do_unite, is_named, is_position, asks_provenance, key_break, keys_breaks, operand_breaks, query_seen, set_chain, set_joined, set_step, may_not_ask}
use Rattle.name_meaning.specs.Scopes.{ScopeItem, item_columns, look_up, placed, scope_of}
use Rattle.name_meaning.specs.Statements.{alone, bare, breaks, columns_of, delete_breaks, has_boolean, impact_parts, impact_query, limit_breaks, most_query_columns, most_table_columns, name_breaks, named_query_breaks, on_table, query_limits, query_meant, repeated_columns, repeats, row_breaks, size_limit, table_scope, taken, unknown_table, used, value_breaks, values_breaks, width_limit}
use Rattle.name_meaning.specs.Sublinks.{aggregate_meant, around_of, breaking, column_meant, exists_meant, first_kind, if_standing, in_argument, in_tested, is_one_column, scalar_meant, takes_kind, tested_break, tested_looked, tested_meant, tested_unlooked}
use Rattle.name_meaning.specs.Trees.{part_of, query_of}
use Rattle.name_meaning.specs.declared.answer.Break.{Break}
use Rattle.name_meaning.specs.declared.need.Gives.{Gives}
use Rattle.name_meaning.specs.declared.need.Gives.TheVariants.{Always as always, Common as common}
use Rattle.name_meaning.specs.declared.need.Need.TheVariants.{OfKind as of_kind, Alike as alike, Free as free}
use Rattle.name_meaning.specs.declared.scope.Found.{Found}
use Rattle.name_meaning.specs.declared.scope.Found.TheVariants as column
use Rattle.name_meaning.specs.declared.scope.Scope.{Scope}
use Rattle.name_meaning.proofs.Every.{every-flat_map, every-map}
use Rattle.name_meaning.proofs.Induction.{BodyParts, ItemParts, SetParts, SourceParts, CoreParts, Optional, AreKept, kept-part, kept-query}
use Rattle.name_meaning.specs.declared.rule.Rule.TheVariants as rule
use Rattle.name_meaning.specs.declared.rule.Rule.{Rule}
use Rattle.name_meaning.specs.Codes.{code_of}
use Rattle.sql_tree.specs.Regular.{is_lateral}
use Rattle.contribution.proofs.WhereGood.{Every, every-append, each-in}

abbrev pub IsUnspent : Break → Type 0
IsUnspent b = b.rule ≢ rule.NumbersSpent

abbrev pub Unspent : List Break → Type 0
Unspent bs = Every IsUnspent bs

-- ---- lists of breaks

another : (which : Rule) → nat_eq (code_of which) 17 ≡ false → which ≢ rule.NumbersSpent
another which h e = true≢false (ap (λ (other : Rule). nat_eq (code_of other) 17) (sym e) ∙ h)

one : (which : Rule) (at : ℕ) → nat_eq (code_of which) 17 ≡ false → Unspent (broken which at ∷ [])
one which at h = (another which h, tt)

one_if : (b : Bool) (which : Rule) (at : ℕ) → nat_eq (code_of which) 17 ≡ false → Unspent (broken_if b which at)
one_if true which at h = one which at h
one_if false which at h = tt

both : (xs ys : List Break) → Unspent xs → Unspent ys → Unspent (xs ++ ys)
both xs ys h k = every-append IsUnspent xs ys h k

three : (xs ys zs : List Break) → Unspent xs → Unspent ys → Unspent zs → Unspent (xs ++ ys ++ zs)
three xs ys zs h k l = both (xs ++ ys) zs (both xs ys h k) l

four : (xs ys zs us : List Break) → Unspent xs → Unspent ys → Unspent zs → Unspent us → Unspent (xs ++ ys ++ zs ++ us)
four xs ys zs us h k l m = both (xs ++ ys ++ zs) us (three xs ys zs h k l) m

all : {X : Type 0} (f : X → List Break) (xs : List X) → ((x : X) → Unspent (f x)) → Unspent (flat_map f xs)
all f [] h = tt
all f (x ∷ xs) h = both (f x) (flat_map f xs) (h x) (all f xs h)

chosen : (b : Bool) (xs ys : List Break) → Unspent xs → Unspent ys → Unspent (cond b xs ys)
chosen true xs ys h k = h
chosen false xs ys h k = k

if_there : {X : Type 0} (f : X → List Break) (o : Option X) (other : List Break) → ((x : X) → Unspent (f x)) → Unspent other → Unspent (option_map_or f o other)
if_there f None other h k = k
if_there f (Some x) other h k = h x

either-query : (b : Bool) (m n : QueryMeant) → Unspent m.breaks → Unspent n.breaks → Unspent (cond b m n).breaks
either-query true m n h k = h
either-query false m n h k = k

-- ---- parts

abbrev UnspentPart : Part → Type 0
UnspentPart part = (here : Surroundings) → Unspent (part.means here).breaks

abbrev UnspentBody : Body → Type 0
UnspentBody body = (at : ℕ) (here : Surroundings) → Unspent (body.means at here).breaks

abbrev UnspentItem : SelectPart → Type 0
UnspentItem item = (has_from : Bool) (scope : Scope) (here : Surroundings) → Unspent (item.means has_from scope here).breaks

abbrev UnspentCore : BodyPart → Type 0
UnspentCore core = (around : Around) → Unspent (core.means around).breaks

abbrev UnspentQuery : QueryPart → Type 0
UnspentQuery query = (around : Around) → Unspent (query.means around).breaks

abbrev UnspentSource : SourcePart → Type 0
UnspentSource (named name) = Unit {0}
UnspentSource (inner query) = UnspentQuery query

abbrev UnspentArm : ArmPart → Type 0
UnspentArm arm = UnspentPart arm.condition × UnspentPart arm.value

abbrev UnspentStep : StepPart → Type 0
UnspentStep step = UnspentPart step.part

abbrev UnspentOperand : SetStepPart → Type 0
UnspentOperand step = UnspentCore step.operand

abbrev UnspentFromItem : FromItemPart → Type 0
UnspentFromItem item = (around : Around) (earlier : List (List ℕ)) → Unspent (item.means around earlier).breaks

abbrev UnspentFrom : FromPart → Type 0
UnspentFrom part = (outer : List Scope) (earlier : List (List ℕ)) → Unspent (part.means outer earlier).breaks

abbrev UnspentOptional : Option Part → Type 0
UnspentOptional None = Unit {0}
UnspentOptional (Some part) = UnspentPart part

abbrev UnspentJoin : JoinPart → Type 0
UnspentJoin join = UnspentFromItem join.item × UnspentOptional join.condition

-- ---- expressions

abbrev OperandUnspent : Operand → Type 0
OperandUnspent o = Unspent o.meant.breaks

unfit : (o : Option ℕ) → Unspent (unfit_break o)
unfit None = tt
unfit (Some at) = one rule.UnfitKind at refl

unspent-node : (gives : Gives) (assembled : List Expr → Expr) (os : List Operand) → Every OperandUnspent os → Unspent (node gives assembled os).breaks
unspent-node gives assembled os h =
    both (parts_breaks os) (unfit_break (first_unfit None os)) (every-flat_map OperandUnspent IsUnspent (λ (o : Operand). o.meant.breaks) (λ o k. k) os h) (unfit (first_unfit None os))

unspent-operated : (op : _) (prefix : Bool) (assembled : List Expr → Expr) (here : Surroundings) (parts : List Part) → Every UnspentPart parts → Unspent (operated op prefix assembled here parts).breaks
unspent-operated op prefix assembled here parts h =
    unspent-node (gives_of op prefix) assembled (map (operand here (need_of op prefix)) parts)
    (every-map UnspentPart OperandUnspent (operand here (need_of op prefix)) (λ part k. k here) parts h)

unspent-column : (here : Surroundings) (at : ℕ) (found : Found) → Unspent (column_meant here at found).breaks
unspent-column here at column.Absent = one rule.UnknownColumn at refl
unspent-column here at column.Ambiguous = one rule.AmbiguousColumn at refl
unspent-column here at (column.Column seen) = both _ _ (one_if (not (is_some seen.place)) rule.UngroupedColumn at refl) (one_if (here.argument && nat_lt 0 seen.level) rule.MisplacedAggregate at refl)

unspent-aggregate : (here : Surroundings) (at : ℕ) (word : AggWord) (argument : Option Part) → UnspentOptional argument → Unspent (aggregate_meant here at word argument).breaks
unspent-aggregate here at word None h = one_if (not here.aggregates) rule.MisplacedAggregate at refl
unspent-aggregate here at word (Some argument) h =
    let m = argument.means (in_argument here) in
    three m.breaks (broken_if (not here.aggregates) rule.MisplacedAggregate at) (broken_if (not (takes_kind word (seen_kind m))) rule.UnfitKind argument.at)
    (h (in_argument here)) (one_if (not here.aggregates) rule.MisplacedAggregate at refl) (one_if (not (takes_kind word (seen_kind m))) rule.UnfitKind argument.at refl)

unspent-if_standing : (here : Surroundings) (at : ℕ) (kind : Option Kind) (m : Meant) → Unspent m.breaks → Unspent (if_standing here at kind m).breaks
unspent-if_standing here at kind m h = by_place here.sublinks where
  by_place : (b : Bool) → Unspent (cond b m (breaking rule.MisplacedSublink at kind)).breaks
  by_place true = h
  by_place false = one rule.MisplacedSublink at refl

unspent-scalar : (here : Surroundings) (at : ℕ) (query : QueryMeant) → Unspent query.breaks → Unspent (scalar_meant here at query).breaks
unspent-scalar here at query h = both query.breaks (broken_if (not (is_one_column query.columns)) rule.UnfitWidth at) h (one_if (not (is_one_column query.columns)) rule.UnfitWidth at refl)

unspent-tested : (here : Surroundings) (at : ℕ) (sub : SubKind) (part : Part) (query : QueryPart) → UnspentPart part → UnspentQuery query → Unspent (tested_meant here at sub part query).breaks
unspent-tested here at sub part query h k = by_place here.sublinks where
  t : Meant
  t = part.means (in_tested here)

  q : QueryMeant
  q = query.means (around_of here)

  by_place : (b : Bool) → Unspent (cond b (tested_looked sub t query.at q) (tested_unlooked at t)).breaks
  by_place true = three t.breaks q.breaks (tested_break (seen_kind t) query.at q) (h (in_tested here)) (k (around_of here))
      (chosen (is_one_column q.columns) _ _ (one_if (not (unites (seen_kind t) (first_kind q))) rule.UnfitKind query.at refl) (one rule.UnfitWidth query.at refl))
  by_place false = both t.breaks (broken rule.MisplacedSublink at ∷ []) (h (in_tested here)) (one rule.MisplacedSublink at refl)

arm-operands : (here : Surroundings) (arms : List ArmPart) → Every UnspentArm arms → Every OperandUnspent (flat_map (arm_operands here) arms)
arm-operands here arms h = every-flat_map UnspentArm OperandUnspent (arm_operands here) (λ arm k. (k.0 here, (k.1 here, tt))) arms h

case-operands : (here : Surroundings) (arms : List ArmPart) (otherwise : Option Part) → Every UnspentArm arms → UnspentOptional otherwise →
    Every OperandUnspent (flat_map (arm_operands here) arms ++ else_operand here otherwise ∷ [])
case-operands here arms None h k = every-append OperandUnspent (flat_map (arm_operands here) arms) (else_operand here None ∷ []) (arm-operands here arms h) (tt, tt)
case-operands here arms (Some part) h k = every-append OperandUnspent (flat_map (arm_operands here) arms) (else_operand here (Some part) ∷ []) (arm-operands here arms h) (k here, tt)

-- ---- queries

unspent-condition : (at : ℕ) (m : Meant) → Unspent m.breaks → Unspent (condition_breaks at m)
unspent-condition at m h = both m.breaks _ h (one_if (not (unites (Some kind.Boolean) (seen_kind m))) rule.UnfitKind at refl)

unspent-optional : (here : Surroundings) (part : Option Part) → UnspentOptional part → Unspent (optional_breaks part (optional_meant here part))
unspent-optional here None h = tt
unspent-optional here (Some part) h = unspent-condition part.at (part.means here) (h here)

unspent-group : (scope : Scope) (group : ColRef) → Unspent (group_break scope group)
unspent-group scope group = by_found (group_found scope group) where
  by_found : (found : Found) → Unspent (elim found [ column.Absent ↦ broken rule.UnknownColumn group.at ∷ [] | column.Ambiguous ↦ broken rule.AmbiguousColumn group.at ∷ [] | column.Column c ↦ [] ])
  by_found column.Absent = one rule.UnknownColumn group.at refl
  by_found column.Ambiguous = one rule.AmbiguousColumn group.at refl
  by_found (column.Column c) = tt

unspent-columns : (scope : Scope) (at : ℕ) (columns : List _) → Unspent (columns_meant scope at columns).breaks
unspent-columns scope at columns = one_if (list_any (is_ungrouped scope) columns) rule.UngroupedColumn at refl

unspent-star : (has_from : Bool) (scope : Scope) (at : ℕ) → Unspent (star_meant has_from scope at).breaks
unspent-star true scope at = unspent-columns scope at (placed scope)
unspent-star false scope at = one rule.UnknownColumn at refl

unspent-table_star : (scope : Scope) (table : Name) → Unspent (table_star_meant scope table).breaks
unspent-table_star scope table = by_columns (item_columns table.text scope) where
  by_columns : (o : Option (List _)) → Unspent (option_map_or (columns_meant scope table.at) o (no_columns table.at)).breaks
  by_columns None = one rule.UnknownColumn table.at refl
  by_columns (Some columns) = unspent-columns scope table.at columns

unspent-word : (around : Around) (word : Option ℕ) → Unspent (word_breaks around word)
unspent-word around word = chosen around.may_ask [] _ tt (if_there (λ at. broken rule.MisplacedProvenance at ∷ []) word [] (λ at. one rule.MisplacedProvenance at refl) tt)

unspent-items : (has_from : Bool) (scope : Scope) (here : Surroundings) (items : List SelectPart) → Every UnspentItem items →
    Unspent (items_breaks (map (λ (item : SelectPart). item.means has_from scope here) items))
unspent-items has_from scope here [] h = tt
unspent-items has_from scope here (item ∷ items) h = both _ _ (h.0 has_from scope here) (unspent-items has_from scope here items h.1)

module _ (around : Around) (word : Option ℕ) (input : FromMeant) (has_from is_distinct : Bool) (items : List SelectPart) (condition : Option Part) (groups : List ColRef) (having : Option Part) where
  unspent-core_over : (scope_items : List ScopeItem) → Every UnspentItem items → UnspentOptional condition → UnspentOptional having →
      Unspent (core_over around.outer (word_breaks around word) input has_from is_distinct items condition groups having scope_items).breaks
  unspent-core_over scope_items h k l =
      let own : Scope = scope_of scope_items in
      let grouped : Scope = group_scope own groups having items in
      let here = in_clause own around.outer false in
      let grouped_here = in_clause grouped around.outer true in
      both (word_breaks around word) _ (unspent-word around word)
      (four (optional_breaks condition (optional_meant here condition)) (flat_map (group_break own) groups) (optional_breaks having (optional_meant grouped_here having)) _
      (unspent-optional here condition k) (all (group_break own) groups (unspent-group own)) (unspent-optional grouped_here having l)
      (unspent-items has_from grouped grouped_here items h))

  unspent-core_seen : Unspent input.breaks → Every UnspentItem items → UnspentOptional condition → UnspentOptional having →
      Unspent (core_seen around word input has_from is_distinct items condition groups having).breaks
  unspent-core_seen g h k l =
      either-query (is_whole input.breaks) _ _ (unspent-core_over (option_map_or (λ known. known) input.items []) h k l) (both (word_breaks around word) input.breaks (unspent-word around word) g)

unspent-operands : (at : ℕ) (left right : Option (List OutColumn)) → Unspent (operand_breaks at left right)
unspent-operands at None right = tt
unspent-operands at (Some left) None = tt
unspent-operands at (Some left) (Some right) = chosen (nat_eq (length left) (length right)) _ _ (one_if (not (do_unite left right)) rule.UnfitKind at refl) (one rule.UnfitWidth at refl)

unspent-chain : (around : Around) (left : QueryMeant) (steps : List SetStepPart) → Unspent left.breaks → Every UnspentOperand steps → Unspent (set_chain around left steps).breaks
unspent-chain around left [] h k = h
unspent-chain around left (step ∷ steps) h k =
    let right = step.operand.means (may_not_ask around) in
    unspent-chain around (set_joined left step right) steps
    (three left.breaks right.breaks (operand_breaks step.at left.columns right.columns) h (k.0 (may_not_ask around)) (unspent-operands step.at left.columns right.columns)) k.1

unspent-key : (columns : List OutColumn) (tree : OrderTree) → Unspent (key_break columns tree)
unspent-key columns tree = by_key tree.key where
  by_key : (key : OrderKey) → Unspent (elim key [
    | named_key name ↦ broken_if (nat_eq (count_by (is_named name) columns) 0) rule.UnknownColumn tree.at ++ broken_if (nat_lt 1 (count_by (is_named name) columns)) rule.AmbiguousColumn tree.at
    | Position n ↦ broken_if (not (is_position n (length columns))) rule.UnknownColumn tree.at
  ])
  by_key (named_key name) = both _ _ (one_if (nat_eq (count_by (is_named name) columns) 0) rule.UnknownColumn tree.at refl) (one_if (nat_lt 1 (count_by (is_named name) columns)) rule.AmbiguousColumn tree.at refl)
  by_key (Position n) = one_if (not (is_position n (length columns))) rule.UnknownColumn tree.at refl

unspent-keys : (columns : Option (List OutColumn)) (order : List OrderTree) → Unspent (keys_breaks columns order)
unspent-keys columns order = if_there (λ known. flat_map (key_break known) order) columns [] (λ known. all (key_break known) order (unspent-key known)) tt

unspent-query : (around : Around) (at : ℕ) (body : BodyPart) (order : List OrderTree) (limit : Option _) → UnspentCore body → Unspent (query_seen around at body order limit).breaks
unspent-query around at body order limit h =
    let traced = body.means around in
    let plain = body.means around in
    either-query (asks_provenance around body) _ _ (both traced.breaks (keys_breaks traced.columns order) (h around) (unspent-keys traced.columns order))
    (both plain.breaks (keys_breaks plain.columns order) (h around) (unspent-keys plain.columns order))

-- ---- FROM

unspent-attributes : (names : Option (List (List ℕ))) (earlier : List (List ℕ)) (attributes : List Name) → Unspent (attribute_breaks names earlier attributes)
unspent-attributes names earlier [] = tt
unspent-attributes names earlier (attribute ∷ attributes) =
    three (option_map_or (column_breaks attribute) names []) (broken_if (list_any (named_so attribute.text) earlier) rule.RepeatedColumn attribute.at) (attribute_breaks names (attribute.text ∷ earlier) attributes)
    (if_there (column_breaks attribute) names [] (λ known. both _ _ (one_if (nat_eq (count_by (named_so attribute.text) known) 0) rule.UnknownColumn attribute.at refl) (one_if (nat_lt 1 (count_by (named_so attribute.text) known)) rule.AmbiguousColumn attribute.at refl)) tt)
    (one_if (list_any (named_so attribute.text) earlier) rule.RepeatedColumn attribute.at refl) (unspent-attributes names (attribute.text ∷ earlier) attributes)

unspent-mark : (m : ScopeMark) (names : Option (List (List ℕ))) → Unspent (mark_breaks m names)
unspent-mark mark.Plain names = tt
unspent-mark mark.BaseRelation names = tt
unspent-mark (mark.External attributes) names = unspent-attributes names [] attributes

module _ (c : Contents) where
  unspent-read_named : (name : Name) → Unspent (read_named c name).breaks
  unspent-read_named name = by_table (table_named c name.text) (view_named c name.text) where
    by_table : (table : Option TableEntry) (view : Option ViewEntry) →
        Unspent (option_map_or (read_table name.text) table (option_map_or (read_view name.text) view (read_nothing name))).breaks
    by_table (Some table) view = tt
    by_table None (Some view) = tt
    by_table None None = one rule.UnknownRelation name.at refl

  unspent-read : (around : Around) (source : SourcePart) → UnspentSource source → Unspent (read_of c around source).breaks
  unspent-read around (named name) h = unspent-read_named name
  unspent-read around (inner query) h = h around

unspent-item_meant : (at : ℕ) (m : ScopeMark) (earlier : List (List ℕ)) (name label : List ℕ) (read : Read) → Unspent read.breaks →
    Unspent (item_meant at m earlier name label read).breaks
unspent-item_meant at m earlier name label read h =
    three read.breaks (broken_if (list_any (named_so name) earlier) rule.RepeatedItem at) (mark_breaks m _)
    h (one_if (list_any (named_so name) earlier) rule.RepeatedItem at refl) (unspent-mark m _)

unspent-on : (outer : List Scope) (items : Option (List ScopeItem)) (condition : Option Part) → UnspentOptional condition → Unspent (optional_breaks condition (on_meant outer items condition))
unspent-on outer None None h = tt
unspent-on outer None (Some part) h = tt
unspent-on outer (Some items) None h = tt
unspent-on outer (Some items) (Some part) h = unspent-condition part.at (part.means (in_on items outer)) (h (in_on items outer))

unspent-join : (outer : List Scope) (left : FromMeant) (step : JoinPart) (m : ItemMeant) → Unspent left.breaks → Unspent m.breaks
    → UnspentOptional step.condition → Unspent (join_item outer left step m).breaks
unspent-join outer left step m h k condition = by_word (is_lateral step.word) where
  items : Option (List ScopeItem)
  items = both_known left.items (scope_items m)

  by_word : (lateral : Bool)
      → Unspent (cond lateral (applied left step.word m) (joined left step.word step.condition m (on_meant outer items step.condition))).breaks
  by_word true = both left.breaks m.breaks h k
  by_word false = three left.breaks m.breaks (optional_breaks step.condition (on_meant outer items step.condition)) h k (unspent-on outer items step.condition condition)

unspent-joins : (outer : List Scope) (left : FromMeant) (steps : List JoinPart) → Unspent left.breaks → Every UnspentJoin steps → Unspent (join_all outer left steps).breaks
unspent-joins outer left [] h k = h
unspent-joins outer left (step ∷ steps) h k =
    let m = joined_item outer left step in
    unspent-joins outer (join_item outer left step m) steps
    (unspent-join outer left step m h (k.0.0 (joined_around step.word outer left.items) left.names) k.0.1) k.1

unspent-more : (outer : List Scope) (left : FromMeant) (parts : List FromPart) → Unspent left.breaks → Every UnspentFrom parts → Unspent (from_more outer left parts).breaks
unspent-more outer left [] h k = h
unspent-more outer left (part ∷ parts) h k =
    unspent-more outer (beside_from left (part.means outer left.names)) parts (both left.breaks _ h (k.0 outer left.names)) k.1

unspent-from_all : (outer : List Scope) (parts : List FromPart) → Every UnspentFrom parts → Unspent (from_all outer parts).breaks
unspent-from_all outer [] h = tt
unspent-from_all outer (part ∷ parts) h = unspent-more outer (part.means outer []) parts (h.0 outer []) h.1

-- ---- every tree

module _ (c : Contents) where
  abbrev Parts : ExprBodyFrame → Type 0
  Parts = BodyParts c UnspentBody UnspentItem UnspentCore UnspentSource UnspentArm UnspentStep UnspentPart UnspentCore UnspentQuery UnspentOperand UnspentFromItem UnspentFrom UnspentJoin

  unspent-body : (frame : ExprBodyFrame) → Parts frame → UnspentBody (body_step frame)
  unspent-body ExprBody-F.Null h at here = tt
  unspent-body (ExprBody-F.NullOf k) h at here = tt
  unspent-body (ExprBody-F.Integer number) h at here = tt
  unspent-body (ExprBody-F.Text text) h at here = tt
  unspent-body (ExprBody-F.Truth truth) h at here = tt
  unspent-body (ExprBody-F.Column reference) h at here = unspent-column here reference.at (look_up 0 here.scopes reference)
  unspent-body (ExprBody-F.«ExprBody::Paren» part) h at here = h here
  unspent-body (ExprBody-F.Nots count part) h at here = unspent-operated x.Not true (λ es. times x.Not count (first_of es)) here (part ∷ []) (h, tt)
  unspent-body (ExprBody-F.Signs count part) h at here = unspent-operated x.Negate true (λ es. times x.Negate count (first_of es)) here (part ∷ []) (h, tt)
  unspent-body (ExprBody-F.Logic op parts) h at here = unspent-operated op false (Op op) here parts h
  unspent-body (ExprBody-F.«ExprBody::Chain» first steps) h at here =
      unspent-node (chain_gives steps) (chain_made steps) (operand here (first_need steps) first ∷ map (step_operand here) steps)
      (h.0 here, every-map UnspentStep OperandUnspent (step_operand here) (λ step k. k here) steps h.1)
  unspent-body (ExprBody-F.Compared op first second) h at here =
      unspent-operated (x.Compare op) false (Op (x.Compare op)) here (first ∷ second ∷ []) (h.0, (h.1, tt))
  unspent-body (ExprBody-F.Like negated text pattern) h at here =
      unspent-operated x.Like false (λ es. negated_if negated (Op x.Like es)) here (text ∷ pattern ∷ []) (h.0, (h.1, tt))
  unspent-body (ExprBody-F.Between negated part low high) h at here =
      unspent-operated x.Between false (λ es. negated_if negated (Op x.Between es)) here (part ∷ low ∷ high ∷ []) (h.0, (h.1, (h.2, tt)))
  unspent-body (ExprBody-F.InList negated part list) h at here =
      unspent-operated x.InList false (λ es. negated_if negated (Op x.InList es)) here (part ∷ list) h
  unspent-body (ExprBody-F.InQuery negated part query) h at here = unspent-tested here at (in_kind negated (cond negated NotEqual Equal)) part query h.0 h.1
  unspent-body (ExprBody-F.Quantified every op part query) h at here = unspent-tested here at (in_kind every op) part query h.0 h.1
  unspent-body (ExprBody-F.IsNull negated part) h at here =
      unspent-node (always kind.Boolean) (λ es. negated_if negated (IsNull (first_of es))) (operand here free part ∷ []) (h here, tt)
  unspent-body (ExprBody-F.IsTruth negated truth part) h at here =
      unspent-node (always kind.Boolean) (λ es. negated_if negated (IsTruth truth (first_of es))) (operand here (of_kind kind.Boolean) part ∷ []) (h here, tt)
  unspent-body (ExprBody-F.IsDistinct negated first second) h at here =
      unspent-node (always kind.Boolean) (λ es. negated_if (not negated) (Same (first_of es) (second_of es)))
      (operand here alike first ∷ operand here alike second ∷ []) (h.0 here, (h.1 here, tt))
  unspent-body (ExprBody-F.Case arms None) h at here =
      unspent-node common (case_made arms) (flat_map (arm_operands here) arms ++ else_operand here None ∷ []) (case-operands here arms None h tt)
  unspent-body (ExprBody-F.Case arms (Some otherwise)) h at here =
      unspent-node common (case_made arms) (flat_map (arm_operands here) arms ++ else_operand here (Some otherwise) ∷ []) (case-operands here arms (Some otherwise) h.0 h.1)
  unspent-body (ExprBody-F.Coalesce list) h at here =
      unspent-node common (Op x.Coalesce) (map (operand here alike) list) (every-map UnspentPart OperandUnspent (operand here alike) (λ part k. k here) list h)
  unspent-body (ExprBody-F.NullIf first second) h at here =
      unspent-node common (Op x.NullIf) (operand here alike first ∷ operand here alike second ∷ []) (h.0 here, (h.1 here, tt))
  unspent-body (ExprBody-F.Aggregate function None) h at here = unspent-aggregate here at function None tt
  unspent-body (ExprBody-F.Aggregate function (Some argument)) h at here = unspent-aggregate here at function (Some argument) h
  unspent-body (ExprBody-F.Exists query) h at here =
      unspent-if_standing here at (Some kind.Boolean) (exists_meant here query.at (query.means (around_of here))) (h (around_of here))
  unspent-body (ExprBody-F.Scalar query) h at here =
      unspent-if_standing here at None (scalar_meant here query.at (query.means (around_of here)))
      (unspent-scalar here query.at (query.means (around_of here)) (h (around_of here)))

  unspent-item : (frame : SelectItemFrame) → ItemParts c UnspentBody UnspentItem UnspentCore UnspentSource UnspentArm UnspentStep UnspentPart UnspentCore UnspentQuery UnspentOperand UnspentFromItem UnspentFrom UnspentJoin frame →
      UnspentItem (item_step frame)
  unspent-item (SelectItem-F.Star at) h has_from scope here = unspent-star has_from scope at
  unspent-item (SelectItem-F.TableStar table) h has_from scope here = unspent-table_star scope table
  unspent-item (SelectItem-F.Value expr name) h has_from scope here = h here

  unspent-set : (frame : SetTreeFrame) → SetParts c UnspentBody UnspentItem UnspentCore UnspentSource UnspentArm UnspentStep UnspentPart UnspentCore UnspentQuery UnspentOperand UnspentFromItem UnspentFrom UnspentJoin frame →
      UnspentCore (set_step frame)
  unspent-set (SetTree-F.Core core) h around = h around
  unspent-set (SetTree-F.«SetTree::Paren» query) h around = h (may_not_ask around)
  unspent-set (SetTree-F.«SetTree::Chain» first steps) h around = unspent-chain around (first.means around) steps (h.0 around) h.1

  unspent-source : (frame : FromSourceFrame) → SourceParts c UnspentBody UnspentItem UnspentCore UnspentSource UnspentArm UnspentStep UnspentPart UnspentCore UnspentQuery UnspentOperand UnspentFromItem UnspentFrom UnspentJoin frame →
      UnspentSource (source_step frame)
  unspent-source (FromSource-F.Named name) h = tt
  unspent-source (FromSource-F.Inner query) h = h

  optional : (part : Option Part) → Optional c UnspentBody UnspentItem UnspentCore UnspentSource UnspentArm UnspentStep UnspentPart UnspentCore UnspentQuery UnspentOperand UnspentFromItem UnspentFrom UnspentJoin part → UnspentOptional part
  optional None h = tt
  optional (Some part) h = h

  unspent-core : (frame : CoreFrame) → CoreParts c UnspentBody UnspentItem UnspentCore UnspentSource UnspentArm UnspentStep UnspentPart UnspentCore UnspentQuery UnspentOperand UnspentFromItem UnspentFrom UnspentJoin frame →
      UnspentCore (core_step frame)
  unspent-core frame h around =
      unspent-core_seen around frame.provenance (from_all around.outer frame.sources) (has_some frame.sources) frame.distinct frame.items frame.condition frame.groups frame.having
      (unspent-from_all around.outer frame.sources h.sources) h.items (optional frame.condition h.condition) (optional frame.having h.having)

  kept : AreKept c UnspentBody UnspentItem UnspentCore UnspentSource UnspentArm UnspentStep UnspentPart UnspentCore UnspentQuery UnspentOperand UnspentFromItem UnspentFrom UnspentJoin
  kept = record {
    body = unspent-body;
    item = unspent-item;
    set = unspent-set;
    source = unspent-source;
    arm = λ frame condition value. (condition, value);
    step = λ frame part. part;
    part = λ frame body here. body frame.at here;
    core = unspent-core;
    query = λ frame body around. unspent-query around frame.at frame.body frame.order frame.limit body;
    set_operand = λ frame operand. operand;
    from_item = λ frame source around earlier. unspent-item_meant frame.at frame.mark earlier (scope_name frame.source frame.alias) (label_of frame.source frame.alias)
        (read_of c around frame.source) (unspent-read c around frame.source source);
    from_tree = λ frame first joins outer earlier. unspent-joins outer (first_item earlier (frame.first.means (in_from outer) earlier)) frame.joins
        (first (in_from outer) earlier) joins;
    join = λ frame item condition. (item, optional frame.condition condition);
  }

  unspent-part_tree : (tree : ExprTree) → UnspentPart (part_of c tree)
  unspent-part_tree = kept-part c UnspentBody UnspentItem UnspentCore UnspentSource UnspentArm UnspentStep UnspentPart UnspentCore UnspentQuery UnspentOperand UnspentFromItem UnspentFrom UnspentJoin kept

  unspent-query_tree : (tree : QueryTree) → UnspentQuery (query_of c tree)
  unspent-query_tree = kept-query c UnspentBody UnspentItem UnspentCore UnspentSource UnspentArm UnspentStep UnspentPart UnspentCore UnspentQuery UnspentOperand UnspentFromItem UnspentFrom UnspentJoin kept

  unspent-meant : (tree : ExprTree) (here : Surroundings) → Unspent (means_at (part_of c tree) here).breaks
  unfolding means_at
  unspent-meant tree here = unspent-part_tree tree here

  unspent-query_meant : (tree : QueryTree) → Unspent (query_meant c tree).breaks
  unfolding query_means_at
  unspent-query_meant tree = unspent-query_tree tree alone

  unspent-impact_query : (tree : QueryTree) → Unspent (impact_query c tree).breaks
  unfolding query_means_at
  unspent-impact_query tree = unspent-query_tree tree (may_not_ask alone)

  -- ---- statements

  unspent-values : (kinds : List Kind) (values : List ExprTree) → Unspent (values_breaks c kinds values)
  unspent-values [] values = tt
  unspent-values (kind ∷ kinds) [] = tt
  unspent-values (kind ∷ kinds) (tree ∷ trees) =
      let m = means_at (part_of c tree) (bare []) in
      both (value_breaks kind (part_of c tree).at m) _ (both m.breaks _ (unspent-meant tree (bare [])) (one_if (not (unites (Some kind) (seen_kind m))) rule.UnfitKind (part_of c tree).at refl))
      (unspent-values kinds trees)

  unspent-row : (kinds : List Kind) (row : ValuesRow) → Unspent (row_breaks c kinds row)
  unspent-row kinds row = chosen (nat_eq (length row.values) (length kinds)) _ _ (unspent-values kinds row.values) (one rule.UnfitWidth row.at refl)

  unspent-repeated : (earlier : List (List ℕ)) (columns : List ColumnDef) → Unspent (repeated_columns earlier columns)
  unspent-repeated earlier [] = tt
  unspent-repeated earlier (column ∷ columns) =
      both _ _ (one_if (list_any (named_so column.name.text) earlier) rule.RepeatedColumn column.name.at refl) (unspent-repeated (column.name.text ∷ earlier) columns)

  unspent-named_query : (query : QueryTree) → Unspent (named_query_breaks query.at (query_meant c query))
  unspent-named_query query = both (query_meant c query).breaks _ (unspent-query_meant query) (one_if (repeats (names_of (columns_of (query_meant c query)))) rule.RepeatedColumn query.at refl)

  unspent-taken : (name : Name) → Unspent (taken c name)
  unspent-taken name = one_if (not (is_free c name.text)) rule.TakenName name.at refl

  unspent-unknown : (name : Name) → Unspent (unknown_table c name)
  unspent-unknown name = one_if (is_none (table_named c name.text)) rule.UnknownRelation name.at refl

  unspent-used : (name : Name) → Unspent (used c name)
  unspent-used name = one_if (is_some (first_user c name.text)) rule.UsedByView name.at refl

  unspent-delete : (table : Name) (condition : Option ExprTree) → Unspent (on_table c table (delete_breaks c table condition))
  unspent-delete table condition =
      if_there (delete_breaks c table condition) (table_named c table.text) (broken rule.UnknownRelation table.at ∷ [])
      (λ entry. if_there (λ tree. condition_breaks (part_of c tree).at (means_at (part_of c tree) (bare (table_scope table entry ∷ [])))) condition []
      (λ tree. unspent-condition (part_of c tree).at (means_at (part_of c tree) (bare (table_scope table entry ∷ []))) (unspent-meant tree (bare (table_scope table entry ∷ [])))) tt)
      (one rule.UnknownRelation table.at refl)

  unspent-names : (body : StatementBody) → Unspent (name_breaks c body)
  unspent-names (st.CreateTable table columns) = both _ _ (unspent-taken table) (unspent-repeated [] columns)
  unspent-names (st.CreateTableAs table query) =
      three _ _ _ (unspent-taken table) (unspent-named_query query) (one_if (has_boolean (columns_of (query_meant c query))) rule.UnfitKind query.at refl)
  unspent-names (st.CreateView view query) = both _ _ (unspent-taken view) (unspent-named_query query)
  unspent-names (st.Copy table file header null_field) = unspent-unknown table
  unspent-names (st.Insert table rows) =
      if_there (λ (entry : TableEntry). flat_map (row_breaks c (column_kinds entry.columns)) rows) (table_named c table.text) (broken rule.UnknownRelation table.at ∷ [])
      (λ entry. all (row_breaks c (column_kinds entry.columns)) rows (unspent-row (column_kinds entry.columns))) (one rule.UnknownRelation table.at refl)
  unspent-names (st.Delete table condition) = unspent-delete table condition
  unspent-names (st.DropTable table) = both _ _ (unspent-unknown table) (unspent-used table)
  unspent-names (st.DropView view) = both _ _ (one_if (is_none (view_named c view.text)) rule.UnknownRelation view.at refl) (unspent-used view)
  unspent-names (st.Select query) = unspent-query_meant query
  unspent-names (st.Explain query) = unspent-query_meant query
  unspent-names (st.ShowFresh table) = unspent-unknown table
  unspent-names (st.Impact table condition query) =
      chosen (is_whole (impact_parts c table condition query)) _ _
      (one_if (not (is_monotone ((impact_query c query).make []))) rule.NotMonotone query.at refl)
      (both _ _ (unspent-delete table condition) (unspent-impact_query query))

  unspent-query_limits : (at : ℕ) (m : QueryMeant) → Unspent (query_limits at m)
  unspent-query_limits at m =
      both (width_limit m.inside.queries) (size_limit at (m.make []))
      (if_there (λ (query : ℕ × ℕ). broken rule.TooManyColumns query.0 ∷ []) (find (λ (query : ℕ × ℕ). nat_lt most_query_columns query.1) m.inside.queries) [] (λ query. one rule.TooManyColumns query.0 refl) tt)
      (one_if _ rule.TooLarge at refl)

  unspent-limits : (body : StatementBody) → Unspent (limit_breaks c body)
  unspent-limits (st.CreateTable table columns) = one_if (nat_lt most_table_columns (length columns)) rule.TooManyColumns table.at refl
  unspent-limits (st.CreateTableAs table query) =
      both _ _ (one_if (nat_lt most_table_columns (length (columns_of (query_meant c query)))) rule.TooManyColumns table.at refl) (unspent-query_limits query.at (query_meant c query))
  unspent-limits (st.CreateView view query) = unspent-query_limits query.at (query_meant c query)
  unspent-limits (st.Copy table file header null_field) = tt
  unspent-limits (st.Insert table rows) = tt
  unspent-limits (st.Delete table condition) = tt
  unspent-limits (st.DropTable table) = tt
  unspent-limits (st.DropView view) = tt
  unspent-limits (st.Select query) = unspent-query_limits query.at (query_meant c query)
  unspent-limits (st.Explain query) = unspent-query_limits query.at (query_meant c query)
  unspent-limits (st.ShowFresh table) = tt
  unspent-limits (st.Impact table condition query) = unspent-query_limits query.at (impact_query c query)

  pub breaks-unspent : (statement : Statement) → Unspent (breaks c statement)
  breaks-unspent statement = chosen (is_whole (name_breaks c statement.body)) _ _ (unspent-limits statement.body) (unspent-names statement.body)

pub no-number : (c : Contents) (statement : Statement) (b : Break) → Contains (breaks c statement) b → b.rule ≢ rule.NumbersSpent
no-number c statement b h = each-in IsUnspent b (breaks c statement) (breaks-unspent c statement) (in-from_contains b (breaks c statement) h)
