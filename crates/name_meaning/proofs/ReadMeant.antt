-- What holds of each table of the catalog holds of each that the sublinks of an expression read.
use Rattle.std.specs.Prelude.{ℕ, Bool, true, false, cond, List, [], ◌∷◌, ◌++◌, map, flat_map, take, drop, Option, Some, None}
use Rattle.std.specs.Option.{option_map_or}
use Rattle.null_logic.specs.declared.operator.Operator.{Operator}
use Rattle.perm_values.specs.declared.kind.Kind.{Kind}
use Rattle.bag_algebra.specs.built.Forms.{EachTableOfSubs}
use Rattle.bag_algebra.specs.TablesRead.{EachTable}
use Rattle.bag_algebra.specs.declared.expr.Expr.{Expr}
use Rattle.bag_algebra.specs.declared.query.SubKind.{SubKind}
use Rattle.sql_tree.specs.declared.expression.AggWord.{AggWord}
use Rattle.sql_tree.specs.declared.name.Name.{Name}
use Rattle.contribution.proofs.WhereGood.{Every, every-append}
use Rattle.name_meaning.specs.Expressions.{known, null_meant, StepPart, ArmPart, step_operand, arm_operands, else_operand, case_made, case_meant}
use Rattle.name_meaning.specs.Items.{Made, SelectMeant, SelectPart, columns_meant, no_columns, star_meant, table_star_meant, first_wanted, value_meant, width_of_item, made_items, items_inside}
use Rattle.name_meaning.specs.Meanings.{Surroundings, Before, Built, Meant, Part, Around, QueryMeant, QueryPart, settled}
use Rattle.name_meaning.specs.Operands.{Operand, operand, node, need_of, gives_of, operated, made_parts, behind, wanted_of, alike_wanted, united, parts_inside}
use Rattle.name_meaning.specs.Scopes.{Placed, item_columns}
use Rattle.name_meaning.specs.Sublinks.{column_meant, breaking, aggregate_meant, around_of, exists_meant, scalar_meant, in_tested, first_kind, tested_kind, tested_meant, tested_looked, tested_unlooked, if_standing}
use Rattle.name_meaning.specs.declared.need.Gives.{Gives}
use Rattle.name_meaning.specs.declared.need.Gives.TheVariants.{Common as common}
use Rattle.name_meaning.specs.declared.need.Need.{Need}
use Rattle.name_meaning.specs.declared.scope.Found.{Found}
use Rattle.name_meaning.specs.declared.scope.Found.TheVariants.{Absent as absent, Ambiguous as ambiguous, Column as found}
use Rattle.name_meaning.specs.declared.scope.Scope.{Scope}
use Rattle.name_meaning.proofs.Every.{every-map, every-flat_map}
use Rattle.name_meaning.proofs.ReadNodes.{Grows, wide-right, subs-left, subs-right, reads-append}
use Rattle.name_meaning.specs.declared.rule.Rule.TheVariants as rule
use Rattle.name_meaning.specs.declared.rule.Rule.{Rule}

module _ (P : List (List ℕ) → ℕ → List Kind → Type 0) (g : Grows P) where
  abbrev pub MeantReads : Meant → Type 0
  MeantReads m = (w : Kind) (n : Before) → EachTableOfSubs (P m.inside.names) (m.make w n).subs

  abbrev pub QueryReads : QueryMeant → Type 0
  QueryReads m = (w : List Kind) → EachTable (P m.inside.names) (m.make w)

  abbrev pub PartReads : Part → Type 0
  PartReads part = (here : Surroundings) → MeantReads (part.means here)

  abbrev pub QueryPartReads : QueryPart → Type 0
  QueryPartReads query = (around : Around) → QueryReads (query.means around)

  abbrev pub OperandReads : Operand → Type 0
  OperandReads o = MeantReads o.meant

  -- ---- operands

  reads-parts : (k : Kind) (os : List Operand) (n : Before) → Every OperandReads os → EachTableOfSubs (P (parts_inside os).names) (made_parts k os n).subs
  reads-parts k [] n h = tt
  reads-parts k (o ∷ os) n h =
      let first : Built = o.meant.make (wanted_of k o.need) n in
      let after : Before = behind n first.subs first.aggregates in
      let own : List (List ℕ) = o.meant.inside.names in
      let others : List (List ℕ) = (parts_inside os).names in
      reads-append (P (own ++ others)) first.subs (made_parts k os after).subs (subs-left P g own others first.subs (h.0 (wanted_of k o.need) n))
      (subs-right P g own others (made_parts k os after).subs (reads-parts k os after h.1))

  pub reads-node : (gives : Gives) (assembled : List Expr → Expr) (os : List Operand) → Every OperandReads os → MeantReads (node gives assembled os)
  reads-node gives assembled os h w n = reads-parts (settled (united os) (alike_wanted gives w)) os n h

  pub reads-operands : (here : Surroundings) (need : Need) (parts : List Part) → Every PartReads parts → Every OperandReads (map (operand here need) parts)
  reads-operands here need parts h = every-map PartReads OperandReads (operand here need) (λ part good. good here) parts h

  pub reads-operated : (op : Operator) (prefix : Bool) (assembled : List Expr → Expr) (here : Surroundings) (parts : List Part)
      → Every PartReads parts → MeantReads (operated op prefix assembled here parts)
  reads-operated op prefix assembled here parts h =
      reads-node (gives_of op prefix) assembled (map (operand here (need_of op prefix)) parts) (reads-operands here (need_of op prefix) parts h)

  abbrev pub StepReads : StepPart → Type 0
  StepReads step = PartReads step.part

  abbrev pub ArmReads : ArmPart → Type 0
  ArmReads arm = PartReads arm.condition × PartReads arm.value

  pub reads-steps : (here : Surroundings) (steps : List StepPart) → Every StepReads steps → Every OperandReads (map (step_operand here) steps)
  reads-steps here steps h = every-map StepReads OperandReads (step_operand here) (λ step good. good here) steps h

  pub reads-case : (here : Surroundings) (arms : List ArmPart) (otherwise : Option Part) → Every ArmReads arms
      → OperandReads (else_operand here otherwise) → MeantReads (case_meant here arms otherwise)
  reads-case here arms otherwise h o = reads-node common (case_made arms) (flat_map (arm_operands here) arms ++ else_operand here otherwise ∷ [])
      (every-append OperandReads (flat_map (arm_operands here) arms) (else_operand here otherwise ∷ [])
      (every-flat_map ArmReads OperandReads (arm_operands here) (λ arm good. (good.0 here, (good.1 here, tt))) arms h) (o, tt))

  -- ---- what has no sublink, and sublinks

  pub reads-known : (kind : Kind) (e : Expr) → MeantReads (known kind e)
  reads-known kind e w n = tt

  pub reads-null : MeantReads null_meant
  reads-null w n = tt

  pub reads-column : (here : Surroundings) (at : ℕ) (is : Found) → MeantReads (column_meant here at is)
  reads-column here at absent w n = tt
  reads-column here at ambiguous w n = tt
  reads-column here at (found column) w n = tt

  pub reads-aggregate : (here : Surroundings) (at : ℕ) (word : AggWord) (argument : Option Part) → MeantReads (aggregate_meant here at word argument)
  reads-aggregate here at word None w n = tt
  reads-aggregate here at word (Some argument) w n = tt

  reads-breaking : (which : Rule) (at : ℕ) (kind : Option Kind) → MeantReads (breaking which at kind)
  reads-breaking which at kind w n = tt

  pub reads-if_standing : (here : Surroundings) (at : ℕ) (kind : Option Kind) (m : Meant) → MeantReads m → MeantReads (if_standing here at kind m)
  reads-if_standing here at kind m good = chosen here.sublinks where
    chosen : (b : Bool) → MeantReads (cond b m (breaking rule.MisplacedSublink at kind))
    chosen true = good
    chosen false = reads-breaking rule.MisplacedSublink at kind

  pub reads-exists : (here : Surroundings) (at : ℕ) (q : QueryMeant) → QueryReads q → MeantReads (exists_meant here at q)
  reads-exists here at q good w n = (good [], tt)

  pub reads-scalar : (here : Surroundings) (at : ℕ) (q : QueryMeant) → QueryReads q → MeantReads (scalar_meant here at q)
  reads-scalar here at q good w n = (good (settled (first_kind q) w ∷ []), tt)

  pub reads-tested : (here : Surroundings) (at : ℕ) (sub : SubKind) (part : Part) (query : QueryPart) → PartReads part
      → QueryPartReads query → MeantReads (tested_meant here at sub part query)
  reads-tested here at sub part query good inner = chosen here.sublinks where
    chosen : (b : Bool) → MeantReads (cond b (tested_looked sub (part.means (in_tested here)) query.at (query.means (around_of here)))
        (tested_unlooked at (part.means (in_tested here))))
    chosen true = λ w n.
        let m : Meant = part.means (in_tested here) in
        let q : QueryMeant = query.means (around_of here) in
        let kind : List Kind = tested_kind m q ∷ [] in
        (wide-right P g m.inside.names q.inside.names (q.make kind) (inner (around_of here) kind), tt)
    chosen false = good (in_tested here)

  -- ---- a SELECT list

  abbrev pub SelectReads : SelectMeant → Type 0
  SelectReads m = (w : List Kind) (n : Before) → EachTableOfSubs (P m.inside.names) (m.make w n).subs

  abbrev pub ItemReads : SelectPart → Type 0
  ItemReads item = (has_from : Bool) (scope : Scope) (here : Surroundings) → SelectReads (item.means has_from scope here)

  pub reads-star : (has_from : Bool) (scope : Scope) (at : ℕ) → SelectReads (star_meant has_from scope at)
  reads-star true scope at w n = tt
  reads-star false scope at w n = tt

  pub reads-table_star : (scope : Scope) (table : Name) → SelectReads (table_star_meant scope table)
  reads-table_star scope table = chosen (item_columns table.text scope) where
    chosen : (columns : Option (List Placed)) → SelectReads (option_map_or (columns_meant scope table.at) columns (no_columns table.at))
    chosen None = λ w n. tt
    chosen (Some columns) = λ w n. tt

  pub reads-value : (name : Option (List ℕ)) (m : Meant) → MeantReads m → SelectReads (value_meant name m)
  reads-value name m good w n = good (settled m.kind (first_wanted w)) n

  pub reads-list : (ms : List SelectMeant) (w : List Kind) (n : Before) → Every SelectReads ms → EachTableOfSubs (P (items_inside ms).names) (made_items ms w n).subs
  reads-list [] w n h = tt
  reads-list (m ∷ ms) w n h =
      let width = width_of_item m in
      let first : Made = m.make (take width w) n in
      let after : Before = behind n first.subs first.aggregates in
      let own : List (List ℕ) = m.inside.names in
      let others : List (List ℕ) = (items_inside ms).names in
      reads-append (P (own ++ others)) first.subs (made_items ms (drop width w) after).subs (subs-left P g own others first.subs (h.0 (take width w) n))
      (subs-right P g own others (made_items ms (drop width w) after).subs (reads-list ms (drop width w) after h.1))
