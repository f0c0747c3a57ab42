-- Lists gone through one after the other.
use Rattle.std.specs.Prelude.{◌≡◌, ℕ, ◌+◌, ◌<◌, ◌≤◌, List, [], ◌∷◌, ◌++◌, length, map, flat_map, slice_index_or, Option, None, Result, Ok, Err, IfOk}
use Rattle.std.proofs.Common.{ap, sym, ◌∙◌, arith, take, get_or}
use Rattle.std.proofs.lemmas.Grind.{flat_map-append}
use Rattle.std.proofs.lemmas.List.{append-nil, length-map, length-take-le, map-append}
use Rattle.perm_catalog.specs.Contents.{Contents}
use Rattle.perm_values.specs.declared.kind.Kind.{Kind}
use Rattle.perm_values.specs.declared.kind.Kind.TheVariants as k
use Rattle.perm_values.proofs.Lists.{map-taken}
use Rattle.sql_tree.specs.declared.expression.ArmTree.{ArmTree}
use Rattle.sql_tree.specs.declared.expression.ExprTree.{ExprTree}
use Rattle.name_meaning.specs.Cores.{settle}
use Rattle.name_meaning.specs.Expressions.{ArmPart, arm_operands}
use Rattle.name_meaning.specs.Meanings.{OutColumn, Part, Surroundings, means_at, seen_kind, settled, united_kind}
use Rattle.name_meaning.specs.Operands.{Operand, operand, united}
use Rattle.name_meaning.specs.Trees.{arm_of, part_of}
use Rattle.name_meaning.specs.declared.need.Need.{Need}
use Rattle.name_meaning.specs.declared.need.Need.TheVariants.{Alike}
use Rattle.name_seen_parts.specs.Columns.{column_of, columns_of}
use Rattle.name_seen_parts.specs.declared.clauses.column.ShownColumn.{ShownColumn}
use Rattle.name_meaning.proofs.Chains.{settle-more}
use Rattle.name_meaning.proofs.FormsMade.{arm-is}
use Rattle.name_meaning.proofs.United.{arm-alike, next-alike, one-alike, united-append}

-- ---- what operands are united to

pub first-alike : {E : Type 0} (result : Result (Option Kind) E) (here : Surroundings) (part : Part) (so_far : Option Kind) (need : Need)
    → so_far ≡ None → need ≡ Alike → IfOk result (λ found. found ≡ seen_kind (means_at part here))
    → IfOk result (λ found. found ≡ united_kind so_far (united (operand here need part ∷ [])))
first-alike (Ok found) here part so_far need none alike is =
    is ∙ sym (one-alike here part)
    ∙ ap (λ (n : Need). united (operand here n part ∷ [])) (sym alike)
    ∙ ap (λ (known : Option Kind). united_kind known (united (operand here need part ∷ []))) (sym none)
first-alike (Err e) here part so_far need none alike is = tt

pub alike-more : (c : Contents) (here : Surroundings) (need : Need) (trees : List ExprTree) (i : ℕ) (tree : ExprTree) (so_far before after : Option Kind)
    → i < length trees → tree ≡ get_or trees i tree
    → before ≡ united_kind so_far (united (map (operand here need) (map (part_of c) (take i trees))))
    → after ≡ united_kind before (united (operand here need (part_of c tree) ∷ []))
    → after ≡ united_kind so_far (united (map (operand here need) (map (part_of c) (take (i + 1) trees))))
alike-more c here need trees i tree so_far before after within is first this =
    next-alike so_far (map (operand here need) (map (part_of c) (take i trees))) (operand here need (part_of c tree)) before after first this
    ∙ ap (λ (os : List Operand). united_kind so_far (united os))
    (sym (ap (map (operand here need)) (map-taken (part_of c) trees i tree within is) ∙ map-append (operand here need) (map (part_of c) (take i trees)) (part_of c tree ∷ [])))

pub arms-more : (c : Contents) (here : Surroundings) (arms : List ArmTree) (i : ℕ) (arm : ArmTree) (before after : Option Kind)
    → i < length arms → arm ≡ get_or arms i arm
    → before ≡ united (flat_map (arm_operands here) (map (arm_of c) (take i arms)))
    → after ≡ united_kind before (united (operand here Alike (part_of c arm.value) ∷ []))
    → after ≡ united (flat_map (arm_operands here) (map (arm_of c) (take (i + 1) arms)))
arms-more c here arms i arm before after within is first this =
    let so_far = flat_map (arm_operands here) (map (arm_of c) (take i arms)) in
    this ∙ ap (λ (known : Option Kind). united_kind known (united (operand here Alike (part_of c arm.value) ∷ []))) first
    ∙ ap (λ (part : ArmPart). united_kind (united so_far) (united (operand here Alike part.value ∷ []))) (sym (arm-is c arm))
    ∙ ap (united_kind (united so_far)) (sym (arm-alike here (arm_of c arm)))
    ∙ sym (united-append so_far (arm_operands here (arm_of c arm)))
    ∙ ap (λ (os : List Operand). united (so_far ++ os)) (sym (append-nil (arm_operands here (arm_of c arm))))
    ∙ sym (ap (λ (parts : List ArmPart). united (flat_map (arm_operands here) parts)) (map-taken (arm_of c) arms i arm within is)
    ∙ ap united (flat_map-append (arm_operands here) (map (arm_of c) (take i arms)) (arm_of c arm ∷ [])))

-- ---- kinds

pub kinds-more : (columns : List ShownColumn) (i : ℕ) (column : ShownColumn) (wanted before after : List Kind) (kind : Kind)
    → i < length columns → column ≡ get_or columns i column
    → before ≡ settle (columns_of (take i columns)) wanted → kind ≡ settled column.kind (slice_index_or wanted i k.Text) → after ≡ before ++ kind ∷ []
    → after ≡ settle (columns_of (take (i + 1) columns)) wanted
kinds-more columns i column wanted before after kind within is first this pushed =
    let short : i ≤ length columns = omega (arith, within) in
    let size : length (columns_of (take i columns)) ≡ i = length-map (take i columns) column_of ∙ length-take-le i columns short in
    pushed ∙ ap (λ (kinds : List Kind). kinds ++ kind ∷ []) first
    ∙ ap (λ (known : Kind). settle (columns_of (take i columns)) wanted ++ known ∷ []) this
    ∙ ap (λ (n : ℕ). settle (columns_of (take i columns)) wanted ++ settled column.kind (slice_index_or wanted n k.Text) ∷ []) (sym size)
    ∙ sym (settle-more (columns_of (take i columns)) (column_of column) wanted)
    ∙ ap (λ (columns : List OutColumn). settle columns wanted) (sym (map-taken column_of columns i column within is))
