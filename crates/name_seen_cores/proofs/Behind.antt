-- Operands behind others, and a node over all of them.
use Rattle.std.specs.Prelude.{◌≡◌, ℕ, List, [], ◌∷◌, ◌++◌, Option, Result, Ok, Err}
use Rattle.std.proofs.Common.{refl, ap, sym, subst, ◌∙◌, append-nil}
use Rattle.perm_catalog.specs.Contents.{Contents}
use Rattle.perm_values.specs.declared.kind.Kind.{Kind}
use Rattle.bag_algebra.specs.declared.expr.Expr.{Expr}
use Rattle.bag_algebra.specs.declared.query.Sublink.{Sublink}
use Rattle.sql_tree.specs.declared.expression.ExprTree.{ExprTree}
use Rattle.name_meaning.specs.Meanings.{Before, Meant, Surroundings, settled, means_at}
use Rattle.name_meaning.specs.Operands.{Operand, operand, node, wanted_of, united, alike_wanted}
use Rattle.name_meaning.specs.Trees.{part_of}
use Rattle.name_meaning.specs.declared.answer.Break.{Break}
use Rattle.name_meaning.specs.declared.need.Gives.{Gives}
use Rattle.name_meaning.specs.declared.need.Need.{Need}
use Rattle.name_meaning.specs.laws.Facts.{both_facts, sub_facts}
use Rattle.name_meaning.proofs.FactsOf.{both_facts-none}
use Rattle.name_seen_parts.specs.Seen.{seen, no_operand, with_operand, whole_of, after, operands_seen}
use Rattle.name_seen_parts.specs.declared.operands.Operands.{Operands}
use Rattle.name_seen_parts.specs.declared.refusal.Refusal.{Refusal}
use Rattle.name_seen_parts.specs.declared.refusal.Refusal.TheVariants.{Break as Broken, NoMemory}
use Rattle.name_seen_parts.proofs.Arms.{operand-is}
use Rattle.name_seen_parts.proofs.OperandLists.{node-seen}
use Rattle.name_seen_cores.specs.from.Added.{facts_in}
use Rattle.name_seen_cores.specs.Expressed.{ExpressionSeen, OperandsSeen, OperandsBehind, answered, kind_over, operands_with}
use Rattle.name_seen_cores.specs.declared.from.facts.Facts.{Facts as Gathered}
use Rattle.name_seen_cores.proofs.Adding.{seen-both, adds-both}

-- ---- lists of operands

pub behind-nothing : (r : Result Operands Refusal) (facts : Gathered) → OperandsBehind [] r facts facts r
behind-nothing (Ok so_far) facts = record { found = refl; adds = λ alike before. sym (both_facts-none (facts_in facts)) }
behind-nothing (Err refusal) facts = refl

seen-behind : (os ps : List Operand) (so_far : Operands) (old middle new : Gathered) (r s : Result Operands Refusal)
    → OperandsSeen os so_far old middle r → OperandsBehind ps r middle new s → OperandsSeen (os ++ ps) so_far old new s
seen-behind os ps so_far old middle new (Ok all) (Ok behind) first second = record {
  found = seen-both os ps so_far ∙ ap (λ (r : Result Operands Break). after r (λ (all : Operands). operands_seen all ps)) first.found ∙ second.found;
  adds = adds-both os ps (facts_in old) (facts_in middle) (facts_in new) first.adds second.adds;
}
seen-behind os ps so_far old middle new (Ok all) (Err (Broken b)) first second =
    seen-both os ps so_far ∙ ap (λ (r : Result Operands Break). after r (λ (all : Operands). operands_seen all ps)) first.found ∙ second
seen-behind os ps so_far old middle new (Ok all) (Err NoMemory) first second = tt
seen-behind os ps so_far old middle new (Err (Broken b)) s first second =
    subst (λ s. OperandsSeen (os ++ ps) so_far old new s) (sym second)
    (seen-both os ps so_far ∙ ap (λ (r : Result Operands Break). after r (λ (all : Operands). operands_seen all ps)) first)
seen-behind os ps so_far old middle new (Err NoMemory) s first second =
    subst (λ s. OperandsSeen (os ++ ps) so_far old new s) (sym second) tt

pub behind-both : (os ps : List Operand) (q r s : Result Operands Refusal) (old middle new : Gathered)
    → OperandsBehind os q old middle r → OperandsBehind ps r middle new s → OperandsBehind (os ++ ps) q old new s
behind-both os ps (Ok so_far) r s old middle new first second = seen-behind os ps so_far old middle new r s first second
behind-both os ps (Err refusal) r s old middle new first second =
    subst (λ (r : Result Operands Refusal). OperandsBehind ps r middle new s) first second

-- ---- one operand

one-seen : (m : Meant) (need : Need) (at : ℕ) (so_far : Operands) (old new : Gathered) (r : Result (Option Kind) Refusal)
    → ExpressionSeen m old new r → OperandsSeen (record { at = at; need = need; meant = m } ∷ []) so_far old new (operands_with so_far need at r)
one-seen m need at so_far old new (Ok kind) shown = record {
  found = ap (λ (r : Result (Option Kind) Break). after r (λ (kind : Option Kind). Ok (with_operand need at kind so_far))) shown.found;
  adds = λ alike before. shown.adds (wanted_of alike need) before
      ∙ ap (λ (subs : List Sublink). both_facts (facts_in old) (sub_facts subs)) (sym (append-nil (m.make (wanted_of alike need) before).subs));
}
one-seen m need at so_far old new (Err (Broken first)) shown =
    ap (λ (r : Result (Option Kind) Break). after r (λ (kind : Option Kind). Ok (with_operand need at kind so_far))) shown
one-seen m need at so_far old new (Err NoMemory) shown = tt

pub operand-seen : (c : Contents) (here : Surroundings) (need : Need) (tree : ExprTree) (so_far : Operands) (old new : Gathered) (r : Result (Option Kind) Refusal)
    (s : Result Operands Refusal) → ExpressionSeen (means_at (part_of c tree) here) old new r → s ≡ operands_with so_far need tree.at r
    → OperandsSeen (operand here need (part_of c tree) ∷ []) so_far old new s
operand-seen c here need tree so_far old new r s shown is =
    subst (λ s. OperandsSeen (operand here need (part_of c tree) ∷ []) so_far old new s) (sym is)
    (subst (λ o. OperandsSeen (o ∷ []) so_far old new (operands_with so_far need tree.at r)) (operand-is c here need tree)
    (one-seen (means_at (part_of c tree) here) need tree.at so_far old new r shown))

-- ---- a node

pub answered-seen : (m : Meant) (old new : Gathered) (r : Result (Option Kind) Break) → seen m ≡ r
    → ((wanted : Kind) (before : Before) → facts_in new ≡ both_facts (facts_in old) (sub_facts (m.make wanted before).subs))
    → ExpressionSeen m old new (answered r)
answered-seen m old new (Ok kind) found adds = record { found = found; adds = adds }
answered-seen m old new (Err first) found adds = found

over-operands : (gives : Gives) (assembled : List Expr → Expr) (os : List Operand) (old new : Gathered) (r : Result Operands Refusal)
    → OperandsSeen os no_operand old new r → ExpressionSeen (node gives assembled os) old new (kind_over gives r)
over-operands gives assembled os old new (Ok all) shown =
    answered-seen (node gives assembled os) old new (whole_of gives all)
    (sym (node-seen gives assembled os) ∙ ap (λ (r : Result Operands Break). after r (whole_of gives)) shown.found)
    (λ wanted before. shown.adds (settled (united os) (alike_wanted gives wanted)) before)
over-operands gives assembled os old new (Err (Broken first)) shown =
    sym (node-seen gives assembled os) ∙ ap (λ (r : Result Operands Break). after r (whole_of gives)) shown
over-operands gives assembled os old new (Err NoMemory) shown = tt

pub meant-so : (m n : Meant) (old new : Gathered) (r : Result (Option Kind) Refusal) → m ≡ n → ExpressionSeen n old new r → ExpressionSeen m old new r
meant-so m n old new r e shown = subst (λ (m : Meant). ExpressionSeen m old new r) (sym e) shown

pub node-over : (gives : Gives) (assembled : List Expr → Expr) (os : List Operand) (m : Meant) (old new : Gathered) (r : Result Operands Refusal)
    (result : Result (Option Kind) Refusal)
    → m ≡ node gives assembled os → OperandsBehind os (Ok no_operand) old new r → result ≡ kind_over gives r → ExpressionSeen m old new result
node-over gives assembled os m old new r result e shown is =
    subst (λ (result : Result (Option Kind) Refusal). ExpressionSeen m old new result) (sym is) (meant-so m (node gives assembled os) old new (kind_over gives r) e (over-operands gives assembled os old new r shown))

-- a node over a first operand and those behind it
pub node-over_more : (gives : Gives) (assembled : List Expr → Expr) (o : Operand) (os : List Operand) (m : Meant) (old middle new : Gathered) (r s : Result Operands Refusal)
    (result : Result (Option Kind) Refusal)
    → m ≡ node gives assembled (o ∷ os) → OperandsBehind (o ∷ []) (Ok no_operand) old middle r → OperandsBehind os r middle new s → result ≡ kind_over gives s
    → ExpressionSeen m old new result
node-over_more gives assembled o os m old middle new r s result e first behind is =
    node-over gives assembled (o ∷ os) m old new s result e (behind-both (o ∷ []) os (Ok no_operand) r s old middle new first behind) is
