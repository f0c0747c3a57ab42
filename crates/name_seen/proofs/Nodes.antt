-- What stands over operands of which the first were answered or refused already, and over those of a CASE and an aggregate.
use Rattle.std.specs.Prelude.{◌≡◌, ℕ, List, [], ◌∷◌, ◌++◌, map, Option, Some, None, Result, Ok}
use Rattle.std.proofs.Common.{refl, sym, subst}
use Rattle.perm_catalog.specs.Contents.{Contents}
use Rattle.perm_values.specs.declared.kind.Kind.{Kind}
use Rattle.bag_algebra.specs.declared.expr.Expr.{Expr}
use Rattle.sql_tree.specs.declared.expression.AggWord.{AggWord}
use Rattle.sql_tree.specs.declared.expression.ArmTree.{ArmTree}
use Rattle.sql_tree.specs.declared.expression.ExprBody.TheVariants as e
use Rattle.sql_tree.specs.declared.expression.ExprStep.{ExprStep}
use Rattle.sql_tree.specs.declared.expression.ExprTree.{ExprTree}
use Rattle.name_meaning.specs.Expressions.{case_meant, chain_gives, step_operand}
use Rattle.name_meaning.specs.Meanings.{Meant, Part, Surroundings, means_at}
use Rattle.name_meaning.specs.Operands.{Operand, node}
use Rattle.name_meaning.specs.Sublinks.{aggregate_meant, aggregated, in_argument}
use Rattle.name_meaning.specs.Trees.{arm_of, part_of, step_of}
use Rattle.name_meaning.specs.declared.need.Gives.{Gives}
use Rattle.name_meaning.specs.declared.need.Need.{Need}
use Rattle.name_meaning.proofs.Forms.{means-aggregate-none, means-aggregate-some, means-case-none, means-case-some}
use Rattle.name_seen_parts.specs.Seen.{no_operand, seen}
use Rattle.name_seen_parts.specs.declared.operands.Operands.{Operands}
use Rattle.name_seen_parts.specs.declared.standing.Here.{Here}
use Rattle.name_seen_parts.specs.declared.refusal.Refusal.{Refusal}
use Rattle.name_seen_parts.specs.Told.{Tells}
use Rattle.name_seen_cores.specs.declared.from.facts.Facts.{Facts as Gathered}
use Rattle.name_seen_cores.specs.Behind.{optional_part}
use Rattle.name_seen_cores.specs.Expressed.{ExpressionSeen, OperandsBehind, kind_over}
use Rattle.name_seen_cores.proofs.Behind.{behind-both, behind-nothing, meant-so, node-over}
use Rattle.name_seen_cores.proofs.Sublinked.{aggregated-seen, rows-seen}
use Rattle.name_seen.proofs.WhereSeen.{operands_here}

pub none-first : (none : Operands) (facts : Gathered) → none ≡ no_operand → OperandsBehind [] (Ok no_operand) facts facts (Ok none)
none-first none facts e =
    subst (λ (so_far : Operands). OperandsBehind [] (Ok no_operand) facts facts (Ok so_far)) (sym e) (behind-nothing (Ok no_operand) facts)

pub node-behind : (gives : Gives) (assembled : List Expr → Expr) (first rest : List Operand) (before old new : Gathered) (so_far all : Result Operands Refusal)
    (result : Result (Option Kind) Refusal)
    → OperandsBehind first (Ok no_operand) before old so_far → OperandsBehind rest so_far old new all → result ≡ kind_over gives all
    → ExpressionSeen (node gives assembled (first ++ rest)) before new result
node-behind gives assembled first rest before old new so_far all result answered behind is =
    node-over gives assembled (first ++ rest) (node gives assembled (first ++ rest)) before new all result refl
    (behind-both first rest (Ok no_operand) so_far all before old new answered behind) is

-- the rest of one need, or the steps of a chain, where the code found them
pub rest-so : (gives_found gives : Gives) (need_found need : Need) (trees_found trees : List ExprTree) (here : Here) (first : Operand) (assembled : List Expr → Expr)
    (m : Meant) (old new : Gathered) (r : Result (Option Kind) Refusal) → gives_found ≡ gives → need_found ≡ need → trees_found ≡ trees
    → m ≡ node gives assembled (first ∷ operands_here here need trees)
    → ExpressionSeen (node gives_found assembled (first ∷ operands_here here need_found trees_found)) old new r → ExpressionSeen m old new r
rest-so gives_found gives need_found need trees_found trees here first assembled m old new r given needed same e shown =
    meant-so m (node gives assembled (first ∷ operands_here here need trees)) old new r e
    (subst (λ (trees : List ExprTree). ExpressionSeen (node gives assembled (first ∷ operands_here here need trees)) old new r) same
    (subst (λ (need : Need). ExpressionSeen (node gives assembled (first ∷ operands_here here need trees_found)) old new r) needed
    (subst (λ (gives : Gives). ExpressionSeen (node gives assembled (first ∷ operands_here here need_found trees_found)) old new r) given shown)))

pub steps-so : (c : Contents) (here : Surroundings) (steps_found steps : List ExprStep) (first : Operand) (assembled : List Expr → Expr)
    (m : Meant) (old new : Gathered) (r : Result (Option Kind) Refusal) → steps_found ≡ steps
    → m ≡ node (chain_gives (map (step_of c) steps)) assembled (first ∷ map (step_operand here) (map (step_of c) steps))
    → ExpressionSeen (node (chain_gives (map (step_of c) steps_found)) assembled (first ∷ map (step_operand here) (map (step_of c) steps_found))) old new r
    → ExpressionSeen m old new r
steps-so c here steps_found steps first assembled m old new r same e shown =
    meant-so m (node (chain_gives (map (step_of c) steps)) assembled (first ∷ map (step_operand here) (map (step_of c) steps))) old new r e
    (subst (λ (steps : List ExprStep). ExpressionSeen (node (chain_gives (map (step_of c) steps)) assembled (first ∷ map (step_operand here) (map (step_of c) steps))) old new r)
    same shown)

pub case-means : (c : Contents) (here : Surroundings) (tree : ExprTree) (arms : List ArmTree) (otherwise : Option ExprTree) → tree.body ≡ e.Case arms otherwise
    → means_at (part_of c tree) here ≡ case_meant here (map (arm_of c) arms) (optional_part c otherwise)
case-means c here tree arms None is = means-case-none c here tree arms is
case-means c here tree arms (Some otherwise) is = means-case-some c here tree arms otherwise is

-- ---- aggregates

pub aggregate-means : (c : Contents) (here : Surroundings) (tree : ExprTree) (word : AggWord) (argument : Option ExprTree) → tree.body ≡ e.Aggregate word argument
    → means_at (part_of c tree) here ≡ aggregate_meant here tree.at word (optional_part c argument)
aggregate-means c here tree word None is = means-aggregate-none c here tree word is
aggregate-means c here tree word (Some argument) is = means-aggregate-some c here tree word argument is

pub aggregate-alone : (here : Surroundings) (at : ℕ) (word : AggWord) (argument : Option Part) (facts : Gathered) (r : Result (Option Kind) Refusal)
    → Tells (seen (aggregate_meant here at word argument)) r → ExpressionSeen (aggregate_meant here at word argument) facts facts r
aggregate-alone here at word None facts r told = rows-seen here at word facts r told
aggregate-alone here at word (Some part) facts r told = aggregated-seen here at word part.at (part.means (in_argument here)) facts r told

pub argument-told : (here : Surroundings) (at : ℕ) (word : AggWord) (part : Part) (argument_at : ℕ) (r : Result (Option Kind) Refusal)
    → argument_at ≡ part.at → Tells (seen (aggregated here at word argument_at (means_at part (in_argument here)))) r
    → Tells (seen (aggregate_meant here at word (Some part))) r
unfolding means_at
argument-told here at word part argument_at r same told =
    subst (λ (n : ℕ). Tells (seen (aggregated here at word n (part.means (in_argument here)))) r) same told
