-- Conditions of clauses and joins, whose kinds were answered or refused.
use Rattle.std.specs.Prelude.{◌≡◌, ℕ, not, Option, Some, None, Result, Ok, Err}
use Rattle.std.proofs.Common.{refl, ap, sym, subst, ◌∙◌}
use Rattle.perm_catalog.specs.Contents.{Contents}
use Rattle.perm_values.specs.declared.kind.Kind.{Kind}
use Rattle.perm_values.specs.declared.kind.Kind.TheVariants as kind
use Rattle.sql_tree.specs.declared.expression.ExprTree.{ExprTree}
use Rattle.name_meaning.specs.Froms.{condition_breaks, optional_meant}
use Rattle.name_meaning.specs.Meanings.{Meant, Part, Surroundings, broken_if, means_at, seen_kind, unites}
use Rattle.name_meaning.specs.Sublinks.{breaking, nothing_before}
use Rattle.name_meaning.specs.Trees.{part_of}
use Rattle.name_meaning.proofs.FactsOf.{both_facts-none}
use Rattle.name_seen_parts.specs.Seen.{first_or, seen}
use Rattle.name_seen_parts.specs.declared.refusal.Refusal.{Refusal}
use Rattle.name_seen_parts.specs.declared.refusal.Refusal.TheVariants.{Break as Broken, NoMemory}
use Rattle.name_seen_parts.proofs.Arms.{means-is, part-at}
use Rattle.name_seen_parts.specs.Told.{Tells}
use Rattle.name_seen_parts.proofs.Firsts.{first-stays, none-broken}
use Rattle.name_seen_cores.specs.from.Added.{facts_in}
use Rattle.name_seen_cores.specs.declared.from.facts.Facts.{Facts as Gathered}
use Rattle.name_seen_cores.specs.Behind.{ConditionSeen, ConditionWhole}
use Rattle.name_seen_cores.specs.Expressed.{ExpressionSeen}
use Rattle.name_seen_cores.proofs.Alone.{told-so}
use Rattle.name_meaning.specs.declared.rule.Rule.TheVariants as rule

pub no-condition : (here : Surroundings) (facts : Gathered) → ConditionSeen None (optional_meant here None) facts facts (Ok (tt {0}))
no-condition here facts = record { whole = refl; adds = sym (both_facts-none (facts_in facts)) }

-- what a step tells of every condition of this kind
abbrev TellsAll : ℕ → Result (Option Kind) Refusal → Result Unit Refusal → Type 0
TellsAll at kind result = (meant : Meant) → Tells (seen meant) kind → Tells (first_or (condition_breaks at meant) tt) result

none-fine : (at : ℕ) → first_or (condition_breaks at (breaking rule.UnknownColumn at None)) (tt {0}) ≡ Ok (tt {0}) → ⊥
none-fine at fine = cc fine

-- where it is answered, so was the kind
fine-condition : (m : Meant) (part : Part) (at : ℕ) (old new : Gathered) (kind : Result (Option Kind) Refusal) → at ≡ part.at → ExpressionSeen m old new kind → TellsAll at kind (Ok (tt {0}))
    → ConditionWhole (Some part) (Some m) old new
fine-condition m part at old new (Ok k) e is tells = record {
  whole = ap (λ (n : ℕ). condition_breaks n m) (sym e) ∙ none-broken (condition_breaks at m) tt tt (tells m is.found);
  adds = is.adds kind.Boolean nothing_before;
}
fine-condition m part at old new (Err (Broken b)) e is tells = absurd (cc (tells m is, first-stays m.breaks (broken_if (not (unites (Some kind.Boolean) (seen_kind m))) rule.UnfitKind at) m.kind (tt {0}) b is))
fine-condition m part at old new (Err NoMemory) e is tells = absurd (none-fine at (tells (breaking rule.UnknownColumn at None) tt))

condition-so : (m : Meant) (part : Part) (at : ℕ) (old new : Gathered) (kind : Result (Option Kind) Refusal) (result : Result Unit Refusal)
    → at ≡ part.at → ExpressionSeen m old new kind → TellsAll at kind result → ConditionSeen (Some part) (Some m) old new result
condition-so m part at old new kind (Ok done) e is tells = fine-condition m part at old new kind e is tells
condition-so m part at old new kind (Err (Broken b)) e is tells =
    ap (λ (n : ℕ). first_or (condition_breaks n m) tt) (sym e) ∙ tells m (told-so m old new kind is)
condition-so m part at old new kind (Err NoMemory) e is tells = tt

pub some-condition : (c : Contents) (tree : ExprTree) (here : Surroundings) (old new : Gathered) (kind : Result (Option Kind) Refusal) (result : Result Unit Refusal)
    → ExpressionSeen (means_at (part_of c tree) here) old new kind → TellsAll tree.at kind result
    → ConditionSeen (Some (part_of c tree)) (optional_meant here (Some (part_of c tree))) old new result
some-condition c tree here old new kind result is tells =
    subst (λ (m : Meant). ConditionSeen (Some (part_of c tree)) (Some m) old new result) (sym (means-is (part_of c tree) here))
    (condition-so (means_at (part_of c tree) here) (part_of c tree) tree.at old new kind result (sym (part-at c tree)) is tells)
