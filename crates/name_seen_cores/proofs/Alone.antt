-- Expressions without sublinks of their own.
use Rattle.std.specs.Prelude.{◌≡◌, ℕ, List, [], Option, Some, None, Result, Ok, Err}
use Rattle.std.proofs.Common.{refl, ap, sym, subst, ◌∙◌}
use Rattle.perm_values.specs.declared.kind.Kind.{Kind}
use Rattle.bag_algebra.specs.declared.expr.Expr.{Expr}
use Rattle.bag_algebra.specs.declared.query.Sublink.{Sublink}
use Rattle.name_meaning.specs.Expressions.{known, null_meant}
use Rattle.name_meaning.specs.Meanings.{Before, Meant, Surroundings}
use Rattle.name_meaning.specs.Sublinks.{column_meant}
use Rattle.name_meaning.specs.declared.answer.Break.{Break}
use Rattle.name_meaning.specs.declared.scope.Found.{Found}
use Rattle.name_meaning.specs.declared.scope.Found.TheVariants.{Absent, Ambiguous, Column}
use Rattle.name_meaning.specs.laws.Facts.{both_facts, sub_facts}
use Rattle.name_meaning.proofs.FactsOf.{both_facts-none}
use Rattle.name_seen_parts.specs.Seen.{seen}
use Rattle.name_seen_parts.specs.declared.refusal.Refusal.{Refusal}
use Rattle.name_seen_parts.specs.declared.refusal.Refusal.TheVariants.{Break as Broken, NoMemory}
use Rattle.name_seen_cores.specs.from.Added.{facts_in}
use Rattle.name_seen_parts.specs.Told.{Tells}
use Rattle.name_seen_cores.specs.Expressed.{ExpressionSeen, answered}
use Rattle.name_seen_cores.specs.declared.from.facts.Facts.{Facts as Gathered}

pub alone : (m : Meant) (facts : Gathered) (r : Result (Option Kind) Refusal) → Tells (seen m) r
    → ((wanted : Kind) (before : Before) → (m.make wanted before).subs ≡ []) → ExpressionSeen m facts facts r
alone m facts (Ok kind) told none = record {
  found = told;
  adds = λ wanted before. sym (both_facts-none (facts_in facts)) ∙ ap (λ (subs : List Sublink). both_facts (facts_in facts) (sub_facts subs)) (sym (none wanted before));
}
alone m facts (Err (Broken first)) told none = told
alone m facts (Err NoMemory) told none = tt

pub null-alone : (facts : Gathered) → ExpressionSeen null_meant facts facts (Ok None)
null-alone facts = alone null_meant facts (Ok None) refl (λ wanted before. refl)

pub known-alone : (kind : Kind) (e : Expr) (facts : Gathered) → ExpressionSeen (known kind e) facts facts (Ok (Some kind))
known-alone kind e facts = alone (known kind e) facts (Ok (Some kind)) refl (λ wanted before. refl)

pub column-alone : (here : Surroundings) (at : ℕ) (found : Found) (facts : Gathered) (r : Result (Option Kind) Refusal)
    → Tells (seen (column_meant here at found)) r → ExpressionSeen (column_meant here at found) facts facts r
column-alone here at Absent facts r told = alone (column_meant here at Absent) facts r told (λ wanted before. refl)
column-alone here at Ambiguous facts r told = alone (column_meant here at Ambiguous) facts r told (λ wanted before. refl)
column-alone here at (Column column) facts r told = alone (column_meant here at (Column column)) facts r told (λ wanted before. refl)

pub told-so : (m : Meant) (old new : Gathered) (r : Result (Option Kind) Refusal) → ExpressionSeen m old new r → Tells (seen m) r
told-so m old new (Ok kind) shown = shown.found
told-so m old new (Err (Broken first)) shown = shown
told-so m old new (Err NoMemory) shown = tt

pub tells-answered : {X : Type 0} (found : Result X Break) → Tells found (answered found)
tells-answered (Ok x) = refl
tells-answered (Err first) = refl

pub told-by : (found kind : Result (Option Kind) Break) (r : Result (Option Kind) Refusal) → kind ≡ found → r ≡ answered kind → Tells found r
told-by found kind r e is =
    subst (λ (r : Result (Option Kind) Refusal). Tells found r) (sym is)
    (subst (λ (k : Result (Option Kind) Break). Tells k (answered kind)) e (tells-answered kind))
