-- Aggregates stand behind the GROUP BY columns, and their arguments are well formed over the rows before these are grouped.
use Rattle.std.specs.Prelude.{◌≡◌, ◌≢◌, ℕ, ◌+◌, Bool, true, false, not, List, [], ◌∷◌, ◌++◌, is_some, slice_get, Option, Some, None}
use Rattle.std.proofs.Common.{refl, sym, ◌∙◌, subst, true≢false}
use Rattle.std.proofs.lemmas.List.Elements.{All-cons}
use Rattle.std.specs.Option.{option_map_or}
use Rattle.perm_values.specs.declared.kind.Kind.{Kind}
use Rattle.perm_values.specs.declared.kind.Kind.TheVariants.{Integer, Text, Boolean}
use Rattle.perm_values.proofs.Lists.{front-none, back-none}
use Rattle.bag_algebra.specs.built.Forms.{subs_kinds}
use Rattle.bag_algebra.specs.WellFormed.{HasKind, column_kind, aggr_form}
use Rattle.bag_algebra.specs.declared.expr.Expr.{Expr}
use Rattle.bag_algebra.specs.declared.query.Aggr.{Aggr}
use Rattle.sql_tree.specs.Regular.{has_argument}
use Rattle.sql_tree.specs.declared.expression.AggWord.{AggWord}
use Rattle.sql_tree.specs.declared.expression.AggWord.TheVariants as word
use Rattle.name_meaning.specs.Meanings.{Surroundings, Before, Built, Meant, Part, broken_if, seen_kind, settled, is_same_kind}
use Rattle.name_meaning.specs.Scopes.{group_count, ungrouped}
use Rattle.name_meaning.specs.Sublinks.{function_of, takes_kind, argument_wanted, aggregate_kind, in_argument, nothing_before, aggregate_made, rows_counted, aggregated, aggregate_meant}
use Rattle.name_meaning.specs.laws.Formed.{IsFormed}
use Rattle.name_meaning.specs.laws.Standing.{StandAt, RowsHold, own_row, AggregatesStand}
use Rattle.name_meaning.proofs.Arms.{GoodOptional}
use Rattle.name_meaning.proofs.FormedParts.{none-formed}
use Rattle.name_meaning.proofs.GoodMeant.{GoodMeant}
use Rattle.name_meaning.proofs.Needs.{settled-of_kind}
use Rattle.name_meaning.specs.declared.rule.Rule.TheVariants as rule
use Rattle.name_meaning.proofs.Every.{whole-kind, unbroken}

own-column : (rows : List (List Kind)) (place : ℕ) (kind : Kind) → slice_get (own_row rows) place ≡ Some kind → column_kind rows 0 place ≡ Some kind
own-column [] place kind e = e
own-column (row ∷ rows) place kind e = e

opposite : {P : Type 0} (b : Bool) → b ≡ true → b ≡ false → P
opposite b e f = absurd (true≢false (sym e ∙ f))

-- the one aggregate stands where its column reads it
formed-aggregate : (here : Surroundings) (word : AggWord) (seen : Option Kind) (argument : Option Expr) (n : Before) → here.aggregates ≡ true
    → ((rows : List (List Kind)) → RowsHold (ungrouped here.scopes) rows → aggr_form (function_of word) argument rows (aggregate_kind word seen))
    → IsFormed here n [] (aggregate_made here word seen argument n).aggregates
    (λ (rows : List (List Kind)) (subs : List Kind). HasKind rows subs (aggregate_made here word seen argument n).expr (aggregate_kind word seen))
formed-aggregate here word seen argument n allowed form = record {
  holds = λ rows subs hold stand sublinks. own-column rows (group_count here.scopes + n.aggregates) (aggregate_kind word seen) stand.0;
  subs_formed = λ rows hold stand. tt;
  aggregates_formed = λ rows hold.
      All-cons (λ (aggregate : Aggr). aggr_form aggregate.function aggregate.argument rows aggregate.kind) _ [] (form rows hold) (none-formed rows);
  without_subs = λ no. refl;
  without_aggregates = λ no. opposite here.aggregates allowed no;
}

no-argument : (word : AggWord) (rows : List (List Kind)) → false ≡ has_argument word → aggr_form (function_of word) None rows (aggregate_kind word None)
no-argument word.CountRows rows e = refl
no-argument word.Count rows e = absurd (true≢false (sym e))
no-argument word.CountDistinct rows e = absurd (true≢false (sym e))
no-argument word.Sum rows e = absurd (true≢false (sym e))
no-argument word.Min rows e = absurd (true≢false (sym e))
no-argument word.Max rows e = absurd (true≢false (sym e))

not-truth : (seen : Option Kind) → not (option_map_or (is_same_kind Boolean) seen false) ≡ true → settled seen Text ≢ Boolean
not-truth None e = λ f. cc f
not-truth (Some Integer) e = λ f. cc f
not-truth (Some Text) e = λ f. cc f
not-truth (Some Boolean) e = absurd (true≢false (sym e))

one-argument : (word : AggWord) (seen : Option Kind) (rows : List (List Kind)) (argument : Expr) → true ≡ has_argument word → takes_kind word seen ≡ true
    → HasKind rows [] argument (settled seen (argument_wanted word)) → aggr_form (function_of word) (Some argument) rows (aggregate_kind word seen)
one-argument word.CountRows seen rows argument e takes has = absurd (true≢false e)
one-argument word.Count seen rows argument e takes has = record { argument = record { shared = settled seen Text; parts = has }; gives = refl }
one-argument word.CountDistinct seen rows argument e takes has = record { argument = record { shared = settled seen Text; parts = has }; gives = refl }
one-argument word.Sum seen rows argument e takes has = (subst (HasKind rows [] argument) (settled-of_kind Integer seen takes) has, refl)
one-argument word.Min seen rows argument e takes has = (has, not-truth seen takes)
one-argument word.Max seen rows argument e takes has = (has, not-truth seen takes)

good-rows_counted : (here : Surroundings) (at : ℕ) (word : AggWord) → false ≡ has_argument word → GoodMeant here (rows_counted here at word)
good-rows_counted here at word regular whole wanted n =
    formed-aggregate here word None None n (unbroken here.aggregates rule.MisplacedAggregate at whole) (λ rows hold. no-argument word rows regular)

good-aggregated : (here : Surroundings) (at : ℕ) (word : AggWord) (argument_at : ℕ) (argument : Meant) → true ≡ has_argument word
    → GoodMeant (in_argument here) argument → GoodMeant here (aggregated here at word argument_at argument)
good-aggregated here at word argument_at argument regular good whole wanted n =
    let seen = seen_kind argument in
    let standing = broken_if (not here.aggregates) rule.MisplacedAggregate at in
    let kinded = broken_if (not (takes_kind word seen)) rule.UnfitKind argument_at in
    let front = front-none (argument.breaks ++ standing) kinded whole in
    let own = front-none argument.breaks standing front in
    let made : Built = argument.make (argument_wanted word) nothing_before in
    let formed = good own (argument_wanted word) nothing_before in
    let takes = unbroken (takes_kind word seen) rule.UnfitKind argument_at (back-none (argument.breaks ++ standing) kinded whole) in
    formed-aggregate here word seen (Some made.expr) n (unbroken here.aggregates rule.MisplacedAggregate at (back-none argument.breaks standing front))
    (λ rows hold. one-argument word seen rows made.expr regular takes
    (subst (λ own_kind. HasKind rows [] made.expr (settled own_kind (argument_wanted word))) (sym (whole-kind argument own))
    (formed.holds rows [] hold
    (subst (λ aggregates. AggregatesStand (ungrouped here.scopes) 0 aggregates rows) (sym (formed.without_aggregates refl)) tt)
    (subst (λ subs. StandAt 0 (subs_kinds subs) []) (sym (formed.without_subs refl)) tt))))

pub good-aggregate : (here : Surroundings) (at : ℕ) (word : AggWord) (argument : Option Part) → is_some argument ≡ has_argument word
    → GoodOptional argument → GoodMeant here (aggregate_meant here at word argument)
good-aggregate here at word None regular good = good-rows_counted here at word regular
good-aggregate here at word (Some argument) regular good =
    good-aggregated here at word argument.at (argument.means (in_argument here)) regular (good.formed (in_argument here))
