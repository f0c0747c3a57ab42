-- What an operator, or a form like one, needs of its operands and makes of them.
use Rattle.std.specs.Prelude.{ℕ, ◌+◌, Bool, cond, ◌&&◌, List, [], ◌∷◌, ◌++◌, map, length, flat_map, find, Option, Some, None}
use Rattle.std.specs.Option.{option_map_or}
use Rattle.std.specs.Str.{bytes_eq}
use mathlib.Core.Bool.{beq}
use Rattle.null_logic.specs.Operators.{Entry, operator_table, operator_spelling}
use Rattle.null_logic.specs.declared.operator.Needs.{Needs}
use Rattle.null_logic.specs.declared.operator.Needs.TheVariants.{Integers, Texts, Booleans, Alike}
use Rattle.null_logic.specs.declared.operator.Operator.{Operator}
use Rattle.perm_values.specs.declared.kind.Kind.{Kind}
use Rattle.perm_values.specs.declared.kind.Kind.TheVariants.{Integer, Text, Boolean}
use Rattle.bag_algebra.specs.declared.expr.Expr.{Expr}
use Rattle.bag_algebra.specs.declared.query.Aggr.{Aggr}
use Rattle.bag_algebra.specs.declared.query.Sublink.{Sublink}
use Rattle.name_meaning.specs.Meanings.{Inside, nothing_inside, both_inside, Surroundings, Before, Built, Meant, seen_kind, Part, broken, unites, united_kind, settled}
use Rattle.name_meaning.specs.declared.answer.Break.{Break}
use Rattle.name_meaning.specs.declared.need.Gives.{Gives}
use Rattle.name_meaning.specs.declared.need.Gives.TheVariants.{Always as always, Common as common}
use Rattle.name_meaning.specs.declared.need.Need.{Need}
use Rattle.name_meaning.specs.declared.need.Need.TheVariants.{OfKind as of_kind, Alike as alike, Free as free}
use Rattle.name_meaning.specs.declared.rule.Rule.TheVariants as rule

pub record Operand : Type 0 where
  pub at : ℕ
  pub need : Need
  pub meant : Meant

abbrev pub operand : Surroundings → Need → Part → Operand
operand here need part = record { at = part.at; need = need; meant = part.means here }

-- ---- needs

abbrev pub seen_of : Operand → Option Kind
seen_of o = seen_kind o.meant

-- an operand at this offset, of this kind, behind operands united to `so_far`, and what is found of those behind it
abbrev pub unfit_from : Need → ℕ → Option Kind → Option Kind → (Option Kind → Option ℕ) → Option ℕ
unfit_from (of_kind kind) at found so_far behind = cond (unites (Some kind) found) (behind so_far) (Some at)
unfit_from alike at found so_far behind = cond (unites so_far found) (behind (united_kind so_far found)) (Some at)
unfit_from free at found so_far behind = behind so_far

-- the first operand, from the left, that hasn't the kind that it needs or doesn't unite with those before it
abbrev pub first_unfit : Option Kind → List Operand → Option ℕ
first_unfit so_far [] = None
first_unfit so_far (o ∷ os) = unfit_from o.need o.at (seen_of o) so_far (λ common. first_unfit common os)

abbrev pub united_from : Need → Option Kind → Option Kind → Option Kind
united_from (of_kind kind) found behind = behind
united_from alike found behind = united_kind found behind
united_from free found behind = behind

-- what the operands that are to be alike were united to
abbrev pub united : List Operand → Option Kind
united [] = None
united (o ∷ os) = united_from o.need (seen_of o) (united os)

-- the kind that an operand takes, if it has none
abbrev pub wanted_of : Kind → Need → Kind
wanted_of alike_kind (of_kind kind) = kind
wanted_of alike_kind alike = alike_kind
wanted_of alike_kind free = Text

-- ---- what they make

pub record BuiltParts : Type 0 where
  pub exprs : List Expr
  pub subs : List Sublink
  pub aggregates : List Aggr

abbrev pub behind : Before → List Sublink → List Aggr → Before
behind before subs aggregates = record { subs = before.subs + length subs; aggregates = before.aggregates + length aggregates }

abbrev pub built_first : Built → BuiltParts → BuiltParts
built_first first rest = record {
  exprs = first.expr ∷ rest.exprs;
  subs = first.subs ++ rest.subs;
  aggregates = first.aggregates ++ rest.aggregates;
}

-- the operands made from the left
abbrev pub made_parts : Kind → List Operand → Before → BuiltParts
made_parts alike_kind [] before = record { exprs = []; subs = []; aggregates = [] }
made_parts alike_kind (o ∷ os) before =
    let first = o.meant.make (wanted_of alike_kind o.need) before in
    built_first first (made_parts alike_kind os (behind before first.subs first.aggregates))

abbrev pub built_of : (List Expr → Expr) → BuiltParts → Built
built_of assembled parts = record { expr = assembled parts.exprs; subs = parts.subs; aggregates = parts.aggregates }

abbrev pub parts_breaks : List Operand → List Break
parts_breaks os = flat_map (λ (o : Operand). o.meant.breaks) os

abbrev pub parts_inside : List Operand → Inside
parts_inside [] = nothing_inside
parts_inside (o ∷ os) = both_inside o.meant.inside (parts_inside os)

abbrev pub unfit_break : Option ℕ → List Break
unfit_break None = []
unfit_break (Some at) = broken rule.UnfitKind at ∷ []

abbrev pub given_kind : Gives → List Operand → Option Kind
given_kind (always kind) os = Some kind
given_kind common os = united os

-- the kind of those that are to be alike and have none: the one wanted of the whole, if they give it; else Text
abbrev pub alike_wanted : Gives → Kind → Kind
alike_wanted (always kind) wanted = Text
alike_wanted common wanted = wanted

-- a node over operands: their breaks from the left, then its own
abbrev pub node : Gives → (List Expr → Expr) → List Operand → Meant
node gives assembled os = record {
  breaks = parts_breaks os ++ unfit_break (first_unfit None os);
  kind = given_kind gives os;
  inside = parts_inside os;
  make = λ wanted before. built_of assembled (made_parts (settled (united os) (alike_wanted gives wanted)) os before);
}

-- ---- operators, by their table

abbrev pub is_row_of : Operator → Bool → Entry → Bool
is_row_of op prefix entry = bytes_eq entry.1 (operator_spelling op) && beq entry.2 prefix

abbrev pub row_of : Operator → Bool → Option Entry
row_of op prefix = find (is_row_of op prefix) operator_table

abbrev pub need_for : Needs → Need
need_for Integers = of_kind Integer
need_for Texts = of_kind Text
need_for Booleans = of_kind Boolean
need_for Alike = alike

-- what an operator needs of each operand, and what it gives; `prefix`: whether it stands before its operand
abbrev pub need_of : Operator → Bool → Need
need_of op prefix = option_map_or (λ (entry : Entry). need_for entry.3) (row_of op prefix) free

abbrev pub gives_of : Operator → Bool → Gives
gives_of op prefix = option_map_or (λ (entry : Entry). always entry.4) (row_of op prefix) common

abbrev pub operated : Operator → Bool → (List Expr → Expr) → Surroundings → List Part → Meant
operated op prefix assembled here parts = node (gives_of op prefix) assembled (map (operand here (need_of op prefix)) parts)
