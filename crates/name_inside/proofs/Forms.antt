-- Over which parts an expression of each form is; and that nothing stands inside one in which no sublink may stand.
use Rattle.std.specs.Prelude.{◌≡◌, ⊤, ℕ, Bool, true, false, cond, not, List, [], ◌∷◌, ◌++◌, map, flat_map, Option, Some, None}
use Rattle.std.proofs.Common.{refl, ap, sym, subst, ◌∙◌, append-nil}
use Rattle.std.proofs.lemmas.List.{map-append}
use Rattle.null_logic.specs.declared.operator.Operator.{Operator}
use Rattle.null_logic.specs.declared.operator.Operator.TheVariants as x
use Rattle.null_logic.specs.declared.compare.Compare.TheVariants.{Equal, NotEqual}
use Rattle.perm_values.specs.declared.kind.Kind.{Kind}
use Rattle.perm_values.specs.declared.kind.Kind.TheVariants as kind
use Rattle.perm_values.proofs.Lists.{front-none, back-none}
use Rattle.bag_algebra.specs.declared.expr.Expr.{Expr}
use Rattle.bag_algebra.specs.declared.expr.Expr.TheVariants.{Op, IsNull, IsTruth, Same}
use Rattle.bag_algebra.specs.declared.query.SubKind.{SubKind}
use Rattle.sql_tree.specs.declared.expression.AggWord.{AggWord}
use Rattle.sql_tree.specs.declared.expression.ExprBody.TheOpen.{ExprBody-F}
use Rattle.contribution.proofs.WhereGood.{Every}
use Rattle.name_meaning.proofs.Equations.{ExprBodyFrame}
use Rattle.name_meaning.specs.Expressions.{ArmPart, StepPart, arm_operands, body_step, case_made, case_meant, chain_gives, chain_made, else_operand, first_need, first_of, in_kind, negated_if, null_meant, second_of, step_operand, times}
use Rattle.name_meaning.specs.Meanings.{Inside, Meant, Part, QueryMeant, QueryPart, Surroundings, both_inside, broken_if, means_at, nothing_inside, seen_kind}
use Rattle.name_meaning.specs.Operands.{Operand, first_unfit, gives_of, node, operand, operated, need_of, parts_breaks, parts_inside, unfit_break}
use Rattle.name_meaning.specs.Scopes.{look_up}
use Rattle.name_meaning.specs.Sublinks.{aggregate_meant, around_of, breaking, column_meant, exists_meant, if_standing, in_argument, in_tested, is_one_column, scalar_meant, takes_kind, tested_break, tested_looked, tested_meant, tested_unlooked}
use Rattle.name_meaning.specs.declared.answer.Break.{Break}
use Rattle.name_meaning.specs.declared.need.Gives.{Gives}
use Rattle.name_meaning.specs.declared.need.Gives.TheVariants.{Always as always, Common as common}
use Rattle.name_meaning.specs.declared.need.Need.{Need}
use Rattle.name_meaning.specs.declared.need.Need.TheVariants.{OfKind as of_kind, Alike as alike, Free as free}
use Rattle.name_meaning.specs.declared.scope.Found.{Found}
use Rattle.name_meaning.specs.declared.scope.Found.TheVariants.{Absent as absent, Ambiguous as ambiguous, Column as found}
use Rattle.name_inside.specs.Held.{Held, all_breaks, all_inside, held, held_arm, held_at, held_optional, held_query, held_step}
use Rattle.name_inside.proofs.Over.{IsOver, breaks-append, breaks-one, both-nothing, inside-append, inside-one}
use Rattle.name_meaning.specs.declared.rule.Rule.TheVariants as rule

-- ---- nothing inside

abbrev pub IsBare : Held → Type 0
IsBare h = h.breaks ≡ [] → h.inside ≡ nothing_inside

all-bare : (hs : List Held) → Every IsBare hs → all_breaks hs ≡ [] → all_inside hs ≡ nothing_inside
all-bare [] bare none = refl
all-bare (h ∷ hs) bare none =
    λ i. both_inside (bare.0 (front-none h.breaks (all_breaks hs) none) i) (all-bare hs bare.1 (back-none h.breaks (all_breaks hs) none) i)

pub bare-over : {h : Held} {parts : List Held} → IsOver h parts → Every IsBare parts → IsBare h
bare-over {parts = parts} over bare none = over.inside none ∙ all-bare parts bare (over.breaks none)

-- ---- nodes over operands

abbrev held_of : Operand → Held
held_of o = held o.meant

breaks-of : (os : List Operand) → all_breaks (map held_of os) ≡ parts_breaks os
breaks-of [] = refl
breaks-of (o ∷ os) = ap (λ (bs : List Break). o.meant.breaks ++ bs) (breaks-of os)

inside-of : (os : List Operand) → parts_inside os ≡ all_inside (map held_of os)
inside-of [] = refl
inside-of (o ∷ os) = ap (both_inside o.meant.inside) (inside-of os)

node-over : (gives : Gives) (assembled : List Expr → Expr) (os : List Operand) (parts : List Held) → map held_of os ≡ parts
    → IsOver (held (node gives assembled os)) parts
node-over gives assembled os parts e = subst (IsOver (held (node gives assembled os))) e (record {
  breaks = λ none. breaks-of os ∙ front-none (parts_breaks os) (unfit_break (first_unfit None os)) none;
  inside = λ none. inside-of os;
})

operands-held : (here : Surroundings) (need : Need) (parts : List Part) → map held_of (map (operand here need) parts) ≡ map (held_at here) parts
unfolding means_at
operands-held here need [] = refl
operands-held here need (part ∷ parts) = ap (λ (hs : List Held). held_at here part ∷ hs) (operands-held here need parts)

steps-held : (here : Surroundings) (steps : List StepPart) → map held_of (map (step_operand here) steps) ≡ map (held_step here) steps
unfolding means_at
steps-held here [] = refl
steps-held here (step ∷ steps) = ap (λ (hs : List Held). held_step here step ∷ hs) (steps-held here steps)

arms-held : (here : Surroundings) (arms : List ArmPart) → map held_of (flat_map (arm_operands here) arms) ≡ flat_map (held_arm here) arms
unfolding means_at
arms-held here [] = refl
arms-held here (arm ∷ arms) =
    ap (λ (hs : List Held). held_at here arm.condition ∷ held_at here arm.value ∷ hs) (arms-held here arms)

-- what is silent at the end is of no account
without-silent : {h : Held} (parts : List Held) (last : Held) → last.inside ≡ nothing_inside → IsOver h (parts ++ last ∷ []) → IsOver h parts
without-silent parts last silent over = record {
  breaks = λ none. front-none (all_breaks parts) (all_breaks (last ∷ [])) (sym (breaks-append parts (last ∷ [])) ∙ over.breaks none);
  inside = λ none.
      over.inside none ∙ inside-append parts (last ∷ []) ∙ ap (both_inside (all_inside parts)) (inside-one last ∙ silent)
      ∙ both-nothing (all_inside parts);
}

case-over : (here : Surroundings) (arms : List ArmPart) (otherwise : Option Part)
    → IsOver (held (case_meant here arms otherwise)) (flat_map (held_arm here) arms ++ held_optional here otherwise)
unfolding means_at
case-over here arms None = subst (IsOver (held (case_meant here arms None))) (sym (append-nil (flat_map (held_arm here) arms)))
    (without-silent (flat_map (held_arm here) arms) (held null_meant) refl
    (node-over common (case_made arms) (flat_map (arm_operands here) arms ++ else_operand here None ∷ []) (flat_map (held_arm here) arms ++ held null_meant ∷ [])
    (map-append held_of (flat_map (arm_operands here) arms) (else_operand here None ∷ []) ∙ ap (λ (hs : List Held). hs ++ held null_meant ∷ []) (arms-held here arms))))
case-over here arms (Some part) =
    node-over common (case_made arms) (flat_map (arm_operands here) arms ++ else_operand here (Some part) ∷ []) (flat_map (held_arm here) arms ++ held_at here part ∷ [])
    (map-append held_of (flat_map (arm_operands here) arms) (else_operand here (Some part) ∷ []) ∙ ap (λ (hs : List Held). hs ++ held_at here part ∷ []) (arms-held here arms))

-- ---- columns, aggregates and sublinks

column-over : (here : Surroundings) (at : ℕ) (is : Found) → IsOver (held (column_meant here at is)) []
column-over here at absent = record { breaks = λ none. refl; inside = λ none. refl }
column-over here at ambiguous = record { breaks = λ none. refl; inside = λ none. refl }
column-over here at (found column) = record { breaks = λ none. refl; inside = λ none. refl }

aggregate-over : (here : Surroundings) (at : ℕ) (word : AggWord) (argument : Part) → IsBare (held (argument.means (in_argument here)))
    → IsOver (held (aggregate_meant here at word (Some argument))) []
aggregate-over here at word argument bare = record {
  breaks = λ none. refl;
  inside = λ none. bare (front-none (argument.means (in_argument here)).breaks (broken_if (not here.aggregates) rule.MisplacedAggregate at)
      (front-none ((argument.means (in_argument here)).breaks ++ broken_if (not here.aggregates) rule.MisplacedAggregate at)
      (broken_if (not (takes_kind word (seen_kind (argument.means (in_argument here))))) rule.UnfitKind argument.at) none));
}

standing-over : (here : Surroundings) (at : ℕ) (kind : Option Kind) (m : Meant) (parts : List Held) → IsOver (held m) parts
    → IsOver (held (if_standing here at kind m)) parts
standing-over here at kind m parts over = chosen here.sublinks where
  chosen : (b : Bool) → IsOver (held (cond b m (breaking rule.MisplacedSublink at kind))) parts
  chosen true = over
  chosen false = record { breaks = λ none. absurd (cc); inside = λ none. absurd (cc) }

exists-over : (here : Surroundings) (at : ℕ) (query : QueryMeant) → IsOver (held (exists_meant here at query)) (held_query query ∷ [])
exists-over here at query = record {
  breaks = λ none. breaks-one (held_query query) ∙ none;
  inside = λ none. sym (inside-one (held_query query));
}

scalar-over : (here : Surroundings) (at : ℕ) (query : QueryMeant) → IsOver (held (scalar_meant here at query)) (held_query query ∷ [])
scalar-over here at query = record {
  breaks = λ none. breaks-one (held_query query) ∙ front-none query.breaks (broken_if (not (is_one_column query.columns)) rule.UnfitWidth at) none;
  inside = λ none. sym (inside-one (held_query query));
}

pub last-some : (bs : List Break) (b : Break) → bs ++ b ∷ [] ≡ [] → ⊥
last-some [] b none = cc
last-some (a ∷ bs) b none = cc

tested-over : (here : Surroundings) (at : ℕ) (sub : SubKind) (part : Part) (query : QueryPart) → IsBare (held (part.means (in_tested here)))
    → IsOver (held (tested_meant here at sub part query)) (held_query (query.means (around_of here)) ∷ [])
tested-over here at sub part query bare = chosen here.sublinks where
  chosen : (b : Bool) → IsOver (held (cond b (tested_looked sub (part.means (in_tested here)) query.at (query.means (around_of here)))
      (tested_unlooked at (part.means (in_tested here))))) (held_query (query.means (around_of here)) ∷ [])
  chosen true = record {
    breaks = λ none.
        breaks-one (held_query (query.means (around_of here)))
        ∙ back-none (part.means (in_tested here)).breaks (query.means (around_of here)).breaks
        (front-none ((part.means (in_tested here)).breaks ++ (query.means (around_of here)).breaks)
        (tested_break (seen_kind (part.means (in_tested here))) query.at (query.means (around_of here))) none);
    inside = λ none.
        ap (λ (before : Inside). both_inside before (query.means (around_of here)).inside)
        (bare (front-none (part.means (in_tested here)).breaks (query.means (around_of here)).breaks
        (front-none ((part.means (in_tested here)).breaks ++ (query.means (around_of here)).breaks)
        (tested_break (seen_kind (part.means (in_tested here))) query.at (query.means (around_of here))) none)))
        ∙ sym (inside-one (held_query (query.means (around_of here))));
  }
  chosen false = record {
    breaks = λ none. absurd (last-some (part.means (in_tested here)).breaks _ none);
    inside = λ none. absurd (last-some (part.means (in_tested here)).breaks _ none);
  }

-- ---- every form

abbrev pub BarePart : Part → Type 0
BarePart part = (here : Surroundings) → here.sublinks ≡ false → IsBare (held (part.means here))

-- the parts in which a query can stand
abbrev pub parts_in : Surroundings → ExprBodyFrame → List Held
parts_in here ExprBody-F.Null = []
parts_in here (ExprBody-F.NullOf k) = []
parts_in here (ExprBody-F.Integer number) = []
parts_in here (ExprBody-F.Text text) = []
parts_in here (ExprBody-F.Truth truth) = []
parts_in here (ExprBody-F.Column reference) = []
parts_in here (ExprBody-F.«ExprBody::Paren» part) = held_at here part ∷ []
parts_in here (ExprBody-F.Nots count part) = held_at here part ∷ []
parts_in here (ExprBody-F.Signs count part) = held_at here part ∷ []
parts_in here (ExprBody-F.Logic op parts) = map (held_at here) parts
parts_in here (ExprBody-F.«ExprBody::Chain» first steps) = held_at here first ∷ map (held_step here) steps
parts_in here (ExprBody-F.Compared op first second) = held_at here first ∷ held_at here second ∷ []
parts_in here (ExprBody-F.Like negated text pattern) = held_at here text ∷ held_at here pattern ∷ []
parts_in here (ExprBody-F.Between negated part low high) = held_at here part ∷ held_at here low ∷ held_at here high ∷ []
parts_in here (ExprBody-F.InList negated part list) = held_at here part ∷ map (held_at here) list
parts_in here (ExprBody-F.InQuery negated part query) = held_query (query.means (around_of here)) ∷ []
parts_in here (ExprBody-F.Quantified every op part query) = held_query (query.means (around_of here)) ∷ []
parts_in here (ExprBody-F.IsNull negated part) = held_at here part ∷ []
parts_in here (ExprBody-F.IsTruth negated truth part) = held_at here part ∷ []
parts_in here (ExprBody-F.IsDistinct negated first second) = held_at here first ∷ held_at here second ∷ []
parts_in here (ExprBody-F.Case arms otherwise) = flat_map (held_arm here) arms ++ held_optional here otherwise
parts_in here (ExprBody-F.Coalesce list) = map (held_at here) list
parts_in here (ExprBody-F.NullIf first second) = held_at here first ∷ held_at here second ∷ []
parts_in here (ExprBody-F.Aggregate function argument) = []
parts_in here (ExprBody-F.Exists query) = held_query (query.means (around_of here)) ∷ []
parts_in here (ExprBody-F.Scalar query) = held_query (query.means (around_of here)) ∷ []

-- no sublink stands in these parts of a form
abbrev pub TestedBare : ExprBodyFrame → Type 0
TestedBare ExprBody-F.Null = ⊤
TestedBare (ExprBody-F.NullOf k) = ⊤
TestedBare (ExprBody-F.Integer number) = ⊤
TestedBare (ExprBody-F.Text text) = ⊤
TestedBare (ExprBody-F.Truth truth) = ⊤
TestedBare (ExprBody-F.Column reference) = ⊤
TestedBare (ExprBody-F.«ExprBody::Paren» part) = ⊤
TestedBare (ExprBody-F.Nots count part) = ⊤
TestedBare (ExprBody-F.Signs count part) = ⊤
TestedBare (ExprBody-F.Logic op parts) = ⊤
TestedBare (ExprBody-F.«ExprBody::Chain» first steps) = ⊤
TestedBare (ExprBody-F.Compared op first second) = ⊤
TestedBare (ExprBody-F.Like negated text pattern) = ⊤
TestedBare (ExprBody-F.Between negated part low high) = ⊤
TestedBare (ExprBody-F.InList negated part list) = ⊤
TestedBare (ExprBody-F.InQuery negated part query) = BarePart part
TestedBare (ExprBody-F.Quantified every op part query) = BarePart part
TestedBare (ExprBody-F.IsNull negated part) = ⊤
TestedBare (ExprBody-F.IsTruth negated truth part) = ⊤
TestedBare (ExprBody-F.IsDistinct negated first second) = ⊤
TestedBare (ExprBody-F.Case arms otherwise) = ⊤
TestedBare (ExprBody-F.Coalesce list) = ⊤
TestedBare (ExprBody-F.NullIf first second) = ⊤
TestedBare (ExprBody-F.Aggregate function None) = ⊤
TestedBare (ExprBody-F.Aggregate function (Some argument)) = BarePart argument
TestedBare (ExprBody-F.Exists query) = ⊤
TestedBare (ExprBody-F.Scalar query) = ⊤

operated-over : (op : Operator) (prefix : Bool) (assembled : List Expr → Expr) (here : Surroundings) (parts : List Part)
    → IsOver (held (operated op prefix assembled here parts)) (map (held_at here) parts)
operated-over op prefix assembled here parts =
    node-over (gives_of op prefix) assembled (map (operand here (need_of op prefix)) parts) (map (held_at here) parts) (operands-held here (need_of op prefix) parts)

pub over-body : (frame : ExprBodyFrame) → TestedBare frame → (at : ℕ) (here : Surroundings)
    → IsOver (held ((body_step frame).means at here)) (parts_in here frame)
unfolding means_at
over-body ExprBody-F.Null bare at here = record { breaks = λ none. refl; inside = λ none. refl }
over-body (ExprBody-F.NullOf k) bare at here = record { breaks = λ none. refl; inside = λ none. refl }
over-body (ExprBody-F.Integer number) bare at here = record { breaks = λ none. refl; inside = λ none. refl }
over-body (ExprBody-F.Text text) bare at here = record { breaks = λ none. refl; inside = λ none. refl }
over-body (ExprBody-F.Truth truth) bare at here = record { breaks = λ none. refl; inside = λ none. refl }
over-body (ExprBody-F.Column reference) bare at here = column-over here reference.at (look_up 0 here.scopes reference)
over-body (ExprBody-F.«ExprBody::Paren» part) bare at here = record {
  breaks = λ none. breaks-one (held_at here part) ∙ none;
  inside = λ none. sym (inside-one (held_at here part));
}
over-body (ExprBody-F.Nots count part) bare at here = operated-over x.Not true (λ es. times x.Not count (first_of es)) here (part ∷ [])
over-body (ExprBody-F.Signs count part) bare at here = operated-over x.Negate true (λ es. times x.Negate count (first_of es)) here (part ∷ [])
over-body (ExprBody-F.Logic op parts) bare at here = operated-over op false (Op op) here parts
over-body (ExprBody-F.«ExprBody::Chain» first steps) bare at here =
    node-over (chain_gives steps) (chain_made steps) (operand here (first_need steps) first ∷ map (step_operand here) steps) (held_at here first ∷ map (held_step here) steps)
    (ap (λ (hs : List Held). held_at here first ∷ hs) (steps-held here steps))
over-body (ExprBody-F.Compared op first second) bare at here = operated-over (x.Compare op) false (Op (x.Compare op)) here (first ∷ second ∷ [])
over-body (ExprBody-F.Like negated text pattern) bare at here =
    operated-over x.Like false (λ es. negated_if negated (Op x.Like es)) here (text ∷ pattern ∷ [])
over-body (ExprBody-F.Between negated part low high) bare at here =
    operated-over x.Between false (λ es. negated_if negated (Op x.Between es)) here (part ∷ low ∷ high ∷ [])
over-body (ExprBody-F.InList negated part list) bare at here =
    operated-over x.InList false (λ es. negated_if negated (Op x.InList es)) here (part ∷ list)
over-body (ExprBody-F.InQuery negated part query) bare at here =
    tested-over here at (in_kind negated (cond negated NotEqual Equal)) part query (bare (in_tested here) refl)
over-body (ExprBody-F.Quantified every op part query) bare at here =
    tested-over here at (in_kind every op) part query (bare (in_tested here) refl)
over-body (ExprBody-F.IsNull negated part) bare at here =
    node-over (always kind.Boolean) (λ es. negated_if negated (IsNull (first_of es))) (operand here free part ∷ []) (held_at here part ∷ []) refl
over-body (ExprBody-F.IsTruth negated truth part) bare at here =
    node-over (always kind.Boolean) (λ es. negated_if negated (IsTruth truth (first_of es))) (operand here (of_kind kind.Boolean) part ∷ []) (held_at here part ∷ []) refl
over-body (ExprBody-F.IsDistinct negated first second) bare at here =
    node-over (always kind.Boolean) (λ es. negated_if (not negated) (Same (first_of es) (second_of es)))
    (operand here alike first ∷ operand here alike second ∷ []) (held_at here first ∷ held_at here second ∷ []) refl
over-body (ExprBody-F.Case arms otherwise) bare at here = case-over here arms otherwise
over-body (ExprBody-F.Coalesce list) bare at here =
    node-over common (Op x.Coalesce) (map (operand here alike) list) (map (held_at here) list) (operands-held here alike list)
over-body (ExprBody-F.NullIf first second) bare at here =
    node-over common (Op x.NullIf) (operand here alike first ∷ operand here alike second ∷ []) (held_at here first ∷ held_at here second ∷ []) refl
over-body (ExprBody-F.Aggregate function None) bare at here = record { breaks = λ none. refl; inside = λ none. refl }
over-body (ExprBody-F.Aggregate function (Some argument)) bare at here =
    aggregate-over here at function argument (bare (in_argument here) refl)
over-body (ExprBody-F.Exists query) bare at here =
    standing-over here at (Some kind.Boolean) (exists_meant here query.at (query.means (around_of here))) (held_query (query.means (around_of here)) ∷ [])
    (exists-over here query.at (query.means (around_of here)))
over-body (ExprBody-F.Scalar query) bare at here =
    standing-over here at None (scalar_meant here query.at (query.means (around_of here))) (held_query (query.means (around_of here)) ∷ [])
    (scalar-over here query.at (query.means (around_of here)))
