-- Whether an aggregate stands in an expression of one form, of whether one stands in its parts.
use Rattle.std.specs.Prelude.{◌≡◌, ℕ, ◌+◌, ◌<◌, Bool, true, false, ◌||◌, List, [], ◌∷◌, ◌++◌, length, map, flat_map, Option, Some, None}
use Rattle.std.specs.List.{list_any}
use Rattle.std.proofs.Common.{refl, ap, sym, ◌∙◌, take, get_or, append-nil}
use Rattle.std.proofs.lemmas.List.{take_more}
use Rattle.std.proofs.lemmas.List.Folds.{list_any-append}
use Rattle.bag_algebra.proofs.Truths.{or_associates, or_false}
use Rattle.perm_catalog.specs.Contents.{Contents}
use Rattle.sql_tree.specs.declared.expression.AggWord.{AggWord}
use Rattle.sql_tree.specs.declared.expression.ArmTree.{ArmTree}
use Rattle.sql_tree.specs.declared.expression.ExprBody.TheVariants as e
use Rattle.sql_tree.specs.declared.expression.ExprStep.{ExprStep}
use Rattle.sql_tree.specs.declared.expression.ExprTree.{ExprTree}
use Rattle.name_meaning.specs.Expressions.{Body, StepPart, ArmPart, arm_parts, optional_part}
use Rattle.name_meaning.specs.Meanings.{Part}
use Rattle.name_meaning.specs.Trees.{body_of, part_of, step_of, arm_of}
use Rattle.name_meaning.proofs.Equations.{token, exprbody-case-none, exprbody-case-some, exprbody-aggregate-none, exprbody-aggregate-some, exprtree-record, exprstep-record, armtree-record}
use Rattle.name_seen_parts.specs.Aggregates.{is_aggregating, otherwise_aggregates, step_aggregates}

pub of-body : (c : Contents) (tree : ExprTree) (body : Body) → body_of c tree.body ≡ body → is_aggregating (part_of c tree) ≡ body.aggregating
unfolding token
of-body c tree body e = ap (λ (part : Part). part.aggregating) (exprtree-record c tree.at tree.body) ∙ ap (λ (b : Body). b.aggregating) e

-- ---- parts

pub got : (c : Contents) (result : Bool) (read tree : ExprTree) → result ≡ is_aggregating (part_of c read) → read ≡ tree → result ≡ is_aggregating (part_of c tree)
got c result read tree e same = e ∙ ap (λ (tree : ExprTree). is_aggregating (part_of c tree)) same

pub one-part : (result a : Bool) → result ≡ a → result ≡ (a || false)
one-part result a e = e ∙ sym (or_false a)

pub two-parts : (first second a b : Bool) → first ≡ a → second ≡ b → (first || second) ≡ (a || (b || false))
two-parts first second a b e f = (λ i. e i || f i) ∙ ap (λ (rest : Bool). a || rest) (sym (or_false b))

pub three-parts : (first second third a b c : Bool) → first ≡ a → second ≡ b → third ≡ c → ((first || second) || third) ≡ (a || (b || (c || false)))
three-parts first second third a b c e f g =
    (λ i. (e i || f i) || g i) ∙ or_associates a b c ∙ ap (λ (rest : Bool). a || (b || rest)) (sym (or_false c))

pub part-and : (first second a b : Bool) → first ≡ a → second ≡ b → (first || second) ≡ (a || b)
part-and first second a b e f = λ i. e i || f i

-- ---- steps and arms

pub steps-are : (steps : List StepPart) → list_any step_aggregates steps ≡ list_any is_aggregating (map (λ (step : StepPart). step.part) steps)
steps-are [] = refl
steps-are (step ∷ steps) = ap (λ (rest : Bool). step.part.aggregating || rest) (steps-are steps)

pub step-is : (c : Contents) (step : ExprStep) → is_aggregating (part_of c step.part) ≡ step_aggregates (step_of c step)
unfolding token
step-is c step = ap step_aggregates (sym (exprstep-record c step.op step.part))

pub arm-is : (c : Contents) (arm : ArmTree)
    → (is_aggregating (part_of c arm.condition) || (is_aggregating (part_of c arm.value) || false)) ≡ list_any is_aggregating (arm_parts (arm_of c arm))
unfolding token
arm-is c arm = ap (λ (part : ArmPart). list_any is_aggregating (arm_parts part)) (sym (armtree-record c arm.condition arm.value))

-- ---- loops

pub any-more : {X Y : Type 0} (test : Y → Bool) (p : X → Y) (xs : List X) (i : ℕ) (x : X) → i < length xs → x ≡ get_or xs i x
    → list_any test (map p (take (i + 1) xs)) ≡ (list_any test (map p (take i xs)) || test (p x))
any-more test p xs i x within e =
    ap (λ (ys : List _). list_any test (map p ys)) (take_more xs i x within ∙ ap (λ y. take i xs ++ y ∷ []) (sym e)) ∙ behind test p (take i xs) x where
      behind : {X Y : Type 0} (test : Y → Bool) (p : X → Y) (xs : List X) (x : X) → list_any test (map p (xs ++ x ∷ [])) ≡ (list_any test (map p xs) || test (p x))
      behind test p [] x = or_false (test (p x))
      behind test p (y ∷ xs) x = ap (λ (rest : Bool). test (p y) || rest) (behind test p xs x) ∙ sym (or_associates (test (p y)) (list_any test (map p xs)) (test (p x)))

pub any-flat-more : {X Y Z : Type 0} (test : Z → Bool) (f : Y → List Z) (p : X → Y) (xs : List X) (i : ℕ) (x : X) → i < length xs → x ≡ get_or xs i x
    → list_any test (flat_map f (map p (take (i + 1) xs))) ≡ (list_any test (flat_map f (map p (take i xs))) || list_any test (f (p x)))
any-flat-more test f p xs i x within e =
    ap (λ (ys : List _). list_any test (flat_map f (map p ys))) (take_more xs i x within ∙ ap (λ y. take i xs ++ y ∷ []) (sym e)) ∙ flat_behind test f p (take i xs) x where
      flat_behind : {X Y Z : Type 0} (test : Z → Bool) (f : Y → List Z) (p : X → Y) (xs : List X) (x : X)
          → list_any test (flat_map f (map p (xs ++ x ∷ []))) ≡ (list_any test (flat_map f (map p xs)) || list_any test (f (p x)))
      flat_behind test f p [] x = ap (list_any test) (append-nil (f (p x)))
      flat_behind test f p (y ∷ xs) x =
          list_any-append test (f (p y)) (flat_map f (map p (xs ++ x ∷ []))) ∙ ap (λ (rest : Bool). list_any test (f (p y)) || rest) (flat_behind test f p xs x)
          ∙ sym (or_associates (list_any test (f (p y))) (list_any test (flat_map f (map p xs))) (list_any test (f (p x))))
          ∙ ap (λ (before : Bool). before || list_any test (f (p x))) (sym (list_any-append test (f (p y)) (flat_map f (map p xs))))

pub case-parts : (parts : List Part) (otherwise : Option Part) (a b : Bool) → a ≡ list_any is_aggregating parts → b ≡ list_any is_aggregating (optional_part otherwise)
    → (a || b) ≡ list_any is_aggregating (parts ++ optional_part otherwise)
case-parts parts otherwise a b e f = (λ i. e i || f i) ∙ sym (list_any-append is_aggregating parts (optional_part otherwise))

pub case-is : (c : Contents) (tree : ExprTree) (arms : List ArmTree) (otherwise : Option ExprTree) (a b : Bool) → tree.body ≡ e.Case arms otherwise
    → a ≡ list_any is_aggregating (flat_map arm_parts (map (arm_of c) arms)) → b ≡ otherwise_aggregates c otherwise → (a || b) ≡ is_aggregating (part_of c tree)
unfolding token
case-is c tree arms None a b is in_arms behind =
    case-parts (flat_map arm_parts (map (arm_of c) arms)) None a b in_arms behind
    ∙ sym (of-body c tree _ (ap (body_of c) is ∙ exprbody-case-none c arms))
case-is c tree arms (Some last) a b is in_arms behind =
    case-parts (flat_map arm_parts (map (arm_of c) arms)) (Some (part_of c last)) a b in_arms (one-part b (is_aggregating (part_of c last)) behind)
    ∙ sym (of-body c tree _ (ap (body_of c) is ∙ exprbody-case-some c arms last))

pub aggregate-is : (c : Contents) (tree : ExprTree) (function : AggWord) (argument : Option ExprTree) → tree.body ≡ e.Aggregate function argument
    → true ≡ is_aggregating (part_of c tree)
unfolding token
aggregate-is c tree function None is = sym (of-body c tree _ (ap (body_of c) is ∙ exprbody-aggregate-none c function))
aggregate-is c tree function (Some argument) is = sym (of-body c tree _ (ap (body_of c) is ∙ exprbody-aggregate-some c function argument))
