-- Rows beside what sublinks contribute have no open sublink where the rows and the rewritings have none and the sublinks are closed.
use Rattle.std.proofs.Common.{List, [], ◌∷◌, All, Option, Some, None}
use Rattle.std.proofs.lemmas.List.Elements.{All-nil, All-cons, All-head, All-tail}
use Rattle.bag_algebra.specs.declared.expr.Expr.{Expr}
use Rattle.bag_algebra.specs.declared.query.Query.{Query}
use Rattle.bag_algebra.specs.declared.query.Sublink.{Sublink}
use Rattle.rewrite_core.proofs.ClosedSublinks.{closed-Project}
use Rattle.rewrite_core.specs.rewritings.OpenSublinks.{IsClosedSublink, NoOpenSublink}
use Rattle.rewrite_sublink.specs.Candidates.{beside_row}
use Rattle.lateral_rewrite.specs.Dependent.{all_contributed, choice_of, chosen_beside, contributed, contributed_by, value_items}
use Rattle.lateral_rewrite.specs.declared.choices.Choice.{Choice}

chosen-closed : (choice : Choice) (operand : Expr) (rows : Query) (sub : Sublink) (r : Query) → NoOpenSublink rows → IsClosedSublink sub → NoOpenSublink r →
    NoOpenSublink (chosen_beside choice operand rows sub r)
chosen-closed choice operand rows sub r h s k =
    let alone = All-cons IsClosedSublink sub [] s (All-nil IsClosedSublink) in
    ((closed-Project rows (beside_row rows (value_items sub operand)) (sub ∷ []) h alone, ((k, tt), tt)), tt)

by-closed : (choice : Option Choice) (tested : Option Expr) (rows : Query) (sub : Sublink) (r : Query) → NoOpenSublink rows → IsClosedSublink sub →
    NoOpenSublink r → NoOpenSublink (contributed_by choice tested rows sub r)
by-closed None tested rows sub r h s k = (h, (k, tt))
by-closed (Some choice) None rows sub r h s k = (h, (k, tt))
by-closed (Some choice) (Some operand) rows sub r h s k = chosen-closed choice operand rows sub r h s k

pub contributed-closed : (rows : Query) (sub : Sublink) (r : Query) → NoOpenSublink rows → IsClosedSublink sub → NoOpenSublink r →
    NoOpenSublink (contributed rows sub r)
contributed-closed rows sub r h s k = by-closed (choice_of sub.kind) sub.tested rows sub r h s k

pub all-contributed-closed : (rows : Query) (subs : List Sublink) (rewritings : List Query) → NoOpenSublink rows → All IsClosedSublink subs →
    All NoOpenSublink rewritings → NoOpenSublink (all_contributed rows subs rewritings)
all-contributed-closed rows [] rewritings h s k = h
all-contributed-closed rows (sub ∷ subs) [] h s k = h
all-contributed-closed rows (sub ∷ subs) (r ∷ rewritings) h s k =
    all-contributed-closed (contributed rows sub r) subs rewritings
    (contributed-closed rows sub r h (All-head IsClosedSublink sub subs s) (All-head NoOpenSublink r rewritings k))
    (All-tail IsClosedSublink sub subs s) (All-tail NoOpenSublink r rewritings k)
