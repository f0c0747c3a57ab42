-- Each form of an expression is made well formed where its parts are.
use Rattle.std.specs.Prelude.{◌≡◌, ⊤, ℕ, true, false, cond, not, List, [], ◌∷◌, is_some, Some, None}
use Rattle.std.proofs.Common.{refl, true≢false}
use Rattle.std.specs.List.{AllByRecursion as Every}
use Rattle.null_logic.specs.declared.compare.Compare.TheVariants.{Equal, NotEqual}
use Rattle.null_logic.specs.declared.operator.Operator.TheVariants as x
use Rattle.perm_values.specs.declared.kind.Kind.{Kind}
use Rattle.perm_values.specs.declared.kind.Kind.TheVariants as kind
use Rattle.perm_values.specs.declared.value.Value.TheVariants as v
use Rattle.bag_algebra.specs.WellFormed.{HasKind}
use Rattle.bag_algebra.specs.declared.expr.Expr.{Expr}
use Rattle.bag_algebra.specs.declared.expr.Expr.TheVariants.{Lit, Op, IsNull, IsTruth, Same}
use Rattle.sql_tree.specs.Regular.{IsConnective, IsFilled, IsSeveral, has_argument}
use Rattle.sql_tree.specs.declared.expression.ExprBody.TheOpen.{ExprBody-F}
use Rattle.bag_algebra.proofs.Truths.{left-false}
use Rattle.name_meaning.proofs.Equations.{ExprBodyFrame}
use Rattle.name_meaning.specs.Expressions.{body_step, known, first_of, second_of, negated_if, times, in_kind}
use Rattle.name_meaning.specs.Meanings.{Surroundings, Around, QueryPart}
use Rattle.name_meaning.specs.Operands.{need_of, gives_of}
use Rattle.name_meaning.specs.Scopes.{look_up}
use Rattle.name_meaning.specs.Sublinks.{null_at, around_of, exists_meant, scalar_meant}
use Rattle.name_meaning.specs.declared.need.Gives.TheVariants.{Always as always, Common as common}
use Rattle.name_meaning.specs.declared.need.Need.TheVariants.{OfKind as of_kind, Alike as alike, Free as free}
use Rattle.name_meaning.proofs.Aggregates.{good-aggregate}
use Rattle.name_meaning.proofs.Arms.{GoodStep, GoodArm, GoodOptional, null-holds, good-null, plain-null, good-chain, plain-chain, good-case, plain-case}
use Rattle.name_meaning.proofs.FoundColumns.{good-column, plain-column}
use Rattle.name_meaning.proofs.FormedParts.{formed-none}
use Rattle.name_meaning.proofs.ExpressionForms.{plain-alike, good-nots, good-signs, good-logic, good-compared, good-like, good-between, good-in_list, good-coalesce, good-null_if, good-is_null, good-is_truth, good-is_distinct}
use Rattle.name_meaning.proofs.GoodMeant.{GoodMeant, GoodPart, IsPlain}
use Rattle.name_meaning.proofs.Sublinks.{GoodQuery, good-exists, good-scalar, good-tested, good-if_standing, plain-if_standing, plain-tested}

abbrev pub GoodQueryPart : QueryPart → Type 0
GoodQueryPart query = (around : Around) → GoodQuery around (query.means around)

-- the parts are made well formed, and there are as many as the form needs
abbrev pub FormParts : ExprBodyFrame → Type 0
FormParts ExprBody-F.Null = ⊤
FormParts (ExprBody-F.NullOf kind) = ⊤
FormParts (ExprBody-F.Integer number) = ⊤
FormParts (ExprBody-F.Text text) = ⊤
FormParts (ExprBody-F.Truth truth) = ⊤
FormParts (ExprBody-F.Column reference) = ⊤
FormParts (ExprBody-F.«ExprBody::Paren» part) = GoodPart part
FormParts (ExprBody-F.Nots count part) = GoodPart part
FormParts (ExprBody-F.Signs count part) = GoodPart part
FormParts (ExprBody-F.Logic op parts) = IsConnective op × IsSeveral parts × Every GoodPart parts
FormParts (ExprBody-F.«ExprBody::Chain» first steps) = (level : ℕ) × GoodPart first × IsFilled steps × Every (GoodStep level) steps
FormParts (ExprBody-F.Compared op first second) = GoodPart first × GoodPart second
FormParts (ExprBody-F.Like negated text pattern) = GoodPart text × GoodPart pattern
FormParts (ExprBody-F.Between negated part low high) = GoodPart part × GoodPart low × GoodPart high
FormParts (ExprBody-F.InList negated part list) = GoodPart part × IsFilled list × Every GoodPart list
FormParts (ExprBody-F.InQuery negated part query) = GoodPart part × GoodQueryPart query
FormParts (ExprBody-F.Quantified every op part query) = GoodPart part × GoodQueryPart query
FormParts (ExprBody-F.IsNull negated part) = GoodPart part
FormParts (ExprBody-F.IsTruth negated truth part) = GoodPart part
FormParts (ExprBody-F.IsDistinct negated first second) = GoodPart first × GoodPart second
FormParts (ExprBody-F.Case arms otherwise) = IsFilled arms × Every GoodArm arms × GoodOptional otherwise
FormParts (ExprBody-F.Coalesce list) = IsFilled list × Every GoodPart list
FormParts (ExprBody-F.NullIf first second) = GoodPart first × GoodPart second
FormParts (ExprBody-F.Aggregate function argument) = (is_some argument ≡ has_argument function) × GoodOptional argument
FormParts (ExprBody-F.Exists query) = GoodQueryPart query
FormParts (ExprBody-F.Scalar query) = GoodQueryPart query

good-known : (here : Surroundings) (kind : Kind) (e : Expr) → ((rows : List (List Kind)) (subs : List Kind) → HasKind rows subs e kind) → GoodMeant here (known kind e)
good-known here kind e h whole wanted n = formed-none here n _ (λ rows subs hold. h rows subs)

pub formed-body : (frame : ExprBodyFrame) → FormParts frame → (at : ℕ) (here : Surroundings) → GoodMeant here ((body_step frame).means at here)
formed-body ExprBody-F.Null h at here = good-null here
formed-body (ExprBody-F.NullOf kind) h at here = good-known here kind (null_at kind) (λ rows subs. null-holds rows subs kind)
formed-body (ExprBody-F.Integer number) h at here =
    good-known here kind.Integer (Lit (v.Integer number) kind.Integer) (λ rows subs. record { fitting = refl; gives = refl })
formed-body (ExprBody-F.Text text) h at here = good-known here kind.Text (Lit (v.Text text) kind.Text) (λ rows subs. record { fitting = refl; gives = refl })
formed-body (ExprBody-F.Truth truth) h at here =
    good-known here kind.Boolean (Lit (v.Boolean truth) kind.Boolean) (λ rows subs. record { fitting = refl; gives = refl })
formed-body (ExprBody-F.Column reference) h at here = good-column here reference.at reference
formed-body (ExprBody-F.«ExprBody::Paren» part) h at here = h.formed here
formed-body (ExprBody-F.Nots count part) h at here = good-nots here count part h
formed-body (ExprBody-F.Signs count part) h at here = good-signs here count part h
formed-body (ExprBody-F.Logic op parts) h at here = good-logic here op parts h.0 h.1 h.2
formed-body (ExprBody-F.«ExprBody::Chain» first steps) h at here = good-chain here h.0 first steps h.1 h.2 h.3
formed-body (ExprBody-F.Compared op first second) h at here = good-compared here op first second h.0 h.1
formed-body (ExprBody-F.Like negated text pattern) h at here = good-like here negated text pattern h.0 h.1
formed-body (ExprBody-F.Between negated part low high) h at here = good-between here negated part low high h.0 h.1 h.2
formed-body (ExprBody-F.InList negated part list) h at here = good-in_list here negated part list h.0 h.1 h.2
formed-body (ExprBody-F.InQuery negated part query) h at here = good-tested here at negated (cond negated NotEqual Equal) part query h.0 (h.1 (around_of here))
formed-body (ExprBody-F.Quantified every op part query) h at here = good-tested here at every op part query h.0 (h.1 (around_of here))
formed-body (ExprBody-F.IsNull negated part) h at here = good-is_null here negated part h
formed-body (ExprBody-F.IsTruth negated truth part) h at here = good-is_truth here negated truth part h
formed-body (ExprBody-F.IsDistinct negated first second) h at here = good-is_distinct here negated first second h.0 h.1
formed-body (ExprBody-F.Case arms otherwise) h at here = good-case here arms otherwise h.0 h.1 h.2
formed-body (ExprBody-F.Coalesce list) h at here = good-coalesce here list h.0 h.1
formed-body (ExprBody-F.NullIf first second) h at here = good-null_if here first second h.0 h.1
formed-body (ExprBody-F.Aggregate function argument) h at here = good-aggregate here at function argument h.0 h.1
formed-body (ExprBody-F.Exists query) h at here =
    good-if_standing here at (Some kind.Boolean) (exists_meant here query.at (query.means (around_of here)))
    (λ standing. good-exists here query.at (query.means (around_of here)) standing (h (around_of here)))
formed-body (ExprBody-F.Scalar query) h at here =
    good-if_standing here at None (scalar_meant here query.at (query.means (around_of here)))
    (λ standing. good-scalar here query.at (query.means (around_of here)) standing (h (around_of here)))

-- ---- what makes no aggregate

pub plain-body : (frame : ExprBodyFrame) → FormParts frame → (body_step frame).aggregating ≡ false → (at : ℕ) (here : Surroundings)
    → IsPlain ((body_step frame).means at here)
plain-body ExprBody-F.Null h e at here = plain-null
plain-body (ExprBody-F.NullOf kind) h e at here = λ wanted n. refl
plain-body (ExprBody-F.Integer number) h e at here = λ wanted n. refl
plain-body (ExprBody-F.Text text) h e at here = λ wanted n. refl
plain-body (ExprBody-F.Truth truth) h e at here = λ wanted n. refl
plain-body (ExprBody-F.Column reference) h e at here = plain-column here reference.at (look_up 0 here.scopes reference)
plain-body (ExprBody-F.«ExprBody::Paren» part) h e at here = h.plain e here
plain-body (ExprBody-F.Nots count part) h e at here =
    plain-alike here (gives_of x.Not true) (need_of x.Not true) (λ es. times x.Not count (first_of es)) (part ∷ []) (h, tt) e
plain-body (ExprBody-F.Signs count part) h e at here =
    plain-alike here (gives_of x.Negate true) (need_of x.Negate true) (λ es. times x.Negate count (first_of es)) (part ∷ []) (h, tt) e
plain-body (ExprBody-F.Logic op parts) h e at here = plain-alike here (gives_of op false) (need_of op false) (Op op) parts h.2 e
plain-body (ExprBody-F.«ExprBody::Chain» first steps) h e at here = plain-chain here h.0 first steps h.1 h.3 e
plain-body (ExprBody-F.Compared op first second) h e at here =
    plain-alike here (gives_of (x.Compare op) false) (need_of (x.Compare op) false) (Op (x.Compare op)) (first ∷ second ∷ []) (h.0, (h.1, tt)) e
plain-body (ExprBody-F.Like negated text pattern) h e at here =
    plain-alike here (gives_of x.Like false) (need_of x.Like false) (λ es. negated_if negated (Op x.Like es)) (text ∷ pattern ∷ []) (h.0, (h.1, tt)) e
plain-body (ExprBody-F.Between negated part low high) h e at here =
    plain-alike here (gives_of x.Between false) (need_of x.Between false) (λ es. negated_if negated (Op x.Between es)) (part ∷ low ∷ high ∷ []) (h.0, (h.1, (h.2, tt))) e
plain-body (ExprBody-F.InList negated part list) h e at here =
    plain-alike here (gives_of x.InList false) (need_of x.InList false) (λ es. negated_if negated (Op x.InList es)) (part ∷ list) (h.0, h.2) e
plain-body (ExprBody-F.InQuery negated part query) h e at here =
    plain-tested here at (in_kind negated (cond negated NotEqual Equal)) part query (h.0.plain (left-false part.aggregating false e))
plain-body (ExprBody-F.Quantified every op part query) h e at here =
    plain-tested here at (in_kind every op) part query (h.0.plain (left-false part.aggregating false e))
plain-body (ExprBody-F.IsNull negated part) h e at here =
    plain-alike here (always kind.Boolean) free (λ es. negated_if negated (IsNull (first_of es))) (part ∷ []) (h, tt) e
plain-body (ExprBody-F.IsTruth negated truth part) h e at here =
    plain-alike here (always kind.Boolean) (of_kind kind.Boolean) (λ es. negated_if negated (IsTruth truth (first_of es))) (part ∷ []) (h, tt) e
plain-body (ExprBody-F.IsDistinct negated first second) h e at here =
    plain-alike here (always kind.Boolean) alike (λ es. negated_if (not negated) (Same (first_of es) (second_of es))) (first ∷ second ∷ []) (h.0, (h.1, tt)) e
plain-body (ExprBody-F.Case arms otherwise) h e at here = plain-case here arms otherwise h.1 h.2 e
plain-body (ExprBody-F.Coalesce list) h e at here = plain-alike here common alike (Op x.Coalesce) list h.1 e
plain-body (ExprBody-F.NullIf first second) h e at here = plain-alike here common alike (Op x.NullIf) (first ∷ second ∷ []) (h.0, (h.1, tt)) e
plain-body (ExprBody-F.Aggregate function argument) h e at here = absurd (true≢false e)
plain-body (ExprBody-F.Exists query) h e at here =
    plain-if_standing here at (Some kind.Boolean) (exists_meant here query.at (query.means (around_of here))) (λ wanted n. refl)
plain-body (ExprBody-F.Scalar query) h e at here =
    plain-if_standing here at None (scalar_meant here query.at (query.means (around_of here))) (λ wanted n. refl)
