-- Sublinks over queries that are made well formed.
use Rattle.std.specs.Prelude.{◌≡◌, ℕ, Bool, true, false, cond, not, List, [], ◌∷◌, ◌++◌, length, nat_eq, slice_get, Option, Some, None, IfSome}
use Rattle.std.proofs.Common.{refl, ap, sym, ◌∙◌, subst, true≢false, arith, eqb-true}
use Rattle.null_logic.specs.declared.compare.Compare.{Compare}
use Rattle.perm_values.specs.Rows.{PlacesWithin}
use Rattle.perm_values.specs.declared.kind.Kind.{Kind}
use Rattle.perm_values.specs.declared.kind.Kind.TheVariants.{Text, Boolean}
use Rattle.perm_values.proofs.Lists.{front-none, back-none}
use Rattle.bag_algebra.specs.built.Forms.{subs_kinds}
use Rattle.bag_algebra.specs.Kinds.{kinds_of, kind_in, width_of}
use Rattle.bag_algebra.specs.WellFormed.{HasKind, WellFormed, AggregatesForm, sub_form, sub_kind}
use Rattle.bag_algebra.specs.declared.expr.Expr.{Expr}
use Rattle.bag_algebra.specs.declared.query.Aggr.{Aggr}
use Rattle.bag_algebra.specs.declared.query.SubKind.{SubKind}
use Rattle.bag_algebra.specs.declared.query.SubKind.TheVariants as sub
use Rattle.name_meaning.specs.Cores.{settle}
use Rattle.name_meaning.specs.Expressions.{in_kind}
use Rattle.name_meaning.specs.Meanings.{Surroundings, Before, Built, Meant, Part, Around, OutColumn, QueryMeant, QueryPart, is_whole, broken, broken_if, seen_kind, settled, unites}
use Rattle.name_meaning.specs.Scopes.{ungrouped}
use Rattle.name_meaning.specs.Sublinks.{breaking, around_of, is_one_column, first_kind, exists_meant, scalar_meant, in_tested, tested_break, tested_kind, tested_looked, tested_unlooked, tested_meant, if_standing}
use Rattle.name_meaning.specs.laws.Known.{HasItsKinds}
use Rattle.name_meaning.specs.laws.Formed.{IsFormed}
use Rattle.name_meaning.specs.laws.Standing.{StandAt, RowsHold, AggregatesStand}
use Rattle.name_meaning.proofs.FormedParts.{none-formed}
use Rattle.name_meaning.proofs.GoodMeant.{GoodMeant, GoodPart, IsPlain}
use Rattle.name_meaning.specs.declared.rule.Rule.TheVariants as rule
use Rattle.name_meaning.proofs.Every.{whole-kind, unbroken}
use Rattle.name_meaning.proofs.SettledKinds.{settled-twice, settled-united, settled-second}

-- a query that breaks nothing has its kinds and is made well formed, and its provenance columns are columns of it
pub record GoodQuery (around : Around) (m : QueryMeant) : Type 0 where
  pub known : m.breaks ≡ [] → HasItsKinds m
  pub formed : m.breaks ≡ [] → (rows : List (List Kind)) → RowsHold around.outer rows → (wanted : List Kind) → WellFormed rows (m.make wanted)
  pub places : m.breaks ≡ [] → IfSome m.places (PlacesWithin (width_of (m.make [])))

-- ---- one column

pub record HasOneColumn (q : QueryMeant) : Type 0 where
  pub column : OutColumn
  pub first : first_kind q ≡ column.kind
  pub kinds : (kind : Kind) → kinds_of (q.make (kind ∷ [])) ≡ settled column.kind kind ∷ []

one-column : (q : QueryMeant) → HasItsKinds q → q.breaks ≡ [] → is_one_column q.columns ≡ true → HasOneColumn q
one-column q known whole one = chosen known.columns known.known known.kinds (subst (λ c. is_one_column c ≡ true) known.known one) where
  chosen : (columns : List OutColumn) → q.columns ≡ Some columns → ((wanted : List Kind) → kinds_of (q.make wanted) ≡ settle columns wanted)
      → nat_eq (length columns) 1 ≡ true → HasOneColumn q
  chosen [] is kinds e = absurd (true≢false (sym e))
  chosen (c ∷ []) is kinds e = record {
    column = c;
    first = (λ i. cond (is_whole (whole i)) (elim (is i) [
      | None ↦ None
      | Some columns ↦ elim columns [ [] ↦ None | c ∷ cs ↦ c.kind ]
    ]) None);
    kinds = λ kind. kinds (kind ∷ []);
  }
  chosen (c ∷ d ∷ columns) is kinds e = let l = eqb-true (length (c ∷ d ∷ columns)) 1 e in absurd (omega (arith, l))

-- ---- the sublink of a form

formed-sub : (here : Surroundings) (n : Before) (kind : SubKind) (tested : Option Expr) (q : QueryMeant) (wanted : List Kind) (aggregates : List Aggr) (own : Kind)
    → here.sublinks ≡ true
    → sub_kind kind (kinds_of (q.make wanted)) ≡ own
    → ((rows : List (List Kind)) → RowsHold here.scopes rows → WellFormed rows (q.make wanted))
    → ((rows : List (List Kind)) → RowsHold here.scopes rows → AggregatesStand here.scopes n.aggregates aggregates rows
    → sub_form kind tested rows (kinds_of (q.make wanted)))
    → ((rows : List (List Kind)) → RowsHold (ungrouped here.scopes) rows → AggregatesForm rows aggregates)
    → (here.aggregates ≡ false → aggregates ≡ [])
    → IsFormed here n (record { kind = kind; tested = tested; query = q.make wanted } ∷ []) aggregates
    (λ (rows : List (List Kind)) (subs : List Kind). slice_get subs n.subs ≡ Some own)
formed-sub here n kind tested q wanted aggregates own standing is query form arguments without = record {
  holds = λ rows subs hold stand sublinks. sublinks.0 ∙ ap Some is;
  subs_formed = λ rows hold stand. record { query = query rows hold; fitting = form rows hold stand; others = tt };
  aggregates_formed = arguments;
  without_subs = λ no. absurd (true≢false (sym standing ∙ no));
  without_aggregates = without;
}

pub good-exists : (here : Surroundings) (at : ℕ) (q : QueryMeant) → here.sublinks ≡ true → GoodQuery (around_of here) q → GoodMeant here (exists_meant here at q)
good-exists here at q standing good whole wanted n =
    formed-sub here n sub.Exists None q [] [] Boolean standing refl (λ rows hold. good.formed whole rows hold [])
    (λ rows hold stand. tt) (λ rows hold. none-formed rows) (λ no. refl)

pub good-scalar : (here : Surroundings) (at : ℕ) (q : QueryMeant) → here.sublinks ≡ true → GoodQuery (around_of here) q → GoodMeant here (scalar_meant here at q)
good-scalar here at q standing good whole wanted n =
    let own = front-none q.breaks (broken_if (not (is_one_column q.columns)) rule.UnfitWidth at) whole in
    let one = one-column q (good.known own) own
    (unbroken (is_one_column q.columns) rule.UnfitWidth at (back-none q.breaks (broken_if (not (is_one_column q.columns)) rule.UnfitWidth at) whole)) in
    let kind = settled (first_kind q) wanted in
    let kinds : kinds_of (q.make (kind ∷ [])) ≡ kind ∷ [] =
    one.kinds kind ∙ ap (λ k. settled k kind ∷ []) (sym one.first) ∙ ap (λ k. k ∷ []) (settled-twice (first_kind q) wanted) in
    formed-sub here n sub.Scalar None q (kind ∷ []) [] kind standing (ap (λ ks. kind_in ks 0) kinds)
    (λ rows hold. good.formed own rows hold (kind ∷ []))
    (λ rows hold stand. record { column = kind; one = kinds }) (λ rows hold. none-formed rows) (λ no. refl)

-- ---- where a sublink may stand

pub good-if_standing : (here : Surroundings) (at : ℕ) (kind : Option Kind) (m : Meant) → (here.sublinks ≡ true → GoodMeant here m) → GoodMeant here (if_standing here at kind m)
good-if_standing here at kind m good = chosen here.sublinks refl where
  chosen : (b : Bool) → here.sublinks ≡ b → GoodMeant here (cond b m (breaking rule.MisplacedSublink at kind))
  chosen true e = good e
  chosen false e = λ whole wanted n. absurd (cc whole)

pub plain-if_standing : (here : Surroundings) (at : ℕ) (kind : Option Kind) (m : Meant) → IsPlain m → IsPlain (if_standing here at kind m)
plain-if_standing here at kind m plain = chosen here.sublinks where
  chosen : (b : Bool) → IsPlain (cond b m (breaking rule.MisplacedSublink at kind))
  chosen true = plain
  chosen false = λ wanted n. refl

-- ---- a tested expression

form-in_kind : (every : Bool) (op : Compare) (tested : Expr) (rows : List (List Kind)) (kinds : List Kind) (common : Kind) → kinds ≡ common ∷ []
    → HasKind rows [] tested common → sub_form (in_kind every op) (Some tested) rows kinds
form-in_kind true op tested rows kinds common is h = record { column = common; one = is; compared = h }
form-in_kind false op tested rows kinds common is h = record { column = common; one = is; compared = h }

kind-in_kind : (every : Bool) (op : Compare) (kinds : List Kind) → sub_kind (in_kind every op) kinds ≡ Boolean
kind-in_kind true op kinds = refl
kind-in_kind false op kinds = refl

tested-fits : (seen : Option Kind) (at : ℕ) (q : QueryMeant) → tested_break seen at q ≡ [] → (is_one_column q.columns ≡ true) × (unites seen (first_kind q) ≡ true)
tested-fits seen at q e = chosen (is_one_column q.columns) e where
  chosen : (b : Bool) → cond b (broken_if (not (unites seen (first_kind q))) rule.UnfitKind at) (broken rule.UnfitWidth at ∷ []) ≡ [] → (b ≡ true) × (unites seen (first_kind q) ≡ true)
  chosen true e = (refl, unbroken (unites seen (first_kind q)) rule.UnfitKind at e)
  chosen false e = absurd (cc e)

good-looked : (here : Surroundings) (every : Bool) (op : Compare) (tested : Meant) (at : ℕ) (q : QueryMeant) → here.sublinks ≡ true
    → GoodMeant (in_tested here) tested → GoodQuery (around_of here) q → GoodMeant here (tested_looked (in_kind every op) tested at q)
good-looked here every op tested at q standing good inner whole wanted n =
    let own_break = tested_break (seen_kind tested) at q in
    let front = front-none (tested.breaks ++ q.breaks) own_break whole in
    let tested_whole = front-none tested.breaks q.breaks front in
    let query_whole = back-none tested.breaks q.breaks front in
    let fits = tested-fits (seen_kind tested) at q (back-none (tested.breaks ++ q.breaks) own_break whole) in
    let one = one-column q (inner.known query_whole) query_whole fits.0 in
    let common : Kind = tested_kind tested q in
    let made : Built = tested.make common n in
    let formed = good tested_whole common n in
    let kinds : kinds_of (q.make (common ∷ [])) ≡ common ∷ [] =
    one.kinds common ∙ ap (λ k. settled k common ∷ []) (sym one.first)
    ∙ ap (λ k. k ∷ []) (settled-second (seen_kind tested) (first_kind q) Text fits.1) in
    let taken : settled tested.kind common ≡ common =
    ap (λ k. settled k common) (sym (whole-kind tested tested_whole)) ∙ settled-united (seen_kind tested) (first_kind q) Text in
    formed-sub here n (in_kind every op) (Some made.expr) q (common ∷ []) made.aggregates Boolean standing (kind-in_kind every op _)
    (λ rows hold. inner.formed query_whole rows hold (common ∷ []))
    (λ rows hold stand. form-in_kind every op made.expr rows _ common kinds
    (subst (HasKind rows [] made.expr) taken
    (formed.holds rows [] hold stand (subst (λ subs. StandAt n.subs (subs_kinds subs) []) (sym (formed.without_subs refl)) tt))))
    formed.aggregates_formed formed.without_aggregates

pub good-tested : (here : Surroundings) (at : ℕ) (every : Bool) (op : Compare) (part : Part) (query : QueryPart) → GoodPart part
    → GoodQuery (around_of here) (query.means (around_of here)) → GoodMeant here (tested_meant here at (in_kind every op) part query)
good-tested here at every op part query good inner = chosen here.sublinks refl where
  chosen : (b : Bool) → here.sublinks ≡ b → GoodMeant here (cond b (tested_looked (in_kind every op) (part.means (in_tested here)) query.at (query.means (around_of here)))
      (tested_unlooked at (part.means (in_tested here))))
  chosen true e = good-looked here every op (part.means (in_tested here)) query.at (query.means (around_of here)) e (good.formed (in_tested here)) inner
  chosen false e = λ whole wanted n. absurd (cc (back-none (part.means (in_tested here)).breaks (broken rule.MisplacedSublink at ∷ []) whole))

pub plain-tested : (here : Surroundings) (at : ℕ) (kind : SubKind) (part : Part) (query : QueryPart) → ((there : Surroundings) → IsPlain (part.means there))
    → IsPlain (tested_meant here at kind part query)
plain-tested here at kind part query plain = chosen here.sublinks where
  chosen : (b : Bool) → IsPlain (cond b (tested_looked kind (part.means (in_tested here)) query.at (query.means (around_of here)))
      (tested_unlooked at (part.means (in_tested here))))
  chosen true = λ wanted n. plain (in_tested here) (tested_kind (part.means (in_tested here)) (query.means (around_of here))) n
  chosen false = λ wanted n. plain (in_tested here) wanted n
