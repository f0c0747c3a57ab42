-- Sublinks over the rows of a query mean there what they mean over columns of these rows.
use Rattle.std.proofs.Common.{◌≡◌, ℕ, zero, suc, ◌≤◌, ◌<◌, true, ◌&&◌, nat_le, List, [], ◌∷◌, length, get_or, set, Option, Some, None, refl, sym, ap, ◌∙◌, subst, arith}
use Rattle.std.specs.Prelude.{slice_get, option_map}
use Rattle.std.proofs.lemmas.Bool.{leb-true}
use Rattle.std.proofs.lemmas.Option.{get_or_from_slice_get, slice_get-get_or, slice_get-map, slice_get_within}
use Rattle.perm_values.specs.Rows.{picked, value_at, PlacesWithin}
use Rattle.perm_values.specs.declared.kind.Kind.{Kind}
use Rattle.perm_values.specs.declared.kind.Kind.TheVariants.{Text}
use Rattle.perm_values.specs.declared.value.Value.TheVariants.{Null}
use Rattle.perm_values.proofs.Steps.{by}
use Rattle.bag_algebra.proofs.Truths.{left-true, right-true}
use Rattle.bag_algebra.specs.Bags.{Row}
use Rattle.bag_algebra.specs.Children.{sublink_value, subs_denote}
use Rattle.bag_algebra.specs.Kinds.{kind_in, kinds_in, kinds_of}
use Rattle.bag_algebra.specs.Meaning.{Database, meaning, optional_value}
use Rattle.bag_algebra.specs.Means.{sub_value}
use Rattle.bag_algebra.specs.Outcome.{both, both_then}
use Rattle.bag_algebra.specs.Rewriting.{is_plain}
use Rattle.bag_algebra.specs.TablesRead.{EachTable}
use Rattle.bag_algebra.specs.WellFormed.{WellFormed, sub_form, sub_kind}
use Rattle.bag_algebra.specs.built.Forms.{AllSubsForm, EachTableOfSubs, subs_kinds}
use Rattle.bag_algebra.specs.built.Scopes.{all_plain}
use Rattle.bag_algebra.specs.declared.expr.Expr.{Expr}
use Rattle.bag_algebra.specs.declared.query.Query.{Query}
use Rattle.bag_algebra.specs.declared.query.SubKind.{SubKind}
use Rattle.bag_algebra.specs.declared.query.SubKind.TheVariants as sub
use Rattle.bag_algebra.specs.declared.query.Sublink.{Sublink}
use Rattle.query_facts.proofs.Alike.{Alike, denote-alike}
use Rattle.query_facts.specs.reached.Reach.{reach_of}
use Rattle.simplifier.proofs.projections.AlikeForms.{AlikeKinds, formed-alike}
use Rattle.simplifier.specs.projections.Carried.{AllCarried, IsCarried, Leads, TestedMoved, all_reach}

module _ (order : List ℕ) where
  -- ---- what stays of a sublink

  pub carried-plain : (subs others : List Sublink) → AllCarried order subs others → all_plain subs ≡ true → all_plain others ≡ true
  carried-plain [] [] c h = refl
  carried-plain [] (other ∷ others) c h = absurd c
  carried-plain (sub ∷ subs) [] c h = absurd c
  carried-plain (sub ∷ subs) (other ∷ others) c h =
      (λ i. is_plain (sym c.0.query i) && all_plain others)
      ∙ (λ i. left-true (is_plain sub.query) (all_plain subs) h i && carried-plain subs others c.1 (right-true (is_plain sub.query) (all_plain subs) h) i)

  pub carried-tables : (P : ℕ → List Kind → Type 0) (subs others : List Sublink) → AllCarried order subs others → EachTableOfSubs P subs → EachTableOfSubs P others
  carried-tables P [] [] c h = tt
  carried-tables P [] (other ∷ others) c h = absurd c
  carried-tables P (sub ∷ subs) [] c h = absurd c
  carried-tables P (sub ∷ subs) (other ∷ others) c h = (subst (EachTable P) c.0.query h.0, carried-tables P subs others c.1 h.1)

  pub carried-kinds : (subs others : List Sublink) → AllCarried order subs others → subs_kinds subs ≡ subs_kinds others
  carried-kinds [] [] c = refl
  carried-kinds [] (other ∷ others) c = absurd c
  carried-kinds (sub ∷ subs) [] c = absurd c
  carried-kinds (sub ∷ subs) (other ∷ others) c = λ i. sub_kind (c.0.kind i) (kinds_of (c.0.query i)) ∷ carried-kinds subs others c.1 i

  module _ (first : ℕ) (leads : Leads first order) where
    -- ---- the columns that are read

    same_value : (u : Row) (k : ℕ) → k < first → value_at (picked order u) k ≡ value_at u k
    same_value u k low = get_or_from_slice_get (picked order u) k (value_at u k) Null (slice_get-map (value_at u) order k ∙ ap (option_map (value_at u)) (leads k low))

    rows-alike : (u : Row) (env : List Row) → Alike 0 first (picked order u ∷ env) (u ∷ env)
    rows-alike u env zero place h = same_value u place (omega (arith, h))
    rows-alike u env (suc own) place h = refl

    module _ (kinds : List Kind) (within : PlacesWithin (length kinds) order) (outer : List (List Kind)) where
      inside : (k : ℕ) → k < first → k < length kinds
      inside k low =
          let there = leads k low in
          subst (λ place. place < length kinds) (get_or_from_slice_get order k k 0 there) (within k 0 (slice_get_within order k k there))

      same_kind : (k : ℕ) → k < first → slice_get (kinds_in kinds order) k ≡ slice_get kinds k
      same_kind k low =
          slice_get-map (kind_in kinds) order k ∙ ap (option_map (kind_in kinds)) (leads k low) ∙ sym (slice_get-get_or kinds k Text (inside k low))

      kinds-alike : AlikeKinds 0 first (kinds_in kinds order ∷ outer) (kinds ∷ outer)
      kinds-alike zero place h = same_kind place (omega (arith, h))
      kinds-alike (suc own) place h = refl

      -- ---- well formed sublinks

      tested-form : (kind : SubKind) (part moved : Option Expr) (columns : List Kind) → TestedMoved order part moved →
          sub_form kind part (kinds_in kinds order ∷ outer) columns → sub_form kind moved (kinds ∷ outer) columns
      tested-form sub.Exists None None columns m h = h
      tested-form sub.Exists None (Some b) columns m h = absurd m
      tested-form sub.Exists (Some a) moved columns m h = absurd h
      tested-form (sub.Any c) None moved columns m h = absurd h
      tested-form (sub.Any c) (Some a) None columns m h = absurd m
      tested-form (sub.Any c) (Some a) (Some b) columns m h =
          record { column = h.column; one = h.one; compared = m.kind kinds outer [] h.column within h.compared }
      tested-form (sub.All c) None moved columns m h = absurd h
      tested-form (sub.All c) (Some a) None columns m h = absurd m
      tested-form (sub.All c) (Some a) (Some b) columns m h =
          record { column = h.column; one = h.one; compared = m.kind kinds outer [] h.column within h.compared }
      tested-form sub.Scalar None None columns m h = h
      tested-form sub.Scalar None (Some b) columns m h = absurd m
      tested-form sub.Scalar (Some a) moved columns m h = absurd h

      pub carried-form : (subs others : List Sublink) → AllCarried order subs others → all_reach first subs ≡ true →
          AllSubsForm (kinds_in kinds order ∷ outer) subs → AllSubsForm (kinds ∷ outer) others
      carried-form [] [] c r h = tt
      carried-form [] (other ∷ others) c r h = absurd c
      carried-form (sub ∷ subs) [] c r h = absurd c
      carried-form (sub ∷ subs) (other ∷ others) c r h =
          let reach = leb-true (reach_of sub.query) first (left-true (nat_le (reach_of sub.query) first) (all_reach first subs) r) in
          record {
            query = subst (WellFormed (kinds ∷ outer)) c.0.query
                (formed-alike sub.query 0 first (kinds_in kinds order ∷ outer) (kinds ∷ outer) reach kinds-alike h.query);
            fitting = by (λ i. sub_form (c.0.kind i) other.tested (kinds ∷ outer) (kinds_of (c.0.query i)))
                (tested-form sub.kind sub.tested other.tested (kinds_of sub.query) c.0.tested h.fitting);
            others = carried-form subs others c.1 (right-true (nat_le (reach_of sub.query) first) (all_reach first subs) r) h.others;
          }

    -- ---- what sublinks answer

    module _ (db : Database) (env : List Row) (u : Row) where
      same_operand : (part moved : Option Expr) → TestedMoved order part moved → optional_value part env (picked order u) ≡ optional_value moved env u
      same_operand None None m = refl
      same_operand None (Some b) m = absurd m
      same_operand (Some a) None m = absurd m
      same_operand (Some a) (Some b) m = sym (m.value u env [])

      same_rows : (q : Query) → reach_of q ≤ first → meaning q db (picked order u ∷ env) ≡ meaning q db (u ∷ env)
      same_rows q reach = ap (λ m. m.rows) (denote-alike q 0 first db (picked order u ∷ env) (u ∷ env) reach (rows-alike u env))

      one-answer : (sub other : Sublink) → IsCarried order sub other → reach_of sub.query ≤ first →
          sublink_value db env (picked order u) sub ≡ sublink_value db env u other
      one-answer sub other c reach =
          (λ i. both_then (same_operand sub.tested other.tested c.tested i) (same_rows sub.query reach i) (sub_value sub.kind))
          ∙ (λ i. both_then (optional_value other.tested env u) (meaning (c.query i) db (u ∷ env)) (sub_value (c.kind i)))

      pub carried-answers : (subs others : List Sublink) → AllCarried order subs others → all_reach first subs ≡ true →
          (subs_denote subs db env).answers (picked order u) ≡ (subs_denote others db env).answers u
      carried-answers [] [] c r = refl
      carried-answers [] (other ∷ others) c r = absurd c
      carried-answers (sub ∷ subs) [] c r = absurd c
      carried-answers (sub ∷ subs) (other ∷ others) c r =
          let reach = leb-true (reach_of sub.query) first (left-true (nat_le (reach_of sub.query) first) (all_reach first subs) r) in
          λ i. both (λ v vs. v ∷ vs) (one-answer sub other c.0 reach i)
          (carried-answers subs others c.1 (right-true (nat_le (reach_of sub.query) first) (all_reach first subs) r) i)

-- ---- carried one by one

-- the first n are carried, and the others as they were
abbrev pub CarriedTo : List ℕ → ℕ → List Sublink → List Sublink → Type 0
CarriedTo order zero subs others = subs ≡ others
CarriedTo order (suc n) [] [] = Unit {0}
CarriedTo order (suc n) [] (other ∷ others) = ⊥
CarriedTo order (suc n) (sub ∷ subs) [] = ⊥
CarriedTo order (suc n) (sub ∷ subs) (other ∷ others) = IsCarried order sub other × CarriedTo order n subs others

module _ (order : List ℕ) where
  pub one-carried : (subs others : List Sublink) (n : ℕ) (default new : Sublink) → CarriedTo order n subs others → n < length others →
      IsCarried order (get_or others n default) new → CarriedTo order (suc n) subs (set others n new)
  one-carried subs [] n default new c low t = absurd (omega (arith, low))
  one-carried [] (other ∷ others) zero default new c low t = absurd (cc c)
  one-carried [] (other ∷ others) (suc n) default new c low t = absurd c
  one-carried (sub ∷ subs) (other ∷ others) zero default new c low t = (subst (λ s. IsCarried order s new) (sym (first_of_same c)) t, rest_of_same c) where
    first_of_same : (sub ∷ subs) ≡ (other ∷ others) → sub ≡ other
    first_of_same e = cc

    rest_of_same : (sub ∷ subs) ≡ (other ∷ others) → subs ≡ others
    rest_of_same e = cc
  one-carried (sub ∷ subs) (other ∷ others) (suc n) default new c low t = (c.0, one-carried subs others n default new c.1 (omega (arith, low)) t)

  pub all-carried : (subs others : List Sublink) (n : ℕ) → length others ≤ n → CarriedTo order n subs others → AllCarried order subs others
  all-carried [] [] n h c = tt
  all-carried [] (other ∷ others) zero h c = absurd (omega (arith, h))
  all-carried [] (other ∷ others) (suc n) h c = absurd c
  all-carried (sub ∷ subs) [] zero h c = absurd (cc c)
  all-carried (sub ∷ subs) [] (suc n) h c = absurd c
  all-carried (sub ∷ subs) (other ∷ others) zero h c = absurd (omega (arith, h))
  all-carried (sub ∷ subs) (other ∷ others) (suc n) h c = (c.0, all-carried subs others n (omega (arith, h)) c.1)
