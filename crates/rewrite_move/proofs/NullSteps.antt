-- An EXISTS that is false on the rows: NULLs behind them are a step.
use Rattle.std.proofs.Common.{◌≡◌, Bool, inl, inr, true, false, List, [], ◌∷◌, ◌++◌, map, length, Some, refl, sym, ap, ◌∙◌, subst, arith}
use Rattle.std.proofs.lemmas.Bool.{and_from}
use Rattle.std.proofs.lemmas.List.Elements.{All-append}
use Rattle.std.specs.List.{range_with_len}
use Rattle.null_logic.specs.declared.truth.Truth.TheVariants.{False}
use Rattle.perm_values.specs.declared.kind.Kind.{Kind}
use Rattle.perm_values.specs.declared.value.Value.TheVariants.{Boolean}
use Rattle.perm_values.proofs.Steps.{by}
use Rattle.bag_algebra.proofs.Members.{IsIn, in-map, from-map, in-member, member-in}
use Rattle.bag_algebra.proofs.Outcomes.{same_good}
use Rattle.bag_algebra.specs.Bags.{Row, Bag, nulls}
use Rattle.bag_algebra.specs.built.Forms.{AllSubsForm, EachTable-Project, WellFormed-Project}
use Rattle.bag_algebra.specs.built.Openings.{kinds_of-Project, meaning-Project}
use Rattle.bag_algebra.specs.built.Scopes.{all_plain, is_plain-Project}
use Rattle.bag_algebra.specs.Children.{subs_denote}
use Rattle.bag_algebra.specs.ColumnItems.{column_items}
use Rattle.bag_algebra.specs.Expressions.{has_truth}
use Rattle.bag_algebra.specs.Kinds.{kinds_of, place_kinds, shape, width_of}
use Rattle.bag_algebra.specs.Meaning.{Database, meaning, items_on}
use Rattle.bag_algebra.specs.Means.{Witness, all_empty, flat, is_some_row, sub_value}
use Rattle.bag_algebra.specs.Outcome.{Outcome, Good, and_then, mapped, both, each}
use Rattle.bag_algebra.specs.Rewriting.{is_plain}
use Rattle.bag_algebra.specs.WellFormed.{WellFormed, HasKind}
use Rattle.bag_algebra.specs.declared.expr.Item.{Item}
use Rattle.bag_algebra.specs.declared.query.Query.{Query}
use Rattle.bag_algebra.specs.declared.query.SubKind.TheVariants.{Exists}
use Rattle.bag_algebra.specs.declared.query.Sublink.{Sublink}
use Rattle.contribution.proofs.Padding.{null_items-kinds, null_items-give, null_items-formed}
use Rattle.contribution.specs.NullItems.{null_item}
use Rattle.query_laws.specs.SublinkLists.{Contributes, by_row, by_no_row}
use Rattle.rewrite_core.proofs.KeptRows.{flat-all_empty, row-width}
use Rattle.rewrite_core.proofs.Places.{within-range}
use Rattle.rewrite_move.proofs.KnownValues.{KnownValue, known-has, value-is}
use Rattle.rewrite_move.specs.Moved.{beside_nulls}
use Rattle.rewrite_sublink.proofs.LongerRows.{row-begun}
use Rattle.rewrite_sublink.proofs.ProjectRows.{beside_row-kinds, beside_row-value, columns-formed}
use Rattle.rewrite_sublink.proofs.Steps.{SubsFitting, Begun, Extended, Reached, StepGiven}
use Rattle.rewrite_sublink.proofs.SublinkRows as under
use Rattle.rewrite_sublink.specs.Candidates.{beside_row}

no_row-there : (vs : Bag) → is_some_row vs ≡ false → vs ≡ []
no_row-there [] e = refl
no_row-there (v ∷ vs) e = absurd (cc e)

each-longer : (on : Row → Outcome Row) (more : Row) (us : Bag) → ((b : Row) → IsIn b us → on b ≡ Good (b ++ more)) → each on us ≡ Good (map (λ b. b ++ more) us)
each-longer on more [] good = refl
each-longer on more (b ∷ us) good = λ i. both (λ v vs. v ∷ vs) (good b (inl refl) i) (each-longer on more us (λ c h. good c (inr h)) i)

-- the kinds are those of the sublink's places where it is well formed
module _ (sub : Sublink) (kinds : List Kind) (exists : sub.kind ≡ Exists)
    (kinds_are : (scopes : List (List Kind)) → AllSubsForm scopes (sub ∷ []) → kinds ≡ place_kinds (shape sub.query)) where
  abbrev items : List Item
  items = map null_item kinds

  abbrev next : Query → Query
  next rows = beside_nulls rows kinds

  kinds-next : (scopes : List (List Kind)) (rows : Query) → AllSubsForm scopes (sub ∷ []) → kinds_of (next rows) ≡ kinds_of rows ++ place_kinds (shape sub.query)
  kinds-next scopes rows f =
      kinds_of-Project rows (beside_row rows items) [] ∙ beside_row-kinds rows items ∙ ap (λ ks. kinds_of rows ++ ks) (null_items-kinds kinds ∙ kinds_are scopes f)

  plain-next : (rows : Query) → is_plain rows ≡ true → is_plain (next rows) ≡ true
  plain-next rows plain = is_plain-Project rows (beside_row rows items) [] ∙ and_from (is_plain rows) (all_plain []) plain refl

  formed-next : (outer : List (List Kind)) (rows : Query) → WellFormed outer rows → WellFormed outer (next rows)
  formed-next outer rows w =
      by (sym (WellFormed-Project outer rows (beside_row rows items) [])) (record {
        input = w;
        subs = tt;
        items =
            All-append (λ (item : Item). HasKind (kinds_of rows ∷ outer) [] item.expr item.kind) (column_items (kinds_of rows) (range_with_len 0 (width_of rows))) items
            (columns-formed (kinds_of rows) outer [] (range_with_len 0 (width_of rows)) (within-range (width_of rows) 0 (width_of rows) (omega arith)))
            (null_items-formed kinds (kinds_of rows ∷ outer));
      })

  module _ (columns : List Kind) (outer : List (List Kind)) (db : Database) (env : List Row) (f : SubsFitting columns outer (sub ∷ []) db env) (rows : Query) where
    abbrev on : Row → Outcome Row
    on = items_on (beside_row rows items) env (subs_denote [] db env)

    abbrev blank : Row
    blank = nulls (length kinds)

    blank-is : flat (all_empty (shape sub.query)) ≡ blank
    blank-is = flat-all_empty (shape sub.query) ∙ ap (λ ks. nulls (length ks)) (sym (kinds_are (columns ∷ outer) f.form))

    module _ (us : Bag) (g : Begun columns outer db env rows us) (given : (b : Row) → IsIn b us → KnownValue (Some False) sub db env b) where
      on-is : (b : Row) → IsIn b us → on b ≡ Good (b ++ blank)
      on-is b h =
          beside_row-value rows items env (subs_denote [] db env) b (row-width outer rows db env g.fitting us b g.good (in-member b us h))
          ∙ ap (mapped (λ t. b ++ t)) (null_items-give kinds env b)

      -- the sublink's query has no row
      empty : (b : Row) → IsIn b us → meaning sub.query db (b ∷ env) ≡ Good []
      empty b h =
          let k = given b h in
          let begins = row-begun g b h in
          let v = known-has (Some False) sub db env b k in
          let vs = under.vs f b begins v in
          let value : Boolean (is_some_row vs) ≡ k.0 =
          same_good (Boolean (is_some_row vs)) k.0 (ap (λ kind. sub_value kind (under.x f b begins v) vs) (sym exists) ∙ value-is f b begins (Some False) k) in
          (under.parts f b begins v).3 ∙ ap Good (no_row-there vs (false-one (is_some_row vs) (ap (has_truth False) value ∙ k.2))) where
            false-one : (t : Bool) → has_truth False (Boolean t) ≡ true → t ≡ false
            false-one true e = absurd (cc e)
            false-one false e = refl

      contributes-blank : (b : Row) (c : Witness) → IsIn b us → Contributes db env b sub c → flat c ≡ blank
      contributes-blank b c h (by_row x bag v tested good chosen listed) =
          let none : bag ≡ [] = same_good bag [] (sym good ∙ empty b h) in
          absurd (subst (IsIn v) none (member-in v bag chosen.row))
      contributes-blank b c h (by_no_row good e) = ap flat (sym e) ∙ blank-is

      extended : Extended (λ b c. Contributes db env b sub c) us (map (λ b. b ++ blank) us)
      extended = record {
        there = λ b c h k.
            subst (λ row. IsIn (b ++ row) (map (λ b. b ++ blank) us)) (sym (contributes-blank b c h k)) (in-map (λ b. b ++ blank) b us h);
        back = λ y h.
            let from = from-map (λ b. b ++ blank) y us h in
            (from.0, all_empty (shape sub.query), from.1, by_no_row (empty from.0 from.1) refl, ap (λ row. from.0 ++ row) blank-is ∙ from.2);
      }

      reached : Reached (next rows) db env (λ b c. Contributes db env b sub c) us
      reached = record {
        bag = map (λ b. b ++ blank) us;
        good = meaning-Project db env rows (beside_row rows items) [] ∙ ap (λ o. and_then o (each on)) g.good ∙ each-longer on blank us on-is;
        extended = extended;
      }

  pub null_step : StepGiven (KnownValue (Some False) sub) sub next
  null_step = record {
    kinds = kinds-next;
    plain = plain-next;
    tables = λ P rows of_rows of_sub. by (sym (EachTable-Project P rows (beside_row rows items) [])) (of_rows, tt);
    formed = λ columns outer rows more f begins w. formed-next outer rows w;
    bad = λ columns outer db env f rows faults e.
        meaning-Project db env rows (beside_row rows items) [] ∙ ap (λ o. and_then o (each (on columns outer db env f rows))) e;
    good = reached;
  }
