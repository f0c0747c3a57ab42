-- A filter over a projection to columns is that projection over the filter.
use Rattle.std.proofs.Common.{◌≡◌, ℕ, true, List, [], ◌∷◌, length, map, sym, ap, ◌∙◌, subst}
use Rattle.std.proofs.lemmas.Bool.{and_from}
use Rattle.perm_values.specs.Rows.{picked, PlacesWithin}
use Rattle.perm_values.specs.declared.kind.Kind.{Kind}
use Rattle.perm_values.specs.declared.kind.Kind.TheVariants as kind
use Rattle.perm_values.proofs.Steps.{by}
use Rattle.bag_algebra.proofs.Truths.{and_true, left-true, right-true}
use Rattle.bag_algebra.specs.Bags.{Row}
use Rattle.bag_algebra.specs.Children.{subs_denote}
use Rattle.bag_algebra.specs.ColumnItems.{column_items}
use Rattle.bag_algebra.specs.Kinds.{kinds_in, kinds_of}
use Rattle.bag_algebra.specs.Meaning.{Database, meaning, condition_on}
use Rattle.bag_algebra.specs.Means.{kept}
use Rattle.bag_algebra.specs.Outcome.{and_then, mapped, gather}
use Rattle.bag_algebra.specs.Rewriting.{is_plain, Stands}
use Rattle.bag_algebra.specs.WellFormed.{HasKind, WellFormed}
use Rattle.bag_algebra.specs.built.Forms.{AllSubsForm, EachTable-Filter, WellFormed-Filter, subs_kinds}
use Rattle.bag_algebra.specs.built.Openings.{kinds_of-Filter, meaning-Filter}
use Rattle.bag_algebra.specs.built.Patterns.{ProjectOf}
use Rattle.bag_algebra.specs.built.Scopes.{all_plain, is_plain-Filter}
use Rattle.bag_algebra.specs.declared.expr.Expr.{Expr}
use Rattle.bag_algebra.specs.declared.query.Query.{Query, end_of-Sublink}
use Rattle.bag_algebra.specs.declared.query.Query.TheVariants.{Filter}
use Rattle.bag_algebra.specs.declared.query.Sublink.{Sublink}
use Rattle.contribution.proofs.ColumnQueries.{formed-columns, kinds_of-columns, meaning-columns}
use Rattle.contribution.specs.MovedColumns.{IsMoved}
use Rattle.rewrite_core.proofs.Itself.{stands-onward}
use Rattle.simpler_laws.proofs.TestedQueries.{stands-equal}
use Rattle.simplifier.proofs.projections.CarriedSublinks.{carried-answers, carried-form, carried-kinds, carried-plain, carried-tables}
use Rattle.simplifier.proofs.projections.MadeRows.{filter-made}
use Rattle.simplifier.proofs.projections.Picks.{Picks}
use Rattle.simplifier.specs.projections.Carried.{AllCarried, Leads, all_reach}

module _ (input under : Query) (places : List ℕ) (picks : Picks input under places) (condition lower : Expr) (m : IsMoved places condition lower)
    (first : ℕ) (leads : Leads first places) (subs others : List Sublink) (reach : all_reach first subs ≡ true) (carried : AllCarried places subs others) where
  abbrev whole : Query
  whole = Filter input condition subs

  abbrev filtered : Query
  filtered = Filter under lower others

  abbrev made : Query
  made = ProjectOf (Filter under lower others) (column_items (kinds_of (Filter under lower others)) places) [] end_of-Sublink

  input-formed : (outer : List (List Kind)) → WellFormed outer whole → WellFormed outer input
  input-formed outer f = (by (WellFormed-Filter outer input condition subs) f).input

  filtered-kinds : kinds_of filtered ≡ kinds_of under
  filtered-kinds = kinds_of-Filter under lower others

  filtered-within : (outer : List (List Kind)) → WellFormed outer whole → PlacesWithin (length (kinds_of filtered)) places
  filtered-within outer f = subst (λ kinds. PlacesWithin (length kinds) places) (sym filtered-kinds) (picks.within outer (input-formed outer f))

  filtered-formed : (outer : List (List Kind)) → WellFormed outer whole → WellFormed outer filtered
  filtered-formed outer f =
      let g = by (WellFormed-Filter outer input condition subs) f in
      let within = picks.within outer g.input in
      let inside : AllSubsForm (kinds_in (kinds_of under) places ∷ outer) subs = by (λ i. AllSubsForm (picks.kinds outer g.input i ∷ outer) subs) g.subs in
      by (sym (WellFormed-Filter outer under lower others)) (record {
        input = picks.formed outer g.input;
        subs = carried-form places first leads (kinds_of under) within outer subs others carried reach inside;
        condition = m.kind (kinds_of under) outer (subs_kinds others) kind.Boolean within
            (by (λ i. HasKind (picks.kinds outer g.input i ∷ outer) (carried-kinds places subs others carried i) condition kind.Boolean) g.condition);
      })

  same_test : (db : Database) (env : List Row) (x : Row) →
      condition_on lower env (subs_denote others db env) x ≡ condition_on condition env (subs_denote subs db env) (picked places x)
  same_test db env x =
      λ i. and_then (sym (carried-answers places first leads db env x subs others carried reach) i) (λ answers. m.value x env answers i)

  filtered-plain : is_plain input ≡ true → all_plain subs ≡ true → is_plain made ≡ true
  filtered-plain plain calm =
      and_true (is_plain filtered) ∙ is_plain-Filter under lower others
      ∙ and_from (is_plain under) (all_plain others) (picks.plain plain) (carried-plain places subs others carried calm)

  pub stands-filter : is_plain input ≡ true → all_plain subs ≡ true → Stands whole made
  stands-filter plain calm =
      stands-equal whole made (filtered-plain plain calm)
      (λ outer f. kinds_of-columns filtered places ∙ ap (λ kinds. kinds_in kinds places) filtered-kinds ∙ sym (picks.kinds outer (input-formed outer f))
      ∙ sym (kinds_of-Filter input condition subs))
      (λ outer f. formed-columns filtered places (filtered-within outer f) outer (filtered-formed outer f))
      (λ P h.
      let g = by (EachTable-Filter P input condition subs) h in
      (by (sym (EachTable-Filter P under lower others)) (picks.tables P g.0, carried-tables places P subs others carried g.1), tt))
      (λ outer db env f h e.
      meaning-Filter db env input condition subs
      ∙ ap (λ o. and_then o (gather (kept (condition_on condition env (subs_denote subs db env)))))
      (picks.rows outer db env (input-formed outer f) (by (EachTable-Filter _ input condition subs) h).0 e)
      ∙ filter-made (picked places) (condition_on condition env (subs_denote subs db env)) (condition_on lower env (subs_denote others db env)) (same_test db env) (meaning under db env)
      ∙ ap (mapped (map (picked places))) (sym (meaning-Filter db env under lower others))
      ∙ sym (meaning-columns filtered places db env))

-- what is made of the input's other query stands for what the filter stands for
pub raised-filter : (q query input under kept_rows p : Query) (places : List ℕ) (condition lower : Expr) (first : ℕ) (subs others : List Sublink) →
    query ≡ Filter input condition subs → Stands q query → Picks input under places → IsMoved places condition lower → Leads first places →
    all_reach first subs ≡ true → AllCarried places subs others → kept_rows ≡ Filter under lower others →
    p ≡ ProjectOf kept_rows (column_items (kinds_of kept_rows) places) [] end_of-Sublink → Stands q p
raised-filter q query input under kept_rows p places condition lower first subs others is s picks m leads reach carried kept_is p_is =
    let plain = sym (is_plain-Filter input condition subs) ∙ ap is_plain (sym is) ∙ s.plain in
    stands-onward q query p s (subst (λ n. Stands n p) (sym is)
    (subst (Stands (Filter input condition subs)) (sym (p_is ∙ (λ i. ProjectOf (kept_is i) (column_items (kinds_of (kept_is i)) places) [] end_of-Sublink)))
    (stands-filter input under places picks condition lower m first leads subs others reach carried
    (left-true (is_plain input) (all_plain subs) plain) (right-true (is_plain input) (all_plain subs) plain))))
