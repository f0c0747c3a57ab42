-- The columns of what stands for a source's input, and then those at the source's places, are a rewriting of the source.
use Rattle.std.proofs.Common.{◌≡◌, ◌↔◌, ℕ, true, List, [], ◌∷◌, ◌++◌, map, length, Contains, refl, sym, ap, ◌∙◌, subst, subst₂, append-nil, arith, ◌<◌}
use Rattle.std.proofs.lemmas.List.{map-append}
use Rattle.std.proofs.lemmas.List.Elements.{All-append}
use Rattle.std.specs.List.{range_with_len}
use Rattle.perm_values.specs.Rows.{picked, PlacesWithin}
use Rattle.perm_values.specs.declared.kind.Kind.{Kind}
use Rattle.perm_values.specs.declared.kind.Kind.TheVariants.{Text}
use Rattle.perm_values.specs.declared.value.Value.TheVariants.{Null}
use Rattle.bag_algebra.proofs.BagLaws.{member-same_bag}
use Rattle.bag_algebra.proofs.Columns.{picked-append}
use Rattle.bag_algebra.proofs.Members.{IsIn, in-map, from-map, in-member, member-in}
use Rattle.bag_algebra.specs.Bags.{Row, Bag, SameBag}
use Rattle.bag_algebra.specs.built.Openings.{Base-is, rows-with_lists}
use Rattle.bag_algebra.specs.ColumnItems.{column_items}
use Rattle.bag_algebra.specs.Fits.{TablesFit, env_fits}
use Rattle.bag_algebra.specs.Kinds.{kind_in, kinds_in, kinds_of, width_of}
use Rattle.bag_algebra.specs.Meaning.{Database, meaning, witnesses}
use Rattle.bag_algebra.specs.Means.{Held, Witness, flat}
use Rattle.bag_algebra.specs.Outcome.{Outcome, Good, Bad, mapped}
use Rattle.bag_algebra.specs.built.Patterns.{BaseOf, ProjectOf, ProvOf}
use Rattle.bag_algebra.specs.Rewriting.{IsRewrite, SameRows, SameSet, Stands}
use Rattle.bag_algebra.specs.WellFormed.{WellFormed}
use Rattle.bag_algebra.specs.declared.query.Label.{Label}
use Rattle.bag_algebra.specs.declared.query.Query.{Query, end_of-Sublink}
use Rattle.bag_algebra.specs.declared.query.Query.TheVariants.{Base}
use Rattle.contribution.specs.Fitting.{Fitting}
use Rattle.contribution.proofs.ColumnQueries.{formed-columns, kinds_of-columns, meaning-columns}
use Rattle.contribution.proofs.NodeQueries.{plain-projected}
use Rattle.rewrite_core.proofs.Faults.{SameFaults}
use Rattle.rewrite_core.proofs.FlatRows.{Flattened}
use Rattle.rewrite_core.proofs.NodeRows.{rewritten-where}
use Rattle.rewrite_core.proofs.Places.{within-range}
use Rattle.rewrite_core.proofs.RowColumns.{from_start, row-width}
use Rattle.rewrite_core.proofs.RuleRows.{rows-from_beside}
use Rattle.query_laws.proofs.NodeLists.{base-lists}
use Rattle.query_laws.specs.SublinkLists.{InAnswer}

bad_alike : (f : Bag → Bag) (o s : Outcome Bag) → SameRows o s → SameFaults o (mapped f s)
bad_alike f (Good us) (Good vs) same = tt
bad_alike f (Good us) (Bad g) same = same
bad_alike f (Bad g) (Good vs) same = same
bad_alike f (Bad g) (Bad h) same = same

same_rows-good : (us : Bag) (s : Outcome Bag) → SameRows (Good us) s → (vs : Bag) × (s ≡ Good vs) × SameBag us vs
same_rows-good us (Good vs) same = (vs, refl, same)
same_rows-good us (Bad g) same = absurd same

-- an input's columns, and then those at the places
abbrev pub order_of : Query → List ℕ → List ℕ
order_of b places = range_with_len 0 (width_of b) ++ places

abbrev pub columns_of : Query → List ℕ → Query
columns_of b places = ProjectOf b (column_items (kinds_of b) (order_of b places)) [] end_of-Sublink

pub order-within : (b : Query) (places : List ℕ) → PlacesWithin (width_of b) places → PlacesWithin (width_of b) (order_of b places)
order-within b places within =
    All-append (λ place. place < (width_of b)) (range_with_len 0 (width_of b)) places (within-range (width_of b) 0 (width_of b) (omega arith)) within

module _ (q b : Query) (places : List ℕ) (label : Label) (stands : Stands q b) where
  abbrev node : Query
  node = BaseOf q places label

  abbrev rewriting : Query
  rewriting = columns_of b places

  abbrev order : List ℕ
  order = order_of b places

  module _ (outer : List (List Kind)) (formed : WellFormed outer node) where
    same_kinds : kinds_of b ≡ kinds_of q
    same_kinds = stands.kinds outer formed.input

    kinds-rewriting : kinds_of rewriting ≡ kinds_of q ++ (kinds_in (kinds_of q) places ++ [])
    kinds-rewriting =
        kinds_of-columns b order
        ∙ map-append (kind_in (kinds_of b)) (range_with_len 0 (width_of b)) places
        ∙ ap (λ kinds. kinds ++ kinds_in (kinds_of b) places) (from_start Text (kinds_of b))
        ∙ ap (λ kinds. kinds ++ kinds_in kinds places) same_kinds
        ∙ ap (λ kinds. kinds_of q ++ kinds) (sym (append-nil (kinds_in (kinds_of q) places)))

    formed-rewriting : WellFormed outer rewriting
    formed-rewriting =
        formed-columns b order (order-within b places (subst (λ kinds. PlacesWithin (length kinds) places) (sym same_kinds) formed.in_range)) outer
        (stands.formed outer formed.input)

    module _ (db : Database) (env : List Row) (tables : TablesFit db node) (fitting : env_fits env outer ≡ true) where
      input-fits : Fitting outer q db env
      input-fits = record { formed = formed.input; tables = tables; outer_rows = fitting }

      listed : (t : Row) (w : Witness) → Contains (witnesses node db env t) w ↔ (InAnswer node db env t × (Held (picked places t) ∷ [] ≡ w))
      listed t w =
          subst (λ n. Contains (witnesses n db env t) w ↔ (InAnswer n db env t × (Held (picked places t) ∷ [] ≡ w))) (Base-is q places label)
          (base-lists db env t w q places label)

      meaning-node : meaning node db env ≡ meaning q db env
      meaning-node = rows-with_lists _ _

      -- a row of the source's input with its list
      arranged : (t : Row) → length t ≡ width_of q → picked order t ≡ t ++ flat (Held (picked places t) ∷ [])
      arranged t e =
          picked-append (range_with_len 0 (width_of b)) places t
          ∙ ap (λ n. picked (range_with_len 0 n) t ++ picked places t) (ap length same_kinds ∙ sym e)
          ∙ ap (λ u. u ++ picked places t) (from_start Null t)
          ∙ ap (λ more. t ++ more) (sym (append-nil (picked places t)))

      rows : (ts zs : Bag) → meaning q db env ≡ Good ts → mapped (map (picked order)) (meaning b db env) ≡ Good zs → Flattened (witnesses node db env) ts zs
      rows ts zs good made =
          let found = same_rows-good ts (meaning b db env) (subst (λ o. SameRows o (meaning b db env)) good (stands.rows outer db env formed.input tables fitting)) in
          let vs = found.0 in
          let whole : map (picked order) vs ≡ zs = same_good (ap (mapped (map (picked order))) (sym found.1) ∙ made) in
          record {
            there = λ t w i c.
                let list = ((listed t w).0 c).1 in
                let here = member-in t vs (sym (member-same_bag t ts vs found.2) ∙ in-member t ts i) in
                subst₂ IsIn (arranged t (row-width outer q db env input-fits ts good t i) ∙ ap (λ v. t ++ flat v) list) whole (in-map (picked order) t vs here);
            back = λ x j.
                let origin = from-map (picked order) x vs (subst (IsIn x) (sym whole) j) in
                let t = origin.0 in
                let here = member-in t ts (member-same_bag t ts vs found.2 ∙ in-member t vs origin.1) in
                let w = Held (picked places t) ∷ [] in
                let answer : InAnswer node db env t = record { bag = ts; good = meaning-node ∙ good; row = in-member t ts here } in
                (t, w, here, (listed t w).1 (answer, refl), sym (arranged t (row-width outer q db env input-fits ts good t here)) ∙ origin.2);
          }
        where
          same_good : {us vs : Bag} → Good us ≡ Good vs → us ≡ vs
          same_good e = cc

      same_rows : SameSet (meaning (ProvOf node) db env) (meaning rewriting db env)
      same_rows =
          rows-from_beside node rewriting db env
          (rewritten-where node rewriting db env (meaning q db env) (mapped (map (picked order)) (meaning b db env)) meaning-node (meaning-columns b order db env)
          (bad_alike (map (picked order)) (meaning q db env) (meaning b db env) (stands.rows outer db env formed.input tables fitting)) rows)

  rewrite-BaseOf : IsRewrite node rewriting
  rewrite-BaseOf = record {
    plain = plain-projected b (column_items (kinds_of b) order) ∙ stands.plain;
    kinds = λ outer formed. kinds-rewriting outer formed;
    formed = λ outer formed. formed-rewriting outer formed;
    tables = (stands.tables, tt);
    rows = λ outer db env formed tables fitting. same_rows outer formed db env tables fitting;
  }

  pub rewrite-Base : IsRewrite (Base q places label) rewriting
  rewrite-Base = subst (λ n. IsRewrite n rewriting) (sym (Base-is q places label)) rewrite-BaseOf
