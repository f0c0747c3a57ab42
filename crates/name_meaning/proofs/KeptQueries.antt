-- What set operations, ORDER BY, LIMIT and PROVENANCE keep.
use Rattle.std.specs.Prelude.{◌≡◌, ℕ, ℤ, Bool, true, false, cond, List, [], ◌∷◌, ◌++◌, map, Option, Some}
use Rattle.std.proofs.Common.{ap, sym, ◌∙◌, subst}
use Rattle.perm_values.specs.declared.key.Key.{Key}
use Rattle.perm_values.specs.declared.kind.Kind.{Kind}
use Rattle.perm_values.proofs.Lists.{front-none, back-none}
use Rattle.bag_algebra.specs.built.Openings.{kinds_of-Prov}
use Rattle.bag_algebra.specs.Kinds.{kinds_of, shape, place_kinds}
use Rattle.bag_algebra.specs.PlaceNames.{place_names}
use Rattle.bag_algebra.specs.declared.place.Place.{Place}
use Rattle.bag_algebra.specs.declared.query.Query.{Query}
use Rattle.sql_tree.specs.declared.query.OrderTree.{OrderTree}
use Rattle.contribution.proofs.WhereGood.{Every, every-append}
use Rattle.name_meaning.specs.Cores.{BodyPart, settle, settle_known}
use Rattle.name_meaning.specs.Froms.{named_columns}
use Rattle.name_meaning.specs.Meanings.{Around, OutColumn, QueryMeant}
use Rattle.name_meaning.specs.Queries.{SetStepPart, united_columns, columns_so_far, operand_breaks, set_joined, may_not_ask, set_chain, keys_of, keys_breaks, limited, out_column, provenance_columns, plain_query, query_with_provenance, asks_provenance, query_seen}
use Rattle.name_meaning.specs.laws.Facts.{Facts, facts_of, both_facts}
use Rattle.name_meaning.specs.laws.Known.{HasItsKinds}
use Rattle.name_meaning.proofs.FactsOf.{facts-Prov, facts-set, facts-limited}
use Rattle.name_meaning.proofs.Kept.{GoodQuery}
use Rattle.name_meaning.proofs.NamedPlaces.{IsNamed, AreNamed, length-place_names}
use Rattle.name_meaning.proofs.SettledKinds.{settle-united, settle-known, kinds-named_columns}
use Rattle.name_meaning.proofs.KindsOf.{kinds-set, kinds-limited, columns-joined, known-with_provenance}

-- ---- set operations

kinds-joined : (left right : QueryMeant) (step : SetStepPart) (ls rs : List OutColumn)
    → columns_so_far left.columns right.columns ≡ Some (united_columns ls rs)
    → ((wanted : List Kind) → kinds_of (left.make wanted) ≡ settle ls wanted)
    → (wanted : List Kind) → kinds_of ((set_joined left step right).make wanted) ≡ settle (united_columns ls rs) wanted
kinds-joined left right step ls rs known kinds wanted =
    let at : List Kind = settle_known (columns_so_far left.columns right.columns) wanted in
    kinds-set step.word step.all (left.make at) (right.make at)
    ∙ kinds at
    ∙ ap (λ (columns : Option (List OutColumn)). settle ls (settle_known columns wanted)) known
    ∙ settle-united ls rs wanted

-- ---- ORDER BY and LIMIT

module _ (Sound : Type 0) where
  known-joined : (left right : QueryMeant) (step : SetStepPart) → HasItsKinds left → HasItsKinds right → HasItsKinds (set_joined left step right)
  known-joined left right step l r =
      let known = columns-joined left.columns right.columns l.columns r.columns l.known r.known in
      record { columns = united_columns l.columns r.columns; known = known; kinds = kinds-joined left right step l.columns r.columns known l.kinds }

  good-joined : (left right : QueryMeant) (step : SetStepPart) → GoodQuery Sound left → GoodQuery Sound right → GoodQuery Sound (set_joined left step right)
  good-joined left right step l r = record {
    known = λ sound whole.
        let operands = front-none (left.breaks ++ right.breaks) (operand_breaks step.at left.columns right.columns) whole in
        known-joined left right step (l.known sound (front-none left.breaks right.breaks operands)) (r.known sound (back-none left.breaks right.breaks operands));
    steady = λ w v.
        let at : List Kind = settle_known (columns_so_far left.columns right.columns) w in
        let other : List Kind = settle_known (columns_so_far left.columns right.columns) v in
        facts-set step.word step.all (left.make at) (right.make at)
        ∙ (λ i. both_facts (l.steady at other i) (r.steady at other i))
        ∙ sym (facts-set step.word step.all (left.make other) (right.make other));
    named = λ sound w.
        let at : List Kind = settle_known (columns_so_far left.columns right.columns) w in
        subst (λ (facts : Facts). AreNamed facts.places) (sym (facts-set step.word step.all (left.make at) (right.make at)))
        (every-append IsNamed (shape (left.make at)) (shape (right.make at)) (l.named sound at) (r.named sound at));
  }

  abbrev pub GoodBody : BodyPart → Type 0
  GoodBody body = (around : Around) → GoodQuery Sound (body.means around)

  abbrev pub GoodOperand : SetStepPart → Type 0
  GoodOperand step = GoodBody step.operand

  pub good-chain : (around : Around) (left : QueryMeant) (steps : List SetStepPart) → GoodQuery Sound left → Every GoodOperand steps → GoodQuery Sound (set_chain around left steps)
  good-chain around left [] l h = l
  good-chain around left (step ∷ steps) l h =
      let right : QueryMeant = step.operand.means (may_not_ask around) in
      good-chain around (set_joined left step right) steps (good-joined left right step l (h.0 (may_not_ask around))) h.1

  -- ---- ORDER BY and LIMIT

  pub good-plain_query : (at : ℕ) (body : QueryMeant) (order : List OrderTree) (limit : Option ℤ) → GoodQuery Sound body → GoodQuery Sound (plain_query at body order limit)
  good-plain_query at body order limit good =
      let keys : List Key = keys_of body.columns order in
      record {
        known = λ sound whole.
            let inner = good.known sound (front-none body.breaks (keys_breaks body.columns order) whole) in
            record { columns = inner.columns; known = inner.known; kinds = λ wanted. kinds-limited limit keys (body.make wanted) ∙ inner.kinds wanted };
        steady = λ w v. facts-limited limit keys (body.make w) ∙ good.steady w v ∙ sym (facts-limited limit keys (body.make v));
        named = λ sound w. subst (λ (facts : Facts). AreNamed facts.places) (sym (facts-limited limit keys (body.make w))) (good.named sound w);
      }

  -- ---- PROVENANCE

  -- the columns of the places, whose kinds are known
  kinds-with_provenance : (columns : List OutColumn) (places : List Place) (wanted : List Kind) → AreNamed places
      → settle (columns ++ map out_column (named_columns (place_names places) (place_kinds places))) wanted ≡ settle columns wanted ++ place_kinds places
  kinds-with_provenance columns places wanted named =
      settle-known columns (named_columns (place_names places) (place_kinds places)) wanted
      ∙ ap (λ (kinds : List Kind). settle columns wanted ++ kinds) (kinds-named_columns (place_names places) (place_kinds places) (length-place_names places named))

  pub good-query_with_provenance : (at : ℕ) (body : QueryMeant) (order : List OrderTree) (limit : Option ℤ) → GoodQuery Sound body
      → GoodQuery Sound (query_with_provenance at body order limit (limited limit (keys_of body.columns order) (body.make [])))
  good-query_with_provenance at body order limit good =
      let keys : List Key = keys_of body.columns order in
      let query : List Kind → Query = λ w. limited limit keys (body.make w) in
      let steady : (w v : List Kind) → facts_of (query w) ≡ facts_of (query v) =
      λ w v. facts-limited limit keys (body.make w) ∙ good.steady w v ∙ sym (facts-limited limit keys (body.make v)) in
      let named : Sound → AreNamed (shape (query [])) =
      λ sound. subst (λ (facts : Facts). AreNamed facts.places) (sym (facts-limited limit keys (body.make []))) (good.named sound []) in
      record {
        known = λ sound whole.
            let body_whole = front-none body.breaks (keys_breaks body.columns order) whole in
            let inner = good.known sound body_whole in
            record {
              columns = inner.columns ++ provenance_columns (query []);
              known = known-with_provenance body (query []) inner.columns body_whole inner.known;
              kinds = λ wanted.
                  kinds_of-Prov (query wanted)
                  ∙ (λ i. (kinds-limited limit keys (body.make wanted) ∙ inner.kinds wanted) i ++ place_kinds (steady wanted [] i).places)
                  ∙ sym (kinds-with_provenance inner.columns (shape (query [])) wanted (named sound));
            };
        steady = λ w v. facts-Prov (query w) ∙ sym (facts-Prov (query v));
        named = λ sound w. subst (λ (facts : Facts). AreNamed facts.places) (sym (facts-Prov (query w))) tt;
      }

  pub good-query_seen : (around : Around) (at : ℕ) (body : BodyPart) (order : List OrderTree) (limit : Option ℤ) → GoodBody body
      → GoodQuery Sound (query_seen around at body order limit)
  good-query_seen around at body order limit good = chosen (asks_provenance around body) where
    chosen : (b : Bool) → GoodQuery Sound (cond b
        (query_with_provenance at (body.means around) order limit
        (limited limit (keys_of (body.means around).columns order) ((body.means around).make [])))
        (plain_query at (body.means around) order limit))
    chosen true = good-query_with_provenance at (body.means around) order limit (good around)
    chosen false = good-plain_query at (body.means around) order limit (good around)
