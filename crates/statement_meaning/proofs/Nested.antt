-- PROVENANCE under every database and all outer rows.
use Rattle.std.proofs.Common.{◌≡◌, ◌∙◌, ◌↔◌, Bool, true, cond, List, [], ◌∷◌, refl, sym, ap, subst}
use Rattle.std.specs.List.{flat_map}
use Rattle.bag_algebra.proofs.BagLaws.{member_decides}
use Rattle.bag_algebra.specs.Bags.{Row, Bag, member, once}
use Rattle.bag_algebra.specs.built.Openings.{Prov-is, denote-Prov, meaning-Prov}
use Rattle.bag_algebra.specs.Meaning.{Database, meaning, witnesses}
use Rattle.bag_algebra.specs.Means.{Means, unlisted_means, with_witnesses}
use Rattle.bag_algebra.specs.Outcome.{Outcome, Good, Bad, Faults, mapped}
use Rattle.bag_algebra.specs.declared.query.Query.{Query}
use Rattle.bag_algebra.specs.declared.query.Query.TheVariants.{Prov}
use Rattle.contribution.proofs.ListedRows.{provenance-faults}
use Rattle.query_laws.proofs.Provenance.{provenance}
use Rattle.query_laws.specs.Holding.{InBag, HoldsOnce}
use Rattle.statement_meaning.specs.laws.Beside.{IsBeside}

-- each row of the bag beside its lists
abbrev pub found_beside : Query → Database → List Row → Bag → Bag
found_beside q db env bag = once (flat_map (with_witnesses (witnesses q db env)) bag)

pub found-beside : (q : Query) (db : Database) (env : List Row) (bag : Bag) → HoldsOnce (IsBeside q db env bag) (found_beside q db env bag)
found-beside q db env bag = (provenance (witnesses q db env) (Good bag)).rows bag (found_beside q db env bag) refl refl

pub meaning-good : (q : Query) (db : Database) (env : List Row) (bag : Bag) → meaning q db env ≡ Good bag
    → meaning (Prov q) db env ≡ Good (found_beside q db env bag)
meaning-good q db env bag good =
    meaning-Prov db env q ∙ ap (mapped (λ (rows : Bag). once (flat_map (with_witnesses (witnesses q db env)) rows))) good

pub nested-good : (q : Query) (db : Database) (env : List Row) (bag : Bag) → meaning q db env ≡ Good bag
    → (rows : Bag) × (meaning (Prov q) db env ≡ Good rows) × HoldsOnce (IsBeside q db env bag) rows
nested-good q db env bag good = (found_beside q db env bag, meaning-good q db env bag good, found-beside q db env bag)

pub nested-bad : (q : Query) (db : Database) (env : List Row) (faults : Faults)
    → (meaning (Prov q) db env ≡ Bad faults) ↔ (meaning q db env ≡ Bad faults)
nested-bad q db env faults =
    subst (λ (p : Query). (meaning p db env ≡ Bad faults) ↔ (meaning q db env ≡ Bad faults)) (sym (Prov-is q)) (provenance-faults q db env faults)

-- ---- witness lists

listed : (o : Outcome Bag) (rows : Bag) (x : Row) → (unlisted_means o).rows ≡ Good rows → member x rows ≡ true → (unlisted_means o).lists x ≡ [] ∷ []
listed (Good bag) rows x e there =
    let same : bag ≡ rows = cc in
    ap (λ (b : Bool). cond b ([] ∷ []) []) (ap (member x) same ∙ there)
listed (Bad faults) rows x e there = absurd (cc e)

pub nested-lists : (q : Query) (db : Database) (env : List Row) (rows : Bag) (x : Row) → meaning (Prov q) db env ≡ Good rows
    → InBag x rows → witnesses (Prov q) db env x ≡ [] ∷ []
nested-lists q db env rows x good there =
    let is = denote-Prov db env q in
    ap (λ (m : Means). m.lists x) is
    ∙ listed (mapped (λ (bag : Bag). once (flat_map (with_witnesses (witnesses q db env)) bag)) (meaning q db env)) rows x
    (sym (ap (λ (m : Means). m.rows) is) ∙ good) ((member_decides x rows).1 there)
