-- What holds of each table that a query reads, table by table and as a list; what fits a query fits what reads its tables alone.
use Rattle.std.proofs.Common.{◌≡◌, ℕ, true, List, [], ◌∷◌, ◌++◌, ⊎_elim, subst, arith}
use Rattle.std.proofs.lemmas.List.Elements.{Contains-append_left, Contains-append_right, Contains-append_cases, Contains-push_cases, Contains-push}
use Rattle.std.specs.List.{Contains}
use Rattle.perm_values.specs.declared.kind.Kind.{Kind}
use Rattle.bag_algebra.specs.Fits.{bag_fits, TablesFit}
use Rattle.bag_algebra.specs.Meaning.{Database}
use Rattle.bag_algebra.specs.built.Patterns.{BaseOf, FilterOf, ProjectOf, JoinOf, ApplyOf, UnionOf, IntersectOf, ExceptOf, DistinctOf, AggregateOf, LimitOf, ProvOf}
use Rattle.bag_algebra.specs.TablesRead.{TableRead, tables_read, sub_tables_read, EachTable, EachSubTable, ReadsAmong}
use Rattle.bag_algebra.specs.declared.query.Query.{Query, Row_of-Sublink, more_of-Sublink, end_of-Sublink}
use Rattle.bag_algebra.specs.declared.query.Query.TheVariants.{Table, Single}

-- two facts about each table give a third
module _ (P Q T : ℕ → List Kind → Type 0) (join : (id : ℕ) (kinds : List Kind) → P id kinds → Q id kinds → T id kinds) where
  mutual
    pub each_table-both : (q : Query) → EachTable P q → EachTable Q q → EachTable T q
    each_table-both (Table id kinds) g h = join id kinds g h
    each_table-both Single g h = tt
    each_table-both (BaseOf input places label) g h = each_table-both input g h
    each_table-both (FilterOf input condition _ subs) g h = (each_table-both input g.0 h.0, each_sub_table-both subs g.1 h.1)
    each_table-both (ProjectOf input items _ subs) g h = (each_table-both input g.0 h.0, each_sub_table-both subs g.1 h.1)
    each_table-both (JoinOf kind left right condition _ subs) g h = (each_table-both left g.0 h.0, each_table-both right g.1 h.1, each_sub_table-both subs g.2 h.2)
    each_table-both (ApplyOf kind left right) g h = (each_table-both left g.0 h.0, each_table-both right g.1 h.1)
    each_table-both (UnionOf all left right) g h = (each_table-both left g.0 h.0, each_table-both right g.1 h.1)
    each_table-both (IntersectOf all left right) g h = (each_table-both left g.0 h.0, each_table-both right g.1 h.1)
    each_table-both (ExceptOf all left right) g h = (each_table-both left g.0 h.0, each_table-both right g.1 h.1)
    each_table-both (DistinctOf input) g h = each_table-both input g h
    each_table-both (AggregateOf input groups aggregates) g h = each_table-both input g h
    each_table-both (LimitOf input keys count) g h = each_table-both input g h
    each_table-both (ProvOf input) g h = each_table-both input g h

    pub each_sub_table-both : {m : _} (subs : Row_of-Sublink m) → EachSubTable P subs → EachSubTable Q subs → EachSubTable T subs
    each_sub_table-both end_of-Sublink g h = tt
    each_sub_table-both (more_of-Sublink kind tested query subs) g h = (each_table-both query g.0 h.0, each_sub_table-both subs g.1 h.1)

pub each_table-kept : (P Q : ℕ → List Kind → Type 0) → ((id : ℕ) (kinds : List Kind) → P id kinds → Q id kinds) → (q : Query) → EachTable P q →
    EachTable Q q
each_table-kept P Q keep q h = each_table-both P P Q (λ id kinds g other. keep id kinds g) q h h

-- what holds of each table holds of each entry of the list
module _ (P : ℕ → List Kind → Type 0) where
  abbrev Told : List TableRead → Type 0
  Told reads = (r : TableRead) → Contains reads r → P r.id r.kinds

  told-append : (rs ss : List TableRead) → Told rs → Told ss → Told (rs ++ ss)
  told-append rs ss f g r h = ⊎_elim (f r) (g r) (Contains-append_cases rs ss r h)

  told-none : Told []
  told-none r h = let beyond = h.1 in absurd (omega arith)

  told-one : (id : ℕ) (kinds : List Kind) → P id kinds → Told (record { id = id; kinds = kinds } ∷ [])
  told-one id kinds p r h =
      ⊎_elim (told-none r) (λ e. subst (λ (one : TableRead). P one.id one.kinds) e p)
      (Contains-push_cases [] (record { id = id; kinds = kinds }) r h)

  mutual
    pub each_table-told : (q : Query) → EachTable P q → (r : TableRead) → Contains (tables_read q) r → P r.id r.kinds
    each_table-told (Table id kinds) h = told-one id kinds h
    each_table-told Single h = told-none
    each_table-told (BaseOf input places label) h = each_table-told input h
    each_table-told (FilterOf input condition _ subs) h = told-append (tables_read input) (sub_tables_read subs) (each_table-told input h.0) (each_sub_table-told subs h.1)
    each_table-told (ProjectOf input items _ subs) h = told-append (tables_read input) (sub_tables_read subs) (each_table-told input h.0) (each_sub_table-told subs h.1)
    each_table-told (JoinOf kind left right condition _ subs) h =
        told-append (tables_read left ++ tables_read right) (sub_tables_read subs)
        (told-append (tables_read left) (tables_read right) (each_table-told left h.0) (each_table-told right h.1)) (each_sub_table-told subs h.2)
    each_table-told (ApplyOf kind left right) h = told-append (tables_read left) (tables_read right) (each_table-told left h.0) (each_table-told right h.1)
    each_table-told (UnionOf all left right) h = told-append (tables_read left) (tables_read right) (each_table-told left h.0) (each_table-told right h.1)
    each_table-told (IntersectOf all left right) h = told-append (tables_read left) (tables_read right) (each_table-told left h.0) (each_table-told right h.1)
    each_table-told (ExceptOf all left right) h = told-append (tables_read left) (tables_read right) (each_table-told left h.0) (each_table-told right h.1)
    each_table-told (DistinctOf input) h = each_table-told input h
    each_table-told (AggregateOf input groups aggregates) h = each_table-told input h
    each_table-told (LimitOf input keys count) h = each_table-told input h
    each_table-told (ProvOf input) h = each_table-told input h

    pub each_sub_table-told : {m : _} (subs : Row_of-Sublink m) → EachSubTable P subs → (r : TableRead) → Contains (sub_tables_read subs) r → P r.id r.kinds
    each_sub_table-told end_of-Sublink h = told-none
    each_sub_table-told (more_of-Sublink kind tested query subs) h =
        told-append (tables_read query) (sub_tables_read subs) (each_table-told query h.0) (each_sub_table-told subs h.1)

  -- and back
  mutual
    pub each_table-from_told : (q : Query) → ((r : TableRead) → Contains (tables_read q) r → P r.id r.kinds) → EachTable P q
    each_table-from_told (Table id kinds) h = h (record { id = id; kinds = kinds }) (Contains-push [] _)
    each_table-from_told Single h = tt
    each_table-from_told (BaseOf input places label) h = each_table-from_told input h
    each_table-from_told (FilterOf input condition _ subs) h = (
      each_table-from_told input (λ r i. h r (Contains-append_left (tables_read input) (sub_tables_read subs) r i)),
      each_sub_table-from_told subs (λ r i. h r (Contains-append_right (tables_read input) (sub_tables_read subs) r i)),
    )
    each_table-from_told (ProjectOf input items _ subs) h = (
      each_table-from_told input (λ r i. h r (Contains-append_left (tables_read input) (sub_tables_read subs) r i)),
      each_sub_table-from_told subs (λ r i. h r (Contains-append_right (tables_read input) (sub_tables_read subs) r i)),
    )
    each_table-from_told (JoinOf kind left right condition _ subs) h =
        let inputs = tables_read left ++ tables_read right in
        let of_inputs = λ (r : TableRead) (i : Contains inputs r). h r (Contains-append_left inputs (sub_tables_read subs) r i) in (
          each_table-from_told left (λ r i. of_inputs r (Contains-append_left (tables_read left) (tables_read right) r i)),
          each_table-from_told right (λ r i. of_inputs r (Contains-append_right (tables_read left) (tables_read right) r i)),
          each_sub_table-from_told subs (λ r i. h r (Contains-append_right inputs (sub_tables_read subs) r i)),
        )
    each_table-from_told (ApplyOf kind left right) h = (
      each_table-from_told left (λ r i. h r (Contains-append_left (tables_read left) (tables_read right) r i)),
      each_table-from_told right (λ r i. h r (Contains-append_right (tables_read left) (tables_read right) r i)),
    )
    each_table-from_told (UnionOf all left right) h = (
      each_table-from_told left (λ r i. h r (Contains-append_left (tables_read left) (tables_read right) r i)),
      each_table-from_told right (λ r i. h r (Contains-append_right (tables_read left) (tables_read right) r i)),
    )
    each_table-from_told (IntersectOf all left right) h = (
      each_table-from_told left (λ r i. h r (Contains-append_left (tables_read left) (tables_read right) r i)),
      each_table-from_told right (λ r i. h r (Contains-append_right (tables_read left) (tables_read right) r i)),
    )
    each_table-from_told (ExceptOf all left right) h = (
      each_table-from_told left (λ r i. h r (Contains-append_left (tables_read left) (tables_read right) r i)),
      each_table-from_told right (λ r i. h r (Contains-append_right (tables_read left) (tables_read right) r i)),
    )
    each_table-from_told (DistinctOf input) h = each_table-from_told input h
    each_table-from_told (AggregateOf input groups aggregates) h = each_table-from_told input h
    each_table-from_told (LimitOf input keys count) h = each_table-from_told input h
    each_table-from_told (ProvOf input) h = each_table-from_told input h

    pub each_sub_table-from_told : {m : _} (subs : Row_of-Sublink m) → ((r : TableRead) → Contains (sub_tables_read subs) r → P r.id r.kinds) → EachSubTable P subs
    each_sub_table-from_told end_of-Sublink h = tt
    each_sub_table-from_told (more_of-Sublink kind tested query subs) h = (
      each_table-from_told query (λ r i. h r (Contains-append_left (tables_read query) (sub_tables_read subs) r i)),
      each_sub_table-from_told subs (λ r i. h r (Contains-append_right (tables_read query) (sub_tables_read subs) r i)),
    )

-- ---- reading among the tables of another

pub reads_among-itself : (q : Query) → ReadsAmong q q
reads_among-itself q = each_table-from_told (λ id kinds. Contains (tables_read q) (record { id = id; kinds = kinds })) q (λ r h. h)

pub reads_among-each : (P : ℕ → List Kind → Type 0) (p q : Query) → ReadsAmong p q → EachTable P q → EachTable P p
reads_among-each P p q among h = each_table-kept _ P (λ id kinds i. each_table-told P q h (record { id = id; kinds = kinds }) i) p among

pub reads_among-onward : (p q o : Query) → ReadsAmong p q → ReadsAmong q o → ReadsAmong p o
reads_among-onward p q o among onward = reads_among-each _ p q among onward

pub reads_among-fit : (p q : Query) (db : Database) → ReadsAmong p q → TablesFit db q → TablesFit db p
reads_among-fit p q db among fitting = reads_among-each (λ id kinds. bag_fits (db id) kinds ≡ true) p q among fitting
