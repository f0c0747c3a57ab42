-- Worked examples: a catalog of the tables r and s, the view v over r, and the view w over r and s.
use Rattle.std.specs.Prelude.{◌≡◌, ℕ, true, false, List, [], ◌∷◌, Some, None, refl, codes}
use Rattle.std.specs.FinMap as map
use Rattle.std.specs.Map.{keys_of}
use Rattle.bag_algebra.specs.built.Patterns.{FilterOf, JoinOf}
use Rattle.bag_algebra.specs.declared.query.JoinKind.TheVariants.{Inner}
use Rattle.bag_algebra.specs.declared.query.SubKind.TheVariants.{Exists}
use Rattle.bag_algebra.specs.declared.query.Query.{Query, more_of-Sublink, end_of-Sublink}
use Rattle.bag_algebra.specs.declared.query.Query.TheVariants.{Table, Single}
use Rattle.perm_catalog.specs.Changes.{is_free, with_more_rows, with_table, without_table, without_view}
use Rattle.perm_catalog.specs.Contents.{Contents}
use Rattle.perm_catalog.specs.Lookups.{first_user, name_of_id}
use Rattle.bag_algebra.specs.TablesRead.{tables_read}
use Rattle.perm_catalog.specs.declared.entries.TableEntry.{TableEntry}
use Rattle.perm_catalog.specs.declared.entries.ViewEntry.{ViewEntry}
use Rattle.worked_examples.specs.Queries.{yes}

abbrev table : ℕ → ℕ → TableEntry
table id version = record { id = id; version = version; columns = []; stored = None }

abbrev view : List (List ℕ) → ViewEntry
view names = record { answer = record { query = Single; names = []; keys = [] }; places = None; names_used = names }

abbrev held : Contents
held = record {
  tables = (codes "r", table 1 1) ∷ (codes "s", table 2 2) ∷ [];
  views = (codes "v", view (codes "r" ∷ [])) ∷ (codes "w", view (codes "r" ∷ codes "s" ∷ [])) ∷ [];
  rows = map.empty;
  next = 3;
}

-- ---- look-ups

first-view : first_user held (codes "r") ≡ Some (codes "v")
first-view = refl

second-view : first_user held (codes "s") ≡ Some (codes "w")
second-view = refl

no-view : first_user held (codes "v") ≡ None
no-view = refl

by-identity : name_of_id held 2 ≡ Some (codes "s")
by-identity = refl

no-identity : name_of_id held 3 ≡ None
no-identity = refl

free : is_free held (codes "t") ≡ true
free = refl

taken-by-a-view : is_free held (codes "w") ≡ false
taken-by-a-view = refl

-- ---- changes, in the order of creation

created : (with_table held (codes "t") [] [] None).tables ≡ (codes "r", table 1 1) ∷ (codes "s", table 2 2) ∷ (codes "t", table 3 3) ∷ []
created = refl

inserted : (with_more_rows held (codes "r") 1 []).tables ≡ (codes "r", table 1 3) ∷ (codes "s", table 2 2) ∷ []
inserted = refl

dropped : (without_table held (codes "r") 1).tables ≡ (codes "s", table 2 2) ∷ []
dropped = refl

dropped-view : keys_of (without_view held (codes "v")).views ≡ codes "w" ∷ []
dropped-view = refl

-- ---- what a query reads: left before right, and a sublink behind the input

abbrev exists : Query → Query → Query
exists input query = FilterOf input yes (tt ∷ []) (more_of-Sublink Exists None query end_of-Sublink)

read : tables_read (JoinOf Inner (exists (Table 3 []) (Table 1 [])) (Table 2 []) yes [] end_of-Sublink)
    ≡ record { id = 3; kinds = [] } ∷ record { id = 1; kinds = [] } ∷ record { id = 2; kinds = [] } ∷ []
read = refl
