-- What keeps a catalog sound.
use mathlib.Core.Bool.{true≢false}
use Rattle.std.proofs.Common.{◌≡◌, ℕ, ◌≤◌, Bool, true, false, not, ◌&&◌, cond, List, [], ◌∷◌, Option, Some, None, is_some, refl, sym, ap, subst, ◌∙◌, arith, nat_eq}
use Rattle.std.proofs.lemmas.Option.{same_Some}
use Rattle.std.specs.Cmp.Lexicographic.{pointwise}
use Rattle.std.specs.FinMap as map
use Rattle.std.specs.List.{find, IsDistinct}
use Rattle.std.specs.Map.{lookup}
use Rattle.std.specs.Option.{option_map}
use Rattle.perm_values.proofs.Steps.{none_is_some}
use Rattle.perm_catalog.specs.Changes.{table_named, view_named, nothing_held}
use Rattle.perm_catalog.specs.Columns.{column_kinds}
use Rattle.perm_catalog.specs.Contents.{Contents}
use Rattle.perm_catalog.specs.Lookups.{uses_name, first_user}
use Rattle.bag_algebra.specs.TablesRead.{TableRead}
use Rattle.perm_catalog.specs.Sound.{IsSound, IsSoundTable, IsSoundView, IsHeldRead}
use Rattle.perm_catalog.specs.declared.entries.TableEntry.{TableEntry}
use Rattle.perm_catalog.specs.declared.entries.ViewEntry.{ViewEntry}
use Rattle.stored_provenance.proofs.Marks.{AreApart, Goes, stored-goes}

-- ---- what stays sound where little changes

pub are-apart : (c : Contents) → IsSound c → AreApart c
are-apart c s = record { names = s.table_names; identities = s.identities }

-- a table whose rows stay
pub kept-table : (c d : Contents) (table : TableEntry) → AreApart c → AreApart d → Goes c d → map.get d.rows table.id ≡ map.get c.rows table.id →
    IsSoundTable c table → IsSoundTable d table
kept-table c d table before after goes same s = record {
  id = let later = goes.later in omega (arith, s.id, later);
  version = let later = goes.later in omega (arith, s.version, later);
  columns = s.columns;
  rows = s.rows;
  held = same ∙ s.held;
  fitting = s.fitting;
  stored = stored-goes c d before after goes table.columns s.rows table.stored s.stored;
}

-- a table has the name still, with the identity and the columns that it had
pub record Kept (d : Contents) (name : List ℕ) (table : TableEntry) : Type 0 where
  pub now : TableEntry
  pub is : table_named d name ≡ Some now
  pub id : now.id ≡ table.id
  pub columns : now.columns ≡ table.columns

kept-read : (d : Contents) (view : ViewEntry) (read : TableRead) (name : List ℕ) (table : TableEntry) → table.id ≡ read.id →
    column_kinds table.columns ≡ read.kinds → uses_name view name ≡ true → Kept d name table → IsHeldRead d view read
kept-read d view read name table id kinds used k = record {
  name = name;
  table = k.now;
  named = k.is;
  id = k.id ∙ id;
  kinds = ap column_kinds k.columns ∙ kinds;
  used = used;
}

-- a view whose tables stay
pub kept-view : (c d : Contents) (view : ViewEntry) →
    ((name : List ℕ) (table : TableEntry) → uses_name view name ≡ true → table_named c name ≡ Some table → Kept d name table) →
    IsSoundView c view → IsSoundView d view
kept-view c d view keeps s = record {
  answer = s.answer;
  places = s.places;
  reads = λ k read within.
      let r = s.reads k read within in
      kept-read d view _ r.name r.table r.id r.kinds r.used (keeps r.name r.table r.used r.named);
}

pub stays : (d : Contents) (name : List ℕ) (table : TableEntry) → table_named d name ≡ Some table → Kept d name table
stays d name table is = record { now = table; is = is; id = refl; columns = refl }

-- ---- the empty catalog

pub sound-empty : (next : ℕ) → IsSound (nothing_held next)
unfolding IsDistinct
sound-empty next = record {
  table_names = tt;
  view_names = tt;
  apart = λ name table h. none_is_some h;
  identities = λ n m s t h k e. none_is_some h;
  tables = λ name table h. none_is_some h;
  views = λ name view h. none_is_some h;
}

-- ---- a free name

pub free-table : {X Y : Type 0} (a : Option X) (b : Option Y) → (not (is_some a) && not (is_some b)) ≡ true → a ≡ None
free-table None b h = refl
free-table (Some x) b h = absurd (true≢false (sym h))

pub free-view : {X Y : Type 0} (a : Option X) (b : Option Y) → (not (is_some a) && not (is_some b)) ≡ true → b ≡ None
free-view None None h = refl
free-view None (Some y) h = absurd (true≢false (sym h))
free-view (Some x) b h = absurd (true≢false (sym h))

-- ---- a view that doesn't name it

unused-by : (view : ViewEntry) (name : List ℕ) (e : List ℕ × ViewEntry) (es : List (List ℕ × ViewEntry)) (b : Bool) →
    uses_name e.1 name ≡ b → option_map (λ (f : List ℕ × ViewEntry). f.0) (cond b (Some e) (find (λ (f : List ℕ × ViewEntry). uses_name f.1 name) es)) ≡ None →
    (uses_name e.1 name ≡ false) × (option_map (λ (f : List ℕ × ViewEntry). f.0) (find (λ (f : List ℕ × ViewEntry). uses_name f.1 name) es) ≡ None)
unused-by view name e es true is h = none_is_some (sym h)
unused-by view name e es false is h = (is, h)

picked-by : (P : ViewEntry → Type 0) (e : List ℕ × ViewEntry) (later : Option ViewEntry) (view : ViewEntry) (b : Bool) →
    P e.1 → (later ≡ Some view → P view) → cond b (Some e.1) later ≡ Some view → P view
picked-by P e later view true first rest h = subst P (same_Some e.1 view h) first
picked-by P e later view false first rest h = rest h

unused-among : (test : List ℕ → Bool) (name : List ℕ) (view : ViewEntry) (es : List (List ℕ × ViewEntry)) →
    option_map (λ (f : List ℕ × ViewEntry). f.0) (find (λ (f : List ℕ × ViewEntry). uses_name f.1 name) es) ≡ None →
    lookup test es ≡ Some view → uses_name view name ≡ false
unused-among test name view [] none h = none_is_some h
unused-among test name view (e ∷ es) none h =
    let u = unused-by view name e es (uses_name e.1 name) refl none in
    picked-by (λ v. uses_name v name ≡ false) e (lookup test es) view (test e.0) u.0 (unused-among test name view es u.1) h

-- where no view names it, no view that is held does
pub unused : (c : Contents) (name n : List ℕ) (view : ViewEntry) → first_user c name ≡ None → view_named c n ≡ Some view →
    uses_name view name ≡ false
unused c name n view none h = unused-among (pointwise nat_eq n) name view c.views none h
