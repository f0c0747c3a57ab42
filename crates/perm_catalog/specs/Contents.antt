-- What a catalog holds.
use Rattle.std.specs.Prelude.{ℕ, List, refl}
use Rattle.std.specs.Coded.{Coded, code_by, coded×, coded_ℕ, coded_list}
use Rattle.std.specs.FinMap as map
use Rattle.std.specs.FinMap.{FinMap}
use Rattle.std.specs.Ordering.{nat_cmp}
use Rattle.perm_values.specs.declared.value.Value.{Value}
use Rattle.bag_algebra.specs.Bags.{Bag}
use Rattle.perm_catalog.specs.declared.entries.TableEntry.{TableEntry}
use Rattle.perm_catalog.specs.declared.entries.ViewEntry.{ViewEntry}

-- tables and views by name, in the order of their creation; the rows of tables by identity; the next number to draw
pub record Contents : Type 0 where
  pub tables : List (List ℕ × TableEntry)
  pub views : List (List ℕ × ViewEntry)
  pub rows : FinMap nat_cmp Bag
  pub next : ℕ

-- contents are stored as pairs of their parts
abbrev pub contents_code : Coded TableEntry → Coded ViewEntry → Coded Value → Coded Contents
contents_code table view cell =
    code_by ((List (List ℕ × TableEntry) × List (List ℕ × ViewEntry)) × (FinMap nat_cmp Bag × ℕ))
    (coded× (coded× (coded_list (coded× (coded_list coded_ℕ) table)) (coded_list (coded× (coded_list coded_ℕ) view)))
    (coded× (map.code {R = nat_cmp} coded_ℕ (coded_list (coded_list cell))) coded_ℕ))
    (λ c. ((c.tables, c.views), (c.rows, c.next)))
    (λ p. record { tables = p.0.0; views = p.0.1; rows = p.1.0; next = p.1.1 }) (λ _. refl)
