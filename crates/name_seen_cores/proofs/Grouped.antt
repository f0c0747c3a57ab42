-- Whether a core is grouped, and the scope behind GROUP BY.
use Rattle.std.specs.Prelude.{◌≡◌, ℕ, Bool, true, false, ◌||◌, List, [], ◌∷◌, is_some, Option, Some, None}
use Rattle.std.specs.List.{list_any}
use Rattle.std.proofs.Common.{refl, ap, sym, ◌∙◌}
use Rattle.perm_catalog.specs.Contents.{Contents}
use Rattle.sql_tree.specs.declared.expression.ExprTree.{ExprTree}
use Rattle.sql_tree.specs.declared.name.ColRef.{ColRef}
use Rattle.sql_tree.specs.declared.name.Name.{Name}
use Rattle.sql_tree.specs.declared.query.SelectItem.{SelectItem}
use Rattle.sql_tree.specs.declared.query.SelectItem.TheVariants as i
use Rattle.name_meaning.specs.Cores.{is_grouped}
use Rattle.name_meaning.specs.Items.{SelectPart}
use Rattle.name_meaning.specs.Meanings.{Part}
use Rattle.name_meaning.specs.Trees.{item_of, part_of}
use Rattle.name_meaning.proofs.Equations.{token, selectitem-star, selectitem-tablestar, selectitem-value}
use Rattle.name_seen_cores.specs.Behind.{is_aggregating, optional_part}

pub star-alone : (c : Contents) (item : SelectItem) (at : ℕ) → item ≡ i.Star at → false ≡ is_aggregating (item_of c item)
unfolding token
star-alone c item at is = sym (ap (λ (t : SelectItem). is_aggregating (item_of c t)) is ∙ ap is_aggregating (selectitem-star c at))

pub table_star-alone : (c : Contents) (item : SelectItem) (table : Name) → item ≡ i.TableStar table → false ≡ is_aggregating (item_of c item)
unfolding token
table_star-alone c item table is = sym (ap (λ (t : SelectItem). is_aggregating (item_of c t)) is ∙ ap is_aggregating (selectitem-tablestar c table))

pub value-aggregates : (c : Contents) (item : SelectItem) (tree : ExprTree) (name : Option Name) → item ≡ i.Value tree name
    → (part_of c tree).aggregating ≡ is_aggregating (item_of c item)
unfolding token
value-aggregates c item tree name is = sym (ap (λ (t : SelectItem). is_aggregating (item_of c t)) is ∙ ap is_aggregating (selectitem-value c tree name))

-- ---- the test

some-part : (c : Contents) (tree : Option ExprTree) → is_some (optional_part c tree) ≡ is_some tree
some-part c None = refl
some-part c (Some tree) = refl

pub grouped-by : (c : Contents) (groups : List ColRef) (having : Option ExprTree) (items : List SelectPart) (some_having any : Bool)
    → some_having ≡ is_some having → any ≡ list_any is_aggregating items
    → (groups ≡ [] → (some_having || any) ≡ is_grouped groups (optional_part c having) items)
grouped-by c [] having items some_having any is are none = λ i. (is ∙ sym (some-part c having)) i || are i
grouped-by c (group ∷ groups) having items some_having any is are none = absurd (cc none)

pub grouped-some : (groups : List ColRef) (having : Option Part) (items : List SelectPart) → (groups ≡ [] → ⊥) → true ≡ is_grouped groups having items
grouped-some [] having items some = absurd (some refl)
grouped-some (group ∷ groups) having items some = refl
