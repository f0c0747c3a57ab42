-- Items of a SELECT list, where they stand.
use Rattle.std.specs.Prelude.{◌≡◌, ℕ, suc, Bool, List, [], ◌∷◌, ◌++◌, length, Option, Result, Err}
use Rattle.std.proofs.Common.{refl, ap, sym, subst, ◌∙◌}
use Rattle.perm_catalog.specs.Contents.{Contents}
use Rattle.perm_values.specs.declared.kind.Kind.{Kind}
use Rattle.sql_tree.specs.declared.expression.ExprTree.{ExprTree}
use Rattle.sql_tree.specs.declared.name.Name.{Name}
use Rattle.sql_tree.specs.declared.query.SelectItem.{SelectItem}
use Rattle.sql_tree.specs.declared.query.SelectItem.TheVariants as i
use Rattle.name_meaning.specs.Items.{SelectMeant, Titled, first_wanted, named_from, star_meant, table_star_meant, title, value_meant}
use Rattle.name_meaning.specs.Meanings.{Meant, Surroundings, means_at, seen_kind, settled}
use Rattle.name_meaning.specs.Trees.{item_of, part_of}
use Rattle.name_meaning.specs.declared.answer.Break.{Break}
use Rattle.name_meaning.specs.declared.scope.Scope.{Scope}
use Rattle.name_meaning.proofs.Equations.{token, selectitem-star, selectitem-tablestar, selectitem-value}
use Rattle.name_seen_parts.specs.Seen.{first_or}
use Rattle.name_seen_parts.specs.declared.refusal.Refusal.{Refusal}
use Rattle.name_seen_parts.specs.declared.refusal.Refusal.TheVariants.{Break as Broken, NoMemory}
use Rattle.name_seen_parts.proofs.Arms.{means-is}
use Rattle.name_seen_parts.proofs.SeenAs.{seen-as}
use Rattle.name_seen_parts.specs.Columns.{columns_of}
use Rattle.name_seen_parts.specs.declared.clauses.column.ShownColumn.{ShownColumn}
use Rattle.name_seen_cores.specs.declared.from.facts.Facts.{Facts as Gathered}
use Rattle.name_seen_cores.specs.Listed.{ItemSeen, ItemWhole, ListSeen, ListWhole, seen_at}
use Rattle.name_seen_cores.proofs.Lists.{item-breaks}
use Rattle.name_seen_cores.specs.Expressed.{ExpressionSeen, KindSeen}

module _ (c : Contents) (item : SelectItem) (has_from : Bool) (scope : Scope) (here : Surroundings) where
  abbrev item_meant : SelectMeant
  item_meant = seen_at has_from scope here (item_of c item)

  pub star-seen : (at : ℕ) → item ≡ i.Star at → (columns wider : List ShownColumn) (old new : Gathered) (result : Result Unit Refusal)
      → ItemSeen (star_meant has_from scope at) columns wider old new result → ItemSeen item_meant columns wider old new result
  unfolding token
  star-seen at is columns wider old new result shown =
      subst (λ (m : SelectMeant). ItemSeen m columns wider old new result)
      (sym (ap (λ (t : SelectItem). seen_at has_from scope here (item_of c t)) is ∙ ap (seen_at has_from scope here) (selectitem-star c at))) shown

  pub table_star-seen : (table : Name) → item ≡ i.TableStar table → (columns wider : List ShownColumn) (old new : Gathered) (result : Result Unit Refusal)
      → ItemSeen (table_star_meant scope table) columns wider old new result → ItemSeen item_meant columns wider old new result
  unfolding token
  table_star-seen table is columns wider old new result shown =
      subst (λ (m : SelectMeant). ItemSeen m columns wider old new result)
      (sym (ap (λ (t : SelectItem). seen_at has_from scope here (item_of c t)) is ∙ ap (seen_at has_from scope here) (selectitem-tablestar c table))) shown

  value-is : (tree : ExprTree) (name : Option Name) → item ≡ i.Value tree name → item_meant ≡ value_meant (title name (part_of c tree)) (means_at (part_of c tree) here)
  unfolding token
  value-is tree name is =
      ap (λ (t : SelectItem). seen_at has_from scope here (item_of c t)) is ∙ ap (seen_at has_from scope here) (selectitem-value c tree name)
      ∙ ap (value_meant (title name (part_of c tree))) (means-is (part_of c tree) here)

  pub value-seen : (tree : ExprTree) (name : Option Name) → item ≡ i.Value tree name → (kind : Option Kind) (columns wider : List ShownColumn) (old new : Gathered)
      → KindSeen (means_at (part_of c tree) here) old new kind
      → columns_of wider ≡ columns_of columns ++ named_from (suc (length columns)) (record { name = title name (part_of c tree); kind = kind } ∷ [])
      → ItemWhole item_meant columns wider old new
  value-seen tree name is kind columns wider old new found added =
      let m : Meant = means_at (part_of c tree) here in
      let told : m ≡ record m { breaks = []; kind = kind } = seen-as m kind found.found in
      let own : Option Kind → List Titled = λ k. record { name = title name (part_of c tree); kind = k } ∷ [] in
      subst (λ (s : SelectMeant). ItemWhole s columns wider old new) (sym (value-is tree name is)) (record {
        whole = ap (λ (n : Meant). n.breaks) told;
        titles = own (seen_kind m);
        known = refl;
        shown = added ∙ ap (λ (k : Option Kind). columns_of columns ++ named_from (suc (length columns)) (own k)) (sym (ap seen_kind told));
        adds = λ wanted before. found.adds (settled m.kind (first_wanted wanted)) before;
      })

  pub value-refused : (tree : ExprTree) (name : Option Name) → item ≡ i.Value tree name → (columns wider : List ShownColumn) (old new : Gathered) (refusal : Refusal)
      → ExpressionSeen (means_at (part_of c tree) here) old new (Err refusal) → ItemSeen item_meant columns wider old new (Err refusal)
  value-refused tree name is columns wider old new (Broken b) broken =
      ap (λ (m : SelectMeant). first_or m.breaks tt) (value-is tree name is) ∙ first-so (means_at (part_of c tree) here).breaks (means_at (part_of c tree) here).kind b broken where
        first-so : {X : Type 0} (xs : List Break) (v : X) (b : Break) → first_or xs v ≡ Err b → first_or xs (tt {0}) ≡ Err b
        first-so [] v b e = absurd (cc e)
        first-so (x ∷ xs) v b e =
            let same : x ≡ b = cc e in
            ap Err same
  value-refused tree name is columns wider old new NoMemory broken = tt

-- one more item was refused
pub list-refused : (ms : List SelectMeant) (m : SelectMeant) (more : List SelectMeant) (old middle new : Gathered) (columns wider : List ShownColumn) (refusal : Refusal)
    → ListWhole ms old middle columns → ItemSeen m columns wider middle new (Err refusal) → ListSeen (ms ++ m ∷ more) old new (Err refusal)
list-refused ms m more old middle new columns wider (Broken b) list broken = item-breaks ms m more b list.whole broken
list-refused ms m more old middle new columns wider NoMemory list broken = tt
