-- A core, clause by clause, where its parts were answered or refused.
use Rattle.std.specs.Prelude.{◌≡◌, Bool, true, false, not, List, [], ◌∷◌, flat_map, map, Result, Ok, Err}
use Rattle.std.proofs.Common.{refl, ap, sym, subst, ◌∙◌}
use Rattle.perm_catalog.specs.Contents.{Contents}
use Rattle.sql_tree.specs.declared.query.Core.{Core, out-Core}
use Rattle.sql_tree.specs.declared.source.FromTree.{FromTree}
use Rattle.name_meaning.specs.Cores.{BodyPart, core_seen, group_break, group_scope, has_some, word_breaks}
use Rattle.name_meaning.specs.Froms.{FromMeant, from_all, in_clause, optional_breaks, optional_meant}
use Rattle.name_meaning.specs.Meanings.{Around, QueryMeant}
use Rattle.name_meaning.specs.Scopes.{ScopeItem, scope_of}
use Rattle.name_meaning.specs.Trees.{core_of, from_of, item_of}
use Rattle.name_meaning.specs.declared.answer.Break.{Break}
use Rattle.name_meaning.specs.declared.scope.Scope.{Scope}
use Rattle.name_meaning.specs.laws.Facts.{both_facts, facts_of}
use Rattle.name_seen_parts.specs.Seen.{first_or}
use Rattle.name_seen_parts.specs.declared.refusal.Refusal.{Refusal}
use Rattle.name_seen_parts.specs.declared.refusal.Refusal.TheVariants.{Break as Broken, NoMemory}
use Rattle.name_seen_parts.specs.declared.clauses.column.ShownColumn.{ShownColumn}
use Rattle.name_seen_cores.specs.from.Added.{facts_in}
use Rattle.name_seen_cores.specs.from.Queried.{ColumnsSeen, FromSeen, FromWhole}
use Rattle.name_seen_cores.specs.declared.from.facts.Facts.{Facts as Gathered}
use Rattle.name_seen_cores.specs.Behind.{ConditionSeen, ConditionWhole, GroupsSeen, GroupsWhole, core_behind, optional_part}
use Rattle.name_seen_cores.specs.Listed.{ListSeen, seen_at}
use Rattle.name_seen_cores.proofs.Cored.{core-whole, groups-break, having-breaks, list-breaks, looked, unlooked-breaks, where-breaks, word-breaks, word-fine}
use Rattle.name_seen.specs.Joining.{input_of}
use Rattle.name_meaning.proofs.Opened.{core-is}

module _ (c : Contents) (tree : Core) (around : Around) where
  core-means : (core_of c tree).means around ≡ core_seen around (out-Core tree).provenance (from_all around.outer (map (from_of c) (out-Core tree).sources))
      (has_some (map (from_of c) (out-Core tree).sources)) (out-Core tree).distinct (map (item_of c) (out-Core tree).items) (optional_part c (out-Core tree).condition)
      (out-Core tree).groups (optional_part c (out-Core tree).having)
  core-means = ap (λ (body : BodyPart). body.means around) (core-is c tree)

  pub word-refused : (old new : Gathered) (b : Break) → first_or (word_breaks around (out-Core tree).provenance) (tt {0}) ≡ Err b
      → ColumnsSeen ((core_of c tree).means around) old new (Err (Broken b))
  word-refused old new b broken =
      ap (λ (m : QueryMeant). first_or m.breaks tt) core-means
      ∙ word-breaks around (out-Core tree).provenance (from_all around.outer (map (from_of c) (out-Core tree).sources)) (has_some (map (from_of c) (out-Core tree).sources))
      (out-Core tree).distinct (map (item_of c) (out-Core tree).items) (optional_part c (out-Core tree).condition) (out-Core tree).groups (optional_part c (out-Core tree).having) b broken

  pub from-refused : (old new : Gathered) (refusal : Refusal) → first_or (word_breaks around (out-Core tree).provenance) (tt {0}) ≡ Ok (tt {0})
      → FromSeen (input_of c tree around) [] old new (Err refusal) → ColumnsSeen ((core_of c tree).means around) old new (Err refusal)
  from-refused old new (Broken b) fine broken =
      ap (λ (m : QueryMeant). first_or m.breaks tt) core-means
      ∙ unlooked-breaks around (out-Core tree).provenance (input_of c tree around) (has_some (map (from_of c) (out-Core tree).sources))
      (out-Core tree).distinct (map (item_of c) (out-Core tree).items) (optional_part c (out-Core tree).condition) (out-Core tree).groups (optional_part c (out-Core tree).having) b
      (word-fine around (out-Core tree).provenance fine) broken
  from-refused old new NoMemory fine broken = tt

  pub from-answered : (old from new : Gathered) (own : Scope) (result : Result (List ShownColumn) Refusal) → first_or (word_breaks around (out-Core tree).provenance) (tt {0}) ≡ Ok (tt {0})
      → FromWhole (input_of c tree around) [] old from own
      → ((before : Gathered) (input : FromMeant) (items : List ScopeItem) → own ≡ scope_of items → facts_in from ≡ both_facts (facts_in before) (facts_of input.query)
      → ColumnsSeen (core_behind c tree around input items) before new result)
      → ColumnsSeen ((core_of c tree).means around) old new result
  from-answered old from new own result fine input behind =
      subst (λ (m : QueryMeant). ColumnsSeen m old new result)
      (sym (core-means ∙ looked around (out-Core tree).provenance (input_of c tree around) (has_some (map (from_of c) (out-Core tree).sources))
      (out-Core tree).distinct (map (item_of c) (out-Core tree).items) (optional_part c (out-Core tree).condition) (out-Core tree).groups (optional_part c (out-Core tree).having) input.items input.whole input.known
      (word-fine around (out-Core tree).provenance fine)))
      (behind old (input_of c tree around) input.items input.scope_is input.adds)

  -- ---- behind FROM

  module _ (input : FromMeant) (items : List ScopeItem) where
    abbrev grouped : Scope
    grouped = group_scope (scope_of items) (out-Core tree).groups (optional_part c (out-Core tree).having) (map (item_of c) (out-Core tree).items)

    abbrev WhereWhole : Scope → Gathered → Gathered → Type 0
    WhereWhole own old new =
        ConditionWhole (optional_part c (out-Core tree).condition) (optional_meant (in_clause own around.outer false) (optional_part c (out-Core tree).condition)) old new

    abbrev HavingWhole : Scope → Gathered → Gathered → Type 0
    HavingWhole scope old new =
        ConditionWhole (optional_part c (out-Core tree).having) (optional_meant (in_clause scope around.outer true) (optional_part c (out-Core tree).having)) old new

    abbrev Grouped : Scope → Scope → Type 0
    Grouped own scope = GroupsWhole own (out-Core tree).groups (optional_part c (out-Core tree).having) (map (item_of c) (out-Core tree).items) scope

    pub where-refused : (own : Scope) (before from new : Gathered) (refusal : Refusal) → own ≡ scope_of items
        → ConditionSeen (optional_part c (out-Core tree).condition) (optional_meant (in_clause own around.outer false) (optional_part c (out-Core tree).condition)) from new (Err refusal)
        → ColumnsSeen (core_behind c tree around input items) before new (Err refusal)
    where-refused own before from new (Broken b) is broken =
        where-breaks _ _ _ _ b (subst (λ (s : Scope). first_or (optional_breaks (optional_part c (out-Core tree).condition)
        (optional_meant (in_clause s around.outer false) (optional_part c (out-Core tree).condition))) (tt {0}) ≡ Err b) is broken)
    where-refused own before from new NoMemory is broken = tt

    pub groups-refused : (own : Scope) (before from behind_where : Gathered) (refusal : Refusal) → own ≡ scope_of items → WhereWhole own from behind_where
        → GroupsSeen own (out-Core tree).groups (optional_part c (out-Core tree).having) (map (item_of c) (out-Core tree).items) (Err refusal)
        → ColumnsSeen (core_behind c tree around input items) before behind_where (Err refusal)
    groups-refused own before from behind_where (Broken b) is first broken =
        let where_is : WhereWhole (scope_of items) from behind_where = subst (λ (s : Scope). WhereWhole s from behind_where) is first in
        groups-break _ _ _ _ b where_is.whole (subst (λ (s : Scope). first_or (flat_map (group_break s) (out-Core tree).groups) (tt {0}) ≡ Err b) is broken)
    groups-refused own before from behind_where NoMemory is first broken = tt

    pub having-refused : (own scope : Scope) (before from behind_where new : Gathered) (refusal : Refusal) → own ≡ scope_of items → WhereWhole own from behind_where
        → Grouped own scope
        → ConditionSeen (optional_part c (out-Core tree).having) (optional_meant (in_clause scope around.outer true) (optional_part c (out-Core tree).having)) behind_where new (Err refusal)
        → ColumnsSeen (core_behind c tree around input items) before new (Err refusal)
    having-refused own scope before from behind_where new (Broken b) is first second broken =
        let where_is : WhereWhole (scope_of items) from behind_where = subst (λ (s : Scope). WhereWhole s from behind_where) is first in
        let groups_are : Grouped (scope_of items) scope = subst (λ (s : Scope). Grouped s scope) is second in
        having-breaks _ _ _ _ b where_is.whole groups_are.whole (subst (λ (s : Scope). first_or (optional_breaks (optional_part c (out-Core tree).having)
        (optional_meant (in_clause s around.outer true) (optional_part c (out-Core tree).having))) (tt {0}) ≡ Err b) groups_are.scope_is broken)
    having-refused own scope before from behind_where new NoMemory is first second broken = tt

    pub core-answered : (own scope : Scope) (before from behind_where behind_having new : Gathered) (result : Result (List ShownColumn) Refusal) → own ≡ scope_of items
        → facts_in from ≡ both_facts (facts_in before) (facts_of input.query)
        → WhereWhole own from behind_where → Grouped own scope → HavingWhole scope behind_where behind_having
        → ListSeen (map (seen_at (has_some (map (from_of c) (out-Core tree).sources)) scope (in_clause scope around.outer true)) (map (item_of c) (out-Core tree).items)) behind_having new result
        → ColumnsSeen (core_behind c tree around input items) before new result
    core-answered own scope before from behind_where behind_having new result is adds first second third list =
        let where_is : WhereWhole (scope_of items) from behind_where = subst (λ (s : Scope). WhereWhole s from behind_where) is first in
        let groups_are : Grouped (scope_of items) scope = subst (λ (s : Scope). Grouped s scope) is second in
        let having_is : HavingWhole grouped behind_where behind_having = subst (λ (s : Scope). HavingWhole s behind_where behind_having) groups_are.scope_is third in
        by-result result (subst (λ (s : Scope). ListSeen (map (seen_at (has_some (map (from_of c) (out-Core tree).sources)) s (in_clause s around.outer true))
        (map (item_of c) (out-Core tree).items)) behind_having new result) groups_are.scope_is list) where_is groups_are.whole having_is where
          by-result : (result : Result (List ShownColumn) Refusal)
              → ListSeen (map (seen_at (has_some (map (from_of c) (out-Core tree).sources)) grouped (in_clause grouped around.outer true)) (map (item_of c) (out-Core tree).items)) behind_having new result
              → WhereWhole (scope_of items) from behind_where → flat_map (group_break (scope_of items)) (out-Core tree).groups ≡ []
              → HavingWhole grouped behind_where behind_having
              → ColumnsSeen (core_behind c tree around input items) before new result
          by-result (Ok columns) list where_is none having_is =
              core-whole around input (has_some (map (from_of c) (out-Core tree).sources)) (out-Core tree).distinct (map (item_of c) (out-Core tree).items) (optional_part c (out-Core tree).condition) (out-Core tree).groups
              (optional_part c (out-Core tree).having) items before from behind_where behind_having new columns adds where_is none having_is list
          by-result (Err (Broken b)) broken where_is none having_is = list-breaks _ _ _ _ b where_is.whole none having_is.whole broken
          by-result (Err NoMemory) broken where_is none having_is = tt

-- ---- whether there is a FROM

pub has-from : (c : Contents) (tree : Core) (empty : Bool) → (empty ≡ true → (out-Core tree).sources ≡ []) → ((out-Core tree).sources ≡ [] → empty ≡ true)
    → not empty ≡ has_some (map (from_of c) (out-Core tree).sources)
has-from c tree empty there back = by-sources (out-Core tree).sources there back where
  by-sources : (sources : List FromTree) → (empty ≡ true → sources ≡ []) → (sources ≡ [] → empty ≡ true) → not empty ≡ has_some (map (from_of c) sources)
  by-sources [] there back = ap not (back refl)
  by-sources (source ∷ sources) there back = by-empty empty there where
    by-empty : (empty : Bool) → (empty ≡ true → source ∷ sources ≡ []) → not empty ≡ true
    by-empty true there = absurd (cc (there refl))
    by-empty false there = refl
