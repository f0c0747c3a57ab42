-- What a statement breaks by its own names comes before whatever else it breaks.
use Rattle.std.specs.Prelude.{◌≡◌, ℕ, is_none, List, [], ◌∷◌, ◌++◌, flat_map, Option, Some, None, Result, Err}
use Rattle.std.proofs.Common.{ap, sym, ◌∙◌}
use Rattle.std.specs.Option.{option_map_or}
use Rattle.name_seen_parts.proofs.Firsts.{first-stays, first-stays_first}
use Rattle.perm_catalog.specs.Changes.{table_named}
use Rattle.perm_catalog.specs.Columns.{column_kinds}
use Rattle.perm_catalog.specs.Contents.{Contents}
use Rattle.perm_catalog.specs.declared.entries.TableEntry.{TableEntry}
use Rattle.sql_tree.specs.declared.statement.StatementBody.{StatementBody}
use Rattle.sql_tree.specs.declared.statement.StatementBody.TheVariants as st
use Rattle.name_meaning.specs.Meanings.{broken, broken_if}
use Rattle.name_meaning.specs.Statements as words
use Rattle.name_meaning.specs.declared.answer.Break.{Break}
use Rattle.name_seen_parts.specs.Seen.{first_or}
use Rattle.name_meaning.specs.declared.answer.Resolved.{Resolved}
use Rattle.name_seen_parts.specs.declared.refusal.Refusal.{Refusal}
use Rattle.name_seen_parts.specs.declared.refusal.Refusal.TheVariants.{Break as Broken}
use Rattle.name_statements.specs.Own.{TellsFirst, own_breaks}
use Rattle.name_statements.specs.Resolves.{body_breaks}
use Rattle.name_statements.proofs.Bodies.{names-first}
use Rattle.name_meaning.specs.declared.rule.Rule.TheVariants as rule

-- what stands on a table that isn't there
on-first : (looked : TableEntry → List Break) (at : ℕ) (held : Option TableEntry) (first : Break) → first_or (broken_if (is_none held) rule.UnknownRelation at) (tt {0}) ≡ Err first
    → first_or (option_map_or looked held (broken rule.UnknownRelation at ∷ [])) (tt {0}) ≡ Err first
on-first looked at None first e = e
on-first looked at (Some entry) first e = absurd (cc)

pub own-first : (c : Contents) (body : StatementBody) (first : Break) → first_or (own_breaks c body) (tt {0}) ≡ Err first → first_or (body_breaks c body) (tt {0}) ≡ Err first
own-first c (st.CreateTable table columns) first e = e
own-first c (st.CreateTableAs table query) first e =
    names-first (words.name_breaks c (st.CreateTableAs table query)) (words.limit_breaks c (st.CreateTableAs table query)) first
    (first-stays_first (words.taken c table) (words.named_query_breaks query.at (words.query_meant c query))
    (broken_if (words.has_boolean (words.columns_of (words.query_meant c query))) rule.UnfitKind query.at) (tt {0}) (tt {0}) first e)
own-first c (st.CreateView view query) first e =
    names-first (words.name_breaks c (st.CreateView view query)) (words.limit_breaks c (st.CreateView view query)) first
    (first-stays (words.taken c view) (words.named_query_breaks query.at (words.query_meant c query)) (tt {0}) (tt {0}) first e)
own-first c (st.Copy table file header null_field) first e = names-first (words.unknown_table c table) [] first e
own-first c (st.Insert table rows) first e =
    names-first (words.name_breaks c (st.Insert table rows)) [] first
    (on-first (λ (entry : TableEntry). flat_map (words.row_breaks c (column_kinds entry.columns)) rows) table.at (table_named c table.text) first e)
own-first c (st.Delete table condition) first e =
    names-first (words.name_breaks c (st.Delete table condition)) [] first
    (on-first (words.delete_breaks c table condition) table.at (table_named c table.text) first e)
own-first c (st.DropTable table) first e = names-first (words.unknown_table c table ++ words.used c table) [] first e
own-first c (st.DropView view) first e = names-first (words.unknown_view c view ++ words.used c view) [] first e
own-first c (st.Select query) first e = absurd (cc)
own-first c (st.Explain query) first e = absurd (cc)
own-first c (st.ShowFresh table) first e = names-first (words.unknown_table c table) [] first e
own-first c (st.Impact table condition query) first e =
    let parts : List Break = words.impact_parts c table condition query in
    names-first (words.name_breaks c (st.Impact table condition query)) (words.limit_breaks c (st.Impact table condition query)) first
    (names-first parts (words.not_monotone query.at (words.impact_query c query)) first
    (first-stays (words.on_table c table (words.delete_breaks c table condition)) (words.impact_query c query).breaks (tt {0}) (tt {0}) first
    (on-first (words.delete_breaks c table condition) table.at (table_named c table.text) first e)))

-- ---- the first of these breaks is told

abbrev told_of : Break → Result Unit Break
told_of first = Err first

same-told : (a b : Break) → told_of a ≡ told_of b → a ≡ b
same-told a b e = cc

nothing≢told : (first : Break) → first_or [] (tt {0}) ≡ told_of first → ⊥
nothing≢told first e = cc

pub first-told : (breaks : List Break) (b : Break) → first_or breaks (tt {0}) ≡ Err b → TellsFirst breaks (Err (Broken b))
first-told breaks b told first e = ap (λ (d : Break). Err (Broken d)) (same-told b first (sym told ∙ e))

pub none-told : (breaks : List Break) (result : Result Resolved Refusal) → breaks ≡ [] → TellsFirst breaks result
none-told breaks result none first e = absurd (nothing≢told first (sym (ap (λ (bs : List Break). first_or bs (tt {0})) none) ∙ e))
