-- What a query reads, by its children, and keeping it one after another.
use Rattle.std.specs.Prelude.{Result, Ok, Err, OnOk}
use Rattle.std.proofs.Common.{◌≡◌, ℕ, List, [], ◌∷◌, ◌++◌, append-nil, append_assoc, refl, ap, ◌∙◌}
use Rattle.perm_values.specs.declared.kind.Kind.{Kind}
use Rattle.bag_algebra.specs.Inputs.{inputs_of, sublinks_of}
use Rattle.bag_algebra.specs.TablesRead.{TableRead, tables_read, sub_tables_read}
use Rattle.bag_algebra.specs.built.Patterns.{BaseOf, FilterOf, ProjectOf, JoinOf, ApplyOf, UnionOf, IntersectOf, ExceptOf, DistinctOf, AggregateOf, LimitOf, ProvOf}
use Rattle.bag_algebra.specs.declared.query.Query.{Query, Row_of-Sublink, more_of-Sublink, end_of-Sublink, items-the_row-Sublink}
use Rattle.bag_algebra.specs.declared.query.Query.TheVariants.{Table, Single}
use Rattle.perm_catalog.specs.Contents.{Contents}
use Rattle.perm_catalog.specs.declared.entries.SourceVersion.{SourceVersion}
use Rattle.stored_provenance.specs.Reads.{with_read, with_reads, inputs_read, sublinks_read}

pub with_reads-append : (c : Contents) (rs ss : List TableRead) (kept : List SourceVersion) → with_reads c (rs ++ ss) kept ≡ with_reads c ss (with_reads c rs kept)
with_reads-append c [] ss kept = refl
with_reads-append c (r ∷ rs) ss kept = with_reads-append c rs ss (with_read c r.id kept)

sub_tables_read-listed : {m : _} (subs : Row_of-Sublink m) → sub_tables_read subs ≡ sublinks_read (items-the_row-Sublink _ subs)
sub_tables_read-listed end_of-Sublink = refl
sub_tables_read-listed (more_of-Sublink kind tested query subs) = ap (λ reads. tables_read query ++ reads) (sub_tables_read-listed subs)

-- what is no table reads what its children read
pub tables_read-node : (query : Query) → ((id : ℕ) (kinds : List Kind) → query ≡ Table id kinds → ⊥)
    → tables_read query ≡ inputs_read (inputs_of query) ++ sublinks_read (sublinks_of query)
tables_read-node (Table id kinds) table = absurd (table id kinds refl)
tables_read-node Single table = refl
tables_read-node (BaseOf input places label) table = simp append-nil
tables_read-node (FilterOf input condition _ subs) table = simp (append-nil, sub_tables_read-listed subs)
tables_read-node (ProjectOf input items _ subs) table = simp (append-nil, sub_tables_read-listed subs)
tables_read-node (JoinOf kind left right condition _ subs) table = simp (append-nil, append_assoc, sub_tables_read-listed subs)
tables_read-node (ApplyOf kind left right) table = simp append-nil
tables_read-node (UnionOf all left right) table = simp append-nil
tables_read-node (IntersectOf all left right) table = simp append-nil
tables_read-node (ExceptOf all left right) table = simp append-nil
tables_read-node (DistinctOf input) table = simp append-nil
tables_read-node (AggregateOf input groups aggregates) table = simp append-nil
tables_read-node (LimitOf input keys count) table = simp append-nil
tables_read-node (ProvOf input) table = simp append-nil

pub on_ok : {X E P Q : Type 0} (result : Result X E) → (P → Q) → OnOk result P → OnOk result Q
on_ok (Ok x) f h = f h
on_ok (Err e) f h = tt
