-- The measures and the tests of a query by the children of its topmost node.
use Rattle.std.proofs.Common.{◌≡◌, ℕ, suc, ◌+◌, max, not, ◌&&◌, List, ◌++◌, append-nil, append_assoc, refl, sym, ap, arith}
use Rattle.std.specs.List.{list_all}
use Rattle.bag_algebra.specs.built.Openings.{Base-is, Prov-is}
use Rattle.bag_algebra.specs.built.FaultFree.{all_fault_free}
use Rattle.bag_algebra.specs.built.Measures.{inputs_height, subs_height, inputs_size, subs_size}
use Rattle.bag_algebra.specs.built.Scopes.{all_plain, all_over_tables}
use Rattle.bag_algebra.specs.Children.{inputs_shape, subs_shape}
use Rattle.bag_algebra.specs.FaultFree.{option_faultless, is_scalar, own_faultless, fault_free, subs_fault_free}
use Rattle.bag_algebra.specs.Inputs.{inputs_of, sublinks_of}
use Rattle.bag_algebra.specs.Kinds.{shape, sub_shape}
use Rattle.bag_algebra.specs.Measures.{height_of, sub_height, size_of, sub_size}
use Rattle.bag_algebra.specs.built.Patterns.{BaseOf, FilterOf, ProjectOf, JoinOf, ApplyOf, UnionOf, IntersectOf, ExceptOf, DistinctOf, AggregateOf, LimitOf, ProvOf}
use Rattle.bag_algebra.specs.Rewriting.{is_plain, subs_plain}
use Rattle.bag_algebra.specs.Scoped.{over_tables, subs_over_tables}
use Rattle.bag_algebra.specs.declared.query.Label.{Label}
use Rattle.bag_algebra.specs.declared.query.Query.{Query, Row_of-Sublink, more_of-Sublink, end_of-Sublink, items-the_row-Sublink}
use Rattle.bag_algebra.specs.declared.query.Query.TheVariants.{Table, Single, Base, Prov}
use Rattle.bag_algebra.proofs.Truths.{and_true}

-- ---- sizes

sub_height-listed : {m : _} (subs : Row_of-Sublink m) → sub_height subs ≡ subs_height (items-the_row-Sublink _ subs)
sub_height-listed end_of-Sublink = refl
sub_height-listed (more_of-Sublink kind tested query subs) = ap (max (height_of query)) (sub_height-listed subs)

-- every node is one higher than the highest of its children
pub height_of-node : (query : Query) → height_of query ≡ suc (max (inputs_height (inputs_of query)) (subs_height (sublinks_of query)))
height_of-node (Table id kinds) = refl
height_of-node Single = refl
height_of-node (BaseOf input places label) = omega arith
height_of-node (FilterOf input condition _ subs) = omega (arith, sub_height-listed subs)
height_of-node (ProjectOf input items _ subs) = omega (arith, sub_height-listed subs)
height_of-node (JoinOf kind left right condition _ subs) = omega (arith, sub_height-listed subs)
height_of-node (ApplyOf kind left right) = omega arith
height_of-node (UnionOf all left right) = omega arith
height_of-node (IntersectOf all left right) = omega arith
height_of-node (ExceptOf all left right) = omega arith
height_of-node (DistinctOf input) = omega arith
height_of-node (AggregateOf input groups aggregates) = omega arith
height_of-node (LimitOf input keys count) = omega arith
height_of-node (ProvOf input) = omega arith

sub_size-listed : {m : _} (subs : Row_of-Sublink m) → sub_size subs ≡ subs_size (items-the_row-Sublink _ subs)
sub_size-listed end_of-Sublink = refl
sub_size-listed (more_of-Sublink kind tested query subs) = ap (λ n. size_of query + n) (sub_size-listed subs)

-- every node is one operator beside those of its children
pub size_of-node : (query : Query) → size_of query ≡ suc (inputs_size (inputs_of query) + subs_size (sublinks_of query))
size_of-node (Table id kinds) = refl
size_of-node Single = refl
size_of-node (BaseOf input places label) = omega arith
size_of-node (FilterOf input condition _ subs) = omega (arith, sub_size-listed subs)
size_of-node (ProjectOf input items _ subs) = omega (arith, sub_size-listed subs)
size_of-node (JoinOf kind left right condition _ subs) = omega (arith, sub_size-listed subs)
size_of-node (ApplyOf kind left right) = omega arith
size_of-node (UnionOf all left right) = omega arith
size_of-node (IntersectOf all left right) = omega arith
size_of-node (ExceptOf all left right) = omega arith
size_of-node (DistinctOf input) = omega arith
size_of-node (AggregateOf input groups aggregates) = omega arith
size_of-node (LimitOf input keys count) = omega arith
size_of-node (ProvOf input) = omega arith

-- ---- places

sub_shape-listed : {m : _} (subs : Row_of-Sublink m) → sub_shape subs ≡ subs_shape (items-the_row-Sublink _ subs)
sub_shape-listed end_of-Sublink = refl
sub_shape-listed (more_of-Sublink kind tested query subs) = ap (λ places. shape query ++ places) (sub_shape-listed subs)

-- what neither is a source nor asks for provenance has the places of its children
pub shape-node : (query : Query) → ((input : Query) (places : List ℕ) (label : Label) → query ≡ Base input places label → ⊥) → ((input : Query) → query ≡ Prov input → ⊥) → shape query ≡ inputs_shape (inputs_of query) ++ subs_shape (sublinks_of query)
shape-node (Table id kinds) base prov = refl
shape-node Single base prov = refl
shape-node (BaseOf input places label) base prov = absurd (base input places label (sym (Base-is input places label)))
shape-node (FilterOf input condition _ subs) base prov = simp (append-nil, sub_shape-listed subs)
shape-node (ProjectOf input items _ subs) base prov = simp (append-nil, sub_shape-listed subs)
shape-node (JoinOf kind left right condition _ subs) base prov = simp (append-nil, append_assoc, sub_shape-listed subs)
shape-node (ApplyOf kind left right) base prov = simp append-nil
shape-node (UnionOf all left right) base prov = simp append-nil
shape-node (IntersectOf all left right) base prov = simp append-nil
shape-node (ExceptOf all left right) base prov = simp append-nil
shape-node (DistinctOf input) base prov = simp append-nil
shape-node (AggregateOf input groups aggregates) base prov = simp append-nil
shape-node (LimitOf input keys count) base prov = simp append-nil
shape-node (ProvOf input) base prov = absurd (prov input (sym (Prov-is input)))

-- ---- tests

subs_plain-listed : {m : _} (subs : Row_of-Sublink m) → subs_plain subs ≡ all_plain (items-the_row-Sublink _ subs)
subs_plain-listed end_of-Sublink = refl
subs_plain-listed (more_of-Sublink kind tested query subs) = ap (λ b. is_plain query && b) (subs_plain-listed subs)

-- a node that asks for no provenance is plain where its children are
pub is_plain-node : (query : Query) → ((input : Query) → query ≡ Prov input → ⊥) → is_plain query ≡ (list_all is_plain (inputs_of query) && all_plain (sublinks_of query))
is_plain-node (Table id kinds) prov = refl
is_plain-node Single prov = refl
is_plain-node (BaseOf input places label) prov = simp and_true
is_plain-node (FilterOf input condition _ subs) prov = simp (and_true, subs_plain-listed subs)
is_plain-node (ProjectOf input items _ subs) prov = simp (and_true, subs_plain-listed subs)
is_plain-node (JoinOf kind left right condition _ subs) prov = simp (and_true, subs_plain-listed subs)
is_plain-node (ApplyOf kind left right) prov = simp and_true
is_plain-node (UnionOf all left right) prov = simp and_true
is_plain-node (IntersectOf all left right) prov = simp and_true
is_plain-node (ExceptOf all left right) prov = simp and_true
is_plain-node (DistinctOf input) prov = simp and_true
is_plain-node (AggregateOf input groups aggregates) prov = simp and_true
is_plain-node (LimitOf input keys count) prov = simp and_true
is_plain-node (ProvOf input) prov = absurd (prov input (sym (Prov-is input)))

subs_over_tables-listed : {m : _} (subs : Row_of-Sublink m) → subs_over_tables subs ≡ all_over_tables (items-the_row-Sublink _ subs)
subs_over_tables-listed end_of-Sublink = refl
subs_over_tables-listed (more_of-Sublink kind tested query subs) = ap (λ b. over_tables query && b) (subs_over_tables-listed subs)

-- what neither is a source nor asks for provenance has the sources of its children
pub over_tables-node : (query : Query) → ((input : Query) (places : List ℕ) (label : Label) → query ≡ Base input places label → ⊥) → ((input : Query) → query ≡ Prov input → ⊥) → over_tables query ≡ (list_all over_tables (inputs_of query) && all_over_tables (sublinks_of query))
over_tables-node (Table id kinds) base prov = refl
over_tables-node Single base prov = refl
over_tables-node (BaseOf input places label) base prov = absurd (base input places label (sym (Base-is input places label)))
over_tables-node (FilterOf input condition _ subs) base prov = simp (and_true, subs_over_tables-listed subs)
over_tables-node (ProjectOf input items _ subs) base prov = simp (and_true, subs_over_tables-listed subs)
over_tables-node (JoinOf kind left right condition _ subs) base prov = simp (and_true, subs_over_tables-listed subs)
over_tables-node (ApplyOf kind left right) base prov = simp and_true
over_tables-node (UnionOf all left right) base prov = simp and_true
over_tables-node (IntersectOf all left right) base prov = simp and_true
over_tables-node (ExceptOf all left right) base prov = simp and_true
over_tables-node (DistinctOf input) base prov = simp and_true
over_tables-node (AggregateOf input groups aggregates) base prov = simp and_true
over_tables-node (LimitOf input keys count) base prov = simp and_true
over_tables-node (ProvOf input) base prov = absurd (prov input (sym (Prov-is input)))

subs_fault_free-listed : {m : _} (subs : Row_of-Sublink m) → subs_fault_free subs ≡ all_fault_free (items-the_row-Sublink _ subs)
subs_fault_free-listed end_of-Sublink = refl
subs_fault_free-listed (more_of-Sublink kind tested query subs) = ap (λ b. ((not (is_scalar kind) && option_faultless tested) && fault_free query) && b) (subs_fault_free-listed subs)

-- a node adds what its own expressions may meet
pub fault_free-node : (query : Query) → fault_free query ≡ (list_all fault_free (inputs_of query) && own_faultless query && all_fault_free (sublinks_of query))
fault_free-node (Table id kinds) = refl
fault_free-node Single = refl
fault_free-node (BaseOf input places label) = simp and_true
fault_free-node (FilterOf input condition _ subs) = simp (and_true, subs_fault_free-listed subs)
fault_free-node (ProjectOf input items _ subs) = simp (and_true, subs_fault_free-listed subs)
fault_free-node (JoinOf kind left right condition _ subs) = simp (and_true, subs_fault_free-listed subs)
fault_free-node (ApplyOf kind left right) = simp and_true
fault_free-node (UnionOf all left right) = simp and_true
fault_free-node (IntersectOf all left right) = simp and_true
fault_free-node (ExceptOf all left right) = simp and_true
fault_free-node (DistinctOf input) = simp and_true
fault_free-node (AggregateOf input groups aggregates) = simp and_true
fault_free-node (LimitOf input keys count) = simp and_true
fault_free-node (ProvOf input) = simp and_true
