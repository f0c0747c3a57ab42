-- What is kept of queries from row to row.
use Rattle.std.proofs.Common.{◌≡◌, ℕ, ◌<◌, suc, zero, Bool, true, false, cond, ◌&&◌, Option, Some, None, is_none, List, [], ◌∷◌, ◌++◌, length, get_or, set, unwrap_or, Result, Ok, Err, OnOk, refl, sym, ap, ◌∙◌, subst, arith}
use Rattle.std.specs.Borrow.{Bor}
use Rattle.std.specs.List.{range_with_len}
use Rattle.std.specs.Option.{option_copied}
use Rattle.std.proofs.lemmas.List.FromFn.{get_or-map-range_with_len}
use Rattle.perm_values.specs.Rows.{picked, same_row, value_at}
use Rattle.perm_values.specs.declared.value.Value.TheVariants.{Null}
use Rattle.bag_algebra.specs.Bags.{Row, Bag}
use Rattle.bag_algebra.specs.built.Openings.{row_of_subs, Aggregate-is, Filter-is, Project_with-is, meaning-Filter}
use Rattle.bag_algebra.specs.FaultFree.{faultless}
use Rattle.bag_algebra.proofs.BagLaws.{same_row-is}
use Rattle.bag_algebra.specs.Meaning.{Database, meaning}
use Rattle.bag_algebra.specs.Means.{kept}
use Rattle.bag_algebra.specs.Outcome.{Good, and_then, gather}
use Rattle.bag_algebra.specs.built.Patterns.{BaseOf, FilterOf, ProjectOf, JoinOf, ApplyOf, UnionOf, IntersectOf, ExceptOf, DistinctOf, AggregateOf, LimitOf, ProvOf}
use Rattle.bag_algebra.specs.declared.expr.Expr.{Expr}
use Rattle.bag_algebra.specs.declared.expr.Item.{Item}
use Rattle.bag_algebra.specs.declared.query.Aggr.{Aggr}
use Rattle.bag_algebra.specs.declared.query.Query.{Query}
use Rattle.bag_algebra.specs.declared.query.Query.TheBlock.{shape-the_row-Sublink-1, hidden-the_row-Sublink-1}
use Rattle.bag_algebra.specs.declared.query.Query.TheVariants.{Table, Single, Filter, Project, Aggregate}
use Rattle.bag_algebra.specs.declared.query.Sublink.{Sublink}
use Rattle.row_joins.specs.Hashed.{on_pair, met_rows}
use Rattle.row_joins.proofs.Hashing.{all_kept, good_on}
use Rattle.query_facts.specs.reached.Reach.{reach_of}
use Rattle.query_facts.proofs.Alike.{Alike, denote-alike}
use Rattle.query_facts.specs.reached.reads.Columns.{AreNearest, columns_of}
use Rattle.query_facts.proofs.AlikeRows.{picked-alike}
use Rattle.row_nodes.specs.memory.Memory.{Remembered, Learns, found, found_under, remembered}
use Rattle.row_nodes.specs.Keeping.{can_key, input_columns, keeps_input, keyed_at, Keeps}
use Rattle.row_nodes.specs.Known.{IsWholeAnswer, IsInput, IsInputOf, HasInput, Answers, answer_at, asks_input, Knows, KnowsInput, KnowsOn, KnowsSub, AllKnown, IsNew, AllNew}
use Rattle.row_nodes.specs.Runs.{node_condition}
use Rattle.row_nodes.specs.declared.keeping.Keeping.{Keeping}
use Rattle.row_nodes.specs.declared.keeping.Keeping.TheVariants as of
use Rattle.row_nodes.specs.declared.known.KnownAnswer.{KnownAnswer}
use Rattle.row_nodes.specs.declared.known.KnownAnswer.TheVariants as by
use Rattle.row_nodes.specs.declared.known.Keyed.{Keyed}
use Rattle.row_nodes.specs.declared.known.Known.{Known}

-- whether a key may answer a filter, on a list of sublinks
abbrev pub keys : Expr → List Sublink → Bool
keys condition [] = faultless condition
keys condition (sub ∷ subs) = false

value_there : (n place : ℕ) (row : Row) → place < n → get_or (picked (range_with_len 0 n) row) place Null ≡ value_at row place
value_there n place row low = get_or-map-range_with_len (value_at row) 0 n place place Null low (omega arith)

-- rows whose first columns are the same
first_same : (n : ℕ) (row other : Row) (env : List Row) → picked (range_with_len 0 n) row ≡ picked (range_with_len 0 n) other → Alike 0 n (row ∷ env) (other ∷ env)
first_same n row other env e zero place h = sym (value_there n place row h) ∙ ap (λ vs. get_or vs place Null) e ∙ value_there n place other h
first_same n row other env e (suc own) place h = refl

-- a query whose reach is n
same_within : (q : Query) (n : ℕ) (db : Database) (row other : Row) (env : List Row) → n ≡ reach_of q → picked (range_with_len 0 n) row ≡ picked (range_with_len 0 n) other →
    meaning q db (row ∷ env) ≡ meaning q db (other ∷ env)
same_within q n db row other env is same =
    ap (λ m. m.rows) (denote-alike q 0 n db (row ∷ env) (other ∷ env) (let e = is in omega arith) (first_same n row other env same))

-- ---- a filter

can_key-row_of_subs : (condition : Expr) (subs : List Sublink) → can_key condition (row_of_subs subs) ≡ keys condition subs
unfolding shape-the_row-Sublink-1 hidden-the_row-Sublink-1 package.denote.Hole.Carrier.hidden
can_key-row_of_subs condition [] = refl
can_key-row_of_subs condition (sub ∷ subs) = refl

chosen : (b : Bool) (reach n : ℕ) → cond b (Some reach) None ≡ Some n → (b ≡ true) × (n ≡ reach)
chosen true reach n e = (refl, cc)
chosen false reach n e = absurd (cc e)

key_chosen : (condition : Expr) (subs : List Sublink) (reach n : ℕ) → cond (keys condition subs) (Some reach) None ≡ Some n →
    (faultless condition ≡ true) × (subs ≡ []) × (n ≡ reach)
key_chosen condition [] reach n e = let c = chosen (faultless condition) reach n e in (c.0, refl, c.1)
key_chosen condition (sub ∷ subs) reach n e = absurd (cc e)

module _ (query input : Query) (condition : Expr) (subs : List Sublink) (is : query ≡ Filter input condition subs) where
  pub filter_means : faultless condition ≡ true → subs ≡ [] → (db : Database) (env : List Row) (rows : Bag) → meaning input db env ≡ Good rows →
      meaning query db env ≡ Good (met_rows (on_pair condition env) rows)
  filter_means safe alone db env rows h =
      ap (λ q. meaning q db env) is
      ∙ meaning-Filter db env input condition subs
      ∙ ap (λ o. and_then o (gather (kept (node_condition condition db env subs)))) h
      ∙ ap (λ ss. gather (kept (node_condition condition db env ss)) rows) alone
      ∙ all_kept (on_pair condition env) (good_on condition env safe) rows

  pub filter_top : keyed_at query 0 ≡ cond (keys condition subs) (Some (reach_of input)) None
  filter_top = ap (λ q. keyed_at q 0) (is ∙ Filter-is input condition subs) ∙ ap (λ b. cond b (Some (reach_of input)) None) (can_key-row_of_subs condition subs)

  pub filter_below : (depth : ℕ) → keyed_at query (suc depth) ≡ keyed_at input depth
  filter_below depth = ap (λ q. keyed_at q (suc depth)) (is ∙ Filter-is input condition subs)

  pub filter_of : (n : ℕ) → keyed_at query 0 ≡ Some n → (faultless condition ≡ true) × (subs ≡ []) × (n ≡ reach_of input)
  filter_of n e = key_chosen condition subs (reach_of input) n (sym filter_top ∙ e)

  pub filter_input : (db : Database) (inner : List Row) (keyed : Keyed) → IsInput input condition db inner keyed → HasInput query 0 db inner keyed
  filter_input db inner keyed h = subst (λ q. HasInput q 0 db inner keyed) (sym (is ∙ Filter-is input condition subs)) h

  pub input_of : (db : Database) (inner : List Row) (keyed : Keyed) → HasInput query 0 db inner keyed → IsInput input condition db inner keyed
  input_of db inner keyed h = subst (λ q. HasInput q 0 db inner keyed) (is ∙ Filter-is input condition subs) h

  pub filter_deeper : (depth : ℕ) (db : Database) (inner : List Row) (keyed : Keyed) → HasInput input depth db inner keyed → HasInput query (suc depth) db inner keyed
  filter_deeper depth db inner keyed h = subst (λ q. HasInput q (suc depth) db inner keyed) (sym (is ∙ Filter-is input condition subs)) h

  pub deeper_filter : (depth : ℕ) (db : Database) (inner : List Row) (keyed : Keyed) → HasInput query (suc depth) db inner keyed → HasInput input depth db inner keyed
  deeper_filter depth db inner keyed h = subst (λ q. HasInput q (suc depth) db inner keyed) (is ∙ Filter-is input condition subs) h

-- ---- items over one

module _ (query input : Query) (items : List Item) (subs : List Sublink) (is : query ≡ Project input items subs) where
  pub project_top : keyed_at query 0 ≡ None
  project_top = ap (λ q. keyed_at q 0) (is ∙ Project_with-is input items subs)

  pub project_below : (depth : ℕ) → keyed_at query (suc depth) ≡ keyed_at input depth
  project_below depth = ap (λ q. keyed_at q (suc depth)) (is ∙ Project_with-is input items subs)

  pub project_deeper : (depth : ℕ) (db : Database) (inner : List Row) (keyed : Keyed) → HasInput input depth db inner keyed → HasInput query (suc depth) db inner keyed
  project_deeper depth db inner keyed h = subst (λ q. HasInput q (suc depth) db inner keyed) (sym (is ∙ Project_with-is input items subs)) h

  pub deeper_project : (depth : ℕ) (db : Database) (inner : List Row) (keyed : Keyed) → HasInput query (suc depth) db inner keyed → HasInput input depth db inner keyed
  deeper_project depth db inner keyed h = subst (λ q. HasInput q (suc depth) db inner keyed) (is ∙ Project_with-is input items subs) h

-- ---- groups over one

module _ (query input : Query) (groups : List ℕ) (aggregates : List Aggr) (is : query ≡ Aggregate input groups aggregates) where
  pub aggregate_top : keyed_at query 0 ≡ None
  aggregate_top = ap (λ q. keyed_at q 0) (is ∙ Aggregate-is input groups aggregates)

  pub aggregate_below : (depth : ℕ) → keyed_at query (suc depth) ≡ keyed_at input depth
  aggregate_below depth = ap (λ q. keyed_at q (suc depth)) (is ∙ Aggregate-is input groups aggregates)

  pub aggregate_deeper : (depth : ℕ) (db : Database) (inner : List Row) (keyed : Keyed) → HasInput input depth db inner keyed → HasInput query (suc depth) db inner keyed
  aggregate_deeper depth db inner keyed h = subst (λ q. HasInput q (suc depth) db inner keyed) (sym (is ∙ Aggregate-is input groups aggregates)) h

  pub deeper_aggregate : (depth : ℕ) (db : Database) (inner : List Row) (keyed : Keyed) → HasInput query (suc depth) db inner keyed → HasInput input depth db inner keyed
  deeper_aggregate depth db inner keyed h = subst (λ q. HasInput q (suc depth) db inner keyed) (is ∙ Aggregate-is input groups aggregates) h

-- ---- from one row to another that begins with the same columns

module _ (n : ℕ) (db : Database) (env : List Row) (u v : Row) (keyed : Keyed) (same : picked (range_with_len 0 n) u ≡ picked (range_with_len 0 n) v) where
  input_carried : (q : Query) (depth : ℕ) → keyed_at q depth ≡ Some n → HasInput q depth db (u ∷ env) keyed → HasInput q depth db (v ∷ env) keyed
  input_carried (Table id kinds) depth f h = tt
  input_carried Single depth f h = tt
  input_carried (BaseOf input places label) depth f h = tt
  input_carried (FilterOf input condition _ subs) zero f h = record {
    means = sym (same_within input n db u v env (chosen (can_key condition subs) (reach_of input) n f).1 same) ∙ h.means;
    keyed_are = h.keyed_are;
  }
  input_carried (FilterOf input condition _ subs) (suc depth) f h = input_carried input depth f h
  input_carried (ProjectOf input items _ subs) zero f h = tt
  input_carried (ProjectOf input items _ subs) (suc depth) f h = input_carried input depth f h
  input_carried (JoinOf kind left right condition _ subs) depth f h = tt
  input_carried (ApplyOf kind left right) depth f h = tt
  input_carried (UnionOf all left right) depth f h = tt
  input_carried (IntersectOf all left right) depth f h = tt
  input_carried (ExceptOf all left right) depth f h = tt
  input_carried (DistinctOf input) depth f h = tt
  input_carried (AggregateOf input groups aggregates) zero f h = tt
  input_carried (AggregateOf input groups aggregates) (suc depth) f h = input_carried input depth f h
  input_carried (LimitOf input keys count) depth f h = tt
  input_carried (ProvOf input) depth f h = tt

whole_answers : (db : Database) (inner : List Row) (q : Query) (in_cells : Bool) (answer : KnownAnswer) → IsWholeAnswer db inner q in_cells answer → Answers db inner q in_cells answer
whole_answers db inner q in_cells by.Nothing h = tt
whole_answers db inner q in_cells (by.Rows rows) h = h
whole_answers db inner q in_cells (by.Cells cells) h = h

-- rows of which a query reads the same values give it the same rows
whole_carried : (places : List ℕ) (db : Database) (env : List Row) (u v : Row) (q : Query) (in_cells : Bool) (answer : KnownAnswer) → AreNearest (columns_of q) places → picked places u ≡ picked places v →
    IsWholeAnswer db (u ∷ env) q in_cells answer → Answers db (v ∷ env) q in_cells answer
whole_carried places db env u v q in_cells answer kept same h =
    whole_answers db (v ∷ env) q in_cells answer (record { rows = h.rows; means = sym (picked-alike q places db u v env kept same) ∙ h.means; has = h.has })

-- rows that begin with the same columns give a filter's input the same rows
of_carried : (keeping : Keeping) (places : List ℕ) (db : Database) (env : List Row) (u v : Row) (q : Query) (keyed : Keyed) → Keeps q keeping → places ≡ range_with_len 0 (input_columns keeping) →
    picked places u ≡ picked places v → IsInputOf q keeping db (u ∷ env) keyed → IsInputOf q keeping db (v ∷ env) keyed
of_carried of.Nothing places db env u v q keyed keeps kept same h = absurd h
of_carried (of.Rows n) places db env u v q keyed keeps kept same h = absurd h
of_carried (of.Input n depth) places db env u v q keyed keeps kept same h =
    input_carried n db env u v keyed (subst (λ ns. picked ns u ≡ picked ns v) kept same) q depth keeps h

-- what was found is lent, or else another
pub lent_is : (found_here : Option (Bor KnownAnswer)) (other lent : Bor KnownAnswer) (kept : Option KnownAnswer) (nothing : KnownAnswer) → lent ≡ unwrap_or found_here other → option_copied found_here ≡ kept →
    other.now ≡ nothing → lent.now ≡ unwrap_or kept nothing
lent_is None other lent kept nothing is copied none = ap (λ (r : Bor KnownAnswer). r.now) is ∙ none ∙ ap (λ o. unwrap_or o nothing) copied
lent_is (Some x) other lent kept nothing is copied none = ap (λ (r : Bor KnownAnswer). r.now) is ∙ ap (λ o. unwrap_or o nothing) copied

-- the rows that a filter is over are asked for where none were found
pub no_asks : (known : Known) (keyed : Keyed) → found known.inputs ≡ Some keyed → false ≡ asks_input known
no_asks known keyed e = sym (ap (λ o. is_none o && keeps_input known.keeping) e)

pub asks_where : (known : Known) (b : Bool) → found known.inputs ≡ None → b ≡ keeps_input known.keeping → b ≡ asks_input known
asks_where known b e is = is ∙ sym (ap (λ o. is_none o && keeps_input known.keeping) e)

-- nothing is known yet
pub known_new : (db : Database) (env : List Row) (q : Query) (in_cells : Bool) (known : Known) (read : List ℕ) → Keeps q known.keeping → AreNearest (columns_of q) read →
    known.memory ≡ remembered read [] [] → known.inputs ≡ remembered (range_with_len 0 (input_columns known.keeping)) [] [] → known.nothing ≡ by.Nothing → Knows db env q in_cells known
known_new db env q in_cells known read keeps nearest memory_is inputs_are nothing_is = record {
  nothing_is = nothing_is;
  keeps = keeps;
  kept_by = subst (λ (m : Remembered KnownAnswer). AreNearest (columns_of q) m.places) (sym memory_is) nearest;
  input_by = ap (λ (m : Remembered Keyed). m.places) inputs_are;
  answers = λ key answer is u own.
      let e : None ≡ Some answer = ap (λ (m : Remembered KnownAnswer). found_under m key) (sym memory_is) ∙ is in
      absurd (cc e);
  inputs = λ key keyed is u own.
      let e : None ≡ Some keyed = ap (λ (m : Remembered Keyed). found_under m key) (sym inputs_are) ∙ is in
      absurd (cc e);
}

-- nothing answers, or what was found
answer_is : (known : Known) (answer : KnownAnswer) → found known.memory ≡ Some answer → answer_at known ≡ answer
answer_is known answer e = ap (λ o. unwrap_or o known.nothing) e

-- what is found on the row at hand is known of all rows with the same values
module _ (db : Database) (env : List Row) (u : Row) (q : Query) (in_cells : Bool) (old new : Known) (answer : KnownAnswer)
    (knows : Knows db env q in_cells old) (here : picked old.memory.places u ≡ old.memory.key) (whole : IsWholeAnswer db (u ∷ env) q in_cells answer)
    (keeping : new.keeping ≡ old.keeping) (inputs : new.inputs ≡ old.inputs) (nothing : new.nothing ≡ old.nothing) (learns : Learns old.memory new.memory answer) where
  same_answer : (v : Row) → picked old.memory.places v ≡ old.memory.key → Answers db (v ∷ env) q in_cells answer
  same_answer v own = whole_carried old.memory.places db env u v q in_cells answer knows.kept_by (here ∙ sym own) whole

  entry_answers : (key : Row) (other : KnownAnswer) (b : Bool) → same_row old.memory.key key ≡ b → found_under new.memory key ≡ Some other → (v : Row) → picked new.memory.places v ≡ key →
      Answers db (v ∷ env) q in_cells other
  entry_answers key other true e is v own =
      let at_hand : old.memory.key ≡ key = same_row-is old.memory.key key e in
      let one : Some answer ≡ Some other = sym learns.item_is ∙ ap (λ k. found_under new.memory k) (learns.key_stays ∙ at_hand) ∙ is in
      let as_kept : answer ≡ other = ap (λ o. unwrap_or o by.Nothing) one in
      subst (Answers db (v ∷ env) q in_cells) as_kept (same_answer v (ap (λ places. picked places v) (sym learns.places_stay) ∙ own ∙ sym at_hand))
  entry_answers key other false e is v own =
      knows.answers key other (learns.others key other e is) v (ap (λ places. picked places v) (sym learns.places_stay) ∙ own)

  kept_on : KnowsOn db env u q in_cells new
  kept_on = record {
    knows = record {
      nothing_is = nothing ∙ knows.nothing_is;
      keeps = subst (Keeps q) (sym keeping) knows.keeps;
      kept_by = subst (AreNearest (columns_of q)) (sym learns.places_stay) knows.kept_by;
      input_by = ap (λ memory. memory.places) inputs ∙ knows.input_by ∙ ap (λ k. range_with_len 0 (input_columns k)) (sym keeping);
      answers = λ key other is v own. entry_answers key other (same_row old.memory.key key) refl is v own;
      inputs = λ key keyed is v own.
          subst (λ k. IsInputOf q k db (v ∷ env) keyed) (sym keeping)
          (knows.inputs key keyed (ap (λ memory. found_under memory key) (sym inputs) ∙ is) v (ap (λ memory. picked memory.places v) (sym inputs) ∙ own));
    };
    answers = subst (Answers db (u ∷ env) q in_cells) (sym (answer_is new answer learns.item_is)) (same_answer u here);
  }

-- where there was memory
pub kept_if : {X E : Type 0} (r : Result X E) (db : Database) (env : List Row) (u : Row) (q : Query) (in_cells : Bool) (old new : Known) (answer : KnownAnswer) → Knows db env q in_cells old →
    picked old.memory.places u ≡ old.memory.key → IsWholeAnswer db (u ∷ env) q in_cells answer → new.keeping ≡ old.keeping → new.inputs ≡ old.inputs → new.nothing ≡ old.nothing →
    OnOk r (Learns old.memory new.memory answer) → OnOk r (KnowsOn db env u q in_cells new)
kept_if (Ok x) db env u q in_cells old new answer knows here whole keeping inputs nothing learns =
    kept_on db env u q in_cells old new answer knows here whole keeping inputs nothing learns
kept_if (Err e) db env u q in_cells old new answer knows here whole keeping inputs nothing learns = tt

pub answer_kept : {X E : Type 0} (r : Result X E) (old new : Remembered KnownAnswer) (nothing answer : KnownAnswer) → OnOk r (Learns old new answer) → OnOk r (unwrap_or (found new) nothing ≡ answer)
answer_kept (Ok x) old new nothing answer learns = ap (λ o. unwrap_or o nothing) learns.item_is
answer_kept (Err e) old new nothing answer learns = tt

-- the rows that a filter is over, found on the row at hand, are known of all rows that begin with the same columns
module _ (db : Database) (env : List Row) (u : Row) (q : Query) (in_cells : Bool) (old new : Known) (keyed : Keyed)
    (known : KnowsInput db env u q in_cells old) (of_input : IsInputOf q old.keeping db (u ∷ env) keyed)
    (keeping : new.keeping ≡ old.keeping) (memory : new.memory ≡ old.memory) (nothing : new.nothing ≡ old.nothing) (learns : Learns old.inputs new.inputs keyed) where
  same_input : (v : Row) → picked old.inputs.places v ≡ old.inputs.key → IsInputOf q old.keeping db (v ∷ env) keyed
  same_input v own = of_carried old.keeping old.inputs.places db env u v q keyed known.knows.keeps known.knows.input_by (known.input_here ∙ sym own) of_input

  entry_inputs : (key : Row) (other : Keyed) (b : Bool) → same_row old.inputs.key key ≡ b → found_under new.inputs key ≡ Some other → (v : Row) → picked new.inputs.places v ≡ key →
      IsInputOf q old.keeping db (v ∷ env) other
  entry_inputs key other true e is v own =
      let at_hand : old.inputs.key ≡ key = same_row-is old.inputs.key key e in
      let one : Some keyed ≡ Some other = sym learns.item_is ∙ ap (λ k. found_under new.inputs k) (learns.key_stays ∙ at_hand) ∙ is in
      let as_kept : keyed ≡ other = ap (λ o. unwrap_or o keyed) one in
      subst (IsInputOf q old.keeping db (v ∷ env)) as_kept (same_input v (ap (λ places. picked places v) (sym learns.places_stay) ∙ own ∙ sym at_hand))
  entry_inputs key other false e is v own =
      known.knows.inputs key other (learns.others key other e is) v (ap (λ places. picked places v) (sym learns.places_stay) ∙ own)

  kept_input : KnowsInput db env u q in_cells new
  kept_input = record {
    knows = record {
      nothing_is = nothing ∙ known.knows.nothing_is;
      keeps = subst (Keeps q) (sym keeping) known.knows.keeps;
      kept_by = subst (λ (m : Remembered KnownAnswer). AreNearest (columns_of q) m.places) (sym memory) known.knows.kept_by;
      input_by = learns.places_stay ∙ known.knows.input_by ∙ ap (λ k. range_with_len 0 (input_columns k)) (sym keeping);
      answers = λ key answer is v own.
          known.knows.answers key answer (ap (λ m. found_under m key) (sym memory) ∙ is) v (ap (λ m. picked m.places v) (sym memory) ∙ own);
      inputs = λ key other is v own. subst (λ k. IsInputOf q k db (v ∷ env) other) (sym keeping) (entry_inputs key other (same_row old.inputs.key key) refl is v own);
    };
    input_here = ap (λ places. picked places u) learns.places_stay ∙ known.input_here ∙ sym learns.key_stays;
  }

pub input_kept : {X E : Type 0} (r : Result X E) (db : Database) (env : List Row) (u : Row) (q : Query) (in_cells : Bool) (old new : Known) (keyed : Keyed) → KnowsInput db env u q in_cells old →
    IsInputOf q old.keeping db (u ∷ env) keyed → new.keeping ≡ old.keeping → new.memory ≡ old.memory → new.nothing ≡ old.nothing →
    OnOk r (Learns old.inputs new.inputs keyed) → OnOk r (KnowsInput db env u q in_cells new)
input_kept (Ok x) db env u q in_cells old new keyed known of_input keeping memory nothing learns =
    kept_input db env u q in_cells old new keyed known of_input keeping memory nothing learns
input_kept (Err e) db env u q in_cells old new keyed known of_input keeping memory nothing learns = tt

pub input_found : {X E : Type 0} (r : Result X E) (old new : Remembered Keyed) (keyed : Keyed) → OnOk r (Learns old new keyed) → OnOk r (found new ≡ Some keyed)
input_found (Ok x) old new keyed learns = learns.item_is
input_found (Err e) old new keyed learns = tt

-- what was found answers on the row at hand
at_hand_answers : (db : Database) (env : List Row) (u : Row) (q : Query) (in_cells : Bool) (nothing : KnownAnswer) (found_here : Option KnownAnswer) → nothing ≡ by.Nothing →
    ((answer : KnownAnswer) → found_here ≡ Some answer → Answers db (u ∷ env) q in_cells answer) → Answers db (u ∷ env) q in_cells (unwrap_or found_here nothing)
at_hand_answers db env u q in_cells nothing None e h = subst (Answers db (u ∷ env) q in_cells) (sym e) tt
at_hand_answers db env u q in_cells nothing (Some answer) e h = h answer refl

pub known_on : (db : Database) (env : List Row) (u : Row) (q : Query) (in_cells : Bool) (known : Known) → Knows db env q in_cells known → picked known.memory.places u ≡ known.memory.key →
    KnowsOn db env u q in_cells known
known_on db env u q in_cells known knows here = record {
  knows = knows;
  answers = at_hand_answers db env u q in_cells known.nothing (found known.memory) knows.nothing_is (λ answer e. knows.answers known.memory.key answer e u here);
}

-- behind a step to another row
pub knows_stepped : (db : Database) (env : List Row) (q : Query) (in_cells : Bool) (known : Known) (u : Row) (memory : Remembered KnownAnswer) →
    memory ≡ remembered known.memory.places (picked known.memory.places u) known.memory.entries → Knows db env q in_cells known →
    Knows db env q in_cells (record { keeping = known.keeping; memory = memory; inputs = known.inputs; nothing = known.nothing })
knows_stepped db env q in_cells known u memory e knows =
    subst (λ m. Knows db env q in_cells (record { keeping = known.keeping; memory = m; inputs = known.inputs; nothing = known.nothing })) (sym e)
    (record { nothing_is = knows.nothing_is; keeps = knows.keeps; kept_by = knows.kept_by; input_by = knows.input_by; answers = knows.answers; inputs = knows.inputs })

pub input_stepped : (db : Database) (env : List Row) (q : Query) (in_cells : Bool) (known : Known) (u : Row) (inputs : Remembered Keyed) →
    inputs ≡ remembered known.inputs.places (picked known.inputs.places u) known.inputs.entries → Knows db env q in_cells known →
    KnowsInput db env u q in_cells (record { keeping = known.keeping; memory = known.memory; inputs = inputs; nothing = known.nothing })
input_stepped db env q in_cells known u inputs e knows =
    subst (λ m. KnowsInput db env u q in_cells (record { keeping = known.keeping; memory = known.memory; inputs = m; nothing = known.nothing })) (sym e)
    (record {
      knows = record { nothing_is = knows.nothing_is; keeps = knows.keeps; kept_by = knows.kept_by; input_by = knows.input_by; answers = knows.answers; inputs = knows.inputs };
      input_here = refl;
    })

-- ---- one for each sublink

module _ (db : Database) (env : List Row) where
  pub known_long : (subs : List Sublink) (known : List Known) → AllKnown db env subs known → length known ≡ length subs
  known_long [] [] h = refl
  known_long [] (x ∷ known) h = absurd h
  known_long (s ∷ subs) [] h = absurd h
  known_long (s ∷ subs) (x ∷ known) h = ap suc (known_long subs known h.1)

  pub known_more : (subs : List Sublink) (known : List Known) (sub : Sublink) (k : Known) → AllKnown db env subs known → KnowsSub db env sub k →
      AllKnown db env (subs ++ sub ∷ []) (known ++ k ∷ [])
  known_more [] [] sub k h here = (here, tt)
  known_more [] (x ∷ known) sub k h here = absurd h
  known_more (s ∷ subs) [] sub k h here = absurd h
  known_more (s ∷ subs) (x ∷ known) sub k h here = (h.0, known_more subs known sub k h.1 here)

  pub known_at : (subs : List Sublink) (known : List Known) (i : ℕ) (sub : Sublink) (k : Known) → AllKnown db env subs known → i < length subs →
      sub ≡ get_or subs i sub → k ≡ get_or known i k → KnowsSub db env sub k
  known_at [] known i sub k h low e f = absurd (omega arith)
  known_at (s ∷ subs) [] i sub k h low e f = absurd h
  known_at (s ∷ subs) (x ∷ known) zero sub k h low e f = subst (λ t. KnowsSub db env t k) (sym e) (subst (λ t. KnowsSub db env s t) (sym f) h.0)
  known_at (s ∷ subs) (x ∷ known) (suc i) sub k h low e f = known_at subs known i sub k h.1 (omega arith) e f

  pub known_set : (subs : List Sublink) (known : List Known) (i : ℕ) (sub : Sublink) (k : Known) → AllKnown db env subs known → i < length subs →
      sub ≡ get_or subs i sub → KnowsSub db env sub k → AllKnown db env subs (set known i k)
  known_set [] known i sub k h low e here = absurd (omega arith)
  known_set (s ∷ subs) [] i sub k h low e here = absurd h
  known_set (s ∷ subs) (x ∷ known) zero sub k h low e here = (subst (λ t. KnowsSub db env t k) e here, h.1)
  known_set (s ∷ subs) (x ∷ known) (suc i) sub k h low e here = (h.0, known_set subs known i sub k h.1 (omega arith) e here)

pub new_more : (is_hashed : Bool) (subs : List Sublink) (known : List Known) (sub : Sublink) (k : Known) → AllNew is_hashed subs known → IsNew is_hashed sub.query k →
    AllNew is_hashed (subs ++ sub ∷ []) (known ++ k ∷ [])
new_more is_hashed [] [] sub k h here = (here, tt)
new_more is_hashed [] (x ∷ known) sub k h here = absurd h
new_more is_hashed (s ∷ subs) [] sub k h here = absurd h
new_more is_hashed (s ∷ subs) (x ∷ known) sub k h here = (h.0, new_more is_hashed subs known sub k h.1 here)
