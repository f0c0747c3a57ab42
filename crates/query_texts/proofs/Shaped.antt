-- What is written of queries that aren't of a shape.
use Rattle.std.proofs.Common.{◌≡◌, ℕ, Bool, true, false, ◌&&◌, cond, List, ◌++◌, length, refl, sym, ap, true≢false}
use Rattle.bag_algebra.specs.Kinds.{kinds_of, width_of}
use Rattle.bag_algebra.specs.built.Patterns.{BaseOf, FilterOf, ProjectOf, JoinOf, ApplyOf, UnionOf, IntersectOf, ExceptOf, DistinctOf, AggregateOf, LimitOf, ProvOf}
use Rattle.bag_algebra.specs.declared.query.JoinKind.{JoinKind}
use Rattle.bag_algebra.specs.declared.query.Query.{Query}
use Rattle.bag_algebra.specs.declared.query.Query.TheVariants.{Table, Single}
use Rattle.query_texts.specs.clauses.Chains.{is_chained}
use Rattle.query_texts.specs.clauses.ClauseTexts.{columns_text, over_text}
use Rattle.query_texts.specs.clauses.Names.{Naming, own}
use Rattle.query_texts.specs.declared.clauses.tables.TableNames.{TableNames}
use Rattle.tree_texts.specs.expressions.Words.{is_any}
use Rattle.query_texts.specs.QueryTexts.{Written, a_block, apart_unless, written}
use Rattle.query_texts.specs.built.Parts.{block_part, over_bytes, select_part}
use Rattle.query_texts.specs.built.Shapes.{is_block, is_chain, is_select}

module _ (tables : List TableNames) (prefix : List ℕ) where
  -- ---- what stands by itself alone, or not

  module _ (count : ℕ) (any : Bool) (text : List ℕ) where
    abbrev pub block : Written
    block = a_block prefix count any text

    abbrev pub given : Bool → Written
    given chained = apart_unless prefix count chained block

    pub apart_whole : (chained : Bool) (out : Naming) → (given chained).whole out ≡ block.whole out
    apart_whole true out = refl
    apart_whole false out = refl

    apart_listed : (chained : Bool) (out : Naming) → chained ≡ true → block.listed out ≡ (given chained).listed out
    apart_listed true out is = refl
    apart_listed false out is = absurd (true≢false (sym is))

    apart_listed_over : (chained : Bool) (out : Naming) → chained ≡ false
        → columns_text prefix out count ++ over_text ((given chained).whole (own prefix)) ≡ (given chained).listed out
    apart_listed_over true out not = absurd (true≢false not)
    apart_listed_over false out not = refl

    apart_block : (chained : Bool) → chained ≡ true → text ≡ (given chained).block
    apart_block true is = refl
    apart_block false is = absurd (true≢false (sym is))

    apart_block_over : (chained : Bool) → chained ≡ false → over_text ((given chained).whole (own prefix)) ≡ (given chained).block
    apart_block_over true not = absurd (true≢false not)
    apart_block_over false not = refl

  apart_from : (count : ℕ) (chained any : Bool) (text : List ℕ) → (chained && any) ≡ true → text ≡ (given count any text chained).from
  apart_from count true true text is = refl
  apart_from count true false text is = absurd (true≢false (sym is))
  apart_from count false any text is = absurd (true≢false (sym is))

  apart_from_over : (count : ℕ) (chained any : Bool) (text : List ℕ) → (chained && any) ≡ false
      → over_text ((given count any text chained).whole (own prefix)) ≡ (given count any text chained).from
  apart_from_over count true true text not = absurd (true≢false not)
  apart_from_over count true false text not = refl
  apart_from_over count false any text not = refl

  -- FROM on the left of a join
  left_from : (count : ℕ) (chained : Bool) (w : Written) → chained ≡ true → w.from ≡ (apart_unless prefix count chained w).from
  left_from count true w is = refl
  left_from count false w is = absurd (true≢false (sym is))

  left_over : (count : ℕ) (chained : Bool) (w : Written) → chained ≡ false → over_text (w.whole (own prefix)) ≡ (apart_unless prefix count chained w).from
  left_over count true w not = absurd (true≢false not)
  left_over count false w not = refl

  pub left_is : (kind : JoinKind) (q : Query) → is_chained kind ≡ true
      → (written tables prefix q).from ≡ (apart_unless prefix (width_of q) (is_chained kind) (written tables prefix q)).from
  left_is kind q is = left_from (width_of q) (is_chained kind) (written tables prefix q) is

  pub left_apart : (kind : JoinKind) (q : Query) → is_chained kind ≡ false
      → over_bytes tables prefix q ≡ (apart_unless prefix (width_of q) (is_chained kind) (written tables prefix q)).from
  left_apart kind q not = left_over (width_of q) (is_chained kind) (written tables prefix q) not

  -- ---- behind SELECT

  pub listed_part : (out : Naming) (q : Query) → is_select q ≡ true → select_part tables prefix out q ≡ (written tables prefix q).listed out
  listed_part out (Table id kinds) is = refl
  listed_part out Single is = refl
  listed_part out (BaseOf input places label) is = absurd (true≢false (sym is))
  listed_part out (FilterOf input condition _ subs) is = refl
  listed_part out (ProjectOf input items _ subs) is = refl
  listed_part out (JoinOf kind left right condition shape subs) is = apart_listed (length (kinds_of left ++ kinds_of right)) (is_any (width_of right)) (block_part tables prefix (JoinOf kind left right condition shape subs)) (is_chained kind) out is
  listed_part out (ApplyOf kind left right) is = refl
  listed_part out (UnionOf all left right) is = absurd (true≢false (sym is))
  listed_part out (IntersectOf all left right) is = absurd (true≢false (sym is))
  listed_part out (ExceptOf all left right) is = absurd (true≢false (sym is))
  listed_part out (DistinctOf input) is = absurd (true≢false (sym is))
  listed_part out (AggregateOf input groups aggregates) is = absurd (true≢false (sym is))
  listed_part out (LimitOf input keys count) is = absurd (true≢false (sym is))
  listed_part out (ProvOf input) is = absurd (true≢false (sym is))

  pub listed_over : (out : Naming) (q : Query) → is_select q ≡ false
      → columns_text prefix out (width_of q) ++ over_bytes tables prefix q ≡ (written tables prefix q).listed out
  listed_over out (Table id kinds) not = absurd (true≢false not)
  listed_over out Single not = absurd (true≢false not)
  listed_over out (BaseOf input places label) not = refl
  listed_over out (FilterOf input condition _ subs) not = absurd (true≢false not)
  listed_over out (ProjectOf input items _ subs) not = absurd (true≢false not)
  listed_over out (JoinOf kind left right condition shape subs) not = apart_listed_over (length (kinds_of left ++ kinds_of right)) (is_any (width_of right)) (block_part tables prefix (JoinOf kind left right condition shape subs)) (is_chained kind) out not
  listed_over out (ApplyOf kind left right) not = absurd (true≢false not)
  listed_over out (UnionOf all left right) not = refl
  listed_over out (IntersectOf all left right) not = refl
  listed_over out (ExceptOf all left right) not = refl
  listed_over out (DistinctOf input) not = refl
  listed_over out (AggregateOf input groups aggregates) not = refl
  listed_over out (LimitOf input keys count) not = refl
  listed_over out (ProvOf input) not = refl

  -- ---- FROM and WHERE

  pub block_is : (q : Query) → is_block q ≡ true → block_part tables prefix q ≡ (written tables prefix q).block
  block_is (Table id kinds) is = absurd (true≢false (sym is))
  block_is Single is = absurd (true≢false (sym is))
  block_is (BaseOf input places label) is = absurd (true≢false (sym is))
  block_is (FilterOf input condition _ subs) is = refl
  block_is (ProjectOf input items _ subs) is = absurd (true≢false (sym is))
  block_is (JoinOf kind left right condition shape subs) is = apart_block (length (kinds_of left ++ kinds_of right)) (is_any (width_of right)) (block_part tables prefix (JoinOf kind left right condition shape subs)) (is_chained kind) is
  block_is (ApplyOf kind left right) is = refl
  block_is (UnionOf all left right) is = absurd (true≢false (sym is))
  block_is (IntersectOf all left right) is = absurd (true≢false (sym is))
  block_is (ExceptOf all left right) is = absurd (true≢false (sym is))
  block_is (DistinctOf input) is = absurd (true≢false (sym is))
  block_is (AggregateOf input groups aggregates) is = absurd (true≢false (sym is))
  block_is (LimitOf input keys count) is = absurd (true≢false (sym is))
  block_is (ProvOf input) is = absurd (true≢false (sym is))

  pub block_over : (q : Query) → is_block q ≡ false → over_bytes tables prefix q ≡ (written tables prefix q).block
  block_over (Table id kinds) not = refl
  block_over Single not = refl
  block_over (BaseOf input places label) not = refl
  block_over (FilterOf input condition _ subs) not = absurd (true≢false not)
  block_over (ProjectOf input items _ subs) not = refl
  block_over (JoinOf kind left right condition shape subs) not = apart_block_over (length (kinds_of left ++ kinds_of right)) (is_any (width_of right)) (block_part tables prefix (JoinOf kind left right condition shape subs)) (is_chained kind) not
  block_over (ApplyOf kind left right) not = absurd (true≢false not)
  block_over (UnionOf all left right) not = refl
  block_over (IntersectOf all left right) not = refl
  block_over (ExceptOf all left right) not = refl
  block_over (DistinctOf input) not = refl
  block_over (AggregateOf input groups aggregates) not = refl
  block_over (LimitOf input keys count) not = refl
  block_over (ProvOf input) not = refl

  -- ---- FROM that joins may follow

  pub chain_is : (q : Query) → is_chain q ≡ true → block_part tables prefix q ≡ (written tables prefix q).from
  chain_is (Table id kinds) is = absurd (true≢false (sym is))
  chain_is Single is = absurd (true≢false (sym is))
  chain_is (BaseOf input places label) is = absurd (true≢false (sym is))
  chain_is (FilterOf input condition _ subs) is = absurd (true≢false (sym is))
  chain_is (ProjectOf input items _ subs) is = absurd (true≢false (sym is))
  chain_is (JoinOf kind left right condition shape subs) is = apart_from (length (kinds_of left ++ kinds_of right)) (is_chained kind) (is_any (width_of right)) (block_part tables prefix (JoinOf kind left right condition shape subs)) is
  chain_is (ApplyOf kind left right) is = sym (ap (λ b. cond b (block_part tables prefix (ApplyOf kind left right)) (over_bytes tables prefix (ApplyOf kind left right))) is)
  chain_is (UnionOf all left right) is = absurd (true≢false (sym is))
  chain_is (IntersectOf all left right) is = absurd (true≢false (sym is))
  chain_is (ExceptOf all left right) is = absurd (true≢false (sym is))
  chain_is (DistinctOf input) is = absurd (true≢false (sym is))
  chain_is (AggregateOf input groups aggregates) is = absurd (true≢false (sym is))
  chain_is (LimitOf input keys count) is = absurd (true≢false (sym is))
  chain_is (ProvOf input) is = absurd (true≢false (sym is))

  pub from_over : (q : Query) → is_chain q ≡ false → over_bytes tables prefix q ≡ (written tables prefix q).from
  from_over (Table id kinds) not = refl
  from_over Single not = refl
  from_over (BaseOf input places label) not = refl
  from_over (FilterOf input condition _ subs) not = refl
  from_over (ProjectOf input items _ subs) not = refl
  from_over (JoinOf kind left right condition shape subs) not = apart_from_over (length (kinds_of left ++ kinds_of right)) (is_chained kind) (is_any (width_of right)) (block_part tables prefix (JoinOf kind left right condition shape subs)) not
  from_over (ApplyOf kind left right) not = sym (ap (λ b. cond b (block_part tables prefix (ApplyOf kind left right)) (over_bytes tables prefix (ApplyOf kind left right))) not)
  from_over (UnionOf all left right) not = refl
  from_over (IntersectOf all left right) not = refl
  from_over (ExceptOf all left right) not = refl
  from_over (DistinctOf input) not = refl
  from_over (AggregateOf input groups aggregates) not = refl
  from_over (LimitOf input keys count) not = refl
  from_over (ProvOf input) not = refl
