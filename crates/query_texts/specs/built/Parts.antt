-- What code writes of a query of a shape, and nothing of others.
use Rattle.std.specs.Prelude.{ℕ, List, [], ◌++◌, length}
use Rattle.bag_algebra.specs.Kinds.{kinds_of, width_of}
use Rattle.bag_algebra.specs.built.Patterns.{BaseOf, FilterOf, ProjectOf, JoinOf, ApplyOf, UnionOf, IntersectOf, ExceptOf, DistinctOf, AggregateOf, LimitOf, ProvOf}
use Rattle.bag_algebra.specs.declared.query.Query.{Query}
use Rattle.bag_algebra.specs.declared.query.Query.TheVariants.{Table, Single}
use Rattle.query_texts.specs.clauses.ClauseTexts.{columns_text, condition_text, over_text}
use Rattle.query_texts.specs.clauses.Names.{Naming, own}
use Rattle.query_texts.specs.declared.clauses.tables.TableNames.{TableNames}
use Rattle.query_texts.specs.QueryTexts.{join_block, sub_texts, written}

module _ (tables : List TableNames) (prefix : List ℕ) where
  abbrev pub over_bytes : Query → List ℕ
  over_bytes q = over_text ((written tables prefix q).whole (own prefix))

  -- FROM and WHERE of its own SELECT, which has all columns of these
  abbrev pub block_part : Query → List ℕ
  block_part (Table id kinds) = []
  block_part Single = []
  block_part (BaseOf input places label) = []
  block_part (FilterOf input condition shape subs) = (written tables prefix (FilterOf input condition shape subs)).block
  block_part (ProjectOf input items _ subs) = []
  block_part (JoinOf kind left right condition _ subs) =
      join_block prefix kind (width_of left) (written tables prefix left) (written tables prefix right)
      (condition_text prefix (sub_texts tables prefix subs) condition)
  block_part (ApplyOf kind left right) = (written tables prefix (ApplyOf kind left right)).block
  block_part (UnionOf all left right) = []
  block_part (IntersectOf all left right) = []
  block_part (ExceptOf all left right) = []
  block_part (DistinctOf input) = []
  block_part (AggregateOf input groups aggregates) = []
  block_part (LimitOf input keys count) = []
  block_part (ProvOf input) = []

  -- behind the word of its own SELECT
  abbrev pub select_part : Naming → Query → List ℕ
  select_part out (Table id kinds) = (written tables prefix (Table id kinds)).listed out
  select_part out Single = (written tables prefix Single).listed out
  select_part out (BaseOf input places label) = []
  select_part out (FilterOf input condition shape subs) = (written tables prefix (FilterOf input condition shape subs)).listed out
  select_part out (ProjectOf input items shape subs) = (written tables prefix (ProjectOf input items shape subs)).listed out
  select_part out (JoinOf kind left right condition shape subs) =
      columns_text prefix out (length (kinds_of left ++ kinds_of right)) ++ block_part (JoinOf kind left right condition shape subs)
  select_part out (ApplyOf kind left right) = (written tables prefix (ApplyOf kind left right)).listed out
  select_part out (UnionOf all left right) = []
  select_part out (IntersectOf all left right) = []
  select_part out (ExceptOf all left right) = []
  select_part out (DistinctOf input) = []
  select_part out (AggregateOf input groups aggregates) = []
  select_part out (LimitOf input keys count) = []
  select_part out (ProvOf input) = []
