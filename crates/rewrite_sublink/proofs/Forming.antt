-- Rows beside the candidates of a sublink: of which kinds they are, that they are well formed where the node is, plain, and
-- read the tables of what they are made of.
use Rattle.std.proofs.Common.{◌≡◌, ℕ, ◌<◌, ◌≤◌, true, ◌&&◌, List, [], ◌∷◌, ◌++◌, length, Option, Some, None, append_assoc, length-append, refl, sym, ap, ◌∙◌, subst, arith}
use Rattle.std.proofs.lemmas.Bool.{and_from}
use Rattle.null_logic.specs.declared.truth.Truth.{Truth}
use Rattle.perm_values.specs.declared.kind.Kind.{Kind}
use Rattle.perm_values.specs.declared.kind.Kind.TheVariants as kind
use Rattle.perm_values.proofs.Steps.{by}
use Rattle.bag_algebra.specs.Bags.{Row}
use Rattle.bag_algebra.specs.built.Openings.{Case-is, IsTruth-is, kinds_of-Filter, meaning-Filter}
use Rattle.bag_algebra.specs.built.Forms.{AllSubsForm, EachTableOfSubs, subs_kinds, WellFormed-Filter, EachTable-Filter, arms_have-built, number_of_arms-built}
use Rattle.bag_algebra.specs.Children.{subs_denote}
use Rattle.bag_algebra.specs.Kinds.{kinds_of, kind_in, place_kinds, shape, width_of}
use Rattle.bag_algebra.specs.Meaning.{Database, meaning, condition_on}
use Rattle.bag_algebra.specs.Means.{kept, joined_rows, no_subs}
use Rattle.bag_algebra.specs.Outcome.{Faults, Bad, and_then, both_then, gather}
use Rattle.bag_algebra.specs.Rewriting.{is_plain}
use Rattle.bag_algebra.specs.TablesRead.{EachTable}
use Rattle.bag_algebra.specs.WellFormed.{WellFormed, HasKind, sub_form}
use Rattle.bag_algebra.specs.declared.expr.Expr.{Expr}
use Rattle.bag_algebra.specs.declared.expr.Expr.TheVariants.{Sub}
use Rattle.bag_algebra.specs.declared.query.JoinKind.TheVariants.{Inner, Left}
use Rattle.bag_algebra.specs.declared.query.Query.{Query}
use Rattle.bag_algebra.specs.declared.query.Query.TheVariants.{Single}
use Rattle.bag_algebra.specs.declared.query.SubKind.{SubKind}
use Rattle.bag_algebra.specs.declared.query.SubKind.TheVariants.{Exists, Any, All, Scalar}
use Rattle.bag_algebra.specs.declared.query.Sublink.{Sublink}
use Rattle.contribution.proofs.CrossBases.{meaning-cross_base, kinds_of-cross_base, plain-cross_base, formed-cross_base}
use Rattle.contribution.proofs.LongerKinds.{NamesAlso, well_formed-longer}
use Rattle.contribution.specs.Conjunctions.{always}
use Rattle.rewrite_core.specs.rewritings.KeptColumns.{pairs_of}
use Rattle.bag_algebra.specs.built.Scopes.{all_plain, is_plain-Filter}
use Rattle.contribution.proofs.ColumnQueries.{all-first, all-nothing, formed-columns}
use Rattle.contribution.proofs.NodeQueries.{meaning-pairs, formed-pairs, plain-pairs, plain-chosen, plain-projected}
use Rattle.bag_algebra.specs.ColumnItems.{column_items}
use Rattle.query_laws.proofs.SameExpressions.{tested-formed}
use Rattle.rewrite_sublink.proofs.LongerRows.{names-begin, subs-named}
use Rattle.rewrite_sublink.proofs.MatchingRows.{formed-matching}
use Rattle.rewrite_sublink.proofs.Ready.{Ready, stand_of, base_of}
use Rattle.rewrite_sublink.specs.Candidates.{matching, or_nulls, same_as_outer, first_column, deciding, deciding_arm, test_condition, test_subs, contributed}

module _ {sub : Sublink} {tested : Option Expr} {s r : Query} (is : Ready sub tested s r) (rows : Query) where
  abbrev pairs : Query
  pairs = pairs_of Inner rows (base_of is) always

  abbrev found : Query
  found = matching (width_of (base_of is)) (width_of rows) (width_of s) r

  abbrev test_of : Expr
  test_of = test_condition (deciding sub.kind)

  abbrev whole : Query
  whole = contributed rows (base_of is) (stand_of is) r

  pub kinds-contributed : kinds_of whole ≡ kinds_of rows ++ place_kinds (shape sub.query)
  kinds-contributed =
      kinds_of-Filter pairs test_of (test_subs (deciding sub.kind) (stand_of is) found) ∙ ap (λ ks. kinds_of rows ++ ks) (kinds_of-cross_base sub.query is.over)

  pub bad-contributed : (db : Database) (env : List Row) (faults : Faults) → meaning rows db env ≡ Bad faults → meaning whole db env ≡ Bad faults
  bad-contributed db env faults bad =
      meaning-Filter db env pairs test_of (test_subs (deciding sub.kind) (stand_of is) found)
      ∙ ap (λ o. and_then o (gather (kept (condition_on test_of env (subs_denote (test_subs (deciding sub.kind) (stand_of is) found) db env)))))
      (meaning-pairs Inner rows (base_of is) always db env
      ∙ (λ i. both_then (bad i) ((meaning-cross_base sub.query is.over db env).1 i) (joined_rows Inner (condition_on always env no_subs) (width_of rows) (width_of (base_of is)))))

  -- ---- plain

  plain-found : is_plain found ≡ true
  plain-found = plain-chosen (or_nulls r) (same_as_outer (width_of (base_of is)) (width_of rows) (width_of s)) ∙ plain-pairs Left Single r always ∙ is.rewritten.plain

  plain-tests : (truth : Option Truth) → all_plain (test_subs truth (stand_of is) found) ≡ true
  plain-tests None = and_from (is_plain found) true plain-found refl
  plain-tests (Some truth) =
      let column = plain-projected found (column_items (kinds_of found) (0 ∷ [])) ∙ plain-found in
      and_from (is_plain found) (is_plain s && (is_plain (first_column found) && true)) plain-found
      (and_from (is_plain s) (is_plain (first_column found) && true) is.stands.plain (and_from (is_plain (first_column found)) true column refl))

  pub plain-contributed : is_plain rows ≡ true → is_plain whole ≡ true
  plain-contributed plain =
      is_plain-Filter pairs test_of (test_subs (deciding sub.kind) (stand_of is) found)
      ∙ and_from (is_plain pairs) (all_plain (test_subs (deciding sub.kind) (stand_of is) found))
      (plain-pairs Inner rows (base_of is) always ∙ and_from (is_plain rows) (is_plain (base_of is)) plain (plain-cross_base sub.query)) (plain-tests (deciding sub.kind))

  -- ---- tables

  module _ (P : ℕ → List Kind → Type 0) (of_stand : EachTable P s) (of_rewriting : EachTable P r) where
    tables-found : EachTable P found
    tables-found = ((tt, of_rewriting, tt), tt)

    tables-tests : (truth : Option Truth) → EachTableOfSubs P (test_subs truth (stand_of is) found)
    tables-tests None = (tables-found, tt)
    tables-tests (Some truth) = (tables-found, (of_stand, ((tables-found, tt), tt)))

    pub tables-contributed : EachTable P rows → EachTable P (base_of is) → EachTable P whole
    tables-contributed of_rows of_base =
        by (sym (EachTable-Filter P pairs test_of (test_subs (deciding sub.kind) (stand_of is) found))) ((of_rows, of_base, tt), tables-tests (deciding sub.kind))

  -- ---- well formed

  module _ (columns : List Kind) (outer : List (List Kind)) (more : List Kind) (f : AllSubsForm (columns ∷ outer) (sub ∷ [])) (begins : kinds_of rows ≡ columns ++ more) where
    abbrev scopes : List (List Kind)
    scopes = (kinds_of rows ++ kinds_of (base_of is)) ∷ outer

    names : NamesAlso (columns ∷ outer) scopes
    names =
        names-begin columns (more ++ kinds_of (base_of is)) (kinds_of rows ++ kinds_of (base_of is)) outer
        (ap (λ ks. ks ++ kinds_of (base_of is)) begins ∙ append_assoc columns more (kinds_of (base_of is)))

    kinds-are : kinds_of r ≡ kinds_of s ++ place_kinds (shape sub.query)
    kinds-are = is.rewritten.kinds (columns ∷ outer) f.query ∙ ap (λ ks. ks ++ place_kinds (shape sub.query)) (sym (is.stands.kinds (columns ∷ outer) f.query))

    formed-found : WellFormed scopes found
    formed-found =
        formed-matching r (kinds_of rows) (kinds_of (base_of is)) outer (kinds_of s) (place_kinds (shape sub.query)) (width_of (base_of is)) (width_of rows) (width_of s) kinds-are refl
        (sym (ap length (kinds_of-cross_base sub.query is.over))) refl (kinds_of-cross_base sub.query is.over)
        (well_formed-longer r (columns ∷ outer) scopes names (is.rewritten.formed (columns ∷ outer) f.query))

    formed-stand : WellFormed scopes s
    formed-stand = well_formed-longer s (columns ∷ outer) scopes names (is.stands.formed (columns ∷ outer) f.query)

    fitting-stand : sub_form sub.kind tested scopes (kinds_of s)
    fitting-stand =
        tested-formed sub.kind sub.tested tested is.same scopes (kinds_of s)
        (subst (sub_form sub.kind sub.tested scopes) (sym (is.stands.kinds (columns ∷ outer) f.query)) (subs-named (sub ∷ []) (columns ∷ outer) scopes names f).fitting)

    module _ (column : Kind) (one : kinds_of s ≡ column ∷ []) where
      column-is : kind_in (kinds_of found) 0 ≡ column
      column-is = ap (λ ks. kind_in ks 0) (kinds-are ∙ ap (λ ks. ks ++ place_kinds (shape sub.query)) one)

      some_column : 0 < width_of found
      some_column = omega (arith, ap length kinds-are, length-append (kinds_of s) (place_kinds (shape sub.query)), ap length one)

      formed-column : WellFormed scopes (first_column found)
      formed-column =
          formed-columns found (0 ∷ []) (all-first (λ place. place < width_of found) 0 [] some_column (all-nothing (λ place. place < width_of found))) scopes formed-found

    formed-tests : (of_kind : SubKind) (tested : Option Expr) → sub_form of_kind tested scopes (kinds_of s) →
        AllSubsForm scopes (test_subs (deciding of_kind) (record { kind = of_kind; tested = tested; query = s }) found)
    formed-tests Exists tested f = record { query = formed-found; fitting = tt; others = tt }
    formed-tests (Any c) None f = absurd f
    formed-tests (Any c) (Some tested) f = record {
      query = formed-found;
      fitting = tt;
      others = record {
        query = formed-stand;
        fitting = f;
        others = record {
          query = formed-column f.column f.one;
          fitting = record { column = f.column; one = ap (λ k. k ∷ []) (column-is f.column f.one); compared = f.compared };
          others = tt;
        };
      };
    }
    formed-tests (All c) None f = absurd f
    formed-tests (All c) (Some tested) f = record {
      query = formed-found;
      fitting = tt;
      others = record {
        query = formed-stand;
        fitting = f;
        others = record {
          query = formed-column f.column f.one;
          fitting = record { column = f.column; one = ap (λ k. k ∷ []) (column-is f.column f.one); compared = f.compared };
          others = tt;
        };
      };
    }
    formed-tests Scalar tested f = record { query = formed-found; fitting = tt; others = tt }

    -- of three truths
    formed-case : (truth : Truth) → HasKind scopes (kind.Boolean ∷ kind.Boolean ∷ kind.Boolean ∷ []) (test_condition (Some truth)) kind.Boolean
    formed-case truth =
        let three = kind.Boolean ∷ kind.Boolean ∷ kind.Boolean ∷ [] in
        let arms = deciding_arm truth ∷ [] in
        subst (λ e. HasKind scopes three e kind.Boolean) (sym (Case-is arms (Sub 0))) (record {
          number = subst (λ n. 1 ≤ n) (sym (number_of_arms-built arms)) (omega arith);
          arms = arms_have-built scopes three arms kind.Boolean (record {
            condition = subst (λ e. HasKind scopes three e kind.Boolean) (sym (IsTruth-is truth (Sub 1))) (record { parts = refl; gives = refl });
            arm = subst (λ e. HasKind scopes three e kind.Boolean) (sym (IsTruth-is truth (Sub 2))) (record { parts = refl; gives = refl });
            others = tt;
          });
          otherwise = refl;
        })

    formed-condition : (of_kind : SubKind) (tested : Option Expr) →
        HasKind scopes (subs_kinds (test_subs (deciding of_kind) (record { kind = of_kind; tested = tested; query = s }) found)) (test_condition (deciding of_kind)) kind.Boolean
    formed-condition Exists tested = refl
    formed-condition (Any c) tested = formed-case _
    formed-condition (All c) tested = formed-case _
    formed-condition Scalar tested = refl

    pub formed-contributed : WellFormed outer rows → WellFormed outer whole
    formed-contributed w =
        by (sym (WellFormed-Filter outer pairs test_of (test_subs (deciding sub.kind) (stand_of is) found))) (record {
          input = formed-pairs Inner rows (base_of is) always outer w (formed-cross_base sub.query (columns ∷ outer) outer f.query) (record { fitting = refl; gives = refl });
          subs = formed-tests sub.kind tested fitting-stand;
          condition = formed-condition sub.kind tested;
        })
