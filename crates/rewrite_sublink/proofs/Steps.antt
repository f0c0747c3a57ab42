-- Steps of a rule for sublinks. A step adds to the rows of a query what one sublink of the node contributes on them, and the
-- rule of the node asks nothing else of it.
use Rattle.std.proofs.Common.{◌≡◌, ℕ, true, List, [], ◌∷◌, ◌++◌}
use Rattle.perm_values.specs.declared.kind.Kind.{Kind}
use Rattle.perm_values.specs.declared.value.Value.{Value}
use Rattle.bag_algebra.proofs.Members.{IsIn}
use Rattle.bag_algebra.specs.Bags.{Row, Bag}
use Rattle.bag_algebra.specs.built.Forms.{AllSubsForm, EachTableOfSubs}
use Rattle.bag_algebra.specs.Children.{subs_denote, sublink_value, subs_shape}
use Rattle.bag_algebra.specs.Fits.{bag_fits, env_fits}
use Rattle.bag_algebra.specs.Kinds.{kinds_of, place_kinds, shape}
use Rattle.bag_algebra.specs.Meaning.{Database, meaning}
use Rattle.bag_algebra.specs.Means.{Witness, flat}
use Rattle.bag_algebra.specs.Outcome.{Faults, Good, Bad}
use Rattle.bag_algebra.specs.Rewriting.{is_plain}
use Rattle.bag_algebra.specs.TablesRead.{EachTable}
use Rattle.bag_algebra.specs.WellFormed.{WellFormed}
use Rattle.bag_algebra.specs.declared.query.Query.{Query}
use Rattle.bag_algebra.specs.declared.query.Sublink.{Sublink}
use Rattle.contribution.specs.Fitting.{Fitting}
use Rattle.query_laws.specs.SublinkLists.{Contributes, EachContributes}

-- ---- what a step is given

-- sublinks of a node whose columns are of these kinds are well formed, and a database and outer rows fit them
pub record SubsFitting (columns : List Kind) (outer : List (List Kind)) (subs : List Sublink) (db : Database) (env : List Row) : Type 0 where
  pub form : AllSubsForm (columns ∷ outer) subs
  pub tables : EachTableOfSubs (λ id kinds. bag_fits (db id) kinds ≡ true) subs
  pub outer_rows : env_fits env outer ≡ true

-- a query that has the rows us, which begin with the node's columns
pub record Begun (columns : List Kind) (outer : List (List Kind)) (db : Database) (env : List Row) (rows : Query) (us : Bag) : Type 0 where
  pub more : List Kind
  pub begins : kinds_of rows ≡ columns ++ more
  pub fitting : Fitting outer rows db env
  pub good : meaning rows db env ≡ Good us

abbrev pub HasValue : Database → List Row → Sublink → Row → Type 0
HasValue db env sub b = (v : Value) × (sublink_value db env b sub ≡ Good v)

abbrev pub HasValues : Database → List Row → List Sublink → Row → Type 0
HasValues db env subs b = (values : List Value) × ((subs_denote subs db env).answers b ≡ Good values)

-- ---- what it makes

-- each row of us beside each of its contributions is in ys, and nothing else is
pub record Extended (contributes : Row → Witness → Type 0) (us ys : Bag) : Type 0 where
  pub there : (b : Row) (c : Witness) → IsIn b us → contributes b c → IsIn (b ++ flat c) ys
  pub back : (y : Row) → IsIn y ys → (b : Row) × (c : Witness) × IsIn b us × contributes b c × (b ++ flat c ≡ y)

-- the query has these rows
pub record Reached (p : Query) (db : Database) (env : List Row) (contributes : Row → Witness → Type 0) (us : Bag) : Type 0 where
  pub bag : Bag
  pub good : meaning p db env ≡ Good bag
  pub extended : Extended contributes us bag

-- ---- steps

-- what is known of a row of the node, under a database and outer rows
abbrev pub OnRows : Type 1
OnRows = Database → List Row → Row → Type 0

-- of one sublink: the columns of its places stand behind the rows', where the rows are bad so is what is made of them, and
-- where they are good and this is known of each, they stand there beside their contributions
pub record StepGiven (known : OnRows) (sub : Sublink) (next : Query → Query) : Type 1 where
  pub kinds : (scopes : List (List Kind)) (rows : Query) → AllSubsForm scopes (sub ∷ []) → kinds_of (next rows) ≡ kinds_of rows ++ place_kinds (shape sub.query)
  pub plain : (rows : Query) → is_plain rows ≡ true → is_plain (next rows) ≡ true
  pub tables : (P : ℕ → List Kind → Type 0) (rows : Query) → EachTable P rows → EachTable P sub.query → EachTable P (next rows)
  pub formed : (columns : List Kind) (outer : List (List Kind)) (rows : Query) (more : List Kind) → AllSubsForm (columns ∷ outer) (sub ∷ []) →
      kinds_of rows ≡ columns ++ more → WellFormed outer rows → WellFormed outer (next rows)
  pub bad : (columns : List Kind) (outer : List (List Kind)) (db : Database) (env : List Row) → SubsFitting columns outer (sub ∷ []) db env → (rows : Query) (faults : Faults) →
      meaning rows db env ≡ Bad faults → meaning (next rows) db env ≡ Bad faults
  pub good : (columns : List Kind) (outer : List (List Kind)) (db : Database) (env : List Row) → SubsFitting columns outer (sub ∷ []) db env → (rows : Query) (us : Bag) →
      Begun columns outer db env rows us → ((b : Row) → IsIn b us → known db env b) → Reached (next rows) db env (λ b c. Contributes db env b sub c) us

-- where the sublink has a value on each row
abbrev pub Step : Sublink → (Query → Query) → Type 1
Step sub next = StepGiven (λ db env b. HasValue db env sub b) sub next

-- of all sublinks of a node
pub record StepsGiven (known : OnRows) (subs : List Sublink) (whole : Query → Query) : Type 1 where
  pub kinds : (scopes : List (List Kind)) (rows : Query) → AllSubsForm scopes subs → kinds_of (whole rows) ≡ kinds_of rows ++ place_kinds (subs_shape subs)
  pub plain : (rows : Query) → is_plain rows ≡ true → is_plain (whole rows) ≡ true
  pub tables : (P : ℕ → List Kind → Type 0) (rows : Query) → EachTable P rows → EachTableOfSubs P subs → EachTable P (whole rows)
  pub formed : (columns : List Kind) (outer : List (List Kind)) (rows : Query) (more : List Kind) → AllSubsForm (columns ∷ outer) subs →
      kinds_of rows ≡ columns ++ more → WellFormed outer rows → WellFormed outer (whole rows)
  pub bad : (columns : List Kind) (outer : List (List Kind)) (db : Database) (env : List Row) → SubsFitting columns outer subs db env → (rows : Query) (faults : Faults) →
      meaning rows db env ≡ Bad faults → meaning (whole rows) db env ≡ Bad faults
  pub good : (columns : List Kind) (outer : List (List Kind)) (db : Database) (env : List Row) → SubsFitting columns outer subs db env → (rows : Query) (us : Bag) →
      Begun columns outer db env rows us → ((b : Row) → IsIn b us → known db env b) → Reached (whole rows) db env (λ b w. EachContributes db env b subs w) us

-- where they have values on each row
abbrev pub Steps : List Sublink → (Query → Query) → Type 1
Steps subs whole = StepsGiven (λ db env b. HasValues db env subs b) subs whole
