-- What a spine has of its query: its columns, its tables, that it is plain, and when the join with its base is well formed.
use Rattle.std.proofs.Common.{◌≡◌, ℕ, ◌≤◌, true, ◌&&◌, List, [], ◌∷◌, ◌++◌, length, Option, Some, None, append-nil, refl, sym, ap, ◌∙◌, subst, arith}
use Rattle.std.specs.Prelude.{Contains}
use Rattle.perm_values.specs.declared.kind.Kind.{Kind}
use Rattle.perm_values.specs.declared.kind.Kind.TheVariants.{Boolean}
use Rattle.bag_algebra.proofs.Closing.{query_inside}
use Rattle.bag_algebra.proofs.TablesRead.{reads_among-itself}
use Rattle.bag_algebra.proofs.Truths.{and_true, left-true, right-true}
use Rattle.bag_algebra.specs.built.Forms.{number_of_parts-built}
use Rattle.bag_algebra.specs.built.Patterns.{ApplyOf}
use Rattle.bag_algebra.specs.Closed.{is_closed}
use Rattle.bag_algebra.specs.FaultFree.{faultless, items_faultless, fault_free}
use Rattle.bag_algebra.specs.Kinds.{kinds_of, width_of, item_kinds}
use Rattle.bag_algebra.specs.Rewriting.{is_plain}
use Rattle.bag_algebra.specs.TablesRead.{EachTable, ReadsAmong, tables_read}
use Rattle.bag_algebra.specs.WellFormed.{HasKind, ItemsForm, WellFormed}
use Rattle.bag_algebra.specs.declared.expr.Expr.{Expr}
use Rattle.bag_algebra.specs.declared.expr.Item.{Item}
use Rattle.bag_algebra.specs.declared.query.JoinKind.{JoinKind}
use Rattle.bag_algebra.specs.declared.query.Query.{Query}
use Rattle.contribution.proofs.ColumnQueries.{all-nothing, all-first, all-rest}
use Rattle.contribution.proofs.LongerKinds.{NamesAlso, names-own, names-more, has_kind-longer, well_formed-longer, longer-names}
use Rattle.contribution.proofs.Padding.{items-append, kinds-append}
use Rattle.contribution.proofs.PartForms.{no_parts-have, more_parts-have}
use Rattle.contribution.specs.Conjunctions.{condition_or_true}
use Rattle.contribution.specs.Longer.{more_lists}
use Rattle.query_laws.proofs.SpineItems.{behind-faultless, behind-kinds, behind-formed}
use Rattle.query_laws.specs.spines.PlacedColumns.{ItemsPlaced}
use Rattle.query_laws.specs.spines.Spines.{IsSpine, closed, filtered, projected, items_behind, tests_with, spine_join}
use Rattle.query_laws.specs.declared.spines.spine.Spine.{Spine}

-- ---- placed items

placed-kinds : (own items placed : List Item) → ItemsPlaced own items placed → item_kinds placed ≡ item_kinds items
placed-kinds own [] [] p = refl
placed-kinds own [] (made ∷ placed) p = absurd p
placed-kinds own (item ∷ items) [] p = absurd p
placed-kinds own (item ∷ items) (made ∷ placed) p = λ i. p.0.kind i ∷ placed-kinds own items placed p.1 i

placed-faultless : (own items placed : List Item) → ItemsPlaced own items placed → items_faultless own ≡ true → items_faultless items ≡ true → items_faultless placed ≡ true
placed-faultless own [] [] p o w = refl
placed-faultless own [] (made ∷ placed) p o w = absurd p
placed-faultless own (item ∷ items) [] p o w = absurd p
placed-faultless own (item ∷ items) (made ∷ placed) p o w =
    let first : faultless made.expr ≡ true = p.0.expr.faultless o ∙ left-true (faultless item.expr) (items_faultless items) w in
    λ i. first i && placed-faultless own items placed p.1 o (right-true (faultless item.expr) (items_faultless items) w) i

placed-formed : (kinds : List Kind) (outer : List (List Kind)) (own items placed : List Item) → ItemsPlaced own items placed → ItemsForm (kinds ∷ outer) [] own →
    ItemsForm (item_kinds own ∷ kinds ∷ outer) [] items → ItemsForm (kinds ∷ outer) [] placed
placed-formed kinds outer own [] [] p o f = all-nothing _
placed-formed kinds outer own [] (made ∷ placed) p o f = absurd p
placed-formed kinds outer own (item ∷ items) [] p o f = absurd p
placed-formed kinds outer own (item ∷ items) (made ∷ placed) p o f =
    let first : HasKind (kinds ∷ outer) [] made.expr made.kind =
    subst (HasKind (kinds ∷ outer) [] made.expr) (sym p.0.kind) (p.0.expr.kind kinds outer item.kind o (f 0 item (omega arith))) in
    all-first (λ (item : Item). HasKind (kinds ∷ outer) [] item.expr item.kind) made placed first
    (placed-formed kinds outer own items placed p.1 o (all-rest (λ (item : Item). HasKind (item_kinds own ∷ kinds ∷ outer) [] item.expr item.kind) item items f))

items-longer : (scopes longer : List (List Kind)) → NamesAlso scopes longer → (items : List Item) → ItemsForm scopes [] items → ItemsForm longer [] items
items-longer scopes longer n [] f = all-nothing _
items-longer scopes longer n (item ∷ items) f =
    all-first (λ (item : Item). HasKind longer [] item.expr item.kind) item items (has_kind-longer n [] item.expr item.kind (f 0 item (omega arith)))
    (items-longer scopes longer n items (all-rest (λ (item : Item). HasKind scopes [] item.expr item.kind) item items f))

-- ---- spines

pub spine-kinds : {width : ℕ} {q : Query} {spine : Spine} → IsSpine width q spine → item_kinds spine.items ≡ kinds_of q
spine-kinds {width} (closed q c w) = behind-kinds width (kinds_of q)
spine-kinds (filtered input spine condition placed s p m) = spine-kinds s
spine-kinds (projected input spine items placed s p w) = placed-kinds spine.items items placed p

pub spine-faultless : {width : ℕ} {q : Query} {spine : Spine} → IsSpine width q spine → items_faultless spine.items ≡ true
spine-faultless {width} (closed q c w) = behind-faultless width (kinds_of q)
spine-faultless (filtered input spine condition placed s p m) = spine-faultless s
spine-faultless (projected input spine items placed s p w) = placed-faultless spine.items items placed p (spine-faultless s) w

pub spine-plain : {width : ℕ} {q : Query} {spine : Spine} → IsSpine width q spine → is_plain spine.base ≡ is_plain q
spine-plain (closed q c w) = refl
spine-plain (filtered input spine condition placed s p m) = spine-plain s ∙ sym (and_true (is_plain input))
spine-plain (projected input spine items placed s p w) = spine-plain s ∙ sym (and_true (is_plain input))

pub spine-closed : {width : ℕ} {q : Query} {spine : Spine} → IsSpine width q spine → is_closed spine.base ≡ true
spine-closed (closed q c w) = c
spine-closed (filtered input spine condition placed s p m) = spine-closed s
spine-closed (projected input spine items placed s p w) = spine-closed s

pub spine-fault_free : {width : ℕ} {q : Query} {spine : Spine} → IsSpine width q spine → fault_free spine.base ≡ true
spine-fault_free (closed q c w) = w
spine-fault_free (filtered input spine condition placed s p m) = spine-fault_free s
spine-fault_free (projected input spine items placed s p w) = spine-fault_free s

pub spine-tables : (P : ℕ → List Kind → Type 0) {width : ℕ} {q : Query} {spine : Spine} → IsSpine width q spine → EachTable P q → EachTable P spine.base
spine-tables P (closed q c w) h = h
spine-tables P (filtered input spine condition placed s p m) h = spine-tables P s h.0
spine-tables P (projected input spine items placed s p w) h = spine-tables P s h.0

pub spine-base : (scopes : List (List Kind)) {width : ℕ} {q : Query} {spine : Spine} → IsSpine width q spine → WellFormed scopes q → WellFormed scopes spine.base
spine-base scopes (closed q c w) f = f
spine-base scopes (filtered input spine condition placed s p m) f = spine-base scopes s f.input
spine-base scopes (projected input spine items placed s p w) f = spine-base scopes s f.input

-- ---- forms beside rows of these kinds

abbrev TestFormed : List (List Kind) → Option Expr → Type 0
TestFormed scopes None = Unit
TestFormed scopes (Some test) = HasKind scopes [] test Boolean

tests-formed : (scopes : List (List Kind)) (test : Option Expr) (other : Expr) → TestFormed scopes test → HasKind scopes [] other Boolean →
    HasKind scopes [] (tests_with test other) Boolean
tests-formed scopes None other f g = g
tests-formed scopes (Some test) other f g = record {
  number = subst (λ m. 2 ≤ m) (sym (number_of_parts-built (test ∷ other ∷ []))) (omega arith);
  parts = more_parts-have scopes [] Boolean test (other ∷ []) f (more_parts-have scopes [] Boolean other [] g (no_parts-have scopes [] Boolean));
  gives = refl;
}

pub test_of-formed : (scopes : List (List Kind)) (test : Option Expr) → TestFormed scopes test → HasKind scopes [] (condition_or_true test) Boolean
test_of-formed scopes None f = record { fitting = refl; gives = refl }
test_of-formed scopes (Some test) f = f

module _ (columns : List Kind) (outer : List (List Kind)) where
  beside-names : (own base : List Kind) → NamesAlso (own ∷ columns ∷ outer) (own ∷ (columns ++ base) ∷ outer)
  beside-names own base = names-own own (names-more columns base outer)

  pub spine-items : {q : Query} {spine : Spine} → IsSpine (length columns) q spine → WellFormed (columns ∷ outer) q →
      ItemsForm ((columns ++ kinds_of spine.base) ∷ outer) [] spine.items
  spine-items (closed q c w) f =
      subst (λ ks. ItemsForm ((columns ++ ks) ∷ outer) [] (items_behind (length columns) (kinds_of q))) (append-nil (kinds_of q)) (behind-formed outer columns (kinds_of q) [])
  spine-items (filtered input spine condition placed s p m) f = spine-items s f.input
  spine-items (projected input spine items placed s p w) f =
      placed-formed (columns ++ kinds_of spine.base) outer spine.items items placed p (spine-items s f.input)
      (subst (λ ks. ItemsForm (ks ∷ (columns ++ kinds_of spine.base) ∷ outer) [] items) (sym (spine-kinds s))
      (items-longer (kinds_of input ∷ columns ∷ outer) (kinds_of input ∷ (columns ++ kinds_of spine.base) ∷ outer) (beside-names (kinds_of input) (kinds_of spine.base)) items f.items))

  pub spine-test : {q : Query} {spine : Spine} → IsSpine (length columns) q spine → WellFormed (columns ∷ outer) q →
      TestFormed ((columns ++ kinds_of spine.base) ∷ outer) spine.test
  spine-test (closed q c w) f = tt
  spine-test (filtered input spine condition placed s p m) f =
      tests-formed ((columns ++ kinds_of spine.base) ∷ outer) spine.test placed (spine-test s f.input)
      (p.kind (columns ++ kinds_of spine.base) outer Boolean (spine-items s f.input)
      (subst (λ ks. HasKind (ks ∷ (columns ++ kinds_of spine.base) ∷ outer) [] condition Boolean) (sym (spine-kinds s))
      (has_kind-longer (beside-names (kinds_of input) (kinds_of spine.base)) [] condition Boolean f.condition)))
  spine-test (projected input spine items placed s p w) f = spine-test s f.input

-- ---- the join

module _ (kind : JoinKind) (left right : Query) (spine : Spine) (is : IsSpine (width_of left) right spine) where
  pub kinds-spine_join : kinds_of (spine_join kind left spine) ≡ kinds_of left ++ kinds_of right
  kinds-spine_join =
      kinds-append (items_behind 0 (kinds_of left)) spine.items ∙ (λ i. behind-kinds 0 (kinds_of left) i ++ spine-kinds is i)

  pub plain-spine_join : is_plain (spine_join kind left spine) ≡ (is_plain left && is_plain right)
  plain-spine_join =
      and_true ((is_plain left && is_plain spine.base) && true) ∙ and_true (is_plain left && is_plain spine.base) ∙ ap (λ b. is_plain left && b) (spine-plain is)

  pub tables-spine_join : ReadsAmong (spine_join kind left spine) (ApplyOf kind left right)
  tables-spine_join =
      let whole = reads_among-itself (ApplyOf kind left right) in
      ((whole.0, spine-tables (λ id kinds. Contains (tables_read (ApplyOf kind left right)) (record { id = id; kinds = kinds })) is whole.1, tt), tt)

  -- the base reads no outer row
  pub base-formed : (columns : List Kind) (outer scopes : List (List Kind)) → WellFormed (columns ∷ outer) right → WellFormed scopes spine.base
  base-formed columns outer scopes f =
      well_formed-longer spine.base [] scopes (longer-names (more_lists scopes)) (query_inside (columns ∷ outer) [] spine.base 0 refl (spine-closed is) (spine-base (columns ∷ outer) is f))

  pub formed-spine_join : (outer : List (List Kind)) → WellFormed outer (ApplyOf kind left right) → WellFormed outer (spine_join kind left spine)
  formed-spine_join outer f =
      let scopes = (kinds_of left ++ kinds_of spine.base) ∷ outer in record {
        input = record {
          left = f.left;
          right = base-formed (kinds_of left) outer outer f.right;
          subs = tt;
          condition = test_of-formed scopes spine.test (spine-test (kinds_of left) outer is f.right);
        };
        subs = tt;
        items = items-append scopes (items_behind 0 (kinds_of left)) spine.items (behind-formed outer [] (kinds_of left) (kinds_of spine.base))
            (spine-items (kinds_of left) outer is f.right);
      }
