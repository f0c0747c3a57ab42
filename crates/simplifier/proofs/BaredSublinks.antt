-- What holds of sublinks holds of them bared, and they answer the same.
use Rattle.std.proofs.Common.{◌≡◌, ℕ, zero, suc, ◌<◌, true, ◌&&◌, List, [], ◌∷◌, length, get_or, set, Option, Some, None, refl, sym, ap, ◌∙◌, subst, arith}
use Rattle.std.proofs.lemmas.Bool.{and_from}
use Rattle.perm_values.specs.declared.kind.Kind.{Kind}
use Rattle.perm_values.proofs.Steps.{by}
use Rattle.bag_algebra.proofs.TablesRead.{reads_among-each}
use Rattle.bag_algebra.proofs.Truths.{left-true, right-true}
use Rattle.bag_algebra.specs.Bags.{Row}
use Rattle.bag_algebra.specs.Children.{sublink_value, subs_denote}
use Rattle.bag_algebra.specs.Kinds.{kinds_of}
use Rattle.bag_algebra.specs.Meaning.{Database, meaning, optional_value}
use Rattle.bag_algebra.specs.Means.{sub_value}
use Rattle.bag_algebra.specs.Outcome.{both, both_then}
use Rattle.bag_algebra.specs.Rewriting.{is_plain}
use Rattle.bag_algebra.specs.TablesRead.{EachTable}
use Rattle.bag_algebra.specs.WellFormed.{WellFormed, sub_form, sub_kind}
use Rattle.bag_algebra.specs.built.Forms.{AllSubsForm, EachTableOfSubs, subs_kinds}
use Rattle.bag_algebra.specs.built.Scopes.{all_plain}
use Rattle.bag_algebra.specs.declared.expr.Expr.{Expr}
use Rattle.bag_algebra.specs.declared.query.SubKind.TheVariants.{Exists}
use Rattle.bag_algebra.specs.declared.query.Sublink.{Sublink}
use Rattle.query_laws.specs.EveryExpression.{option_passes}
use Rattle.folded_literals.specs.Settled.{is_settled}
use Rattle.folded_literals.specs.Simple.{is_simple}
use Rattle.folded_literals.specs.built.Simple.{all_simple}
use Rattle.simplifier.proofs.Unread.{exists-same, unread-onward}
use Rattle.simplifier.specs.Bare.{AllBared, IsBared, StandsUnread, itself, unread}

-- ---- bared once more

again : (a b c : Sublink) → a.kind ≡ Exists → a.kind ≡ b.kind → a.tested ≡ b.tested → StandsUnread a.query b.query → IsBared b c → IsBared a c
again a b c k l t s (itself e) = subst (λ x. IsBared a x) e (unread k l t s)
again a b c k l t s (unread m n r u) = unread k (l ∙ n) (t ∙ r) (unread-onward a.query b.query c.query s u)

pub bared-onward : (a b c : Sublink) → IsBared a b → IsBared b c → IsBared a c
bared-onward a b c (itself e) t = subst (λ x. IsBared x c) (sym e) t
bared-onward a b c (unread k l r s) t = again a b c k l r s t

-- ---- one sublink

one-plain : (sub other : Sublink) → IsBared sub other → is_plain sub.query ≡ true → is_plain other.query ≡ true
one-plain sub other (itself e) h = subst (λ (s : Sublink). is_plain s.query ≡ true) e h
one-plain sub other (unread k l t s) h = s.plain h

one-simple : (sub other : Sublink) → IsBared sub other → (option_passes is_settled sub.tested && is_simple sub.query) ≡ true →
    (option_passes is_settled other.tested && is_simple other.query) ≡ true
one-simple sub other (itself e) h = subst (λ (s : Sublink). (option_passes is_settled s.tested && is_simple s.query) ≡ true) e h
one-simple sub other (unread k l t s) h =
    let settled = left-true (option_passes is_settled sub.tested) (is_simple sub.query) h in
    let simple = right-true (option_passes is_settled sub.tested) (is_simple sub.query) h in
    and_from (option_passes is_settled other.tested) (is_simple other.query) (subst (λ part. option_passes is_settled part ≡ true) t settled) (s.simple simple)

one-tables : (P : ℕ → List Kind → Type 0) (sub other : Sublink) → IsBared sub other → EachTable P sub.query → EachTable P other.query
one-tables P sub other (itself e) h = subst (λ (s : Sublink). EachTable P s.query) e h
one-tables P sub other (unread k l t s) h = reads_among-each P other.query sub.query s.tables h

one-kind : (sub other : Sublink) → IsBared sub other → sub_kind sub.kind (kinds_of sub.query) ≡ sub_kind other.kind (kinds_of other.query)
one-kind sub other (itself e) = ap (λ (s : Sublink). sub_kind s.kind (kinds_of s.query)) e
one-kind sub other (unread k l t s) =
    (λ i. sub_kind (k i) (kinds_of sub.query)) ∙ (λ i. sub_kind (sym k i) (kinds_of other.query)) ∙ (λ i. sub_kind (l i) (kinds_of other.query))

-- EXISTS needs nothing of its query's kinds
exists-fitting : (tested : Option Expr) (scopes : List (List Kind)) (kinds others : List Kind) → sub_form Exists tested scopes kinds →
    sub_form Exists tested scopes others
exists-fitting None scopes kinds others h = tt
exists-fitting (Some part) scopes kinds others h = absurd h

module _ (scopes : List (List Kind)) where
  one-formed : (sub other : Sublink) → IsBared sub other → WellFormed scopes sub.query → WellFormed scopes other.query
  one-formed sub other (itself e) h = subst (λ (s : Sublink). WellFormed scopes s.query) e h
  one-formed sub other (unread k l t s) h = s.formed scopes h

  one-fitting : (sub other : Sublink) → IsBared sub other → sub_form sub.kind sub.tested scopes (kinds_of sub.query) →
      sub_form other.kind other.tested scopes (kinds_of other.query)
  one-fitting sub other (itself e) h = subst (λ (s : Sublink). sub_form s.kind s.tested scopes (kinds_of s.query)) e h
  one-fitting sub other (unread k l t s) h =
      by (λ i. sub_form (l i) (t i) scopes (kinds_of other.query)) (by (λ i. sub_form (sym k i) sub.tested scopes (kinds_of other.query))
      (exists-fitting sub.tested scopes (kinds_of sub.query) (kinds_of other.query) (by (λ i. sub_form (k i) sub.tested scopes (kinds_of sub.query)) h)))

module _ (db : Database) (env : List Row) (u : Row) where
  one-answer : (sub other : Sublink) → IsBared sub other → sublink_value db env u sub ≡ sublink_value db env u other
  one-answer sub other (itself e) = ap (sublink_value db env u) e
  one-answer sub other (unread k l t s) =
      (λ i. both_then (optional_value sub.tested env u) (meaning sub.query db (u ∷ env)) (sub_value (k i)))
      ∙ exists-same (optional_value sub.tested env u) (meaning sub.query db (u ∷ env)) (meaning other.query db (u ∷ env)) (s.rows db (u ∷ env))
      ∙ (λ i. both_then (optional_value sub.tested env u) (meaning other.query db (u ∷ env)) (sub_value (sym k i)))
      ∙ (λ i. both_then (optional_value (t i) env u) (meaning other.query db (u ∷ env)) (sub_value (l i)))

-- ---- all sublinks

pub bared-plain : (subs others : List Sublink) → AllBared subs others → all_plain subs ≡ true → all_plain others ≡ true
bared-plain [] [] b h = refl
bared-plain [] (other ∷ others) b h = absurd b
bared-plain (sub ∷ subs) [] b h = absurd b
bared-plain (sub ∷ subs) (other ∷ others) b h =
    and_from (is_plain other.query) (all_plain others) (one-plain sub other b.0 (left-true (is_plain sub.query) (all_plain subs) h))
    (bared-plain subs others b.1 (right-true (is_plain sub.query) (all_plain subs) h))

pub bared-simple : (subs others : List Sublink) → AllBared subs others → all_simple subs ≡ true → all_simple others ≡ true
bared-simple [] [] b h = refl
bared-simple [] (other ∷ others) b h = absurd b
bared-simple (sub ∷ subs) [] b h = absurd b
bared-simple (sub ∷ subs) (other ∷ others) b h =
    let first = option_passes is_settled sub.tested && is_simple sub.query in
    and_from (option_passes is_settled other.tested && is_simple other.query) (all_simple others) (one-simple sub other b.0 (left-true first (all_simple subs) h))
    (bared-simple subs others b.1 (right-true first (all_simple subs) h))

pub bared-tables : (P : ℕ → List Kind → Type 0) (subs others : List Sublink) → AllBared subs others → EachTableOfSubs P subs → EachTableOfSubs P others
bared-tables P [] [] b h = tt
bared-tables P [] (other ∷ others) b h = absurd b
bared-tables P (sub ∷ subs) [] b h = absurd b
bared-tables P (sub ∷ subs) (other ∷ others) b h = (one-tables P sub other b.0 h.0, bared-tables P subs others b.1 h.1)

pub bared-kinds : (subs others : List Sublink) → AllBared subs others → subs_kinds subs ≡ subs_kinds others
bared-kinds [] [] b = refl
bared-kinds [] (other ∷ others) b = absurd b
bared-kinds (sub ∷ subs) [] b = absurd b
bared-kinds (sub ∷ subs) (other ∷ others) b = λ i. one-kind sub other b.0 i ∷ bared-kinds subs others b.1 i

pub bared-form : (scopes : List (List Kind)) (subs others : List Sublink) → AllBared subs others → AllSubsForm scopes subs → AllSubsForm scopes others
bared-form scopes [] [] b h = tt
bared-form scopes [] (other ∷ others) b h = absurd b
bared-form scopes (sub ∷ subs) [] b h = absurd b
bared-form scopes (sub ∷ subs) (other ∷ others) b h = record {
  query = one-formed scopes sub other b.0 h.query;
  fitting = one-fitting scopes sub other b.0 h.fitting;
  others = bared-form scopes subs others b.1 h.others;
}

pub bared-answers : (db : Database) (env : List Row) (subs others : List Sublink) → AllBared subs others → (u : Row) →
    (subs_denote subs db env).answers u ≡ (subs_denote others db env).answers u
bared-answers db env [] [] b u = refl
bared-answers db env [] (other ∷ others) b u = absurd b
bared-answers db env (sub ∷ subs) [] b u = absurd b
bared-answers db env (sub ∷ subs) (other ∷ others) b u =
    λ i. both (λ v vs. v ∷ vs) (one-answer db env u sub other b.0 i) (bared-answers db env subs others b.1 u i)

-- ---- bared one by one

pub all-themselves : (subs : List Sublink) → AllBared subs subs
all-themselves [] = tt
all-themselves (sub ∷ subs) = (itself refl, all-themselves subs)

-- one more of what is bared is bared
pub one-bared : (subs others : List Sublink) (i : ℕ) (default new : Sublink) → AllBared subs others → i < length others →
    IsBared (get_or others i default) new → AllBared subs (set others i new)
one-bared subs [] i default new b low t = absurd (omega (arith, low))
one-bared [] (other ∷ others) i default new b low t = absurd b
one-bared (sub ∷ subs) (other ∷ others) zero default new b low t = (bared-onward sub other new b.0 t, b.1)
one-bared (sub ∷ subs) (other ∷ others) (suc i) default new b low t = (b.0, one-bared subs others i default new b.1 (omega (arith, low)) t)
