-- What a call made for a node is made for the query that the node is.
use Rattle.std.specs.Prelude.{nat_lt}
use Rattle.std.proofs.Common.{◌≡◌, arith, false, List, [], ◌∷◌, length, Result, Ok, Err, IfOk, refl, sym, subst, true≢false}
use Rattle.std.proofs.lemmas.Bool.Decides.{nat_tests}
use Rattle.perm_values.specs.declared.no_memory.NoMemory.{NoMemory}
use Rattle.perm_values.proofs.Results.{where_made}
use Rattle.bag_algebra.specs.Kinds.{shape}
use Rattle.bag_algebra.specs.declared.place.Place.{Place}
use Rattle.bag_algebra.specs.declared.query.Query.{Query}
use Rattle.rewrite_driver.proofs.ClosedNodes.{kept-without_places}
use Rattle.rewrite_driver.specs.KeptClosed.{RewritesClosed, StandsClosed}
use Rattle.rewrite_driver.specs.Places.{is_some_place, has_places}

pub both_made : {X : Type 0} (P Q R : X → Type 0) (result : Result X NoMemory) → IfOk result P → IfOk result Q → ((x : X) → P x → Q x → R x) → IfOk result R
both_made P Q R (Ok x) h k f = f x h k
both_made P Q R (Err error) h k f = tt

module _ (q node : Query) (result : Result Query NoMemory) (is : q ≡ node) where
  pub stands_made : (made : Query) → IfOk result (λ p. p ≡ made) → StandsClosed node made → IfOk result (λ p. StandsClosed q p)
  stands_made made is_made s =
      where_made (λ p. p ≡ made) (λ p. StandsClosed q p) result (λ p e. subst (λ n. StandsClosed n p) (sym is) (subst (λ b. StandsClosed node b) (sym e) s)) is_made

  pub stands_where : (P : Query → Type 0) → ((p : Query) → P p → StandsClosed node p) → IfOk result P → IfOk result (λ p. StandsClosed q p)
  stands_where P f given = where_made P (λ p. StandsClosed q p) result (λ p h. subst (λ n. StandsClosed n p) (sym is) (f p h)) given

  pub rewrites_where : (P : Query → Type 0) → ((p : Query) → P p → RewritesClosed node p) → IfOk result P → IfOk result (λ p. RewritesClosed q p)
  rewrites_where P f given = where_made P (λ p. RewritesClosed q p) result (λ p h. subst (λ n. RewritesClosed n p) (sym is) (f p h)) given

no_place : (places : List Place) → is_some_place places ≡ false → places ≡ []
no_place [] e = refl
no_place (place ∷ places) e = absurd (true≢false e)

pub rewrites_without_places : (q : Query) (result : Result Query NoMemory) → has_places q ≡ false → IfOk result (λ p. StandsClosed q p) → IfOk result (λ p. RewritesClosed q p)
rewrites_without_places q result none given =
    where_made (λ p. StandsClosed q p) (λ p. RewritesClosed q p) result (λ p s. kept-without_places q p s (no_place (shape q) none)) given

pub is_some-length : (places : List Place) → (nat_lt 0 (length places)) ≡ is_some_place places
is_some-length [] = refl
is_some-length (place ∷ places) = grind (arith, nat_tests)
