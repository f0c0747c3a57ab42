-- A node over operands that are read.
use Rattle.std.proofs.Common.{◌≡◌, ℕ, ◌+◌, true, cond, List, [], ◌∷◌, ◌++◌, length, Option, Some, None, refl, sym, ap, subst, ◌∙◌}
use Rattle.perm_values.specs.declared.kind.Kind.{Kind}
use Rattle.perm_values.specs.declared.kind.Kind.TheVariants.{Integer, Text, Boolean}
use Rattle.bag_algebra.specs.declared.expr.Expr.{Expr}
use Rattle.bag_algebra.specs.declared.query.Sublink.{Sublink}
use Rattle.name_meaning.specs.Meanings.{Before, Built, Meant, is_same_kind, is_whole, seen_kind, settled, unites, united_kind}
use Rattle.name_meaning.specs.Operands.{BuiltParts, Operand, alike_wanted, behind, built_first, built_of, first_unfit, given_kind, made_parts, node, parts_breaks, seen_of, unfit_break, unfit_from, united, wanted_of}
use Rattle.name_meaning.specs.declared.need.Gives.{Gives}
use Rattle.name_meaning.specs.declared.need.Need.{Need}
use Rattle.name_meaning.specs.declared.need.Need.TheVariants.{OfKind as of_kind, Alike as alike, Free as free}
use Rattle.sql_printer.specs.expressions.Reading.{IsRead, built}

pub read-same : (m other : Meant) (kind : Kind) (made : ℕ → Expr) (subs : List Sublink) → m ≡ other → IsRead other kind made subs → IsRead m kind made subs
read-same m other kind made subs e r = subst (λ x. IsRead x kind made subs) (sym e) r

pub read-seen : (m : Meant) (kind : Kind) (made : ℕ → Expr) (subs : List Sublink) → IsRead m kind made subs → seen_kind m ≡ Some kind
read-seen m kind made subs r = λ i. cond (is_whole (r.breaks i)) (r.kind_is i) None

-- ---- operands

-- the kind that the need asks for, where those that are to be alike have this kind
abbrev pub Meets : Need → Kind → Kind → Type 0
Meets (of_kind needed) shared own = own ≡ needed
Meets alike shared own = own ≡ shared
Meets free shared own = Unit {0}

-- what is made of the operands behind so many sublinks
pub record AreRead (shared : Kind) (os : List Operand) (made : ℕ → List Expr) (subs : List Sublink) : Type 0 where
  pub breaks : parts_breaks os ≡ []
  pub fit : first_unfit None os ≡ None
  pub fit_behind : first_unfit (Some shared) os ≡ None
  pub make : (alike_kind : Kind) (before : Before) → made_parts alike_kind os before ≡ record { exprs = made before.subs; subs = subs; aggregates = [] }

pub none-read : (shared : Kind) → AreRead shared [] (λ n. []) []
none-read shared = record { breaks = refl; fit = refl; fit_behind = refl; make = λ alike_kind before. refl }

pub same-itself : (kind : Kind) → is_same_kind kind kind ≡ true
same-itself Integer = refl
same-itself Text = refl
same-itself Boolean = refl

-- an operand that meets its need lets those behind it be looked at
fit-next : (shared own : Kind) (need : Need) (at : ℕ) (found : Option Kind) (os : List Operand) → found ≡ Some own → Meets need shared own
    → first_unfit None os ≡ None → first_unfit (Some shared) os ≡ None → unfit_from need at found None (λ common. first_unfit common os) ≡ None
fit-next shared own (of_kind needed) at found os e meets h k =
    (λ i. cond (unites (Some needed) ((e ∙ ap Some meets) i)) (first_unfit None os) (Some at))
    ∙ ap (λ b. cond b (first_unfit None os) (Some at)) (same-itself needed) ∙ h
fit-next shared own alike at found os e meets h k =
    (λ i. cond (unites None ((e ∙ ap Some meets) i)) (first_unfit (united_kind None ((e ∙ ap Some meets) i)) os) (Some at)) ∙ k
fit-next shared own free at found os e meets h k = h

fit_behind-next : (shared own : Kind) (need : Need) (at : ℕ) (found : Option Kind) (os : List Operand) → found ≡ Some own → Meets need shared own
    → first_unfit (Some shared) os ≡ None → unfit_from need at found (Some shared) (λ common. first_unfit common os) ≡ None
fit_behind-next shared own (of_kind needed) at found os e meets k =
    (λ i. cond (unites (Some needed) ((e ∙ ap Some meets) i)) (first_unfit (Some shared) os) (Some at))
    ∙ ap (λ b. cond b (first_unfit (Some shared) os) (Some at)) (same-itself needed) ∙ k
fit_behind-next shared own alike at found os e meets k =
    (λ i. cond (unites (Some shared) ((e ∙ ap Some meets) i)) (first_unfit (Some shared) os) (Some at))
    ∙ ap (λ b. cond b (first_unfit (Some shared) os) (Some at)) (same-itself shared) ∙ k
fit_behind-next shared own free at found os e meets k = k

made-next : (own : Built) (e : Expr) (subs more : List Sublink) (rest : Before → BuiltParts) (others : ℕ → List Expr) (before : Before) → own ≡ built e subs
    → ((b : Before) → rest b ≡ record { exprs = others b.subs; subs = more; aggregates = [] })
    → built_first own (rest (behind before own.subs own.aggregates)) ≡ record { exprs = e ∷ others (before.subs + length subs); subs = subs ++ more; aggregates = [] }
made-next own e subs more rest others before is all =
    ap (λ (b : Built). built_first b (rest (behind before b.subs b.aggregates))) is
    ∙ ap (built_first (built e subs)) (all (behind before subs []))

pub one-read : (shared own : Kind) (o : Operand) (os : List Operand) (made : ℕ → Expr) (others : ℕ → List Expr) (subs more : List Sublink) (count : ℕ)
    → IsRead o.meant own made subs → Meets o.need shared own → AreRead shared os others more → length subs ≡ count
    → AreRead shared (o ∷ os) (λ n. made n ∷ others (n + count)) (subs ++ more)
one-read shared own o os made others subs more count r meets rest is = record {
  breaks = λ i. r.breaks i ++ rest.breaks i;
  fit = fit-next shared own o.need o.at (seen_of o) os (read-seen o.meant own made subs r) meets rest.fit rest.fit_behind;
  fit_behind = fit_behind-next shared own o.need o.at (seen_of o) os (read-seen o.meant own made subs r) meets rest.fit_behind;
  make = λ alike_kind before.
      made-next (o.meant.make (wanted_of alike_kind o.need) before) (made before.subs) subs more (made_parts alike_kind os) others before
      (r.make (wanted_of alike_kind o.need) before) (rest.make alike_kind)
      ∙ (λ i. record { exprs = made before.subs ∷ others (before.subs + is i); subs = subs ++ more; aggregates = [] });
}

-- ---- nodes

pub node-read : (gives : Gives) (assembled : List Expr → Expr) (os : List Operand) (shared kind : Kind) (made : ℕ → List Expr) (subs : List Sublink)
    → AreRead shared os made subs → given_kind gives os ≡ Some kind → IsRead (node gives assembled os) kind (λ n. assembled (made n)) subs
node-read gives assembled os shared kind made subs r given = record {
  breaks = λ i. r.breaks i ++ unfit_break (r.fit i);
  kind_is = given;
  make = λ wanted before. ap (built_of assembled) (r.make (settled (united os) (alike_wanted gives wanted)) before);
}
