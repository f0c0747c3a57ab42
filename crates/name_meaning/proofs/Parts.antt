-- The operands of a node made one after the other are the operands made.
use Rattle.std.specs.Prelude.{◌≡◌, ℕ, ◌+◌, Bool, List, [], ◌∷◌, ◌++◌, length, None}
use Rattle.std.proofs.Common.{refl, ap, sym, ◌∙◌, arith, append_assoc, length-append}
use Rattle.std.proofs.lemmas.List.{append-nil}
use Rattle.bag_algebra.specs.declared.expr.Expr.{Expr}
use Rattle.bag_algebra.specs.declared.query.Aggr.{Aggr}
use Rattle.bag_algebra.specs.declared.query.Sublink.{Sublink}
use Rattle.perm_values.specs.declared.kind.Kind.{Kind}
use Rattle.perm_values.proofs.Lists.{front-none, back-none}
use Rattle.name_meaning.specs.Meanings.{Before, Built, settled}
use Rattle.name_meaning.specs.Operands.{BuiltParts, Operand, behind, built_first, made_parts, parts_breaks, wanted_of, united, alike_wanted, node, unfit_break, first_unfit}
use Rattle.name_meaning.specs.declared.answer.Break.{Break}
use Rattle.name_meaning.specs.declared.need.Gives.{Gives}
use Rattle.name_meaning.specs.nodes.Makes.{before_of, with_found, Makes, MakesMore}
use Rattle.name_meaning.specs.declared.nodes.within.Within.{Within}

-- ---- lists that hold nothing

breaks-append : (os more : List Operand) → parts_breaks (os ++ more) ≡ parts_breaks os ++ parts_breaks more
breaks-append [] more = refl
breaks-append (o ∷ os) more =
    ap (λ (rest : List Break). o.meant.breaks ++ rest) (breaks-append os more) ∙ sym (append_assoc o.meant.breaks (parts_breaks os) (parts_breaks more))

-- ---- what was found

pub with-nothing : (w : Within) → with_found w [] [] ≡ w
with-nothing w =
    ap (λ (subs : List Sublink). record { subs = subs; aggregates = w.aggregates ++ [] }) (append-nil w.subs)
    ∙ ap (λ (aggregates : List Aggr). record { subs = w.subs; aggregates = aggregates }) (append-nil w.aggregates)

pub with-both : (w : Within) (s t : List Sublink) (a b : List Aggr) → with_found (with_found w s a) t b ≡ with_found w (s ++ t) (a ++ b)
with-both w s t a b =
    ap (λ (subs : List Sublink). record { subs = subs; aggregates = (w.aggregates ++ a) ++ b }) (append_assoc w.subs s t)
    ∙ ap (λ (aggregates : List Aggr). record { subs = w.subs ++ (s ++ t); aggregates = aggregates }) (append_assoc w.aggregates a b)

pub before-with : (w : Within) (s : List Sublink) (a : List Aggr) → before_of (with_found w s a) ≡ behind (before_of w) s a
before-with w s a =
    ap (λ (n : ℕ). record { subs = n; aggregates = length (w.aggregates ++ a) }) (length-append w.subs s)
    ∙ ap (λ (n : ℕ). record { subs = length w.subs + length s; aggregates = n }) (length-append w.aggregates a)

pub behind-nothing : (b : Before) → behind b [] [] ≡ b
behind-nothing b =
    let subs : b.subs + 0 ≡ b.subs = omega arith in
    let aggregates : b.aggregates + 0 ≡ b.aggregates = omega arith in
    ap (λ (n : ℕ). record { subs = n; aggregates = b.aggregates + 0 }) subs ∙ ap (λ (n : ℕ). record { subs = b.subs; aggregates = n }) aggregates

added : {X : Type 0} (n : ℕ) (xs ys : List X) → n + length xs + length ys ≡ n + length (xs ++ ys)
added n xs ys = rw length-append (omega arith)

pub behind-both : (b : Before) (s t : List Sublink) (x y : List Aggr) → behind (behind b s x) t y ≡ behind b (s ++ t) (x ++ y)
behind-both b s t x y =
    ap (λ (n : ℕ). record { subs = n; aggregates = b.aggregates + length x + length y }) (added b.subs s t)
    ∙ ap (λ (n : ℕ). record { subs = b.subs + length (s ++ t); aggregates = n }) (added b.aggregates x y)

-- ---- operands

abbrev both_parts : BuiltParts → BuiltParts → BuiltParts
both_parts a b = record { exprs = a.exprs ++ b.exprs; subs = a.subs ++ b.subs; aggregates = a.aggregates ++ b.aggregates }

first-of-both : (first : Built) (a b : BuiltParts) → built_first first (both_parts a b) ≡ both_parts (built_first first a) b
first-of-both first a b =
    ap (λ (subs : List Sublink). record { exprs = first.expr ∷ (a.exprs ++ b.exprs); subs = subs; aggregates = first.aggregates ++ (a.aggregates ++ b.aggregates) })
    (sym (append_assoc first.subs a.subs b.subs))
    ∙ ap (λ (aggregates : List Aggr). record { exprs = first.expr ∷ (a.exprs ++ b.exprs); subs = (first.subs ++ a.subs) ++ b.subs; aggregates = aggregates })
    (sym (append_assoc first.aggregates a.aggregates b.aggregates))

parts-append : (kind : Kind) (os more : List Operand) (before : Before)
    → made_parts kind (os ++ more) before
    ≡ both_parts (made_parts kind os before) (made_parts kind more (behind before (made_parts kind os before).subs (made_parts kind os before).aggregates))
parts-append kind [] more before = ap (made_parts kind more) (sym (behind-nothing before))
parts-append kind (o ∷ os) more before =
    let first = o.meant.make (wanted_of kind o.need) before in
    let rest = made_parts kind os (behind before first.subs first.aggregates) in
    ap (built_first first) (parts-append kind os more (behind before first.subs first.aggregates))
    ∙ first-of-both first rest (made_parts kind more (behind (behind before first.subs first.aggregates) rest.subs rest.aggregates))
    ∙ ap (λ (b : Before). both_parts (built_first first rest) (made_parts kind more b)) (behind-both before first.subs rest.subs first.aggregates rest.aggregates)

pub none-more : (may_link : Bool) (kind : Kind) (es : List Expr) (w : Within) → MakesMore may_link kind [] es es w w
none-more may_link kind es w =
    record { makes = λ _. record { exprs = sym (append-nil es); found = sym (with-nothing w) }; unlinked = λ _. refl }

pub one-more : (may_link : Bool) (kind : Kind) (o : Operand) (es : List Expr) (e : Expr) (old new : Within)
    → Makes may_link o.meant (wanted_of kind o.need) e old new → MakesMore may_link kind (o ∷ []) es (es ++ e ∷ []) old new
one-more may_link kind o es e old new made =
    let first = o.meant.make (wanted_of kind o.need) (before_of old) in
    record {
      makes = λ whole.
          let built = made.makes (front-none o.meant.breaks [] whole) in
          record {
            exprs = ap (λ (e : Expr). es ++ e ∷ []) built.expr;
            found = built.found ∙ ap (λ (subs : List Sublink). with_found old subs first.aggregates) (sym (append-nil first.subs))
                ∙ ap (λ (aggregates : List Aggr). with_found old (first.subs ++ []) aggregates) (sym (append-nil first.aggregates));
          };
      unlinked = made.unlinked;
    }

pub more-more : (may_link : Bool) (kind : Kind) (os more : List Operand) (p q r : List Expr) (a b c : Within)
    → MakesMore may_link kind os p q a b → MakesMore may_link kind more q r b c → MakesMore may_link kind (os ++ more) p r a c
more-more may_link kind os more p q r a b c first second =
    record {
      makes = λ whole.
          let breaks : parts_breaks os ++ parts_breaks more ≡ [] = sym (breaks-append os more) ∙ whole in
          let parts = made_parts kind os (before_of a) in
          let one = first.makes (front-none (parts_breaks os) (parts_breaks more) breaks) in
          let two = second.makes (back-none (parts_breaks os) (parts_breaks more) breaks) in
          let at : before_of b ≡ behind (before_of a) parts.subs parts.aggregates = ap before_of one.found ∙ before-with a parts.subs parts.aggregates in
          let rest = made_parts kind more (behind (before_of a) parts.subs parts.aggregates) in
          let all : both_parts parts rest ≡ made_parts kind (os ++ more) (before_of a) = sym (parts-append kind os more (before_of a)) in
          record {
            exprs = two.exprs ∙ ap (λ (b : Before). q ++ (made_parts kind more b).exprs) at ∙ ap (λ (q : List Expr). q ++ rest.exprs) one.exprs
                ∙ append_assoc p parts.exprs rest.exprs ∙ ap (λ (parts : BuiltParts). p ++ parts.exprs) all;
            found = two.found ∙ ap (λ (before : Before). with_found b (made_parts kind more before).subs (made_parts kind more before).aggregates) at
                ∙ ap (λ (w : Within). with_found w rest.subs rest.aggregates) one.found ∙ with-both a parts.subs rest.subs parts.aggregates rest.aggregates
                ∙ ap (λ (parts : BuiltParts). with_found a parts.subs parts.aggregates) all;
          };
      unlinked = λ none. second.unlinked none ∙ first.unlinked none;
    }

-- a node of operands that are made
pub node-made : (may_link : Bool) (gives : Gives) (assembled : List Expr → Expr) (os : List Operand) (wanted : Kind) (es : List Expr) (old new : Within)
    → MakesMore may_link (settled (united os) (alike_wanted gives wanted)) os [] es old new
    → Makes may_link (node gives assembled os) wanted (assembled es) old new
node-made may_link gives assembled os wanted es old new made =
    record {
      makes = λ whole.
          let built = made.makes (front-none (parts_breaks os) (unfit_break (first_unfit None os)) whole) in
          record { expr = ap assembled built.exprs; found = built.found };
      unlinked = made.unlinked;
    }
