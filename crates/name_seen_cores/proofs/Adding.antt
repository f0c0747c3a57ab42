-- Operands gone through one behind another: what they come to, and the facts of their sublinks.
use Rattle.std.specs.Prelude.{◌≡◌, List, [], ◌∷◌, ◌++◌, Option, Result, Ok, Err}
use Rattle.std.proofs.Common.{refl, ap, sym, ◌∙◌, append_assoc}
use Rattle.perm_values.specs.declared.kind.Kind.{Kind}
use Rattle.bag_algebra.specs.declared.query.Sublink.{Sublink}
use Rattle.name_meaning.specs.Meanings.{Before}
use Rattle.name_meaning.specs.Operands.{Operand, wanted_of, behind, made_parts}
use Rattle.name_meaning.specs.declared.answer.Break.{Break}
use Rattle.name_meaning.specs.laws.Facts.{Facts, both_facts, sub_facts}
use Rattle.name_meaning.proofs.FactsOf.{both_facts-assoc, sub_facts-append}
use Rattle.name_seen_parts.specs.Seen.{seen, with_operand, after, operands_seen}
use Rattle.name_seen_parts.specs.declared.operands.Operands.{Operands}

-- ---- what is found

after-after : {X Y Z : Type 0} (r : Result X Break) (f : X → Result Y Break) (g : Y → Result Z Break)
    → after (after r f) g ≡ after r (λ x. after (f x) g)
after-after (Ok x) f g = refl
after-after (Err first) f g = refl

after-same : {X Y : Type 0} (r : Result X Break) (f g : X → Result Y Break) → ((x : X) → f x ≡ g x) → after r f ≡ after r g
after-same (Ok x) f g e = e x
after-same (Err first) f g e = refl

pub seen-both : (os ps : List Operand) (so_far : Operands)
    → operands_seen so_far (os ++ ps) ≡ after (operands_seen so_far os) (λ (all : Operands). operands_seen all ps)
seen-both [] ps so_far = refl
seen-both (o ∷ os) ps so_far =
    after-same (seen o.meant) (λ (kind : Option Kind). operands_seen (with_operand o.need o.at kind so_far) (os ++ ps))
    (λ (kind : Option Kind). after (operands_seen (with_operand o.need o.at kind so_far) os) (λ (all : Operands). operands_seen all ps))
    (λ kind. seen-both os ps (with_operand o.need o.at kind so_far))
    ∙ sym (after-after (seen o.meant) (λ (kind : Option Kind). operands_seen (with_operand o.need o.at kind so_far) os) (λ (all : Operands). operands_seen all ps))

-- ---- their sublinks

abbrev pub before_next : Kind → Operand → Before → Before
before_next alike o before = behind before (o.meant.make (wanted_of alike o.need) before).subs (o.meant.make (wanted_of alike o.need) before).aggregates

abbrev pub before_behind : Kind → List Operand → Before → Before
before_behind alike [] before = before
before_behind alike (o ∷ os) before = before_behind alike os (before_next alike o before)

pub made-both : (alike : Kind) (os ps : List Operand) (before : Before)
    → (made_parts alike (os ++ ps) before).subs ≡ (made_parts alike os before).subs ++ (made_parts alike ps (before_behind alike os before)).subs
made-both alike [] ps before = refl
made-both alike (o ∷ os) ps before =
    ap (λ (subs : List Sublink). (o.meant.make (wanted_of alike o.need) before).subs ++ subs) (made-both alike os ps (before_next alike o before))
    ∙ sym (append_assoc (o.meant.make (wanted_of alike o.need) before).subs (made_parts alike os (before_next alike o before)).subs
    (made_parts alike ps (before_behind alike os (before_next alike o before))).subs)

pub adds-both : (os ps : List Operand) (old middle new : Facts)
    → ((alike : Kind) (before : Before) → middle ≡ both_facts old (sub_facts (made_parts alike os before).subs))
    → ((alike : Kind) (before : Before) → new ≡ both_facts middle (sub_facts (made_parts alike ps before).subs))
    → (alike : Kind) (before : Before) → new ≡ both_facts old (sub_facts (made_parts alike (os ++ ps) before).subs)
adds-both os ps old middle new first second alike before =
    second alike (before_behind alike os before)
    ∙ ap (λ (facts : Facts). both_facts facts (sub_facts (made_parts alike ps (before_behind alike os before)).subs)) (first alike before)
    ∙ both_facts-assoc old (sub_facts (made_parts alike os before).subs) (sub_facts (made_parts alike ps (before_behind alike os before)).subs)
    ∙ ap (both_facts old) (sym (sub_facts-append (made_parts alike os before).subs (made_parts alike ps (before_behind alike os before)).subs))
    ∙ ap (λ (subs : List Sublink). both_facts old (sub_facts subs)) (sym (made-both alike os ps before))
