-- A node over operands: what the code finds of it by going through them once is what the definition says of the whole.
use Rattle.std.specs.Prelude.{◌≡◌, ℕ, Bool, true, false, cond, is_some, List, [], ◌∷◌, ◌++◌, Option, Some, None, Result}
use Rattle.std.proofs.Common.{refl, ap, ◌∙◌}
use Rattle.bag_algebra.specs.declared.expr.Expr.{Expr}
use Rattle.perm_values.specs.declared.kind.Kind.{Kind}
use Rattle.name_meaning.specs.Meanings.{is_whole, unites, united_kind}
use Rattle.name_meaning.specs.Operands.{Operand, unfit_from, first_unfit, united_from, united, parts_breaks, unfit_break, given_kind, node}
use Rattle.name_meaning.specs.declared.answer.Break.{Break}
use Rattle.name_meaning.specs.declared.need.Gives.{Gives}
use Rattle.name_meaning.specs.declared.need.Gives.TheVariants.{Always, Common}
use Rattle.name_meaning.specs.declared.need.Need.{Need}
use Rattle.name_meaning.specs.declared.need.Need.TheVariants.{OfKind, Alike, Free}
use Rattle.name_seen_parts.specs.Seen.{first_or, seen, no_operand, fitted, with_operand, kind_given, unfit_or, whole_of, after, operands_seen}
use Rattle.name_seen_parts.specs.declared.operands.Operands.{Operands}
use Rattle.name_meaning.proofs.Uniting.{united-assoc}

abbrev or_first : Option ℕ → Option ℕ → Option ℕ
or_first None later = later
or_first (Some at) later = Some at

abbrev given_with : Gives → Option Kind → Option Kind → Option Kind
given_with gives so_far rest = kind_given gives (united_kind so_far rest)

-- ---- one operand

fit-or : (fits : Bool) (at : ℕ) (so_far : Operands) (rest : Option ℕ)
    → or_first (fitted fits at so_far).unfit rest ≡ or_first so_far.unfit (cond fits rest (Some at))
fit-or fits at so_far rest = by_unfit fits so_far.unfit so_far refl where
  by_unfit : (fits : Bool) (unfit : Option ℕ) (so_far : Operands) → so_far.unfit ≡ unfit
      → or_first (fitted fits at so_far).unfit rest ≡ or_first so_far.unfit (cond fits rest (Some at))
  by_unfit true None so_far e = refl
  by_unfit true (Some first) so_far e = rw e refl
  by_unfit false None so_far e = rw e refl
  by_unfit false (Some first) so_far e = rw e refl

common-kept : (fits : Bool) (at : ℕ) (so_far : Operands) → (fitted fits at so_far).common ≡ so_far.common
common-kept true at so_far = refl
common-kept false at so_far = kept (is_some so_far.unfit) where
  kept : (later : Bool) → (cond later so_far (record so_far { unfit = Some at })).common ≡ so_far.common
  kept true = refl
  kept false = refl

unfit-with : (need : Need) (at : ℕ) (found : Option Kind) (so_far : Operands) (rest : Option Kind → Option ℕ)
    → or_first (with_operand need at found so_far).unfit (rest (with_operand need at found so_far).common)
    ≡ or_first so_far.unfit (unfit_from need at found so_far.common rest)
unfit-with (OfKind kind) at found so_far rest =
    ap (λ (common : Option Kind). or_first (fitted (unites (Some kind) found) at so_far).unfit (rest common)) (common-kept (unites (Some kind) found) at so_far)
    ∙ fit-or (unites (Some kind) found) at so_far (rest so_far.common)
unfit-with Alike at found so_far rest = fit-or (unites so_far.common found) at so_far (rest (united_kind so_far.common found))
unfit-with Free at found so_far rest = refl

common-with : (need : Need) (at : ℕ) (found : Option Kind) (so_far : Operands) (rest : Option Kind)
    → united_kind (with_operand need at found so_far).common rest ≡ united_kind so_far.common (united_from need found rest)
common-with (OfKind kind) at found so_far rest =
    ap (λ (common : Option Kind). united_kind common rest) (common-kept (unites (Some kind) found) at so_far)
common-with Alike at found so_far rest = united-assoc so_far.common found rest
common-with Free at found so_far rest = refl

-- ---- all operands

-- the definition's list and kind, behind operands that were seen
abbrev told : Gives → Operands → List Operand → Result (Option Kind) Break
told gives so_far os =
    first_or (parts_breaks os ++ unfit_break (or_first so_far.unfit (first_unfit so_far.common os))) (given_with gives so_far.common (united os))

-- with the breaks and the kind of the first operand as given
abbrev told_first : Gives → Operands → Need → ℕ → List Break → Option Kind → List Operand → Result (Option Kind) Break
told_first gives so_far need at breaks found os =
    first_or ((breaks ++ parts_breaks os) ++ unfit_break (or_first so_far.unfit (unfit_from need at found so_far.common (λ common. first_unfit common os))))
    (given_with gives so_far.common (united_from need found (united os)))

behind-first : (gives : Gives) (so_far : Operands) (need : Need) (at : ℕ) (found : Option Kind) (os : List Operand)
    → told gives (with_operand need at found so_far) os ≡ told_first gives so_far need at [] found os
behind-first gives so_far need at found os =
    ap (λ (unfit : Option ℕ). first_or (parts_breaks os ++ unfit_break unfit) (given_with gives (with_operand need at found so_far).common (united os)))
    (unfit-with need at found so_far (λ (common : Option Kind). first_unfit common os))
    ∙ ap (λ (common : Option Kind). first_or (parts_breaks os ++ unfit_break (or_first so_far.unfit (unfit_from need at found so_far.common (λ common. first_unfit common os)))) (kind_given gives common))
    (common-with need at found so_far (united os))

seen-first : (gives : Gives) (so_far : Operands) (need : Need) (at : ℕ) (breaks : List Break) (kind : Option Kind) (os : List Operand)
    → ((behind : Operands) → after (operands_seen behind os) (whole_of gives) ≡ told gives behind os)
    → after (after (first_or breaks kind) (λ (found : Option Kind). operands_seen (with_operand need at found so_far) os)) (whole_of gives)
    ≡ told_first gives so_far need at breaks (cond (is_whole breaks) kind None) os
seen-first gives so_far need at [] kind os rest = rest (with_operand need at kind so_far) ∙ behind-first gives so_far need at kind os
seen-first gives so_far need at (first ∷ more) kind os rest = refl

at-the-end : (gives : Gives) (unfit : Option ℕ) (common : Option Kind)
    → unfit_or unfit (kind_given gives common) ≡ first_or (unfit_break (or_first unfit None)) (given_with gives common None)
at-the-end gives None None = refl
at-the-end gives None (Some kind) = refl
at-the-end gives (Some at) common = refl

seen-all : (gives : Gives) (os : List Operand) (so_far : Operands) → after (operands_seen so_far os) (whole_of gives) ≡ told gives so_far os
seen-all gives [] so_far = at-the-end gives so_far.unfit so_far.common
seen-all gives (o ∷ os) so_far = seen-first gives so_far o.need o.at o.meant.breaks o.meant.kind os (seen-all gives os)

given-whole : (gives : Gives) (os : List Operand) → kind_given gives (united os) ≡ given_kind gives os
given-whole (Always kind) os = refl
given-whole Common os = refl

-- a node is what its operands come to
pub node-seen : (gives : Gives) (assembled : List Expr → Expr) (os : List Operand)
    → after (operands_seen no_operand os) (whole_of gives) ≡ seen (node gives assembled os)
node-seen gives assembled os =
    seen-all gives os no_operand
    ∙ ap (λ (kind : Option Kind). first_or (parts_breaks os ++ unfit_break (first_unfit None os)) kind) (given-whole gives os)
