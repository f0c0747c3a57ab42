-- What is left to show of a rule, once what its inputs mean is taken apart: that node and rewriting are bad alike, and where
-- they are good, that the rewriting has the node's rows beside their lists, and no others.
use Rattle.std.proofs.Common.{◌≡◌, List, refl, sym, ap, ◌∙◌, subst, subst₂}
use Rattle.bag_algebra.specs.Bags.{Row, Bag}
use Rattle.bag_algebra.specs.Meaning.{Database, meaning, witnesses}
use Rattle.bag_algebra.specs.Means.{Witness}
use Rattle.bag_algebra.specs.Outcome.{Outcome, Good, Bad, and_then, both_then, union}
use Rattle.bag_algebra.specs.declared.query.Query.{Query}
use Rattle.rewrite_core.proofs.Faults.{SameFaults}
use Rattle.rewrite_core.proofs.FlatRows.{Flattened, beside-flattened}
use Rattle.rewrite_core.specs.rewritings.Rewritten.{Beside, Rewritten}

-- both are good and stand beside one another, or both are bad with one set of faults
pub data BothStand (lists : Row → List Witness) : Outcome Bag → Outcome Bag → Type 0 where
  both_good : (us vs : Bag) → Beside lists us vs → BothStand lists (Good us) (Good vs)
  both_bad : (f : _) → BothStand lists (Bad f) (Bad f)

pub both_stand : (lists : Row → List Witness) (o s : Outcome Bag) → Rewritten lists o s → BothStand lists o s
both_stand lists (Good us) (Good vs) r = both_good us vs r
both_stand lists (Good us) (Bad g) r = absurd r
both_stand lists (Bad f) (Good vs) r = absurd r
both_stand lists (Bad f) (Bad g) r = subst (λ h. BothStand lists (Bad f) (Bad h)) r (both_bad f)

module _ (n p : Query) (db : Database) (env : List Row) where
  pub rewritten-where : (o s : Outcome Bag) → meaning n db env ≡ o → meaning p db env ≡ s → SameFaults o s →
      ((ts zs : Bag) → o ≡ Good ts → s ≡ Good zs → Flattened (witnesses n db env) ts zs) →
      Rewritten (witnesses n db env) (meaning n db env) (meaning p db env)
  rewritten-where (Good ts) (Good zs) e f same rows =
      subst₂ (Rewritten (witnesses n db env)) (sym e) (sym f) (beside-flattened n db env ts zs e (rows ts zs refl refl))
  rewritten-where (Good ts) (Bad g) e f same rows = absurd same
  rewritten-where (Bad g) (Good zs) e f same rows = absurd same
  rewritten-where (Bad g) (Bad h) e f same rows = subst₂ (Rewritten (witnesses n db env)) (sym e) (sym f) same

  -- what is left of a node: made of good rows, node and rewriting are bad alike, and else stand beside one another
  pub record Made (o s : Outcome Bag) : Type 0 where
    pub faults : SameFaults o s
    pub rows : (ts zs : Bag) → o ≡ Good ts → s ≡ Good zs → Flattened (witnesses n db env) ts zs

  -- a node over one input
  module _ (q r : Query) (make remake : Bag → Outcome Bag) (node : meaning n db env ≡ and_then (meaning q db env) make)
      (rewriting : meaning p db env ≡ and_then (meaning r db env) remake) where
    pub rewritten-over : Rewritten (witnesses q db env) (meaning q db env) (meaning r db env) →
        ((us vs : Bag) → meaning q db env ≡ Good us → Beside (witnesses q db env) us vs → Made (make us) (remake vs)) →
        Rewritten (witnesses n db env) (meaning n db env) (meaning p db env)
    rewritten-over given made = by_input (meaning q db env) (meaning r db env) refl refl (both_stand (witnesses q db env) (meaning q db env) (meaning r db env) given) where
      by_input : (o s : Outcome Bag) → meaning q db env ≡ o → meaning r db env ≡ s → BothStand (witnesses q db env) o s →
          Rewritten (witnesses n db env) (meaning n db env) (meaning p db env)
      by_input o s e f (both_good us vs b) =
          let m = made us vs e b in
          rewritten-where (make us) (remake vs) (node ∙ ap (λ o. and_then o make) e) (rewriting ∙ ap (λ o. and_then o remake) f) m.faults m.rows
      by_input o s e f (both_bad g) =
          rewritten-where (Bad g) (Bad g) (node ∙ ap (λ o. and_then o make) e) (rewriting ∙ ap (λ o. and_then o remake) f) refl (λ ts zs i j. absurd (cc i))

  -- a node over two inputs
  module _ (left left_rewriting right right_rewriting : Query) (make remake : Bag → Bag → Outcome Bag)
      (node : meaning n db env ≡ both_then (meaning left db env) (meaning right db env) make)
      (rewriting : meaning p db env ≡ both_then (meaning left_rewriting db env) (meaning right_rewriting db env) remake) where
    pub rewritten-over_both : Rewritten (witnesses left db env) (meaning left db env) (meaning left_rewriting db env) →
        Rewritten (witnesses right db env) (meaning right db env) (meaning right_rewriting db env) →
        ((us xs vs ys : Bag) → meaning left db env ≡ Good us → meaning right db env ≡ Good vs →
        Beside (witnesses left db env) us xs → Beside (witnesses right db env) vs ys → Made (make us vs) (remake xs ys)) →
        Rewritten (witnesses n db env) (meaning n db env) (meaning p db env)
    rewritten-over_both given also made =
        by_inputs refl refl refl refl (both_stand (witnesses left db env) (meaning left db env) (meaning left_rewriting db env) given)
        (both_stand (witnesses right db env) (meaning right db env) (meaning right_rewriting db env) also)
      where
        by_bad : (g : _) {o s k l : Outcome Bag} → both_then o k make ≡ Bad g → both_then s l remake ≡ Bad g →
            meaning left db env ≡ o → meaning left_rewriting db env ≡ s → meaning right db env ≡ k → meaning right_rewriting db env ≡ l →
            Rewritten (witnesses n db env) (meaning n db env) (meaning p db env)
        by_bad g bad rebad e f i j =
            rewritten-where (Bad g) (Bad g) (node ∙ (λ a. both_then (e a) (i a) make) ∙ bad) (rewriting ∙ (λ a. both_then (f a) (j a) remake) ∙ rebad) refl
            (λ ts zs h l. absurd (cc h))

        by_inputs : {o s k l : Outcome Bag} → meaning left db env ≡ o → meaning left_rewriting db env ≡ s → meaning right db env ≡ k → meaning right_rewriting db env ≡ l →
            BothStand (witnesses left db env) o s → BothStand (witnesses right db env) k l →
            Rewritten (witnesses n db env) (meaning n db env) (meaning p db env)
        by_inputs e f i j (both_good us xs b) (both_good vs ys d) =
            let m = made us xs vs ys e i b d in
            rewritten-where (make us vs) (remake xs ys) (node ∙ (λ a. both_then (e a) (i a) make)) (rewriting ∙ (λ a. both_then (f a) (j a) remake)) m.faults m.rows
        by_inputs e f i j (both_good us xs b) (both_bad g) = by_bad g refl refl e f i j
        by_inputs e f i j (both_bad g) (both_good vs ys d) = by_bad g refl refl e f i j
        by_inputs e f i j (both_bad g) (both_bad h) = by_bad (union g h) refl refl e f i j
