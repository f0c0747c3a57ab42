-- What stands for a dependent join that keeps left rows: the join over a spine, and the dependent join itself.
use Rattle.std.proofs.Common.{◌≡◌, true, refl, sym, subst}
use Rattle.std.specs.Prelude.{IsTrue}
use Rattle.bag_algebra.proofs.Outcomes.{same_rows-itself}
use Rattle.bag_algebra.proofs.TablesRead.{reads_among-itself}
use Rattle.bag_algebra.specs.built.Openings.{Apply-is}
use Rattle.bag_algebra.specs.built.Patterns.{ApplyOf}
use Rattle.bag_algebra.specs.Kinds.{width_of}
use Rattle.bag_algebra.specs.Meaning.{meaning}
use Rattle.bag_algebra.specs.declared.query.JoinKind.{JoinKind}
use Rattle.bag_algebra.specs.declared.query.JoinKind.TheVariants.{Left}
use Rattle.bag_algebra.specs.declared.query.Query.{Query}
use Rattle.bag_algebra.specs.declared.query.Query.TheVariants.{Apply}
use Rattle.query_laws.proofs.SpineForms.{kinds-spine_join, plain-spine_join, tables-spine_join, formed-spine_join}
use Rattle.query_laws.proofs.SpineJoins.{rows-spine_join}
use Rattle.query_laws.specs.spines.Spines.{IsBeside, IsJoined, IsSpine, all_behind, dependent, ordinary, spine_join}
use Rattle.query_laws.specs.declared.spines.spine.Spine.{Spine}

module _ (rows right : Query) where
  left-spine : (spine : Spine) → IsSpine (width_of rows) right spine → all_behind (width_of rows) spine.items ≡ true → IsBeside rows right (spine_join Left rows spine)
  left-spine spine is behind = record {
    kinds = kinds-spine_join Left rows right spine is;
    plain = plain-spine_join Left rows right spine is;
    tables = tables-spine_join Left rows right spine is;
    formed = formed-spine_join Left rows right spine is;
    same = λ outer db env fits. rows-spine_join Left rows right spine outer db env is (λ e. behind) fits;
  }

  left-itself : IsBeside rows right (ApplyOf Left rows right)
  left-itself = record {
    kinds = refl;
    plain = refl;
    tables = reads_among-itself (ApplyOf Left rows right);
    formed = λ outer f. f;
    same = λ outer db env fits. same_rows-itself (meaning (ApplyOf Left rows right) db env);
  }

  pub beside-spine : (kind : JoinKind) (spine : Spine) → kind ≡ Left → IsSpine (width_of rows) right spine × IsTrue (all_behind (width_of rows) spine.items) →
      IsBeside rows right (spine_join kind rows spine)
  beside-spine kind spine e found = subst (λ k. IsBeside rows right (spine_join k rows spine)) (sym e) (left-spine spine found.0 found.1)

  pub joined-spine : (kind : JoinKind) (spine : Spine) → kind ≡ Left → IsSpine (width_of rows) right spine × IsTrue (all_behind (width_of rows) spine.items) →
      IsJoined rows right (spine_join kind rows spine)
  joined-spine kind spine e found = subst (λ k. IsJoined rows right (spine_join k rows spine)) (sym e) (ordinary spine found.0)

  pub joined-itself : (kind : JoinKind) → kind ≡ Left → IsJoined rows right (Apply kind rows right)
  joined-itself kind e =
      subst (λ k. IsJoined rows right (Apply k rows right)) (sym e) (subst (IsJoined rows right) (sym (Apply-is Left rows right)) dependent)

  pub beside-itself : (kind : JoinKind) → kind ≡ Left → IsBeside rows right (Apply kind rows right)
  beside-itself kind e =
      subst (λ k. IsBeside rows right (Apply k rows right)) (sym e) (subst (IsBeside rows right) (sym (Apply-is Left rows right)) left-itself)
