use Rattle.std.specs.Prelude.{ℕ, not, List, [], ◌∷◌, ◌++◌, nat_eq}
use Rattle.std.proofs.Common.{ap, ◌∙◌}
use Rattle.std.specs.Cmp.Lexicographic.{pointwise}
use Rattle.perm_catalog.specs.sets.Named.{is_named}
use Rattle.perm_catalog.proofs.sets.Added.{pushed}
use Rattle.perm_catalog.proofs.sets.names.Names.add.Goals as goal

pub returns-clause-tells : goal.returns-clause-tells
returns-clause-tells c =
    c.in_ok-is_new.ensures.added ∙ ap (λ (name : List ℕ). not (is_named c.args.self.now.known.keys name)) c.in_ok-copied.ensures

pub returns-clause-adds : goal.returns-clause-adds
returns-clause-adds c = λ fresh.
    c.in_ok-is_new.ensures.keys
    ∙ pushed (pointwise nat_eq) c.args.self.now.known.keys c.in_ok-copied.copied c.in_ok-is_new.is_new c.in_ok-is_new.ensures.added fresh
    ∙ ap (λ (name : List ℕ). c.args.self.now.known.keys ++ name ∷ []) c.in_ok-copied.ensures
