use Rattle.std.proofs.Common.{◌≡◌, refl, sym, subst}
use Rattle.row_nodes.specs.Keeping.{KeptOf}
use Rattle.row_nodes.specs.declared.keeping.Keeping.TheVariants.{Nothing}
use Rattle.row_nodes.proofs.Leading.{lead_kept, whole_leads, below_itself}
use Rattle.row_nodes.proofs.keeping.kept_of.Goals as goal

pub returns-then-not-is_hashed : goal.returns-then-not-is_hashed
returns-then-not-is_hashed c = subst (λ b. KeptOf b c.args.query.now Nothing) (sym c.if-not-is_hashed.true) refl

pub returns-in-Some : goal.returns-in-Some
returns-in-Some c =
    subst (λ b. KeptOf b c.args.query.now c.least.result) (sym c.if-not-is_hashed.false)
    (lead_kept c.args.query.now c.least.result
    (c.least.ensures c.args.query.now (below_itself c.args.query.now) (whole_leads c.args.query.now c.in-Some.whole (c.reach.ensures.value c.in-Some.whole c.in-Some.is))))

pub returns-in-None : goal.returns-in-None
returns-in-None c = subst (λ b. KeptOf b c.args.query.now Nothing) (sym c.if-not-is_hashed.false) c.in-None.ensures.none
