use Rattle.std.proofs.Common.{sym, ◌∙◌, subst}
use Rattle.std.proofs.lemmas.Result.{IfOk-weaker}
use Rattle.bag_algebra.specs.declared.query.Query.TheVariants.{Filter}
use Rattle.simplifier.specs.Forced.{SubFinds}
use Rattle.simplifier.proofs.AskedRows.{only}
use Rattle.simplifier.proofs.forced.finds.Goals as goal

pub returns-in-len1 : goal.returns-in-len1
returns-in-len1 c =
    let here = c.in-Filter in
    let one = sym c.as_slice.ensures ∙ only c.as_slice.result.now c.sub-item.result c.in-len1.len_at_least c.in-len1.len_below c.sub-item.is in
    let first = c.is_first.ensures c.if-not-is_first.false in
    IfOk-weaker c.only_finds.result _ _ (λ found h held. record {
      input = here.input;
      sub = c.sub-item.result;
      is = here.is ∙ (λ i. Filter here.input (first i) (one i));
      finds = subst (λ input. SubFinds input c.sub-item.result c.args.right.now c.args.on.now) c.get.ensures (h held);
    }) c.only_finds.ensures
