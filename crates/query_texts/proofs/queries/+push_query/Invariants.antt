use Rattle.std.proofs.Common.{◌≡◌, take}
use Rattle.query_texts.specs.QueryTexts.{subs_texts}
use Rattle.query_texts.proofs.queries.+push_query.Given as goal

abbrev pub invariant-sub_texts-loop-sub : goal.invariant-sub_texts-loop-sub
invariant-sub_texts-loop-sub l = l.texts ≡ subs_texts l.frame.tables.now l.frame.prefix.now (take l.sub-index l.subs)
