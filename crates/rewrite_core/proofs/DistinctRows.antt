-- What is a rewriting of a query is one of its distinct rows.
use Rattle.std.proofs.Common.{◌≡◌, Bool, true, cond, List, [], Contains, sym, ◌∙◌, subst}
use Rattle.bag_algebra.proofs.BagLaws.{member-once}
use Rattle.bag_algebra.specs.Bags.{Row, Bag, once}
use Rattle.bag_algebra.specs.built.Openings.{Distinct-is}
use Rattle.bag_algebra.specs.Meaning.{meaning, witnesses}
use Rattle.bag_algebra.specs.Means.{Witness, with_lists}
use Rattle.bag_algebra.specs.Outcome.{Outcome, Good, Bad, mapped}
use Rattle.bag_algebra.specs.built.Patterns.{DistinctOf}
use Rattle.bag_algebra.specs.Rewriting.{IsRewrite}
use Rattle.bag_algebra.specs.declared.query.Query.{Query}
use Rattle.bag_algebra.specs.declared.query.Query.TheVariants.{Distinct}
use Rattle.rewrite_core.proofs.RuleRows.{beside-from_rewrite, rows-from_beside}
use Rattle.rewrite_core.specs.rewritings.Rewritten.{Rewritten}

-- a row that is there has its lists
listed : (there : Bool) (ws : List Witness) (w : Witness) → there ≡ true → Contains ws w → Contains (cond there ws []) w
listed there ws w e c = subst (λ b. Contains (cond b ws []) w) (sym e) c

unlisted : (there : Bool) (ws : List Witness) (w : Witness) → there ≡ true → Contains (cond there ws []) w → Contains ws w
unlisted there ws w e c = subst (λ b. Contains (cond b ws []) w) e c

distinct-beside : (lists : Row → List Witness) (o s : Outcome Bag) → Rewritten lists o s →
    Rewritten (with_lists (mapped once o) lists).lists (with_lists (mapped once o) lists).rows s
distinct-beside lists (Good us) (Good vs) b = record {
  covers = λ t h.
      let old = b.covers t (sym (member-once t us) ∙ h) in
      record { list = old.list; is_list = listed _ (lists t) old.list h old.is_list };
  there = λ t w h c. b.there t w (sym (member-once t us) ∙ h) (unlisted _ (lists t) w h c);
  back = λ x h.
      let r = b.back x h in
      let row = member-once r.origin us ∙ r.row in
      record { origin = r.origin; list = r.list; row = row; is_list = listed _ (lists r.origin) r.list row r.is_list; whole = r.whole };
}
distinct-beside lists (Good us) (Bad g) b = b
distinct-beside lists (Bad f) (Good vs) b = b
distinct-beside lists (Bad f) (Bad g) b = b

rewrite-DistinctOf : (q p : Query) → IsRewrite q p → IsRewrite (DistinctOf q) p
rewrite-DistinctOf q p r = record {
  plain = r.plain;
  kinds = r.kinds;
  formed = r.formed;
  tables = r.tables;
  rows = λ outer db env formed fitting env_fitting.
      rows-from_beside (DistinctOf q) p db env
      (distinct-beside (witnesses q db env) (meaning q db env) (meaning p db env) (beside-from_rewrite q p db env r outer formed fitting env_fitting));
}

pub rewrite-Distinct : (q p : Query) → IsRewrite q p → IsRewrite (Distinct q) p
rewrite-Distinct q p r = subst (λ n. IsRewrite n p) (sym (Distinct-is q)) (rewrite-DistinctOf q p r)
