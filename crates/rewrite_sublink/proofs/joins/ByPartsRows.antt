-- The pairs of a join, with the rows of the kept sides that stand in none of them, are a rewriting of it.
use Rattle.std.proofs.Common.{◌≡◌, ◌↔◌, ◌⊎◌, inl, inr, ℕ, ◌+◌, ◌-◌, true, false, not, cond, List, [], ◌∷◌, ◌++◌, map, length, Contains, refl, sym, ap, ◌∙◌, subst, subst₂, append_assoc, arith, length-append, true≢false}
use Rattle.std.specs.List.{list_any}
use Rattle.perm_values.specs.declared.kind.Kind.{Kind}
use Rattle.perm_values.specs.declared.value.Value.{Value}
use Rattle.perm_values.specs.Rows.{picked}
use Rattle.perm_values.specs.declared.kind.Kind.TheVariants.{Boolean}
use Rattle.perm_values.specs.declared.value.Value.TheVariants.{Null}
use Rattle.perm_values.proofs.Steps.{by}
use Rattle.bag_algebra.proofs.Members.{IsIn, in-filter, in-member}
use Rattle.bag_algebra.proofs.Outcomes.{bad-not_good, mapped-is}
use Rattle.bag_algebra.proofs.TablesRead.{reads_among-itself, reads_among-onward}
use Rattle.bag_algebra.proofs.Truths.{both-true}
use Rattle.bag_algebra.proofs.Widths.{place_kinds-append, places_width}
use Rattle.bag_algebra.specs.Bags.{Row, Bag, nulls, union_of}
use Rattle.bag_algebra.specs.built.Forms.{AllSubsForm, EachTableOfSubs, EachTable-Join, WellFormed-Join, subs_kinds}
use Rattle.bag_algebra.specs.built.Openings.{kinds_of-Join, meaning-Join, rows-with_lists, shape-Join}
use Rattle.bag_algebra.specs.Children.{subs_denote, subs_shape}
use Rattle.bag_algebra.specs.Fits.{TablesFit, bag_fits, env_fits}
use Rattle.bag_algebra.specs.Kinds.{kinds_of, place_kinds, shape, width_of}
use Rattle.bag_algebra.specs.Meaning.{Database, meaning, witnesses, condition_on}
use Rattle.bag_algebra.specs.Means.{Witness, all_empty, flat, good_rows, is_met, joined_rows, keeps_left, keeps_right, met_pairs, unmatched_left, unmatched_right}
use Rattle.bag_algebra.specs.Outcome.{Faults, Outcome, Good, Bad, both, both_then, mapped, union}
use Rattle.bag_algebra.specs.Rewriting.{IsRewrite, is_plain}
use Rattle.bag_algebra.specs.TablesRead.{EachTable, ReadsAmong, tables_read}
use Rattle.bag_algebra.specs.WellFormed.{HasKind, JoinForm, WellFormed}
use Rattle.bag_algebra.specs.declared.expr.Expr.{Expr}
use Rattle.bag_algebra.specs.declared.query.JoinKind.{JoinKind}
use Rattle.bag_algebra.specs.declared.query.JoinKind.TheVariants.{Inner, Left, Right, Full}
use Rattle.bag_algebra.specs.declared.query.Query.{Query}
use Rattle.bag_algebra.specs.declared.query.Query.TheVariants.{Join}
use Rattle.bag_algebra.specs.declared.query.Sublink.{Sublink}
use Rattle.contribution.proofs.BagMembers.{from-union}
use Rattle.contribution.proofs.JoinMembers.{in-joined_rows}
use Rattle.contribution.proofs.NoRowLost.{Joined, pair, left_alone, right_alone}
use Rattle.contribution.proofs.SetMembers.{in-union}
use Rattle.contribution.proofs.SetsOfRows.{Included, included-left, included-refl, included-right, union-same}
use Rattle.contribution.specs.Fitting.{Fitting}
use Rattle.query_laws.proofs.AnswerRows.{answer-in}
use Rattle.query_laws.proofs.JoinLists.{join-lists}
use Rattle.query_laws.proofs.PairedLists.{none-pass}
use Rattle.query_laws.specs.ListsOfNodes as law
use Rattle.query_laws.specs.SublinkLists.{EachContributes, InAnswer}
use Rattle.rewrite_core.proofs.FlatRows.{Flattened, beside-flattened, flattened}
use Rattle.rewrite_core.proofs.JoinedOutcomes.{answer-listed}
use Rattle.rewrite_core.proofs.KeptRows.{flat-all_empty, flat-append, list-width, nulls-append}
use Rattle.rewrite_core.specs.rewritings.Rewritten.{Beside, Rewritten}
use Rattle.rewrite_core.proofs.NodeRows.{BothStand, both_good, both_bad, both_stand}
use Rattle.rewrite_core.proofs.RowColumns.{row-width, width-rewriting}
use Rattle.rewrite_core.proofs.RuleRows.{beside-from_rewrite, rows-from_beside}
use Rattle.rewrite_sublink.proofs.joins.ChosenPairs.{chosen, met, rewrite-met}
use Rattle.rewrite_sublink.proofs.joins.PairColumns.{Widths, five, pair-columns, pair_width}
use Rattle.rewrite_sublink.proofs.joins.SideRows.{AllRows, IsAlone, PairParts, RowParts, Within, bad-alone, blanked, formed-alone, good-alone, kinds-alone, parts_same, plain-alone, tables-alone}
use Rattle.rewrite_sublink.specs.joins.ByParts.{by_parts, left_side, places_in_pair, right_side, row_width, with_alone}
use Rattle.rewrite_sublink.specs.declared.joins.sides.Side.{Side}

-- ---- outcomes

mapped-bad : (make remake : Bag → Bag) (o : Outcome Bag) (f : Faults) → mapped make o ≡ Bad f → mapped remake o ≡ Bad f
mapped-bad make remake (Good bag) f e = absurd (cc e)
mapped-bad make remake (Bad g) f e = e

-- a join that is bad is bad alike whatever its kind
kinds-bad : (condition : Row → Outcome Value) (kind other : JoinKind) (left_width right_width : ℕ) (o s : Outcome Bag) (f : Faults) →
    both_then o s (joined_rows kind condition left_width right_width) ≡ Bad f → both_then o s (joined_rows other condition left_width right_width) ≡ Bad f
kinds-bad condition kind other left_width right_width (Good us) (Good vs) f e = mapped-bad _ _ (met_pairs condition us vs) f e
kinds-bad condition kind other left_width right_width (Good us) (Bad g) f e = e
kinds-bad condition kind other left_width right_width (Bad h) (Good vs) f e = e
kinds-bad condition kind other left_width right_width (Bad h) (Bad g) f e = e

abbrev bad_bag : Faults → Outcome Bag
bad_bag f = Bad f

same_faults : {g f : Faults} → bad_bag g ≡ bad_bag f → g ≡ f
same_faults e = cc

-- ---- lists of five parts

module _ {X : Type 0} (u v l r c : List X) where
  of_both : (u ++ v) ++ ((l ++ r) ++ c) ≡ five u v l r c
  of_both = sym (append_assoc (u ++ v) (l ++ r) c) ∙ ap (λ row. row ++ c) (sym (append_assoc (u ++ v) l r))

  as_left : five u v l r c ≡ five [] u v l (r ++ c)
  as_left = append_assoc (u ++ v ++ l) r c

flat-parts : (l r c : Witness) → flat ((l ++ r) ++ c) ≡ (flat l ++ flat r) ++ flat c
flat-parts l r c = flat-append (l ++ r) c ∙ ap (λ row. row ++ flat c) (flat-append l r)

-- a pair has one part of a side
one_part : (side : Side) (a p b h c d q e k f : Row) → Widths side a p b h c → Widths side d q e k f → five a p b h c ≡ five d q e k f → p ++ h ≡ q ++ k
one_part side a p b h c d q e k f w s same =
    sym (pair-columns Null side p h a p b h c w.own_is w.added_is w)
    ∙ ap (λ z. picked (places_in_pair (row_width side) side) ((p ++ h) ++ z)) same
    ∙ pair-columns Null side p h d q e k f w.own_is w.added_is s

module _ (left left_rewriting right right_rewriting pairs : Query) (condition : Expr) (subs : List Sublink)
    (left_given : IsRewrite left left_rewriting) (right_given : IsRewrite right right_rewriting) (given : IsRewrite (met left right condition subs) pairs) where
  abbrev inner : Query
  inner = met left right condition subs

  abbrev node : JoinKind → Query
  node kind = Join kind left right condition subs

  abbrev lefts : Side
  lefts = left_side left left_rewriting right pairs

  abbrev rights : Side
  rights = right_side left left_rewriting right right_rewriting pairs

  abbrev whole : JoinKind → Query
  whole kind = by_parts kind left left_rewriting right right_rewriting pairs

  plain-whole : (kind : JoinKind) → is_plain (whole kind) ≡ true
  plain-whole Inner = given.plain
  plain-whole Left = plain-alone lefts left_rewriting pairs left_given.plain given.plain
  plain-whole Right = plain-alone rights right_rewriting pairs right_given.plain given.plain
  plain-whole Full =
      both-true _ _ (plain-alone lefts left_rewriting pairs left_given.plain given.plain) (plain-alone rights right_rewriting pairs right_given.plain given.plain)

  tables-whole : (P : ℕ → List Kind → Type 0) (kind : JoinKind) → EachTable P left_rewriting → EachTable P right_rewriting → EachTable P pairs → EachTable P (whole kind)
  tables-whole P Inner l r p = p
  tables-whole P Left l r p = tables-alone lefts left_rewriting pairs P l p
  tables-whole P Right l r p = tables-alone rights right_rewriting pairs P r p
  tables-whole P Full l r p = (tables-alone lefts left_rewriting pairs P l p, tables-alone rights right_rewriting pairs P r p)

  -- the tables of both sides, and those that the node reads
  sides-among : (kind : JoinKind) → ReadsAmong left (node kind) × ReadsAmong right (node kind) × ReadsAmong inner (node kind)
  sides-among kind =
      let each = by (EachTable-Join (λ id kinds. Contains (tables_read (node kind)) (record { id = id; kinds = kinds })) kind left right condition subs) (reads_among-itself (node kind)) in
      (each.0, each.1, by (sym (EachTable-Join (λ id kinds. Contains (tables_read (node kind)) (record { id = id; kinds = kinds })) Inner left right condition subs)) each)

  among-whole : (kind : JoinKind) → ReadsAmong (whole kind) (node kind)
  among-whole kind =
      let among = sides-among kind in
      tables-whole (λ id kinds. Contains (tables_read (node kind)) (record { id = id; kinds = kinds })) kind
      (reads_among-onward left_rewriting left (node kind) left_given.tables among.0)
      (reads_among-onward right_rewriting right (node kind) right_given.tables among.1)
      (reads_among-onward pairs inner (node kind) given.tables among.2)

  module _ (outer : List (List Kind)) (formed : WellFormed outer inner) where
    form : JoinForm (WellFormed outer left) (WellFormed outer right) (AllSubsForm ((kinds_of left ++ kinds_of right) ∷ outer) subs)
        (HasKind ((kinds_of left ++ kinds_of right) ∷ outer) (subs_kinds subs) condition Boolean)
    form = by (WellFormed-Join outer Inner left right condition subs) formed

    abbrev left_places : ℕ
    left_places = places_width (shape left)

    abbrev right_places : ℕ
    right_places = places_width (shape right)

    abbrev sub_places : ℕ
    sub_places = places_width (subs_shape subs)

    left_kinds : kinds_of left_rewriting ≡ kinds_of left ++ place_kinds (shape left)
    left_kinds = left_given.kinds outer form.left

    right_kinds : kinds_of right_rewriting ≡ kinds_of right ++ place_kinds (shape right)
    right_kinds = right_given.kinds outer form.right

    inner_places : place_kinds (shape inner) ≡ (place_kinds (shape left) ++ place_kinds (shape right)) ++ place_kinds (subs_shape subs)
    inner_places =
        ap place_kinds (shape-Join Inner left right condition subs)
        ∙ place_kinds-append (shape left ++ shape right) (subs_shape subs)
        ∙ ap (λ kinds. kinds ++ place_kinds (subs_shape subs)) (place_kinds-append (shape left) (shape right))

    pair_kinds : kinds_of pairs ≡ five (kinds_of left) (kinds_of right) (place_kinds (shape left)) (place_kinds (shape right)) (place_kinds (subs_shape subs))
    pair_kinds =
        given.kinds outer formed
        ∙ (λ i. kinds_of-Join Inner left right condition subs i ++ inner_places i)
        ∙ of_both (kinds_of left) (kinds_of right) (place_kinds (shape left)) (place_kinds (shape right)) (place_kinds (subs_shape subs))

    left_wide : width_of left_rewriting ≡ width_of left + left_places
    left_wide = width-rewriting left left_rewriting left_given outer form.left

    right_wide : width_of right_rewriting ≡ width_of right + right_places
    right_wide = width-rewriting right right_rewriting right_given outer form.right

    inner_wide : places_width (shape inner) ≡ left_places + right_places + sub_places
    inner_wide =
        ap length inner_places
        ∙ length-append (place_kinds (shape left) ++ place_kinds (shape right)) (place_kinds (subs_shape subs))
        ∙ ap (λ n. n + sub_places) (length-append (place_kinds (shape left)) (place_kinds (shape right)))

    pair_wide : width_of pairs ≡ (width_of left + width_of right) + (left_places + right_places + sub_places)
    pair_wide =
        ap length (given.kinds outer formed)
        ∙ length-append (kinds_of inner) (place_kinds (shape inner))
        ∙ (λ i. (ap length (kinds_of-Join Inner left right condition subs) ∙ length-append (kinds_of left) (kinds_of right)) i + inner_wide i)

    left_added : left_places ≡ width_of left_rewriting - width_of left
    left_added = omega (arith, left_wide)

    right_added : right_places ≡ width_of right_rewriting - width_of right
    right_added = omega (arith, right_wide)

    left_behind : right_places + sub_places ≡ width_of pairs - (width_of left_rewriting + width_of right)
    left_behind = omega (arith, left_wide, pair_wide)

    right_behind : sub_places ≡ width_of pairs - (width_of left_rewriting + width_of right_rewriting)
    right_behind = omega (arith, left_wide, right_wide, pair_wide)

    module _ {X : Type 0} (u v l r c : List X) (u_is : length u ≡ width_of left) (v_is : length v ≡ width_of right) (l_is : length l ≡ left_places)
        (r_is : length r ≡ right_places) (c_is : length c ≡ sub_places) where
      left-widths : Widths lefts [] u v l (r ++ c)
      left-widths = record {
        before_is = refl;
        own_is = u_is;
        between_is = v_is;
        added_is = l_is ∙ left_added;
        behind_is = length-append r c ∙ (λ i. r_is i + c_is i) ∙ left_behind;
      }

      right-widths : Widths rights u v l r c
      right-widths = record {
        before_is = u_is;
        own_is = v_is;
        between_is = l_is ∙ left_added;
        added_is = r_is ∙ right_added;
        behind_is = c_is ∙ right_behind;
      }

    abbrev kl : List Kind
    kl = kinds_of left

    abbrev kr : List Kind
    kr = kinds_of right

    abbrev pl : List Kind
    pl = place_kinds (shape left)

    abbrev pr : List Kind
    pr = place_kinds (shape right)

    abbrev ps : List Kind
    ps = place_kinds (subs_shape subs)

    kinds-lefts : kinds_of (with_alone lefts left_rewriting pairs) ≡ kinds_of pairs
    kinds-lefts =
        kinds-alone lefts left_rewriting pairs [] kl kr pl (pr ++ ps) (left-widths kl kr pl pr ps refl refl refl refl refl) left_kinds (pair_kinds ∙ as_left kl kr pl pr ps)

    kinds-rights : kinds_of (with_alone rights right_rewriting pairs) ≡ kinds_of pairs
    kinds-rights = kinds-alone rights right_rewriting pairs kl kr pl pr ps (right-widths kl kr pl pr ps refl refl refl refl refl) right_kinds pair_kinds

    formed-lefts : WellFormed outer (with_alone lefts left_rewriting pairs)
    formed-lefts =
        formed-alone lefts left_rewriting pairs [] kl kr pl (pr ++ ps) (left-widths kl kr pl pr ps refl refl refl refl refl) left_kinds (pair_kinds ∙ as_left kl kr pl pr ps) outer
        (left_given.formed outer form.left) (given.formed outer formed)

    formed-rights : WellFormed outer (with_alone rights right_rewriting pairs)
    formed-rights =
        formed-alone rights right_rewriting pairs kl kr pl pr ps (right-widths kl kr pl pr ps refl refl refl refl refl) right_kinds pair_kinds outer
        (right_given.formed outer form.right) (given.formed outer formed)

    kinds-whole : (kind : JoinKind) → kinds_of (whole kind) ≡ kinds_of pairs
    kinds-whole Inner = refl
    kinds-whole Left = kinds-lefts
    kinds-whole Right = kinds-rights
    kinds-whole Full = kinds-lefts

    formed-whole : (kind : JoinKind) → WellFormed outer (whole kind)
    formed-whole Inner = given.formed outer formed
    formed-whole Left = formed-lefts
    formed-whole Right = formed-rights
    formed-whole Full = record { left_side = formed-lefts; right_side = formed-rights; same_kinds = kinds-lefts ∙ sym kinds-rights }

    module _ (db : Database) (env : List Row) (tables : TablesFit db inner) (fitting : env_fits env outer ≡ true) where
      abbrev on : Row → Outcome Value
      on = condition_on condition env (subs_denote subs db env)

      each_fits : EachTable (λ id kinds. bag_fits (db id) kinds ≡ true) left × EachTable (λ id kinds. bag_fits (db id) kinds ≡ true) right ×
          EachTableOfSubs (λ id kinds. bag_fits (db id) kinds ≡ true) subs
      each_fits = by (EachTable-Join (λ id kinds. bag_fits (db id) kinds ≡ true) Inner left right condition subs) tables

      left-fits : Fitting outer left db env
      left-fits = record { formed = form.left; tables = each_fits.0; outer_rows = fitting }

      right-fits : Fitting outer right db env
      right-fits = record { formed = form.right; tables = each_fits.1; outer_rows = fitting }

      inner-fits : Fitting outer inner db env
      inner-fits = record { formed = formed; tables = tables; outer_rows = fitting }

      -- ---- faults

      module _ (f : Faults) (bad : meaning pairs db env ≡ Bad f) (left_within : Within f (meaning left_rewriting db env)) (right_within : Within f (meaning right_rewriting db env)) where
        bad-whole : (kind : JoinKind) → meaning (whole kind) db env ≡ Bad f
        bad-whole Inner = bad
        bad-whole Left = bad-alone lefts left_rewriting pairs db env f bad left_within
        bad-whole Right = bad-alone rights right_rewriting pairs db env f bad right_within
        bad-whole Full =
            rows-with_lists _ _
            ∙ (λ i. both (union_of false) (bad-alone lefts left_rewriting pairs db env f bad left_within i) (bad-alone rights right_rewriting pairs db env f bad right_within i))
            ∙ ap (λ faults. Bad faults) (union-same f)

      -- ---- rows

      module _ (us xs vs ys ms zs : Bag) (left_good : meaning left db env ≡ Good us) (right_good : meaning right db env ≡ Good vs) (inner_good : meaning inner db env ≡ Good ms)
          (lefts_good : meaning left_rewriting db env ≡ Good xs) (rights_good : meaning right_rewriting db env ≡ Good ys) (pairs_good : meaning pairs db env ≡ Good zs)
          (b : Beside (witnesses left db env) us xs) (d : Beside (witnesses right db env) vs ys) (q : Beside (witnesses inner db env) ms zs) where
        abbrev left_rows : Flattened (witnesses left db env) us xs
        left_rows = flattened (witnesses left db env) us xs b

        abbrev right_rows : Flattened (witnesses right db env) vs ys
        right_rows = flattened (witnesses right db env) vs ys d

        abbrev pair_rows : Flattened (witnesses inner db env) ms zs
        pair_rows = flattened (witnesses inner db env) ms zs q

        left_in : (u : Row) → InAnswer left db env u → IsIn u us
        left_in u a = subst (λ o. IsIn u (good_rows o)) left_good (answer-in left db env u a)

        right_in : (v : Row) → InAnswer right db env v → IsIn v vs
        right_in v a = subst (λ o. IsIn v (good_rows o)) right_good (answer-in right db env v a)

        left_answer : (u : Row) → IsIn u us → InAnswer left db env u
        left_answer u i = record { bag = us; good = left_good; row = in-member u us i }

        right_answer : (v : Row) → IsIn v vs → InAnswer right db env v
        right_answer v i = record { bag = vs; good = right_good; row = in-member v vs i }

        left-is : (u : Row) → IsIn u us → length u ≡ width_of left
        left-is u i = row-width outer left db env left-fits us left_good u i

        right-is : (v : Row) → IsIn v vs → length v ≡ width_of right
        right-is v i = row-width outer right db env right-fits vs right_good v i

        inner_is : joined_rows Inner on (width_of left) (width_of right) us vs ≡ Good ms
        inner_is =
            (λ i. both_then (sym left_good i) (sym right_good i) (joined_rows Inner on (width_of left) (width_of right)))
            ∙ sym (meaning-Join db env Inner left right condition subs) ∙ inner_good

        -- the lists of a pair
        record ListsOf (u v : Row) : Type 0 where
          l : Witness
          r : Witness
          c : Witness
          is_left : Contains (witnesses left db env u) l
          is_right : Contains (witnesses right db env v) r
          contribute : EachContributes db env (u ++ v) subs c
          wide : length (flat c) ≡ sub_places

        -- a pair that meets the condition, beside its lists
        record PairOf (z : Row) : Type 0 where
          u : Row
          v : Row
          in_left : IsIn u us
          in_right : IsIn v vs
          meets : is_met (on (u ++ v)) ≡ true
          lists : ListsOf u v
          all : (u ++ v) ++ flat ((lists.l ++ lists.r) ++ lists.c) ≡ z

        contributed-width : (t u v : Row) (l r c w : Witness) → Contains (witnesses inner db env t) w → Contains (witnesses left db env u) l →
            Contains (witnesses right db env v) r → (l ++ r) ++ c ≡ w → length (flat c) ≡ sub_places
        contributed-width t u v l r c w listed is_left is_right e =
            let all = list-width outer inner db env inner-fits t w listed ∙ inner_wide in
            let l_is = list-width outer left db env left-fits u l is_left in
            let r_is = list-width outer right db env right-fits v r is_right in
            let parts = ap (λ w. length (flat w)) (sym e) ∙ ap length (flat-parts l r c) ∙ length-append (flat l ++ flat r) (flat c)
            ∙ ap (λ n. n + length (flat c)) (length-append (flat l) (flat r)) in
            omega (arith, all, l_is, r_is, parts)

        pair-listed : (t : Row) (w : Witness) (z : Row) → Contains (witnesses inner db env t) w → law.JoinList Inner left right condition subs db env t w → t ++ flat w ≡ z → PairOf z
        pair-listed t w z listed (law.of_pair u v l r c left_there right_there makes meets is_left is_right contribute e) is = record {
          u = u;
          v = v;
          in_left = left_in u left_there;
          in_right = right_in v right_there;
          meets = meets;
          lists = record {
            l = l;
            r = r;
            c = c;
            is_left = is_left;
            is_right = is_right;
            contribute = contribute;
            wide = contributed-width t u v l r c w listed is_left is_right e;
          };
          all = (λ i. makes i ++ flat (e i)) ∙ is;
        }
        pair-listed t w z listed (law.left_alone u l keeps there makes alone is_left e) is = absurd (true≢false (sym keeps))
        pair-listed t w z listed (law.right_alone v r keeps there makes alone is_right e) is = absurd (true≢false (sym keeps))

        pair-of : (z : Row) → IsIn z zs → PairOf z
        pair-of z i =
            let row = pair_rows.back z i in
            pair-listed row.0 row.1 z row.3 ((join-lists db env row.0 row.1 Inner left right condition subs).0 row.3).1 row.4

        -- a pair that meets the condition is one of the inner join
        in_inner : (u v : Row) → IsIn u us → IsIn v vs → is_met (on (u ++ v)) ≡ true → IsIn (u ++ v) ms
        in_inner u v i j meets =
            in-joined_rows on us vs (u ++ v) Inner (width_of left) (width_of right) ms inner_is
            (pair (record { left = u; right = v; in_left = i; in_right = j; makes = refl; met = meets }))

        in_pairs : (u v : Row) → IsIn u us → IsIn v vs → is_met (on (u ++ v)) ≡ true → (l r c : Witness) → Contains (witnesses left db env u) l →
            Contains (witnesses right db env v) r → EachContributes db env (u ++ v) subs c → IsIn ((u ++ v) ++ flat ((l ++ r) ++ c)) zs
        in_pairs u v i j meets l r c is_left is_right contribute =
            let here = in_inner u v i j meets in
            let answer : InAnswer inner db env (u ++ v) = record { bag = ms; good = inner_good; row = in-member (u ++ v) ms here } in
            pair_rows.there (u ++ v) ((l ++ r) ++ c) here
            ((join-lists db env (u ++ v) ((l ++ r) ++ c) Inner left right condition subs).1
            (answer, law.of_pair u v l r c (left_answer u i) (right_answer v j) refl meets is_left is_right contribute refl))

        -- and it has lists
        lists-where : (u v : Row) → IsIn u us → IsIn v vs → (w : Witness) → Contains (witnesses inner db env (u ++ v)) w →
            law.JoinList Inner left right condition subs db env (u ++ v) w → ListsOf u v
        lists-where u v i j w listed (law.of_pair p o l r c left_there right_there makes meets is_left is_right contribute e) =
            let same = parts_same p o u v (left-is p (left_in p left_there) ∙ sym (left-is u i)) makes in
            let on_left = subst (λ p. Contains (witnesses left db env p) l) same.0 is_left in
            let on_right = subst (λ o. Contains (witnesses right db env o) r) same.1 is_right in
            record {
              l = l;
              r = r;
              c = c;
              is_left = on_left;
              is_right = on_right;
              contribute = subst (λ t. EachContributes db env t subs c) makes contribute;
              wide = contributed-width (u ++ v) u v l r c w listed on_left on_right e;
            }
        lists-where u v i j w listed (law.left_alone p l keeps there makes alone is_left e) = absurd (true≢false (sym keeps))
        lists-where u v i j w listed (law.right_alone o r keeps there makes alone is_right e) = absurd (true≢false (sym keeps))

        lists-of : (u v : Row) → IsIn u us → IsIn v vs → is_met (on (u ++ v)) ≡ true → ListsOf u v
        lists-of u v i j meets =
            let some = answer-listed inner db env ms inner_good (u ++ v) (in-member (u ++ v) ms (in_inner u v i j meets)) in
            lists-where u v i j some.list some.is_list ((join-lists db env (u ++ v) some.list Inner left right condition subs).0 some.is_list).1

        -- ---- their parts

        module _ (u v : Row) (l r c : Witness) (i : IsIn u us) (j : IsIn v vs) (is_left : Contains (witnesses left db env u) l) (is_right : Contains (witnesses right db env v) r)
            (wide : length (flat c) ≡ sub_places) where
          widths-left : Widths lefts [] u v (flat l) (flat r ++ flat c)
          widths-left =
              left-widths u v (flat l) (flat r) (flat c) (left-is u i) (right-is v j) (list-width outer left db env left-fits u l is_left)
              (list-width outer right db env right-fits v r is_right) wide

          widths-right : Widths rights u v (flat l) (flat r) (flat c)
          widths-right =
              right-widths u v (flat l) (flat r) (flat c) (left-is u i) (right-is v j) (list-width outer left db env left-fits u l is_left)
              (list-width outer right db env right-fits v r is_right) wide

        as_right-parts : (u v : Row) (l r c : Witness) → (u ++ v) ++ flat ((l ++ r) ++ c) ≡ five u v (flat l) (flat r) (flat c)
        as_right-parts u v l r c = ap (λ more. (u ++ v) ++ more) (flat-parts l r c) ∙ of_both u v (flat l) (flat r) (flat c)

        as_left-parts : (u v : Row) (l r c : Witness) → (u ++ v) ++ flat ((l ++ r) ++ c) ≡ five [] u v (flat l) (flat r ++ flat c)
        as_left-parts u v l r c = as_right-parts u v l r c ∙ as_left u v (flat l) (flat r) (flat c)

        left-parts : (z : Row) → IsIn z zs → PairParts lefts xs z
        left-parts z h =
            let k = pair-of z h in
            let s = k.lists in
            record {
              before = [];
              own = k.u;
              between = k.v;
              added = flat s.l;
              behind = flat s.r ++ flat s.c;
              widths = widths-left k.u k.v s.l s.r s.c k.in_left k.in_right s.is_left s.is_right s.wide;
              whole = sym (as_left-parts k.u k.v s.l s.r s.c) ∙ k.all;
              part = left_rows.there k.u s.l k.in_left s.is_left;
            }

        right-parts : (z : Row) → IsIn z zs → PairParts rights ys z
        right-parts z h =
            let k = pair-of z h in
            let s = k.lists in
            record {
              before = k.u;
              own = k.v;
              between = flat s.l;
              added = flat s.r;
              behind = flat s.c;
              widths = widths-right k.u k.v s.l s.r s.c k.in_left k.in_right s.is_left s.is_right s.wide;
              whole = sym (as_right-parts k.u k.v s.l s.r s.c) ∙ k.all;
              part = right_rows.there k.v s.r k.in_right s.is_right;
            }

        left-row : (x : Row) → IsIn x xs → RowParts lefts x
        left-row x h =
            let row = left_rows.back x h in
            record {
              own = row.0;
              added = flat row.1;
              own_is = left-is row.0 row.2;
              added_is = list-width outer left db env left-fits row.0 row.1 row.3 ∙ left_added;
              whole = row.4;
            }

        right-row : (y : Row) → IsIn y ys → RowParts rights y
        right-row y h =
            let row = right_rows.back y h in
            record {
              own = row.0;
              added = flat row.1;
              own_is = right-is row.0 row.2;
              added_is = list-width outer right db env right-fits row.0 row.1 row.3 ∙ right_added;
              whole = row.4;
            }

        -- ---- rows that meet none

        left-blanked : (u : Row) (l : Witness) → blanked lefts u (flat l) ≡ (u ++ nulls (width_of right)) ++ flat (l ++ all_empty (shape right) ++ all_empty (subs_shape subs))
        left-blanked u l =
            ap (λ row. five [] u (nulls (width_of right)) (flat l) row)
            (ap nulls (sym left_behind) ∙ nulls-append right_places sub_places
            ∙ (λ i. sym (flat-all_empty (shape right)) i ++ sym (flat-all_empty (subs_shape subs)) i))
            ∙ sym (as_left-parts u (nulls (width_of right)) l (all_empty (shape right)) (all_empty (subs_shape subs)))

        right-blanked : (v : Row) (r : Witness) → blanked rights v (flat r) ≡ (nulls (width_of left) ++ v) ++ flat (all_empty (shape left) ++ r ++ all_empty (subs_shape subs))
        right-blanked v r =
            (λ i. five (nulls (width_of left)) v ((ap nulls (sym left_added) ∙ sym (flat-all_empty (shape left))) i) (flat r)
            ((ap nulls (sym right_behind) ∙ sym (flat-all_empty (subs_shape subs))) i))
            ∙ sym (as_right-parts (nulls (width_of left)) v (all_empty (shape left)) r (all_empty (subs_shape subs)))

        left-alone : (u : Row) (l : Witness) → IsIn u us → Contains (witnesses left db env u) l → ((v : Row) → IsIn v vs → is_met (on (u ++ v)) ≡ true → ⊥) →
            IsAlone lefts xs zs (blanked lefts u (flat l))
        left-alone u l i is_left none = record {
          own = u;
          added = flat l;
          own_is = left-is u i;
          added_is = list-width outer left db env left-fits u l is_left ∙ left_added;
          row = left_rows.there u l i is_left;
          unpaired = λ before between behind w h.
              let k = pair-of (five before u between (flat l) behind) h in
              let s = k.lists in
              let part = one_part lefts [] k.u k.v (flat s.l) (flat s.r ++ flat s.c) before u between (flat l) behind
              (widths-left k.u k.v s.l s.r s.c k.in_left k.in_right s.is_left s.is_right s.wide) w
              (sym (as_left-parts k.u k.v s.l s.r s.c) ∙ k.all) in
              let same = parts_same k.u (flat s.l) u (flat l) (left-is k.u k.in_left ∙ sym (left-is u i)) part in
              none k.v k.in_right (subst (λ u. is_met (on (u ++ k.v)) ≡ true) same.0 k.meets);
          whole = refl;
        }

        right-alone : (v : Row) (r : Witness) → IsIn v vs → Contains (witnesses right db env v) r → ((u : Row) → IsIn u us → is_met (on (u ++ v)) ≡ true → ⊥) →
            IsAlone rights ys zs (blanked rights v (flat r))
        right-alone v r j is_right none = record {
          own = v;
          added = flat r;
          own_is = right-is v j;
          added_is = list-width outer right db env right-fits v r is_right ∙ right_added;
          row = right_rows.there v r j is_right;
          unpaired = λ before between behind w h.
              let k = pair-of (five before v between (flat r) behind) h in
              let s = k.lists in
              let part = one_part rights k.u k.v (flat s.l) (flat s.r) (flat s.c) before v between (flat r) behind
              (widths-right k.u k.v s.l s.r s.c k.in_left k.in_right s.is_left s.is_right s.wide) w
              (sym (as_right-parts k.u k.v s.l s.r s.c) ∙ k.all) in
              let same = parts_same k.v (flat s.r) v (flat r) (right-is k.v k.in_right ∙ sym (right-is v j)) part in
              none k.u k.in_left (subst (λ v. is_met (on (k.u ++ v)) ≡ true) same.0 k.meets);
          whole = refl;
        }

        -- such a row of the left side
        record LeftAlone (y : Row) : Type 0 where
          u : Row
          l : Witness
          in_left : IsIn u us
          is_left : Contains (witnesses left db env u) l
          none : (v : Row) → IsIn v vs → is_met (on (u ++ v)) ≡ true → ⊥
          all : (u ++ nulls (width_of right)) ++ flat (l ++ all_empty (shape right) ++ all_empty (subs_shape subs)) ≡ y

        left-alone-back : (y : Row) → IsAlone lefts xs zs y → LeftAlone y
        left-alone-back y k =
            let row = left_rows.back (k.own ++ k.added) k.row in
            let u = row.0 in
            let l = row.1 in
            let same = parts_same u (flat l) k.own k.added (left-is u row.2 ∙ sym k.own_is) row.4 in
            record {
              u = u;
              l = l;
              in_left = row.2;
              is_left = row.3;
              none = λ v j meets.
                  let s = lists-of u v row.2 j meets in
                  let w = widths-left u v l s.r s.c row.2 j row.3 s.is_right s.wide in
                  let here = in_pairs u v row.2 j meets l s.r s.c row.3 s.is_right s.contribute in
                  k.unpaired [] v (flat s.r ++ flat s.c)
                  (subst₂ (λ own added. Widths lefts [] own v added (flat s.r ++ flat s.c)) same.0 same.1 w)
                  (subst₂ (λ own added. IsIn (five [] own v added (flat s.r ++ flat s.c)) zs) same.0 same.1
                  (subst (λ z. IsIn z zs) (as_left-parts u v l s.r s.c) here));
              all = sym (left-blanked u l) ∙ (λ i. blanked lefts (same.0 i) (same.1 i)) ∙ k.whole;
            }

        record RightAlone (y : Row) : Type 0 where
          v : Row
          r : Witness
          in_right : IsIn v vs
          is_right : Contains (witnesses right db env v) r
          none : (u : Row) → IsIn u us → is_met (on (u ++ v)) ≡ true → ⊥
          all : (nulls (width_of left) ++ v) ++ flat (all_empty (shape left) ++ r ++ all_empty (subs_shape subs)) ≡ y

        right-alone-back : (y : Row) → IsAlone rights ys zs y → RightAlone y
        right-alone-back y k =
            let row = right_rows.back (k.own ++ k.added) k.row in
            let v = row.0 in
            let r = row.1 in
            let same = parts_same v (flat r) k.own k.added (right-is v row.2 ∙ sym k.own_is) row.4 in
            record {
              v = v;
              r = r;
              in_right = row.2;
              is_right = row.3;
              none = λ u i meets.
                  let s = lists-of u v i row.2 meets in
                  let w = widths-right u v s.l r s.c i row.2 s.is_left row.3 s.wide in
                  let here = in_pairs u v i row.2 meets s.l r s.c s.is_left row.3 s.contribute in
                  k.unpaired u (flat s.l) (flat s.c)
                  (subst₂ (λ own added. Widths rights u own (flat s.l) added (flat s.c)) same.0 same.1 w)
                  (subst₂ (λ own added. IsIn (five u own (flat s.l) added (flat s.c)) zs) same.0 same.1
                  (subst (λ z. IsIn z zs) (as_right-parts u v s.l r s.c) here));
              all = sym (right-blanked v r) ∙ (λ i. blanked rights (same.0 i) (same.1 i)) ∙ k.whole;
            }

        -- ---- the rows of the parts

        record Reached (kind : JoinKind) : Type 0 where
          bag : Bag
          good : meaning (whole kind) db env ≡ Good bag
          paired : (z : Row) → IsIn z zs → IsIn z bag
          of_left : keeps_left kind ≡ true → (y : Row) → IsAlone lefts xs zs y → IsIn y bag
          of_right : keeps_right kind ≡ true → (y : Row) → IsAlone rights ys zs y → IsIn y bag
          back : (y : Row) → IsIn y bag → IsIn y zs ⊎ (((keeps_left kind ≡ true) × IsAlone lefts xs zs y) ⊎ ((keeps_right kind ≡ true) × IsAlone rights ys zs y))

        wide-left : width_of pairs ≡ pair_width lefts
        wide-left = omega (arith, left_wide, pair_wide)

        wide-right : width_of pairs ≡ pair_width rights
        wide-right = omega (arith, left_wide, right_wide, pair_wide)

        lefts-made : (bag : Bag) × (meaning (with_alone lefts left_rewriting pairs) db env ≡ Good bag) ×
            AllRows lefts left_rewriting pairs db env xs zs wide-left left-row left-parts bag
        lefts-made = good-alone lefts left_rewriting pairs db env xs zs wide-left left-row left-parts lefts_good pairs_good

        rights-made : (bag : Bag) × (meaning (with_alone rights right_rewriting pairs) db env ≡ Good bag) ×
            AllRows rights right_rewriting pairs db env ys zs wide-right right-row right-parts bag
        rights-made = good-alone rights right_rewriting pairs db env ys zs wide-right right-row right-parts rights_good pairs_good

        reached : (kind : JoinKind) → Reached kind
        reached Inner = record {
          bag = zs;
          good = pairs_good;
          paired = λ z i. i;
          of_left = λ keeps. absurd (true≢false (sym keeps));
          of_right = λ keeps. absurd (true≢false (sym keeps));
          back = λ y i. inl i;
        }
        reached Left =
            let made = lefts-made in
            record {
              bag = made.0;
              good = made.1;
              paired = made.2.paired;
              of_left = λ keeps. made.2.alone;
              of_right = λ keeps. absurd (true≢false (sym keeps));
              back = λ y i. elim (made.2.back y i) [ inl h ↦ inl h | inr k ↦ inr (inl (refl, k)) ];
            }
        reached Right =
            let made = rights-made in
            record {
              bag = made.0;
              good = made.1;
              paired = made.2.paired;
              of_left = λ keeps. absurd (true≢false (sym keeps));
              of_right = λ keeps. made.2.alone;
              back = λ y i. elim (made.2.back y i) [ inl h ↦ inl h | inr k ↦ inr (inr (refl, k)) ];
            }
        reached Full =
            let first = lefts-made in
            let second = rights-made in
            record {
              bag = union_of false first.0 second.0;
              good = rows-with_lists _ _ ∙ (λ i. both (union_of false) (first.1 i) (second.1 i));
              paired = λ z i. in-union false z first.0 second.0 (inl (first.2.paired z i));
              of_left = λ keeps y k. in-union false y first.0 second.0 (inl (first.2.alone y k));
              of_right = λ keeps y k. in-union false y first.0 second.0 (inr (second.2.alone y k));
              back = λ y i. elim (from-union false y first.0 second.0 i) [
                | inl g ↦ elim (first.2.back y g) [ inl h ↦ inl h | inr k ↦ inr (inl (refl, k)) ]
                | inr g ↦ elim (second.2.back y g) [ inl h ↦ inl h | inr k ↦ inr (inr (refl, k)) ]
              ];
            }

        -- ---- the node

        module _ (kind : JoinKind) (ts : Bag) (node_is : joined_rows kind on (width_of left) (width_of right) us vs ≡ Good ts) (node_good : meaning (node kind) db env ≡ Good ts)
            (made : Reached kind) where
          listed : (t : Row) (w : Witness) → Contains (witnesses (node kind) db env t) w ↔ (InAnswer (node kind) db env t × law.JoinList kind left right condition subs db env t w)
          listed t w = join-lists db env t w kind left right condition subs

          there : (t : Row) (w : Witness) → law.JoinList kind left right condition subs db env t w → IsIn (t ++ flat w) made.bag
          there t w (law.of_pair u v l r c left_there right_there makes meets is_left is_right contribute e) =
              subst (λ z. IsIn z made.bag) (λ i. makes i ++ flat (e i))
              (made.paired _ (in_pairs u v (left_in u left_there) (right_in v right_there) meets l r c is_left is_right contribute))
          there t w (law.left_alone u l keeps left_there makes alone is_left e) =
              subst (λ z. IsIn z made.bag) (left-blanked u l ∙ (λ i. makes i ++ flat (e i)))
              (made.of_left keeps _ (left-alone u l (left_in u left_there) is_left (λ v j meets. alone v (right_answer v j) meets)))
          there t w (law.right_alone v r keeps right_there makes alone is_right e) =
              subst (λ z. IsIn z made.bag) (right-blanked v r ∙ (λ i. makes i ++ flat (e i)))
              (made.of_right keeps _ (right-alone v r (right_in v right_there) is_right (λ u i meets. alone u (left_answer u i) meets)))

          abbrev Stands : Row → Type 0
          Stands y = (t : Row) × (w : Witness) × IsIn t ts × Contains (witnesses (node kind) db env t) w × (t ++ flat w ≡ y)

          standing : (t : Row) (w : Witness) (y : Row) → Joined kind on (width_of left) (width_of right) us vs t → law.JoinList kind left right condition subs db env t w →
              t ++ flat w ≡ y → Stands y
          standing t w y joined list e =
              let here = in-joined_rows on us vs t kind (width_of left) (width_of right) ts node_is joined in
              let answer : InAnswer (node kind) db env t = record { bag = ts; good = node_good; row = in-member t ts here } in
              (t, w, here, (listed t w).1 (answer, list), e)

          unmatched-left : (u : Row) → IsIn u us → ((v : Row) → IsIn v vs → is_met (on (u ++ v)) ≡ true → ⊥) → IsIn u (unmatched_left on us vs)
          unmatched-left u i none = in-filter (λ u. not (list_any (λ v. is_met (on (u ++ v))) vs)) u us i (none-pass (λ v. is_met (on (u ++ v))) vs none)

          unmatched-right : (v : Row) → IsIn v vs → ((u : Row) → IsIn u us → is_met (on (u ++ v)) ≡ true → ⊥) → IsIn v (unmatched_right on us vs)
          unmatched-right v j none = in-filter (λ v. not (list_any (λ u. is_met (on (u ++ v))) us)) v vs j (none-pass (λ u. is_met (on (u ++ v))) us none)

          back : (y : Row) → IsIn y made.bag → Stands y
          back y h = elim (made.back y h) [
            | inl i ↦
                let k = pair-of y i in
                let s = k.lists in
                standing (k.u ++ k.v) ((s.l ++ s.r) ++ s.c) y
                (pair (record { left = k.u; right = k.v; in_left = k.in_left; in_right = k.in_right; makes = refl; met = k.meets }))
                (law.of_pair k.u k.v s.l s.r s.c (left_answer k.u k.in_left) (right_answer k.v k.in_right) refl k.meets s.is_left s.is_right s.contribute refl) k.all
            | inr alone ↦ elim alone [
              | inl g ↦
                  let k = left-alone-back y g.1 in
                  standing (k.u ++ nulls (width_of right)) (k.l ++ all_empty (shape right) ++ all_empty (subs_shape subs)) y
                  (left_alone g.0 k.u (unmatched-left k.u k.in_left k.none) refl)
                  (law.left_alone k.u k.l g.0 (left_answer k.u k.in_left) refl (λ v a meets. k.none v (right_in v a) meets) k.is_left refl) k.all
              | inr g ↦
                  let k = right-alone-back y g.1 in
                  standing (nulls (width_of left) ++ k.v) (all_empty (shape left) ++ k.r ++ all_empty (subs_shape subs)) y
                  (right_alone g.0 k.v (unmatched-right k.v k.in_right k.none) refl)
                  (law.right_alone k.v k.r g.0 (right_answer k.v k.in_right) refl (λ u a meets. k.none u (left_in u a) meets) k.is_right refl) k.all
            ]
          ]

          rows-whole : Flattened (witnesses (node kind) db env) ts made.bag
          rows-whole = record { there = λ t w i c. there t w ((listed t w).0 c).1; back = back }

      -- ---- the outcomes

      abbrev Answer : JoinKind → Type 0
      Answer kind = Rewritten (witnesses (node kind) db env) (meaning (node kind) db env) (meaning (whole kind) db env)

      abbrev join_of : JoinKind → Bag → Bag → Outcome Bag
      join_of kind = joined_rows kind on (width_of left) (width_of right)

      both-bad : (kind : JoinKind) (f : Faults) → meaning (node kind) db env ≡ Bad f → meaning (whole kind) db env ≡ Bad f → Answer kind
      both-bad kind f e g = subst₂ (Rewritten (witnesses (node kind) db env)) (sym e) (sym g) refl

      -- the faults of a side are among those of the join
      within-left : (f : Faults) {o s : Outcome Bag} (k : Outcome Bag) → BothStand (witnesses left db env) o s → both_then o k (join_of Inner) ≡ Bad f → Within f s
      within-left f k (both_good us xs b) e = tt
      within-left f (Good vs) (both_bad g) e = subst (λ f. Included g f) (same_faults e) (included-refl g)
      within-left f (Bad h) (both_bad g) e = subst (λ f. Included g f) (same_faults e) (included-left g h)

      within-right : (f : Faults) {k s : Outcome Bag} (o : Outcome Bag) → BothStand (witnesses right db env) k s → both_then o k (join_of Inner) ≡ Bad f → Within f s
      within-right f o (both_good vs ys d) e = tt
      within-right f (Good us) (both_bad g) e = subst (λ f. Included g f) (same_faults e) (included-refl g)
      within-right f (Bad h) (both_bad g) e = subst (λ f. Included g f) (same_faults e) (included-right h g)

      answer-bad : (kind : JoinKind) (f : Faults) → meaning inner db env ≡ Bad f → meaning pairs db env ≡ Bad f →
          BothStand (witnesses left db env) (meaning left db env) (meaning left_rewriting db env) →
          BothStand (witnesses right db env) (meaning right db env) (meaning right_rewriting db env) → Answer kind
      answer-bad kind f e g l r =
          let inner_bad = sym (meaning-Join db env Inner left right condition subs) ∙ e in
          both-bad kind f
          (meaning-Join db env kind left right condition subs
          ∙ kinds-bad on Inner kind (width_of left) (width_of right) (meaning left db env) (meaning right db env) f inner_bad)
          (bad-whole f g (within-left f (meaning right db env) l inner_bad) (within-right f (meaning left db env) r inner_bad) kind)

      answer-good : (kind : JoinKind) (us xs vs ys ms zs : Bag) → meaning left db env ≡ Good us → meaning left_rewriting db env ≡ Good xs → meaning right db env ≡ Good vs →
          meaning right_rewriting db env ≡ Good ys → meaning inner db env ≡ Good ms → meaning pairs db env ≡ Good zs → Beside (witnesses left db env) us xs →
          Beside (witnesses right db env) vs ys → Beside (witnesses inner db env) ms zs → Answer kind
      answer-good kind us xs vs ys ms zs left_good lefts_good right_good rights_good inner_good pairs_good b d q =
          let made = reached us xs vs ys ms zs left_good right_good inner_good lefts_good rights_good pairs_good b d q kind in
          let found = mapped-is _ (met_pairs on us vs) ms (inner_is us xs vs ys ms zs left_good right_good inner_good lefts_good rights_good pairs_good b d q) in
          let adding : Bag → Bag = λ pairs. pairs
          ++ cond (keeps_left kind) (map (λ u. u ++ nulls (width_of right)) (unmatched_left on us vs)) []
          ++ cond (keeps_right kind) (map (λ v. nulls (width_of left) ++ v) (unmatched_right on us vs)) [] in
          let node_is : join_of kind us vs ≡ Good (adding found.0) = ap (mapped adding) found.1 in
          let node_good = meaning-Join db env kind left right condition subs ∙ (λ i. both_then (left_good i) (right_good i) (join_of kind)) ∙ node_is in
          subst₂ (Rewritten (witnesses (node kind) db env)) (sym node_good) (sym made.good)
          (beside-flattened (node kind) db env _ made.bag node_good
          (rows-whole us xs vs ys ms zs left_good right_good inner_good lefts_good rights_good pairs_good b d q kind _ node_is node_good made))

      answer-by : (kind : JoinKind) {o s k l m n : Outcome Bag} → meaning left db env ≡ o → meaning left_rewriting db env ≡ s → meaning right db env ≡ k →
          meaning right_rewriting db env ≡ l → meaning inner db env ≡ m → meaning pairs db env ≡ n → BothStand (witnesses left db env) o s → BothStand (witnesses right db env) k l →
          BothStand (witnesses inner db env) m n → Answer kind
      answer-by kind e f i j g h left_stand right_stand (both_bad faults) =
          answer-bad kind faults g h (subst₂ (BothStand (witnesses left db env)) (sym e) (sym f) left_stand) (subst₂ (BothStand (witnesses right db env)) (sym i) (sym j) right_stand)
      answer-by kind e f i j g h (both_good us xs b) (both_good vs ys d) (both_good ms zs q) = answer-good kind us xs vs ys ms zs e f i j g h b d q
      answer-by kind e f i j g h (both_good us xs b) (both_bad faults) (both_good ms zs q) =
          absurd (bad-not_good faults ms ((λ a. both_then (sym e a) (sym i a) (join_of Inner)) ∙ sym (meaning-Join db env Inner left right condition subs) ∙ g))
      answer-by kind e f i j g h (both_bad faults) (both_good vs ys d) (both_good ms zs q) =
          absurd (bad-not_good faults ms ((λ a. both_then (sym e a) (sym i a) (join_of Inner)) ∙ sym (meaning-Join db env Inner left right condition subs) ∙ g))
      answer-by kind e f i j g h (both_bad faults) (both_bad more) (both_good ms zs q) =
          absurd (bad-not_good (union faults more) ms ((λ a. both_then (sym e a) (sym i a) (join_of Inner)) ∙ sym (meaning-Join db env Inner left right condition subs) ∙ g))

      answer : (kind : JoinKind) → Answer kind
      answer kind =
          answer-by kind refl refl refl refl refl refl
          (both_stand (witnesses left db env) (meaning left db env) (meaning left_rewriting db env)
          (beside-from_rewrite left left_rewriting db env left_given outer form.left each_fits.0 fitting))
          (both_stand (witnesses right db env) (meaning right db env) (meaning right_rewriting db env)
          (beside-from_rewrite right right_rewriting db env right_given outer form.right each_fits.1 fitting))
          (both_stand (witnesses inner db env) (meaning inner db env) (meaning pairs db env) (beside-from_rewrite inner pairs db env given outer formed tables fitting))

  -- what is well formed as one kind of join is so as another, and reads the same tables
  formed-inner : (kind : JoinKind) (outer : List (List Kind)) → WellFormed outer (node kind) → WellFormed outer inner
  formed-inner kind outer formed =
      by (sym (WellFormed-Join outer Inner left right condition subs)) (by (WellFormed-Join outer kind left right condition subs) formed)

  tables-inner : (kind : JoinKind) (P : ℕ → List Kind → Type 0) → EachTable P (node kind) → EachTable P inner
  tables-inner kind P each = by (sym (EachTable-Join P Inner left right condition subs)) (by (EachTable-Join P kind left right condition subs) each)

  rewrite-parts : (kind : JoinKind) → IsRewrite (node kind) (whole kind)
  rewrite-parts kind = record {
    plain = plain-whole kind;
    kinds = λ outer formed.
        kinds-whole outer (formed-inner kind outer formed) kind
        ∙ given.kinds outer (formed-inner kind outer formed)
        ∙ (λ i. (kinds_of-Join Inner left right condition subs ∙ sym (kinds_of-Join kind left right condition subs)) i
        ++ place_kinds ((shape-Join Inner left right condition subs ∙ sym (shape-Join kind left right condition subs)) i));
    formed = λ outer formed. formed-whole outer (formed-inner kind outer formed) kind;
    tables = among-whole kind;
    rows = λ outer db env formed tables fitting.
        rows-from_beside (node kind) (whole kind) db env
        (answer outer (formed-inner kind outer formed) db env (tables-inner kind (λ id kinds. bag_fits (db id) kinds ≡ true) tables) fitting kind);
  }

-- the rule over the pairs on which the condition is true
pub rewrite-by_parts : (kind : JoinKind) (left left_rewriting right right_rewriting : Query) (condition : Expr) (subs : List Sublink) (pairs : Query) →
    IsRewrite left left_rewriting → IsRewrite right right_rewriting → IsRewrite (chosen left right condition subs) pairs →
    IsRewrite (Join kind left right condition subs) (by_parts kind left left_rewriting right right_rewriting pairs)
rewrite-by_parts kind left left_rewriting right right_rewriting condition subs pairs left_given right_given given =
    rewrite-parts left left_rewriting right right_rewriting pairs condition subs left_given right_given (rewrite-met left right condition subs pairs given) kind
