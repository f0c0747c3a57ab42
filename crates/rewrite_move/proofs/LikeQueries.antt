-- Queries of the same columns of which one stands for the other, and nodes over them.
use Rattle.std.proofs.Common.{◌≡◌, ℕ, true, List, [], ◌∷◌, ◌++◌, length, refl, sym, ap, ◌∙◌, subst}
use Rattle.std.proofs.lemmas.Bool.{and_from}
use Rattle.std.specs.List.{range_with_len}
use Rattle.bag_algebra.proofs.TablesRead.{reads_among-onward, reads_among-fit}
use Rattle.bag_algebra.specs.Bags.{Bag}
use Rattle.bag_algebra.specs.built.Openings.{Apply-is, Project-is, kinds_of-Project}
use Rattle.bag_algebra.specs.built.Patterns.{ApplyOf, ProjectOf}
use Rattle.bag_algebra.specs.ColumnItems.{column_items}
use Rattle.bag_algebra.specs.Kinds.{kinds_of, width_of}
use Rattle.bag_algebra.specs.Meaning.{meaning}
use Rattle.bag_algebra.specs.Outcome.{Outcome, Good, Bad}
use Rattle.bag_algebra.specs.Rewriting.{IsRewrite, SameRows, SameSet, Stands, is_plain}
use Rattle.bag_algebra.specs.declared.expr.Item.{Item}
use Rattle.bag_algebra.specs.declared.query.JoinKind.TheVariants.{Left}
use Rattle.bag_algebra.specs.declared.query.Query.{Query, end_of-Sublink}
use Rattle.bag_algebra.specs.declared.query.Query.TheVariants.{Apply, Project}
use Rattle.bag_algebra.specs.declared.query.Sublink.{Sublink}
use Rattle.bag_algebra.proofs.BagLaws.{member-same_bag}
use Rattle.query_laws.proofs.SameExpressions.{items-themselves, optional-itself}
use Rattle.query_laws.proofs.StandingNodes.{stands-Apply, stands-Project}
use Rattle.rewrite_core.proofs.ClosedSublinks.{closed-Project, parts-Project}
use Rattle.rewrite_core.proofs.Itself.{stands-itself, stands-onward}
use Rattle.rewrite_core.specs.rewritings.KeptColumns.{columns_kept, kept_places}
use Rattle.rewrite_sublink.specs.Candidates.{answer_columns, answer_places, beside_row}
use Rattle.rewrite_move.proofs.ClosedMoves.{joined-closed}
use Rattle.rewrite_move.specs.Moved.{Like}
use Rattle.query_laws.specs.spines.Spines.{IsBeside, IsJoined}

pub like-itself : (q : Query) → is_plain q ≡ true → Like q q
like-itself q plain = record { kinds = refl; stands = stands-itself q plain; none_open = λ h. h }

-- ---- rewritings

same_set-along : (o : Outcome Bag) (s r : Outcome Bag) → SameSet o s → SameRows s r → SameSet o r
same_set-along (Good us) (Good vs) (Good ws) a b = λ t. a t ∙ member-same_bag t vs ws b
same_set-along (Good us) (Good vs) (Bad h) a b = absurd b
same_set-along (Good us) (Bad g) r a b = absurd a
same_set-along (Bad f) (Good vs) r a b = absurd a
same_set-along (Bad f) (Bad g) (Good ws) a b = absurd b
same_set-along (Bad f) (Bad g) (Bad h) a b = a ∙ b

-- what stands for a rewriting is one
pub rewrite-along : (n q p : Query) → IsRewrite n q → Stands q p → IsRewrite n p
rewrite-along n q p given s = record {
  plain = s.plain;
  kinds = λ outer f. s.kinds outer (given.formed outer f) ∙ given.kinds outer f;
  formed = λ outer f. s.formed outer (given.formed outer f);
  tables = reads_among-onward p q n s.tables given.tables;
  rows = λ outer db env f fits e.
      same_set-along _ (meaning q db env) (meaning p db env) (given.rows outer db env f fits e)
      (s.rows outer db env (given.formed outer f) (reads_among-fit q n db given.tables fits) e);
}

-- ---- dependent joins

-- what is beside the rows stands for the dependent join
pub beside-stands : (rows right p : Query) → is_plain rows ≡ true → is_plain right ≡ true → IsBeside rows right p → Stands (ApplyOf Left rows right) p
beside-stands rows right p of_rows of_right is = record {
  plain = is.plain ∙ and_from (is_plain rows) (is_plain right) of_rows of_right;
  kinds = λ outer f. is.kinds;
  formed = is.formed;
  tables = is.tables;
  rows = λ outer db env f fits e. is.same outer db env (record { formed = f; tables = fits; outer_rows = e });
}

apply-stands : (q p right : Query) → Stands q p → is_plain right ≡ true → Stands (ApplyOf Left q right) (ApplyOf Left p right)
apply-stands q p right s plain =
    subst (λ n. Stands n (ApplyOf Left p right)) (Apply-is Left q right)
    (subst (Stands (Apply Left q right)) (Apply-is Left p right) (stands-Apply q p s right right (stands-itself right plain) Left))

pub like-beside : (q p right o : Query) → Like q p → is_plain right ≡ true → IsBeside p right o → IsJoined p right o → Like (ApplyOf Left q right) o
like-beside q p right o l plain is joined = record {
  kinds = is.kinds ∙ ap (λ ks. ks ++ kinds_of right) l.kinds;
  stands = stands-onward (ApplyOf Left q right) (ApplyOf Left p right) o (apply-stands q p right l.stands plain) (beside-stands p right o l.stands.plain plain is);
  none_open = λ h. joined-closed joined (l.none_open h.0) h.1;
}

-- ---- columns

module _ (q p : Query) (l : Like q p) where
  project-like : (items : List Item) → Like (ProjectOf q items [] end_of-Sublink) (ProjectOf p items [] end_of-Sublink)
  project-like items = record {
    kinds = refl;
    stands = subst (λ n. Stands n (ProjectOf p items [] end_of-Sublink)) (Project-is q items)
        (subst (Stands (Project q items [])) (Project-is p items) (stands-Project q p l.stands items items (items-themselves items) [] [] tt));
    none_open = λ h. (l.none_open h.0, tt);
  }

  places-like : (places : ℕ → List ℕ) →
      Like (ProjectOf q (column_items (kinds_of q) (places (width_of q))) [] end_of-Sublink) (ProjectOf p (column_items (kinds_of p) (places (width_of p))) [] end_of-Sublink)
  places-like places =
      subst (λ ks. Like (ProjectOf q (column_items (kinds_of q) (places (width_of q))) [] end_of-Sublink) (ProjectOf p (column_items ks (places (length ks))) [] end_of-Sublink))
      (sym l.kinds) (project-like (column_items (kinds_of q) (places (width_of q))))

  pub like-columns_kept : (kept left_out : ℕ) → Like (columns_kept q kept left_out) (columns_kept p kept left_out)
  like-columns_kept kept left_out = places-like (λ all. kept_places kept left_out all)

  pub like-answer_columns : (own row made : ℕ) → Like (answer_columns q own row made) (answer_columns p own row made)
  like-answer_columns own row made = places-like (λ all. answer_places own row made all)

  -- items behind all columns, with one sublink
  items-like : (items : List Item) (sub : Sublink) → is_plain sub.query ≡ true → Like (Project q items (sub ∷ [])) (Project p items (sub ∷ []))
  items-like items sub plain = record {
    kinds = kinds_of-Project p items (sub ∷ []) ∙ sym (kinds_of-Project q items (sub ∷ []));
    stands = stands-Project q p l.stands items items (items-themselves items) (sub ∷ []) (sub ∷ [])
        (record { kind = refl; tested = optional-itself sub.tested; query = stands-itself sub.query plain }, tt);
    none_open = λ h. let parts = parts-Project q items (sub ∷ []) h in closed-Project p items (sub ∷ []) (l.none_open parts.0) parts.1;
  }

  pub like-beside_row : (items : List Item) (sub : Sublink) → is_plain sub.query ≡ true → Like (Project q (beside_row q items) (sub ∷ [])) (Project p (beside_row p items) (sub ∷ []))
  like-beside_row items sub plain =
      subst (λ ks. Like (Project q (beside_row q items) (sub ∷ [])) (Project p (column_items ks (range_with_len 0 (length ks)) ++ items) (sub ∷ [])))
      (sym l.kinds) (items-like (beside_row q items) sub plain)

  -- items without sublinks behind all columns
  pub like-columns_and : (items : List Item) → Like (Project q (beside_row q items) []) (Project p (beside_row p items) [])
  like-columns_and items =
      subst (λ ks. Like (Project q (beside_row q items) []) (Project p (column_items ks (range_with_len 0 (length ks)) ++ items) []))
      (sym l.kinds) (record {
        kinds = kinds_of-Project p (beside_row q items) [] ∙ sym (kinds_of-Project q (beside_row q items) []);
        stands = stands-Project q p l.stands (beside_row q items) (beside_row q items) (items-themselves (beside_row q items)) [] [] tt;
        none_open = λ h. let parts = parts-Project q (beside_row q items) [] h in closed-Project p (beside_row q items) [] (l.none_open parts.0) parts.1;
      })
