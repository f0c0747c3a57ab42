-- What stands for a query of which nobody reads the columns.
use Rattle.std.proofs.Common.{◌≡◌, Bool, true, ◌&&◌, List, [], ◌∷◌, map, Contains, refl, sym, ap, ◌∙◌, subst}
use Rattle.perm_values.specs.declared.value.Value.{Value}
use Rattle.perm_values.specs.declared.value.Value.TheVariants as cell
use Rattle.perm_values.proofs.Steps.{by}
use Rattle.bag_algebra.proofs.Columns.{each-good}
use Rattle.bag_algebra.proofs.TablesRead.{reads_among-itself, reads_among-onward}
use Rattle.bag_algebra.proofs.Truths.{and_true, left-true}
use Rattle.bag_algebra.specs.Bags.{Row, Bag}
use Rattle.bag_algebra.specs.FaultFree.{items_faultless}
use Rattle.bag_algebra.specs.Meaning.{meaning, items_on}
use Rattle.bag_algebra.specs.Means.{is_some_row, no_subs, sub_value}
use Rattle.bag_algebra.specs.Outcome.{Outcome, Good, Bad, and_then, mapped, both, both_then, each}
use Rattle.bag_algebra.specs.Rewriting.{is_plain}
use Rattle.bag_algebra.specs.TablesRead.{tables_read}
use Rattle.bag_algebra.specs.built.Forms.{EachTable-Project, WellFormed-Project}
use Rattle.bag_algebra.specs.built.Openings.{meaning-Project}
use Rattle.bag_algebra.specs.built.Scopes.{is_plain-Project}
use Rattle.bag_algebra.specs.declared.expr.Item.{Item}
use Rattle.bag_algebra.specs.declared.query.Query.{Query}
use Rattle.bag_algebra.specs.declared.query.Query.TheVariants.{Project}
use Rattle.bag_algebra.specs.declared.query.SubKind.TheVariants.{Exists}
use Rattle.query_laws.specs.EveryExpression.{items_pass}
use Rattle.simpler_laws.proofs.SubstitutedVariants.{item-value, rest-calm}
use Rattle.simpler_laws.specs.merged.Substituted.{row_of_items}
use Rattle.folded_literals.specs.Settled.{is_settled}
use Rattle.folded_literals.specs.Simple.{is_simple}
use Rattle.folded_literals.specs.built.Simple.{simple-Project}
use Rattle.simplifier.specs.Bare.{IsUnread, StandsUnread}

pub unread-itself : (q : Query) → StandsUnread q q
unread-itself q = record {
  plain = λ h. h;
  simple = λ h. h;
  formed = λ outer f. f;
  tables = reads_among-itself q;
  rows = λ db env. refl;
}

pub unread-onward : (q b c : Query) → StandsUnread q b → StandsUnread b c → StandsUnread q c
unread-onward q b c s t = record {
  plain = λ h. t.plain (s.plain h);
  simple = λ h. t.simple (s.simple h);
  formed = λ outer f. t.formed outer (s.formed outer f);
  tables = reads_among-onward c b q t.tables s.tables;
  rows = λ db env. s.rows db env ∙ t.rows db env;
}

-- ---- a projection that can't fault has as many rows as its input

good-row : (env : List Row) (items : List Item) → items_faultless items ≡ true → (u : Row) →
    items_on items env no_subs u ≡ Good (row_of_items items u env [])
good-row env [] h u = refl
good-row env (item ∷ items) h u = λ i. both (λ v vs. v ∷ vs) (item-value item items h u env [] i) (good-row env items (rest-calm item items h) u i)

module _ (items : List Item) (calm : items_faultless items ≡ true) (env : List Row) where
  abbrev on_row : Row → Row
  on_row u = row_of_items items u env []

  some-mapped : (us : Bag) → is_some_row (map on_row us) ≡ is_some_row us
  some-mapped [] = refl
  some-mapped (u ∷ us) = refl

  some-projected : (o : Outcome Bag) → mapped is_some_row (and_then o (each (items_on items env no_subs))) ≡ mapped is_some_row o
  some-projected (Good us) =
      ap (mapped is_some_row) (each-good on_row (items_on items env no_subs) (good-row env items calm) us) ∙ ap Good (some-mapped us)
  some-projected (Bad faults) = refl

unread-input : (input : Query) (items : List Item) → items_faultless items ≡ true → StandsUnread (Project input items []) input
unread-input input items calm = record {
  plain = λ h. sym (and_true (is_plain input)) ∙ sym (is_plain-Project input items []) ∙ h;
  simple = λ h.
      left-true (is_simple input) true (left-true (is_simple input && true) (items_pass is_settled items) (sym (simple-Project input items []) ∙ h));
  formed = λ outer f. (by (WellFormed-Project outer input items []) f).input;
  tables = (by (EachTable-Project (λ id kinds. Contains (tables_read (Project input items [])) (record { id = id; kinds = kinds })) input items [])
      (reads_among-itself (Project input items []))).0;
  rows = λ db env. ap (mapped is_some_row) (meaning-Project db env input items []) ∙ some-projected items calm env (meaning input db env);
}

pub unread-below : (q b : Query) (m : IsUnread q) → b ≡ m.input → StandsUnread q b
unread-below q b m is =
    subst (λ a. StandsUnread a b) (sym m.is)
    (subst (λ a. StandsUnread (Project m.input m.items []) a) (sym is) (unread-input m.input m.items m.calm))

-- ---- EXISTS asks no more than whether there is a row

abbrev told : Value → Bool → Value
told v some = cell.Boolean some

asked : (x : Outcome Value) (o : Outcome Bag) → both_then x o (sub_value Exists) ≡ both told x (mapped is_some_row o)
asked (Good x) (Good us) = refl
asked (Good x) (Bad f) = refl
asked (Bad h) (Good us) = refl
asked (Bad h) (Bad f) = refl

pub exists-same : (x : Outcome Value) (o p : Outcome Bag) → mapped is_some_row o ≡ mapped is_some_row p →
    both_then x o (sub_value Exists) ≡ both_then x p (sub_value Exists)
exists-same x o p e = asked x o ∙ (λ i. both told x (e i)) ∙ sym (asked x p)
