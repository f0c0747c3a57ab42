-- What the code finds of items of FROM is what these mean.
use Rattle.std.specs.Prelude.{◌≡◌, ℕ, List, [], ◌∷◌, ◌++◌, Option, Some, Err}
use Rattle.std.specs.Option.{option_map_or}
use Rattle.std.proofs.Common.{refl, ap, sym, subst, ◌∙◌}
use Rattle.bag_algebra.specs.Kinds.{kinds_of, kinds_in}
use Rattle.bag_algebra.specs.declared.query.JoinKind.TheVariants as join
use Rattle.bag_algebra.specs.declared.query.Label.{Label}
use Rattle.bag_algebra.specs.declared.query.Label.TheVariants.{Relation, External}
use Rattle.bag_algebra.specs.declared.query.Query.{Query}
use Rattle.bag_algebra.specs.declared.query.Query.TheVariants.{Base}
use Rattle.perm_values.specs.declared.kind.Kind.{Kind}
use Rattle.sql_tree.specs.declared.source.ScopeMark.{ScopeMark}
use Rattle.sql_tree.specs.declared.source.ScopeMark.TheVariants as mark
use Rattle.contribution.specs.Conjunctions.{always}
use Rattle.name_meaning.specs.Froms.{FromMeant, FromPart, Read, all_places, beside_from, from_all, from_more, marked, names_of, no_from, read_names, texts_of, both_known}
use Rattle.name_meaning.specs.Scopes.{KnownColumn, ScopeItem, scope_of}
use Rattle.name_meaning.specs.declared.answer.Break.{Break}
use Rattle.name_meaning.specs.declared.scope.Scope.{Scope}
use Rattle.name_meaning.specs.laws.Facts.{Facts, facts_of, both_facts, source_facts}
use Rattle.name_meaning.proofs.FactsOf.{facts-Base, facts-Join_alone, both_facts-assoc, both_facts-none}
use Rattle.name_seen_parts.specs.Seen.{first_or}
use Rattle.name_seen_cores.specs.from.Added.{facts_in}
use Rattle.name_seen_parts.specs.Marks.{places_of}
use Rattle.name_seen_cores.specs.from.Marks.{marked_facts}
use Rattle.name_seen_cores.specs.from.Queried.{FromWhole}
use Rattle.name_seen_parts.specs.FromColumns.{known_names}
use Rattle.name_seen_parts.specs.Scopes.{scope_beside}
use Rattle.name_seen_cores.specs.from.Readings.{IsRead}
use Rattle.name_seen_cores.specs.declared.from.facts.Facts.{Facts as Gathered}
use Rattle.name_seen_cores.specs.declared.from.reading.Reading.{Reading}
use Rattle.name_seen_parts.proofs.Firsts.{first-stays, first-behind, both-none}
use Rattle.name_seen_parts.proofs.Scoping.{scope-beside-is, all-behind}

-- ---- marks

pub facts-based : (query : Query) (places : List ℕ) (label : Label) (kinds : List Kind) → kinds_of query ≡ kinds
    → facts_of (Base query places label) ≡ source_facts (record { label = label; kinds = kinds_in kinds places })
facts-based query places label kinds same =
    facts-Base query places label
    ∙ ap (λ (ks : List Kind). source_facts (record { label = label; kinds = kinds_in ks places })) same

pub names-read : (read : Read) (reading : Reading) → IsRead read reading → read_names read ≡ known_names reading.columns
names-read read reading is = ap (λ (columns : Option (List KnownColumn)). option_map_or names_of columns []) is.columns

pub marked-is : (mark : ScopeMark) (label : List ℕ) (read : Read) (reading : Reading) → IsRead read reading
    → facts_of (marked mark label (read_names read) read)
    ≡ marked_facts mark label (known_names reading.columns) reading.kinds (facts_in reading.plain)
marked-is mark.Plain label read reading is = is.plain
marked-is mark.BaseRelation label read reading is =
    facts-based read.query (all_places (read_names read)) (Relation label (read_names read)) reading.kinds is.kinds
    ∙ ap (λ (names : List (List ℕ)). source_facts (record { label = Relation label names; kinds = kinds_in reading.kinds (all_places names) }))
    (names-read read reading is)
marked-is (mark.External attributes) label read reading is =
    facts-based read.query (places_of (read_names read) attributes) (External (texts_of attributes)) reading.kinds is.kinds
    ∙ ap (λ (names : List (List ℕ)). source_facts (record { label = External (texts_of attributes); kinds = kinds_in reading.kinds (places_of names attributes) }))
    (names-read read reading is)

-- ---- sources side by side

pub beside-known : (left right : Option (List ScopeItem)) (xs ys : List ScopeItem) → left ≡ Some xs → right ≡ Some ys → both_known left right ≡ Some (xs ++ ys)
beside-known left right xs ys l r =
    ap (λ (known : Option (List ScopeItem)). both_known known right) l ∙ ap (λ (known : Option (List ScopeItem)). both_known (Some xs) known) r

pub both-add : (a b : Facts) (old middle new : Facts) → middle ≡ both_facts old a → new ≡ both_facts middle b → new ≡ both_facts old (both_facts a b)
both-add a b old middle new first second =
    second ∙ ap (λ (facts : Facts). both_facts facts b) first ∙ both_facts-assoc old a b

pub beside-whole : (left right : FromMeant) (old middle new : Gathered) (l r scope : Scope)
    → FromWhole left [] old middle l → FromWhole right l.items middle new r → scope ≡ scope_beside l r → FromWhole (beside_from left right) [] old new scope
beside-whole left right old middle new l r scope first second is = record {
  whole = both-none left.breaks right.breaks first.whole second.whole;
  items = first.items ++ second.items;
  known = beside-known left.items right.items first.items second.items first.known second.known;
  scope_is = is ∙ ap (λ (l : Scope). scope_beside l r) first.scope_is ∙ ap (λ (r : Scope). scope_beside (scope_of first.items) r) second.scope_is
      ∙ scope-beside-is first.items second.items;
  names = second.names ∙ ap (λ (scope : Scope). scope.items) (sym is);
  adds = both-add (facts_of left.query) (facts_of right.query) (facts_in old) (facts_in middle) (facts_in new) first.adds second.adds
      ∙ ap (both_facts (facts_in old)) (sym (facts-Join_alone join.Inner left.query right.query always));
}

alone-whole : (m : FromMeant) (old middle new : Gathered) (l r scope : Scope)
    → FromWhole no_from [] old middle l → FromWhole m l.items middle new r → scope ≡ scope_beside l r → FromWhole m [] old new scope
alone-whole m old middle new l r scope first second is =
    let none : l.items ≡ [] = sym first.names in
    let empty : [] ≡ first.items = cc (first.known) in
    let start : l ≡ scope_of [] = first.scope_is ∙ ap scope_of (sym empty) in
    let same : scope ≡ scope_of second.items =
    is ∙ ap (λ (l : Scope). scope_beside l r) start ∙ ap (λ (r : Scope). scope_beside (scope_of []) r) second.scope_is ∙ scope-beside-is [] second.items in
    let whole : r ≡ scope = second.scope_is ∙ sym same in
    record {
      whole = second.whole;
      items = second.items;
      known = second.known;
      scope_is = same;
      names = second.names ∙ ap (λ (names : List (List ℕ)). names ++ r.items) none ∙ ap (λ (scope : Scope). scope.items) whole;
      adds = second.adds ∙ ap (λ (facts : Facts). both_facts facts (facts_of m.query)) (first.adds ∙ both_facts-none (facts_in old));
    }

-- all sources so far, and one more
pub source-behind : (outer : List Scope) (parts : List FromPart) (part : FromPart) (old middle new : Gathered) (l r scope : Scope)
    → FromWhole (from_all outer parts) [] old middle l → FromWhole (part.means outer l.items) l.items middle new r → scope ≡ scope_beside l r
    → FromWhole (from_all outer (parts ++ part ∷ [])) [] old new scope
source-behind outer [] part old middle new l r scope first second is =
    let none : l.items ≡ [] = sym first.names in
    subst (λ (names : List (List ℕ)). FromWhole (part.means outer names) [] old new scope) none
    (alone-whole (part.means outer l.items) old middle new l r scope first second is)
source-behind outer (p ∷ parts) part old middle new l r scope first second is =
    subst (λ (m : FromMeant). FromWhole m [] old new scope) (sym (all-behind outer p parts part))
    (subst (λ (names : List (List ℕ)). FromWhole (beside_from (from_all outer (p ∷ parts)) (part.means outer names)) [] old new scope) (sym first.names)
    (beside-whole (from_all outer (p ∷ parts)) (part.means outer l.items) old middle new l r scope first second is))

-- ---- a break stands

stays-more : (outer : List Scope) (left : FromMeant) (parts : List FromPart) (b : Break) → first_or left.breaks (tt {0}) ≡ Err b
    → first_or (from_more outer left parts).breaks (tt {0}) ≡ Err b
stays-more outer left [] b e = e
stays-more outer left (part ∷ parts) b e =
    stays-more outer (beside_from left (part.means outer left.names)) parts b
    (first-stays left.breaks (part.means outer left.names).breaks (tt {0}) (tt {0}) b e)

more-so-far : (outer : List Scope) (left : FromMeant) (parts more : List FromPart)
    → from_more outer left (parts ++ more) ≡ from_more outer (from_more outer left parts) more
more-so-far outer left [] more = refl
more-so-far outer left (part ∷ parts) more = more-so-far outer (beside_from left (part.means outer left.names)) parts more

pub source-breaks : (outer : List Scope) (parts : List FromPart) (part : FromPart) (more : List FromPart) (old middle : Gathered) (l : Scope) (b : Break)
    → FromWhole (from_all outer parts) [] old middle l → first_or (part.means outer l.items).breaks (tt {0}) ≡ Err b
    → first_or (from_all outer (parts ++ part ∷ more)).breaks (tt {0}) ≡ Err b
source-breaks outer [] part more old middle l b first broken =
    stays-more outer (part.means outer []) more b
    (ap (λ (names : List (List ℕ)). first_or (part.means outer names).breaks (tt {0})) first.names ∙ broken)
source-breaks outer (p ∷ parts) part more old middle l b first broken =
    ap (λ (m : FromMeant). first_or m.breaks (tt {0})) (more-so-far outer (p.means outer []) parts (part ∷ more))
    ∙ stays-more outer (beside_from (from_all outer (p ∷ parts)) (part.means outer (from_all outer (p ∷ parts)).names)) more b
    (first-behind (from_all outer (p ∷ parts)).breaks (part.means outer (from_all outer (p ∷ parts)).names).breaks (tt {0}) first.whole
    ∙ ap (λ (names : List (List ℕ)). first_or (part.means outer names).breaks (tt {0})) first.names ∙ broken)
