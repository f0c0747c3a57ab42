-- What a change of one table leaves of tables that store provenance.
use Rattle.std.proofs.Common.{◌≡◌, ◌≢◌, ◌⊎◌, inl, inr, ℕ, true, cond, List, Option, Some, None, refl, sym, ap, subst, ◌∙◌, nat_eq}
use Rattle.std.specs.Prelude.{All, Contains, IfSome}
use Rattle.std.proofs.lemmas.List.Elements.{All-contains, All-contains_itself, All-weaker}
use Rattle.std.specs.Cmp.Lexicographic.{pointwise}
use Rattle.perm_catalog.proofs.Named.{AtName, Elsewhere, found, found-apart, same-or-not}
use Rattle.perm_catalog.specs.Changes.{table_named}
use Rattle.perm_catalog.specs.Contents.{Contents}
use Rattle.perm_catalog.specs.Stored.{is_unchanged, IsDrawn, IsFresh}
use Rattle.perm_catalog.specs.declared.entries.SourceVersion.{SourceVersion}
use Rattle.perm_catalog.specs.declared.entries.StoredQuery.{StoredQuery}
use Rattle.perm_catalog.specs.declared.entries.TableEntry.{TableEntry}
use Rattle.stored_provenance.proofs.Marks.{AreApart, IsHere, all-pass, here-unchanged, none-fails, unchanged-here}
use Rattle.statement_meaning.specs.laws.Freshened.{IsStoredRead, IsUnread}

-- ---- one table of a name changed, put there, or taken away

module _ (c d : Contents) (name : List ℕ) (put : Option TableEntry)
    (change : (q : List ℕ) → table_named d q ≡ cond (pointwise nat_eq name q) put (table_named c q)) where
  -- what stands there now isn't the table of this identity with this version
  abbrev IsOther : ℕ → ℕ → Type 0
  IsOther id version = (t : TableEntry) → put ≡ Some t → t.id ≡ id → t.version ≡ version → ⊥

  abbrev Place : List ℕ → TableEntry → Type 0
  Place q t = AtName put name q t ⊎ Elsewhere (table_named c q) name q t

  place : (q : List ℕ) (t : TableEntry) → table_named d q ≡ Some t → Place q t
  place q t h = found put (table_named c q) (table_named d q) name q t (change q) h

  was-by : (id version : ℕ) → IsOther id version → (h : IsHere d id version) → Place h.held.name h.held.table → IsHere c id version
  was-by id version other h (inl here) = absurd (other h.held.table here.is h.held.id_is h.version_is)
  was-by id version other h (inr else) = record {
    held = record { name = h.held.name; table = h.held.table; is = else.was; id_is = h.held.id_is };
    version_is = h.version_is;
  }

  was-here : (id version : ℕ) → IsOther id version → IsHere d id version → IsHere c id version
  was-here id version other h = was-by id version other h (place h.held.name h.held.table h.held.is)

  stays-by : (id version : ℕ) → ((t : TableEntry) → table_named c name ≡ Some t → t.id ≢ id) → (h : IsHere c id version)
      → (name ≡ h.held.name) ⊎ (name ≢ h.held.name) → IsHere d id version
  stays-by id version apart h (inl same) = absurd (apart h.held.table (ap (table_named c) same ∙ h.held.is) h.held.id_is)
  stays-by id version apart h (inr other) = record {
    held = record {
      name = h.held.name;
      table = h.held.table;
      is = found-apart put (table_named c h.held.name) (table_named d h.held.name) name h.held.name (change h.held.name) other ∙ h.held.is;
      id_is = h.held.id_is;
    };
    version_is = h.version_is;
  }

  stays-here : (id version : ℕ) → ((t : TableEntry) → table_named c name ≡ Some t → t.id ≢ id) → IsHere c id version → IsHere d id version
  stays-here id version apart h = stays-by id version apart h (same-or-not name h.held.name)

  gone-by : AreApart c → (t : TableEntry) → table_named c name ≡ Some t → (version : ℕ) → IsOther t.id version → (h : IsHere d t.id version)
      → Place h.held.name h.held.table → ⊥
  gone-by before t is version other h (inl here) = other h.held.table here.is h.held.id_is h.version_is
  gone-by before t is version other h (inr else) = else.apart (before.identities name h.held.name t h.held.table is else.was (sym h.held.id_is))

  gone : AreApart c → (t : TableEntry) → table_named c name ≡ Some t → (version : ℕ) → IsOther t.id version → IsHere d t.id version → ⊥
  gone before t is version other h = gone-by before t is version other h (place h.held.name h.held.table h.held.is)

  -- ---- what a table stores

  module _ (before : AreApart c) (after : AreApart d) (stored : StoredQuery) (drawn : All (IsDrawn c) stored.kept) where
    here-all : (e : Contents) → AreApart e → IsFresh e stored → (kept : SourceVersion) → Contains stored.kept kept → IsHere e kept.id kept.version
    here-all e apart fresh kept among =
        unchanged-here e apart kept
        (All-contains (λ (k : SourceVersion). is_unchanged e k ≡ true) stored.kept kept (none-fails (is_unchanged e) stored.kept fresh) among)

    fresh-all : (e : Contents) → AreApart e → ((kept : SourceVersion) → Contains stored.kept kept → IsHere e kept.id kept.version) → IsFresh e stored
    fresh-all e apart here =
        all-pass (is_unchanged e) stored.kept
        (All-weaker (Contains stored.kept) (λ (k : SourceVersion). is_unchanged e k ≡ true) (λ k among. here-unchanged e apart k (here k among)) stored.kept
        (All-contains_itself stored.kept))

    -- what is there now with a number that was drawn before
    abbrev IsNew : Type 0
    IsNew = (kept : SourceVersion) → IsDrawn c kept → IsOther kept.id kept.version

    pub never-again : IsNew → IsFresh d stored → IsFresh c stored
    never-again new fresh =
        fresh-all c before
        (λ kept among. was-here kept.id kept.version (new kept (All-contains (IsDrawn c) stored.kept kept drawn among)) (here-all d after fresh kept among))

    unread-by : (o : Option TableEntry) → table_named c name ≡ o → IfSome o (λ (table : TableEntry). All (λ (kept : SourceVersion). kept.id ≢ table.id) stored.kept)
        → (kept : SourceVersion) → Contains stored.kept kept → (t : TableEntry) → table_named c name ≡ Some t → t.id ≢ kept.id
    unread-by None none unread kept among t is = absurd (let e : None ≡ Some t = sym none ∙ is in cc)
    unread-by (Some table) is_there unread kept among t is =
        let same : table ≡ t = (let e : Some table ≡ Some t = sym is_there ∙ is in cc) in
        λ e. All-contains (λ (k : SourceVersion). k.id ≢ table.id) stored.kept kept unread among (sym e ∙ ap (λ (x : TableEntry). x.id) (sym same))

    pub stays-fresh : IsUnread c stored name → IsFresh c stored → IsFresh d stored
    stays-fresh unread fresh =
        fresh-all d after
        (λ kept among. stays-here kept.id kept.version (unread-by (table_named c name) refl unread kept among) (here-all c before fresh kept among))

    pub ends-fresh : IsNew → IsStoredRead c stored name → IsFresh d stored → ⊥
    ends-fresh new read fresh =
        let h = here-all d after fresh read.kept read.among in
        gone before read.table read.named read.kept.version
        (λ t is id version. new read.kept (All-contains (IsDrawn c) stored.kept read.kept drawn read.among) t is (id ∙ sym read.same) version)
        (subst (λ (id : ℕ). IsHere d id read.kept.version) read.same h)
