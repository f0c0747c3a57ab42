-- Tables kept one after another, where they aren't kept yet, are kept once each, where they are read first.
use mathlib.Core.Bool.{true≢false}
use Rattle.std.proofs.Common.{◌≡◌, ◌⊎◌, inl, inr, ℕ, Bool, true, false, not, ◌||◌, cond, List, [], ◌∷◌, ◌++◌, filter, Option, Some, None, append-nil, append_assoc, refl, sym, ap, ◌∙◌, arith, nat_eq}
use Rattle.std.proofs.lemmas.Bool.{not-true, not-false, eqb-true}
use Rattle.std.proofs.lemmas.Bool.Decides.{nat_tests}
use Rattle.std.specs.List.{flat_map}
use Rattle.std.specs.Option.{option_map, option_map_or}
use Rattle.bag_algebra.proofs.Truths.{or_associates, or_false, or_true}
use Rattle.bag_algebra.specs.TablesRead.{TableRead, tables_read}
use Rattle.bag_algebra.specs.declared.query.Query.{Query}
use Rattle.perm_catalog.specs.Contents.{Contents}
use Rattle.perm_catalog.specs.Lookups.{entry_of_id}
use Rattle.perm_catalog.specs.Stored.{each_once, kept_read, kept_of}
use Rattle.perm_catalog.specs.declared.entries.SourceVersion.{SourceVersion}
use Rattle.perm_catalog.specs.declared.entries.TableEntry.{TableEntry}
use Rattle.stored_provenance.proofs.Found.{found-passes}
use Rattle.stored_provenance.specs.Reads.{has_id, kept_now, listed, with_reads}

turned : (a b : ℕ) → nat_eq a b ≡ nat_eq b a
turned a b = grind (arith, nat_tests)

-- the table that has an identity has it
pub entry-id : (c : Contents) (id : ℕ) (e : List ℕ × TableEntry) → entry_of_id c id ≡ Some e → e.1.id ≡ id
entry-id c id e h = eqb-true e.1.id id (found-passes (λ (t : TableEntry). nat_eq t.id id) c.tables e h)

-- ---- what adds nothing may be passed over

module _ {X Y : Type 0} (f : X → List Y) (here there apart : X → Bool)
    (alike : (x : X) → apart x ≡ true → here x ≡ there x)
    (gone : (x : X) → apart x ≡ false → (here x ≡ false) ⊎ (f x ≡ [])) where
  kept-alike : (x : X) (us vs : List X) (b : Bool) → flat_map f us ≡ flat_map f vs →
      flat_map f (cond b (x ∷ us) us) ≡ flat_map f (cond b (x ∷ vs) vs)
  kept-alike x us vs true e = ap (λ l. f x ++ l) e
  kept-alike x us vs false e = e

  kept-gone : (x : X) (us : List X) (b : Bool) → here x ≡ b → (here x ≡ false) ⊎ (f x ≡ []) → flat_map f (cond b (x ∷ us) us) ≡ flat_map f us
  kept-gone x us true is (inl failing) = absurd (true≢false (sym is ∙ failing))
  kept-gone x us true is (inr none) = ap (λ l. l ++ flat_map f us) none
  kept-gone x us false is h = refl

  passed-by : (x : X) (xs : List X) (b : Bool) → apart x ≡ b → flat_map f (filter here xs) ≡ flat_map f (filter there (filter apart xs)) →
      flat_map f (filter here (x ∷ xs)) ≡ flat_map f (filter there (cond b (x ∷ filter apart xs) (filter apart xs)))
  passed-by x xs true is e =
      kept-alike x (filter here xs) (filter there (filter apart xs)) (here x) e
      ∙ ap (λ b. flat_map f (cond b (x ∷ filter there (filter apart xs)) (filter there (filter apart xs)))) (alike x is)
  passed-by x xs false is e = kept-gone x (filter here xs) (here x) refl (gone x is) ∙ e

  pub passed-over : (xs : List X) → flat_map f (filter here xs) ≡ flat_map f (filter there (filter apart xs))
  passed-over [] = refl
  passed-over (x ∷ xs) = passed-by x xs (apart x) refl (passed-over xs)

-- ---- identities of what is kept

has_id-append : (id : ℕ) (xs ys : List SourceVersion) → has_id id (xs ++ ys) ≡ (has_id id xs || has_id id ys)
has_id-append id [] ys = refl
has_id-append id (x ∷ xs) ys = ap (λ b. nat_eq x.id id || b) (has_id-append id xs ys) ∙ sym (or_associates (nat_eq x.id id) (has_id id xs) (has_id id ys))

module _ (c : Contents) where
  read-now-by : (read : TableRead) (o : Option (List ℕ × TableEntry)) → entry_of_id c read.id ≡ o →
      option_map_or {U = List SourceVersion} (λ (e : List ℕ × TableEntry). record { table = e.0; id = e.1.id; version = e.1.version } ∷ []) o []
      ≡ listed (option_map (λ (e : List ℕ × TableEntry). record { table = e.0; id = read.id; version = e.1.version }) o)
  read-now-by read None is = refl
  read-now-by read (Some e) is = ap (λ id. record { table = e.0; id = id; version = e.1.version } ∷ []) (entry-id c read.id e is)

  read-now : (read : TableRead) → kept_read c read ≡ listed (kept_now c read.id)
  read-now read = read-now-by read (entry_of_id c read.id) refl

  module _ (read : TableRead) (kept : List SourceVersion) where
    abbrev other : TableRead → Bool
    other r = not (nat_eq r.id read.id)

    abbrev unkept : List SourceVersion → TableRead → Bool
    unkept k r = not (has_id r.id k)

    same-id : (r : TableRead) → other r ≡ false → r.id ≡ read.id
    same-id r h = eqb-true r.id read.id (not-false (nat_eq r.id read.id) h)

    new-has : (r : TableRead) (o : Option (List ℕ × TableEntry)) → other r ≡ true →
        has_id r.id (listed (option_map (λ (e : List ℕ × TableEntry). record { table = e.0; id = read.id; version = e.1.version }) o)) ≡ false
    new-has r None apart = refl
    new-has r (Some e) apart = or_false (nat_eq read.id r.id) ∙ turned read.id r.id ∙ not-true (nat_eq r.id read.id) apart

    alike-new : (r : TableRead) → other r ≡ true → unkept (kept ++ listed (kept_now c read.id)) r ≡ unkept kept r
    alike-new r apart =
        ap not (has_id-append r.id kept (listed (kept_now c read.id))
        ∙ ap (λ b. has_id r.id kept || b) (new-has r (entry_of_id c read.id) apart) ∙ or_false (has_id r.id kept))

    gone-by : (r : TableRead) (o : Option (List ℕ × TableEntry)) → entry_of_id c read.id ≡ o → other r ≡ false →
        (unkept (kept ++ listed (option_map (λ (e : List ℕ × TableEntry). record { table = e.0; id = read.id; version = e.1.version }) o)) r ≡ false)
        ⊎ (option_map_or {U = List SourceVersion} (λ (e : List ℕ × TableEntry). record { table = e.0; id = e.1.id; version = e.1.version } ∷ []) o [] ≡ [])
    gone-by r None is same = inr refl
    gone-by r (Some e) is same =
        inl (ap not (has_id-append r.id kept (record { table = e.0; id = read.id; version = e.1.version } ∷ [])
        ∙ ap (λ b. has_id r.id kept || (b || false)) (turned read.id r.id ∙ not-false (nat_eq r.id read.id) same)
        ∙ or_true (has_id r.id kept)))

    gone-new : (r : TableRead) → other r ≡ false → (unkept (kept ++ listed (kept_now c read.id)) r ≡ false) ⊎ (kept_read c r ≡ [])
    gone-new r same = as_read (gone-by r (entry_of_id c read.id) refl same) where
      as_read : (unkept (kept ++ listed (kept_now c read.id)) r ≡ false) ⊎ (kept_read c read ≡ []) →
          (unkept (kept ++ listed (kept_now c read.id)) r ≡ false) ⊎ (kept_read c r ≡ [])
      as_read (inl failing) = inl failing
      as_read (inr none) = inr (read-now r ∙ ap (λ id. listed (kept_now c id)) (same-id r same) ∙ sym (read-now read) ∙ none)

    gone-old : has_id read.id kept ≡ true → (r : TableRead) → other r ≡ false → (unkept kept r ≡ false) ⊎ (kept_read c r ≡ [])
    gone-old has r same = inl (ap (λ id. not (has_id id kept)) (same-id r same) ∙ ap not has)

    all-by : (reads : List TableRead) (b : Bool) → has_id read.id kept ≡ b →
        ((k : List SourceVersion) → with_reads c reads k ≡ k ++ flat_map (kept_read c) (filter (unkept k) (each_once reads))) →
        with_reads c reads (cond b kept (kept ++ listed (kept_now c read.id)))
        ≡ kept ++ flat_map (kept_read c) (cond (not b) (read ∷ filter (unkept kept) (filter other (each_once reads))) (filter (unkept kept) (filter other (each_once reads))))
    all-by reads true has more =
        more kept
        ∙ ap (λ l. kept ++ l) (passed-over (kept_read c) (unkept kept) (unkept kept) other (λ r _. refl) (gone-old has) (each_once reads))
    all-by reads false has more =
        more (kept ++ listed (kept_now c read.id))
        ∙ append_assoc kept (listed (kept_now c read.id)) _
        ∙ (λ i. kept ++ (sym (read-now read) i
        ++ passed-over (kept_read c) (unkept (kept ++ listed (kept_now c read.id))) (unkept kept) other alike-new gone-new (each_once reads) i))

  pub reads-kept : (reads : List TableRead) (kept : List SourceVersion) →
      with_reads c reads kept ≡ kept ++ flat_map (kept_read c) (filter (λ (r : TableRead). not (has_id r.id kept)) (each_once reads))
  reads-kept [] kept = sym (append-nil kept)
  reads-kept (read ∷ reads) kept = all-by read kept reads (has_id read.id kept) refl (reads-kept reads)

  none-left : (reads : List TableRead) → filter (λ (r : TableRead). true) reads ≡ reads
  none-left [] = refl
  none-left (r ∷ reads) = ap (λ l. r ∷ l) (none-left reads)

  pub query-kept : (query : Query) → with_reads c (tables_read query) [] ≡ kept_of c query
  query-kept query = reads-kept (tables_read query) [] ∙ ap (flat_map (kept_read c)) (none-left (each_once (tables_read query)))
