-- How many files are begun along a run.
use Rattle.std.proofs.Common.{◌≡◌, ◌∙◌, ℕ, zero, suc, ◌+◌, ◌≤◌, List, [], ◌∷◌, ◌++◌, length, take, length-append, refl, sym, ap, arith}
use Rattle.std.proofs.Math.Seq.{take-append-add}
use Rattle.std.proofs.lemmas.List.Sums.{sum_by-append, sum_by-cons, sum_by_push}
use Rattle.std.specs.List.{sum}
use Rattle.perm_io.specs.Counts.{next_count}
use Rattle.perm_engine.specs.meaning.Ends.{Opens, opened}
use Rattle.perm_engine.specs.meaning.Run.{Ran, after_files, after_text, ended, files_until, with_more}
use Rattle.perm_engine.specs.meaning.Stops.{Stop}
use Rattle.perm_engine.specs.declared.meaning.status.Status.{Status}
use Rattle.perm_engine.specs.declared.meaning.status.Status.TheVariants as status

short≢cut : status.NoMemory ≡ status.WriteFault → ⊥
short≢cut e = cc

-- ---- sums

pub sum-cons : (n : ℕ) (ns : List ℕ) → sum (n ∷ ns) ≡ n + sum ns
sum-cons n ns = sum_by-cons (λ x. x) n ns

sum-append : (ms ns : List ℕ) → sum (ms ++ ns) ≡ sum ms + sum ns
sum-append ms ns = sum_by-append (λ x. x) ms ns

sum-push : (ns : List ℕ) (n : ℕ) → sum (ns ++ n ∷ []) ≡ sum ns + n
sum-push ns n = sum_by_push (λ x. x) ns n

-- ---- files that are begun first

pub sum-more : (files : ℕ) (counts : List ℕ) → sum (with_more files counts) ≡ sum counts + files
sum-more files [] = let one = sum-cons files [] in omega (arith, one)
sum-more files (count ∷ counts) =
    let more = sum-cons (count + files) counts in
    let before = sum-cons count counts in
    omega (arith, more, before)

take-none : (k : ℕ) → sum (take k []) ≡ 0
take-none zero = refl
take-none (suc k) = refl

sum-take-more : (files k : ℕ) (counts : List ℕ) → sum (take (suc k) (with_more files counts)) ≡ sum (take (suc k) counts) + files
sum-take-more files k [] =
    let one = sum-cons files (take k []) in
    let none = take-none k in
    let before = take-none (suc k) in
    omega (arith, one, none, before)
sum-take-more files k (count ∷ counts) =
    let more = sum-cons (count + files) (take k counts) in
    let before = sum-cons count (take k counts) in
    omega (arith, more, before)

sum-take-most : (files k : ℕ) (counts : List ℕ) → sum (take k (with_more files counts)) ≤ sum (take k counts) + files
sum-take-most files zero counts = omega arith
sum-take-most files (suc k) counts = let more = sum-take-more files k counts in omega (arith, more)

-- ---- files that were begun behind others

pub opened-more : (m n count : ℕ) → opened (n + m) count ≡ opened n (opened m count)
opened-more m zero count = let e : zero + m ≡ m = omega arith in ap (λ k. opened k count) e
opened-more m (suc n) count = let e : suc n + m ≡ suc (n + m) = omega arith in ap (λ k. opened k count) e ∙ ap next_count (opened-more m n count)

-- a run that begins no file
pub Opens-none : (stop : Stop) (count : ℕ) (s : Status) → Opens (ended stop) 0 count count s
Opens-none stop count s = record { files = 0; least = omega arith; most = omega arith; cut = λ _. refl; whole = λ _. refl; counted = refl }

-- the line of a statement that began so many
pub Opens-ended : (stop : Stop) (files before after : ℕ) (s : Status) → after ≡ opened files before → Opens (after_files files (ended stop)) 0 before after s
Opens-ended stop files before after s counted =
    let all = sum-more files (0 ∷ []) in
    let some = sum-take-more files 0 (0 ∷ []) in
    record {
      files = files;
      least = omega arith;
      most = omega (arith, some);
      cut = λ _. omega (arith, some);
      whole = λ _. omega (arith, all);
      counted = counted;
    }

-- a run behind the script's file
pub Opens-file : (ran : Ran) (texts before after : ℕ) (s : Status) → Opens ran texts (opened 1 before) after s → Opens (after_files 1 ran) texts before after s
Opens-file ran texts before after s o =
    let all = sum-more 1 ran.begun in
    let some = sum-take-more 1 texts ran.begun in
    let few = sum-take-most 1 texts ran.begun in
    record {
      files = o.files + 1;
      least = omega (arith, few, o.least);
      most = omega (arith, some, o.most);
      cut = λ e. let here = o.cut e in omega (arith, some, here);
      whole = λ w. let here = o.whole w in omega (arith, all, here);
      counted = o.counted ∙ sym (opened-more 1 o.files before);
    }

-- a text that is cut short, of a statement that began so many
pub Opens-cut : (text : List ℕ) (rest : Ran) (files before after : ℕ) → after ≡ opened files before → Opens (after_files files (after_text text rest)) 0 before after status.WriteFault
Opens-cut text rest files before after counted =
    let first = sum-take-more files 0 (0 ∷ rest.begun) in
    let none = sum-cons 0 [] in
    record {
      files = files;
      least = omega arith;
      most = omega (arith, first, none);
      cut = λ _. omega (arith, first, none);
      whole = λ wrong. absurd wrong;
      counted = counted;
    }

-- memory is wanting for a statement that begins some
pub Opens-short : (ran : Ran) (files most before after : ℕ) → files ≤ most → most ≤ files_until ran 1 → after ≡ opened files before → Opens ran 0 before after status.NoMemory
Opens-short ran files most before after few some counted = record {
  files = files;
  least = omega arith;
  most = omega (arith, few, some);
  cut = λ wrong. absurd (short≢cut wrong);
  whole = λ wrong. absurd wrong;
  counted = counted;
}

pub first-begun : (ran : Ran) → 1 ≤ files_until (after_files 1 ran) 1
first-begun ran = let more = sum-take-more 1 0 ran.begun in omega (arith, more)

-- ---- what was begun for the texts before those of a run

-- one text more, and the files that were begun before it
pub opened-push : (counts : List ℕ) (files start before after : ℕ) → before ≡ opened (sum counts) start → after ≡ opened files before → after ≡ opened (sum (counts ++ files ∷ [])) start
opened-push counts files start before after some more =
    let all : files + sum counts ≡ sum (counts ++ files ∷ []) = let push = sum-push counts files in omega (arith, push) in
    more ∙ ap (opened files) some ∙ sym (opened-more (sum counts) files start) ∙ ap (λ n. opened n start) all

pub length-push : {X : Type 0} (texts : List X) (counts : List ℕ) (text : X) (files : ℕ) → length counts ≡ length texts → length (counts ++ files ∷ []) ≡ length (texts ++ text ∷ [])
length-push texts counts text files each = omega (arith, each, length-append texts (text ∷ []), length-append counts (files ∷ []))

module _ (counts : List ℕ) (begun : List ℕ) where
  until-behind : (n k : ℕ) → length counts + k ≡ n → sum (take n (counts ++ begun)) ≡ sum counts + sum (take k begun)
  until-behind n k e =
      ap (λ m. sum (take m (counts ++ begun))) (sym e) ∙ ap sum (take-append-add counts begun k) ∙ sum-append counts (take k begun)

  pub all-behind : sum (counts ++ begun) ≡ sum counts + sum begun
  all-behind = sum-append counts begun

  pub until-texts : (texts k : ℕ) → length counts ≡ texts → sum (take (texts + k) (counts ++ begun)) ≡ sum counts + sum (take k begun)
  until-texts texts k e = until-behind (texts + k) k (omega (arith, e))

  pub until-next : (texts k : ℕ) → length counts ≡ texts → sum (take (suc (texts + k)) (counts ++ begun)) ≡ sum counts + sum (take (suc k) begun)
  until-next texts k e = until-behind (suc (texts + k)) (suc k) (omega (arith, e))
