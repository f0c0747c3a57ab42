-- Function values that read from a cursor.
use Rattle.std.specs.Prelude.{◌≡◌, ◌<◌, ◌≤◌, ℕ, List, Result, Ok, length}
use denote.MutBor.{MutBor}
use Rattle.sql_lexer.specs.declared.token.Token.{Token}
use Rattle.sql_tree.specs.grammar.Cursors.{Reads}
use Rattle.sql_tree.specs.grammar.Descent.{Parsed, Taken}
use Rattle.sql_tree.specs.grammar.Lists.{all_of, listed, more_listed}
use Rattle.sql_tree.specs.declared.grammar.unread.Unread.{Unread}
use Rattle.sql_tree.specs.declared.grammar.sort.Sort.{Sort}

abbrev pub Post : Type 0 → Type 1
Post X = MutBor (List Token) → Result X Unread → MutBor (List Token) → Type 0

-- it may be called where no more than a number of tokens is left, and leaves no more
pub record IsCallable {X : Type 0} (most : ℕ) (pre : MutBor (List Token) → Type 0) (post : Post X) : Type 0 where
  pub callable : (old : MutBor (List Token)) → length old.now ≤ most → pre old
  pub fewer : (old new : MutBor (List Token)) (x : X) → post old (Ok x) new → length new.now ≤ length old.now

-- it reads what the reading gives
pub record IsReader {X : Type 0} (post : Post X) (reading : List Token → Parsed Token X) : Type 0 where
  pub reads : (old new : MutBor (List Token)) (r : Result X Unread) → post old r new → Reads r (reading old.now) new.now
  pub fewer : (old : List Token) (x : X) (new : List Token) → reading old ≡ Taken x new → length new ≤ length old

-- a list is read of what it reads
abbrev pub ReadsList : {X : Type 0} → Post X → Sort → List Token → Result (List X) Unread → List Token → Type 0
ReadsList {X = X} post separator old result new =
    (reading : List Token → Parsed Token X) → IsReader post reading → Reads result (listed separator reading old) new

-- and of one that was read before and what it reads
abbrev pub ReadsMore : {X : Type 0} → Post X → Sort → X → List Token → Result (List X) Unread → List Token → Type 0
ReadsMore {X = X} post separator first old result new =
    (reading : List Token → Parsed Token X) → IsReader post reading → Reads result (more_listed separator reading first old) new

-- it may be called where no more than a number of tokens is left, and takes one at least
pub record TakesBelow {X : Type 0} (most : ℕ) (pre : MutBor (List Token) → Type 0) (post : Post X) : Type 0 where
  pub callable : (old : MutBor (List Token)) → length old.now ≤ most → pre old
  pub fewer : (old new : MutBor (List Token)) (x : X) → post old (Ok x) new → length new.now < length old.now

-- it reads what the reading gives, which takes a token at least
pub record IsTaker {X : Type 0} (post : Post X) (reading : List Token → Parsed Token X) : Type 0 where
  pub reads : (old new : MutBor (List Token)) (r : Result X Unread) → post old r new → Reads r (reading old.now) new.now
  pub fewer : (old : List Token) (x : X) (new : List Token) → reading old ≡ Taken x new → length new < length old

-- all that stand there are read of what it reads
abbrev pub ReadsAll : {X : Type 0} → Post X → List Sort → List Token → Result (List X) Unread → List Token → Type 0
ReadsAll {X = X} post sorts old result new =
    (reading : List Token → Parsed Token X) → IsTaker post reading → Reads result (all_of sorts reading old) new
