-- The rule of the board between any two steps, and what each kind of step tells the desk that steps.
use Rattle.std.specs.Prelude.{◌≡◌, ℕ, ◌≤◌, true, List, length, slice_index}
use mathlib.Core.Option.{some}
use lib.ListN.{get_elem?}
use Rattle.atomic_table.specs.Table.{State, Me, Step}
use Rattle.view_board.specs.declared.rule.View.{View}
use Rattle.view_board.specs.declared.words.TheConstants.{WORDS, LIMIT}
use Rattle.view_board.specs.Words.{AreSmall}
use Rattle.view_board.specs.Views.{Owns, OwnsWord, raised, saw}

-- a desk and the words: its own words are its numbers, what it has seen of a word is at most the word, and no slot came
-- to it twice
pub record Fits (words : List ℕ) (v : View) : Type 0 where
  pub own : (w : ℕ) → OwnsWord v w → slice_index v.numbers w ≡ slice_index words w
  pub seen : (w : ℕ) → slice_index v.seen w ≤ slice_index words w
  pub was_apart : v.was_apart ≡ true

-- no word passes the limit, each desk fits the words, and a slot is of one desk at most
pub record IsRuled (s : State (Unit {0}) View) : Type 0 where
  pub wide : length s.words ≡ WORDS
  pub small : AreSmall s.words
  pub fits : (by : ℕ) (v : View) → get_elem? s.views by ≡ some v → Fits s.words v
  pub apart : (a b : ℕ) (u v : View) (slot : ℕ) → get_elem? s.views a ≡ some u → get_elem? s.views b ≡ some v → Owns u slot → Owns v slot → a ≡ b

-- an own word was raised
pub record IsRaiseStep (step : Step (Unit {0})) (before : Me (Unit {0}) View) (found : ℕ) (after : Me (Unit {0}) View) : Type 0 where
  pub view : after.0 ≡ raised before.0 step.word step.first
  pub hand : after.1 ≡ before.1

-- a word was looked at: it is the desk's number where it is its own, at least what was seen of it, and not past the
-- limit
pub record IsLookStep (step : Step (Unit {0})) (before : Me (Unit {0}) View) (found : ℕ) (after : Me (Unit {0}) View) : Type 0 where
  pub view : after.0 ≡ saw before.0 step.word found
  pub hand : after.1 ≡ before.1
  pub own : OwnsWord before.0 step.word → found ≡ slice_index before.0.numbers step.word
  pub later : slice_index before.0.seen step.word ≤ found
  pub small : found ≤ LIMIT

-- the desk is left as it is, and told what the rule says of it
pub record IsCheckStep (step : Step (Unit {0})) (before : Me (Unit {0}) View) (found : ℕ) (after : Me (Unit {0}) View) : Type 0 where
  pub same : after ≡ before
  pub within : (w : ℕ) → OwnsWord before.0 w → slice_index before.0.seen w ≤ slice_index before.0.numbers w
  pub was_apart : before.0.was_apart ≡ true
