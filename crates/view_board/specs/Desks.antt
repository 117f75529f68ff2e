-- A desk as contracts see it: its board, and what it knows.
use Rattle.std.specs.Prelude.{◌≡◌, ℕ, Bool, true, List, []}
use Rattle.atomic_table.specs.Seated.{TableId}
use Rattle.atomic_table.specs.Table.{Me}
use Rattle.view_board.specs.declared.rule.View.{View}
use Rattle.view_board.specs.Views.{IsWide}
use Rattle.view_board.specs.Words.{AreSmall}

-- a desk: its board, and what it knows
pub record DeskState : Type 0 where
  pub board : TableId
  pub view : View

-- the same desk, which knows something else
abbrev pub with_view : DeskState → View → DeskState
with_view desk v = record desk { view = v }

-- the flags and numbers that a desk stores are those of its view, and no number passes the limit. The number that it
-- stores for a word of another desk means nothing
pub record Agrees (me : Me (Unit {0}) View) (flags : List Bool) (stored : List ℕ) : Type 0 where
  pub owned : me.0.owned ≡ flags
  pub numbers : me.0.numbers ≡ stored
  pub hand : me.1 ≡ []
  pub wide : IsWide me.0
  pub small : AreSmall stored
  pub was_apart : me.0.was_apart ≡ true
