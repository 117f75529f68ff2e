-- The net of a desk in a cell: the sum of the nets of its slots.
use Rattle.std.specs.Prelude.{◌≡◌, ◌==◌, ℕ, ◌+◌, ◌<◌, Bool, if◌then◌else◌, List, [], ◌∷◌, ℤ, pos, ◌+ℤ◌}
use Rattle.view_board.specs.declared.rule.View.{View}
use Rattle.view_board.specs.declared.words.TheConstants.{CELLS}
use Rattle.view_board.specs.Words.{slot_net}

-- the nets of the slots from one on that the flags name
unfoldable pub net_from : List Bool → ℕ → List ℕ → ℕ → ℤ
net_from [] slot words cell = pos 0
net_from (owned ∷ flags) slot words cell =
    (if owned then slot_net words cell slot else pos 0) +ℤ net_from flags (slot + 1) words cell

-- the net of a desk in a cell
abbrev pub net_of : View → ℕ → ℤ
net_of v cell = net_from v.owned 0 v.numbers cell

-- the net of one cell moves by an amount, and the others stay
abbrev pub NetMoves : View → View → ℕ → ℤ → Type 0
NetMoves before after cell amount =
    (c : ℕ) → c < CELLS → net_of after c ≡ net_of before c +ℤ (if c == cell then amount else pos 0)

-- the net of a whole is the sum of the nets of two
abbrev pub NetAdds : View → View → View → Type 0
NetAdds whole v other = (c : ℕ) → c < CELLS → net_of whole c ≡ net_of v c +ℤ net_of other c
