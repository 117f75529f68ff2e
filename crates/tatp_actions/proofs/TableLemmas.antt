-- A pair of a table, read and known by its parts.
use Rattle.tatp_actions.proofs.Common.{◌≡◌, sym, ◌∙◌, ℕ, ◌<◌, List, length, get_or, get_or_read}

-- two reads of one place agree
pub same_read : {X : Type 0} (xs : List X) (i : ℕ) (x y : X) → i < length xs → x ≡ get_or xs i x → y ≡ get_or xs i y → x ≡ y
same_read xs i x y within first second = get_or_read xs i x within first y ∙ sym second

-- a pair is known by its parts
pub pair_is : {A B : Type 0} (a c : A) (b d : B) → a ≡ c → b ≡ d → ◌≡◌ {A = A × B} (a, b) (c, d)
pair_is a c b d first second = cc
