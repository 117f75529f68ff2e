-- Owners that others may replace while parts are lent, because jobs were done to their holdings. Each subscriber keeps
-- the number.
use Rattle.std.specs.Prelude.{◌≡◌, ℕ, List, map, Option, IfSome}
use Rattle.std.specs.List.{AllZip}
use Rattle.holding.specs.Held.{HoldingState}
use Rattle.hlr_owners.specs.Owners.{OwnersState, IsLaterOwner, IsBackFor, state_of}
use Rattle.hlr_owners.specs.declared.part_owner.RegionOwner.{RegionOwner}
use Rattle.hlr_core.specs.Index.{number_pair}

-- the pairs of number and subscriber of a holding's rows
abbrev pub numbers_of : HoldingState → List (ℕ × ℕ)
numbers_of holding = map number_pair holding.part.book.subscribers

-- the pairs of number and subscriber of an owner's rows
abbrev pub numbers_at : RegionOwner → List (ℕ × ℕ)
numbers_at owner = map number_pair (state_of owner).part.book.subscribers

-- an owner, and another one that may replace it, with the same numbers of its subscribers
pub record IsLater (before after : RegionOwner) : Type 0 where
  pub owner : IsLaterOwner before after
  pub numbers : numbers_at after ≡ numbers_at before

-- each owner in a list may be replaced by the one in the same place of the other list
abbrev pub AreLater : List RegionOwner → List RegionOwner → Type 0
AreLater before after = AllZip IsLater before after

-- the same register with other owners
abbrev pub with_owners : OwnersState → List RegionOwner → OwnersState
with_owners h owners = record h { owners = owners }

-- a holding may come home as this owner's: its part is lent, and only jobs were done to it
abbrev pub IsBackWith : Option RegionOwner → HoldingState → Type 0
IsBackWith owner holding = IsBackFor owner holding × IfSome owner (λ had. numbers_of holding ≡ numbers_at had)
