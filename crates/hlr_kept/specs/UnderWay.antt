-- A register with its journal, while orders are under way.
use Rattle.std.specs.Prelude.{◌≡◌, ℕ, List, None}
use Rattle.hlr_owners.specs.Owners.{AllHome}
use Rattle.hlr_owners.specs.Store.{Store}
use Rattle.hlr_core.specs.declared.order.Answer.{Answer}
use Rattle.hlr_core.specs.declared.order.Order.{Order}
use Rattle.hlr_kept.specs.Runs.{IsAhead, IsOnDisk}
use Rattle.hlr_kept.specs.declared.journaled.Journaled.{Journaled}
use Rattle.hlr_kept.specs.declared.kept.Kept.{Kept}

-- The disk has the rows of a store, from which orders have led to the register with these answers. Their lines are yet
-- to be written.
pub record IsUnderWay {D : Type 0} (seen : D → List ℕ) (may_leave : D → List ℕ → Type 0) (stored : Store)
    (orders : List Order) (answers : List Answer) (now : Journaled D) : Type 0 where
  pub works : now.journal.fault ≡ None
  pub disk : IsOnDisk seen may_leave stored now.journal.tape
  pub ahead : IsAhead stored orders now.register answers now.journal.group.items

-- A register with its journal may be called: all its parts are home, and orders are under way unless a write has
-- failed.
pub record IsReady {D : Type 0} (seen : D → List ℕ) (may_leave : D → List ℕ → Type 0) (now : Journaled D) : Type 0 where
  pub home : AllHome now.register.owners
  pub under_way : now.journal.fault ≡ None
      → (stored : Store) × (orders : List Order) × (answers : List Answer) × IsUnderWay seen may_leave stored orders answers now

-- Nothing has changed.
pub record IsUnchanged {D : Type 0} (before after : Journaled D) : Type 0 where
  pub register : after.register ≡ before.register
  pub tape : after.journal.tape ≡ before.journal.tape
  pub group : after.journal.group.items ≡ before.journal.group.items
  pub fault : after.journal.fault ≡ before.journal.fault

-- orders are under way, and the answers to all of them are held
abbrev pub AreHeld : {D : Type 0} → (D → List ℕ) → (D → List ℕ → Type 0) → Store → List Order → Kept D → Type 0
AreHeld seen may_leave stored orders kept = IsUnderWay seen may_leave stored orders kept.held.items kept.journaled
