-- Orders that are submitted, and their answers, which are held.
use Rattle.std.proofs.Common.{◌≡◌, ◌⊎◌, ⊎_elim, ◌∙◌, sym, ap, subst, ℕ, ◌<◌, ◌≤◌, ◌+◌, List, [], ◌∷◌, ◌++◌, append_assoc, length, take, get_or, Option, Some, None, Result, Err, IsErrOf}
use Rattle.std.proofs.lemmas.List.{take_all, take_more}
use Rattle.journal_file.specs.Device.{LeavesOnly}
use Rattle.journal_file.specs.declared.fault.JournalFault.{JournalFault}
use Rattle.journal_file.specs.declared.fault.JournalFault.TheVariants.{Memory}
use Rattle.journal.specs.Lines.{HasFence}
use Rattle.journal.specs.declared.tape.Tape.{Tape}
use Rattle.journal.proofs.MomentLemmas.{weaker}
use Rattle.hlr_owners.specs.Owners.{OwnersState, store_in}
use Rattle.hlr_owners.specs.Store.{Store}
use Rattle.hlr_core.specs.Run.{IsRun}
use Rattle.hlr_core.specs.declared.order.Answer.{Answer}
use Rattle.hlr_core.specs.declared.order.Order.{Order}
use Rattle.hlr_kept.specs.Runs.{StandsAfterSome}
use Rattle.hlr_kept.specs.UnderWay.{IsUnderWay}
use Rattle.hlr_kept.specs.declared.journaled.Journaled.{Journaled}

-- one order more of a list
pub taken_more : (earlier all : List Order) (i : ℕ) (one : Order) → i < length all → one ≡ get_or all i one
    → (earlier ++ take i all) ++ one ∷ [] ≡ earlier ++ take (i + 1) all
taken_more earlier all i one within is =
    append_assoc earlier (take i all) (one ∷ [])
    ∙ ap (λ (l : List Order). earlier ++ l) (ap (λ (o : Order). take i all ++ o ∷ []) is ∙ sym (take_more all i one within))

module _ {D : Type 0} (seen : D → List ℕ) (may_leave : D → List ℕ → Type 0) where
  -- the same orders and answers, spelled otherwise
  pub under_way_same : (stored : Store) (orders orders2 : List Order) (answers answers2 : List Answer) (now : Journaled D) → orders ≡ orders2 → answers ≡ answers2
      → IsUnderWay seen may_leave stored orders answers now → IsUnderWay seen may_leave stored orders2 answers2 now
  under_way_same stored orders orders2 answers answers2 now same told was =
      subst (λ (a : List Answer). IsUnderWay seen may_leave stored orders2 a now) told
      (subst (λ (o : List Order). IsUnderWay seen may_leave stored o answers now) same was)

  -- all orders have been carried out
  pub run_of_all : (stored : Store) (earlier all : List Order) (i : ℕ) (answers told : List Answer) (now : Journaled D) (register : OwnersState) → length all ≤ i
      → IsUnderWay seen may_leave stored (earlier ++ take i all) answers now → told ≡ answers → register ≡ now.register → IsRun (earlier ++ all) stored told (store_in register)
  run_of_all stored earlier all i answers told now register past was same still =
      subst (λ (o : List Order). IsRun (earlier ++ o) stored told (store_in register)) (take_all i all past)
      (subst (λ (t : List Answer). IsRun (earlier ++ take i all) stored t (store_in register)) (sym same)
      (subst (λ (r : OwnersState). IsRun (earlier ++ take i all) stored answers (store_in r)) (sym still) was.ahead.run))

module _ {D : Type 0} (moment : D → ℕ) (left_since : D → ℕ → List ℕ → Type 0) where
  -- what a crash leaves while all of them are written
  pub all_stand : (old mid new : Tape D) (stored : Store) (earlier all : List Order) (i : ℕ) (answers : List Answer) → mid ≡ old → length all ≤ i
      → LeavesOnly moment left_since mid.device new.device (λ c. HasFence c × StandsAfterSome (earlier ++ take i all) answers stored c)
      → LeavesOnly moment left_since old.device new.device (λ c. HasFence c × (told : List Answer) × StandsAfterSome (earlier ++ all) told stored c)
  all_stand old mid new stored earlier all i answers same past run =
      subst (λ (t : Tape D). LeavesOnly moment left_since t.device new.device (λ c. HasFence c × (told : List Answer) × StandsAfterSome (earlier ++ all) told stored c)) same
      (weaker moment left_since mid.device new.device (λ c. HasFence c × StandsAfterSome (earlier ++ take i all) answers stored c)
      (λ c. HasFence c × (told : List Answer) × StandsAfterSome (earlier ++ all) told stored c) run
      (λ c here. (here.0, answers, subst (λ (o : List Order). StandsAfterSome (earlier ++ o) answers stored c) (take_all i all past) here.1)))

  -- and where nothing was written
  pub none_stand : (old new : Tape D) (stored : Store) (orders : List Order)
      → LeavesOnly moment left_since old.device new.device (λ c. HasFence c × StandsAfterSome orders [] stored c)
      → LeavesOnly moment left_since old.device new.device (λ c. HasFence c × (told : List Answer) × StandsAfterSome orders told stored c)
  none_stand old new stored orders run =
      weaker moment left_since old.device new.device (λ c. HasFence c × StandsAfterSome orders [] stored c)
      (λ c. HasFence c × (told : List Answer) × StandsAfterSome orders told stored c) run (λ c here. (here.0, [], here.1))

-- without a fault before, an order is refused only for want of memory
pub only_memory : {T : Type 0} (result : Result T JournalFault) (fault : Option JournalFault) (e why other : JournalFault) → fault ≡ None → (fault ≡ Some why) ⊎ (why ≡ Memory) → result ≡ Err e → e ≡ why → IsErrOf result other → other ≡ Memory
only_memory result fault e why other none cause is same told = ⊎_elim (λ some. let wrong : ⊥ = cc in absurd wrong) (λ memory. cc) cause
