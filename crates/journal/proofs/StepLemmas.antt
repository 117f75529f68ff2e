-- What a crash leaves during each step of a journal.
use Rattle.std.proofs.Common.{◌≡◌, ◌⊎◌, inl, inr, ⊎_elim, ℕ, ◌<◌, ◌≤◌, ◌-◌, ◌++◌, List, length, take, refl, sym, ap, subst}
use Rattle.journal_file.specs.Device.{Elapses, Fades, Mixes, Follows, IsFront, LeavesOnly, Only}
use Rattle.journal_file.proofs.ByteLemmas.{front_same}
use Rattle.journal.specs.Lines.{text, lines, recovered, HasFence, HasNoZero, IsWhole}
use Rattle.journal.specs.Tape.{IsOpen, IsBetween, HasLinesBetween, kept}
use Rattle.journal.specs.declared.tape.Ends.{Ends}
use Rattle.journal.specs.declared.tape.Tape.{Tape}
use Rattle.journal.proofs.MomentLemmas.{started, goes_on, weaker, joined}
use Rattle.journal.proofs.OpenLemmas.{front_take, wider, open_between, open_fence, grow_between, written_between, group_lines, later_lines, all_only}

module _ {D : Type 0} (seen : D → List ℕ) (may_leave : D → List ℕ → Type 0) (moment : D → ℕ) (left_since : D → ℕ → List ℕ → Type 0)
    (only_now : (d : D) (c : List ℕ) → left_since d (moment d) c → may_leave d c) where
  abbrev Time : D → D → Type 0
  Time old new = Elapses (moment old) (moment new) (left_since old) (left_since new) (may_leave new)

  -- a file that was read
  module _ (old : D) (ends : Ends) (disk : Only (seen old) (may_leave old)) (P : List ℕ → Type 0) (here : P (seen old))
      (faded : (c : List ℕ) → Fades ends.whole (seen old) c → P c) where
    module _ (mid : D) (time : Time old mid) (crash : Follows (Fades ends.whole) (may_leave old) (may_leave mid)) where
      blanking : (c : List ℕ) → may_leave mid c → P c
      blanking c now = let from = crash c now in faded c (subst (λ (d : List ℕ). Fades ends.whole d c) (disk from.0 from.1) from.2)

      pub read_blanked : LeavesOnly moment left_since old mid P
      read_blanked =
          goes_on moment left_since old old mid P _ (started moment left_since old P (λ c left. subst P (sym (disk c (only_now old c left))) here)) time blanking

      pub read_synced : (new : D) → Time mid new → ((c : List ℕ) → may_leave new c → may_leave mid c) → LeavesOnly moment left_since old new P
      read_synced new later synced = goes_on moment left_since old mid new P _ read_blanked later (λ c now. blanking c (synced c now))

    pub read_unchanged : LeavesOnly moment left_since old old P
    read_unchanged = started moment left_since old P (λ c left. subst P (sym (disk c (only_now old c left))) here)

  -- a journal that is open
  module _ (tape : Tape D) (is : IsOpen seen may_leave tape) where
    abbrev Stays : List ℕ → Type 0
    Stays = IsBetween (kept seen tape) (text (seen tape.device))

    pub unchanged : LeavesOnly moment left_since tape.device tape.device Stays
    unchanged = started moment left_since tape.device Stays (λ c left. open_between seen may_leave tape is c (only_now tape.device c left))

    pub while_synced : (new : D) → Time tape.device new → ((c : List ℕ) → may_leave new c → may_leave tape.device c)
        → LeavesOnly moment left_since tape.device new Stays
    while_synced new time synced =
        goes_on moment left_since tape.device tape.device new Stays _ unchanged time (λ c now. open_between seen may_leave tape is c (synced c now))

    module _ (mid : D) (time : Time tape.device mid) (follows : Follows IsFront (may_leave tape.device) (may_leave mid)) where
      pub while_grown : LeavesOnly moment left_since tape.device mid Stays
      while_grown = goes_on moment left_since tape.device tape.device mid Stays _ unchanged time (grow_between seen may_leave tape mid is follows)

      pub while_grown_synced : (new : D) → Time mid new → ((c : List ℕ) → may_leave new c → may_leave mid c)
          → LeavesOnly moment left_since tape.device new Stays
      while_grown_synced new later synced =
          goes_on moment left_since tape.device mid new Stays _ while_grown later (λ c now. grow_between seen may_leave tape mid is follows c (synced c now))

    -- bytes are appended, once there is room
    module _ (bytes : List ℕ) (mid : Tape D) (made : LeavesOnly moment left_since tape.device mid.device Stays) where
      abbrev GoesOn : List ℕ → Type 0
      GoesOn = IsBetween (kept seen tape) (text (seen tape.device) ++ bytes)

      pub while_made : LeavesOnly moment left_since tape.device mid.device GoesOn
      while_made =
          weaker moment left_since tape.device mid.device Stays GoesOn made
          (λ c between. wider (kept seen tape) (kept seen tape) (text (seen tape.device)) (text (seen tape.device) ++ bytes) c (front_same (kept seen tape)) (bytes, refl) between)

      pub while_written : (new : D) → IsOpen seen may_leave mid → HasNoZero bytes → length bytes < mid.len - mid.end
          → text (seen mid.device) ≡ text (seen tape.device) → tape.synced ≤ mid.synced
          → Follows (Mixes mid.end bytes) (may_leave mid.device) (may_leave new) → Time mid.device new
          → LeavesOnly moment left_since tape.device new GoesOn
      while_written new opened none room same more follows time =
          let t = text (seen tape.device) in
          let lower : IsFront (kept seen tape) (kept seen mid) =
          subst (λ (l : List ℕ). IsFront (take tape.synced t) (take mid.synced l)) (sym same) (front_take tape.synced mid.synced t more) in
          let higher : IsFront (text (seen mid.device) ++ bytes) (t ++ bytes) =
          subst (λ (l : List ℕ). IsFront (l ++ bytes) (t ++ bytes)) (sym same) (front_same (t ++ bytes)) in
          goes_on moment left_since tape.device mid.device new GoesOn _ while_made time
          (λ c now. wider (kept seen mid) (kept seen tape) (text (seen mid.device) ++ bytes) (t ++ bytes) c lower higher
          (written_between seen may_leave mid new bytes opened none room follows c now))

    -- a group is appended and synced
    module _ (group : List ℕ) (all : tape.synced ≡ tape.end) (whole : IsWhole (text (seen tape.device))) (mid : Tape D)
        (appended : LeavesOnly moment left_since tape.device mid.device (IsBetween (kept seen tape) (text (seen tape.device) ++ group))) where
      abbrev HasLines : List ℕ → Type 0
      HasLines = HasLinesBetween (recovered (seen tape.device)) (recovered (seen tape.device) ++ lines group)

      pub while_appended : LeavesOnly moment left_since tape.device mid.device HasLines
      while_appended =
          weaker moment left_since tape.device mid.device (IsBetween (kept seen tape) (text (seen tape.device) ++ group)) HasLines appended
          (group_lines seen may_leave tape tape group is all whole)

      pub while_committed : (new : D) → tape.synced ≤ mid.synced → text (seen mid.device) ≡ text (seen tape.device) ++ group
          → LeavesOnly moment left_since mid.device new (IsBetween (kept seen mid) (text (seen mid.device)))
          → LeavesOnly moment left_since tape.device new HasLines
      while_committed new more same synced =
          joined moment left_since tape.device mid.device new HasLines while_appended
          (weaker moment left_since mid.device new (IsBetween (kept seen mid) (text (seen mid.device))) HasLines synced
          (later_lines seen may_leave tape mid group is all whole more same))

    -- another journal takes its place
    pub while_compacted : (all : tape.synced ≡ tape.end) (next : Tape D) → IsOpen seen may_leave next → (new : D) → Time tape.device new
        → ((c : List ℕ) → may_leave new c → may_leave tape.device c ⊎ (c ≡ seen next.device))
        → LeavesOnly moment left_since tape.device new (λ c. HasFence c × ((recovered c ≡ recovered (seen tape.device)) ⊎ (recovered c ≡ recovered (seen next.device))))
    while_compacted all next opened new time crash =
        let P : List ℕ → Type 0 = λ c. HasFence c × ((recovered c ≡ recovered (seen tape.device)) ⊎ (recovered c ≡ recovered (seen next.device))) in
        let old_held : (c : List ℕ) → c ≡ seen tape.device → P c =
        λ c same. (subst HasFence (sym same) (open_fence seen may_leave tape is), inl (ap recovered same)) in
        let here : (c : List ℕ) → may_leave tape.device c → P c = λ c now. old_held c (all_only seen may_leave tape is all c now) in
        let there : (c : List ℕ) → c ≡ seen next.device → P c =
        λ c same. (subst HasFence (sym same) (open_fence seen may_leave next opened), inr (ap recovered same)) in
        goes_on moment left_since tape.device tape.device new P _ (started moment left_since tape.device P (λ c left. here c (only_now tape.device c left))) time
        (λ c now. ⊎_elim (here c) (there c) (crash c now))
