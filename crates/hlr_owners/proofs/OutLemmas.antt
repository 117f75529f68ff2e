-- Owners with what the holdings that are out have become; a part's owner put in among all, and one taken out.
use Rattle.hlr_owners.proofs.Common.{◌≡◌, ◌∙◌, refl, sym, ap, subst, ℕ, zero, suc, List, [], ◌∷◌, Bool, true, false, get_or, set, Some, None, Option, Box, insert, remove, if◌then◌else◌, Global, AllZip, by_test, HoldingState, PieceState, MayBecome, PartOwnerState, out_of, outs_in, with_out, with_outs, IsLaterOwner, part_holdings, is_home, RegionOwner, Part, Piece, ◌<◌, ◌++◌, length, drop, arith, AllByRecursion, of_part, of_parts, homes_in, AllHome}
use Rattle.hlr_owners.proofs.LendLemmas.{later_self}
use Rattle.hlr_owners.proofs.PartLemmas.{ahead}

-- a part at home is as it was, and one that is out has the other holding
pub home_kept : (l : PartOwnerState) (k : HoldingState) → l.home ≡ true → with_out l k ≡ l
home_kept l k home = ap (λ (b : Bool). record l { holding = if b then l.holding else k }) home

out_kept : (l : PartOwnerState) (k : HoldingState) → l.home ≡ false → k ≡ l.holding → with_out l k ≡ l
out_kept l k out same = ap (λ (b : Bool). record l { holding = if b then l.holding else k }) out ∙ ap (λ (x : HoldingState). record l { holding = x }) same

-- a part at home is not out, whatever its holding becomes
pub none_out : (l : PartOwnerState) (k : HoldingState) → l.home ≡ true → out_of (record l { holding = k }) ≡ out_of l
none_out l k home = rw home refl

-- each holding that is out, and the one in its place, are in a relation
abbrev pub AreOuts : (HoldingState → HoldingState → Type 0) → List (Option HoldingState) → List HoldingState → Type 0
AreOuts Q outs [] = Unit {0}
AreOuts Q [] (k ∷ ks) = Unit {0}
AreOuts Q (None ∷ outs) (k ∷ ks) = AreOuts Q outs ks
AreOuts Q (Some out ∷ outs) (k ∷ ks) = Q out k × AreOuts Q outs ks

-- a relation of owners that is one of holdings holds of all owners where it holds of what is out
module _ (P : RegionOwner → RegionOwner → Type 0) (Q : HoldingState → HoldingState → Type 0) (of_owners : (l m : PartOwnerState) → P (Part l) (Part m) → Q l.holding m.holding)
    (of_holdings : (l m : PartOwnerState) → Q l.holding m.holding → P (Part l) (Part m)) (itself : (s : RegionOwner) → P s s) where
  outs_from : (owners : List RegionOwner) (ks : List HoldingState) → AllZip P owners (with_outs owners ks) → AreOuts Q (outs_in owners) ks
  outs_from [] [] each = tt
  outs_from (Piece b ∷ owners) ks each = outs_from owners ks each.1
  outs_from (Part l ∷ owners) (k ∷ ks) each =
      let one = of_owners l (with_out l k) each.0 in
      by_test l.home (λ e. rw e (outs_from owners ks each.1)) (λ e. rw e (rw e at one, outs_from owners ks each.1))
  outs_from owners ks each = tt

  outs_to : (owners : List RegionOwner) (ks : List HoldingState) → AreOuts Q (outs_in owners) ks → AllZip P owners (with_outs owners ks)
  outs_to [] ks each = tt
  outs_to (Piece b ∷ owners) ks each = (itself (Piece b), outs_to owners ks each)
  outs_to (Part l ∷ owners) [] each = (itself (Part l), outs_to owners [] tt)
  outs_to (Part l ∷ owners) (k ∷ ks) each =
      by_test l.home
      (λ e. (of_holdings l (with_out l k) (rw e (of_owners l l (itself (Part l)))), outs_to owners ks (rw e at each)))
      (λ e. let two : Q l.holding k × AreOuts Q (outs_in owners) ks = rw e at each in (of_holdings l (with_out l k) (rw e two.0), outs_to owners ks two.1))

  -- so it goes on to all owners of which the same is out
  pub outs_carried : (owners others : List RegionOwner) (ks : List HoldingState) → outs_in others ≡ outs_in owners → AllZip P owners (with_outs owners ks) → AllZip P others (with_outs others ks)
  outs_carried owners others ks same each = outs_to others ks (rw same (outs_from owners ks each))

pub later_one : (s : RegionOwner) → IsLaterOwner s s
later_one s = (later_self (s ∷ [])).0

-- what may have become of the holdings that are out
pub become_carried : (owners others : List RegionOwner) (ks : List HoldingState) → outs_in others ≡ outs_in owners → MayBecome owners ks → MayBecome others ks
become_carried owners others ks same become =
    outs_carried IsLaterOwner (λ h k. IsLaterOwner (Part (record { holding = h; home = false })) (Part (record { holding = k; home = false }))) (λ l m is. is) (λ l m is. is) later_one owners others ks same become

-- with what they were, the owners are as they are
own_kept : (owners : List RegionOwner) (ks : List HoldingState) → AreOuts (λ h k. k ≡ h) (outs_in owners) ks → with_outs owners ks ≡ owners
own_kept [] ks is = refl
own_kept (Piece b ∷ owners) ks is = ap (λ (rest : List RegionOwner). Piece b ∷ rest) (own_kept owners ks is)
own_kept (Part l ∷ owners) [] is = ap (λ (rest : List RegionOwner). Part l ∷ rest) (own_kept owners [] tt)
own_kept (Part l ∷ owners) (k ∷ ks) is =
    by_test l.home
    (λ e. rw (home_kept l k e, own_kept owners ks (rw e at is)) refl)
    (λ e. let two : (k ≡ l.holding) × AreOuts (λ h k. k ≡ h) (outs_in owners) ks = rw e at is in rw (out_kept l k e two.0, own_kept owners ks two.1) refl)

own_are : (owners : List RegionOwner) → AreOuts (λ h k. k ≡ h) (outs_in owners) (part_holdings owners)
own_are [] = tt
own_are (Piece b ∷ owners) = own_are owners
own_are (Part l ∷ owners) = by_test l.home (λ e. rw e (own_are owners)) (λ e. rw e (refl, own_are owners))

pub own_outs : (owners others : List RegionOwner) → outs_in others ≡ outs_in owners → with_outs others (part_holdings owners) ≡ others
own_outs owners others same = own_kept others (part_holdings owners) (rw same (own_are owners))

-- the owner that is at home has the region still
pub outs-at : (owners : List RegionOwner) (ks : List HoldingState) (i : ℕ) (s : RegionOwner) → s ≡ get_or owners i s → is_home s ≡ true → s ≡ get_or (with_outs owners ks) i s
outs-at [] ks i s is home = refl
outs-at (Piece b ∷ owners) ks (suc i) s is home = outs-at owners ks i s is home
outs-at (Part n ∷ owners) [] (suc i) s is home = outs-at owners [] i s is home
outs-at (Part n ∷ owners) (k ∷ ks) zero s is home = let here = subst (λ (t : RegionOwner). is_home t ≡ true) is home in is ∙ ap Part (sym (home_kept n k here))
outs-at (Part n ∷ owners) (k ∷ ks) (suc i) s is home = outs-at owners ks i s is home
outs-at owners ks i s is home = is

-- a part at home in the place of a part
pub outs-set : (owners : List RegionOwner) (ks : List HoldingState) (i : ℕ) (l m : PartOwnerState) → Part l ≡ get_or owners i (Part l) → m.home ≡ true
    → with_outs (set owners i (Part m)) ks ≡ set (with_outs owners ks) i (Part m)
outs-set [] ks i l m is home = refl
outs-set (Piece b ∷ owners) ks zero l m is home = absurd cc
outs-set (Piece b ∷ owners) ks (suc i) l m is home = ap (λ (rest : List RegionOwner). Piece b ∷ rest) (outs-set owners ks i l m is home)
outs-set (Part n ∷ owners) [] zero l m is home = refl
outs-set (Part n ∷ owners) [] (suc i) l m is home = ap (λ (rest : List RegionOwner). Part n ∷ rest) (outs-set owners [] i l m is home)
outs-set (Part n ∷ owners) (k ∷ ks) zero l m is home = ap (λ (o : PartOwnerState). Part o ∷ with_outs owners ks) (home_kept m k home)
outs-set (Part n ∷ owners) (k ∷ ks) (suc i) l m is home = ap (λ (rest : List RegionOwner). Part (with_out n k) ∷ rest) (outs-set owners ks i l m is home)

-- a piece put in, and a piece taken out
pub outs-insert : (owners : List RegionOwner) (ks : List HoldingState) (j : ℕ) (b : Box PieceState Global) → with_outs (insert owners j (Piece b)) ks ≡ insert (with_outs owners ks) j (Piece b)
outs-insert (Piece c ∷ owners) ks (suc j) b = ap (λ (rest : List RegionOwner). Piece c ∷ rest) (outs-insert owners ks j b)
outs-insert (Part n ∷ owners) [] (suc j) b = ap (λ (rest : List RegionOwner). Part n ∷ rest) (outs-insert owners [] j b)
outs-insert (Part n ∷ owners) (k ∷ ks) (suc j) b = ap (λ (rest : List RegionOwner). Part (with_out n k) ∷ rest) (outs-insert owners ks j b)
outs-insert [] ks zero b = refl
outs-insert owners ks j b = refl

pub outs-remove : (owners : List RegionOwner) (ks : List HoldingState) (j : ℕ) (b : Box PieceState Global) → Piece b ≡ get_or owners j (Piece b) → with_outs (remove owners j) ks ≡ remove (with_outs owners ks) j
outs-remove [] ks zero b is = refl
outs-remove (Piece c ∷ owners) ks (suc j) b is = ap (λ (rest : List RegionOwner). Piece c ∷ rest) (outs-remove owners ks j b is)
outs-remove (Part n ∷ owners) ks zero b is = absurd cc
outs-remove (Part n ∷ owners) [] (suc j) b is = ap (λ (rest : List RegionOwner). Part n ∷ rest) (outs-remove owners [] j b is)
outs-remove (Part n ∷ owners) (k ∷ ks) (suc j) b is = ap (λ (rest : List RegionOwner). Part (with_out n k) ∷ rest) (outs-remove owners ks j b is)
outs-remove owners ks j b is = refl

-- no part stands in front of the first owner
none_ahead : (owners : List RegionOwner) → ahead owners 0 ≡ 0
none_ahead [] = refl
none_ahead (s ∷ owners) = refl

-- behind a part one part more has been counted than in front of it
pub ahead_behind : (owners : List RegionOwner) (i : ℕ) (l m : PartOwnerState) → i < length owners → Part l ≡ get_or owners i (Part l) → ahead (set owners i (Part m)) (suc i) ≡ suc (ahead owners i)
ahead_behind [] i l m lt is = absurd (omega arith)
ahead_behind (s ∷ owners) zero l m lt is = ap suc (none_ahead owners)
ahead_behind (Part k ∷ owners) (suc i) l m lt is = ap suc (ahead_behind owners i l m (omega arith) is)
ahead_behind (Piece b ∷ owners) (suc i) l m lt is = ahead_behind owners i l m (omega arith) is

module _ {X : Type 0} (f : PartOwnerState → X) where
  -- what a part has that is put in stands behind what the parts in front of it have
  pub parts-insert_part : (owners : List RegionOwner) (j : ℕ) (n : PartOwnerState) → of_parts f (insert owners j (Part n)) ≡ insert (of_parts f owners) (ahead owners j) (f n)
  parts-insert_part (Part m ∷ owners) (suc j) n = ap (λ rest. f m ∷ rest) (parts-insert_part owners j n)
  parts-insert_part (Piece b ∷ owners) (suc j) n = parts-insert_part owners j n
  parts-insert_part [] zero n = refl
  parts-insert_part owners j n = refl

  -- and what one has that is taken out goes from there
  pub parts-remove_part : (owners : List RegionOwner) (j : ℕ) (l : PartOwnerState) → j < length owners → Part l ≡ get_or owners j (Part l) → of_parts f (remove owners j) ≡ remove (of_parts f owners) (ahead owners j)
  parts-remove_part [] j l lt is = absurd (omega arith)
  parts-remove_part (s ∷ owners) zero l lt is = subst (λ (t : RegionOwner). of_parts f owners ≡ remove (of_part f t ++ of_parts f owners) 0) is refl
  parts-remove_part (Part m ∷ owners) (suc j) l lt is = ap (λ rest. f m ∷ rest) (parts-remove_part owners j l (omega arith) is)
  parts-remove_part (Piece b ∷ owners) (suc j) l lt is = parts-remove_part owners j l (omega arith) is

-- with all parts at home nobody has become anything else
pub outs-home : (owners : List RegionOwner) (ks : List HoldingState) → AllHome owners → with_outs owners ks ≡ owners
outs-home [] ks all = refl
outs-home (Piece b ∷ owners) ks all = ap (λ (rest : List RegionOwner). Piece b ∷ rest) (outs-home owners ks all)
outs-home (Part l ∷ owners) [] all = ap (λ (rest : List RegionOwner). Part l ∷ rest) (outs-home owners [] all.1)
outs-home (Part l ∷ owners) (k ∷ ks) all = rw (home_kept l k all.0, outs-home owners ks all.1) refl

-- all parts from one on are at home
abbrev pub AreHomeFrom : ℕ → List RegionOwner → Type 0
AreHomeFrom p owners = AllByRecursion (λ (home : Bool). home ≡ true) (drop p (homes_in owners))

-- a part at home put in where all behind it are at home
pub outs-insert_part : (owners : List RegionOwner) (ks : List HoldingState) (j : ℕ) (n : PartOwnerState) → n.home ≡ true → AreHomeFrom (ahead owners j) owners
    → with_outs (insert owners j (Part n)) ks ≡ insert (with_outs owners ks) j (Part n)
outs-insert_part [] [] zero n home all = refl
outs-insert_part [] [] (suc j) n home all = refl
outs-insert_part [] (k ∷ ks) zero n home all = ap (λ (o : PartOwnerState). Part o ∷ []) (home_kept n k home)
outs-insert_part [] (k ∷ ks) (suc j) n home all = ap (λ (o : PartOwnerState). Part o ∷ []) (home_kept n k home)
outs-insert_part (s ∷ owners) ks zero n home all =
    outs-home (Part n ∷ (s ∷ owners)) ks (home, all) ∙ ap (λ (rest : List RegionOwner). Part n ∷ rest) (sym (outs-home (s ∷ owners) ks all))
outs-insert_part (Piece b ∷ owners) ks (suc j) n home all = ap (λ (rest : List RegionOwner). Piece b ∷ rest) (outs-insert_part owners ks j n home all)
outs-insert_part (Part m ∷ owners) [] (suc j) n home all = ap (λ (rest : List RegionOwner). Part m ∷ rest) (outs-insert_part owners [] j n home all)
outs-insert_part (Part m ∷ owners) (k ∷ ks) (suc j) n home all = ap (λ (rest : List RegionOwner). Part (with_out m k) ∷ rest) (outs-insert_part owners ks j n home all)

-- a part taken out from where on all are at home
pub outs-remove_part : (owners : List RegionOwner) (ks : List HoldingState) (j : ℕ) (l : PartOwnerState) → j < length owners → Part l ≡ get_or owners j (Part l) → AreHomeFrom (ahead owners j) owners
    → with_outs (remove owners j) ks ≡ remove (with_outs owners ks) j
outs-remove_part [] ks j l lt is all = absurd (omega arith)
outs-remove_part (Piece b ∷ owners) ks zero l lt is all = absurd cc
outs-remove_part (Part m ∷ owners) ks zero l lt is all =
    outs-home owners ks all.1 ∙ sym (ap (λ (rest : List RegionOwner). remove rest 0) (outs-home (Part m ∷ owners) ks all))
outs-remove_part (Piece b ∷ owners) ks (suc j) l lt is all = ap (λ (rest : List RegionOwner). Piece b ∷ rest) (outs-remove_part owners ks j l (omega arith) is all)
outs-remove_part (Part m ∷ owners) [] (suc j) l lt is all = ap (λ (rest : List RegionOwner). Part m ∷ rest) (outs-remove_part owners [] j l (omega arith) is all)
outs-remove_part (Part m ∷ owners) (k ∷ ks) (suc j) l lt is all = ap (λ (rest : List RegionOwner). Part (with_out m k) ∷ rest) (outs-remove_part owners ks j l (omega arith) is all)
