-- What is done to owners at home, done beside holdings that are out.
use Rattle.hlr_owners.proofs.Common.{◌≡◌, ◌∙◌, refl, ap, ℕ, List, get_or, set, true, Some, None, Result, Err, position, Box, if◌then◌else◌, Global, TableId, Refusal, s_id_of, IsOutcome, is_in_range, Action, RowReply, lies_in, is_part, HoldingState, PieceState, IsHolding, count_of, MayBecome, HasRowsWhileOut, IsAnsweredWhileOut, IsPostedWhileOut, AreDesks, IsMovedAlone, PartOwnerState, with_outs, OwnersState, AreOwners, desks_in, Store, Part, Piece}
use Rattle.tatp_rows.specs.declared.refusal.Refusal.TheVariants as refusal
use Rattle.tatp_actions.specs.declared.action.RowReply.TheVariants as row_reply
use Rattle.holding.specs.Post as own
use Rattle.hlr_owners.proofs.LendLemmas.{desks_later, ruled_later}
use Rattle.hlr_owners.proofs.ListingLemmas.{part_rows}
use Rattle.hlr_owners.proofs.OutLemmas.{become_carried, outs-at, outs-set}
use Rattle.hlr_owners.proofs.PostedLemmas.{none_posted, posted_right}
use Rattle.hlr_owners.proofs.RegionOwnerLemmas.{parts-kept, acted_answer, piece_answer}

-- the owners with what the holdings that are out have become
abbrev now : OwnersState → List HoldingState → OwnersState
now h ks = record h { owners = with_outs h.owners ks }

now_ruled : (h : OwnersState) (ks : List HoldingState) → AreOwners h → MayBecome h.owners ks → AreOwners (now h ks)
now_ruled h ks are become = ruled_later h (with_outs h.owners ks) are become

-- an action on the rows of a part at home, and on a loose piece
module _ (h : OwnersState) (are : AreOwners h) (act : Action) (i : ℕ) (at : position (lies_in (s_id_of act)) h.regions ≡ Some i) where
  pub acted_while_out : (l : PartOwnerState) (k : HoldingState) → Part l ≡ get_or h.owners i (Part l) → l.home ≡ true → k.desk ≡ l.holding.desk
      → (answer : RowReply) → IsOutcome act l.holding.part.book answer k.part.book → IsAnsweredWhileOut act h answer (record h { owners = set h.owners i (Part (record l { holding = k })) })
  acted_while_out l k is home desk answer done = λ ks become.
      let m : PartOwnerState = record l { holding = k } in
      let there = outs-at h.owners ks i (Part l) is home in
      rw (outs-set h.owners ks i l m is home) (
        acted_answer (now h ks) (now_ruled h ks are become) (s_id_of act) i at l there m act answer refl done,
        rw (parts-kept (λ (o : PartOwnerState). o.holding.desk) (with_outs h.owners ks) i l m desk there) refl,
      )

  pub refused_while_out : (b : Box PieceState Global) → Piece b ≡ get_or h.owners i (Piece b) → (why : Refusal) → why ≡ (if is_in_range act then refusal.Moving else refusal.Field)
      → IsAnsweredWhileOut act h (row_reply.Refused why) h
  refused_while_out b is why told = λ ks become. (piece_answer (now h ks) (now_ruled h ks are become) (s_id_of act) i at b (outs-at h.owners ks i (Piece b) is refl) act why told, refl)

-- what is read of the rows of a part at home
pub rows_while_out : (h : OwnersState) (are : AreOwners h) (s_id i : ℕ) (at : position (lies_in s_id) h.regions ≡ Some i) (l : PartOwnerState) → Part l ≡ get_or h.owners i (Part l) → l.home ≡ true → HasRowsWhileOut s_id h l.holding
rows_while_out h are s_id i at l is home = λ ks become. part_rows (now h ks) (now_ruled h ks are become) s_id i at l (outs-at h.owners ks i (Part l) is home)

-- a posting of a part at home, and of none
pub posted_while_out : (h : OwnersState) (are : AreOwners h) (board : TableId) → AreDesks board h.spare (desks_in h.owners) → (p i : ℕ) (index : position (is_part p) h.regions ≡ Some i)
    (l : PartOwnerState) → Part l ≡ get_or h.owners i (Part l) → l.home ≡ true → (k : HoldingState) (limit : ℕ) (posted : Result ℕ Refusal) → IsHolding l.holding
    → (posted, k.desk.view) ≡ own.post (count_of l.holding.part) l.holding.slot limit l.holding.desk.view → k.part ≡ l.holding.part
    → (k.desk.board ≡ l.holding.desk.board) × (k.desk.view.owned ≡ l.holding.desk.view.owned) × (k.slot ≡ l.holding.slot)
    → IsPostedWhileOut p limit h posted (record h { owners = set h.owners i (Part (record l { holding = k })) })
posted_while_out h are board rules p i index l is home k limit posted lawful done same desk = λ ks become.
    let m : PartOwnerState = record l { holding = k } in
    rw (outs-set h.owners ks i l m is home)
    (posted_right (now h ks) (now_ruled h ks are become) board (desks_later board h.spare h.owners (with_outs h.owners ks) become rules) p i index l (outs-at h.owners ks i (Part l) is home) m limit posted lawful done same desk)

pub none_posted_while_out : (h : OwnersState) (are : AreOwners h) (p limit : ℕ) → position (is_part p) h.regions ≡ None → IsPostedWhileOut p limit h (Err refusal.NoPart) h
none_posted_while_out h are p limit none = λ ks become. none_posted (now h ks) (now_ruled h ks are become) p limit none

-- one move after another
pub moved_after : (a b c : OwnersState) → IsMovedAlone a b → IsMovedAlone b c → IsMovedAlone a c
moved_after a b c one two = record {
  homes = two.homes ∙ one.homes;
  outs = two.outs ∙ one.outs;
  same = two.same ∙ ap (λ (h : OwnersState). record h { regions = c.regions; owners = c.owners }) one.same;
  while_out = λ ks become. two.while_out ks (become_carried a.owners b.owners ks one.outs become) ∙ ap (λ (s : Store). record s { regions = c.regions }) (one.while_out ks become);
}

-- and none
pub moved_none : (h : OwnersState) → IsMovedAlone h h
moved_none h = record { homes = refl; outs = refl; same = refl; while_out = λ ks become. refl }
