-- A holding that was lent, and acted and posted outside, may come home.
use Rattle.hlr_core.proofs.Common.{◌≡◌, ◌∙◌, refl, ap, ℕ, zero, suc, List, [], ◌∷◌, map, set, true, false, Some, None, slice_get, IsOutcome, PartState, Action, RowReply, DeskState, HoldingState, OwnersState, IsLent, RegionOwner, Part, number_pair, IsBackWith, given_number}
use Rattle.hlr_core.proofs.LaterLemmas.{outcome_numbers}

-- after an action that gives no number, and a posting
module _ (had done k : HoldingState) where
  pub back_worked : (act : Action) (answer : RowReply) → given_number act ≡ None → IsOutcome act had.part.book answer done.part.book
      → (done.part.lo ≡ had.part.lo) × (done.part.hi ≡ had.part.hi) × (done.part.width ≡ had.part.width) → done.desk ≡ had.desk
      → k.part ≡ done.part → k.desk.board ≡ done.desk.board → k.desk.view.owned ≡ done.desk.view.owned
      → IsBackWith (Some (Part (record { holding = had; home = false }))) k
  back_worked act answer none outcome range desk part board owned = (
    (
      refl,
      record {
        lo = ap (λ (p : PartState). p.lo) part ∙ range.0;
        hi = ap (λ (p : PartState). p.hi) part ∙ range.1;
        width = ap (λ (p : PartState). p.width) part ∙ range.2;
        board = board ∙ ap (λ (d : DeskState). d.board) desk;
        owned = owned ∙ ap (λ (d : DeskState). d.view.owned) desk;
      },
    ),
    ap (λ (p : PartState). map number_pair p.book.subscribers) part ∙ outcome_numbers act had.part.book done.part.book answer none outcome,
  )

-- what is put where something stood stands there
put_there : {X : Type 0} (xs : List X) (i : ℕ) (x y : X) → slice_get xs i ≡ Some x → slice_get (set xs i y) i ≡ Some y
put_there [] i x y stood = absurd (let no : None ≡ Some x = stood in cc)
put_there (z ∷ xs) zero x y stood = refl
put_there (z ∷ xs) (suc i) x y stood = put_there xs i x y stood

-- the part that was lent has a place for its holding
pub lent_back : (p : ℕ) (before after : OwnersState) (had k : HoldingState) → IsLent p before had after → IsBackWith (Some (Part (record { holding = had; home = false }))) k
    → (i : ℕ) × IsBackWith (slice_get after.owners i) k
lent_back p before after had k lent back =
    let went : RegionOwner = Part (record { holding = had; home = false }) in
    let stood : RegionOwner = Part (record { holding = had; home = true }) in
    (lent.index, rw (lent.away, put_there before.owners lent.index stood went lent.owner) back)
