use Rattle.hlr_owners.proofs.Common.{◌≡◌, ◌∙◌, ◌+◌, ◌++◌, arith, suc, sym, ap, List, SubscriberRow, first_subscriber, state_of}
use Rattle.hlr_owners.proofs.HomeLemmas.{home_at}
use Rattle.hlr_owners.proofs.ListingLemmas.{first_behind, first_here, rows_from, rows_next}
use Rattle.hlr_owners.proofs.listing.first_in.Goals.{After-first_at}
use Rattle.hlr_owners.proofs.listing.first_in.Goals as goal

pub first_at-requires : goal.first_at-requires
first_at-requires c = home_at c.args.owners.now c.loop-owner.owner-index c.owner-item.result c.requires c.loop-owner-test.true c.owner-item.is

-- the rows of the owner, and of those behind it
here : (c : After-first_at) → first_subscriber c.args.s_id ((state_of c.owner-item.result).part.book.subscribers ++ rows_from (suc c.loop-owner.owner-index) c.args.owners.now) ≡ first_subscriber c.args.s_id (rows_from 0 c.args.owners.now)
here c =
    ap (λ (rows : List SubscriberRow). first_subscriber c.args.s_id rows) (sym (rows_next c.loop-owner.owner-index c.args.owners.now c.owner-item.result c.loop-owner-test.true c.owner-item.is))
    ∙ c.loop-owner.invariant

pub returns-in-Some : goal.returns-in-Some
returns-in-Some c =
    first_here c.args.s_id (state_of c.owner-item.result).part.book.subscribers (rows_from (suc c.loop-owner.owner-index) c.args.owners.now) c.in-Some.row.now c.in-Some.ensures
    ∙ here c.before

pub loop-owner-preserved : goal.loop-owner-preserved
loop-owner-preserved c =
    let next : c.loop-owner.owner-index + 1 ≡ suc c.loop-owner.owner-index = omega arith in
    rw next (sym (first_behind c.args.s_id (state_of c.owner-item.result).part.book.subscribers (rows_from (suc c.loop-owner.owner-index) c.args.owners.now) c.in_default.ensures) ∙ here c.before)
