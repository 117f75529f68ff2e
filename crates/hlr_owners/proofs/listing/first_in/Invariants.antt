use Rattle.hlr_owners.proofs.Common.{◌≡◌, first_subscriber, book_in}
use Rattle.hlr_owners.proofs.ListingLemmas.{rows_from}
use Rattle.hlr_owners.proofs.listing.first_in.Given as goal

abbrev pub invariant-loop-owner : goal.invariant-loop-owner
invariant-loop-owner l = first_subscriber l.s_id (rows_from l.owner-index l.owners) ≡ first_subscriber l.s_id (book_in l.owners).subscribers
