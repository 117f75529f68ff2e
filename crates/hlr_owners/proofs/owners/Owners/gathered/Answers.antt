use Rattle.hlr_owners.proofs.Common.{◌∙◌, ap, List, arith, Box, Global, length-map, HoldingState, PieceState, unboxed, store_in, unposted, RegionOwner}
use Rattle.hlr_owners.proofs.ApartLemmas.{do_fit, gathered_desks, desks_from}
use Rattle.hlr_owners.proofs.ApartStoreLemmas.{ruled_from, store_from_owners, pending_from}
use Rattle.hlr_owners.proofs.HomeLemmas.{all_home}
use Rattle.hlr_owners.proofs.RegionOwnerLemmas.{ruled_rows}
use Rattle.hlr_owners.proofs.SumLemmas.{unposted_is}
use Rattle.hlr_owners.proofs.owners.Owners.gathered.Goals as goal

pub owners_of-requires-clause-room : goal.owners_of-requires-clause-room
owners_of-requires-clause-room c =
    let few = (do_fit c.args.scattered.frame.width (unboxed c.args.scattered.holdings.items) (unboxed c.args.scattered.pieces.items) c.requires.surveyed.fits).few in
    let holdings = length-map c.args.scattered.holdings.items (λ (b : Box HoldingState Global). b.value) in
    let pieces = length-map c.args.scattered.pieces.items (λ (b : Box PieceState Global). b.value) in
    omega (arith, few.few, few.few_pieces, c.args.scattered.holdings.ok.0, c.args.scattered.pieces.ok.0, c.prepared.invariant.1)

pub invariant_of-result : goal.invariant_of-result
invariant_of-result c = (
  rw (c.owners_of.ensures.owners, c.prepared.view_is, c.requires.surveyed.over) (ruled_from (unboxed c.args.scattered.holdings.items) c.args.scattered.pieces.items _
      (do_fit _ _ _ c.requires.surveyed.fits) c.requires.surveyed.each_holding c.requires.surveyed.each_piece _ (rw c.requires.surveyed.over at c.requires.surveyed.right)),
  rw (c.owners_of.ensures.owners, desks_from (unboxed c.args.scattered.holdings.items) c.args.scattered.pieces.items)
      (gathered_desks _ _ _ c.requires.desks c.net-net.ensures.wide c.requires.surveyed.each_holding),
  omega (arith, c.prepared.invariant.1, c.owners_of.ensures.capacity),
)

pub returns : goal.returns
returns c =
    let regions = c.prepared.view_is ∙ c.requires.surveyed.over in
    let rules = invariant_of-result c in
    record {
      store = (λ k. store_in (record { regions = regions k; owners = c.owners_of.ensures.owners k; spare = c.args.scattered.frame.spare; width = c.args.scattered.frame.width }))
          ∙ store_from_owners (unboxed c.args.scattered.holdings.items) c.args.scattered.pieces.items c.args.scattered.frame.width c.args.scattered.frame.spare;
      owners = c.owners_of.ensures.owners;
      home = all_home _ c.owners_of.ensures.home;
      rows = ruled_rows _ rules.0;
      pending = λ k. ap (λ (owners : List RegionOwner). unposted owners k) c.owners_of.ensures.owners ∙ pending_from (unboxed c.args.scattered.holdings.items) c.args.scattered.pieces.items k;
      difference = unposted_is _ rules.0 _ rules.1;
    }
