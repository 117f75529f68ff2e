use Rattle.hlr_owners.proofs.Common.{refl, arith, ◌∙◌}
use Rattle.hlr_owners.proofs.ApartStoreLemmas.{again, few_again, store_again, fits_again, desks_again, pending_again}
use Rattle.hlr_owners.proofs.HomeLemmas.{each_home}
use Rattle.hlr_owners.proofs.SumLemmas.{unposted_is}
use Rattle.hlr_owners.proofs.owners.Owners.scatter.Goals as goal

pub split_owners-holdings-requires-clause-home : goal.split_owners-holdings-requires-clause-home
split_owners-holdings-requires-clause-home c = each_home _ (rw (← c.self.view_is) at c.requires.home)

pub split_owners-holdings-requires-clause-room : goal.split_owners-holdings-requires-clause-room
split_owners-holdings-requires-clause-room c =
    let few = few_again _ c.self.invariant.0 (rw (← c.self.view_is) at c.requires.home) in
    omega (arith, few.1, c.rooms.invariant.2)

pub split_owners-holdings-requires-clause-room_for_pieces : goal.split_owners-holdings-requires-clause-room_for_pieces
split_owners-holdings-requires-clause-room_for_pieces c =
    let few = few_again _ c.self.invariant.0 (rw (← c.self.view_is) at c.requires.home) in
    omega (arith, few.2, c.rooms.invariant.3)

pub returns : goal.returns
returns c =
    let home = rw (← c.self.view_is) at c.requires.home in
    rw (← c.self.view_is, c.split_owners-holdings.ensures.holdings, c.split_owners-holdings.ensures.pieces) (record {
      holdings = refl;
      pieces = refl;
      store = rw (again _ c.self.invariant.0 home) refl;
      held = rw (again _ c.self.invariant.0 home) c.self.invariant.0.each;
      frame = (refl, refl);
      desks = desks_again _ c.self.invariant.0 home _ c.self.invariant.1;
      again = store_again _ c.self.invariant.0 home;
      fits = fits_again _ c.self.invariant.0 home;
      pending = pending_again _ c.self.invariant.0 home;
      difference = λ k below. pending_again _ c.self.invariant.0 home k ∙ unposted_is _ c.self.invariant.0 _ c.self.invariant.1 k below;
    })
