-- A holding comes out of its ring, and takes its place again.
use Rattle.hlr_lent.proofs.Common.{◌≡◌, ◌∙◌, sym, ℕ, List, get_or, set, Some, None, Option, slice_get, received, HoldingState, outs_in, AreOwners, OwnersState, IsBackWith, IsBack, HaveRings, MayComeHome}
use Rattle.hlr_lent.proofs.RingLemmas.{Ring, ring_there, rings_taken, whose}
use Rattle.hlr_lent.proofs.RegionOwnerLemmas.{at_home, home_back, home_outs, home_there, home_with}

module _ (h : OwnersState) (are : AreOwners h) (rings : List (Option Ring)) (have : HaveRings (outs_in h.owners) rings) (p : ℕ) (w : Ring) (is : get_or rings p None ≡ Some w)
    (home : HoldingState) (may : MayComeHome (received w) home) where
  pub out : get_or (outs_in h.owners) p None ≡ Some may.0
  out = let own = whose (outs_in h.owners) rings have p w is in own.1 ∙ sym own.2 ∙ may.1

  abbrev pub come_with : (i : ℕ) × IsBackWith (slice_get h.owners i) home
  come_with = home_with h are p may.0 home out may.2

  pub come_rings : HaveRings (outs_in (set h.owners come_with.0 (at_home home))) (set rings p None)
  come_rings =
      rw (home_outs h are p may.0 home out may.2)
      (rings_taken (outs_in h.owners) rings have p (home_there h are p may.0 home out may.2) (ring_there (outs_in h.owners) rings have p w is))

  pub come_back : IsBack p h (record h { owners = set h.owners come_with.0 (at_home home) })
  come_back = home_back h are p may.0 home out may.2
