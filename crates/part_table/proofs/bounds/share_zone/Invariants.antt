use Rattle.part_table.proofs.Common.{◌≡◌, ◌-◌, least, share_zone, has_shares, weight_below}
use Rattle.part_table.proofs.bounds.share_zone.Given as goal

abbrev pub invariant-loop-zone : goal.invariant-loop-zone
invariant-loop-zone l = record {
  left : share_zone l.weights l.parts l.shares ≡ least (has_shares l.weights l.parts l.shares) l.zone (32 - l.zone);
  below : l.below ≡ weight_below l.weights l.zone;
}
