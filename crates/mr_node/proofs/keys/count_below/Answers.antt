use Rattle.mr_node.proofs.Common.{arith, ◌≡◌, ◌*◌, ◌+◌, ap}
use Rattle.mr_node.proofs.SearchLemmas.{stop_of, less_at}
use Rattle.mr_node.proofs.keys.count_below.Goals as goal

pub returns : goal.returns
returns c =
    let four = c.fours_below-low.ensures in
    let first : 4 * c.fours_below-low.result ≡ 4 * c.fours_below-low.result + 0 = omega arith in
    stop_of c.args.key c.fours_below-low.result _ c.args.keys.now c.told-keys c.requires (record { within = four.within; before = four.before; next = four.next })
    (omega (arith, c.is_less.ensures, ap (less_at c.args.key c.args.keys.now) first, c.is_less-2.ensures, c.is_less-3.ensures, c.is_less-4.ensures))
