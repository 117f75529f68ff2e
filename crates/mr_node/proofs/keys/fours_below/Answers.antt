use Rattle.mr_node.proofs.Common.{arith, ◌≡◌, ◌+◌, ◌<◌, ◌≤◌, ℕ, Bool, true, false, if◌then◌else◌}
use Rattle.mr_node.proofs.SearchLemmas.{four_of}
use Rattle.mr_node.proofs.keys.fours_below.Goals.{After-is_less-7}
use Rattle.mr_node.proofs.keys.fours_below.Goals as goal

bit_fits : (b : Bool) (n : ℕ) → n ≡ (if b then 1 else 0) → n ≤ 1
bit_fits true n is = omega (arith, is)
bit_fits false n is = omega (arith, is)

sum_fits : (c : After-is_less-7) → c.is_less.result + c.is_less-2.result + c.is_less-3.result + c.is_less-4.result + c.is_less-5.result + c.is_less-6.result + c.is_less-7.result < 8
sum_fits c = omega (arith, bit_fits _ _ c.is_less.ensures, bit_fits _ _ c.is_less-2.ensures, bit_fits _ _ c.is_less-3.ensures, bit_fits _ _ c.is_less-4.ensures, bit_fits _ _ c.is_less-5.ensures, bit_fits _ _ c.is_less-6.ensures, bit_fits _ _ c.is_less-7.ensures)

pub overflow_add-result-6 : goal.overflow_add-result-6
overflow_add-result-6 c = omega (arith, sum_fits c)

pub returns-clause-within : goal.returns-clause-within
returns-clause-within c = sum_fits c

pub returns-clause-before : goal.returns-clause-before
returns-clause-before c some =
    (four_of c.args.key _ c.args.keys.now c.told-keys c.requires (omega (arith, c.is_less.ensures, c.is_less-2.ensures, c.is_less-3.ensures, c.is_less-4.ensures, c.is_less-5.ensures, c.is_less-6.ensures, c.is_less-7.ensures))).before some

pub returns-clause-next : goal.returns-clause-next
returns-clause-next c lt =
    (four_of c.args.key _ c.args.keys.now c.told-keys c.requires (omega (arith, c.is_less.ensures, c.is_less-2.ensures, c.is_less-3.ensures, c.is_less-4.ensures, c.is_less-5.ensures, c.is_less-6.ensures, c.is_less-7.ensures))).next lt
