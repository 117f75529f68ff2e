-- The moves of a re-cut can be done one after another, and lead to its bounds.
use Rattle.part_table.proofs.Common.{◌≡◌, ◌∙◌, refl, sym, ap, ℕ, ◌+◌, ◌-◌, ◌<◌, ◌≤◌, List, [], ◌∷◌, ◌++◌, Bool, true, false, length, arith, ◌==◌, nat_lt, if◌then◌else◌, Result, Ok, Err, Some, None, Option, AllByRecursion, nat_tests, by_test, each-weaker, each-append, LAST_SUBSCRIBER, Refusal, are_rising, parts_between, give_answer, cut, free_number, answer_of_part, rising_moves, falling_moves, taken, handed_on, handed_over, moved, all_moved, is_part, is_piece, piece_number, pieces_of, take_answer, side_between, joined, CutMove, Part, Piece, Region, Side, Low, High, END}
use Rattle.std.specs.List.{find}
use Rattle.part_table.proofs.BoundsLemmas.{rising_first, no_pieces, rising_from}
use Rattle.part_table.specs.Least.{least}

-- regions with one more in front, where there are any
abbrev in_front : Region → Result (List Region) Refusal → Result (List Region) Refusal
in_front region (Ok regions) = Ok (region ∷ regions)
in_front region (Err why) = Err why

-- a region of a part that neither gives nor takes
record IsAside (p q : ℕ) (region : Region) : Type 0 where
  gives_not : is_part p region ≡ false
  takes_not : is_part q region ≡ false
  no_piece : (n : ℕ) → is_piece n region ≡ false
  no_number : piece_number region.place ≡ []

module _ (p q : ℕ) (region : Region) (aside : IsAside p q region) where
  -- it changes no answer of a give
  give_behind : (side : Side) (at : ℕ) (regions : List Region) → give_answer p side at (region ∷ regions) ≡ give_answer p side at regions
  give_behind side at regions = rw aside.gives_not (same (find (is_part p) regions))
    where
      same : (part : Option Region) → answer_of_part part side at (region ∷ regions) ≡ answer_of_part part side at regions
      same None = refl
      same (Some part) = rw aside.no_number refl

  -- it is no neighbour that is joined
  apart : (n : ℕ) (second : Region) → side_between n q region second ≡ None
  apart n second = rw (aside.no_piece n, aside.takes_not) refl

  joined-behind : (n : ℕ) (regions : List Region) → joined n q (region ∷ regions) ≡ region ∷ joined n q regions
  joined-behind n [] = refl
  joined-behind n (second ∷ regions) = rw (apart n second) refl

  take_behind : (n : ℕ) (regions : List Region) → take_answer n q (region ∷ regions) ≡ take_answer n q regions
  take_behind n regions = rw (aside.no_piece n, aside.takes_not) refl

  -- so it stays in front of all that a give and a take do
  taken_behind : (n : ℕ) (answer : Result Side Refusal) (regions : List Region) → taken n q answer (region ∷ regions) ≡ in_front region (taken n q answer regions)
  taken_behind n (Ok side) regions = ap Ok (joined-behind n regions)
  taken_behind n (Err why) regions = refl

  handed_on_behind : (side : Side) (at : ℕ) (answer : Result (ℕ × ℕ × ℕ) Refusal) (regions : List Region)
      → handed_on p side at q answer (region ∷ regions) ≡ in_front region (handed_on p side at q answer regions)
  handed_on_behind side at (Ok piece) regions =
      rw (aside.gives_not, take_behind piece.0 (cut p piece.0 side at regions))
      (taken_behind piece.0 (take_answer piece.0 q (cut p piece.0 side at regions)) (cut p piece.0 side at regions))
  handed_on_behind side at (Err why) regions = refl

  handed_over_behind : (side : Side) (at : ℕ) (regions : List Region) → handed_over p side at q (region ∷ regions) ≡ in_front region (handed_over p side at q regions)
  handed_over_behind side at regions = rw (give_behind side at regions) (handed_on_behind side at (give_answer p side at regions) regions)

-- a part in front of those between which a bound moves
aside_of : (k p q lo hi : ℕ) → k < p → k < q → IsAside p q (record { lo = lo; hi = hi; place = Part k })
aside_of k p q lo hi gives takes = record {
  gives_not = grind (arith, nat_tests);
  takes_not = grind (arith, nat_tests);
  no_piece = λ n. refl;
  no_number = refl;
}

moved_behind : (move : CutMove) (k lo hi : ℕ) (regions : List Region) → k + 2 ≤ move.bound
    → moved move (record { lo = lo; hi = hi; place = Part k } ∷ regions) ≡ in_front (record { lo = lo; hi = hi; place = Part k }) (moved move regions)
moved_behind move k lo hi regions above =
    by_test (nat_lt move.from move.to)
    (λ e. rw e (handed_over_behind move.bound (move.bound - 1) (record { lo = lo; hi = hi; place = Part k }) (aside_of k move.bound (move.bound - 1) lo hi (omega arith) (omega arith)) Low move.to regions))
    (λ e. rw e (handed_over_behind (move.bound - 1) move.bound (record { lo = lo; hi = hi; place = Part k }) (aside_of k (move.bound - 1) move.bound lo hi (omega arith) (omega arith)) High move.to regions))

all_moved_behind : (moves : List CutMove) (k lo hi : ℕ) (regions : Result (List Region) Refusal) → AllByRecursion (λ move. k + 2 ≤ move.bound) moves
    → all_moved moves (in_front (record { lo = lo; hi = hi; place = Part k }) regions) ≡ in_front (record { lo = lo; hi = hi; place = Part k }) (all_moved moves regions)
all_moved_behind [] k lo hi regions each = refl
all_moved_behind (move ∷ moves) k lo hi (Err why) each = refl
all_moved_behind (move ∷ moves) k lo hi (Ok regions) each =
    ap (all_moved moves) (moved_behind move k lo hi regions each.0) ∙ all_moved_behind moves k lo hi (moved move regions) each.1

-- moves one after another
all_moved_err : (moves : List CutMove) (why : Refusal) → all_moved moves (Err why) ≡ Err why
all_moved_err [] why = refl
all_moved_err (move ∷ moves) why = refl

all_moved-append : (first more : List CutMove) (regions : Result (List Region) Refusal) → all_moved (first ++ more) regions ≡ all_moved more (all_moved first regions)
all_moved-append [] more regions = refl
all_moved-append (move ∷ first) more (Err why) = sym (all_moved_err more why)
all_moved-append (move ∷ first) more (Ok regions) = all_moved-append first more (moved move regions)

-- the bounds that move are numbered from the first on
each_if : (P : CutMove → Type 0) (test : Bool) (move : CutMove) → P move → AllByRecursion P (if test then move ∷ [] else [])
each_if P true move is = (is, tt)
each_if P false move is = tt

from_next : (i : ℕ) (moves : List CutMove) → AllByRecursion (λ move. i + 1 ≤ move.bound) moves → AllByRecursion (λ move. i ≤ move.bound) moves
from_next i moves each = each-weaker {P = λ (move : CutMove). i + 1 ≤ move.bound} {Q = λ (move : CutMove). i ≤ move.bound} (λ move above. omega arith) moves each

each_rising : (i : ℕ) (froms tos : List ℕ) → AllByRecursion (λ move. i ≤ move.bound) (rising_moves i froms tos)
each_rising i [] tos = tt
each_rising i (from ∷ froms) [] = tt
each_rising i (from ∷ froms) (to ∷ tos) =
    each-append (λ move. i ≤ move.bound) (rising_moves (i + 1) froms tos) (if nat_lt from to then record { bound = i; from = from; to = to } ∷ [] else [])
    (from_next i (rising_moves (i + 1) froms tos) (each_rising (i + 1) froms tos))
    (each_if (λ move. i ≤ move.bound) (nat_lt from to) (record { bound = i; from = from; to = to }) (omega arith))

each_falling : (i : ℕ) (froms tos : List ℕ) → AllByRecursion (λ move. i ≤ move.bound) (falling_moves i froms tos)
each_falling i [] tos = tt
each_falling i (from ∷ froms) [] = tt
each_falling i (from ∷ froms) (to ∷ tos) =
    each-append (λ move. i ≤ move.bound) (if nat_lt to from then record { bound = i; from = from; to = to } ∷ [] else []) (falling_moves (i + 1) froms tos)
    (each_if (λ move. i ≤ move.bound) (nat_lt to from) (record { bound = i; from = from; to = to }) (omega arith))
    (from_next i (falling_moves (i + 1) froms tos) (each_falling (i + 1) froms tos))

-- the first number is free where no piece is loose
free_first : free_number [] ≡ 1
unfolding least
free_first = refl

-- what a give and a take leave, from their answers
handed : (p : ℕ) (side : Side) (at q : ℕ) (regions given : List Region) (piece : ℕ × ℕ × ℕ) (taken_side : Side) → give_answer p side at regions ≡ Ok piece → cut p piece.0 side at regions ≡ given
    → take_answer piece.0 q given ≡ Ok taken_side → handed_over p side at q regions ≡ Ok (joined piece.0 q given)
handed p side at q regions given piece taken_side gives leaves takes = rw (gives, leaves, takes) refl

-- two neighbouring parts
abbrev two_parts : ℕ → ℕ → ℕ → ℕ → List Region → List Region
two_parts k lo bound hi rest = record { lo = lo; hi = bound; place = Part k } ∷ (record { lo = bound; hi = hi; place = Part (k + 1) } ∷ rest)

same_number : (n : ℕ) → (n == n) ≡ true
same_number n = grind (arith, nat_tests)

next_number : (n : ℕ) → (n == n + 1) ≡ false
next_number n = grind (arith, nat_tests)

-- a bound rises between them
raise : (k lo from to hi : ℕ) (rest : List Region) → lo < from → from < to → to < hi → pieces_of rest ≡ []
    → moved (record { bound = k + 1; from = from; to = to }) (two_parts k lo from hi rest) ≡ Ok (two_parts k lo to hi rest)
raise k lo from to hi rest begins above below none =
    let up : nat_lt from to ≡ true = grind (arith, nat_tests) in
    let before : k + 1 - 1 ≡ k = omega arith in
    rw (up, before) (handed (k + 1) Low to k (two_parts k lo from hi rest) given (1, from, to) High gives leaves takes ∙ ap Ok ends)
  where
    given : List Region
    given = record { lo = lo; hi = from; place = Part k } ∷ (record { lo = from; hi = to; place = Piece 1 } ∷ (record { lo = to; hi = hi; place = Part (k + 1) } ∷ rest))

    gives : give_answer (k + 1) Low to (two_parts k lo from hi rest) ≡ Ok (1, from, to)
    gives =
        let up : nat_lt from to ≡ true = grind (arith, nat_tests) in
        let under : nat_lt to hi ≡ true = grind (arith, nat_tests) in
        rw (next_number k, same_number (k + 1), up, under, none, free_first) refl

    leaves : cut (k + 1) 1 Low to (two_parts k lo from hi rest) ≡ given
    leaves = rw (next_number k, same_number (k + 1)) refl

    takes : take_answer 1 k given ≡ Ok High
    takes =
        let apart : (to == lo) ≡ false = grind (arith, nat_tests) in
        rw (same_number k, apart, same_number from) refl

    ends : joined 1 k given ≡ two_parts k lo to hi rest
    ends = rw (same_number k) refl

-- a bound falls between them
lower : (k lo from to hi : ℕ) (rest : List Region) → to < from → lo < to → pieces_of rest ≡ []
    → moved (record { bound = k + 1; from = from; to = to }) (two_parts k lo from hi rest) ≡ Ok (two_parts k lo to hi rest)
lower k lo from to hi rest below above none =
    let down : nat_lt from to ≡ false = grind (arith, nat_tests) in
    let before : k + 1 - 1 ≡ k = omega arith in
    rw down (ap (λ p. handed_over p High to (k + 1) (two_parts k lo from hi rest)) before
    ∙ (handed k High to (k + 1) (two_parts k lo from hi rest) given (1, to, from) Low gives leaves takes ∙ ap Ok ends))
  where
    given : List Region
    given = record { lo = lo; hi = to; place = Part k } ∷ (record { lo = to; hi = from; place = Piece 1 } ∷ (record { lo = from; hi = hi; place = Part (k + 1) } ∷ rest))

    gives : give_answer k High to (two_parts k lo from hi rest) ≡ Ok (1, to, from)
    gives =
        let over : nat_lt lo to ≡ true = grind (arith, nat_tests) in
        let under : nat_lt to from ≡ true = grind (arith, nat_tests) in
        rw (same_number k, over, under, none, free_first) refl

    leaves : cut k 1 High to (two_parts k lo from hi rest) ≡ given
    leaves = rw (same_number k) refl

    takes : take_answer 1 (k + 1) given ≡ Ok Low
    takes = rw (next_number k, same_number (k + 1), same_number from) refl

    ends : joined 1 (k + 1) given ≡ two_parts k lo to hi rest
    ends = rw (next_number k, same_number (k + 1)) refl

-- the same between parts alone
raise_parts : (k lo from to : ℕ) (bounds : List ℕ) → lo < from → from < to → to ≤ LAST_SUBSCRIBER → are_rising to bounds ≡ true
    → moved (record { bound = k + 1; from = from; to = to }) (parts_between k lo (from ∷ bounds)) ≡ Ok (parts_between k lo (to ∷ bounds))
raise_parts k lo from to [] begins above last rising = raise k lo from to END [] begins above (omega arith) refl
raise_parts k lo from to (bound ∷ bounds) begins above last rising =
    let first = rising_first to bound bounds rising in
    raise k lo from to bound (parts_between (k + 1 + 1) bound bounds) begins above first.0 (no_pieces (k + 1 + 1) bound bounds)

lower_parts : (k lo from to : ℕ) (bounds : List ℕ) → to < from → lo < to
    → moved (record { bound = k + 1; from = from; to = to }) (parts_between k lo (from ∷ bounds)) ≡ Ok (parts_between k lo (to ∷ bounds))
lower_parts k lo from to [] below above = lower k lo from to END [] below above refl
lower_parts k lo from to (bound ∷ bounds) below above = lower k lo from to bound (parts_between (k + 1 + 1) bound bounds) below above (no_pieces (k + 1 + 1) bound bounds)

-- the higher of two numbers, and of two lists of them, place by place
abbrev highest : ℕ → ℕ → ℕ
highest from to = if nat_lt from to then to else from

abbrev higher : List ℕ → List ℕ → List ℕ
higher [] tos = []
higher (from ∷ froms) [] = []
higher (from ∷ froms) (to ∷ tos) = highest from to ∷ higher froms tos

highest_rises : (low other from to : ℕ) → low < from → other < to → highest low other < highest from to
highest_rises low other from to one two =
    by_test (nat_lt low other)
    (λ e. by_test (nat_lt from to) (λ f. rw (e, f) two) (λ f. rw (e, f) (grind (arith, nat_tests))))
    (λ e. by_test (nat_lt from to) (λ f. rw (e, f) (grind (arith, nat_tests))) (λ f. rw (e, f) one))

highest_at_most : (from to most : ℕ) → from ≤ most → to ≤ most → highest from to ≤ most
highest_at_most from to most one two = by_test (nat_lt from to) (λ e. rw e two) (λ e. rw e one)

-- the higher bounds rise where both do
rising-higher : (low other : ℕ) (froms tos : List ℕ) → are_rising low froms ≡ true → are_rising other tos ≡ true → are_rising (highest low other) (higher froms tos) ≡ true
rising-higher low other [] tos rises rising = refl
rising-higher low other (from ∷ froms) [] rises rising = refl
rising-higher low other (from ∷ froms) (to ∷ tos) rises rising =
    let one = rising_first low from froms rises in
    let two = rising_first other to tos rising in
    rising_from (highest low other) (highest from to) (higher froms tos) (highest_rises low other from to one.0 two.0) (highest_at_most from to LAST_SUBSCRIBER one.1 two.1)
    (rising-higher from to froms tos one.2 two.2)

-- the bounds that rise, from the last down
rising_done : (k lo other : ℕ) (froms tos : List ℕ) → length froms ≡ length tos → are_rising lo froms ≡ true → are_rising other tos ≡ true
    → all_moved (rising_moves (k + 1) froms tos) (Ok (parts_between k lo froms)) ≡ Ok (parts_between k lo (higher froms tos))
rising_done k lo other [] tos same rises rising = refl
rising_done k lo other (from ∷ froms) [] same rises rising = absurd (omega arith)
rising_done k lo other (from ∷ froms) (to ∷ tos) same rises rising =
    let one = rising_first lo from froms rises in
    let two = rising_first other to tos rising in
    all_moved-append (rising_moves (k + 1 + 1) froms tos) (last (nat_lt from to)) (Ok (parts_between k lo (from ∷ froms)))
    ∙ (ap (all_moved (last (nat_lt from to))) (behind (rising_done (k + 1) from to froms tos (omega arith) one.2 two.2))
    ∙ by_test (nat_lt from to) (λ e. rw e (raise_parts k lo from to (higher froms tos) one.0 (grind (arith, nat_tests)) two.1 (rw e at (rising-higher from to froms tos one.2 two.2)))) (λ e. rw e refl))
  where
    last : Bool → List CutMove
    last test = if test then record { bound = k + 1; from = from; to = to } ∷ [] else []

    behind : all_moved (rising_moves (k + 1 + 1) froms tos) (Ok (parts_between (k + 1) from froms)) ≡ Ok (parts_between (k + 1) from (higher froms tos))
        → all_moved (rising_moves (k + 1 + 1) froms tos) (Ok (parts_between k lo (from ∷ froms))) ≡ Ok (parts_between k lo (from ∷ higher froms tos))
    behind done =
        all_moved_behind (rising_moves (k + 1 + 1) froms tos) k lo from (Ok (parts_between (k + 1) from froms))
        (each-weaker {P = λ (move : CutMove). k + 1 + 1 ≤ move.bound} {Q = λ (move : CutMove). k + 2 ≤ move.bound} (λ move from_there. omega arith) (rising_moves (k + 1 + 1) froms tos) (each_rising (k + 1 + 1) froms tos))
        ∙ ap (in_front (record { lo = lo; hi = from; place = Part k })) done

-- the bounds that fall, from the first up
falling_done : (k lo : ℕ) (froms tos : List ℕ) → length froms ≡ length tos → are_rising lo tos ≡ true
    → all_moved (falling_moves (k + 1) froms tos) (Ok (parts_between k lo (higher froms tos))) ≡ Ok (parts_between k lo tos)
falling_done k lo [] [] same rising = refl
falling_done k lo [] (to ∷ tos) same rising = absurd (omega arith)
falling_done k lo (from ∷ froms) [] same rising = absurd (omega arith)
falling_done k lo (from ∷ froms) (to ∷ tos) same rising =
    let first = rising_first lo to tos rising in
    let to_last = falling_done (k + 1) to froms tos (omega arith) first.2 in
    let each = each-weaker {P = λ (move : CutMove). k + 1 + 1 ≤ move.bound} {Q = λ (move : CutMove). k + 2 ≤ move.bound} (λ move from_there. omega arith) (falling_moves (k + 1 + 1) froms tos) (each_falling (k + 1 + 1) froms tos) in
    let behind = all_moved_behind (falling_moves (k + 1 + 1) froms tos) k lo to (Ok (parts_between (k + 1) to (higher froms tos))) each ∙ ap (in_front (record { lo = lo; hi = to; place = Part k })) to_last in
    by_test (nat_lt to from)
    (λ e. let f : nat_lt from to ≡ false = grind (arith, nat_tests) in
    let stays : highest from to ≡ from = rw f refl in
    rw (e, stays) (ap (all_moved (falling_moves (k + 1 + 1) froms tos)) (lower_parts k lo from to (higher froms tos) (grind (arith, nat_tests)) first.0) ∙ behind))
    (λ e. let risen : highest from to ≡ to = by_test (nat_lt from to) (λ f. rw f refl) (λ f. rw f (grind (arith, nat_tests))) in
    rw (e, risen) behind)

-- all moves, one after another
pub moves_done : (lo : ℕ) (froms tos : List ℕ) → length froms ≡ length tos → are_rising lo froms ≡ true → are_rising lo tos ≡ true
    → all_moved (rising_moves 1 froms tos ++ falling_moves 1 froms tos) (Ok (parts_between 0 lo froms)) ≡ Ok (parts_between 0 lo tos)
moves_done lo froms tos same rises rising =
    all_moved-append (rising_moves 1 froms tos) (falling_moves 1 froms tos) (Ok (parts_between 0 lo froms))
    ∙ (ap (all_moved (falling_moves 1 froms tos)) (rising_done 0 lo lo froms tos same rises rising) ∙ falling_done 0 lo froms tos same rising)
