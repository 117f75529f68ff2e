-- The tests come in the order of the refusals; then the bounds that rise, and those that fall.
use Rattle.part_table.proofs.Common.{◌∙◌, sym, arith}
use Rattle.part_table.proofs.AnswerLemmas.{too_many, not_rising, some_loose, answers, few_bounds, few_moves, done}
use Rattle.part_table.proofs.regions.Regions.moves_to.Goals as goal
use Rattle.part_table.proofs.regions.Regions.moves_to.Goals.{then-bounds-parts-via-then-bounds-parts, then-bounds-parts-via-else-bounds-parts+then-not-are_rising}

pub returns-then-bounds-parts-clause-answer : goal.returns-then-bounds-parts-clause-answer
returns-then-bounds-parts-clause-answer c =
    let regions = c.list-regions.result.now in
    let counted = c.count_parts-parts.ensures in
    rw (← c.list-regions.ensures.value) (elim c.then-bounds-parts.branch [
      | then-bounds-parts-via-then-bounds-parts w ↦ too_many regions c.args.bounds.now c.count_parts-parts.result counted w.if-bounds-parts.true
      | then-bounds-parts-via-else-bounds-parts+then-not-are_rising w ↦
          not_rising regions c.args.bounds.now c.count_parts-parts.result counted (sym w.are_rising.ensures ∙ w.if-not-are_rising.true)
    ])

pub returns-then-parts-regions-clause-answer : goal.returns-then-parts-regions-clause-answer
returns-then-parts-regions-clause-answer c =
    let regions = c.list-regions.result.now in
    rw (← c.list-regions.ensures.value)
    (some_loose regions c.args.bounds.now c.count_parts-parts.result c.count_parts-parts.ensures c.if-bounds-parts.false (sym c.are_rising.ensures ∙ c.if-not-are_rising.false) c.if-parts-regions.true)

pub rising_moves-rising-requires-clause-few : goal.rising_moves-rising-requires-clause-few
rising_moves-rising-requires-clause-few c =
    few_bounds c.list-regions.result.now c.args.bounds.now c.count_parts-parts.result c.count_parts-parts.ensures
    c.if-bounds-parts.false (sym c.are_rising.ensures ∙ c.if-not-are_rising.false) c.if-parts-regions.false
    c.list-regions.ensures.regions

pub falling_moves-falling-requires-clause-few : goal.falling_moves-falling-requires-clause-few
falling_moves-falling-requires-clause-few c =
    few_bounds c.list-regions.result.now c.args.bounds.now c.count_parts-parts.result c.count_parts-parts.ensures
    c.if-bounds-parts.false (sym c.are_rising.ensures ∙ c.if-not-are_rising.false) c.if-parts-regions.false
    c.list-regions.ensures.regions

pub joined-requires : goal.joined-requires
joined-requires c =
    let rising = sym c.are_rising.ensures ∙ c.if-not-are_rising.false in
    let few = few_moves c.list-regions.result.now c.args.bounds.now c.count_parts-parts.result c.count_parts-parts.ensures
    c.if-bounds-parts.false rising c.if-parts-regions.false c.list-regions.ensures.regions in
    rw (c.rising_moves-rising.ensures, c.falling_moves-falling.ensures) (omega (arith, few))

pub returns : goal.returns
returns c =
    let regions = c.list-regions.result.now in
    let rising = sym c.are_rising.ensures ∙ c.if-not-are_rising.false in
    let moves = rw (c.rising_moves-rising.ensures, c.falling_moves-falling.ensures) at c.joined.ensures in
    rw (← c.list-regions.ensures.value, moves) (record {
      answer = answers regions c.args.bounds.now c.count_parts-parts.result c.count_parts-parts.ensures
          c.if-bounds-parts.false rising c.if-parts-regions.false;
      done = done regions c.args.bounds.now c.count_parts-parts.result c.count_parts-parts.ensures
          c.if-bounds-parts.false rising c.if-parts-regions.false c.list-regions.ensures.regions;
    })
