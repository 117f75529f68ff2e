use Rattle.hlr_c.proofs.ManyLemmas.{all_more, none_more, one_more}
use Rattle.hlr_c.proofs.asking.ask_each.Goals as goal

pub loop-at-init : goal.loop-at-init
loop-at-init g c = none_more (λ question row found. g.Q.Question.is_read question row c.args.of.now found c.args.of.now) c.args.asked.now c.args.from (c.args.rows.now, c.args.codes.now) c.args.to c.requires.block.0 c.requires.as_many

pub loop-at-preserved : goal.loop-at-preserved
loop-at-preserved g c =
    one_more (λ question row found. g.Q.Question.is_read question row c.args.of.now found c.args.of.now) c.args.asked.now c.args.from (c.args.rows.now, c.args.codes.now) c.loop-at.rows c.loop-at.codes c.loop-at.at c.args.to
    c.index-asked-at.result c.index-asked-at.result c.index-rows-at.result c.ask.new.row c.ask.result c.loop-at.invariant c.loop-at-test.true c.requires.block.1 c.index-asked-at.is c.ask.ensures

pub returns : goal.returns
returns g c =
    all_more (λ question row found. g.Q.Question.is_read question row c.args.of.now found c.args.of.now) c.args.asked.now c.args.from (c.args.rows.now, c.args.codes.now) c.loop-at.at c.args.to (c.loop-at.rows, c.loop-at.codes) c.loop-at.invariant c.loop-at-test.false
