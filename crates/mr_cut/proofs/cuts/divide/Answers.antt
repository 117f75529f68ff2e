use Rattle.mr_cut.proofs.Common.{rules, ◌∙◌, children_rise, children_below, child_at}
use Rattle.mr_cut.proofs.CutLemmas.{IsCutAround, cut_around, divided_of}
use Rattle.mr_cut.proofs.cuts.divide.Goals.{After-take_child-mid}
use Rattle.mr_cut.proofs.cuts.divide.Goals as goal

-- the child to which the key belongs, and the others on both sides of it
around : (g : _) (c : After-take_child-mid g) → IsCutAround c.args.key c.args.inner c.take_child-mid.new.inner c.cut_children-behind.result (child_at c.cut_children-behind.new.inner c.child_place-place.result c.take_child-mid.result)
around g c =
    let cut = c.cut_children-behind.ensures in
    let taken = c.take_child-mid.ensures in
    cut_around c.args.key c.child_place-place.result c.args.inner c.cut_children-behind.new.inner _ _ _ c.requires.inner c.child_place-place.ensures cut.children cut.len cut.low_height cut.high_height cut.low cut.high taken.height taken.len taken.entries taken.rest taken.child

pub child_place-place-requires : goal.child_place-place-requires
child_place-place-requires g c =
    let whole = c.requires.inner in
    (search rules, (whole.some, (whole.entries, (children_rise c.args.inner whole, children_below c.args.inner whole))))

pub root_of-left-requires : goal.root_of-left-requires
root_of-left-requires g c =
    let at = around g (goal.at.root_of-left-requires g c).After-take_child-mid in
    (search rules, (search rules, (at.first, at.first_room)))

pub root_of-right-requires : goal.root_of-right-requires
root_of-right-requires g c =
    let at = around g (goal.at.root_of-right-requires g c).After-take_child-mid in
    (search rules, (search rules, (at.second, at.second_room)))

pub returns-clause-divided : goal.returns-clause-divided
returns-clause-divided g c =
    let at = around g (goal.at.returns-clause-divided g c).After-take_child-mid in
    let cut = c.cut_children-behind.ensures in
    divided_of _ _ _ _ _ _ _ c.requires.inner at (c.take_child-mid.ensures.height ∙ cut.low_height) cut.high_height c.root_of-left.ensures.piece c.root_of-right.ensures.piece c.root_of-left.ensures.rows c.root_of-right.ensures.rows
