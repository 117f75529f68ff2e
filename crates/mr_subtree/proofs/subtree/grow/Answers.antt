use Rattle.mr_subtree.proofs.Common.{rules, arith, refl, sym, ap, ◌∙◌, row_at, key_of_pair}
use Rattle.mr_subtree.proofs.RootFacts.{grown_root, higher_root}
use Rattle.mr_subtree.proofs.subtree.grow.Goals as goal

pub insert_split-requires : goal.insert_split-requires
insert_split-requires g c =
    let root = c.add_root.ensures.root in
    (search rules, (c.requires.small, (c.requires.some, (ap (row_at key_of_pair c.args.key) root.rows ∙ c.requires.missing, (omega (arith, root.width), omega (arith, root.height, c.add_root.ensures.stock, c.requires.full (omega (arith, c.if-width-eq32.true, c.width.ensures.value))))))))

pub insert_split-requires-2 : goal.insert_split-requires-2
insert_split-requires-2 g c =
    (search rules, (c.requires.small, (c.requires.some, (c.requires.missing, (omega (arith, c.if-width-eq32.false, c.width.ensures.value, c.requires.root.well.fits), c.requires.each)))))

pub returns-then-width-eq32-clause-root : goal.returns-then-width-eq32-clause-root
returns-then-width-eq32-clause-root g c = (higher_root c.args.key c.args.item.now c.args.root.now c.add_root.new.self c.insert_split.new.self c.args.root.now refl c.add_root.ensures.root c.requires.some c.insert_split.ensures.grown).0

pub returns-then-width-eq32-clause-rows : goal.returns-then-width-eq32-clause-rows
returns-then-width-eq32-clause-rows g c = (higher_root c.args.key c.args.item.now c.args.root.now c.add_root.new.self c.insert_split.new.self c.args.root.now refl c.add_root.ensures.root c.requires.some c.insert_split.ensures.grown).1

pub returns-clause-root : goal.returns-clause-root
returns-clause-root g c = (grown_root c.args.key c.args.item.now c.args.root.now c.insert_split-2.new.self c.args.root.now refl c.requires.root c.requires.some c.insert_split-2.ensures.grown).0

pub returns-clause-rows : goal.returns-clause-rows
returns-clause-rows g c = (grown_root c.args.key c.args.item.now c.args.root.now c.insert_split-2.new.self c.args.root.now refl c.requires.root c.requires.some c.insert_split-2.ensures.grown).1

pub add_root-requires : goal.add_root-requires
add_root-requires g c =
    let full = c.if-width-eq32.true in
    (search rules, (sym c.width.ensures.value ∙ full, (c.requires.root.well, omega (arith, c.requires.full (sym c.width.ensures.value ∙ full)))))
