use Rattle.mr_node.proofs.Common.{◌+◌, length, eqb, sym, subst, AreEvenWidths}
use Rattle.mr_node.proofs.ShareLemmas.{appended_sum, even_widths}
use Rattle.mr_node.proofs.entry_lists.even.Goals as goal

pub returns-clause-even : goal.returns-clause-even
returns-clause-even g c =
    let l = g.R.EntryList.list c.args.left.now in
    let r = g.R.EntryList.list c.args.right.now in
    let x = g.R.EntryList.list c.share.new.left in
    let y = g.R.EntryList.list c.share.new.right in
    subst (λ n. AreEvenWidths (eqb n 0) (length x) (length y)) (sym c.width.ensures)
    (even_widths (length x) (length y) c.args.low (length l + length r) c.requires.share c.share.ensures.len (appended_sum x y l r c.share.ensures.list))
