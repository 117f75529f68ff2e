use Rattle.mr_node.proofs.Common.{◌≡◌, [], sym, ◌∙◌, nil_from_length, entries}
use Rattle.mr_node.proofs.EntryListLemmas.{entries_length}
use Rattle.mr_node.proofs.EvenLemmas.{no_more}
use Rattle.mr_node.proofs.PartLemmas.{cut_fits}
use Rattle.mr_node.proofs.cuts.cut_children.Goals as goal

pub share-requires-clause-enough : goal.share-requires-clause-enough
share-requires-clause-enough g c =
    let b = c.args.inner.now in
    let n = c.empty_inner-high.result in
    let none : entries n.leasts n.children ≡ [] = nil_from_length (entries n.leasts n.children) (entries_length 0 n.leasts n.children c.empty_inner-high.ensures.entries) in
    (cut_fits b.len c.args.place (entries b.leasts b.children) (entries n.leasts n.children) (entries_length b.len b.leasts b.children c.requires.entries) none c.requires.within c.requires.entries.fits).0

pub share-requires-clause-room : goal.share-requires-clause-room
share-requires-clause-room g c =
    let b = c.args.inner.now in
    let n = c.empty_inner-high.result in
    let none : entries n.leasts n.children ≡ [] = nil_from_length (entries n.leasts n.children) (entries_length 0 n.leasts n.children c.empty_inner-high.ensures.entries) in
    (cut_fits b.len c.args.place (entries b.leasts b.children) (entries n.leasts n.children) (entries_length b.len b.leasts b.children c.requires.entries) none c.requires.within c.requires.entries.fits).1

pub returns-clause-children : goal.returns-clause-children
returns-clause-children g c =
    let b = c.args.inner.now in
    let n = c.empty_inner-high.result in
    let none : entries n.leasts n.children ≡ [] = nil_from_length (entries n.leasts n.children) (entries_length 0 n.leasts n.children c.empty_inner-high.ensures.entries) in
    let l = c.share.new.left in
    let r = c.share.new.right in
    no_more (entries b.leasts b.children) (entries n.leasts n.children) (entries l.leasts l.children) (entries r.leasts r.children) c.share.ensures.list none

pub returns-clause-len : goal.returns-clause-len
returns-clause-len g c =
    let l = c.share.new.left in
    sym (entries_length l.len l.leasts l.children c.share.ensures.left_entries) ∙ c.share.ensures.len
