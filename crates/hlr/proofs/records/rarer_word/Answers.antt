-- In each arm the text is the word, byte by byte.
use Rattle.hlr.proofs.Common.{refl, arith, rules, codes, text_from_reads}
use Rattle.hlr.specs.Records.{word_named}
use Rattle.hlr.proofs.records.rarer_word.Goals as goal

pub returns-in-usd : goal.returns-in-usd
unfolding word_named
returns-in-usd c = rw (text_from_reads c.args.text.now (codes "usd") (omega arith) (search rules)) refl

pub returns-in-icf : goal.returns-in-icf
unfolding word_named
returns-in-icf c = rw (text_from_reads c.args.text.now (codes "icf") (omega arith) (search rules)) refl

pub returns-in-dcf : goal.returns-in-dcf
unfolding word_named
returns-in-dcf c = rw (text_from_reads c.args.text.now (codes "dcf") (omega arith) (search rules)) refl

pub returns-in-sub : goal.returns-in-sub
unfolding word_named
returns-in-sub c = rw (text_from_reads c.args.text.now (codes "sub") (omega arith) (search rules)) refl

pub returns-in-acc : goal.returns-in-acc
unfolding word_named
returns-in-acc c = rw (text_from_reads c.args.text.now (codes "acc") (omega arith) (search rules)) refl

pub returns-in-fac : goal.returns-in-fac
unfolding word_named
returns-in-fac c = rw (text_from_reads c.args.text.now (codes "fac") (omega arith) (search rules)) refl

pub returns-in-active : goal.returns-in-active
unfolding word_named
returns-in-active c = rw (text_from_reads c.args.text.now (codes "active") (omega arith) (search rules)) refl

pub returns-in-number : goal.returns-in-number
unfolding word_named
returns-in-number c = rw (text_from_reads c.args.text.now (codes "number") (omega arith) (search rules)) refl

pub returns-in-post : goal.returns-in-post
unfolding word_named
returns-in-post c = rw (text_from_reads c.args.text.now (codes "post") (omega arith) (search rules)) refl

pub returns-in-give : goal.returns-in-give
unfolding word_named
returns-in-give c = rw (text_from_reads c.args.text.now (codes "give") (omega arith) (search rules)) refl

pub returns-in-take : goal.returns-in-take
unfolding word_named
returns-in-take c = rw (text_from_reads c.args.text.now (codes "take") (omega arith) (search rules)) refl

pub returns-in-divide : goal.returns-in-divide
unfolding word_named
returns-in-divide c = rw (text_from_reads c.args.text.now (codes "divide") (omega arith) (search rules)) refl

pub returns-in-dissolve : goal.returns-in-dissolve
unfolding word_named
returns-in-dissolve c = rw (text_from_reads c.args.text.now (codes "dissolve") (omega arith) (search rules)) refl

pub returns-in-views : goal.returns-in-views
unfolding word_named
returns-in-views c = rw (text_from_reads c.args.text.now (codes "views") (omega arith) (search rules)) refl

pub returns-in-scan : goal.returns-in-scan
unfolding word_named
returns-in-scan c = rw (text_from_reads c.args.text.now (codes "scan") (omega arith) (search rules)) refl

pub returns-in-index : goal.returns-in-index
unfolding word_named
returns-in-index c = rw (text_from_reads c.args.text.now (codes "index") (omega arith) (search rules)) refl

pub returns-in-regions : goal.returns-in-regions
unfolding word_named
returns-in-regions c = rw (text_from_reads c.args.text.now (codes "regions") (omega arith) (search rules)) refl

pub returns-in-propose : goal.returns-in-propose
unfolding word_named
returns-in-propose c = rw (text_from_reads c.args.text.now (codes "propose") (omega arith) (search rules)) refl

pub returns-in-recut : goal.returns-in-recut
unfolding word_named
returns-in-recut c = rw (text_from_reads c.args.text.now (codes "recut") (omega arith) (search rules)) refl
