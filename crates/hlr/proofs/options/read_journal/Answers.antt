use Rattle.hlr.proofs.Common.{◌∙◌, codes, found_of}
use Rattle.clap.proofs.WalkLemmas.{first_value-rows}
use Rattle.hlr.proofs.options.read_journal.Goals as goal

pub returns : goal.returns
returns c = c.get_str.ensures ∙ first_value-rows (found_of c.args.matches.now) (codes "journal")
