use Rattle.edit_lines.proofs.LineLemmas.{plain_line}
use Rattle.edit_lines.proofs.writing.push_line.Goals as goal

pub returns-clause-plain : goal.returns-clause-plain
returns-clause-plain c = plain_line c.args.event.now
