use Rattle.edit_lines.proofs.Common.{arith}
use Rattle.edit_lines.proofs.ReadLemmas.{is_read, is_back}
use Rattle.edit_lines.proofs.reading.read_line.Goals as goal

pub returns-clause-read : goal.returns-clause-read
returns-clause-read c = is_read c.args.line.now c.read.result (λ i. omega (arith, c.type_inv.line i)) c.read.ensures

pub returns-clause-back : goal.returns-clause-back
returns-clause-back c = is_back c.args.line.now c.read.result c.read.ensures
