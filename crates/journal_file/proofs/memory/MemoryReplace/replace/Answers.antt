use Rattle.journal_file.proofs.PastLemmas.{elapses_to}
use Rattle.journal_file.proofs.memory.MemoryReplace.replace.Goals as goal

pub returns-clause-time : goal.returns-clause-time
returns-clause-time c =
    let past = c.in_ok-put.ensures.past in
    elapses_to c.args.self.now.past.items past.0 c.args.self.now.bytes.items c.put.new.bytes.items past.1 c.put.new.past.items past.2
