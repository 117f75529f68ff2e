use Rattle.hlr.proofs.Common.{err_from_is_err_and}
use Rattle.hlr.proofs.OptionFacts.{found_rows, found_kinds, failed_kinds, passed_on}
use Rattle.hlr.proofs.options.read_options.Goals as goal

pub returns-in_err-matches-clause-kinds : goal.returns-in_err-matches-clause-kinds
returns-in_err-matches-clause-kinds c =
    let has = failed_kinds _ _ c.in_err-matches.field-0.0 c.in_ok-command.ensures c.in_err-matches.ensures.kinds in
    let passed = err_from_is_err_and c.from_residual-in_err-matches.result c.from_residual-in_err-matches.ensures.1 in
    passed_on _ _ _ _ passed.1 passed.2 has

pub returns-in-Some-Some-Some-clause-words : goal.returns-in-Some-Some-Some-clause-words
returns-in-Some-Some-Some-clause-words c =
    let same = found_rows _ _ _ c.in_ok-command.ensures c.in_ok-matches.ensures.matches in
    (rw same at c.in-Some-Some-Some.ensures, rw same at c.in-Some-Some-Some.ensures', rw same at c.in-Some-Some-Some.ensures'', rw same at c.read_journal.ensures, rw same at c.in-Some.ensures)

pub returns-in-Some-Some-Some-clause-kinds : goal.returns-in-Some-Some-Some-clause-kinds
returns-in-Some-Some-Some-clause-kinds c = found_kinds _ _ c.in_ok-command.ensures c.in_ok-matches.ensures.kinds
