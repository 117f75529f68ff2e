use Rattle.std.proofs.Common.{◌≡◌, ◌+◌, ◌++◌, ℕ, List, length, take, drop, refl, ap, sym, ◌∙◌, subst}
use Rattle.journal_file.specs.Device.{Mixes}
use Rattle.journal_file.proofs.ByteLemmas.{mixes_same, mixes_over, over_pieces}
use Rattle.journal_file.proofs.PastLemmas.{elapses_to}
use Rattle.journal_file.proofs.memory.MemoryDevice.write_at.Goals as goal

pub returns-in_err-next-clause-crash : goal.returns-in_err-next-clause-crash
returns-in_err-next-clause-crash c = λ f is. (f, is, mixes_same c.args.at c.args.bytes.now f)

pub returns-in_err-put-clause-crash : goal.returns-in_err-put-clause-crash
returns-in_err-put-clause-crash c = λ f is. (f, is ∙ c.in_err-put.ensures.refused, mixes_same c.args.at c.args.bytes.now f)

pub returns-clause-written : goal.returns-clause-written
returns-clause-written c =
    let old = c.args.self.now.bytes.items in
    let end = c.args.at + length c.args.bytes.now in
    let done : c.put.new.bytes.items ≡ take c.args.at old ++ c.args.bytes.now ++ drop end old =
    c.in_ok-put.ensures.done ∙ c.in_ok-next.ensures.written
    ∙ ap (λ (f : List ℕ). take c.args.at f ++ c.args.bytes.now ++ drop end f) c.deref.ensures.value in
    done ∙ over_pieces c.args.at c.args.bytes.now old end refl c.requires.fits

pub returns-clause-crash : goal.returns-clause-crash
returns-clause-crash c =
    let old = c.args.self.now.bytes.items in
    λ f is. (old, refl, subst (Mixes c.args.at c.args.bytes.now old) (sym (is ∙ returns-clause-written c)) (mixes_over c.args.at c.args.bytes.now old))

pub returns-clause-time : goal.returns-clause-time
returns-clause-time c =
    let past = c.in_ok-put.ensures.past in
    elapses_to c.args.self.now.past.items past.0 c.args.self.now.bytes.items c.put.new.bytes.items past.1 c.put.new.past.items past.2
