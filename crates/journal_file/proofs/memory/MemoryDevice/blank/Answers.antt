use Rattle.std.proofs.Common.{◌≡◌, ◌++◌, ◌-◌, ℕ, List, length, take, replicate, refl, ap, sym, ◌∙◌, subst}
use Rattle.journal_file.specs.Device.{Fades}
use Rattle.journal_file.proofs.ByteLemmas.{fades_same, fades_blanked}
use Rattle.journal_file.proofs.PastLemmas.{elapses_to}
use Rattle.journal_file.proofs.memory.MemoryDevice.blank.Goals as goal

pub returns-in_err-next-clause-crash : goal.returns-in_err-next-clause-crash
returns-in_err-next-clause-crash c = λ f is. (f, is, fades_same c.args.from f)

pub returns-in_err-put-clause-crash : goal.returns-in_err-put-clause-crash
returns-in_err-put-clause-crash c = λ f is. (f, is ∙ c.in_err-put.ensures.refused, fades_same c.args.from f)

pub returns-clause-crash : goal.returns-clause-crash
returns-clause-crash c =
    let old = c.args.self.now.bytes.items in
    let from = c.args.from in
    let done : c.put.new.bytes.items ≡ take from old ++ replicate (length old - from) 0 =
    c.in_ok-put.ensures.done ∙ c.in_ok-next.ensures.blanked ∙ ap (λ (f : List ℕ). take from f ++ replicate (length f - from) 0) c.deref.ensures.value in
    λ f is. (old, refl, subst (Fades from old) (sym (is ∙ done)) (fades_blanked from old (length old - from) c.requires.fits refl))

pub returns-clause-time : goal.returns-clause-time
returns-clause-time c =
    let past = c.in_ok-put.ensures.past in
    elapses_to c.args.self.now.past.items past.0 c.args.self.now.bytes.items c.put.new.bytes.items past.1 c.put.new.past.items past.2
