use Rattle.std.proofs.Common.{rules, ◌≡◌, ◌++◌, ℕ, List, length, take, drop, sym, ◌∙◌, ap, arith}
use Rattle.std.proofs.Math.Seq.{take-add}
use Rattle.std.proofs.lemmas.List.{take_all, take-append-le}
use Rattle.journal_file.proofs.memory.UnreadMemoryUnread.read_on.Goals as goal

pub returns-clause-read : goal.returns-clause-read
returns-clause-read c =
    let bytes = c.args.self.now.file.bytes.items in
    let at = c.args.self.now.at in
    let n = c.min-n.result in
    let copy : List ℕ = c.copy_from_slice.new.self in
    let is : copy ≡ take n (drop at bytes) = search rules in
    let long : length copy ≡ n = search rules in
    take-add at n bytes
    ∙ ap (λ (l : List ℕ). take at bytes ++ l)
    (sym (take-append-le n copy (drop n c.args.buffer.now) (omega (arith, long)) ∙ take_all n copy (omega (arith, long)) ∙ is))
