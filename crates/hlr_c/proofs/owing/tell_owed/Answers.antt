use mir.Syntax.{w32}
use Rattle.std.specs.Prelude.{ℤ, slice_get}
use Rattle.std.proofs.lemmas.Int.{to_z-of_z}
use Rattle.hlr_c.proofs.Common.{◌≡◌, ◌∙◌, List, Some, ap, arith, drop, get_or, sym, ℕ}
use Rattle.journal_file.specs.Device.{over}
use Rattle.journal_file.specs.declared.relayed.Owed.{Owed}
use Rattle.journal_file.specs.declared.relayed.Relayed.{Relayed}
use Rattle.hlr_c.specs.Journaled.{told_call}
use Rattle.hlr_c.proofs.OwingLemmas.{get_there, no_fault, told_is}
use Rattle.hlr_c.proofs.owing.tell_owed.Goals as goal
use Rattle.hlr_c.proofs.owing.tell_owed.Goals.{After-slice_known-2-1}

-- the call is the one at the index
there : (c : After-slice_known-2-1) → slice_get c.in-Some.journal.current.tape.device.owed.items c.args.index ≡ Some c.index-owed-index.result
there c =
    let list : List Owed = c.owed-owed.result.now in
    let same : list ≡ c.in-Some.journal.current.tape.device.owed.items = c.owed-owed.ensures ∙ ap (λ (d : Relayed). d.owed.items) c.device.ensures in
    ap (λ (l : List Owed). slice_get l c.args.index) (sym same)
    ∙ get_there list c.args.index c.index-owed-index.result (omega (arith, c.if-index-owed.false))
    ∙ ap (λ (o : Owed). Some o) (sym c.index-owed-index.is)

pub returns : goal.returns
returns c =
    let now = c.args.opened.now in
    let one = c.index-owed-index.result in
    told_is c.args.index c.args.skip c.args.bytes.now c.args.call.now now.lender now.journal c.in-Some.journal one c.copy_behind.new.room c.call_for_c.result
    c.in-Some.is (sym c.fault.ensures ∙ no_fault c.fault.result c.if-is_some.ensures) (there c)
    (c.copy_behind.ensures ∙ ap (λ (l : List ℕ). over 0 (drop c.args.skip l) c.args.bytes.now) c.deref.ensures.value)
    (c.call_for_c.ensures ∙ ap (λ (z : ℤ). told_call z one) (to_z-of_z w32 c.fd.result (record { sfits = c.fd.type_inv }) ∙ c.fd.ensures ∙ ap (λ (d : Relayed). d.fd) c.device-2.ensures))
