use Rattle.std.proofs.Common.{refl, sym, ap, ◌∙◌, inr}
use Rattle.part_table.specs.Regions.{pieces_of}
use Rattle.tatp_rows.proofs.RowLemmas.{both}
use Rattle.hlr_owners.specs.Owners.{book_in, store_in}
use Rattle.hlr_core.proofs.HomeLemmas.{home_to_all}
use Rattle.hlr_kept.specs.Rows.{book_after_read}
use Rattle.hlr_kept.proofs.EventLemmas.{done_step, not_again, other_rows, same_regions}
use Rattle.hlr_kept.proofs.restoring.redo.Goals as goal

pub apply-reply-requires : goal.apply-reply-requires
apply-reply-requires c = home_to_all c.in-Ok.event c.args.register.now c.requires.home

pub returns-then-tells_done-clause-pieces : goal.returns-then-tells_done-clause-pieces
returns-then-tells_done-clause-pieces c =
    ap pieces_of (same_regions c.in-Ok.event (store_in c.args.register.now) (store_in c.apply-reply.new.self) c.apply-reply.result (both _ _ c.in-Ok.ensures.read.0).0 c.apply-reply.ensures.step) ∙ c.requires.pieces

pub returns-then-tells_done-clause-done : goal.returns-then-tells_done-clause-done
returns-then-tells_done-clause-done c = λ none.
    ap (λ read. book_after_read read (book_in c.args.register.now.owners)) (sym c.in-Ok.ensures.exact)
    ∙ done_step c.in-Ok.event (store_in c.args.register.now) (store_in c.apply-reply.new.self) c.apply-reply.result (sym c.tells_done.ensures ∙ c.if-tells_done.true) c.apply-reply.ensures.step

pub returns-then-wants_memory-clause-pieces : goal.returns-then-wants_memory-clause-pieces
returns-then-wants_memory-clause-pieces c =
    ap pieces_of (same_regions c.in-Ok.event (store_in c.args.register.now) (store_in c.apply-reply.new.self) c.apply-reply.result (both _ _ c.in-Ok.ensures.read.0).0 c.apply-reply.ensures.step) ∙ c.requires.pieces

pub returns-clause-pieces : goal.returns-clause-pieces
returns-clause-pieces c =
    ap pieces_of (same_regions c.in-Ok.event (store_in c.args.register.now) (store_in c.apply-reply.new.self) c.apply-reply.result (both _ _ c.in-Ok.ensures.read.0).0 c.apply-reply.ensures.step) ∙ c.requires.pieces

pub returns-clause-refused : goal.returns-clause-refused
returns-clause-refused c =
    inr (
      refl,
      ap (λ read. book_after_read read (book_in c.args.register.now.owners)) (sym c.in-Ok.ensures.exact)
          ∙ not_again c.in-Ok.event (store_in c.args.register.now) (store_in c.apply-reply.new.self) c.apply-reply.result (both _ _ c.in-Ok.ensures.read.0).0 c.requires.pieces
          (sym c.tells_done.ensures ∙ c.if-tells_done.false) (sym c.wants_memory.ensures ∙ c.if-wants_memory.false) c.apply-reply.ensures.step,
    )

pub returns-then-tells_done-clause-stays : goal.returns-then-tells_done-clause-stays
returns-then-tells_done-clause-stays c = other_rows c.in-Ok.event (store_in c.args.register.now) (store_in c.apply-reply.new.self) c.apply-reply.result (both _ _ c.in-Ok.ensures.read.0).0 c.apply-reply.ensures.step

pub returns-then-wants_memory-clause-stays : goal.returns-then-wants_memory-clause-stays
returns-then-wants_memory-clause-stays c = other_rows c.in-Ok.event (store_in c.args.register.now) (store_in c.apply-reply.new.self) c.apply-reply.result (both _ _ c.in-Ok.ensures.read.0).0 c.apply-reply.ensures.step

pub returns-clause-stays : goal.returns-clause-stays
returns-clause-stays c = other_rows c.in-Ok.event (store_in c.args.register.now) (store_in c.apply-reply.new.self) c.apply-reply.result (both _ _ c.in-Ok.ensures.read.0).0 c.apply-reply.ensures.step
