use Rattle.hlr_core.proofs.Common.{◌≡◌, ◌∙◌, refl, sym, err_from_is_err_and, between_ok, LAST_SUBSCRIBER, done_reply, edited_reply}
use Rattle.tatp_rows.specs.declared.refusal.Refusal.TheVariants as refusal
use Rattle.tatp_actions.specs.declared.action.Action.TheVariants as action
use Rattle.hlr_core.specs.declared.event.Event.TheVariants as event
use Rattle.hlr_core.specs.declared.event.Reply.TheVariants as reply
use Rattle.hlr_core.proofs.WhileOutLemmas.{moving_while_out, unnumbered_while_out, unrenamed_while_out, renamed_while_out, own_step}
use Rattle.hlr_core.proofs.HomeLemmas.{homes_edited, homes_kept}
use Rattle.hlr_core.proofs.RegisterLemmas.{edited_is, outcome_of_answer}
use Rattle.hlr_core.proofs.RenamedLemmas.{renaming_in_range, renamed_registered}
use Rattle.hlr_core.proofs.register.Register.set_number.Goals as goal

pub returns-in_err-old : goal.returns-in_err-old
returns-in_err-old c =
    let p = err_from_is_err_and c.from_residual-in_err-old.result c.from_residual-in_err-old.ensures.1 in
    let fits = between_ok 1 LAST_SUBSCRIBER c.args.s_id c.in_ok-s_id.s_id c.in_ok-s_id.ensures in
    let moving = c.in_err-old.ensures.moving in
    let why : c.in_err-old.field-0.0 ≡ refusal.Moving = let is = moving.0 in cc in
    let right = moving_while_out (action.SetNumber c.in_ok-s_id.s_id c.args.sub_nbr) c.self.inside.owners moving.1 in
    rw (p.1, p.2, why, ← c.self.view_is) (record {
      step = own_step (event.SetNumber c.args.s_id c.args.sub_nbr) c.self.inside.owners c.self.inside.owners (reply.Refused refusal.Moving) refl (rw (fits.1, ← fits.0) right);
      homes = homes_kept c.self.inside.owners;
      while_out = rw (fits.1, ← fits.0) right;
    })

pub returns-in_default : goal.returns-in_default
returns-in_default c =
    let fits = between_ok 1 LAST_SUBSCRIBER c.args.s_id c.in_ok-s_id.s_id c.in_ok-s_id.ensures in
    let right = unnumbered_while_out c.self.inside.owners c.in_ok-s_id.s_id c.args.sub_nbr c.in_ok-old.ensures.home (sym c.in_default.is ∙ c.in_ok-old.ensures.number) in
    rw (← c.self.view_is) (record {
      step = own_step (event.SetNumber c.args.s_id c.args.sub_nbr) c.self.inside.owners c.self.inside.owners (reply.Refused refusal.NoSubscriber) refl (rw (fits.1, ← fits.0) right);
      homes = homes_kept c.self.inside.owners;
      while_out = rw (fits.1, ← fits.0) right;
    })

pub returns-in_err-rename : goal.returns-in_err-rename
returns-in_err-rename c =
    let p = err_from_is_err_and c.from_residual-in_err-rename.result c.from_residual-in_err-rename.ensures.1 in
    let fits = between_ok 1 LAST_SUBSCRIBER c.args.s_id c.in_ok-s_id.s_id c.in_ok-s_id.ensures in
    let right =
    unrenamed_while_out c.self.inside.owners c.in_ok-s_id.s_id c.args.sub_nbr c.in_ok-old.ensures.home c.rules.ensures.ruled c.self.inside.index c.self.invariant c.in-Some.old (sym c.in-Some.is ∙ c.in_ok-old.ensures.number)
    c.rename.new.self c.in_err-rename.field-0.0 c.in_err-rename.ensures.renamed in
    rw (p.1, p.2, ← c.self.view_is) (record {
      step = own_step (event.SetNumber c.args.s_id c.args.sub_nbr) c.self.inside.owners c.self.inside.owners (reply.Refused c.in_err-rename.field-0.0) refl (rw (fits.1, ← fits.0) right);
      homes = homes_kept c.self.inside.owners;
      while_out = rw (fits.1, ← fits.0) right;
    })

pub invariant_of-self-2 : goal.invariant_of-self-2
invariant_of-self-2 c =
    let fits = between_ok 1 LAST_SUBSCRIBER c.args.s_id c.in_ok-s_id.s_id c.in_ok-s_id.ensures in
    let home = c.in_ok-old.ensures.home in
    let in_range = renaming_in_range c.in_ok-s_id.s_id c.args.sub_nbr c.value-value.result (rw (fits.0) fits.1) c.value-value.ensures.value c.value-value.ensures.in_range in
    renamed_registered c.in_ok-s_id.s_id c.in-Some.old c.args.sub_nbr _ _ _ _ _ c.self.invariant c.edit_in.ensures.rows (sym c.in-Some.is ∙ c.in_ok-old.ensures.number) c.in_ok-rename.ensures.renamed in_range (outcome_of_answer _ _ _ _ _ home c.edit_in.ensures.answer)

pub returns : goal.returns
returns c =
    let fits = between_ok 1 LAST_SUBSCRIBER c.args.s_id c.in_ok-s_id.s_id c.in_ok-s_id.ensures in
    let in_range = renaming_in_range c.in_ok-s_id.s_id c.args.sub_nbr c.value-value.result (rw (fits.0) fits.1) c.value-value.ensures.value c.value-value.ensures.in_range in
    let right =
    renamed_while_out c.self.inside.owners c.in_ok-s_id.s_id c.args.sub_nbr c.in_ok-old.ensures.home c.rules.ensures.ruled c.self.inside.index c.self.invariant c.in-Some.old (sym c.in-Some.is ∙ c.in_ok-old.ensures.number)
    c.rename.new.self c.edit_in.new.self (done_reply c.edit_in.result) (edited_reply c.edit_in.result) c.in_ok-rename.ensures.renamed in_range c.edit_in.ensures.while_out (edited_is c.edit_in.result) in
    rw (← c.self.view_is) (record {
      step = own_step (event.SetNumber c.args.s_id c.args.sub_nbr) c.self.inside.owners c.edit_in.new.self (edited_reply c.edit_in.result) c.edit_in.ensures.outs (rw (fits.1, ← fits.0) right);
      homes = homes_edited c.self.inside.owners c.edit_in.new.self c.edit_in.ensures.homes c.edit_in.ensures.outs c.edit_in.ensures.same;
      while_out = rw (fits.1, ← fits.0) right;
    })
