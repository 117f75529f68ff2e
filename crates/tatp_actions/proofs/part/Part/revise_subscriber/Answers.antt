use Rattle.tatp_actions.proofs.Common.{is_some, ap, ◌∙◌, subscriber_at, stored_book}
use Rattle.tatp_actions.proofs.RevisedLemmas.{spent_found, subscriber_there, subscriber_is, subscriber_holds}
use Rattle.tatp_actions.proofs.part.Part.revise_subscriber.Goals as goal

pub invariant_of-self : goal.invariant_of-self
invariant_of-self g c = subscriber_holds _ _ _ _ _ _ _ _ _ c.args.s_id _ c.subscriber_key.ensures c.self.invariant c.requires c.revise_s.ensures.rows

pub returns-clause-found : goal.returns-clause-found
returns-clause-found g c =
    rw (← c.self.view_is) (c.revise_s.ensures.found ∙ ap is_some (subscriber_there (g.R.Rows.tables c.self.inside.rows) c.subscriber_key.result c.args.s_id c.self.invariant.1 c.subscriber_key.ensures))

pub returns-clause-spent : goal.returns-clause-spent
returns-clause-spent g c =
    let tables = g.R.Rows.tables c.self.inside.rows in
    rw (← c.self.view_is)
    (spent_found c.subscriber_key.result g.E.Revise.spent c.args.revision.now c.revise_s.new.revision tables.subscribers (subscriber_at (stored_book tables) c.args.s_id)
    (subscriber_there tables c.subscriber_key.result c.args.s_id c.self.invariant.1 c.subscriber_key.ensures) c.revise_s.ensures.spent)

pub returns-clause-kept : goal.returns-clause-kept
returns-clause-kept g c = rw (← c.self.view_is) (subscriber_is _ _ _ _ _ _ _ _ _ c.args.s_id _ c.subscriber_key.ensures c.self.invariant c.requires c.revise_s.ensures.rows)
