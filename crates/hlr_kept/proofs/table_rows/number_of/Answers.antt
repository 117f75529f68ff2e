use Rattle.std.proofs.Common.{◌≡◌, ◌∙◌, ap, ℕ, Some, None}
use Rattle.tatp_rows.specs.Rows.{SubscriberRow}
use Rattle.tatp_actions.specs.Book.{first_subscriber}
use Rattle.hlr_owners.specs.Owners.{book_in}
use Rattle.hlr_kept.proofs.RuleLemmas.{first_number}
use Rattle.hlr_kept.proofs.table_rows.number_of.Goals as goal

pub returns-in-Some : goal.returns-in-Some
returns-in-Some c =
    let rows = (book_in c.args.register.now.owners).subscribers in
    let first = first_number c.args.s_id rows (Some c.in-Some.row) c.requires.ordered c.requires.known (c.in-Some.ensures ∙ ap (λ (s : ℕ). first_subscriber s rows) c.from.ensures) in
    let one : Some c.in-Some.row ≡ Some first.0 = first.1 in
    let same : c.in-Some.row ≡ first.0 = cc in
    c.sub_nbr.ensures ∙ ap (λ (row : SubscriberRow). row.sub_nbr) same ∙ first.2

pub returns-in-None : goal.returns-in-None
returns-in-None c =
    let rows = (book_in c.args.register.now.owners).subscribers in
    let first = first_number c.args.s_id rows None c.requires.ordered c.requires.known (c.in-None.ensures ∙ ap (λ (s : ℕ). first_subscriber s rows) c.from.ensures) in
    let clash : None ≡ Some first.0 = first.1 in
    absurd cc
