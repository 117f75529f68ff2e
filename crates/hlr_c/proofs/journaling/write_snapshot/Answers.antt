use mir.Syntax.{w32}
use Rattle.std.specs.Prelude.{ℤ, replicate}
use Rattle.std.proofs.lemmas.Int.{to_z-of_z}
use Rattle.hlr_c.proofs.Common.{◌≡◌, ◌∙◌, Option, Some, ap, refl, subst, sym, FileJournal, IsJournaled, OwnersState}
use Rattle.hlr_owners.specs.Owners.{book_in}
use Rattle.journal_file.specs.Owner.{owner_of_held}
use Rattle.journal_file.specs.Relayed.{relayed_leaves, relayed_owner, relayed_seen}
use Rattle.hlr_kept.specs.Keeping.{StandsFor}
use Rattle.hlr_c.specs.Journaled.{current_of}
use Rattle.hlr_c.proofs.JournaledLemmas.{snapshot_journaled, snapshot_of}
use Rattle.hlr_c.proofs.journaling.write_snapshot.Goals as goal
use Rattle.hlr_c.proofs.journaling.write_snapshot.Goals.{Joined-opened}

-- the new journal, with that of before
same : (c : Joined-opened) → c.beside_old.result ≡ record { current = c.in_ok-current.current; before = current_of c.args.opened.now.journal }
same c =
    c.beside_old.ensures ∙ ap (λ (o : Option FileJournal). let one : FileJournal = record { current = c.in_ok-current.current; before = current_of o } in one) c.take-old.ensures.value

-- it stands for the rows
stands : (c : Joined-opened) → StandsFor relayed_seen relayed_leaves (book_in c.args.opened.now.lender.owners) c.in_ok-current.current
stands c =
    subst (λ (r : OwnersState). StandsFor relayed_seen relayed_leaves (book_in r.owners) c.in_ok-current.current) c.register.ensures.value c.in_ok-current.ensures.stands

pub returns-clause-ok : goal.returns-clause-ok
returns-clause-ok c = (
  c.beside_old.result,
  refl,
  snapshot_of c.args.fd c.args.opened.now.lender c.args.opened.now.journal c.in_ok-current.current c.beside_old.result (same c)
      (subst (λ (f : ℤ). relayed_owner c.in_ok-current.current.tape.device ≡ owner_of_held f (replicate 65536 0)) (to_z-of_z w32 c.args.fd c.ranges.fd) c.in_ok-current.ensures.owner) c.in_ok-current.ensures.settled (stands c),
)

pub returns-clause-journaled : goal.returns-clause-journaled
returns-clause-journaled c =
    subst (λ (j : FileJournal). IsJournaled c.args.opened.now.lender (Some j)) (sym (same c))
    (snapshot_journaled c.args.opened.now.lender c.args.opened.now.journal c.in_ok-current.current c.requires.home c.requires.journaled c.in_ok-current.ensures.settled (stands c))
