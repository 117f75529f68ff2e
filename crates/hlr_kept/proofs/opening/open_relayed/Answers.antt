use Rattle.std.proofs.Common.{◌∙◌, ap, refl}
use Rattle.journal_file.specs.Relayed.{relayed_leaves, relayed_left_since, relayed_moment, relayed_seen}
use Rattle.hlr_owners.specs.Owners.{store_in}
use Rattle.hlr_kept.specs.Rows.{book_of}
use Rattle.hlr_kept.proofs.RestoredLemmas.{held_disk, held_seen, read_ends, read_moments}
use Rattle.hlr_kept.proofs.opening.open_relayed.Goals as goal

pub resume-requires : goal.resume-requires
resume-requires c =
    let file = c.new.result in
    let bytes = c.args.bytes.now in
    let both = c.in_ok-register in
    record {
      ends = read_ends relayed_seen relayed_leaves file file bytes refl (held_seen file bytes c.new.ensures.calls) both.ends both.ensures.ends;
      disk = held_disk file bytes c.new.ensures.calls;
    }

pub returns-in-Ok-clause-rows : goal.returns-in-Ok-clause-rows
returns-in-Ok-clause-rows c =
    let bytes = c.args.bytes.now in
    let file = c.new.result in (
      c.in_ok-register.ensures.rows,
      file,
      c.new.ensures.calls,
      read_moments relayed_seen relayed_moment relayed_left_since file file file c.in-Ok.journal.tape.device bytes refl refl
          (held_seen file bytes c.new.ensures.calls) c.in-Ok.ensures.any_moment,
    )

pub returns-in-Ok-clause-stands : goal.returns-in-Ok-clause-stands
returns-in-Ok-clause-stands c =
    c.in-Ok.ensures.stands (store_in c.in_ok-register.register)
    (ap book_of (held_seen c.new.result c.args.bytes.now c.new.ensures.calls) ∙ c.in_ok-register.ensures.rows)
