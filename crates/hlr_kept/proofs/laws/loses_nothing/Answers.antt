use Rattle.std.proofs.Common.{◌≡◌, ◌∙◌, sym, ap, take}
use Rattle.std.specs.Prelude.{pos, ◌+ℤ◌, ℤ}
use Rattle.tatp_actions.specs.Book.{Book}
use Rattle.tatp_actions.specs.Cell.{cell}
use Rattle.hlr_owners.specs.Owners.{book_in, store_in}
use Rattle.hlr_owners.specs.Store.{published}
use Rattle.hlr_kept.proofs.laws.loses_nothing.Goals as goal

pub returns : goal.returns
returns c = λ stored orders answers file stands rows.
    let register = c.args.register.now in
    let both = sym stands.rows ∙ rows in
    let same : stands.after.book ≡ book_in register.owners = cc in
    record {
      count = stands.count;
      within = stands.within;
      answers = take stands.count answers;
      after = stands.after;
      run = stands.run;
      rows = sym same;
      cells = λ k below.
          ap (λ (u : ℤ). published (store_in register) k +ℤ u) (sym (c.unposted.ensures.pending k below))
          ∙ c.unposted.ensures.counted k below ∙ ap (λ (b : Book). pos (cell register.width k b)) (sym same);
    }
