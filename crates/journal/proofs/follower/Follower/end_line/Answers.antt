use Rattle.std.proofs.lemmas.Result.{err_from_is_err_and}
use Rattle.std.proofs.Common.{◌≡◌, ◌≢◌, ◌⊎◌, ⊎_elim, ◌∙◌, [], List, ℕ, refl, subst, inr, arith}
use Rattle.journal.proofs.BegunLemmas.{kept_whole, long_begun, take_none}
use Rattle.journal.proofs.FollowLemmas.{followed_zero, followed_feed}
use Rattle.journal.proofs.RefusedLemmas.{handed_on, refused_feed}
use Rattle.journal.proofs.follower.Follower.end_line.Goals as goal

-- a byte that ends a line and isn't 0 is a line feed
feed : (byte : ℕ) → (byte ≡ 0) ⊎ (byte ≡ 10) → byte ≢ 0 → byte ≡ 10
feed byte end isnt = ⊎_elim (λ zero. absurd (isnt zero)) (λ ten. ten) end

pub returns-then-byte-eq0-clause-follows : goal.returns-then-byte-eq0-clause-follows
returns-then-byte-eq0-clause-follows g c = λ bytes first was. record {
  begun = was.begun;
  read =
      followed_zero g.M.Machine.moves bytes first c.args.machine.now c.args.self.now.ends was.begun c.args.self.now.is_over was.read c.args.byte c.requires.text c.if-byte-eq0.true;
  line = was.line;
}

pub returns-then-len-too_long-clause-refused : goal.returns-then-len-too_long-clause-refused
returns-then-len-too_long-clause-refused g c = λ bytes first was.
    let self = c.args.self.now in
    refused_feed g.M.Machine.moves g.M.Machine.IsBad bytes first c.args.machine.now self.ends was.begun self.is_over _
    was.read c.requires.text c.args.byte (feed c.args.byte c.requires.end c.if-byte-eq0.false) (inr (
      refl,
      g.met.M.Machine.long_is_bad was.begun c.args.machine.now
          (long_begun g.M.Machine.too_long was.begun self.line.items was.line (omega (arith, c.if-len-too_long.true, c.len.ensures, c.too_long.ensures))),
    ))

pub returns-clause-follows : goal.returns-clause-follows
returns-clause-follows g c = λ bytes first was.
    let self = c.args.self.now in
    let moved : g.M.Machine.moves was.begun c.args.machine.now c.apply.new.self =
    subst (λ (l : List ℕ). g.M.Machine.moves l c.args.machine.now c.apply.new.self) (c.deref.ensures.value ∙ kept_whole g.M.Machine.too_long was.begun self.line.items was.line (omega (arith, c.if-len-too_long.false, c.len.ensures, c.too_long.ensures))) c.in_ok-apply.ensures.moves in
    record {
      begun = [];
      read =
          followed_feed g.M.Machine.moves bytes first c.args.machine.now self.ends was.begun self.is_over was.read c.args.byte c.requires.text c.if-byte-eq0.false
          [] refl (feed c.args.byte c.requires.end c.if-byte-eq0.false) c.apply.new.self moved;
      line = rw c.clear.ensures.items (take_none g.M.Machine.too_long);
    }

pub returns-in_err-apply-clause-refused : goal.returns-in_err-apply-clause-refused
returns-in_err-apply-clause-refused g c =
    let passed = err_from_is_err_and c.from_residual.result c.from_residual.ensures.1 in
    let self = c.args.self.now in
    handed_on c.from_residual.result _ passed.0 c.in_err-apply.field-0.0 passed.1 passed.2
    (λ bytes first was.
    refused_feed g.M.Machine.moves g.M.Machine.IsBad bytes first c.args.machine.now self.ends was.begun self.is_over c.in_err-apply.field-0.0
    was.read c.requires.text c.args.byte (feed c.args.byte c.requires.end c.if-byte-eq0.false)
    (rw (← (c.deref.ensures.value ∙ kept_whole g.M.Machine.too_long was.begun self.line.items was.line (omega (arith, c.if-len-too_long.false, c.len.ensures, c.too_long.ensures)))) c.in_err-apply.ensures.refused))
