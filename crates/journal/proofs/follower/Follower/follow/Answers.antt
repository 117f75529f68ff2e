use Rattle.std.proofs.lemmas.Result.{err_from_is_err_and}
use Rattle.std.proofs.Common.{◌≡◌, ◌+◌, ◌-◌, ◌++◌, List, ℕ, take, drop, length, sym, ap, ◌∙◌, arith, append_assoc, length-drop, take-add, take-append-drop}
use Rattle.std.proofs.lemmas.List.{take_all}
use Rattle.journal.proofs.RefusedLemmas.{handed_on}
use Rattle.journal.proofs.follower.Follower.follow.Goals as goal

pub loop-at-preserved : goal.loop-at-preserved
loop-at-preserved g c =
    let piece = c.args.piece.now in
    let at = c.loop-at.at in
    let n = c.in_ok-at.field-0 in
    let size = length-drop at piece in
    let rest : take (length piece - at) (drop at piece) ≡ drop at piece = take_all (length piece - at) (drop at piece) (omega (arith, size)) in
    let more : take (at + n) piece ≡ take at piece ++ take n (take (length piece - at) (drop at piece)) =
    take-add at n piece ∙ ap (λ (l : List ℕ). take at piece ++ take n l) (sym rest) in
    record {
      ready = c.in_ok-at.ensures.ready;
      order = c.in_ok-at.ensures.order;
      within = omega (arith, c.in_ok-at.ensures.within, ap length rest, size, c.loop-at.invariant.within);
      count = omega (arith, c.in_ok-at.ensures.len, c.loop-at.invariant.count);
      follows = λ bytes first was.
          rw (more, sym (append_assoc bytes (take at piece) (take n (take (length piece - at) (drop at piece)))))
          (c.in_ok-at.ensures.follows (bytes ++ take at piece) first (c.loop-at.invariant.follows bytes first was));
    }

pub returns-in_err-at-clause-refused : goal.returns-in_err-at-clause-refused
returns-in_err-at-clause-refused g c =
    let passed = err_from_is_err_and c.from_residual.result c.from_residual.ensures.1 in
    let piece = c.args.piece.now in
    let at = c.loop-at.at in
    let rest : take (length piece - at) (drop at piece) ≡ drop at piece = take_all (length piece - at) (drop at piece) (omega (arith, length-drop at piece)) in
    handed_on c.from_residual.result _ passed.0 c.in_err-at.field-0.0 passed.1 passed.2
    (λ bytes first was.
    let whole : (bytes ++ take at piece) ++ take (length piece - at) (drop at piece) ≡ bytes ++ piece =
    append_assoc bytes (take at piece) (take (length piece - at) (drop at piece))
    ∙ ap (λ (l : List ℕ). bytes ++ (take at piece ++ l)) rest ∙ ap (λ (l : List ℕ). bytes ++ l) (take-append-drop at piece) in
    rw (← whole) (c.in_err-at.ensures.refused (bytes ++ take at piece) first (c.loop-at.invariant.follows bytes first was)))
