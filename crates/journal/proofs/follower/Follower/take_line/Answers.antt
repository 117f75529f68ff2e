use Rattle.std.proofs.lemmas.Result.{err_from_is_err_and}
use Rattle.std.proofs.Common.{◌≡◌, ◌<◌, ◌+◌, ◌++◌, ◌∙◌, [], ◌∷◌, List, ℕ, length, take, drop, sym, ap, subst, arith, append_assoc, take-append-drop, get_or}
use Rattle.std.proofs.lemmas.List.{take_all, take_more}
use Rattle.std.specs.List.{AllByRecursion}
use Rattle.journal.specs.Inside.{IsInner}
use Rattle.journal.proofs.FollowLemmas.{followed_begun, followed_over}
use Rattle.journal.proofs.RefusedLemmas.{handed_on, refused_more}
use Rattle.journal.proofs.follower.Follower.take_line.Goals as goal

-- bytes of two parts, behind others
joined : (read bytes front rest : List ℕ) → bytes ≡ front ++ rest → read ++ bytes ≡ (read ++ front) ++ rest
joined read bytes front rest is = ap (λ (l : List ℕ). read ++ l) is ∙ sym (append_assoc read front rest)

pub returns-then-self-clause-follows : goal.returns-then-self-clause-follows
returns-then-self-clause-follows g c = λ read first was.
    let bytes = c.args.bytes.now in
    let self = c.args.self.now in
    rw (take_all (length bytes) bytes (omega arith)) (record {
      begun = was.begun;
      read = followed_over g.M.Machine.moves read first c.args.machine.now self.ends was.begun self.is_over was.read bytes c.if-self.true;
      line = was.line;
    })

pub returns-then-n-bytes-clause-follows : goal.returns-then-n-bytes-clause-follows
returns-then-n-bytes-clause-follows g c = λ read first was.
    let bytes = c.args.bytes.now in
    let self = c.args.self.now in
    let n = c.inner-n.result in
    let begun = c.in_ok-begin_line.ensures in
    let all : take n bytes ≡ bytes = take_all n bytes (omega (arith, c.if-n-bytes.true)) in
    rw all
    (followed_begun g.M.Machine.moves g.M.Machine.too_long read bytes first c.args.machine.now self c.begin_line.new.self was
    c.if-self.false (subst (AllByRecursion IsInner) all c.inner-n.ensures.inner) (rw (← c.too_long.ensures) begun.line) begun.whole begun.text begun.len begun.over)

pub returns-then-is_empty-clause-follows : goal.returns-then-is_empty-clause-follows
returns-then-is_empty-clause-follows g c = λ read first was.
    let bytes = c.args.bytes.now in
    let n = c.inner-n.result in
    let below : n < length bytes = omega (arith, c.if-n-bytes.false, c.inner-n.ensures.within) in
    let feed : get_or bytes n 0 ≡ 10 = omega (arith, c.if-bytes-n-eq10.true) in
    rw (take_more bytes n 0 below, feed, sym (append_assoc read (take n bytes) (10 ∷ []))) (c.in_ok-do_line.ensures.follows read first was)

pub returns-clause-follows : goal.returns-clause-follows
returns-clause-follows g c = λ read first was.
    let bytes = c.args.bytes.now in
    let self = c.args.self.now in
    let n = c.inner-n.result in
    let begun = c.in_ok-begin_line-2.ensures in
    let below : n < length bytes = omega (arith, c.if-n-bytes.false, c.inner-n.ensures.within) in
    rw (take_more bytes n 0 below, sym (append_assoc read (take n bytes) (get_or bytes n 0 ∷ [])))
    (c.in_ok-end_line.ensures.follows (read ++ take n bytes) first
    (followed_begun g.M.Machine.moves g.M.Machine.too_long read (take n bytes) first c.args.machine.now self c.begin_line-2.new.self was
    c.if-self.false c.inner-n.ensures.inner (rw (← c.too_long-2.ensures) begun.line) begun.whole begun.text begun.len begun.over))

pub returns-in_err-do_line-clause-refused : goal.returns-in_err-do_line-clause-refused
returns-in_err-do_line-clause-refused g c =
    let passed = err_from_is_err_and c.from_residual-in_err-do_line.result c.from_residual-in_err-do_line.ensures.1 in
    let bytes = c.args.bytes.now in
    let n = c.inner-n.result in
    let below : n < length bytes = omega (arith, c.if-n-bytes.false, c.inner-n.ensures.within) in
    let feed : get_or bytes n 0 ≡ 10 = omega (arith, c.if-bytes-n-eq10.true) in
    let whole : bytes ≡ (take n bytes ++ 10 ∷ []) ++ drop (n + 1) bytes =
    sym (take-append-drop (n + 1) bytes) ∙ ap (λ (l : List ℕ). l ++ drop (n + 1) bytes) (take_more bytes n 0 below ∙ ap (λ (b : ℕ). take n bytes ++ b ∷ []) feed) in
    handed_on c.from_residual-in_err-do_line.result _ passed.0 c.in_err-do_line.field-0.0 passed.1 passed.2
    (λ read first was.
    refused_more g.M.Machine.moves g.M.Machine.IsBad (read ++ bytes) (read ++ take n bytes ++ 10 ∷ []) (drop (n + 1) bytes) first c.in_err-do_line.field-0.0
    (joined read bytes (take n bytes ++ 10 ∷ []) (drop (n + 1) bytes) whole
    ∙ ap (λ (l : List ℕ). l ++ drop (n + 1) bytes) (sym (append_assoc read (take n bytes) (10 ∷ []))))
    (c.in_err-do_line.ensures.refused read first was))

pub returns-in_err-end_line-clause-refused : goal.returns-in_err-end_line-clause-refused
returns-in_err-end_line-clause-refused g c =
    let passed = err_from_is_err_and c.from_residual-in_err-end_line.result c.from_residual-in_err-end_line.ensures.1 in
    let bytes = c.args.bytes.now in
    let self = c.args.self.now in
    let n = c.inner-n.result in
    let begun = c.in_ok-begin_line-2.ensures in
    let below : n < length bytes = omega (arith, c.if-n-bytes.false, c.inner-n.ensures.within) in
    let byte = get_or bytes n 0 in
    let whole : bytes ≡ (take n bytes ++ byte ∷ []) ++ drop (n + 1) bytes =
    sym (take-append-drop (n + 1) bytes) ∙ ap (λ (l : List ℕ). l ++ drop (n + 1) bytes) (take_more bytes n 0 below) in
    handed_on c.from_residual-in_err-end_line.result _ passed.0 c.in_err-end_line.field-0.0 passed.1 passed.2
    (λ read first was.
    refused_more g.M.Machine.moves g.M.Machine.IsBad (read ++ bytes) ((read ++ take n bytes) ++ byte ∷ []) (drop (n + 1) bytes) first c.in_err-end_line.field-0.0
    (joined read bytes (take n bytes ++ byte ∷ []) (drop (n + 1) bytes) whole
    ∙ ap (λ (l : List ℕ). l ++ drop (n + 1) bytes) (sym (append_assoc read (take n bytes) (byte ∷ []))))
    (c.in_err-end_line.ensures.refused (read ++ take n bytes) first
    (followed_begun g.M.Machine.moves g.M.Machine.too_long read (take n bytes) first c.args.machine.now self c.begin_line-2.new.self was
    c.if-self.false c.inner-n.ensures.inner (rw (← c.too_long-2.ensures) begun.line) begun.whole begun.text begun.len begun.over)))
