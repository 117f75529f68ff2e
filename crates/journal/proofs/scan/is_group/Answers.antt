use Rattle.std.proofs.Common.{◌≡◌, ◌+◌, ◌++◌, [], ◌∷◌, get_or, take, subst, sym, arith}
use Rattle.std.proofs.Math.Seq.{split_at}
use Rattle.std.proofs.lemmas.List.{take_more}
use Rattle.std.proofs.lemmas.Bool.Decides.{nat_tests}
use Rattle.journal.specs.Lines.{HasNoZero, IsWhole}
use Rattle.journal.proofs.LineLemmas.{open_one_feed, whole_ends}
use Rattle.journal.proofs.TextLemmas.{text_byte, no_zero-append, zero_is_told}
use Rattle.journal.proofs.scan.is_group.Goals as goal

pub loop-byte-preserved : goal.loop-byte-preserved
loop-byte-preserved c =
    let bytes = c.args.bytes.now in
    let i = c.loop-byte.byte-index in
    let byte = get_or bytes i 0 in
    let more : take (i + 1) bytes ≡ take i bytes ++ byte ∷ [] = take_more bytes i 0 c.loop-byte-test.true in
    record {
      none = subst HasNoZero (sym more) (no_zero-append (take i bytes) (byte ∷ []) c.loop-byte.invariant.none (text_byte byte [] c.if-byte-eq0.false));
      whole = λ is. subst IsWhole (sym more) (open_one_feed (take i bytes) byte (grind (arith, nat_tests, is)));
      all = λ whole. whole_ends (take i bytes) byte (subst IsWhole more whole);
    }

pub returns-then-byte-eq0-clause-all : goal.returns-then-byte-eq0-clause-all
returns-then-byte-eq0-clause-all c = λ none whole.
    let bytes = c.args.bytes.now in
    let i = c.loop-byte.byte-index in
    let split = split_at bytes i 0 c.loop-byte-test.true in
    absurd (zero_is_told (take i bytes) _ (get_or bytes i 0) c.loop-byte.invariant.none c.if-byte-eq0.true (subst HasNoZero split none))
