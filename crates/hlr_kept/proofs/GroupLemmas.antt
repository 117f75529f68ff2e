-- Groups of lines.
use Rattle.std.proofs.Common.{◌≡◌, ◌≢◌, ◌∙◌, refl, sym, ap, ℕ, ◌<◌, List, [], ◌∷◌, ◌++◌, append_assoc, arith}
use Rattle.std.proofs.lemmas.List.{append-nil}
use Rattle.std.specs.List.{AllByRecursion}
use Rattle.tatp_rows.proofs.OrderedLemmas.{by_test}
use Rattle.journal.specs.Lines.{lines, lines_from, open_from, HasNoZero}
use Rattle.journal.proofs.LineLemmas.{lines_other, open_other, lines_one_feed, open_one_feed, whole_lines, whole-append}
use Rattle.journal.proofs.TextLemmas.{text_byte, no_zero-append}
use Rattle.edit_lines.proofs.LineLemmas.{plain_line}
use Rattle.hlr_core.specs.declared.order.Answer.{Answer}
use Rattle.hlr_core.specs.declared.order.Order.{Order}
use Rattle.hlr_core.specs.declared.order.Order.TheVariants as order
use Rattle.hlr_kept.specs.Runs.{IsGroup, changed_rows, line_bytes, line_for, lines_of}

-- no byte is a zero or a line feed
abbrev pub IsPlain : List ℕ → Type 0
IsPlain bytes = AllByRecursion (λ byte. 10 < byte) bytes

-- a plain text has no line, and all of it is open
plain_open : (begun bytes : List ℕ) → IsPlain bytes → (lines_from begun bytes ≡ []) × (open_from begun bytes ≡ begun ++ bytes)
plain_open begun [] plain = (refl, sym (append-nil begun))
plain_open begun (byte ∷ bytes) plain =
    let other : byte ≢ 10 = omega (arith, plain.0) in
    let rest = plain_open (begun ++ byte ∷ []) bytes plain.1 in
    (lines_other begun bytes byte other ∙ rest.0, open_other begun bytes byte other ∙ rest.1 ∙ append_assoc begun (byte ∷ []) bytes)

plain_no_zero : (bytes : List ℕ) → IsPlain bytes → HasNoZero bytes
plain_no_zero [] plain = refl
plain_no_zero (byte ∷ bytes) plain =
    let other : byte ≢ 0 = omega (arith, plain.0) in
    text_byte byte bytes other ∙ ap (λ (t : List ℕ). byte ∷ t) (plain_no_zero bytes plain.1)

-- one line
pub one_line : (line : List ℕ) → IsPlain line → IsGroup (line ∷ []) (line ++ 10 ∷ [])
one_line line plain =
    let opened = plain_open [] line plain in
    record {
      lines = lines_one_feed line 10 refl ∙ ap (λ (l : List (List ℕ)). l ++ open_from [] line ∷ []) opened.0 ∙ ap (λ (l : List ℕ). l ∷ []) opened.1;
      no_zero = no_zero-append line (10 ∷ []) (plain_no_zero line plain) refl;
      whole = open_one_feed line 10 refl;
    }

pub group_none : IsGroup [] []
group_none = record { lines = refl; no_zero = refl; whole = refl }

-- one group behind another
pub group-append : (xs ys : List (List ℕ)) (a b : List ℕ) → IsGroup xs a → IsGroup ys b → IsGroup (xs ++ ys) (a ++ b)
group-append xs ys a b one two = record {
  lines = whole_lines a b one.whole ∙ ap (λ (l : List (List ℕ)). l ++ lines b) one.lines ∙ ap (λ (l : List (List ℕ)). xs ++ l) two.lines;
  no_zero = no_zero-append a b one.no_zero two.no_zero;
  whole = whole-append a b one.whole two.whole;
}

-- what is written of one order
plain_order : (one : Order) → IsPlain (line_for one)
plain_order (order.Event event) = plain_line event
plain_order (order.Recut bounds) = tt

pub order_group : (one : Order) (told : Answer) → IsGroup (lines_of (one ∷ []) (told ∷ [])) (line_bytes one told)
order_group one told =
    by_test (changed_rows one told)
    (λ e. rw e (one_line (line_for one) (plain_order one)))
    (λ e. rw e group_none)
