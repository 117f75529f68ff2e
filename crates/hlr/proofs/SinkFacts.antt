-- Bytes that a sink took, piece by piece.
use Rattle.hlr.proofs.Common.{◌≡◌, refl, sym, ap, ◌∙◌, ℕ, ◌-◌, List, [], ◌++◌, length, take, drop, Option, Some, None, append_assoc, Bool, true, false, ◌||◌, Result, Ok, Err, IsErrAnd, is_err, false≢true, append-nil, take-append-drop, take_rest, Appends, Keeps, AppendsFront, Begins, Adds, AddsFront, AddsWhole, Outgoing, outgoing, Stalled}

-- nothing was taken yet
pub appends_none : (old : Option (List ℕ)) → Appends old old []
appends_none None = tt
appends_none (Some xs) = sym (append-nil xs)

-- two pieces after each other
pub appends_both : (old mid new : Option (List ℕ)) (a b : List ℕ) → Appends old mid a → Appends mid new b → Appends old new (a ++ b)
appends_both None mid new a b h k = tt
appends_both (Some xs) None new a b h k = absurd h
appends_both (Some xs) (Some ys) None a b h k = k
appends_both (Some xs) (Some ys) (Some zs) a b h k = rw (k, h) (append_assoc xs a b)

-- bytes that stay as they are
pub appends_kept : (old mid new : Option (List ℕ)) (a : List ℕ) → Appends old mid a → Keeps mid new → Appends old new a
appends_kept None mid new a h k = tt
appends_kept (Some xs) None new a h k = absurd h
appends_kept (Some xs) (Some ys) None a h k = k
appends_kept (Some xs) (Some ys) (Some zs) a h k = rw k h

-- a front of the first piece is one of both
pub begins_wider : (front a b : List ℕ) → Begins front a → Begins front (a ++ b)
begins_wider front a b h = record { rest = h.rest ++ b; whole_is = ap (λ w. w ++ b) h.whole_is ∙ append_assoc front h.rest b }

-- the first piece and a front of the second are a front of both
pub begins_after : (a front b : List ℕ) → Begins front b → Begins (a ++ front) (a ++ b)
begins_after a front b h = record { rest = h.rest; whole_is = ap (λ w. a ++ w) h.whole_is ∙ sym (append_assoc a front h.rest) }

-- a list is a front of itself
pub begins_all : (whole : List ℕ) → Begins whole whole
begins_all whole = record { rest = []; whole_is = sym (append-nil whole) }

pub front_wider : (old new : Option (List ℕ)) (a b : List ℕ) → AppendsFront old new a → AppendsFront old new (a ++ b)
front_wider old new a b h = record { front = h.front; begins = begins_wider h.front a b h.begins; grew = h.grew }

pub front_after : (old mid new : Option (List ℕ)) (a b : List ℕ) → Appends old mid a → AppendsFront mid new b → AppendsFront old new (a ++ b)
front_after old mid new a b h k = record { front = a ++ k.front; begins = begins_after a k.front b k.begins; grew = appends_both old mid new a k.front h k.grew }

-- what is left of a piece of which a front was taken
pub record IsLeft (old now : Option (List ℕ)) (piece rest : List ℕ) : Type 0 where
  pub front : List ℕ
  pub whole_is : piece ≡ front ++ rest
  pub grew : Appends old now front

-- the next bytes of what was left are taken
pub left_on : (old mid new : Option (List ℕ)) (n : ℕ) (piece rest : List ℕ) → IsLeft old mid piece rest → Appends mid new (take n rest) → IsLeft old new piece (take (length rest - n) (drop n rest))
left_on old mid new n piece rest h k = record {
  front = h.front ++ take n rest;
  whole_is = rw (take_rest rest n) (h.whole_is ∙ ap (λ r. h.front ++ r) (sym (take-append-drop n rest)) ∙ sym (append_assoc h.front (take n rest) (drop n rest)));
  grew = appends_both old mid new h.front (take n rest) h.grew k;
}

-- what was taken is a front of the piece
pub left_front : (old now : Option (List ℕ)) (piece rest : List ℕ) → IsLeft old now piece rest → AppendsFront old now piece
left_front old now piece rest h = record { front = h.front; begins = record { rest = rest; whole_is = h.whole_is }; grew = h.grew }

-- nothing more was taken
pub left_kept : (old mid new : Option (List ℕ)) (piece rest : List ℕ) → IsLeft old mid piece rest → Keeps mid new → IsLeft old new piece rest
left_kept old mid new piece rest h k = record { front = h.front; whole_is = h.whole_is; grew = appends_kept old mid new h.front h.grew k }

-- a test that is false although a part was added to it was false before
pub or_false_left : (now before part : Bool) → now ≡ (before || part) → now ≡ false → before ≡ false
or_false_left now true part e f = sym e ∙ f
or_false_left now false part e f = refl

-- a line was built on
pub adds_grown : (text page grown : List ℕ) (taken : Option (List ℕ)) → grown ≡ page ++ text → AddsWhole text (outgoing page taken) (outgoing grown taken)
adds_grown text page grown taken is = record { put = []; grew = appends_none taken; all = is }

-- nothing was added
pub adds_none : (h : Outgoing) → AddsWhole [] h h
adds_none h = record { put = []; grew = appends_none h.taken; all = sym (append-nil h.line) }

-- a text was added, and then another one
module _ (a b : List ℕ) (old mid new : Outgoing) (h : AddsWhole a old mid) where
  -- what was put, what the line had then, and the other text
  both_texts : h.put ++ (mid.line ++ b) ≡ old.line ++ (a ++ b)
  both_texts = sym (append_assoc h.put mid.line b) ∙ ap (λ w. w ++ b) h.all ∙ append_assoc old.line a b

  pub adds_both : AddsWhole b mid new → AddsWhole (a ++ b) old new
  adds_both k = record {
    put = h.put ++ k.put;
    grew = appends_both old.taken mid.taken new.taken h.put k.put h.grew k.grew;
    all = append_assoc h.put k.put new.line ∙ ap (λ w. h.put ++ w) k.all ∙ both_texts;
  }

  pub adds_front_after : AddsFront b mid new → AddsFront (a ++ b) old new
  adds_front_after k = rw both_texts at (front_after old.taken mid.taken new.taken h.put (mid.line ++ b) h.grew k)

  pub adds_after : (stalled : Bool) (r : Result (Unit {0}) Stalled) → Adds b mid new stalled r → Adds (a ++ b) old new stalled r
  adds_after stalled (Ok done) k = adds_both k
  adds_after stalled (Err why) k = (adds_front_after k.0, k.1)

-- a front of a text is one of a longer text
pub adds_front_wider : (a b : List ℕ) (old new : Outgoing) → AddsFront a old new → AddsFront (a ++ b) old new
adds_front_wider a b old new h = rw (append_assoc old.line a b) at (front_wider old.taken new.taken (old.line ++ a) b h)

-- a text was added, and then the line was handed on
pub adds_on : (a : List ℕ) (old mid new : Outgoing) (stalled : Bool) (r : Result (Unit {0}) Stalled) → AddsWhole a old mid → Adds [] mid new stalled r → Adds a old new stalled r
adds_on a old mid new stalled r h k = rw (append-nil a) at (adds_after a [] old mid new h stalled r k)

-- the sink took a line, or a front of it
pub handed_on : (items piece left : List ℕ) (old new : Option (List ℕ)) → piece ≡ items → left ≡ [] → Appends old new piece → AddsWhole [] (outgoing items old) (outgoing left new)
handed_on items piece left old new same none took = record { put = items; grew = rw same at took; all = ap (λ w. items ++ w) none }

pub handed_front : (items piece left : List ℕ) (old new : Option (List ℕ)) → piece ≡ items → AppendsFront old new piece → AddsFront [] (outgoing items old) (outgoing left new)
handed_front items piece left old new same took = rw (append-nil items) (rw same at took)

-- a text was added, and then the sink was flushed, or failed in that
module _ (text page : List ℕ) (old : Outgoing) (mid new : Option (List ℕ)) (h : AddsWhole text old (outgoing page mid)) (kept : Keeps mid new) where
  pub adds_flushed : AddsWhole text old (outgoing page new)
  adds_flushed = record { put = h.put; grew = appends_kept old.taken mid new h.put h.grew kept; all = h.all }

  pub adds_unflushed : AddsFront text old (outgoing page new)
  adds_unflushed = record { front = h.put; begins = record { rest = page; whole_is = sym h.all }; grew = appends_kept old.taken mid new h.put h.grew kept }

-- what was added, where it is known how that ended
module _ (text : List ℕ) (old new : Outgoing) (stalled : Bool) where
  pub adds_whole : (r : Result (Unit {0}) Stalled) → is_err r ≡ false → Adds text old new stalled r → AddsWhole text old new
  adds_whole (Ok done) passed put = put
  adds_whole (Err why) passed put = absurd (false≢true (sym passed))

  pub adds_front : (r : Result (Unit {0}) Stalled) → is_err r ≡ true → Adds text old new stalled r → AddsFront text old new × (stalled ≡ true)
  adds_front (Ok done) failed put = absurd (false≢true failed)
  adds_front (Err why) failed put = put

  -- the sink failed in it
  pub adds_failed : (Q : Stalled → Type 0) (r : Result (Unit {0}) Stalled) → IsErrAnd r Q → AddsFront text old new → stalled ≡ true → Adds text old new stalled r
  adds_failed Q (Ok done) failed front told = absurd failed
  adds_failed Q (Err why) failed front told = (front, told)

-- a text was added to an empty line, and the line is empty
pub adds_all : (text : List ℕ) (old new : Outgoing) → old.line ≡ [] → new.line ≡ [] → AddsWhole text old new → Appends old.taken new.taken text
adds_all text old new none empty h =
    let all : h.put ≡ text = sym (append-nil h.put) ∙ ap (λ w. h.put ++ w) (sym empty) ∙ h.all ∙ ap (λ w. w ++ text) none in rw all at h.grew

-- or a front of it was taken
pub adds_begun : (text : List ℕ) (old new : Outgoing) → old.line ≡ [] → AddsFront text old new → AppendsFront old.taken new.taken text
adds_begun text old new none h = rw none at h
