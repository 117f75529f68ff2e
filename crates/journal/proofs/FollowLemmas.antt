-- More bytes of a file are read.
use Rattle.std.proofs.Common.{◌≡◌, ◌≢◌, Bool, true, false, ℕ, ◌+◌, ◌≤◌, List, [], ◌∷◌, ◌++◌, length, take, refl, sym, ◌∙◌, ap, subst, arith, append_assoc, length-append}
use Rattle.std.proofs.lemmas.List.{append-nil, take_all, take-append-le}
use Rattle.std.specs.List.{AllByRecursion}
use Rattle.journal.specs.Inside.{HasRead, IsFollowed, IsInner}
use Rattle.journal.specs.Lines.{text, lines, open_from, HasFence, IsWhole, recovered}
use Rattle.journal.specs.Machine.{Runs}
use Rattle.journal.specs.declared.follower.Follower.{Follower}
use Rattle.journal.specs.declared.tape.Ends.{Ends}
use Rattle.journal.proofs.BegunLemmas.{kept_more, take_none}
use Rattle.journal.proofs.LineLemmas.{lines_one_feed, lines_one_other, open_one_feed, open_one_other}
use Rattle.journal.proofs.RunLemmas.{runs-append}
use Rattle.journal.proofs.TextLemmas.{text_zero, text_byte, text-append, text_fenced, length-text, no_zero-append}

module _ {M : Type 0} (moves : List ℕ → M → M → Type 0) (bytes : List ℕ) (first now : M) (at : Ends) (line : List ℕ) (is_over : Bool) (was : HasRead moves bytes first now at line is_over) where
  within : at.whole ≤ length bytes
  within = omega (arith, was.ends.order, was.ends.at_text, length-text bytes)

  -- the text ended in front of these bytes
  ended : (more : List ℕ) (over : Bool) → over ≡ true → text (bytes ++ more) ≡ text bytes → HasFence (bytes ++ more)
      → HasRead moves (bytes ++ more) first now (record { whole = at.whole; text = at.text; len = at.len + length more }) line over
  ended more over is same fence =
      let front : take at.whole (bytes ++ more) ≡ take at.whole bytes = take-append-le at.whole bytes more within in
      record {
        ends = record {
          order = was.ends.order;
          at_text = was.ends.at_text ∙ ap length (sym same);
          at_end = omega (arith, was.ends.at_end, length-append bytes more);
          same = ap lines front ∙ was.ends.same ∙ ap lines (sym same);
          is_whole = subst IsWhole (sym front) was.ends.is_whole;
        };
        begun = was.begun ∙ ap (λ (l : List ℕ). open_from [] l) (sym same);
        over = λ _. fence;
        none = λ isnt. absurd (cc (is, isnt));
        run = subst (λ (l : List (List ℕ)). Runs moves l first now) (ap lines (sym same)) was.run;
      }

  pub followed_over : (more : List ℕ) → is_over ≡ true
      → HasRead moves (bytes ++ more) first now (record { whole = at.whole; text = at.text; len = at.len + length more }) line is_over
  followed_over more is =
      let same = text_fenced bytes more (was.over is) in
      ended more is_over is same (omega (arith, was.over is, ap length same, length-append bytes more))

  pub followed_zero : (byte : ℕ) → is_over ≡ false → byte ≡ 0
      → HasRead moves (bytes ++ byte ∷ []) first now (record { whole = at.whole; text = at.text; len = at.len + 1 }) line true
  followed_zero byte isnt is =
      let all : text bytes ≡ bytes = was.none isnt in
      let same : text (bytes ++ byte ∷ []) ≡ text bytes =
      text-append bytes (byte ∷ []) all ∙ ap (λ (l : List ℕ). bytes ++ l) (text_zero byte [] is) ∙ append-nil bytes ∙ sym all in
      ended (byte ∷ []) true refl same (omega (arith, ap length same, ap length all, length-append bytes (byte ∷ [])))

  -- the text continues
  module _ (byte : ℕ) (isnt : is_over ≡ false) (isnt_zero : byte ≢ 0) where
    long : length (bytes ++ byte ∷ []) ≡ length bytes + 1
    long = length-append bytes (byte ∷ [])

    front : take at.whole (bytes ++ byte ∷ []) ≡ take at.whole bytes
    front = take-append-le at.whole bytes (byte ∷ []) within

    all : text bytes ≡ bytes
    all = was.none isnt

    goes_on : text (bytes ++ byte ∷ []) ≡ bytes ++ byte ∷ []
    goes_on = no_zero-append bytes (byte ∷ []) all (text_byte byte [] isnt_zero)

    text_long : at.text + 1 ≡ length (bytes ++ byte ∷ [])
    text_long = omega (arith, was.ends.at_text, ap length all, long)

    pub followed_other : (more : List ℕ) → more ≡ line ++ byte ∷ [] → byte ≢ 10
        → HasRead moves (bytes ++ byte ∷ []) first now (record { whole = at.whole; text = at.text + 1; len = at.len + 1 }) more is_over
    followed_other more is other =
        let found : recovered (bytes ++ byte ∷ []) ≡ recovered bytes =
        ap lines goes_on ∙ lines_one_other bytes byte other ∙ append-nil (lines bytes) ∙ ap lines (sym all) in
        record {
          ends = record {
            order = omega (arith, was.ends.order);
            at_text = text_long ∙ ap length (sym goes_on);
            at_end = omega (arith, was.ends.at_end, long);
            same = ap lines front ∙ was.ends.same ∙ sym found;
            is_whole = subst IsWhole (sym front) was.ends.is_whole;
          };
          begun = is ∙ ap (λ (l : List ℕ). l ++ byte ∷ []) (was.begun ∙ ap (λ (l : List ℕ). open_from [] l) all)
              ∙ sym (open_one_other bytes byte other) ∙ ap (λ (l : List ℕ). open_from [] l) (sym goes_on);
          over = λ is. absurd (cc (isnt, is));
          none = λ _. goes_on;
          run = subst (λ (l : List (List ℕ)). Runs moves l first now) (sym found) was.run;
        }

    pub one_line_more : byte ≡ 10 → recovered (bytes ++ byte ∷ []) ≡ recovered bytes ++ line ∷ []
    one_line_more feed =
        ap lines goes_on ∙ lines_one_feed bytes byte feed
        ∙ ap (λ (l : List ℕ). lines bytes ++ open_from [] l ∷ []) (sym all) ∙ ap (λ (l : List ℕ). lines bytes ++ l ∷ []) (sym was.begun)
        ∙ ap (λ (l : List ℕ). lines l ++ line ∷ []) (sym all)

    pub followed_feed : (none : List ℕ) → none ≡ [] → byte ≡ 10 → (next : M) → moves line now next
        → HasRead moves (bytes ++ byte ∷ []) first next (record { whole = at.text + 1; text = at.text + 1; len = at.len + 1 }) none is_over
    followed_feed none is feed next moved =
        let found = one_line_more feed in
        let whole : take (at.text + 1) (bytes ++ byte ∷ []) ≡ bytes ++ byte ∷ [] = take_all (at.text + 1) (bytes ++ byte ∷ []) (omega (arith, text_long)) in
        let none_open = open_one_feed bytes byte feed in
        record {
          ends = record {
            order = omega arith;
            at_text = text_long ∙ ap length (sym goes_on);
            at_end = omega (arith, was.ends.at_end, long);
            same = ap lines (whole ∙ sym goes_on);
            is_whole = ap (λ (l : List ℕ). open_from [] l) whole ∙ none_open;
          };
          begun = is ∙ sym (ap (λ (l : List ℕ). open_from [] l) goes_on ∙ none_open);
          over = λ is. absurd (cc (isnt, is));
          none = λ _. goes_on;
          run = subst (λ (l : List (List ℕ)). Runs moves l first next) (sym found)
              (runs-append moves (recovered bytes) (line ∷ []) first now next was.run (next, moved, refl));
        }

-- the line that has begun goes on over some bytes
pub followed_inner : {M : Type 0} (moves : List ℕ → M → M → Type 0) (bytes more : List ℕ) (first now : M) (at to : Ends) (line longer : List ℕ) (is_over over : Bool)
    → HasRead moves bytes first now at line is_over → is_over ≡ false → AllByRecursion IsInner more → longer ≡ line ++ more
    → to.whole ≡ at.whole → to.text ≡ at.text + length more → to.len ≡ at.len + length more → over ≡ is_over
    → HasRead moves (bytes ++ more) first now to longer over
followed_inner moves bytes [] first now at to line longer is_over over was isnt inner is whole at_text len same =
    let stays : to ≡ at = grind (arith, whole, at_text, len) in
    rw (stays, append-nil bytes, is, append-nil line, same) was
followed_inner moves bytes (byte ∷ more) first now at to line longer is_over over was isnt inner is whole at_text len same =
    let one = followed_other moves bytes first now at line is_over was byte isnt inner.0.0 (line ++ byte ∷ []) refl inner.0.1 in
    rw (sym (append_assoc bytes (byte ∷ []) more))
    (followed_inner moves (bytes ++ byte ∷ []) more first now (record { whole = at.whole; text = at.text + 1; len = at.len + 1 }) to (line ++ byte ∷ []) longer is_over over one isnt inner.1
    (is ∙ sym (append_assoc line (byte ∷ []) more)) whole (omega (arith, at_text)) (omega (arith, len)) same)

-- a whole line stands in the bytes that are read
pub followed_line : {M : Type 0} (moves : List ℕ → M → M → Type 0) (bytes more : List ℕ) (first now next : M) (at to : Ends) (line : List ℕ) (is_over : Bool)
    → HasRead moves bytes first now at line is_over → is_over ≡ false → AllByRecursion IsInner more → line ≡ [] → moves more now next
    → to.whole ≡ at.text + length more + 1 → to.text ≡ at.text + length more + 1 → to.len ≡ at.len + length more + 1
    → HasRead moves (bytes ++ more ++ 10 ∷ []) first next to line is_over
followed_line moves bytes more first now next at to line is_over was isnt inner none moved whole at_text len =
    let here : Ends = record { whole = at.whole; text = at.text + length more; len = at.len + length more } in
    let there : Ends = record { whole = at.text + length more + 1; text = at.text + length more + 1; len = at.len + length more + 1 } in
    let begun = followed_inner moves bytes more first now at here line more is_over is_over was isnt inner (rw none refl) refl refl refl refl in
    let fed = followed_feed moves (bytes ++ more) first now here more is_over begun 10 isnt (omega arith) line none refl next moved in
    let same : to ≡ there = grind (arith, whole, at_text, len) in
    rw same fed

-- bytes without an end of a line were put behind the line that has begun
pub followed_begun : {M : Type 0} (moves : List ℕ → M → M → Type 0) (most : ℕ) (bytes more : List ℕ) (first now : M) (f to : Follower)
    → IsFollowed moves most bytes first now f → f.is_over ≡ false → AllByRecursion IsInner more
    → (length f.line.items ≤ most → to.line.items ≡ take most (f.line.items ++ more))
    → to.ends.whole ≡ f.ends.whole → to.ends.text ≡ f.ends.text + length more → to.ends.len ≡ f.ends.len + length more → to.is_over ≡ f.is_over
    → IsFollowed moves most (bytes ++ more) first now to
followed_begun moves most bytes more first now f to was isnt inner line whole at_text len over = record {
  begun = was.begun ++ more;
  read =
      followed_inner moves bytes more first now f.ends to.ends was.begun (was.begun ++ more) f.is_over to.is_over
      was.read isnt inner refl whole at_text len over;
  line = kept_more most was.begun f.line.items more to.line.items was.line line;
}

-- nothing was read yet
pub nothing_read : {M : Type 0} (moves : List ℕ → M → M → Type 0) (most : ℕ) (first : M) (f : Follower)
    → (f.ends.whole ≡ 0) × (f.ends.text ≡ 0) × (f.ends.len ≡ 0) → f.line.items ≡ [] → f.is_over ≡ false → IsFollowed moves most [] first first f
nothing_read moves most first f ends none isnt = record {
  begun = [];
  read = record {
    ends = record {
      order = omega (arith, ends.0, ends.1);
      at_text = ends.1;
      at_end = ends.2;
      same = rw ends.0 refl;
      is_whole = rw ends.0 refl;
    };
    begun = refl;
    over = λ is. absurd (cc (isnt, is));
    none = λ _. refl;
    run = refl;
  };
  line = none ∙ take_none most;
}
