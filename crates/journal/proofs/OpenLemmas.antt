-- What holds of a journal that is open, and what each step makes of it.
use Rattle.std.proofs.Common.{◌≡◌, ℕ, zero, suc, ◌+◌, ◌-◌, ◌<◌, ◌≤◌, List, [], ◌∷◌, ◌++◌, length, take, replicate, refl, sym, ◌∙◌, ap, subst, arith, append_assoc, length-append}
use Rattle.std.proofs.lemmas.List.{append-nil, length-replicate, replicate-append-replicate, nil_from_length, take_all, take-append-le, length-take-le}
use Rattle.journal_file.specs.Device.{over, Mixes, Fades, Follows, IsFront, Only}
use Rattle.journal_file.proofs.ByteLemmas.{fades_same, front_same}
use Rattle.journal.specs.Lines.{text, lines, recovered, HasNoZero, HasFence, IsWhole}
use Rattle.journal.specs.Tape.{AreEnds, IsOpen, IsBetween, HasLinesBetween, kept}
use Rattle.journal.specs.declared.tape.Ends.{Ends}
use Rattle.journal.specs.declared.tape.Tape.{Tape}
use Rattle.journal.proofs.FadeLemmas.{fades_nothing, mixes_fades, over_zeros, faded_between, faded_at_least, faded_at_most}
use Rattle.journal.proofs.LineLemmas.{front_lines, lines_between, whole_lines}
use Rattle.journal.proofs.TextLemmas.{text_text, text_zeroed, text_front, text_fenced, no_zero-append, no_zero_take}

pub front_trans : {A : Type 0} (a b c : List A) → IsFront a b → IsFront b c → IsFront a c
front_trans a b c first second =
    (first.0 ++ second.0, second.1 ∙ ap (λ l. l ++ second.0) first.1 ∙ append_assoc a first.0 second.0)

pub front_take : (m n : ℕ) (t : List ℕ) → m ≤ n → IsFront (take m t) (take n t)
front_take zero n t le = (take n t, refl)
front_take (suc m) zero t le = absurd (omega (arith, le))
front_take (suc m) (suc n) [] le = ([], refl)
front_take (suc m) (suc n) (byte ∷ t) le = let more = front_take m n t (omega (arith, le)) in (more.0, ap (λ (l : List ℕ). byte ∷ l) more.1)

-- lists of which each is the front of the other are the same
pub squeezed : {A : Type 0} (a b : List A) → IsFront a b → IsFront b a → b ≡ a
squeezed a b first second =
    let none : length first.0 ≡ 0 = omega (arith, ap length first.1, ap length second.1, length-append a first.0, length-append b second.0) in
    first.1 ∙ ap (λ l. a ++ l) (nil_from_length first.0 none) ∙ append-nil a

pub wider : (low low2 high high2 c : List ℕ) → IsFront low2 low → IsFront high high2 → IsBetween low high c → IsBetween low2 high2 c
wider low low2 high high2 c lower higher between = record {
  fence = between.fence;
  at_least = front_trans low2 low (text c) lower between.at_least;
  at_most = front_trans (text c) high high2 between.at_most higher;
}

module _ {D : Type 0} (seen : D → List ℕ) (may_leave : D → List ℕ → Type 0) where
  pub open_length : (tape : Tape D) → IsOpen seen may_leave tape → length (seen tape.device) ≡ tape.len
  open_length tape s =
      omega (arith, s.end, s.fence, ap length s.file, length-append (text (seen tape.device)) (replicate (tape.len - tape.end) 0), length-replicate {A = ℕ} (tape.len - tape.end) 0)

  pub open_fence : (tape : Tape D) → IsOpen seen may_leave tape → HasFence (seen tape.device)
  open_fence tape s = omega (arith, s.end, s.fence, open_length tape s)

  -- what a crash between two calls leaves
  pub open_between : (tape : Tape D) → IsOpen seen may_leave tape → (c : List ℕ) → may_leave tape.device c → IsBetween (kept seen tape) (text (seen tape.device)) c
  open_between tape s c left = faded_between tape.synced (seen tape.device) c (s.outcomes c left) (open_fence tape s)

  -- a file of a text and zeros is an open journal
  pub opened : (d : D) (t : List ℕ) (end synced len : ℕ) → seen d ≡ t ++ replicate (len - end) 0 → HasNoZero t → end ≡ length t → end < len → synced ≤ end
      → ((c : List ℕ) → may_leave d c → Fades synced (t ++ replicate (len - end) 0) c)
      → IsOpen seen may_leave (record { device = d; end = end; synced = synced; len = len })
  opened d t end synced len is whole ends fence le fades =
      let same : text (seen d) ≡ t = ap text is ∙ text_zeroed t (len - end) whole in
      record {
        file = is ∙ ap (λ (l : List ℕ). l ++ replicate (len - end) 0) (sym same);
        end = ends ∙ ap length (sym same);
        fence = fence;
        synced = le;
        outcomes = λ c left. subst (λ (f : List ℕ). Fades synced f c) (sym is) (fades c left);
      }

  -- after a sync
  pub synced_open : (tape : Tape D) (d : D) → IsOpen seen may_leave tape → seen d ≡ seen tape.device → Only (seen tape.device) (may_leave d)
      → IsOpen seen may_leave (record { device = d; end = tape.end; synced = tape.end; len = tape.len })
  synced_open tape d s same only =
      opened d (text (seen tape.device)) tape.end tape.end tape.len (same ∙ s.file) (text_text (seen tape.device)) s.end s.fence (omega arith)
      (λ c left. subst (λ (f : List ℕ). Fades tape.end (text (seen tape.device) ++ replicate (tape.len - tape.end) 0) f) (sym (only c left ∙ s.file)) (fades_same tape.end _))

  -- a crash while zeros are put behind the end
  pub grow_between : (tape : Tape D) (d : D) → IsOpen seen may_leave tape → Follows IsFront (may_leave tape.device) (may_leave d)
      → (c : List ℕ) → may_leave d c → IsBetween (kept seen tape) (text (seen tape.device)) c
  grow_between tape d s follows c left =
      let from = follows c left in
      let was = open_between tape s from.0 from.1 in
      let same : text c ≡ text from.0 = ap text from.2.1 ∙ text_fenced from.0 from.2.0 was.fence in
      record {
        fence = omega (arith, was.fence, ap length same, ap length from.2.1, length-append from.0 from.2.0);
        at_least = subst (IsFront (kept seen tape)) (sym same) was.at_least;
        at_most = subst (λ (l : List ℕ). IsFront l (text (seen tape.device))) (sym same) was.at_most;
      }

  grown_file : (tape : Tape D) (d : D) (more : ℕ) → IsOpen seen may_leave tape → seen d ≡ seen tape.device ++ replicate more 0
      → seen d ≡ text (seen tape.device) ++ replicate (tape.len + more - tape.end) 0
  grown_file tape d more s is =
      let sum : (tape.len - tape.end) + more ≡ tape.len + more - tape.end = omega (arith, s.fence) in
      is ∙ ap (λ (l : List ℕ). l ++ replicate more 0) s.file ∙ append_assoc (text (seen tape.device)) (replicate (tape.len - tape.end) 0) (replicate more 0)
      ∙ ap (λ (l : List ℕ). text (seen tape.device) ++ l) (replicate-append-replicate (tape.len - tape.end) more 0 ∙ ap (λ (n : ℕ). replicate n 0) sum)

  pub grown_text : (tape : Tape D) (d : D) (more : ℕ) → IsOpen seen may_leave tape → seen d ≡ seen tape.device ++ replicate more 0 → text (seen d) ≡ text (seen tape.device)
  grown_text tape d more s is = ap text is ∙ text_fenced (seen tape.device) (replicate more 0) (open_fence tape s)

  -- after zeros were put there, and a sync
  pub grown_open : (tape : Tape D) (d e : D) (more : ℕ) → IsOpen seen may_leave tape → seen d ≡ seen tape.device ++ replicate more 0 → seen e ≡ seen d → Only (seen d) (may_leave e)
      → IsOpen seen may_leave (record { device = e; end = tape.end; synced = tape.end; len = tape.len + more })
  grown_open tape d e more s is same only =
      let file = grown_file tape d more s is in
      opened e (text (seen tape.device)) tape.end tape.end (tape.len + more) (same ∙ file) (text_text (seen tape.device)) s.end (omega (arith, s.fence)) (omega arith)
      (λ c left. subst (λ (f : List ℕ). Fades tape.end (text (seen tape.device) ++ replicate (tape.len + more - tape.end) 0) f) (sym (only c left ∙ file)) (fades_same tape.end _))

  module _ (tape : Tape D) (d : D) (bytes : List ℕ) (s : IsOpen seen may_leave tape) (whole : HasNoZero bytes) (room : length bytes < tape.len - tape.end)
      (follows : Follows (Mixes tape.end bytes) (may_leave tape.device) (may_leave d)) where
    -- what a crash may make of bytes that were written over the zeros
    written_fades : (c : List ℕ) → may_leave d c → Fades tape.synced (over tape.end bytes (seen tape.device)) c
    written_fades c left =
        let from = follows c left in
        let t = text (seen tape.device) in
        let was : Fades tape.synced (t ++ replicate (tape.len - tape.end) 0) from.0 = subst (λ (f : List ℕ). Fades tape.synced f from.0) s.file (s.outcomes from.0 from.1) in
        let mixes : Mixes (length t) bytes from.0 c = subst (λ (n : ℕ). Mixes n bytes from.0 c) s.end from.2 in
        let fades = mixes_fades tape.synced t bytes (tape.len - tape.end) from.0 c (omega (arith, s.synced, s.end)) (omega (arith, room)) was mixes in
        let file : over (length t) bytes (t ++ replicate (tape.len - tape.end) 0) ≡ over tape.end bytes (seen tape.device) =
        ap (λ (n : ℕ). over n bytes (t ++ replicate (tape.len - tape.end) 0)) (sym s.end) ∙ ap (λ (f : List ℕ). over tape.end bytes f) (sym s.file) in
        subst (λ (f : List ℕ). Fades tape.synced f c) file fades

    over_file : over tape.end bytes (seen tape.device) ≡ (text (seen tape.device) ++ bytes) ++ replicate (tape.len - (tape.end + length bytes)) 0
    over_file =
        let t = text (seen tape.device) in
        let less : (tape.len - tape.end) - length bytes ≡ tape.len - (tape.end + length bytes) = omega arith in
        ap (λ (f : List ℕ). over tape.end bytes f) s.file ∙ ap (λ (n : ℕ). over n bytes (t ++ replicate (tape.len - tape.end) 0)) s.end
        ∙ over_zeros t bytes (tape.len - tape.end) (omega (arith, room))
        ∙ ap (λ (n : ℕ). t ++ bytes ++ replicate n 0) less

    new_text : HasNoZero (text (seen tape.device) ++ bytes)
    new_text = no_zero-append (text (seen tape.device)) bytes (text_text (seen tape.device)) whole

    over_text : text (over tape.end bytes (seen tape.device)) ≡ text (seen tape.device) ++ bytes
    over_text = ap text over_file ∙ text_zeroed (text (seen tape.device) ++ bytes) (tape.len - (tape.end + length bytes)) new_text

    over_fence : HasFence (over tape.end bytes (seen tape.device))
    over_fence =
        let n = tape.len - (tape.end + length bytes) in
        omega (arith, room, ap length over_text, ap length over_file, length-append (text (seen tape.device) ++ bytes) (replicate n 0), length-replicate {A = ℕ} n 0)

    take_text : take tape.synced (text (seen tape.device) ++ bytes) ≡ take tape.synced (text (seen tape.device))
    take_text = take-append-le tape.synced (text (seen tape.device)) bytes (omega (arith, s.synced, s.end))

    pub written_between : (c : List ℕ) → may_leave d c → IsBetween (kept seen tape) (text (seen tape.device) ++ bytes) c
    written_between c left =
        let between = faded_between tape.synced (over tape.end bytes (seen tape.device)) c (written_fades c left) over_fence in
        let lower : take tape.synced (text (over tape.end bytes (seen tape.device))) ≡ kept seen tape = ap (λ (l : List ℕ). take tape.synced l) over_text ∙ take_text in
        subst (λ (l : List ℕ). IsBetween (kept seen tape) l c) over_text (subst (λ (l : List ℕ). IsBetween l (text (over tape.end bytes (seen tape.device))) c) lower between)

    pub written_text : seen d ≡ over tape.end bytes (seen tape.device) → text (seen d) ≡ text (seen tape.device) ++ bytes
    written_text is = ap text is ∙ over_text

    pub written_open : seen d ≡ over tape.end bytes (seen tape.device)
        → IsOpen seen may_leave (record { device = d; end = tape.end + length bytes; synced = tape.synced; len = tape.len })
    written_open is =
        opened d (text (seen tape.device) ++ bytes) (tape.end + length bytes) tape.synced tape.len (is ∙ over_file) new_text
        (omega (arith, s.end, length-append (text (seen tape.device)) bytes)) (omega (arith, room)) (omega (arith, s.synced))
        (λ c left. subst (λ (f : List ℕ). Fades tape.synced f c) over_file (written_fades c left))

  -- an append and a sync, in lines
  module _ (tape mid : Tape D) (group : List ℕ) (s : IsOpen seen may_leave tape) (all : tape.synced ≡ tape.end) (whole : IsWhole (text (seen tape.device))) where
    kept_all : kept seen tape ≡ text (seen tape.device)
    kept_all = take_all tape.synced (text (seen tape.device)) (omega (arith, all, s.end))

    pub group_lines : (c : List ℕ) → IsBetween (kept seen tape) (text (seen tape.device) ++ group) c
        → HasLinesBetween (recovered (seen tape.device)) (recovered (seen tape.device) ++ lines group) c
    group_lines c between =
        let told = lines_between (kept seen tape) (text (seen tape.device) ++ group) c between in
        subst (λ (l : List (List ℕ)). HasLinesBetween (recovered (seen tape.device)) l c) (whole_lines (text (seen tape.device)) group whole)
        (subst (λ (l : List ℕ). HasLinesBetween (lines l) (lines (text (seen tape.device) ++ group)) c) kept_all told)

    pub later_lines : tape.synced ≤ mid.synced → text (seen mid.device) ≡ text (seen tape.device) ++ group
        → (c : List ℕ) → IsBetween (kept seen mid) (text (seen mid.device)) c
        → HasLinesBetween (recovered (seen tape.device)) (recovered (seen tape.device) ++ lines group) c
    later_lines le same c between =
        let all_text = text (seen tape.device) ++ group in
        let short : take tape.synced all_text ≡ kept seen tape = take-append-le tape.synced (text (seen tape.device)) group (omega (arith, all, s.end)) in
        let lower : IsFront (kept seen tape) (kept seen mid) =
        subst (λ (l : List ℕ). IsFront l (kept seen mid)) short
        (subst (λ (l : List ℕ). IsFront (take tape.synced all_text) (take mid.synced l)) (sym same) (front_take tape.synced mid.synced all_text le)) in
        let higher : IsFront (text (seen mid.device)) all_text = subst (λ (l : List ℕ). IsFront l all_text) (sym same) (front_same all_text) in
        group_lines c (wider (kept seen mid) (kept seen tape) (text (seen mid.device)) all_text c lower higher between)

  -- if all is on the disk, a crash leaves just that
  pub all_only : (tape : Tape D) → IsOpen seen may_leave tape → tape.synced ≡ tape.end → Only (seen tape.device) (may_leave tape.device)
  all_only tape s all c left =
      let t = text (seen tape.device) in
      let fades : Fades (length t) (t ++ replicate (tape.len - tape.end) 0) c =
      subst (λ (n : ℕ). Fades n (t ++ replicate (tape.len - tape.end) 0) c) (all ∙ s.end) (subst (λ (f : List ℕ). Fades tape.synced f c) s.file (s.outcomes c left)) in
      fades_nothing t (tape.len - tape.end) c fades ∙ sym s.file

  -- another file that holds the same
  pub moved_open : (tape : Tape D) (d : D) → IsOpen seen may_leave tape → seen d ≡ seen tape.device → Only (seen tape.device) (may_leave d)
      → IsOpen seen may_leave (record { device = d; end = tape.end; synced = tape.synced; len = tape.len })
  moved_open tape d s same only =
      opened d (text (seen tape.device)) tape.end tape.synced tape.len (same ∙ s.file) (text_text (seen tape.device)) s.end s.fence s.synced
      (λ c left. subst (λ (f : List ℕ). Fades tape.synced (text (seen tape.device) ++ replicate (tape.len - tape.end) 0) f) (sym (only c left ∙ s.file)) (fades_same tape.synced _))

-- the end of a file is made zeros, behind its last whole line
module _ (file : List ℕ) (ends : Ends) (are : AreEnds file ends) where
  order : ends.whole ≤ length (text file)
  order = omega (arith, are.order, are.at_text)

  front_is : take ends.whole file ≡ take ends.whole (text file)
  front_is = text_front file ends.whole order

  no_zero : HasNoZero (take ends.whole file)
  no_zero = subst HasNoZero (sym front_is) (no_zero_take ends.whole (text file) (text_text file))

  pub blank_same : (c : List ℕ) → Fades ends.whole file c → recovered c ≡ recovered file
  blank_same c fades =
      let lower : IsFront (recovered file) (recovered c) =
      subst (λ (l : List (List ℕ)). IsFront l (recovered c)) (ap lines (sym front_is) ∙ are.same) (front_lines (take ends.whole (text file)) (text c) (faded_at_least ends.whole file c fades)) in
      squeezed (recovered file) (recovered c) lower (front_lines (text c) (text file) (faded_at_most ends.whole file c fades))

  pub blanked_text : (now : List ℕ) → now ≡ take ends.whole file ++ replicate (length file - ends.whole) 0 → text now ≡ take ends.whole file
  blanked_text now is = ap text is ∙ text_zeroed (take ends.whole file) (length file - ends.whole) no_zero

  pub blanked_open : {D : Type 0} (seen : D → List ℕ) (may_leave : D → List ℕ → Type 0) (d e : D) → ends.whole < ends.len
      → seen d ≡ take ends.whole file ++ replicate (length file - ends.whole) 0 → seen e ≡ seen d → Only (seen d) (may_leave e)
      → IsOpen seen may_leave (record { device = e; end = ends.whole; synced = ends.whole; len = ends.len })
  blanked_open seen may_leave d e fence is same only =
      let n = ends.whole in
      let long : n ≡ length (take n file) = sym (length-take-le n file (omega (arith, fence, are.at_end))) in
      let held : seen d ≡ take n file ++ replicate (ends.len - n) 0 = is ∙ ap (λ (m : ℕ). take n file ++ replicate (m - n) 0) (sym are.at_end) in
      opened seen may_leave e (take n file) n n ends.len (same ∙ held) no_zero long fence (omega arith)
      (λ c left. subst (λ (f : List ℕ). Fades n (take n file ++ replicate (ends.len - n) 0) f) (sym (only c left ∙ held)) (fades_same n _))
