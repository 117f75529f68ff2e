-- Why the lines of a file aren't done, of which more is read.
use Rattle.std.specs.Prelude.{◌⊎◌, Err, IfErr, Result}
use Rattle.std.proofs.Common.{◌≡◌, Bool, false, ℕ, ◌+◌, List, [], ◌∷◌, ◌++◌, length, refl, subst, inl, inr, arith}
use Rattle.std.specs.List.{AllByRecursion}
use Rattle.journal_file.specs.declared.fault.JournalFault.{JournalFault}
use Rattle.journal_file.specs.declared.fault.JournalFault.TheVariants.{BadLine, Memory}
use Rattle.journal.specs.Inside.{HasRead, IsInner}
use Rattle.journal.specs.Lines.{recovered}
use Rattle.journal.specs.Machine.{AreRefused, HasBadLine, Runs}
use Rattle.journal.specs.declared.tape.Ends.{Ends}
use Rattle.journal.proofs.FollowLemmas.{followed_inner, one_line_more}
use Rattle.journal.proofs.LineLemmas.{front_lines}
use Rattle.journal.proofs.TextLemmas.{text_grows}

-- what is so of an error is so where it is handed on
pub handed_on : {T E : Type 0} (result : Result T E) (Q : E → Type 0) (e err : E) → result ≡ Err e → e ≡ err → Q err → IfErr result Q
handed_on result Q e err is same holds = rw (is, same) holds

module _ {M : Type 0} (moves : List ℕ → M → M → Type 0) (IsBad : List ℕ → M → Type 0) where
  -- a bad line stays bad in front of others
  bad_more : (lines more : List (List ℕ)) (first : M) → HasBadLine moves IsBad lines first → HasBadLine moves IsBad (lines ++ more) first
  bad_more [] more first bad = elim bad [ ]
  bad_more (line ∷ lines) more first (inl bad) = inl bad
  bad_more (line ∷ lines) more first (inr (next, moved, bad)) = inr (next, moved, bad_more lines more next bad)

  -- a line that is bad behind those that were done
  bad_last : (lines : List (List ℕ)) (line : List ℕ) (first now : M) → Runs moves lines first now → IsBad line now → HasBadLine moves IsBad (lines ++ line ∷ []) first
  bad_last [] line first now run bad = inl (subst (λ (m : M). IsBad line m) run bad)
  bad_last (other ∷ lines) line first now (next, moved, run) bad = inr (next, moved, bad_last lines line next now run bad)

  -- more bytes make no good line of a bad one
  pub refused_more : (whole bytes more : List ℕ) (first : M) (why : JournalFault) → whole ≡ bytes ++ more
      → AreRefused moves IsBad (recovered bytes) first why → AreRefused moves IsBad (recovered whole) first why
  refused_more whole bytes more first why is (inl memory) = inl memory
  refused_more whole bytes more first why is (inr (told, bad)) =
      let further = front_lines _ _ (text_grows bytes more) in
      inr (told, rw (is, further.1) (bad_more (recovered bytes) further.0 first bad))

  -- the machine refused the line that has begun
  pub refused_feed : (bytes : List ℕ) (first now : M) (at : Ends) (line : List ℕ) (is_over : Bool) (why : JournalFault) → HasRead moves bytes first now at line is_over
      → is_over ≡ false → (byte : ℕ) → byte ≡ 10 → (why ≡ Memory) ⊎ ((why ≡ BadLine) × IsBad line now)
      → AreRefused moves IsBad (recovered (bytes ++ byte ∷ [])) first why
  refused_feed bytes first now at line is_over why was isnt byte feed (inl memory) = inl memory
  refused_feed bytes first now at line is_over why was isnt byte feed (inr (told, bad)) =
      inr (told, rw (one_line_more moves bytes first now at line is_over was byte isnt (omega (arith, feed)) feed) (bad_last (recovered bytes) line first now was.run bad))

  -- it refused a line that stands in the bytes that are read
  pub refused_line : (bytes more : List ℕ) (first now : M) (at : Ends) (line : List ℕ) (is_over : Bool) (why : JournalFault) → HasRead moves bytes first now at line is_over
      → is_over ≡ false → AllByRecursion IsInner more → line ≡ [] → (why ≡ Memory) ⊎ ((why ≡ BadLine) × IsBad more now)
      → AreRefused moves IsBad (recovered (bytes ++ more ++ 10 ∷ [])) first why
  refused_line bytes more first now at line is_over why was isnt inner none refused =
      let here : Ends = record { whole = at.whole; text = at.text + length more; len = at.len + length more } in
      let begun = followed_inner moves bytes more first now at here line more is_over is_over was isnt inner (rw none refl) refl refl refl refl in
      refused_feed (bytes ++ more) first now here more is_over why begun isnt 10 refl refused
