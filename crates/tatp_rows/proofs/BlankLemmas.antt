-- A list of one value.
use Rattle.tatp_rows.proofs.Common.{◌≡◌, ℕ, replicate, get_or, inl, inr, cases_lt, length-replicate, get_or-replicate, get_or_past}

-- it has that value at each place, and past its end where the default is that
pub blank_at : {A : Type 0} (n i : ℕ) (blank : A) → get_or (replicate n blank) i blank ≡ blank
blank_at n i blank = elim (cases_lt i n) [
  | inl below ↦ get_or-replicate n i blank blank below
  | inr past ↦ get_or_past (replicate n blank) i blank (rw length-replicate past)
]
