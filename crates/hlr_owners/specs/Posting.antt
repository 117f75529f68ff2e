-- A posting to a part.
use Rattle.std.specs.Prelude.{◌≡◌, ℕ, List, Option, Some, None, Result, Err}
use Rattle.tatp_rows.specs.declared.refusal.Refusal.{Refusal}
use Rattle.tatp_rows.specs.declared.refusal.Refusal.TheVariants as refusal
use Rattle.tatp_actions.specs.Cell.{cell}
use Rattle.hlr_owners.specs.Post.{post}
use Rattle.hlr_owners.specs.Store.{Store, rows_of}

-- a right posting to a part with these slots, if there is such a part: it changes nothing but words
abbrev pub IsPosting : Option (List ℕ) → ℕ → ℕ → Store → Result ℕ Refusal → Store → Type 0
IsPosting None part limit before answer after = (answer ≡ Err refusal.NoPart) × (after ≡ before)
IsPosting (Some slots) part limit before answer after =
    let done = post (λ c. cell before.width c (rows_of before part)) slots limit before.words in
    (answer ≡ done.0) × (after ≡ record before { words = done.1 })
