-- Lines that are too long to be read.
use Rattle.std.specs.Prelude.{◌≡◌, ◌≢◌, ◌<◌, ◌≤◌, ◌==◌, ℕ, nat_eq, Bool, true, false, if◌then◌else◌, List, [], ◌∷◌, length, sum, Result, Ok, Err}
use Rattle.std.specs.List.{starts_with}
use Rattle.std.specs.Str.{bytes_eq}
use Rattle.std.proofs.Common.{ap, arith, refl}
use Rattle.std.proofs.lemmas.Bool.Decides.{nat_tests}
use Rattle.std.proofs.lemmas.Slice.Eq.{bytes_eq-Decides}
use Rattle.tatp_rows.proofs.OrderedLemmas.{by_test}
use Rattle.hlr_core.specs.declared.event.Event.{Event}
use Rattle.edit_lines.specs.Lines.{first_line, format}
use Rattle.edit_lines.specs.Reading.{access_from, active_from, delete_from, event_of, facility_from, fields_in, first_checked, insert_from, location_from, number_from, subscriber_from, update_from}
use Rattle.edit_lines.specs.declared.error.LineError.{LineError}
use Rattle.edit_lines.specs.declared.error.LineError.TheVariants.{Length}

-- what is so of either outcome is so of the outcome of a test
either : (test : Bool) {A : Type 0} (P : A → Type 0) {one other : A} → P one → P other → P (if test then one else other)
either true P first second = first
either false P first second = second

-- no event was read
abbrev pub IsUnread : Result Event LineError → Type 0
IsUnread read = (why : LineError) × (read ≡ Err why)

-- fields that are too long aren't read
too_many : (counts : List ℕ) (make : List ℕ → Result Event LineError) (bytes : List ℕ) → sum counts < length bytes → IsUnread (fields_in counts make bytes)
too_many counts make bytes long =
    let unlike : (length bytes == sum counts) ≡ false = grind (arith, nat_tests) in
    (Length, rw unlike refl)

-- a line of 44 bytes or more has no event
pub long_unread : (line : List ℕ) → 44 ≤ length line → IsUnread (event_of line)
long_unread [] long = absurd (omega arith)
long_unread (letter ∷ bytes) long =
    either (letter == 76) IsUnread (too_many (8 ∷ 5 ∷ []) location_from bytes (omega arith))
    (either (letter == 85) IsUnread (too_many (4 ∷ 1 ∷ 1 ∷ 2 ∷ []) update_from bytes (omega arith))
    (either (letter == 73) IsUnread (too_many (8 ∷ 1 ∷ 1 ∷ 1 ∷ 8 ∷ []) insert_from bytes (omega arith))
    (either (letter == 68) IsUnread (too_many (8 ∷ 1 ∷ 1 ∷ []) delete_from bytes (omega arith))
    (either (letter == 83) IsUnread (too_many (4 ∷ 8 ∷ 2 ∷ 6 ∷ 6 ∷ 6 ∷ 5 ∷ 5 ∷ []) subscriber_from bytes (omega arith))
    (either (letter == 65) IsUnread (too_many (4 ∷ 1 ∷ 2 ∷ 2 ∷ 3 ∷ 5 ∷ []) access_from bytes (omega arith))
    (either (letter == 70) IsUnread (too_many (4 ∷ 1 ∷ 1 ∷ 2 ∷ 2 ∷ 5 ∷ []) facility_from bytes (omega arith))
    (either (letter == 79) IsUnread (too_many (4 ∷ 1 ∷ 1 ∷ []) active_from bytes (omega arith))
    (either (letter == 78) IsUnread (too_many (4 ∷ 8 ∷ []) number_from bytes (omega arith)) (_, refl)))))))))

-- and is no first line
pub long_not_first : (line : List ℕ) → 44 ≤ length line → first_checked line ≢ Ok tt
long_not_first line long =
    either (starts_with nat_eq line format) (λ read. read ≢ Ok tt)
    (by_test (bytes_eq line first_line)
    (λ e. let same : line ≡ first_line = (bytes_eq-Decides line first_line).0 e in absurd (omega (arith, long, ap length same)))
    (λ e. rw e (λ is. cc)))
    (λ is. cc)
