-- Bytes that are copied as far as there are any, and as far as there is room.
use Rattle.hlr_c.proofs.Common.{◌≡◌, ◌≤◌, ◌++◌, [], ◌∷◌, List, ℕ, ap, arith, drop, length, refl, suc, take}
use Rattle.std.specs.Prelude.{zero}
use Rattle.hlr_c.proofs.Common.{◌<◌, ◌∙◌, false, get_or, FileJournal, None, Option, OwnersState, Some, sym}
use Rattle.std.specs.Prelude.{slice_get}
use Rattle.std.specs.Option.{is_some}
use Rattle.journal_file.specs.Device.{over}
use Rattle.journal_file.specs.declared.fault.JournalFault.{JournalFault}
use Rattle.journal_file.specs.declared.relayed.Owed.{Owed}
use Rattle.hlr_c.specs.Journaled.{IsOwedTold, owed_in, told_call, told_owed}
use Rattle.hlr_c.specs.declared.codes.TheConstants.{DONE}
use Rattle.hlr_c.specs.declared.rows.HlrCall.{HlrCall}

-- more bytes than there is room for
pub over_long : (bytes room : List ℕ) → length room ≤ length bytes → take (length room) bytes ≡ over 0 bytes room
over_long bytes [] fits = refl
over_long [] (was ∷ room) fits = absurd (omega (arith, fits))
over_long (byte ∷ bytes) (was ∷ room) fits = ap (λ (l : List ℕ). byte ∷ l) (over_long bytes room (omega (arith, fits)))

-- more room than there are bytes
pub over_short : (bytes room : List ℕ) → length bytes ≤ length room → bytes ++ drop (length bytes) room ≡ over 0 bytes room
over_short [] [] fits = refl
over_short [] (was ∷ room) fits = refl
over_short (byte ∷ bytes) [] fits = absurd (omega (arith, fits))
over_short (byte ∷ bytes) (was ∷ room) fits = ap (λ (l : List ℕ). byte ∷ l) (over_short bytes room (omega (arith, fits)))

-- no byte
pub over_none : (bytes room : List ℕ) → bytes ≡ [] → room ≡ over 0 bytes room
over_none bytes [] none = refl
over_none bytes (was ∷ room) none = rw none refl

pub drop_behind : (bytes : List ℕ) (skip : ℕ) → length bytes ≤ skip → drop skip bytes ≡ []
drop_behind [] zero fits = refl
drop_behind [] (suc skip) fits = refl
drop_behind (byte ∷ bytes) zero fits = absurd (omega (arith, fits))
drop_behind (byte ∷ bytes) (suc skip) fits = drop_behind bytes skip (omega (arith, fits))

-- the call at an index that there is
pub get_there : (calls : List Owed) (k : ℕ) (one : Owed) → k < length calls → slice_get calls k ≡ Some (get_or calls k one)
get_there [] k one there = absurd (omega (arith, there))
get_there (call ∷ calls) zero one there = refl
get_there (call ∷ calls) (suc k) one there = get_there calls k one (omega (arith, there))

-- no fault
pub no_fault : (fault : Option JournalFault) → false ≡ is_some fault → fault ≡ None
no_fault None is = refl
no_fault (Some why) is = absurd cc

-- a call that is owed is handed over
pub told_is : (index skip : ℕ) (room : List ℕ) (call : HlrCall) (register : OwnersState) (was : Option FileJournal) (journal : FileJournal) (one : Owed) (written : List ℕ) (told : HlrCall)
    → was ≡ Some journal → journal.current.fault ≡ None → slice_get journal.current.tape.device.owed.items index ≡ Some one
    → written ≡ over 0 (drop skip one.bytes.items) room → told ≡ told_call journal.current.tape.device.fd one
    → IsOwedTold index skip (room, call) (register, was) (DONE, (written, told)) (register, was)
told_is index skip room call register was journal one written told there works at wrote said =
    let device = journal.current.tape.device in
    let here : slice_get (owed_in journal.current.fault device) index ≡ Some one = ap (λ (f : Option JournalFault). slice_get (owed_in f device) index) works ∙ at in
    rw there (rw (wrote, said) (ap (λ (o : Option Owed). let both : ℕ × (List ℕ × HlrCall) = (DONE, told_owed device.fd skip (room, call) o) in both) (sym here)), refl)
