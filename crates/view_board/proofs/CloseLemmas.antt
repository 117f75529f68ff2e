-- The board's end.
use Rattle.view_board.proofs.Common.{◌≡◌, ℕ, ◌≤◌, ◌/◌, List, length, get_or, sym, subst, ◌∙◌, arith, ext_get_or, Final, Seen, View, WORDS, SLOT_WORDS, OwnsAll, IsWide, IsRuled, Fits}

-- the words at the end are the numbers of the desk that owns all slots, and at least what it has seen
pub ends : (id : ℕ) (v : View) (words : List ℕ) (slots : List (Unit {0})) → IsWide v → OwnsAll v → Final (Seen IsRuled id v) words slots
    → (words ≡ v.numbers) × ((w : ℕ) → get_or v.seen w 0 ≤ get_or words w 0)
ends id v words slots wide all final =
    let s = final.0 in
    let rule = final.1.0 in
    let fits : Fits words v = subst (λ (ws : List ℕ). Fits ws v) final.2 (rule.fits id v final.1.1) in
    let long : length words ≡ WORDS = subst (λ (ws : List ℕ). length ws ≡ WORDS) final.2 rule.wide in
    (ext_get_or 0 words v.numbers (long ∙ sym wide.numbers) (λ w below. sym (fits.own w (all (w / SLOT_WORDS) (omega (arith, long))))), fits.seen)
