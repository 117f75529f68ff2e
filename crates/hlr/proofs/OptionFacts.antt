-- What a parse of the program's words gives.
use Rattle.hlr.proofs.Common.{◌≡◌, refl, sym, subst, ◌∙◌, ℕ, List, [], Option, Some, None, Bool, true, false, ap, IfSome, Result, Ok, Err, codes, digits_value, without_leading_plus, ParsesBool, ParsesUnsigned, ExplainsUnsignedError, HasUnsignedDigitsIfOk, ParseIntError, ParseBoolError, OkIff-at_ok, App, Rule, Text, FailsBy, HasKind, Kinds, HasMatchesOf, fault_of, found_of, is_simple, is_simple_and_free, matches_of, new_app, one_of, one_text, rows_of, with_rule, ArgMatches, Error, one_text-rows, flag_text, journal_rule, parts_rule, snapshot_rule, threads_rule, with_version, zone_rule, Spells, Tells}
use Rattle.clap.specs.Words.{ReadsOne}
use Rattle.hlr.specs.Options.{program}

-- the program is one that clap's definitions speak of
pub program_simple : is_simple program ≡ true
unfolding program
program_simple = refl

pub program_free : is_simple_and_free program ≡ true
unfolding program
program_free = refl

-- the program is built from its options
pub program_is : with_rule (with_rule (with_rule (with_rule (with_rule (with_version (new_app (codes "hlr"))) parts_rule) zone_rule) threads_rule) journal_rule) snapshot_rule ≡ program
unfolding program
program_is = refl

-- what was found is what the words give
pub found_rows : (app : App) (words : List Text) (m : ArgMatches) → app ≡ program → HasMatchesOf app words m → rows_of (found_of m) ≡ matches_of program words
found_rows app words m e has = (subst (λ (a : App). HasMatchesOf a words m) e has program_simple).0

-- a parse of this program's words that succeeds meets no fault
pub found_kinds : (app : App) (words : List Text) → app ≡ program → (is_simple_and_free app ≡ true → fault_of app words ≡ []) → fault_of program words ≡ []
found_kinds app words e kinds = subst (λ (a : App). is_simple_and_free a ≡ true → fault_of a words ≡ []) e kinds program_free

-- a parse of this program's words that fails meets one
pub failed_kinds : (app : App) (words : List Text) (error : Error) → app ≡ program → (is_simple_and_free app ≡ true → HasKind (fault_of app words) error) → HasKind (fault_of program words) error
failed_kinds app words error e kinds = subst (λ (a : App). is_simple_and_free a ≡ true → HasKind (fault_of a words) error) e kinds program_free

-- a number is the one that a text spells
abbrev pub Reads : List ℕ → ℕ → Type 0
Reads t n = n ≡ digits_value 10 (without_leading_plus t)

-- what the number that was read is
pub spelled : (m : ArgMatches) (id : List ℕ) (o : Option Text) (r : Option ℕ) → one_text (found_of m) id ≡ o
    → (one_text (found_of m) id ≡ None → r ≡ None) → ((t : List ℕ) → one_text (found_of m) id ≡ Some t → IfSome r (Reads t)) → IfSome r (Spells (one_of id (rows_of (found_of m))))
spelled m id None r e none some = rw (none e) tt
spelled m id (Some t) r e none some = by r (some t e)
  where
    by : (r : Option ℕ) → IfSome r (Reads t) → IfSome r (Spells (one_of id (rows_of (found_of m))))
    by None h = tt
    by (Some n) h = (t, sym (one_text-rows (found_of m) id) ∙ e, h)

-- what a flag's text tells
pub told : (m : ArgMatches) (id : List ℕ) (o : Option Text) (r : Option Bool) → one_text (found_of m) id ≡ o
    → (one_text (found_of m) id ≡ None → r ≡ None) → ((t : List ℕ) → one_text (found_of m) id ≡ Some t → IfSome r (λ given. t ≡ flag_text given)) → IfSome r (Tells (one_of id (rows_of (found_of m))))
told m id None r e none some = rw (none e) tt
told m id (Some t) r e none some = by r (some t e)
  where
    by : (r : Option Bool) → IfSome r (λ given. t ≡ flag_text given) → IfSome r (Tells (one_of id (rows_of (found_of m))))
    by None h = tt
    by (Some given) h = sym (one_text-rows (found_of m) id) ∙ e ∙ ap Some h

-- whether a flag is given that was read from a text
pub read_flag : (t : List ℕ) (r : Option Bool) → ReadsOne {T = Bool} {E = ParseBoolError} ParsesBool t r → IfSome r (λ given. t ≡ flag_text given)
read_flag t None read = tt
read_flag t (Some true) read = read
read_flag t (Some false) read = read

-- the program's options, added to the program without options one after another
pub with_parts : (app : App) (rule : Rule) → app ≡ with_version (new_app (codes "hlr")) → rule ≡ parts_rule → with_rule app rule ≡ with_rule (with_version (new_app (codes "hlr"))) parts_rule
with_parts app rule a r = rw (a, r) refl

pub with_zone : (app : App) (rule : Rule) → app ≡ with_rule (with_version (new_app (codes "hlr"))) parts_rule → rule ≡ zone_rule
    → with_rule app rule ≡ with_rule (with_rule (with_version (new_app (codes "hlr"))) parts_rule) zone_rule
with_zone app rule a r = rw (a, r) refl

pub with_threads : (app : App) (rule : Rule) → app ≡ with_rule (with_rule (with_version (new_app (codes "hlr"))) parts_rule) zone_rule → rule ≡ threads_rule
    → with_rule app rule ≡ with_rule (with_rule (with_rule (with_version (new_app (codes "hlr"))) parts_rule) zone_rule) threads_rule
with_threads app rule a r = rw (a, r) refl

pub with_journal : (app : App) (rule : Rule) → app ≡ with_rule (with_rule (with_rule (with_version (new_app (codes "hlr"))) parts_rule) zone_rule) threads_rule → rule ≡ journal_rule
    → with_rule app rule ≡ with_rule (with_rule (with_rule (with_rule (with_version (new_app (codes "hlr"))) parts_rule) zone_rule) threads_rule) journal_rule
with_journal app rule a r = rw (a, r) refl

pub program_from : (app : App) (rule : Rule) → app ≡ with_rule (with_rule (with_rule (with_rule (with_version (new_app (codes "hlr"))) parts_rule) zone_rule) threads_rule) journal_rule
    → rule ≡ snapshot_rule → with_rule app rule ≡ program
program_from app rule a r = rw (a, r) program_is

-- what a number that was read from a text is
pub read_number : (bits : ℕ) (t : List ℕ) (r : Option ℕ)
    → ReadsOne {T = ℕ} {E = ParseIntError} (λ bs r. ParsesUnsigned bits 10 bs r × ExplainsUnsignedError 10 bs r × HasUnsignedDigitsIfOk bs r) t r → IfSome r (Reads t)
read_number bits t None read = tt
read_number bits t (Some n) read = (OkIff-at_ok {T = ℕ} {E = ParseIntError} (Ok n) _ _ n read.0 refl).1

-- an error that is passed on has the kinds that it had
pub passed_on : {T : Type 0} (kinds : Kinds) (r : Result T Error) (x error : Error) → r ≡ Err x → x ≡ error → HasKind kinds error → FailsBy kinds r
passed_on kinds r x error is same has = rw (is, same) has
