-- Rows that all lie on one side of a key, in front of others.
use Rattle.group_tree.proofs.Common.{◌≡◌, ◌∙◌, ap, ℕ, ◌<◌, ◌≤◌, List, ◌++◌, arith, nat_tests, filter-append, filter_all, filter_none, each-weaker, keys_below, keys_from, key_of_pair, KeysBelow, KeysFrom}

module _ {R : Type 0} (key : ℕ) (rows rest : List (ℕ × R)) where
  -- the rows below a key are all of those that lie below it, and none of those that lie from it on
  pub below_whole : KeysBelow key rows → keys_below key_of_pair key (rows ++ rest) ≡ rows ++ keys_below key_of_pair key rest
  below_whole below =
      filter-append _ rows rest ∙ ap (λ l. l ++ keys_below key_of_pair key rest) (filter_all _ rows (each-weaker {P = λ p. key_of_pair p < key} (λ p h. grind (arith, nat_tests)) rows below))

  pub below_gone : KeysFrom key rows → keys_below key_of_pair key (rows ++ rest) ≡ keys_below key_of_pair key rest
  below_gone from =
      filter-append _ rows rest ∙ ap (λ l. l ++ keys_below key_of_pair key rest) (filter_none _ rows (each-weaker {P = λ p. key ≤ key_of_pair p} (λ p h. grind (arith, nat_tests)) rows from))

  -- and the other way round for the rows from a key on
  pub from_whole : KeysFrom key rows → keys_from key_of_pair key (rows ++ rest) ≡ rows ++ keys_from key_of_pair key rest
  from_whole from =
      filter-append _ rows rest ∙ ap (λ l. l ++ keys_from key_of_pair key rest) (filter_all _ rows (each-weaker {P = λ p. key ≤ key_of_pair p} (λ p h. grind (arith, nat_tests)) rows from))

  pub from_gone : KeysBelow key rows → keys_from key_of_pair key (rows ++ rest) ≡ keys_from key_of_pair key rest
  from_gone below =
      filter-append _ rows rest ∙ ap (λ l. l ++ keys_from key_of_pair key rest) (filter_none _ rows (each-weaker {P = λ p. key_of_pair p < key} (λ p h. grind (arith, nat_tests)) rows below))
