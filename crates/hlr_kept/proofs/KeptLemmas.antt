-- Orders under way, and what is written of them.
use Rattle.std.proofs.Common.{◌≡◌, ◌∙◌, refl, sym, ap, subst, inl, inr, ⊎_elim, ℕ, true, List, [], ◌∷◌, ◌++◌, Some}
use Rattle.journal_file.specs.Device.{LeavesOnly}
use Rattle.journal.specs.Lines.{HasFence, lines, recovered}
use Rattle.journal.specs.Tape.{HasLinesBetween}
use Rattle.tatp_actions.specs.Book.{empty_book}
use Rattle.edit_lines.specs.Lines.{first_line}
use Rattle.hlr_owners.specs.Owners.{OwnersState, book_in, store_in}
use Rattle.hlr_owners.specs.Store.{Store}
use Rattle.hlr_core.specs.Run.{IsOrderStep}
use Rattle.hlr_core.specs.declared.order.Answer.{Answer}
use Rattle.hlr_core.specs.declared.order.Order.{Order}
use Rattle.hlr_core.proofs.RunLemmas.{run_more}
use Rattle.hlr_kept.specs.Runs.{IsAhead, IsBegun, IsGroup, changed_rows, is_writable, line_bytes, lines_of}
use Rattle.hlr_kept.specs.Rows.{book_after_lines, book_of, book_of_lines}
use Rattle.hlr_kept.proofs.GroupLemmas.{order_group, group-append, group_none}
use Rattle.hlr_kept.proofs.RunLemmas.{all_orders, behind_begun, fit_more, lines_more}

-- no order is ahead
pub none_ahead : (register : OwnersState) (answers : List Answer) (group : List ℕ) → answers ≡ [] → group ≡ [] → IsAhead (store_in register) [] register answers group
none_ahead register answers group none nothing =
    subst (λ (h : List Answer). IsAhead (store_in register) [] register h group) (sym none)
    (subst (λ (g : List ℕ). IsAhead (store_in register) [] register [] g) (sym nothing)
    (record { run = refl; fit = tt; lines = group_none }))

-- one order more is ahead
pub order_ahead : (stored : Store) (orders : List Order) (before after : OwnersState) (answers answers2 : List Answer) (group group2 : List ℕ) (one : Order) (told : Answer) → IsAhead stored orders before answers group
    → IsOrderStep one (store_in before) told (store_in after) → (changed_rows one told ≡ true → is_writable one ≡ true)
    → group2 ≡ group ++ line_bytes one told → answers2 ≡ answers ++ told ∷ [] → IsAhead stored (orders ++ one ∷ []) after answers2 group2
order_ahead stored orders before after answers answers2 group group2 one told was step fits put pushed =
    subst (λ (h : List Answer). IsAhead stored (orders ++ one ∷ []) after h group2) (sym pushed)
    (subst (λ (g : List ℕ). IsAhead stored (orders ++ one ∷ []) after (answers ++ told ∷ []) g) (sym put)
    (record {
      run = run_more orders one answers told stored (store_in before) (store_in after) was.run step;
      fit = fit_more orders answers one told stored (store_in before) was.run was.fit fits;
      lines = subst (λ (l : List (List ℕ)). IsGroup l (group ++ line_bytes one told))
          (sym (lines_more orders answers one told stored (store_in before) was.run))
          (group-append (lines_of orders answers) (lines_of (one ∷ []) (told ∷ [])) group (line_bytes one told) was.lines (order_group one told));
    }))

-- once the lines are written, the file stands for the register's rows
pub all_written : (stored : Store) (orders : List Order) (register : OwnersState) (answers : List Answer) (group : List ℕ) (low now : List (List ℕ)) → IsAhead stored orders register answers group
    → IsBegun low → book_of_lines low ≡ Some stored.book → now ≡ low ++ lines group → book_of_lines now ≡ Some (book_in register.owners)
all_written stored orders register answers group low now was begun rows is =
    ap book_of_lines is ∙ behind_begun low (lines group) begun ∙ ap (book_after_lines (lines group)) rows
    ∙ ap (λ (l : List (List ℕ)). book_after_lines l (Some stored.book)) was.lines.lines
    ∙ all_orders orders answers stored (store_in register) was.run was.fit

pub begun-append : (low more : List (List ℕ)) → IsBegun low → IsBegun (low ++ more)
begun-append [] more begun = absurd begun
begun-append (first ∷ low) more begun = tt

module _ {D : Type 0} (moment : D → ℕ) (left_since : D → ℕ → List ℕ → Type 0) where
  -- what two runs of calls leave
  pub both_leave : (old new : D) (P Q R : List ℕ → Type 0) → LeavesOnly moment left_since old new P → LeavesOnly moment left_since old new Q
      → ((c : List ℕ) → P c → Q c → R c) → LeavesOnly moment left_since old new R
  both_leave old new P Q R one two meet = record {
    later = one.later;
    each = λ c left. meet c (one.each c left) (two.each c left);
    before = λ t c le left. ⊎_elim (λ was. inl was) (λ p. ⊎_elim (λ was. inl was) (λ q. inr (meet c p q)) (two.before t c le left)) (one.before t c le left);
    keeps = one.keeps;
  }

-- what a crash leaves while the first line is written
pub first_stands : (c : List ℕ) (low group : List (List ℕ)) → low ≡ [] → group ≡ first_line ∷ [] → HasLinesBetween low (low ++ group) c → HasFence c × (book_of c ≡ Some empty_book)
first_stands c low group blank first between =
    (between.fence, front_of (recovered c) (between.at_most.0) (ap (λ (l : List (List ℕ)). l ++ group) (sym blank) ∙ between.at_most.1))
  where
    right : book_of_lines (first_line ∷ []) ≡ Some empty_book
    right = refl

    front_of : (ls rest : List (List ℕ)) → group ≡ ls ++ rest → book_of_lines ls ≡ Some empty_book
    front_of [] rest is = refl
    front_of (l ∷ []) rest is =
        let whole : first_line ∷ [] ≡ l ∷ rest = sym first ∙ is in
        let same : first_line ≡ l = cc in
        ap (λ (line : List ℕ). book_of_lines (line ∷ [])) (sym same) ∙ right
    front_of (l ∷ k ∷ ls) rest is = let whole : first_line ∷ [] ≡ l ∷ k ∷ (ls ++ rest) = sym first ∙ is in absurd cc
