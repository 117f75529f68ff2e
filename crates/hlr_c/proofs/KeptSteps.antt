-- A kept register in the machine: one word, its address, which owns what `held_open` says.
use Rattle.hlr_c.proofs.Common.{◌≡◌, ◌∙◌, ap, ℕ, List, [], ◌∷◌, ◌++◌, refl, Option, Some, None, ◌≢◌, box_owns, Global, OwnersState, FileJournal, IsJournaled, held, held_open}
use seplogic.Ra.Ura.{Ura}
use mir.Raw.{raw as bare}
use mir.Syntax.{w64}
use mir.Val.{Val, of_list, vcons, vint, vnil, vptr, vstruct}
use base.Fml.{Fml}
use base.Logic.{fst∗, never}
use types.Logic.{Logic, sem}
use types.Kit.{Goal, Item, Seq, Step, step, ‵, ◌$◌, drop, feq_i, feq_l, fjoin, fpack, fpick, fsplit, rewrite}
use denote.Builtin.{RawPtr}
use denote.Memory.{lone}
use denote.RattleType.{Valss}
use denote.RawPtr.{Ptr, block_ptr, in_a_block, null_ptr, ptr_val}
use denote.Steps.{nothing}
use denote.Struct.Owning.{shape}
use denote.Struct.Struct.{within}
use Rattle.std.specs.contracts.impls.GlobalAllocator.TheImpl.{ghosts as of_global}
use Rattle.hlr_c.specs.contracts.kept.Kept as kept
use Rattle.hlr_c.specs.contracts.opened.Opened.{the_row as Opened}

-- the value of an option that isn't none
pub found : {X : Type 0} (o : Option X) → o ≢ None → (x : X) × (o ≡ Some x)
found None some = absurd (some refl)
found (Some x) some = (x, refl)

-- the struct of one word
abbrev pub word : Val → Val
word address = vstruct (vcons address vnil)

-- a register with its journal
abbrev pub both : OwnersState → Option FileJournal → Opened.Denot
both register journal = record { lender = register; journal = journal }

-- what is open at an address, with the right to free its block, which whoever asks the heap has
abbrev pub block : Global → Ptr → Opened.Denot → Fml
block alloc p x = box_owns (of_global.dealloc_token alloc) Opened p x

module _ {M : Type 1} {𝓤 : Ura M} {𝓛 : Logic 𝓤} {K : Type 0} {Γ : List (Item 𝓤)} {G : Goal 𝓤 𝓛.H} where
  -- a kept register taken apart: that its journal keeps it, the block, and which word it is
  pub kept_out : K → (d : kept.the_row.Denot) (x : OwnersState) → d.register ≡ Some x → (vs : List Val)
      → (IsJournaled x d.journal → (alloc : Global) (b o : ℕ) → vs ≡ word (vptr b o) ∷ [] → Seq K 𝓛 (‵ (block alloc (block_ptr b o) (both x d.journal)) ∷ Γ) G)
      → Seq K 𝓛 (‵ (kept.the_row.own_val d vs) ∷ Γ) G
  kept_out k d x is vs rest =
      fsplit k $ fpick k (λ words. fsplit k $ feq_l k (λ is_struct. fsplit k $ feq_l k (λ is_address. drop k $
      rewrite k 0 (λ (here : Option OwnersState). ‵ (held_open d.address here d.journal)) is refl $ fpick k (λ journaled. fpick k (λ alloc.
      let null_free = fst∗ 𝓤 (never 𝓤) (sem 𝓛 (of_global.dealloc_token alloc (bare (lone Opened.mir)) null_ptr)) in
      in_a_block k d.address (λ p. block alloc p (both x d.journal)) null_free (λ b o is_block.
      let spelled : words.0 ≡ vptr b o ∷ [] = is_address ∙ ap (λ (p : Ptr). ptr_val p ∷ []) is_block in
      rest journaled alloc b o (is_struct ∙ ap (λ (us : List Val). vstruct (of_list (us ++ [])) ∷ []) spelled)))))))

  -- and put together again
  pub kept_in : K → (alloc : Global) (b o : ℕ) (x : OwnersState) (j : Option FileJournal) → IsJournaled x j
      → Step K 𝓛 (‵ (kept.the_row.own_val (record { address = block_ptr b o; register = Some x; journal = j }) (word (vptr b o) ∷ [])) ∷ Γ) G
      (‵ (block alloc (block_ptr b o) (both x j)) ∷ Γ) G
  kept_in k alloc b o x j journaled = step (λ rest.
      let address : List Val = vptr b o ∷ [] in let whole : List Val = word (vptr b o) ∷ [] in
      fpack k Global (λ (heap : Global). block heap (block_ptr b o) (both x j)) alloc $
      fpack k (IsJournaled x j) (λ (by : IsJournaled x j). held Opened (block_ptr b o) (Some (both x j))) journaled $
      nothing k $ feq_i k (List Val) address address refl $ fjoin k $ feq_i k (List Val) whole whole refl $ fjoin k $
      fpack k (Valss (RawPtr ∷ [])) (within (shape kept.the_type) (block_ptr b o, tt) whole) (address, tt) $ fjoin k $ rest)

  -- one that keeps nothing is made of nothing
  pub none_in : K → Step K 𝓛 (‵ (kept.the_row.own_val (record { address = null_ptr; register = None; journal = None }) (word (vint w64 0) ∷ [])) ∷ Γ) G Γ G
  none_in k = step (λ rest.
      let address : List Val = vint w64 0 ∷ [] in let whole : List Val = word (vint w64 0) ∷ [] in
      nothing k $ nothing k $ feq_i k (List Val) address address refl $ fjoin k $ feq_i k (List Val) whole whole refl $ fjoin k $
      fpack k (Valss (RawPtr ∷ [])) (within (shape kept.the_type) (null_ptr, tt) whole) (address, tt) $ fjoin k $ rest)
