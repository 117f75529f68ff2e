-- A kept part in the machine: one word, its address, which owns what `held` says.
use Rattle.hlr_c.proofs.Common.{◌≡◌, ◌∙◌, ap, ℕ, List, [], ◌∷◌, ◌++◌, refl, Option, Some, None, box_owns, Global, held}
use seplogic.Ra.Ura.{Ura}
use mir.Raw.{raw as bare}
use mir.Syntax.{w64}
use mir.Val.{Val, of_list, vint, vptr, vstruct}
use base.Fml.{Fml}
use base.Logic.{fst∗, never}
use types.Logic.{Logic, sem}
use types.Kit.{Goal, Item, Seq, Step, step, ‵, ◌$◌, drop, feq_i, feq_l, fjoin, fpack, fpick, fsplit, rewrite}
use denote.Builtin.{RawPtr}
use denote.Memory.{lone}
use denote.RattleType.{Valss}
use denote.RawPtr.{Ptr, block_ptr, in_a_block, null_ptr, ptr_val}
use denote.Steps.{nothing}
use denote.Struct.Owning.{shape}
use denote.Struct.Struct.{within}
use Rattle.std.specs.contracts.impls.GlobalAllocator.TheImpl.{ghosts as of_global}
use Rattle.hlr_lent.specs.contracts.lent_part.LentPart.{the_row as LentPart}
use Rattle.hlr_c.specs.contracts.kept_part.KeptPart as kept
use Rattle.hlr_c.proofs.KeptSteps.{word}

-- a part at an address, with the right to free its block, which whoever asks the heap has
abbrev pub block : Global → Ptr → LentPart.Denot → Fml
block alloc p x = box_owns (of_global.dealloc_token alloc) LentPart p x

module _ {M : Type 1} {𝓤 : Ura M} {𝓛 : Logic 𝓤} {K : Type 0} {Γ : List (Item 𝓤)} {G : Goal 𝓤 𝓛.H} where
  -- a kept part taken apart: the block, and which word it is
  pub kept_out : K → (d : kept.the_row.Denot) (x : LentPart.Denot) → d.part ≡ Some x → (vs : List Val)
      → ((alloc : Global) (b o : ℕ) → vs ≡ word (vptr b o) ∷ [] → Seq K 𝓛 (‵ (block alloc (block_ptr b o) x) ∷ Γ) G)
      → Seq K 𝓛 (‵ (kept.the_row.own_val d vs) ∷ Γ) G
  kept_out k d x is vs rest =
      fsplit k $ fpick k (λ words. fsplit k $ feq_l k (λ is_struct. fsplit k $ feq_l k (λ is_address. drop k $
      rewrite k 0 (λ (held_here : Option LentPart.Denot). ‵ (held LentPart d.address held_here)) is refl $ fpick k (λ alloc.
      let null_free = fst∗ 𝓤 (never 𝓤) (sem 𝓛 (of_global.dealloc_token alloc (bare (lone LentPart.mir)) null_ptr)) in
      in_a_block k d.address (λ p. block alloc p x) null_free (λ b o is_block.
      let spelled : words.0 ≡ vptr b o ∷ [] = is_address ∙ ap (λ (p : Ptr). ptr_val p ∷ []) is_block in
      rest alloc b o (is_struct ∙ ap (λ (us : List Val). vstruct (of_list (us ++ [])) ∷ []) spelled))))))

  -- and put together again
  pub kept_in : K → (alloc : Global) (b o : ℕ) (x : LentPart.Denot)
      → Step K 𝓛 (‵ (kept.the_row.own_val (record { address = block_ptr b o; part = Some x }) (word (vptr b o) ∷ [])) ∷ Γ) G
      (‵ (block alloc (block_ptr b o) x) ∷ Γ) G
  kept_in k alloc b o x = step (λ rest.
      let address : List Val = vptr b o ∷ [] in let whole : List Val = word (vptr b o) ∷ [] in
      fpack k Global (λ (heap : Global). block heap (block_ptr b o) x) alloc $ nothing k $ feq_i k (List Val) address address refl $ fjoin k $ feq_i k (List Val) whole whole refl $ fjoin k $
      fpack k (Valss (RawPtr ∷ [])) (within (shape kept.the_type) (block_ptr b o, tt) whole) (address, tt) $ fjoin k $ rest)

  -- one that keeps nothing is made of nothing
  pub none_in : K → Step K 𝓛 (‵ (kept.the_row.own_val (record { address = null_ptr; part = None }) (word (vint w64 0) ∷ [])) ∷ Γ) G Γ G
  none_in k = step (λ rest.
      let address : List Val = vint w64 0 ∷ [] in let whole : List Val = word (vint w64 0) ∷ [] in
      nothing k $ nothing k $ feq_i k (List Val) address address refl $ fjoin k $ feq_i k (List Val) whole whole refl $ fjoin k $
      fpack k (Valss (RawPtr ∷ [])) (within (shape kept.the_type) (null_ptr, tt) whole) (address, tt) $ fjoin k $ rest)
