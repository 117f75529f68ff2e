-- The parts of a box in the machine: a pair of words, the address and the allocator. They own the value with the right
-- to free its block, and the allocator.
use Rattle.std.proofs.Common.{◌≡◌, ◌∙◌, ap, ℕ, List, [], ◌∷◌, ◌++◌, refl}
use lib.Dec.{T}
use mathlib.Core.Bool.{true, ◌&&◌}
use seplogic.Ra.Ura.{Ura}
use mir.Raw.{raw as bare}
use mir.Syntax.{impl, tnil, dnil}
use mir.Val.{Val, WT, has_ty, of_list, vcons, vnil, vptr, vstruct}
use base.Fml.{Fml}
use base.Logic.{fst∗, never}
use types.Logic.{Logic, sem}
use types.Kit.{Goal, Item, Seq, Step, step, ‵, ◌$◌, drop, feq_i, feq_l, fjoin, fpack, fpick, fsplit, move}
use denote.Builtin.{RawPtr}
use denote.Memory.{lone}
use denote.Param.{layout}
use denote.Param.Laws.{Laws}
use denote.RattleType.{RattleType, Valss}
use denote.RawPtr.{Ptr, block_ptr, in_a_block, null_ptr, ptr_val}
use denote.Steps.{nothing}
use denote.Struct.Owning.{shape}
use denote.Struct.Struct.{within}
use Rattle.std.specs.Box.Ownership.{box_owns}
use Rattle.std.specs.declared.alloc.Allocator.{Ghosts}
use Rattle.std.proofs.ResultValues.{and_tt}
use Rattle.std.proofs.alloc.Calls.{Al, handle_tells}
use Rattle.c_handle.specs.contracts.parts.BoxParts as parts

-- the pair of an address and an allocator
abbrev pub pair : Val → Val → Val
pair address alloc = vstruct (vcons address (vcons alloc vnil))

-- a value has this row's type in the machine
abbrev pub Fits : RattleType → Val → Type 0
Fits R v = T (has_ty (layout R) v) × WT v

-- T is the value's row, A the allocator's
module _ (R A : RattleType) (laws : Laws A) (g : Ghosts A.Denot) where
  abbrev pub Parts : RattleType
  Parts = parts.the_row R A g

  abbrev pub allocator : Al
  allocator = record { row = A; laws = laws; g = g; d = impl [] tnil dnil; drops = impl [] tnil dnil }

  -- what parts own beside the allocator
  abbrev pub block : A.Denot → Ptr → R.Denot → Fml
  block a p x = box_owns (g.dealloc_token a) R p x

  -- the pair has its type
  pub pair_fits : (b o : ℕ) (h : Val) → Fits A h → T (has_ty (layout A) h && true) × WT (pair (vptr b o) h)
  pair_fits b o h fits = (and_tt (has_ty (layout A) h) fits.0, (tt, (fits.1, tt)))

  module _ {M : Type 1} {𝓤 : Ura M} {𝓛 : Logic 𝓤} {K : Type 0} {Γ : List (Item 𝓤)} {G : Goal 𝓤 𝓛.H} where
    -- parts taken apart: the block and the allocator, and which words they are
    pub parts_out : K → (d : Parts.Denot) (vs : List Val)
        → ((b o : ℕ) (h : Val) → d.address ≡ block_ptr b o → vs ≡ pair (vptr b o) h ∷ [] → Fits A h
        → Seq K 𝓛 (‵ (block d.alloc (block_ptr b o) d.value) ∷ ‵ (A.own_val d.alloc (h ∷ [])) ∷ Γ) G)
        → Seq K 𝓛 (‵ (Parts.own_val d vs) ∷ Γ) G
    parts_out k d vs rest =
        let null_free = fst∗ 𝓤 (never 𝓤) (sem 𝓛 (g.dealloc_token d.alloc (bare (lone R.mir)) null_ptr)) in
        fsplit k $ fpick k (λ words. fsplit k $ feq_l k (λ is_struct. fsplit k $ feq_l k (λ is_address. fsplit k $
        handle_tells allocator k d.alloc words.1.0 (λ h is_alloc fits.
        move k (1 ∷ []) $ drop k $ move k (1 ∷ []) $
        in_a_block k d.address (λ p. block d.alloc p d.value) null_free (λ b o is_block.
        let spelled : words.0 ≡ vptr b o ∷ [] = is_address ∙ ap (λ (p : Ptr). ptr_val p ∷ []) is_block in
        rest b o h is_block (is_struct ∙ (λ i. vstruct (of_list (spelled i ++ (is_alloc i ++ []))) ∷ [])) fits)))))

    -- and put together again
    pub parts_in : K → (b o : ℕ) (h : Val) (a : A.Denot) (x : R.Denot)
        → Step K 𝓛 (‵ (Parts.own_val (record { address = block_ptr b o; alloc = a; value = x }) (pair (vptr b o) h ∷ [])) ∷ Γ) G
        (‵ (block a (block_ptr b o) x) ∷ ‵ (A.own_val a (h ∷ [])) ∷ Γ) G
    parts_in k b o h a x = step (λ rest.
        let word : List Val = vptr b o ∷ [] in let both : List Val = pair (vptr b o) h ∷ [] in
        let layered = within (shape (parts.the_type R A g)) (block_ptr b o, (a, tt)) both in
        nothing k $ move k (2 ∷ 0 ∷ []) $ fjoin k $ feq_i k (List Val) word word refl $ fjoin k $
        feq_i k (List Val) both both refl $ fjoin k $
        fpack k (Valss (RawPtr ∷ A ∷ [])) layered (word, (h ∷ [], tt)) $ fjoin k $ rest)
