-- `seal`: the address of the parts, with no type; the allocator takes no room, and is let go.
use Rattle.hlr_c.proofs.Common.{◌≡◌, subst, sym, List, [], ◌∷◌, ◌++◌, refl, Option, Some, OwnersState, FileJournal, IsJournaled, Goes-blank, leaves, proved_at, Parts, pair, pair_fits, parts_out}
use base.Fml.{ftrue}
use base.Logic.{SProp, emp, ent, id⊢}
use contract.Monad.{fact, fact_i}
use contract.Running.{tables}
use denote.Exit.{yes}
use denote.RattleType.{RattleType, owns}
use denote.RawPtr.{block_ptr}
use denote.Signature.{plain, types_at}
use denote.Steps.{heard, nothing}
use denote.Triple.Walked.{Stays, stay_dropped, walk_of}
use mir.Val.{Val, vptr}
use prog.Wp.{WpFn}
use types.ByLocal.{alloc_all, free_all, get, get_in, look_at, pass_all, sets}
use types.Kit.{‵, raw, ◌⊛◌, ◌$◌, ◌∵◌, !, by, fjoin, fsplit, keep, move, qed, split, suffices, use0}
use types.Part.{agg, sub, whole}
use types.Run.{and_then, enter, fld, no_more, of_opd, returns, stop}
use Rattle.std.proofs.alloc.Global.TheLaws.{the_row_laws as global_laws}
use Rattle.std.specs.contracts.alloc.Global.{the_row as Global}
use Rattle.std.specs.contracts.impls.GlobalAllocator.TheImpl.{ghosts as of_global}
use Rattle.hlr_c.specs.contracts.opened.Opened.{the_row as Opened}
use Rattle.hlr_c.proofs.KeptSteps.{kept_in, word}
use Rattle.hlr_c.proofs.kept.Kept.seal.Code as code
use Rattle.hlr_c.proofs.kept.Kept.seal.Statement.{statement}
use Rattle.hlr_c.specs.contracts.kept.Kept.seal as f

-- what the contract says of the register and the journal
abbrev Keeps : Option OwnersState → Option FileJournal → OwnersState → Option FileJournal → Type 0
Keeps register journal x j = (register ≡ Some x) × (journal ≡ j)

pub seal_spec : {M : Type 1} → statement M
seal_spec 𝓤 𝓛 𝓜 𝓡 wired =
    let 𝓣 = tables 𝓤 𝓛.H 𝓜 𝓡 𝓡.env in
    let c = f.clauses 𝓛 𝓜.mem 𝓡.returns in
    let Own : RattleType = Parts Opened Global global_laws of_global in
    let stays : Stays f.ended.signature.params f.ended.kept = (stay_dropped (plain (λ _. Own)) yes, tt) in
    proved_at 𝓛 f.ended stays c 𝓜 𝓡 (Goes-blank 𝓛 0 (plain (λ _. Own)) yes (λ κs x words. tt), tt)
    f.Key.name code.function (code.unfolded 𝓤 𝓛.H 𝓜 𝓡 wired) (λ z are.
    let parts = z.0.3.0 in
    let Post : Val → SProp 𝓤 = (walk_of 𝓛 f.ended stays c).post z in
    let Run : List Val → SProp 𝓤 = λ words. WpFn 𝓤 𝓛.H 𝓣.C 𝓣.Λ code.function words Post in
    let x = parts.value.lender in let j = parts.value.journal in
    let is_kept = fact_i 𝓤 (Keeps (Some x) j x j) (emp 𝓤) (refl, refl) in
    qed 𝓛 ((‵ ftrue ⊛ ‵ (owns (types_at f.ended.signature.params z.0.0) z.0.3 z.0.4)) ∷ raw ((c z.0.0 z.0.3).requires z.1) ∷ []) ∵
    move ! (1 ∷ []) $ heard ! (IsJournaled x j) (λ journaled. split ! $ move ! (1 ∷ []) $ fsplit ! $
    parts_out Opened Global global_laws of_global ! parts z.0.4.0 (λ b o h at words fits.
    let w : Val = pair (vptr b o) h in let typed = pair_fits Opened Global global_laws of_global b o h fits in
    suffices ! (Run (w ∷ [])) (subst (λ (us : List Val). ent 𝓤 (Run (w ∷ [])) (Run us)) (sym (λ i. words i ++ [])) (id⊢ 𝓤 (Run (w ∷ [])))) $
    enter ! 𝓣.C 𝓣.Λ code.function (w ∷ []) Post $ alloc_all ! (λ l. pass_all ! refl (typed, tt) $
    -- the address, the address as it is stored, and the struct
    sets ! (of_opd ! (get_in ! (fld ! refl (stop !)) (sub ! 0 refl (whole !)))) refl (tt, tt) $
    sets ! (of_opd ! (get ! refl)) refl (tt, tt) $
    sets ! (agg ! (and_then ! (get ! refl) (no_more !))) refl (tt, (tt, tt)) $
    kept_in ! parts.alloc b o x j journaled $
    use0 𝓛 (raw (fact 𝓤 (Keeps (Some x) j x j))) is_kept $ nothing ! $ nothing ! $ fjoin ! $
    returns ! (look_at ! 0 refl) $ free_all ! refl $ keep ! (4 ∷ 0 ∷ 2 ∷ 1 ∷ []) $
    by ! (leaves 𝓛 f.ended stays c z (word (vptr b o)) (record { address = block_ptr b o; register = Some x; journal = j }) (tt, tt) (tt, tt))))))
