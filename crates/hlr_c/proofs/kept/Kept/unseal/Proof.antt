-- `unseal`: the address has its type again, and with the allocator it makes the parts.
use Rattle.hlr_c.proofs.Common.{◌≡◌, subst, sym, List, [], ◌∷◌, ◌++◌, refl, Option, None, Some, ◌≢◌, OwnersState, FileJournal, IsJournaled, Goes-blank, handle_tells, leaves, proved_at, allocator, pair, pair_fits, parts_in}
use base.Fml.{ftrue}
use base.Logic.{SProp, emp, ent, id⊢}
use contract.Monad.{fact, fact_i}
use contract.Running.{tables}
use denote.Exit.{yes}
use denote.RattleType.{owns}
use denote.RawPtr.{block_ptr}
use denote.Signature.{plain, types_at}
use denote.Steps.{heard, nothing}
use denote.Triple.Walked.{Stays, stay_dropped, walk_of}
use mir.Val.{Val, vptr}
use prog.Wp.{WpFn}
use types.ByLocal.{alloc_all, free_all, get, get_in, look_at, pass_all, sets}
use types.Kit.{‵, raw, ◌⊛◌, ◌$◌, ◌∵◌, !, by, fjoin, fsplit, keep, move, qed, split, suffices, use0}
use types.Part.{agg, sub, whole}
use types.Run.{and_then, enter, fld, no_more, of_opd, returns, stop}
use Rattle.std.proofs.alloc.Global.TheLaws.{the_row_laws as global_laws}
use Rattle.std.specs.contracts.alloc.Global.{the_row as Global}
use Rattle.std.specs.contracts.impls.GlobalAllocator.TheImpl.{ghosts as of_global}
use Rattle.hlr_c.specs.contracts.opened.Opened.{the_row as Opened}
use Rattle.hlr_c.proofs.KeptSteps.{both, found, kept_out, word}
use Rattle.hlr_c.proofs.kept.Kept.unseal.Code as code
use Rattle.hlr_c.proofs.kept.Kept.unseal.Statement.{statement}
use Rattle.hlr_c.specs.contracts.kept.Kept.{the_row as Kept}
use Rattle.hlr_c.specs.contracts.kept.Kept.unseal as f

-- what the contract says of the register and the journal
abbrev Keeps : Option OwnersState → Option FileJournal → OwnersState → Option FileJournal → Type 0
Keeps register journal x j = (register ≡ Some x) × (journal ≡ j) × IsJournaled x j

pub unseal_spec : {M : Type 1} → statement M
unseal_spec 𝓤 𝓛 𝓜 𝓡 wired =
    let 𝓣 = tables 𝓤 𝓛.H 𝓜 𝓡 𝓡.env in
    let c = f.clauses 𝓛 𝓜.mem 𝓡.returns in
    let stays : Stays f.ended.signature.params f.ended.kept =
    (stay_dropped (plain (λ _. Kept)) yes, (stay_dropped (plain (λ _. Global)) yes, tt)) in
    proved_at 𝓛 f.ended stays c 𝓜 𝓡
    (Goes-blank 𝓛 0 (plain (λ _. Kept)) yes (λ κs x words. tt), (Goes-blank 𝓛 0 (plain (λ _. Global)) yes (λ κs x words. tt), tt))
    f.Key.name code.function (code.unfolded 𝓤 𝓛.H 𝓜 𝓡 wired) (λ z are.
    let kept = z.0.3.0 in let a = z.0.3.1.0 in
    let Post : Val → SProp 𝓤 = (walk_of 𝓛 f.ended stays c).post z in
    let Run : List Val → SProp 𝓤 = λ words. WpFn 𝓤 𝓛.H 𝓣.C 𝓣.Λ code.function words Post in
    qed 𝓛 ((‵ ftrue ⊛ ‵ (owns (types_at f.ended.signature.params z.0.0) z.0.3 z.0.4)) ∷ raw ((c z.0.0 z.0.3).requires z.1) ∷ []) ∵
    move ! (1 ∷ []) $ heard ! (kept.register ≢ None) (λ some.
    let x = (found kept.register some).0 in let is = (found kept.register some).1 in
    let j = kept.journal in
    split ! $ move ! (1 ∷ []) $ fsplit ! $ kept_out ! kept x is z.0.4.0 (λ journaled heap b o words.
    let is_kept = fact_i 𝓤 (Keeps kept.register kept.journal x j) (emp 𝓤) (is, refl, journaled) in
    move ! (1 ∷ []) $ fsplit ! $
    handle_tells (allocator Opened Global global_laws of_global) ! a z.0.4.1.0 (λ h is_alloc fits. move ! (2 ∷ 0 ∷ []) $
    -- [the block; the allocator]
    let made : Val = pair (vptr b o) h in let typed = pair_fits Opened Global global_laws of_global b o h fits in
    let passed : List Val = word (vptr b o) ∷ h ∷ [] in
    suffices ! (Run passed) (subst (λ (us : List Val). ent 𝓤 (Run passed) (Run us)) (sym (λ i. words i ++ (is_alloc i ++ []))) (id⊢ 𝓤 (Run passed))) $
    enter ! 𝓣.C 𝓣.Λ code.function passed Post $ alloc_all ! (λ l. pass_all ! refl ((tt, (tt, tt)), (fits, tt)) $
    -- the address, the address with its type, and the struct
    sets ! (of_opd ! (get_in ! (fld ! refl (stop !)) (sub ! 0 refl (whole !)))) refl (tt, tt) $
    sets ! (of_opd ! (get ! refl)) refl (tt, tt) $
    sets ! (agg ! (and_then ! (get ! refl) (and_then ! (get ! refl) (no_more !)))) refl typed $
    parts_in Opened Global global_laws of_global ! b o h a (both x j) $
    use0 𝓛 (raw (fact 𝓤 (Keeps kept.register kept.journal x j))) is_kept $ nothing ! $ nothing ! $ fjoin ! $ nothing ! $ fjoin ! $
    returns ! (look_at ! 0 refl) $ free_all ! refl $ keep ! (4 ∷ 0 ∷ 2 ∷ 1 ∷ []) $
    by ! (leaves 𝓛 f.ended stays c z made (record { address = block_ptr b o; alloc = a; value = both x j }) (tt, (tt, tt)) (tt, (tt, tt))))))))
