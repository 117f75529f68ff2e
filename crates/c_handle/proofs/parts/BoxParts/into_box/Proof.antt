-- `into_box`: the fields are handed to the call that makes a box of an address and an allocator.
use Rattle.std.proofs.Common.{◌≡◌, ap, subst, sym, List, [], ◌∷◌, ◌++◌, refl}
use base.Fml.{flft, ftrue}
use base.Logic.{SProp, ent, id⊢}
use contract.BorrowLft.{◌⊑◌}
use contract.Monad.{fact}
use contract.Running.{tables}
use denote.Exit.{no}
use denote.Param.{bounded, param}
use denote.Param.Laws.{param_laws}
use denote.RattleType.{RattleType, owns}
use denote.RawPtr.{block_ptr}
use denote.Signature.{plain, types_at}
use denote.Steps.{nothing, only}
use denote.Triple.Call.{calls_at_last}
use denote.Triple.Clauses.{Lasts, lasts}
use denote.Triple.Spec.{triple_of}
use denote.Triple.Table.{framed}
use denote.Triple.Walked.{Stays, stay_dropped, walk_of}
use mir.MapTy.{inst_fn}
use mir.Syntax.{a_type, dcons, dnil}
use mir.Val.{Val, vptr}
use prog.Wp.{WpFn}
use types.ByLocal.{alloc_all, env, free_all, get, get_in, lands_last, look_at, pass_all, sets}
use types.Kit.{‵, raw, ◌⊛◌, ◌$◌, ◌∵◌, !, at_ret, await, by, drop, feq_i, fjoin, fsplit, join, keep, later, move, pick, qed, rewrite, some, split, split3, suffices, use1}
use types.Part.{sub, whole}
use types.Run.{and_then, blocks, enter, exec, first, fld, no_more, of_opd, returns, stop}
use Rattle.std.proofs.BoxSteps.Form as box
use Rattle.std.proofs.BoxSteps.Steps.{box_in, box_out}
use Rattle.std.proofs.alloc.Calls.{Goes-blank}
use Rattle.std.proofs.alloc.Shapes.{after}
use Rattle.std.proofs.boxed.Box.from_raw.Met.{met}
use Rattle.std.proofs.raw_atomic.Walks.{leaves, proved_at}
use Rattle.std.specs.contracts.boxed.Box.from_raw as made_of_raw
use Rattle.c_handle.proofs.PartsSteps.{Fits, Parts, pair, pair_fits, parts_out}
use Rattle.c_handle.proofs.parts.BoxParts.into_box.Code as code
use Rattle.c_handle.proofs.parts.BoxParts.into_box.Statement.{statement}
use Rattle.c_handle.specs.contracts.parts.BoxParts.into_box.{clauses, ended}
use Rattle.c_handle.specs.contracts.parts.BoxParts.into_box.Key.{name as #into_box}

pub into_box_spec : {M : Type 1} → statement M
into_box_spec 𝓤 𝓛 𝓜 𝓡 wired T A laws_T laws_A g dict drop_T drop_A allocates glue_T glue_A =
    let 𝓣 = tables 𝓤 𝓛.H 𝓜 𝓡 𝓡.env in
    let R : RattleType = param 0 T in
    let Z : RattleType = param 1 A in
    let laws_Z = param_laws 1 A laws_A in
    let B : box.Bx = record { row = T; laws = laws_T; al = record { row = A; laws = laws_A; g = g; d = dict; drops = drop_A } } in
    let Boxed : RattleType = box.B B in
    let passed = bounded (a_type ∷ a_type ∷ []) (T, (A, tt)) (dcons dict (dcons drop_T (dcons drop_A dnil))) in
    let code_here = inst_fn passed code.function in
    let end = ended T A g dict drop_T drop_A in
    let c = clauses T A g dict drop_T drop_A 𝓛 𝓜.mem 𝓡.returns in
    let Own : RattleType = Parts R Z laws_Z g in
    let stays : Stays end.signature.params end.kept = (stay_dropped (plain (λ _. Own)) no, tt) in
    proved_at 𝓛 end stays c 𝓜 𝓡 (Goes-blank 𝓛 2 (plain (λ _. Own)) no (λ κs x words. tt), tt)
    (#into_box passed) code_here (code.unfolded 𝓤 𝓛.H 𝓜 𝓡 wired (T, (A, tt)) dict drop_T drop_A) (λ z are.
    let κs = z.0.0 in let qs = z.0.1 in let parts = z.0.3.0 in let a = parts.alloc in
    let Post : Val → SProp 𝓤 = (walk_of 𝓛 end stays c).post z in
    let Run : List Val → SProp 𝓤 = λ words. WpFn 𝓤 𝓛.H 𝓣.C 𝓣.Λ code_here words Post in
    let alive = ‵ (flft κs.0 qs.0) ⊛ ‵ (flft κs.1.0 qs.1.0) ⊛ ‵ ftrue in
    qed 𝓛 ((alive ⊛ ‵ (owns (types_at end.signature.params κs) z.0.3 z.0.4)) ∷ raw ((c κs z.0.3).requires z.1) ∷ []) ∵
    split ! $ move ! (1 ∷ []) $ fsplit ! $
    parts_out R Z laws_Z g ! parts z.0.4.0 (λ b o h at words fits.
    let w : Val = pair (vptr b o) h in let typed = pair_fits R Z laws_Z g b o h fits in
    let callee = triple_of 𝓛 (made_of_raw.signature T A g dict drop_A) (made_of_raw.spec T A g dict drop_A 𝓛 𝓜.mem 𝓡.returns) in
    let y : callee.Ghost = ((κs, qs, tt, (a, (block_ptr b o, tt)), (h ∷ [], (vptr b o ∷ [], tt))), parts.value) in
    -- [what is required; the block; the allocator; ..; the tokens]: as the call wants them
    move ! (4 ∷ []) $ use1 𝓛 (raw (fact 𝓤 (κs.0 ⊑ T.lives)) ⊛ raw (fact 𝓤 (κs.1.0 ⊑ A.lives)) ⊛ ‵ ftrue) (id⊢ 𝓤 _) $
    split3 ! $ move ! (2 ∷ []) $ drop ! $ move ! (1 ∷ 2 ∷ []) $ join ! $ move ! (1 ∷ 0 ∷ []) $ join ! $ move ! (2 ∷ []) $
    feq_i ! (List Val) (vptr b o ∷ []) (vptr b o ∷ []) refl $ fjoin ! $
    move ! (2 ∷ 0 ∷ []) $ fjoin ! $ move ! (2 ∷ 0 ∷ []) $ join ! $ join ! $ use1 𝓛 (raw (callee.pre y)) (id⊢ 𝓤 _) $
    suffices ! (Run (w ∷ [])) (subst (λ (us : List Val). ent 𝓤 (Run (w ∷ [])) (Run us)) (sym (λ i. words i ++ [])) (id⊢ 𝓤 (Run (w ∷ [])))) $
    enter ! 𝓣.C 𝓣.Λ code_here (w ∷ []) Post $ alloc_all ! (λ l. pass_all ! refl (typed, tt) $
    let Here = env code_here.locals l in
    sets ! (of_opd ! (get_in ! (fld ! refl (stop !)) (sub ! 0 refl (whole !)))) refl (tt, tt) $
    sets ! (of_opd ! (get_in ! (fld ! refl (stop !)) (sub ! 1 refl (whole !)))) refl fits $
    first ! $ blocks ! $ sets ! (of_opd ! (get ! refl)) refl fits $
    calls_at_last ! (framed 𝓤 𝓛.H 𝓜 𝓣) callee
    (met 𝓤 𝓛 𝓜 𝓡 (code.calls-std_alloc::boxed::Box::from_raw 𝓡.env wired) T A laws_T laws_A g dict drop_A allocates glue_A)
    y (and_then ! (get ! refl) (and_then ! (get ! refl) (no_more !))) (λ answer.
    let callee_end = made_of_raw.ended T A g dict drop_A in
    use1 𝓛 (later (some (λ (r : Boxed.Denot). (alive ⊛ ‵ (Boxed.own_val r (answer ∷ []))) ⊛
    some (λ (ls : Lasts callee_end κs y.0.3). ‵ (lasts callee_end κs y.0.3 ls) ⊛
    (raw (fact 𝓤 (r.value ≡ parts.value)) ⊛ raw (fact 𝓤 (r.alloc ≡ a))))))) (id⊢ 𝓤 (callee.post y answer)) $
    await ! tt $ pick ! (λ r. split ! $ move ! (1 ∷ []) $ pick ! (λ _. split3 ! $ drop ! $ move ! (2 ∷ []) $ split ! $ move ! (1 ∷ []) $
    -- [the box; the tokens; ..]: the answer is one word that fits
    box_out B ! r (answer ∷ []) (λ b' o' h' at' told fits'. box_in B ! r b' o' r.value at' refl $
    rewrite ! 0 (λ (us : List Val). ‵ (Boxed.own_val r us)) (sym told) refl $
    let good : Fits Boxed answer = subst (Fits Boxed) (sym (ap only told)) (pair_fits R Z laws_Z g b' o' h' fits') in
    lands_last ! refl good $ exec ! 𝓣.C 𝓣.Λ Here (after 3 code_here.body) (at_ret Here Post) $
    sets ! (of_opd ! (get ! refl)) refl good $ nothing ! $ nothing ! $ fjoin ! $
    returns ! (look_at ! 0 refl) $ free_all ! refl $ keep ! (2 ∷ 0 ∷ 1 ∷ 3 ∷ []) $
    by ! (leaves 𝓛 end stays c z answer r ((tt, (tt, tt)), tt) (tt, tt)))))))))
