-- `of`: the box is handed to the call that takes it apart, and what that answers are the fields.
use Rattle.std.proofs.Common.{◌≡◌, ◌∙◌, ap, subst, sym, List, [], ◌∷◌, ◌++◌, refl}
use base.Fml.{flft, fsep, ftrue}
use base.Logic.{SProp, emp, ent, fst∗, id⊢, never}
use contract.Monad.{fact, fact_i}
use contract.Running.{tables}
use denote.Builtin.{RawPtr}
use denote.Exit.{no}
use denote.Param.{bounded, layout, param}
use denote.Param.Laws.{param_laws}
use denote.RattleType.{RattleType, owns}
use denote.RawPtr.{Ptr, block_ptr, in_a_block, null_ptr, ptr_val}
use denote.Signature.{plain, types_at}
use denote.Steps.{heard, nothing, only}
use denote.Struct.Tuple.{Tuple}
use denote.Triple.Call.{calls_at}
use denote.Triple.Spec.{triple_of}
use denote.Triple.Table.{framed}
use denote.Triple.Walked.{Stays, stay_dropped, walk_of}
use mir.MapTy.{inst_fn}
use mir.Raw.{raw as bare}
use mir.Syntax.{a_type, dcons, dnil}
use mir.Val.{Val, of_list, vptr, vstruct}
use prog.Wp.{WpFn}
use types.ByLocal.{alloc_all, free_all, get, get_in, lands_as, look_at, pass_all, sets}
use types.Kit.{‵, raw, ◌⊛◌, ◌$◌, ◌∵◌, !, await, by, drop, feq_l, fjoin, fpick, fsplit, join, keep, later, move, pick, qed, rewrite, some, split, split3, suffices, use0, use1}
use types.Logic.{sem}
use types.Part.{agg, sub, whole}
use types.Run.{and_then, enter, fld, no_more, of_opd, returns, stop}
use Rattle.std.proofs.BoxSteps.Form as box
use Rattle.std.proofs.BoxSteps.Steps.{box_in, box_out}
use Rattle.std.proofs.alloc.Calls.{Goes-blank, handle_tells}
use Rattle.std.proofs.boxed.Box.into_raw_with_allocator.Met.{met}
use Rattle.std.proofs.raw_atomic.Walks.{leaves, proved_at}
use Rattle.std.specs.contracts.boxed.Box.into_raw_with_allocator as taken_apart
use Rattle.c_handle.proofs.PartsSteps.{pair, pair_fits, parts_in, block}
use Rattle.c_handle.proofs.parts.BoxParts.of.Code as code
use Rattle.c_handle.proofs.parts.BoxParts.of.Statement.{statement}
use Rattle.c_handle.specs.contracts.parts.BoxParts.of.{clauses, ended}
use Rattle.c_handle.specs.contracts.parts.BoxParts.of.Key.{name as #of}

pub of_spec : {M : Type 1} → statement M
of_spec 𝓤 𝓛 𝓜 𝓡 wired T A laws_T laws_A g dict drop_T drop_A allocates glue_T glue_A =
    let 𝓣 = tables 𝓤 𝓛.H 𝓜 𝓡 𝓡.env in
    let R : RattleType = param 0 T in
    let Z : RattleType = param 1 A in
    let laws_Z = param_laws 1 A laws_A in
    let B : box.Bx = record { row = T; laws = laws_T; al = record { row = A; laws = laws_A; g = g; d = dict; drops = drop_A } } in
    let passed = bounded (a_type ∷ a_type ∷ []) (T, (A, tt)) (dcons dict (dcons drop_T (dcons drop_A dnil))) in
    let code_here = inst_fn passed code.function in
    let end = ended T A g dict drop_T drop_A in
    let c = clauses T A g dict drop_T drop_A 𝓛 𝓜.mem 𝓡.returns in
    let stays : Stays end.signature.params end.kept = (stay_dropped (plain (λ _. box.B B)) no, tt) in
    proved_at 𝓛 end stays c 𝓜 𝓡 (Goes-blank 𝓛 2 (plain (λ _. box.B B)) no (λ κs x words. tt), tt)
    (#of passed) code_here (code.unfolded 𝓤 𝓛.H 𝓜 𝓡 wired (T, (A, tt)) dict drop_T drop_A) (λ z are.
    let κs = z.0.0 in let qs = z.0.1 in let boxed = z.0.3.0 in let a = boxed.alloc in
    let Post : Val → SProp 𝓤 = (walk_of 𝓛 end stays c).post z in
    let Run : List Val → SProp 𝓤 = λ words. WpFn 𝓤 𝓛.H 𝓣.C 𝓣.Λ code_here words Post in
    let alive = ‵ (flft κs.0 qs.0) ⊛ ‵ (flft κs.1.0 qs.1.0) ⊛ ‵ ftrue in
    qed 𝓛 ((alive ⊛ ‵ (owns (types_at end.signature.params κs) z.0.3 z.0.4)) ∷ raw ((c κs z.0.3).requires z.1) ∷ []) ∵
    split ! $ move ! (1 ∷ []) $ fsplit ! $
    box_out B ! boxed z.0.4.0 (λ b o h at words fits. box_in B ! boxed b o boxed.value at refl $
    -- [the box; ..; the tokens]: as the call wants them
    let w : Val = box.word B h b o in let typed = pair_fits R Z laws_Z g b o h fits in
    let callee = triple_of 𝓛 (taken_apart.signature T A g dict drop_A drop_T) (taken_apart.spec T A g dict drop_A drop_T 𝓛 𝓜.mem 𝓡.returns) in
    let y : callee.Ghost = ((κs, qs, tt, (boxed, tt), (w ∷ [], tt)), tt) in
    fjoin ! $ move ! (1 ∷ 0 ∷ []) $ join ! $ join ! $ use1 𝓛 (raw (callee.pre y)) (id⊢ 𝓤 _) $
    suffices ! (Run (w ∷ [])) (subst (λ (us : List Val). ent 𝓤 (Run (w ∷ [])) (Run us)) (sym (λ i. words i ++ [])) (id⊢ 𝓤 (Run (w ∷ [])))) $
    enter ! 𝓣.C 𝓣.Λ code_here (w ∷ []) Post $ alloc_all ! (λ l. pass_all ! refl (typed, tt) $
    sets ! (of_opd ! (get ! refl)) refl typed $
    calls_at ! (framed 𝓤 𝓛.H 𝓜 𝓣) callee
    (met 𝓤 𝓛 𝓜 𝓡 (code.calls-std_alloc::boxed::Box::into_raw_with_allocator 𝓡.env wired) T A laws_T laws_A g dict drop_A drop_T allocates glue_A glue_T)
    y (and_then ! (get ! refl) (no_more !)) (λ answer.
    let Answer = Tuple (RawPtr ∷ Z ∷ []) in
    use1 𝓛 (later (some (λ (r : Ptr × A.Denot). (alive ⊛ ‵ (Answer.own_val r (answer ∷ []))) ⊛
    some (λ (_ : (Unit {0} × (Unit {0} × Unit {0})) × Unit {0}). ‵ (fsep (fsep ftrue (fsep ftrue ftrue)) ftrue) ⊛
    (raw (fact 𝓤 (r.1 ≡ a)) ⊛ ‵ (block R Z laws_Z g a r.0 boxed.value)))))) (id⊢ 𝓤 _) $
    await ! tt $ pick ! (λ r. split ! $ move ! (1 ∷ []) $ pick ! (λ _. split3 ! $ drop ! $ heard ! (r.1 ≡ a) (λ same_alloc.
    -- [the block; the tokens with the answer]: the address isn't null, and the answer is a pair of words
    let null_free = fst∗ 𝓤 (never 𝓤) (sem 𝓛 (g.dealloc_token a (bare (layout T)) null_ptr)) in
    in_a_block ! r.0 (λ p. block R Z laws_Z g a p boxed.value) null_free (λ b' o' at'.
    move ! (1 ∷ []) $ split ! $ move ! (1 ∷ []) $
    fpick ! (λ both. fsplit ! $ feq_l ! (λ is_tuple. fsplit ! $ feq_l ! (λ is_address. fsplit ! $
    rewrite ! 0 (λ (s : A.Denot). ‵ (A.own_val s both.1.0)) same_alloc refl $
    handle_tells B.al ! a both.1.0 (λ h' is_alloc fits'.
    let made = pair_fits R Z laws_Z g b' o' h' fits' in
    let spelled : both.0 ≡ vptr b' o' ∷ [] = is_address ∙ ap (λ (p : Ptr). ptr_val p ∷ []) at' in
    let told : answer ∷ [] ≡ pair (vptr b' o') h' ∷ [] = is_tuple ∙ (λ i. vstruct (of_list (spelled i ++ (is_alloc i ++ []))) ∷ []) in
    lands_as ! (ap only told) refl made $
    sets ! (of_opd ! (get_in ! (fld ! refl (stop !)) (sub ! 0 refl (whole !)))) refl (tt, tt) $
    sets ! (of_opd ! (get_in ! (fld ! refl (stop !)) (sub ! 1 refl (whole !)))) refl fits' $
    sets ! (of_opd ! (get ! refl)) refl fits' $
    sets ! (agg ! (and_then ! (get ! refl) (and_then ! (get ! refl) (no_more !)))) refl made $
    move ! (3 ∷ 0 ∷ []) $ parts_in R Z laws_Z g ! b' o' h' a boxed.value $
    use0 𝓛 (raw (fact 𝓤 (boxed.value ≡ boxed.value))) (fact_i 𝓤 (boxed.value ≡ boxed.value) (emp 𝓤) refl) $
    nothing ! $ nothing ! $ fjoin ! $ returns ! (look_at ! 0 refl) $ free_all ! refl $ keep ! (4 ∷ 0 ∷ 2 ∷ 1 ∷ []) $
    by ! (leaves 𝓛 end stays c z (pair (vptr b' o') h') (record { address = block_ptr b' o'; alloc = a; value = boxed.value }) ((tt, (tt, tt)), tt) (tt, tt))))))))))))))
