-- `none`: a null address, with which nothing is owned.
use Rattle.hlr_c.proofs.Common.{◌≡◌, [], ◌∷◌, lit<, refl, Option, None, OwnersState, FileJournal, leaves, proved_at}
use base.Fml.{ftrue}
use base.Logic.{SProp, emp}
use contract.Monad.{fact, fact_i}
use contract.Running.{tables}
use denote.RawPtr.{null_ptr}
use denote.Steps.{nothing}
use denote.Triple.Walked.{walk_of}
use mir.Syntax.{w64}
use mir.Val.{Val, vint}
use types.ByLocal.{alloc_all, free_all, look_at, pass_all, sets}
use types.Kit.{‵, raw, ◌⊛◌, ◌$◌, ◌∵◌, !, by, keep, qed, split, use0}
use types.Part.{agg}
use types.Run.{and_then, enter, lit, no_more, returns}
use Rattle.hlr_c.proofs.KeptSteps.{none_in, word}
use Rattle.hlr_c.proofs.kept.Kept.none.Code as code
use Rattle.hlr_c.proofs.kept.Kept.none.Statement.{statement}
use Rattle.hlr_c.specs.contracts.kept.Kept.none as f

-- what the contract says of the register and the journal
abbrev IsNone : Option OwnersState → Option FileJournal → Type 0
IsNone register journal = (register ≡ None) × (journal ≡ None)

pub none_spec : {M : Type 1} → statement M
none_spec 𝓤 𝓛 𝓜 𝓡 wired =
    let 𝓣 = tables 𝓤 𝓛.H 𝓜 𝓡 𝓡.env in
    let c = f.clauses 𝓛 𝓜.mem 𝓡.returns in
    proved_at 𝓛 f.ended tt c 𝓜 𝓡 tt f.Key.name code.function (code.unfolded 𝓤 𝓛.H 𝓜 𝓡 wired) (λ z are.
    let Post : Val → SProp 𝓤 = (walk_of 𝓛 f.ended tt c).post z in
    let none_is_none = fact_i 𝓤 (IsNone None None) (emp 𝓤) (refl, refl) in
    qed 𝓛 ((‵ ftrue ⊛ ‵ ftrue) ∷ raw ((c z.0.0 z.0.3).requires z.1) ∷ []) ∵ split ! $
    enter ! 𝓣.C 𝓣.Λ code.function [] Post $ alloc_all ! (λ l. pass_all ! refl tt $
    sets ! (agg ! (and_then ! (lit ! tt) (no_more !))) refl (tt, (record { fits = lit< tt }, tt)) $
    none_in ! $ use0 𝓛 (raw (fact 𝓤 (IsNone None None))) none_is_none $ nothing ! $
    returns ! (look_at ! 0 refl) $ free_all ! refl $ keep ! (3 ∷ 0 ∷ 2 ∷ 1 ∷ []) $
    by ! (leaves 𝓛 f.ended tt c z (word (vint w64 0)) (record { address = null_ptr; register = None; journal = None }) tt tt)))
