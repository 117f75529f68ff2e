-- Each step of a queue keeps its rule.
use Rattle.hlr_workers.proofs.Common.{◌≡◌, ◌≢◌, ◌∙◌, refl, sym, ap, ℕ, zero, suc, true, false, List, [], ◌∷◌, ◌++◌, length, set, append_assoc, inl, inr, ◌⊎◌, arith, Pushes, Pops, Forks, Merges, Learns, at_set, at_snoc, IsKnown, IsRelayed, IsWellSent, log, Log, Message}
use mathlib.Core.Option.{some, some-ne-none}
use lib.ListN.{get_elem?}
use Rattle.hlr_workers.proofs.ShapeLemmas.{well_before}

-- what each pass knows, by its number
abbrev AreKnown : (ℕ → Log → Type 0) → List Log → Type 0
AreKnown F views = (pass : ℕ) (v : Log) → get_elem? views pass ≡ some v → F pass v

-- one pass knows something else
module _ (F : ℕ → Log → Type 0) (views : List Log) (pass : ℕ) (w : Log) (own : F pass w) (others : (j : ℕ) (u : Log) → j ≢ pass → get_elem? views j ≡ some u → F j u) where
  of_set : (j : ℕ) (u : Log) → ((j ≡ pass) × (w ≡ u)) ⊎ ((j ≢ pass) × (get_elem? views j ≡ some u)) → F j u
  of_set j u (inl here) = rw (here.0, ← here.1) own
  of_set j u (inr there) = others j u there.0 there.1

  known_set : AreKnown F (set views pass w)
  known_set j u at = of_set j u (at_set views pass j w u at)

-- the last of several is the only new one
last_is_new : (views : List Log) (a b : Log) (j : ℕ) → get_elem? views j ≢ some b → get_elem? (views ++ a ∷ []) j ≡ some b → j ≡ length views
last_is_new [] a b zero fresh at = refl
last_is_new [] a b (suc j) fresh at = absurd (some-ne-none b (sym at))
last_is_new (x ∷ views) a b zero fresh at = absurd (fresh at)
last_is_new (x ∷ views) a b (suc j) fresh at = ap suc (last_is_new views a b j fresh at)

-- a queue begins with one pass that may do both
pub begins : IsRelayed [] (log true true [] [] ∷ [])
begins = (0, 0, [], [], refl, (tt, omega arith), alone)
  where
    alone : AreKnown (IsKnown 0 0 [] []) (log true true [] [] ∷ [])
    alone zero v at = let is : log true true [] [] ≡ v = cc in rw (← is) ((λ may. (refl, refl)), λ may. (refl, refl))
    alone (suc j) v at = absurd (some-ne-none v (sym at))

-- a push
pub sends : (n pass : ℕ) (v : Log) (x : Message) → v.pushes ≡ true → IsWellSent (v.sent ++ x ∷ [])
    → Pushes IsRelayed n pass v x (λ w. w ≡ log v.pushes v.pops (v.sent ++ x ∷ []) v.got)
sends n pass v x may well items views room rule at =
    let own = rule.6 pass v at in
    let mine = own.0 may in
    let w : Log = log v.pushes v.pops (v.sent ++ x ∷ []) v.got in
    let sent : List Message = rule.2 ++ x ∷ [] in (
      w,
      (
        rule.0,
        rule.1,
        sent,
        rule.3,
        ap (λ (l : List Message). l ++ x ∷ []) rule.4 ∙ append_assoc rule.3 items (x ∷ []),
        rw (← mine.1) well,
        known_set (IsKnown rule.0 rule.1 sent rule.3) views pass w ((λ _. (mine.0, ap (λ (l : List Message). l ++ x ∷ []) mine.1)), own.1)
            (λ j u other there. ((λ p. absurd (other (((rule.6 j u there).0 p).0 ∙ sym mine.0))), (rule.6 j u there).1)),
      ),
      refl,
    )

-- a pop, which tells that what was received is in its shape
pub gets : (pass : ℕ) (v : Log) → v.pops ≡ true
    → Pops IsRelayed pass v (λ x w. (w ≡ log v.pushes v.pops v.sent (v.got ++ x ∷ [])) × IsWellSent (v.got ++ x ∷ []))
gets pass v may x items views rule at =
    let own = rule.6 pass v at in
    let mine = own.1 may in
    let w : Log = log v.pushes v.pops v.sent (v.got ++ x ∷ []) in
    let got : List Message = rule.3 ++ x ∷ [] in
    let total : rule.2 ≡ got ++ items = rule.4 ∙ sym (append_assoc rule.3 (x ∷ []) items) in (
      w,
      (
        rule.0,
        rule.1,
        rule.2,
        got,
        total,
        rule.5,
        known_set (IsKnown rule.0 rule.1 rule.2 got) views pass w (own.0, λ _. (mine.0, ap (λ (l : List Message). l ++ x ∷ []) mine.1))
            (λ j u other there. ((rule.6 j u there).0, λ p. absurd (other (((rule.6 j u there).1 p).0 ∙ sym mine.0)))),
      ),
      (refl, rw (mine.1) (well_before got items (rw total at rule.5))),
    )

-- one pass becomes the router's and the worker's
module _ (pass : ℕ) (v : Log) (pushes : v.pushes ≡ true) (pops : v.pops ≡ true) where
  pub forks : Forks IsRelayed pass v (log true false v.sent []) (log false true [] v.got)
  forks items views rule at =
      let own = rule.6 pass v at in
      let push = own.0 pushes in
      let pop = own.1 pops in
      let left : Log = log true false v.sent [] in
      let right : Log = log false true [] v.got in
      let views' : List Log = set views pass left in
      let old : AreKnown (λ j u. (u.pushes ≡ true → (j ≡ rule.0) × (u.sent ≡ rule.2)) × (u.pops ≡ true → ⊥)) views' =
      known_set (λ j u. (u.pushes ≡ true → (j ≡ rule.0) × (u.sent ≡ rule.2)) × (u.pops ≡ true → ⊥)) views pass left ((λ _. push), λ (p : false ≡ true). absurd cc)
      (λ j u other there. ((rule.6 j u there).0, λ p. other (((rule.6 j u there).1 p).0 ∙ sym pop.0))) in (
        rule.0,
        length views',
        rule.2,
        rule.3,
        rule.4,
        rule.5,
        λ j u there. elim (at_snoc views' right u j there) [
          | inl before ↦ ((old j u before).0, λ p. absurd ((old j u before).1 p))
          | inr is ↦ (
            (λ p. absurd (let no : false ≡ true = ap (λ (y : Log). y.pushes) is ∙ p in cc)),
            λ p. (last_is_new views' right u j (λ before. (old j u before).1 p) there, ap (λ (y : Log). y.got) (sym is) ∙ pop.1),
          )
        ],
      )

  -- a pass that may do both knows what waits
  pub totals : Learns IsRelayed pass v (λ items. v.sent ≡ v.got ++ items)
  totals items views rule at =
      let own = rule.6 pass v at in
      (own.0 pushes).1 ∙ rule.4 ∙ ap (λ (l : List Message). l ++ items) (sym (own.1 pops).1)

-- the router takes the worker's pass in
pub merges : (pass : ℕ) (v : Log) (other : ℕ) (u : Log) → v.pushes ≡ true → u.pops ≡ true
    → Merges IsRelayed pass v other u (log true true v.sent u.got) (log false false [] [])
merges pass v other u pushes pops items views rule at apart at' =
    let push = (rule.6 pass v at).0 pushes in
    let both : Log = log true true v.sent u.got in
    let was : get_elem? views other ≡ some u = elim (at_set views pass other both u at') [ inl here ↦ absurd (apart here.0) | inr there ↦ there.1 ] in
    let theirs = (rule.6 other u was).1 pops in
    let now : AreKnown (λ j y. j ≢ other → IsKnown rule.0 pass rule.2 rule.3 j y) (set views pass both) =
    known_set (λ j y. j ≢ other → IsKnown rule.0 pass rule.2 rule.3 j y) views pass both (λ _. ((λ _. push), λ _. (refl, theirs.1)))
    (λ j y _ there away. ((rule.6 j y there).0, λ p. absurd (away (((rule.6 j y there).1 p).0 ∙ sym theirs.0)))) in (
      rule.0,
      pass,
      rule.2,
      rule.3,
      rule.4,
      rule.5,
      known_set (IsKnown rule.0 pass rule.2 rule.3) (set views pass both) other (log false false [] []) ((λ (p : false ≡ true). absurd cc), λ (p : false ≡ true). absurd cc)
          (λ j y away there. now j y there away),
    )
