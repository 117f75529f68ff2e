-- What is found at many keys.
use Rattle.tatp_actions.proofs.Common.{◌≡◌, ℕ, zero, suc, Option, None, subst, length-map, AreGroupsAt, base_of, rows_beside, rows_in, ◌+◌, ◌<◌, List, [], ◌∷◌, ◌++◌, get_or, length, map, take, refl, sym, ap, ◌∙◌, arith, take-suc, get_or-map, map-append, value_at, row_at, IsKeyed, values_of}
use Rattle.tatp_actions.proofs.StoredLemmas.{found_in}

-- the values at the keys of what is asked are the rows of each that is asked
pub all_found : {A X : Type 0} (key : X → ℕ) (key_for : A → ℕ) (pairs : List (ℕ × X)) (asked : List A) → IsKeyed key pairs → map (λ k. value_at k pairs) (map key_for asked) ≡ map (λ a. row_at key (key_for a) (values_of pairs)) asked
all_found key key_for pairs [] keyed = refl
all_found key key_for pairs (a ∷ asked) keyed =
    ap (λ row. row ∷ map (λ k. value_at k pairs) (map key_for asked)) (found_in key pairs (key_for a) (key_for a) (value_at (key_for a) pairs) keyed refl refl)
    ∙ ap (λ rows. row_at key (key_for a) (values_of pairs) ∷ rows) (all_found key key_for pairs asked keyed)

-- one more of a list that is made place by place
pub one_more_made : {A B : Type 0} (make : A → B) (asked : List A) (n : ℕ) (d : A) (made more : List B) (b : B) → n < length asked → made ≡ map make (take n asked) → more ≡ made ++ b ∷ [] → b ≡ make (get_or asked n d)
    → more ≡ map make (take (n + 1) asked)
one_more_made make asked n d made more b below so_far pushed is =
    let next : n + 1 ≡ suc n = omega arith in
    pushed ∙ rw (so_far, is, next, take-suc asked n d below) (sym (map-append make (take n asked) (get_or asked n d ∷ [])))

-- the group of one of several keys that were made
pub group_at : {A G X : Type 0} (span : ℕ) (listed : ℕ → G → List (ℕ × X)) (pairs : List (ℕ × X)) (key_for : A → ℕ) (asked : List A) (keys : List ℕ) (found : List (Option G)) (n : ℕ) (d : A) (group : Option G)
    → n < length asked → keys ≡ map key_for asked → AreGroupsAt span listed pairs keys found → group ≡ get_or found n group → rows_in listed (base_of span (key_for (get_or asked n d))) group ≡ rows_beside span (key_for (get_or asked n d)) pairs
group_at {G = G} span listed pairs key_for asked keys found n d group below made are here =
    let long : n < length keys = omega (arith, ap length made, length-map asked key_for) in
    let count = are.count in
    let read : get_or found n None ≡ group = get_or_same found n None group (omega (arith, count)) ∙ sym here in
    let key : get_or keys n 0 ≡ key_for (get_or asked n d) = ap (λ ks. get_or ks n 0) made ∙ get_or-map key_for asked n d 0 below in
    subst (λ (k : ℕ). rows_in listed (base_of span k) group ≡ rows_beside span k pairs) key
    (subst (λ (o : Option G). rows_in listed (base_of span (get_or keys n 0)) o ≡ rows_beside span (get_or keys n 0) pairs) read (are.each n long))
  where
    get_or_same : {B : Type 0} (bs : List B) (n : ℕ) (d e : B) → n < length bs → get_or bs n d ≡ get_or bs n e
    get_or_same [] n d e below = absurd (omega arith)
    get_or_same (b ∷ bs) zero d e below = refl
    get_or_same (b ∷ bs) (suc n) d e below = get_or_same bs n d e (omega arith)

-- what stands at a place of a list that was made
pub made_at : {A B : Type 0} (make : A → B) (asked : List A) (n : ℕ) (d : A) (made : List B) (b : B) → n < length asked → made ≡ map make asked → b ≡ get_or made n b → b ≡ make (get_or asked n d)
made_at make asked n d made b below is here = here ∙ ap (λ bs. get_or bs n b) is ∙ get_or-map make asked n d b below
