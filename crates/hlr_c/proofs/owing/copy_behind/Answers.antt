use Rattle.hlr_c.proofs.Common.{◌≡◌, ◌∙◌, ◌++◌, ◌-◌, List, ℕ, ap, arith, drop, length, length-drop, take}
use Rattle.std.proofs.Common.{rules}
use Rattle.std.proofs.lemmas.List.{take_all}
use Rattle.journal_file.specs.Device.{over}
use Rattle.hlr_c.proofs.OwingLemmas.{drop_behind, over_long, over_none, over_short}
use Rattle.hlr_c.proofs.owing.copy_behind.Goals as goal

-- what is behind the first so many bytes
rest_of : List ℕ → ℕ → List ℕ
rest_of source skip = take (length source - skip) (drop skip source)

rest_is : (source : List ℕ) (skip : ℕ) → rest_of source skip ≡ drop skip source
unfolding rest_of
rest_is source skip = take_all (length source - skip) (drop skip source) (omega (arith, length-drop skip source))

pub returns-then-skip-source : goal.returns-then-skip-source
returns-then-skip-source c = over_none (drop c.args.skip c.args.source.now) c.args.room.now (drop_behind c.args.source.now c.args.skip c.if-skip-source.true)

pub returns-then-room-rest : goal.returns-then-room-rest
unfolding rest_of
returns-then-room-rest c =
    let room = c.args.room.now in
    let rest = rest_of c.args.source.now c.args.skip in
    let copy : List ℕ = c.copy_from_slice.new.self in
    let is : copy ≡ take (length room) rest = search rules in
    is ∙ over_long rest room c.if-room-rest.true ∙ ap (λ (l : List ℕ). over 0 l room) (rest_is c.args.source.now c.args.skip)

pub returns-else-room-rest : goal.returns-else-room-rest
unfolding rest_of
returns-else-room-rest c =
    let room = c.args.room.now in
    let rest = rest_of c.args.source.now c.args.skip in
    let copy : List ℕ = c.copy_from_slice-else-room-rest.new.self in
    let is : copy ≡ rest = search rules in
    ap (λ (l : List ℕ). l ++ drop (length rest) room) is ∙ over_short rest room (omega (arith, c.if-room-rest.false)) ∙ ap (λ (l : List ℕ). over 0 l room) (rest_is c.args.source.now c.args.skip)
