use Rattle.group_tree.proofs.Common.{ℕ, ◌≡◌, ◌+◌, ◌*◌, ◌∙◌, Some, ap, arith, option_map, row_at, forwarding_start, forwarding_with, s_id_in, type_in}
use Rattle.group_tree.proofs.ForwardingLemmas.{rising}
use Rattle.group_tree.proofs.NumberedLemmas.{found_listed, missing_listed}
use Rattle.group_tree.proofs.forwardings.ForwardingsGroupForwarding.row_in.Goals as goal

pub returns-in_err-row : goal.returns-in_err-row
returns-in_err-row c = λ holds.
    c.from_residual-in_err-row.ensures
    ∙ missing_listed (λ hour. c.args.base + hour) (rising c.args.base) forwarding_start (forwarding_with (s_id_in c.args.base) (type_in c.args.base)) _ (8 * c.args.place) c.args.self.now c.in_err-row.ensures

pub returns : goal.returns
returns c = λ holds.
    let base = c.args.base in
    let rows = c.args.self.now in
    let found = row_at forwarding_start (8 * c.args.place) rows in
    let s_id : c.in_ok-s_id.s_id ≡ s_id_in base = let found = rw holds.s_id at c.in_ok-s_id.ensures in cc in
    let key : base + c.from.result ≡ base + 8 * c.args.place = omega (arith, c.from.ensures) in
    ap (λ (key : ℕ). Some (key, c.in_ok-row.row)) key
    ∙ found_listed (λ hour. base + hour) (rising base) forwarding_start (forwarding_with (s_id_in base) (type_in base)) (8 * c.args.place) c.in_ok-row.row rows
    (c.in_ok-row.ensures
    ∙ ap (λ (s_id : ℕ). option_map (forwarding_with s_id c.type_in-sf_type.result) found) s_id
    ∙ ap (λ (kind : ℕ). option_map (forwarding_with (s_id_in base) kind) found) c.type_in-sf_type.ensures)
