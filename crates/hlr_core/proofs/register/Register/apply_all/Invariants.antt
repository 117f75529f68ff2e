use Rattle.hlr_core.proofs.Common.{◌≡◌, take, length, vec_len, vec_capacity, AllHome, store_in, IsLaterDesk, IsRun}
use Rattle.hlr_core.proofs.register.Register.apply_all.Given as goal

abbrev pub invariant-loop-order : goal.invariant-loop-order
invariant-loop-order l = record {
  run : IsRun (take l.order-index l.orders) (store_in l.initial.self) l.answers.items (store_in l.self);
  home : AllHome l.self.owners;
  spare : IsLaterDesk l.initial.self.spare l.self.spare;
  so_far : vec_len l.answers ≡ l.order-index;
  room : vec_capacity l.answers ≡ length l.orders;
}
