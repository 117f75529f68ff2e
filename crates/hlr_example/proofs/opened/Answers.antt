use Rattle.hlr_owners.proofs.HomeLemmas.{home_of_all}
use Rattle.hlr_core.proofs.HomeLemmas.{still_home}
use Rattle.hlr_example.proofs.opened.Goals as goal

pub add_subscriber-requires : goal.add_subscriber-requires
add_subscriber-requires c = home_of_all c.in_ok-subscriber.field-0.s_id _ c.in_ok-register.ensures.home

pub add_subscriber-requires-2 : goal.add_subscriber-requires-2
add_subscriber-requires-2 c =
    home_of_all c.in_ok-subscriber-2.field-0.s_id _ (still_home _ _ c.add_subscriber.ensures.homes c.in_ok-register.ensures.home)

pub returns : goal.returns
returns c = still_home _ _ c.add_subscriber-2.ensures.homes (still_home _ _ c.add_subscriber.ensures.homes c.in_ok-register.ensures.home)
