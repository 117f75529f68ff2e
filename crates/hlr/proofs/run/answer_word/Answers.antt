use Rattle.hlr.proofs.Common.{refl}
use Rattle.hlr.proofs.RunFacts.{answered, named_adds, named_done, recut_named}
use Rattle.hlr.proofs.run.answer_word.Goals as goal

pub returns-in-Gsd-clause-text : goal.returns-in-Gsd-clause-text
returns-in-Gsd-clause-text g c = answered _ _ _ _ _ _ _ refl (named_adds _ _ _ _ _ _ c.requires.named (rw c.in-Gsd.is c.build_gsd.ensures)) _

pub returns-in-Gad-clause-text : goal.returns-in-Gad-clause-text
returns-in-Gad-clause-text g c = answered _ _ _ _ _ _ _ refl (named_adds _ _ _ _ _ _ c.requires.named (rw c.in-Gad.is c.build_gad.ensures)) _

pub returns-in-Gnd-clause-text : goal.returns-in-Gnd-clause-text
returns-in-Gnd-clause-text g c = answered _ _ _ _ _ _ _ refl (named_adds _ _ _ _ _ _ c.requires.named (rw c.in-Gnd.is c.build_gnd.ensures)) _

pub returns-in-Usd-clause-text : goal.returns-in-Usd-clause-text
returns-in-Usd-clause-text g c = answered _ _ _ _ _ _ _ refl (named_done _ _ _ _ _ _ c.requires.named _ (rw c.in-Usd.is c.update_subscriber.ensures.text) c.build_done.ensures) _

pub returns-in-Ul-clause-text : goal.returns-in-Ul-clause-text
returns-in-Ul-clause-text g c = answered _ _ _ _ _ _ _ refl (named_done _ _ _ _ _ _ c.requires.named _ (rw c.in-Ul.is c.update_location.ensures.text) c.build_done-in-Ul.ensures) _

pub returns-in-Icf-clause-text : goal.returns-in-Icf-clause-text
returns-in-Icf-clause-text g c = answered _ _ _ _ _ _ _ refl (named_done _ _ _ _ _ _ c.requires.named _ (rw c.in-Icf.is c.insert_forwarding.ensures.text) c.build_done-in-Icf.ensures) _

pub returns-in-Dcf-clause-text : goal.returns-in-Dcf-clause-text
returns-in-Dcf-clause-text g c = answered _ _ _ _ _ _ _ refl (named_done _ _ _ _ _ _ c.requires.named _ (rw c.in-Dcf.is c.delete_forwarding.ensures.text) c.build_done-in-Dcf.ensures) _

pub returns-in-Sub-clause-text : goal.returns-in-Sub-clause-text
returns-in-Sub-clause-text g c = answered _ _ _ _ _ _ _ refl (named_done _ _ _ _ _ _ c.requires.named _ (rw c.in-Sub.is c.add_subscriber.ensures.text) c.build_done-in-Sub.ensures) _

pub returns-in-Acc-clause-text : goal.returns-in-Acc-clause-text
returns-in-Acc-clause-text g c = answered _ _ _ _ _ _ _ refl (named_done _ _ _ _ _ _ c.requires.named _ (rw c.in-Acc.is c.add_access.ensures.text) c.build_done-in-Acc.ensures) _

pub returns-in-Fac-clause-text : goal.returns-in-Fac-clause-text
returns-in-Fac-clause-text g c = answered _ _ _ _ _ _ _ refl (named_done _ _ _ _ _ _ c.requires.named _ (rw c.in-Fac.is c.add_facility.ensures.text) c.build_done-in-Fac.ensures) _

pub returns-in-Active-clause-text : goal.returns-in-Active-clause-text
returns-in-Active-clause-text g c = answered _ _ _ _ _ _ _ refl (named_done _ _ _ _ _ _ c.requires.named _ (rw c.in-Active.is c.set_active.ensures.text) c.build_done-in-Active.ensures) _

pub returns-in-Number-clause-text : goal.returns-in-Number-clause-text
returns-in-Number-clause-text g c = answered _ _ _ _ _ _ _ refl (named_done _ _ _ _ _ _ c.requires.named _ (rw c.in-Number.is c.set_number.ensures.text) c.build_done-in-Number.ensures) _

pub returns-in-Post-clause-text : goal.returns-in-Post-clause-text
returns-in-Post-clause-text g c = answered _ _ _ _ _ _ _ refl (named_adds _ _ _ _ _ _ c.requires.named (rw c.in-Post.is c.build_post.ensures.text)) _

pub returns-in-Give-clause-text : goal.returns-in-Give-clause-text
returns-in-Give-clause-text g c = answered _ _ _ _ _ _ _ refl (named_adds _ _ _ _ _ _ c.requires.named c.build_moved.ensures.text) _

pub returns-in-Recut-clause-text : goal.returns-in-Recut-clause-text
returns-in-Recut-clause-text g c = answered _ _ _ _ _ _ _ refl (rw (recut_named _ (rw c.in-Recut.is at c.requires.named)) c.recut.ensures.text) _
