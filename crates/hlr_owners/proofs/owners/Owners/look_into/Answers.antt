use Rattle.hlr_owners.proofs.Common.{refl, desks_in}
use Rattle.hlr_owners.proofs.SightLemmas.{spare_word, desks_looked, words_looked}
use Rattle.hlr_owners.proofs.owners.Owners.look_into.Goals as goal

pub returns-clause-right : goal.returns-clause-right
returns-clause-right c =
    let right = c.look_into.ensures.right in
    rw (← c.self.view_is) (record {
      wide = right.wide;
      own = λ w below none. spare_word _ _ _ c.self.invariant.1 _ w right below none;
      later = right.later;
      small = right.small;
    })

pub returns-clause-seen : goal.returns-clause-seen
returns-clause-seen c = rw (← c.self.view_is, c.look_into.ensures.seen) (rw (words_looked c.self.inside.spare (desks_in c.self.inside.owners.items) c.look_into.new.sight.words) refl)

pub invariant_of-self : goal.invariant_of-self
invariant_of-self c =
    (record { are = c.self.invariant.0.are; each = c.self.invariant.0.each; zones = c.self.invariant.0.zones }, rw c.look_into.ensures.seen (desks_looked _ _ _ c.self.invariant.1 _ c.look_into.ensures.right), c.self.invariant.2)
