use Rattle.std.proofs.Common.{◌∙◌, sym, ℕ}
use Rattle.std.proofs.lemmas.List.{length-replicate}
use Rattle.view_board.specs.declared.words.TheConstants.{WORDS}
use Rattle.hlr_owners.proofs.MayGatherLemmas.{new_board}
use Rattle.hlr_owners.proofs.ShareLemmas.{zeros_opening}
use Rattle.register_tests.proofs.gather_tests.bare.Goals as goal

pub returns : goal.returns
returns g c =
    rw c.new.ensures.items (new_board _ _ _ (c.in_ok-board.ensures.0 ∙ sym c.shared-board.ensures) c.in_ok-board.ensures.1 zeros_opening (length-replicate WORDS (let zero : ℕ = 0 in zero)))
