-- What jobs that are sent to a holding do, one after another.
use Rattle.std.specs.Prelude.{◌≡◌, ℕ, List, [], ◌∷◌}
use Rattle.std.specs.List.{AllByRecursion}
use Rattle.holding.specs.Held.{HoldingState}
use Rattle.holding.specs.declared.job.Job.{Job}
use Rattle.hlr_core.specs.Session.{IsJobDone, IsNumberless}
use Rattle.hlr_core.specs.declared.event.Reply.{Reply}

-- numbered jobs done by a holding, and their replies, each under the number of its job
abbrev pub IsSession : HoldingState → List (ℕ × Job) → List (ℕ × Reply) → HoldingState → Type 0
IsSession before [] [] after = after ≡ before
IsSession before [] (answer ∷ answers) after = ⊥
IsSession before (job ∷ jobs) [] after = ⊥
IsSession before (job ∷ jobs) (answer ∷ answers) after =
    (answer.0 ≡ job.0) × ((next : HoldingState) × IsJobDone job.1 before answer.1 next × IsSession next jobs answers after)

-- numbered jobs that give no number
abbrev pub AreNumberless : List (ℕ × Job) → Type 0
AreNumberless jobs = AllByRecursion (λ (job : ℕ × Job). IsNumberless job.1) jobs
