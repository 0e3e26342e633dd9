use Rattle.std.proofs.Common.{◌≡◌, ◌<◌, ◌≤◌, ◌∷◌, [], ℕ, get_or, length}
use Rattle.mt_queue.specs.Ends.{Put}
use Rattle.mt_queue.specs.declared.job.Job.TheVariants.{End}
use Rattle.mt_receiver.specs.Receives.{with_jobs}
use Rattle.mt_receiver.proofs.routing.end_all.Given as goal

abbrev pub invariant-loop-sender : goal.invariant-loop-sender
invariant-loop-sender g l = (k : ℕ) (d : Put) → (k < l.sender-index → get_or l.senders k d ≡ with_jobs (get_or l.fn.senders k d) (End ∷ [])) × (l.sender-index ≤ k → get_or l.senders k d ≡ get_or l.fn.senders k d)
