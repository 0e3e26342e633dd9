-- Jobs: which are within the limits, and which lists are ended.
use Rattle.std.specs.Prelude.{◌≡◌, ◌≤◌, Bool, true, false, List, [], ◌∷◌, ◌++◌, length, All, ⊤}
use Rattle.mt_model.specs.declared.limits.TheConstants.{LAST_TIME, RECEIVED_BYTES}
use Rattle.mt_queue.specs.declared.job.Job.{Job}
use Rattle.mt_queue.specs.declared.job.Job.TheVariants.{Take, Wake, End}

-- its time is one that there is, and its datagram no longer than one that is received
abbrev pub IsWithinLimits : Job → Type 0
IsWithinLimits (Take now from bytes) = (now ≤ LAST_TIME) × (length bytes ≤ RECEIVED_BYTES)
IsWithinLimits (Wake now) = now ≤ LAST_TIME
IsWithinLimits End = ⊤

abbrev pub is_end : Job → Bool
is_end (Take now from bytes) = false
is_end (Wake now) = false
is_end End = true

-- no job is the end
abbrev pub HasNoEnd : List Job → Type 0
HasNoEnd = All (λ job. is_end job ≡ false)

-- the last job is the end
abbrev pub IsEnded : List Job → Type 0
IsEnded jobs = (before : List Job) × (jobs ≡ before ++ End ∷ [])
