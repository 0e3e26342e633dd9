-- The rule of a queue, and what its steps make of what a pass knows.
use Rattle.std.specs.Prelude.{◌≡◌, ℕ, Bool, true, List, [], ◌∷◌, ◌++◌, All}
use mathlib.Core.Option.{some}
use lib.ListN.{get_elem?}
use Rattle.mt_queue.specs.declared.job.Job.{Job}
use Rattle.mt_queue.specs.declared.rule.Notes.{Notes}
use Rattle.mt_queue.specs.Jobs.{IsWithinLimits}

abbrev pub notes : Bool → Bool → List Job → List Job → Notes
notes puts takes put taken = record { puts = puts; takes = takes; put = put; taken = taken }

-- A pass that puts is the sender's and knows what was put; one that takes is the taker's and knows what was taken.
abbrev pub Knows : ℕ → ℕ → List Job → List Job → ℕ → Notes → Type 0
Knows sender taker put taken port v = (v.puts ≡ true → (port ≡ sender) × (v.put ≡ put)) × (v.takes ≡ true → (port ≡ taker) × (v.taken ≡ taken))

-- What was put is what was taken, and then what the queue has, of which each job is within the limits.
pub record IsKept (items : List Job) (views : List Notes) : Type 0 where
  pub sender : ℕ
  pub taker : ℕ
  pub put : List Job
  pub taken : List Job
  pub order : put ≡ taken ++ items
  pub limits : All IsWithinLimits put
  pub each : (port : ℕ) (v : Notes) → get_elem? views port ≡ some v → Knows sender taker put taken port v

-- a job is put behind the others
abbrev pub Puts : Notes → Job → Notes → Type 0
Puts v job w = w ≡ notes v.puts v.takes (v.put ++ job ∷ []) v.taken

-- a job is taken behind the others
abbrev pub Takes : Notes → Job → Notes → Type 0
Takes v job w = (w ≡ notes v.puts v.takes v.put (v.taken ++ job ∷ [])) × IsWithinLimits job
