-- Which events can be recorded without want of anything.
use Rattle.std.specs.Prelude.{◌≡◌, ℕ, ◌+◌, ◌≤◌, ◌^◌, ◌&&◌, nat_le, Bool, true, List, [], ◌∷◌, length}
use Rattle.std.specs.List.{list_all}
use Rattle.mt_model.specs.declared.limits.TheConstants.{FABRICS}
use Rattle.mt_model.specs.declared.node.action.NodeStep.{NodeStep}
use Rattle.mt_model.specs.declared.node.action.NodeStep.TheVariants.{Emit}
use Rattle.mt_events.specs.Numbers.{taken}
use Rattle.mt_events.specs.declared.numbers.Numbers.{Numbers}
use Rattle.mt_runs.specs.mt_ledger.History.{History, begun_at}

-- it is told to all, or to a fabric that there may be
abbrev pub is_of_a_fabric : NodeStep → Bool
is_of_a_fabric (Emit place priority fabric value) = nat_le fabric FABRICS
is_of_a_fabric step = true

-- The ceiling from which on nothing is recorded. A boot may begin at any stored ceiling up to 2^61, and has room for 2^60 numbers behind that.
abbrev pub last_ceiling : ℕ
last_ceiling = 2 ^ 61 + 2 ^ 60

-- and the numbers do not come near their end
abbrev pub may_record : List NodeStep → History → Bool
may_record told h = nat_le h.numbers.ceiling last_ceiling && (nat_le (length told) (2 ^ 50) && list_all is_of_a_fabric told)

-- Behind a start at any ceiling that may be stored all is recorded that an action may tell.
abbrev pub StartsMayRecord : Type 0
StartsMayRecord = (ceiling : ℕ) (told : List NodeStep) → ceiling ≤ 2 ^ 61 → length told ≤ 2 ^ 50 → list_all is_of_a_fabric told ≡ true → may_record told (begun_at ceiling) ≡ true

-- The numbers of events behind what is told: each event takes one.

abbrev pub numbers_behind : NodeStep → Numbers → Numbers
numbers_behind (Emit place priority fabric value) numbers = taken numbers
numbers_behind step numbers = numbers

abbrev pub numbers_after : List NodeStep → Numbers → Numbers
numbers_after [] numbers = numbers
numbers_after (step ∷ steps) numbers = numbers_after steps (numbers_behind step numbers)
