use Rattle.std.proofs.Common.{◌≡◌, ◌+◌, ◌*◌, ◌^◌, ◌≤◌, drop, length}
use Rattle.mt_interactions.specs.Recording.{numbers_after}
use Rattle.mt_interactions.proofs.history.numbers_after.Given as goal

-- the steps to come take their numbers behind those so far, and there are numbers for them
abbrev pub invariant-loop-step : goal.invariant-loop-step
invariant-loop-step l = record {
  behind : numbers_after (drop l.step-index l.told) l.behind ≡ numbers_after l.told l.fn.numbers;
  within : l.behind.next ≤ l.behind.ceiling;
  room : l.behind.ceiling + 1024 * length (drop l.step-index l.told) ≤ 2 ^ 62;
}
