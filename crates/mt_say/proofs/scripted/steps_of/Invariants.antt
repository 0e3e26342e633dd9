-- the requests so far and those among the events to come are those of all
use Rattle.std.proofs.Common.{◌≡◌, ◌++◌, drop}
use Rattle.std.specs.List.{filter_map}
use Rattle.mt_say.specs.Scripts.{step_of}
use Rattle.mt_say.proofs.scripted.steps_of.Given as goal

abbrev pub invariant-loop-event : goal.invariant-loop-event
invariant-loop-event l = l.steps.items ++ filter_map step_of (drop l.event-index l.events) ≡ filter_map step_of l.events
