-- the events so far and those of the lines to come are those of all, and each line so far is heard
use Rattle.std.proofs.Common.{◌≡◌, ◌++◌, All, drop, map, take}
use Rattle.mt_say.specs.Saying.{IsHeard, event_of}
use Rattle.mt_say.proofs.recorded.events_of.Given as goal

abbrev pub invariant-loop-saying : goal.invariant-loop-saying
invariant-loop-saying l = record {
  said : l.events.items ++ map event_of (drop l.saying-index l.sayings) ≡ map event_of l.sayings;
  heard : All IsHeard (take l.saying-index l.sayings);
}
