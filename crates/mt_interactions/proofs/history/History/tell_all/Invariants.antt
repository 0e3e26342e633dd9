use Rattle.std.proofs.Common.{◌≡◌, ◌+◌, ◌*◌, ◌^◌, ◌≤◌, length, true}
use Rattle.std.specs.List.{list_all}
use Rattle.std.specs.Vec.Iter.{into_iter_items, into_iter_len}
use Rattle.mt_runs.specs.mt_ledger.History.{recorded_all}
use Rattle.mt_interactions.specs.Recording.{is_of_a_fabric}
use Rattle.mt_interactions.proofs.history.History.tell_all.Given as goal

-- the steps to come are recorded behind those so far, and there are numbers for them
abbrev pub invariant-loop-step : goal.invariant-loop-step
invariant-loop-step l = record {
  told : recorded_all l.ms (into_iter_items l.step-iterator) l.self ≡ recorded_all l.ms l.fn.told l.initial.self;
  fabrics : list_all is_of_a_fabric (into_iter_items l.step-iterator) ≡ true;
  room : l.self.numbers.ceiling + 1024 * length (into_iter_items l.step-iterator) ≤ 2 ^ 62;
  counted : into_iter_len l.step-iterator ≡ length (into_iter_items l.step-iterator);
}
