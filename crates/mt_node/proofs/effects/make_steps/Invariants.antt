use Rattle.std.proofs.Common.{◌≡◌, ◌+◌, ◌≤◌, true, length, vec_capacity, vec_len, IsTrue, Option}
use Rattle.std.specs.List.{list_all, sum_by}
use Rattle.std.specs.Vec.Iter.{into_iter_items, into_iter_len}
use Rattle.mt_model.specs.texts.Config.{ascend_from}
use Rattle.mt_model.specs.declared.tables.access.Actor.{Actor}
use Rattle.mt_model.specs.declared.node.state.NodeState.{NodeState}
use Rattle.mt_machine.specs.Effects.{after_all, is_setting_step}
use Rattle.mt_node.specs.Plan.{HaveRoom, entries_in}
use Rattle.mt_node.proofs.effects.make_steps.Given as goal

-- The steps to come make of what stands now what all steps make of what stood, and there is room for them.
abbrev pub invariant-loop-step : goal.invariant-loop-step
invariant-loop-step l = record {
  made : (asking : Option Actor) (s : NodeState) → after_all asking l.fn.steps (record s { rows = l.fn.rows; entries = l.fn.entries.items }) ≡ after_all asking (into_iter_items l.step-iterator) (record s { rows = l.rows; entries = l.entries.items });
  settings : list_all is_setting_step (into_iter_items l.step-iterator) ≡ true;
  entries_ascend : IsTrue (ascend_from 0 l.entries.items);
  rows : HaveRoom l.rows (into_iter_items l.step-iterator) (into_iter_items l.rooms);
  entries : vec_len l.entries + sum_by entries_in (into_iter_items l.step-iterator) ≤ vec_capacity l.entries;
  counted : into_iter_len l.step-iterator ≡ length (into_iter_items l.step-iterator);
}
