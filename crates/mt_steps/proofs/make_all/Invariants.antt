use Rattle.std.proofs.Common.{◌≡◌, length, true}
use Rattle.std.specs.Vec.Iter.{into_iter_items, into_iter_len}
use Rattle.mt_machine.specs.Effects.{after_all}
use Rattle.mt_machine.specs.State.{IsValid}
use Rattle.mt_machine.specs.Taking.{may_take_all}
use Rattle.mt_model.specs.declared.node.state.NodeState.{NodeState}
use Rattle.mt_steps.specs.Partly.{IsMadeInPart}
use Rattle.mt_steps.proofs.make_all.Given as goal

-- The steps to come make of the state now what all steps make of the state before, and so does a part of them; it is valid, and takes them.
abbrev pub invariant-loop-step : goal.invariant-loop-step
invariant-loop-step l = record {
  made : after_all l.asking l.fn.steps l.fn.state ≡ after_all l.asking (into_iter_items l.step-iterator) l.state;
  valid : IsValid l.state;
  taken : may_take_all l.asking (into_iter_items l.step-iterator) l.state ≡ true;
  part : (t : NodeState) → IsMadeInPart l.asking (into_iter_items l.step-iterator) l.state t → IsMadeInPart l.asking l.fn.steps l.fn.state t;
  counted : into_iter_len l.step-iterator ≡ length (into_iter_items l.step-iterator);
}
