use Rattle.std.proofs.Common.{◌≡◌, ◌∙◌, None, ap, sym}
use Rattle.mt_model.specs.declared.node.state.NodeState.{NodeState}
use Rattle.mt_machine.specs.Effects.{after_all}
use Rattle.mt_machine.specs.Taking.{may_take_all}
use Rattle.mt_regained.specs.mt_lasting.Changes.{change_between}
use Rattle.mt_node.specs.Configured.{ConfiguredNode}
use Rattle.mt_node.proofs.lasting.change_set.Goals as goal

pub change_by_steps-requires-clause-valid : goal.change_by_steps-requires-clause-valid
change_by_steps-requires-clause-valid c = c.node.invariant

pub change_by_steps-requires-clause-behind : goal.change_by_steps-requires-clause-behind
change_by_steps-requires-clause-behind c =
    let there : c.node.inside.state ≡ c.args.node.now.state = ap (λ (kept : ConfiguredNode). kept.state) c.node.view_is in
    c.steps_leave_states_valid.ensures.all None c.args.steps.now c.node.inside.state c.node.invariant
    (ap (λ (s : NodeState). may_take_all None c.args.steps.now s) there ∙ c.requires.taken)

pub returns : goal.returns
returns c = λ places now ceiling.
    let s = c.args.node.now.state in
    let there : c.node.inside.state ≡ s = ap (λ (kept : ConfiguredNode). kept.state) c.node.view_is in
    c.in_ok-change.ensures ceiling
    ∙ (λ i. change_between (there i) ceiling (after_all None c.args.steps.now (there i)) ceiling)
    ∙ sym (c.only_what_lasts_changes.ensures.steps s None c.args.steps.now places now ceiling c.requires.steps)
