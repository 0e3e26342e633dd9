use Rattle.std.proofs.Common.{◌≡◌, ℕ, ◌∙◌, Option, List, true, ap, subst, sym}
use Rattle.mt_model.specs.declared.node.action.NodeStep.{NodeStep}
use Rattle.mt_model.specs.declared.node.state.NodeState.{NodeState}
use Rattle.mt_model.specs.declared.tables.access.Actor.{Actor}
use Rattle.mt_machine.specs.Changes.{differing}
use Rattle.mt_machine.specs.Effects.{after_all}
use Rattle.mt_machine.specs.Laws.{AllStayValid, TimesStayValid}
use Rattle.mt_machine.specs.State.{IsValid}
use Rattle.mt_machine.specs.Step.{after_steps, at_time}
use Rattle.mt_machine.specs.Taking.{may_take_all}
use Rattle.mt_regained.specs.mt_lasting.Changes.{change_between}
use Rattle.mt_regained.specs.mt_lasting.Contents.{what_lasts}
use Rattle.mt_node.specs.Configured.{ConfiguredNode}
use Rattle.mt_node.proofs.Counts.{newest_up_to, settled_is}
use Rattle.mt_node.proofs.behind.state_behind.Goals as goal

-- what steps that it takes make of a valid state, at another time, is valid
made_valid : TimesStayValid → AllStayValid → (asking : Option Actor) (steps : List NodeStep) (now : ℕ) (s copied t : NodeState) → IsValid s → may_take_all asking steps (at_time now s) ≡ true
    → copied ≡ s → t ≡ after_all asking steps (at_time now copied) → IsValid t
made_valid times all asking steps now s copied t valid taken same made =
    subst IsValid (sym (made ∙ ap (λ (x : NodeState). after_all asking steps (at_time now x)) same)) (all asking steps (at_time now s) (times s now valid) taken)

pub make_all-requires-clause-valid : goal.make_all-requires-clause-valid
make_all-requires-clause-valid c = c.states_are_valid.ensures.times c.in_ok-behind.behind c.args.now (subst IsValid (sym c.in_ok-behind.ensures) c.node.invariant)

pub differing_between-requires : goal.differing_between-requires
differing_between-requires c =
    let s = c.args.node.now.state in
    let there : c.node.inside.state ≡ s = ap (λ (kept : ConfiguredNode). kept.state) c.node.view_is in
    made_valid c.states_are_valid.ensures.times c.steps_leave_states_valid.ensures.all c.args.asking c.args.steps c.args.now s c.in_ok-behind.behind c.make_all.new.state
    (subst IsValid there c.node.invariant) c.requires (c.in_ok-behind.ensures ∙ there) c.in_ok-make_all.ensures.made

pub change_to-requires-clause-before : goal.change_to-requires-clause-before
change_to-requires-clause-before c = c.node.invariant

pub change_to-requires-clause-behind : goal.change_to-requires-clause-behind
change_to-requires-clause-behind c =
    let s = c.args.node.now.state in
    let there : c.node.inside.state ≡ s = ap (λ (kept : ConfiguredNode). kept.state) c.node.view_is in
    made_valid c.states_are_valid.ensures.times c.steps_leave_states_valid.ensures.all c.args.asking c.args.steps c.args.now s c.in_ok-behind.behind c.make_all.new.state
    (subst IsValid there c.node.invariant) c.requires (c.in_ok-behind.ensures ∙ there) c.in_ok-make_all.ensures.made

pub settle-requires-clause-stand : goal.settle-requires-clause-stand
settle-requires-clause-stand c =
    let s = c.args.node.now.state in
    let t = c.make_all.new.state in
    let there : c.node.inside.state ≡ s = ap (λ (kept : ConfiguredNode). kept.state) c.node.view_is in
    let valid : IsValid t = made_valid c.states_are_valid.ensures.times c.steps_leave_states_valid.ensures.all c.args.asking c.args.steps c.args.now s c.in_ok-behind.behind t
    (subst IsValid there c.node.invariant) c.requires (c.in_ok-behind.ensures ∙ there) c.in_ok-make_all.ensures.made in
    valid.changes_stand

pub settle-requires-clause-newest : goal.settle-requires-clause-newest
settle-requires-clause-newest c =
    let s = c.args.node.now.state in
    let t = c.make_all.new.state in
    let there : c.node.inside.state ≡ s = ap (λ (kept : ConfiguredNode). kept.state) c.node.view_is in
    let valid : IsValid t = made_valid c.states_are_valid.ensures.times c.steps_leave_states_valid.ensures.all c.args.asking c.args.steps c.args.now s c.in_ok-behind.behind t
    (subst IsValid there c.node.invariant) c.requires (c.in_ok-behind.ensures ∙ there) c.in_ok-make_all.ensures.made in
    newest_up_to t valid

pub returns-clause-made : goal.returns-clause-made
returns-clause-made c =
    let s = c.args.node.now.state in
    let now = c.args.now in
    let t = c.make_all.new.state in
    let there : c.node.inside.state ≡ s = ap (λ (kept : ConfiguredNode). kept.state) c.node.view_is in
    let copied : c.in_ok-behind.behind ≡ s = c.in_ok-behind.ensures ∙ there in
    let made : t ≡ after_all c.args.asking c.args.steps (at_time now s) = c.in_ok-make_all.ensures.made ∙ ap (λ (x : NodeState). after_all c.args.asking c.args.steps (at_time now x)) copied in
    let places : c.as_slice.result.now ≡ differing (at_time now s) t = c.as_slice.ensures ∙ c.in_ok-places.ensures in
    settled_is c.args.asking c.args.steps (at_time now s) t c.settle.new.state c.as_slice.result.now made places c.settle.ensures

pub returns-clause-change : goal.returns-clause-change
returns-clause-change c = λ ceiling.
    let s = c.args.node.now.state in
    let timed = at_time c.args.now s in
    let t = c.make_all.new.state in
    let there : c.node.inside.state ≡ s = ap (λ (kept : ConfiguredNode). kept.state) c.node.view_is in
    let copied : c.in_ok-behind.behind ≡ s = c.in_ok-behind.ensures ∙ there in
    let made : t ≡ after_all c.args.asking c.args.steps timed = c.in_ok-make_all.ensures.made ∙ ap (λ (x : NodeState). after_all c.args.asking c.args.steps (at_time c.args.now x)) copied in
    c.in_ok-change.ensures ceiling
    ∙ ap (λ (x : NodeState). change_between x ceiling t ceiling) there
    ∙ c.only_what_lasts_changes.ensures.alone s t (after_steps c.args.asking c.args.steps timed) ceiling ceiling (ap what_lasts made)
