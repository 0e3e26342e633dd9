use Rattle.std.proofs.Common.{◌≡◌, ◌∷◌, List, true, ap, ◌∙◌, rules, subst, sym}
use Rattle.std.specs.Vec.Iter.{into_iter_items}
use Rattle.std.proofs.lemmas.Bool.{and_parts}
use Rattle.mt_model.specs.declared.node.action.NodeStep.{NodeStep}
use Rattle.mt_model.specs.declared.node.state.NodeState.{NodeState}
use Rattle.mt_machine.specs.Effects.{after, after_all}
use Rattle.mt_machine.specs.State.{IsValid}
use Rattle.mt_machine.specs.Taking.{may_take, may_take_all}
use Rattle.mt_steps.specs.Partly.{IsMadeInPart}
use Rattle.mt_steps.proofs.Parts.{later, none_made, on_err}
use Rattle.mt_steps.proofs.make_all.Goals as goal

pub make-requires-clause-taken : goal.make-requires-clause-taken
make-requires-clause-taken c =
    let at = c.loop-step in
    let step = c.in-Some.step in
    let rest = into_iter_items c.next.new.self in
    let both : may_take_all c.args.asking (step ∷ rest) at.state ≡ true = subst (λ (l : List NodeStep). may_take_all c.args.asking l at.state ≡ true) c.in-Some.ensures.steps.0 at.invariant.taken in
    (and_parts (may_take at.state step) (may_take_all c.args.asking rest (after c.args.asking step at.state)) both).0

pub loop-step-preserved : goal.loop-step-preserved
loop-step-preserved c =
    let at = c.loop-step in
    let asking = c.args.asking in
    let step = c.in-Some.step in
    let rest = into_iter_items c.next.new.self in
    let is = c.in-Some.ensures.steps.0 in
    let both : may_take_all asking (step ∷ rest) at.state ≡ true = subst (λ (l : List NodeStep). may_take_all asking l at.state ≡ true) is at.invariant.taken in
    let taken = and_parts (may_take at.state step) (may_take_all asking rest (after asking step at.state)) both in
    let behind : c.make.new.state ≡ after asking step at.state = search rules in
    record {
      made = at.invariant.made ∙ ap (λ (l : List NodeStep). after_all asking l at.state) is ∙ ap (after_all asking rest) (sym behind);
      valid = subst IsValid (sym behind) (c.steps_leave_states_valid.ensures.each asking step at.state at.invariant.valid taken.0);
      taken = subst (λ (s : NodeState). may_take_all asking rest s ≡ true) (sym behind) taken.1;
      part = λ t p. at.invariant.part t (subst (λ (l : List NodeStep). IsMadeInPart asking l at.state t) (sym is) (later asking step rest at.state t (subst (λ (s : NodeState). IsMadeInPart asking rest s t) behind p)));
      counted = search rules;
    }

pub returns-in_err-make-clause-part : goal.returns-in_err-make-clause-part
returns-in_err-make-clause-part c =
    let at = c.loop-step in
    let asking = c.args.asking in
    let step = c.in-Some.step in
    let rest = into_iter_items c.next.new.self in
    let state = c.make.new.state in
    let none : IsMadeInPart asking (step ∷ rest) at.state state = subst (IsMadeInPart asking (step ∷ rest) at.state) (sym c.in_err-make.ensures.kept) (none_made asking step rest at.state) in
    on_err c.from_residual.result (IsMadeInPart asking c.args.steps c.args.state.now state)
    (at.invariant.part state (subst (λ (l : List NodeStep). IsMadeInPart asking l at.state state) (sym c.in-Some.ensures.steps.0) none))
