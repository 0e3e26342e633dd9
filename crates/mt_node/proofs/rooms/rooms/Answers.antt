use Rattle.std.proofs.Common.{◌≡◌, ◌+◌, ◌<◌, ◌∙◌, ◌∷◌, ◌++◌, [], List, ap, arith, get_or, length, subst, sym, take}
use Rattle.std.proofs.lemmas.List.{take_all, take_more}
use Rattle.std.specs.Global.{Vec}
use Rattle.mt_model.specs.declared.node.action.NodeStep.{NodeStep}
use Rattle.mt_model.specs.declared.rows.place.Row.{Row}
use Rattle.mt_node.proofs.Ample.{AreAmple, ample_more, ample_rooms}
use Rattle.mt_node.proofs.rooms.rooms.Goals as goal

pub loop-step-preserved : goal.loop-step-preserved
loop-step-preserved c =
    let rows = c.args.rows.now in
    let steps = c.args.steps.now in
    let i = c.loop-step.step-index in
    let step = c.step-item.result in
    let within : i < length steps = omega arith in
    let here : get_or steps i step ≡ step = sym c.step-item.is in
    let taken : take (i + 1) steps ≡ take i steps ++ step ∷ [] = take_more steps i step within ∙ ap (λ (s : NodeStep). take i steps ++ s ∷ []) here in
    let more = ample_more rows steps (take i steps) c.loop-step.rooms.items step c.in_ok-room.field-0 c.loop-step.invariant c.in_ok-room.ensures in
    subst (λ (both : List NodeStep × List (Vec Row)). AreAmple rows steps both.0 both.1) (λ j. (sym taken j, sym c.in_ok-push.ensures.items j)) more

pub returns : goal.returns
returns c =
    let rows = c.args.rows.now in
    let steps = c.args.steps.now in
    ample_rooms rows steps c.loop-step.rooms.items
    (subst (λ (l : List NodeStep). AreAmple rows steps l c.loop-step.rooms.items) (take_all c.loop-step.step-index steps (omega arith)) c.loop-step.invariant)
