use Rattle.std.proofs.Common.{◌++◌, ◌+◌, drop, sym, ap, ◌∙◌, append_assoc, arith, List}
use Rattle.mt_apps.specs.EntryEvents.{events_between, if_changed}
use Rattle.mt_model.specs.declared.node.action.NodeStep.{NodeStep}
use Rattle.mt_apps.proofs.EntryEvents.{next-events}
use Rattle.mt_apps.proofs.events.push_changes.Goals as goal

pub loop-i-preserved : goal.loop-i-preserved
loop-i-preserved c =
    let actor = c.args.actor.now in
    let entries = c.args.entries.now in
    let others = c.args.others.now in
    let i = c.loop-i.i in
    let rest = events_between actor (drop (i + 1) entries) (drop (i + 1) others) in
    let on = next-events actor entries others i c.index-entries-i.result c.index-others-i.result (omega (arith, c.loop-i-test.true, c.requires.entries)) (omega (arith, c.loop-i-test.true, c.requires.others)) (sym c.index-entries-i.is) (sym c.index-others-i.is) in
    ap (λ (events : List NodeStep). events ++ rest) c.in_ok-push_if_changed.ensures
    ∙ append_assoc c.loop-i.events (if_changed actor c.index-entries-i.result c.index-others-i.result) rest
    ∙ ap (λ (events : List NodeStep). c.loop-i.events ++ events) (sym on)
    ∙ c.loop-i.invariant
