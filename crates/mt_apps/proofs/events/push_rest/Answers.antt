use Rattle.std.proofs.Common.{◌≡◌, ◌++◌, List, OnOk, map, sym, ap, ◌∙◌, append_assoc, subst}
use Rattle.mt_model.specs.declared.node.action.NodeStep.{NodeStep}
use Rattle.mt_apps.specs.EntryEvents.{entry_event, events_between}
use Rattle.mt_apps.proofs.EntryEvents.{ended}
use Rattle.mt_apps.proofs.events.push_rest.Goals as goal

pub returns : goal.returns
returns c =
    let actor = c.args.actor.now in
    let entries = c.args.entries.now in
    let others = c.args.others.now in
    let old = c.args.events.now in
    let gone = map (entry_event actor 2) entries in
    let same : c.push_each.new.events ++ gone ≡ old ++ events_between actor entries others =
    ap (λ (events : List NodeStep). events ++ gone) c.in_ok-push_each.ensures
    ∙ append_assoc old (map (entry_event actor 1) others) gone
    ∙ ap (λ (events : List NodeStep). old ++ events) (sym (ended actor entries others c.requires)) in
    subst (λ (wanted : List NodeStep). OnOk c.push_each-2.result (c.push_each-2.new.events ≡ wanted)) same c.push_each-2.ensures
