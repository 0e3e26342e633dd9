use Rattle.std.proofs.Common.{List, ap, subst, sym, ◌∙◌}
use Rattle.mt_model.specs.declared.node.state.NodeState.{NodeState}
use Rattle.mt_model.specs.rows.Seen.{own_entries}
use Rattle.mt_runs.specs.mt_ledger.Reporting.{with_places}
use Rattle.mt_model.specs.declared.node.state.ChangeNumber.{ChangeNumber}
use Rattle.mt_subs.specs.Changes.{IsChanges}
use Rattle.mt_subs.specs.Owed.{due_of}
use Rattle.mt_subs.specs.Subscriptions.{kept_at}
use Rattle.mt_interactions.specs.Configured.{ConfiguredInteractions}
use Rattle.mt_interactions.proofs.Due.{is_due_now}
use Rattle.mt_interactions.proofs.reports.due_now.Goals as goal

-- src/reports.rt:64:18
pub due-requires : goal.due-requires
due-requires c = subst (λ (changes : List ChangeNumber). IsChanges changes) (sym (c.as_slice-changes.ensures ∙ ap (λ (s : NodeState). s.changes) c.state.ensures)) c.state_is_valid.ensures.changes_stand

-- src/reports.rt:55:1
pub returns-in-Some-places : goal.returns-in-Some-places
returns-in-Some-places c =
    let interactions : ConfiguredInteractions = c.args.interactions.now in
    let kept = c.in-Some.kept.now in
    ap (with_places kept) (sym c.in-Some-places.is)
    ∙ is_due_now interactions.state.node interactions.ledger c.args.ms c.args.fabric c.args.id kept c.as_slice-changes.result.now c.in_ok-unreported.unreported c.in_ok-places.places
    (c.in-Some.ensures ∙ ap (λ (k : ConfiguredInteractions). kept_at c.args.fabric c.args.id k.ledger.subs) c.interactions.view_is)
    (c.as_slice-changes.ensures ∙ ap (λ (s : NodeState). s.changes) c.state.ensures ∙ ap (λ (k : ConfiguredInteractions). k.state.node.changes) c.interactions.view_is)
    c.in_ok-unreported.ensures
    (c.in_ok-places.ensures.exact ∙ ap (λ (k : ConfiguredInteractions). due_of (own_entries c.args.fabric k.state.node.entries) (kept_at c.args.fabric c.args.id k.ledger.subs) c.args.ms c.as_slice-changes.result.now c.in_ok-unreported.unreported) c.interactions.view_is)

-- src/reports.rt:55:1
pub returns-in-None : goal.returns-in-None
returns-in-None c =
    let interactions : ConfiguredInteractions = c.args.interactions.now in
    let kept = c.in-Some.kept.now in
    ap (with_places kept) (sym c.in-None.is)
    ∙ is_due_now interactions.state.node interactions.ledger c.args.ms c.args.fabric c.args.id kept c.as_slice-changes.result.now c.in_ok-unreported.unreported c.in_ok-places.places
    (c.in-Some.ensures ∙ ap (λ (k : ConfiguredInteractions). kept_at c.args.fabric c.args.id k.ledger.subs) c.interactions.view_is)
    (c.as_slice-changes.ensures ∙ ap (λ (s : NodeState). s.changes) c.state.ensures ∙ ap (λ (k : ConfiguredInteractions). k.state.node.changes) c.interactions.view_is)
    c.in_ok-unreported.ensures
    (c.in_ok-places.ensures.exact ∙ ap (λ (k : ConfiguredInteractions). due_of (own_entries c.args.fabric k.state.node.entries) (kept_at c.args.fabric c.args.id k.ledger.subs) c.args.ms c.as_slice-changes.result.now c.in_ok-unreported.unreported) c.interactions.view_is)
