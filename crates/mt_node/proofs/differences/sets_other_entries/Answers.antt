use Rattle.std.proofs.Common.{◌≡◌, not, ap, ◌∙◌}
use Rattle.mt_model.specs.rows.Seen.{own_entries}
use Rattle.mt_node.specs.Differences.{entries_stand}
use Rattle.mt_node.specs.Configured.{ConfiguredNode}
use Rattle.mt_node.proofs.differences.sets_other_entries.Goals as goal

pub returns-in-SetEntries : goal.returns-in-SetEntries
returns-in-SetEntries c =
    let fabric = c.in-SetEntries.fabric in
    let entries : c.as_slice.result.now ≡ c.args.node.now.state.entries = c.as_slice.ensures ∙ ap (λ (kept : ConfiguredNode). kept.state.entries) c.node.view_is in
    let own : c.entries_of.result.now ≡ own_entries fabric c.args.node.now.state.entries = c.entries_of.ensures ∙ ap (own_entries fabric) entries in
    rw c.in-SetEntries.is (ap not (c.entries_stand.ensures ∙ (λ i. entries_stand (own i) (c.latest_entries.ensures i))))
