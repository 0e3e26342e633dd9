use Rattle.std.proofs.Common.{List, [], Some, false, ap, map, ◌++◌, ◌∙◌}
use Rattle.mt_runs.specs.mt_ledger.Reporting.{subscriber}
use Rattle.mt_runs.specs.mt_ledger.Subscribing.{attributes_for}
use Rattle.mt_model.specs.messages.Blocks.{path_of}
use Rattle.mt_model.specs.declared.messages.message.Item.{Item}
use Rattle.mt_model.specs.declared.messages.message.Reply.TheVariants as replies
use Rattle.mt_model.specs.declared.node.state.NodeState.{NodeState}
use Rattle.mt_interactions.proofs.reports.due_report.Goals as goal

-- src/reports.rt:122:1
pub returns-clause-report : goal.returns-clause-report
returns-clause-report c =
    let s : NodeState = c.args.interactions.now.state.node in
    let kept = c.args.due.now.kept.now in
    let attributes : List Item = attributes_for s (subscriber c.args.fabric kept) (map path_of c.args.due.now.places) kept.sub.filtered [] in
    let reader = c.subscriber-reader.ensures in
    let paths = c.in_ok-paths.ensures ∙ ap (map path_of) c.as_slice-2.ensures in
    let none = c.new-none.ensures in
    ap (λ (all : List Item). replies.Report (Some c.args.id) all false)
    (c.in_ok-joined.ensures
    ∙ ap (λ (told : List Item). told ++ c.in_ok-events.events) (c.in_ok-attributes.ensures ∙ (λ i. attributes_for s (reader i) (paths i) kept.sub.filtered (none i)))
    ∙ ap (λ (es : List Item). attributes ++ es) c.in_ok-events.ensures)
