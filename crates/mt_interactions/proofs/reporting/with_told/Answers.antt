use Rattle.std.proofs.Common.{◌≡◌, ap, List, [], length, rules, sym, ◌++◌, ◌∙◌}
use Rattle.std.proofs.lemmas.List.{nil_from_length}
use Rattle.mt_events.specs.Reading.{asking}
use Rattle.mt_events.specs.Telling.{answered}
use Rattle.mt_runs.specs.mt_ledger.HistoryAsking.{with_events}
use Rattle.mt_model.specs.declared.messages.message.Item.{Item}
use Rattle.mt_model.specs.declared.messages.message.Path.{Path}
use Rattle.mt_model.specs.declared.messages.message.Reply.TheVariants as replies
use Rattle.mt_interactions.specs.Configured.{ConfiguredInteractions}
use Rattle.mt_interactions.proofs.Reported.{none_asked, with_none}
use Rattle.mt_interactions.proofs.reporting.with_told.Goals as goal

pub returns-then-is_empty : goal.returns-then-is_empty
returns-then-is_empty c =
    let kept : ConfiguredInteractions = c.args.interactions.now in
    let zero : length c.args.paths.now ≡ 0 = search rules in
    let none : c.args.paths.now ≡ [] = nil_from_length c.args.paths.now zero in
    sym (ap (λ (paths : List Path). with_events (answered (asking kept.state.node.entries c.args.actor.now c.args.minimum paths) kept.ledger.history.rings) c.args.reply.now) none
    ∙ ap (λ (events : List Item). with_events events c.args.reply.now) (none_asked kept.state.node.entries c.args.actor.now c.args.minimum kept.ledger.history.rings)
    ∙ with_none c.args.reply.now)

pub returns : goal.returns
returns c =
    let told = c.in_ok-told.ensures ∙ ap (λ (k : ConfiguredInteractions). answered (asking k.state.node.entries c.args.actor.now c.args.minimum c.args.paths.now) k.ledger.history.rings) c.interactions.view_is in
    let copied : c.in_ok-copy.field-0 ≡ c.in-Report.items = c.in_ok-copy.ensures in
    let all = c.in_ok-joined.ensures ∙ ap (λ (items : List Item). items ++ c.in_ok-told.told) copied ∙ ap (λ (events : List Item). c.in-Report.items ++ events) told in
    rw c.in-Report.is (ap (λ (items : List Item). replies.Report c.in-Report.subscription items c.in-Report.suppress) all)
