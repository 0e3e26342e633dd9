-- Laws of subscriptions and the sessions over which they are told.
use Rattle.std.specs.Prelude.{◌≡◌, ◌<◌, ℕ, Bool, List, Some}
use Rattle.mt_shared.specs.mt_interactions.Configured.{ConfiguredInteractions}
use Rattle.mt_shared.specs.mt_interactions.Deed.{Deed}
use Rattle.mt_shared.specs.mt_ledger.Ledger.{IsLedger}
use Rattle.mt_shared.specs.mt_machine.State.{IsValid}
use Rattle.mt_model.specs.declared.messages.message.Item.{Item}
use Rattle.mt_model.specs.declared.messages.message.Reply.TheVariants as replies
use Rattle.mt_shared.specs.Replay.{answer_to, behind_deed}
use Rattle.mt_subscribers.specs.Over.{IsDoneOver, IsOver}

-- SUBSCRIPTIONS STAY OVER THEIR SESSION, whatever deed is done, at whatever time.
abbrev pub SubscriptionsStay : Type 0
SubscriptionsStay = (node : ConfiguredInteractions) (deed : Deed) (ms fabric id session : ℕ) → IsValid node.state.node → IsLedger node.state.node node.ledger → fabric < 256
    → IsOver fabric id session node.ledger.subs → IsOver fabric id session (behind_deed node deed ms).ledger.subs

-- THEY ARE GAINED OVER THE SESSION OF THEIR REQUEST: one that the answer to a deed over a session tells is told over that session.
abbrev pub SubscriptionsAreGained : Type 0
SubscriptionsAreGained = (node : ConfiguredInteractions) (deed : Deed) (ms fabric id session : ℕ) (items : List Item) (suppress : Bool) → IsValid node.state.node → IsLedger node.state.node node.ledger → fabric < 256
    → IsDoneOver session deed → (answer_to node deed ms).fabric ≡ Some fabric → (answer_to node deed ms).reply ≡ replies.Report (Some id) items suppress
    → IsOver fabric id session (behind_deed node deed ms).ledger.subs
