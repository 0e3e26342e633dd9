-- What an actor is replied on the veils of its fabric, to a subscription too, and what follows at once on a line.
use Rattle.std.proofs.Common.{◌≡◌, ℕ, length, Option, Some, Result, Ok, Err, refl, ap, sym, ◌∙◌}
use Rattle.mt_im.specs.declared.fault.ImFault.{ImFault}
use Rattle.mt_model.specs.declared.messages.message.Reply.{Reply}
use Rattle.mt_model.specs.declared.messages.message.Reply.TheVariants as replies
use Rattle.mt_model.specs.declared.messages.message.Request.{Request}
use Rattle.mt_model.specs.declared.node.action.Action.TheVariants.{Ask}
use Rattle.mt_model.specs.declared.node.state.NodeState.{NodeState}
use Rattle.mt_model.specs.declared.tables.access.Actor.{Actor}
use Rattle.mt_subs.specs.Subscriptions.{first_ids}
use Rattle.mt_machine.specs.Environment.{Environment}
use Rattle.mt_machine.specs.Isolation.{veil, veil_of_whole}
use Rattle.mt_machine.specs.Laws as laws
use Rattle.mt_machine.specs.Lines.{deadline_of}
use Rattle.mt_machine.specs.State.{IsValid, State}
use Rattle.mt_machine.specs.Step.{asker}
use Rattle.mt_ledger.specs.history.Asking as asked_of
use Rattle.mt_ledger.specs.history.Isolation.{veiled_history}
use Rattle.mt_ledger.specs.history.Laws as histories
use Rattle.mt_ledger.specs.Asking.{full_line_reply, full_reply, line_response, line_wish, with_wish}
use Rattle.mt_ledger.specs.Isolation.{veiled_ledger}
use Rattle.mt_ledger.specs.Ledger.{IsLedger, Ledger}
use Rattle.mt_ledger.specs.Subscribing.{response_to, wish_asked, wish_in_time}
use Rattle.mt_ledger.proofs.Behind.{veiled_subs}
use Rattle.mt_ledger.proofs.Wishes.{reply_same}

module _ (sees : laws.SeesTheVeil) (keeps_own : laws.KeepsItsOwnPart) (keeps_events : histories.KeepsItsEvents) (keeps_recent : histories.KeepsRecentEvents) (first : length first_ids ≡ 256) where
  -- a wish in time is answered the same, and all else is as it was
  in_time_same : (s : NodeState) (l : Ledger) → IsValid s → IsLedger s l → (asking : Actor) (deadline : Option ℕ) (now : ℕ) (request : Request) (reply other : Reply) → other ≡ reply
      → with_wish (veil asking.fabric s) (veiled_ledger asking.fabric l) (wish_in_time asking deadline now request) other ≡ with_wish s l (wish_in_time asking deadline now request) reply
  in_time_same s l valid is = reply_same sees keeps_own keeps_events keeps_recent s l valid is (veiled_subs first s l is)

  pub action_replied : histories.RepliesWithEventsOnTheVeil → (given : Environment) (s : NodeState) (l : Ledger) (actor asking : Actor) (request : Request) (deadline : Option ℕ) (now : ℕ) → IsValid s → IsLedger s l
      → asker s actor ≡ Some asking → asker (veil asking.fabric s) actor ≡ Some asking
      → full_reply given (veil asking.fabric s) (veiled_ledger asking.fabric l) (Ask actor request deadline) now ≡ full_reply given s l (Ask actor request deadline) now
  action_replied replied given s l actor asking request deadline now valid is on_state on_veil =
      let veiled = veil asking.fabric s in
      let hidden = veiled_ledger asking.fabric l in
      let reply = asked_of.full_reply given s l.history (Ask actor request deadline) now in
      let other = asked_of.full_reply given veiled hidden.history (Ask actor request deadline) now in
      ap (λ (whom : Option Actor). with_wish veiled hidden (wish_asked whom deadline now request) other) on_veil
      ∙ in_time_same s l valid is asking deadline now request reply other (replied given s l.history actor asking request deadline now valid is.history on_state on_veil)
      ∙ ap (λ (whom : Option Actor). with_wish s l (wish_asked whom deadline now request) reply) (sym on_state)

  -- What a line wishes for, since its deadline is the same.

  line_wish_same : laws.DeadlinesOnTheVeil → (s : State) (l : Ledger) → IsValid s.node → IsLedger s.node l → (asking : Actor) (now : ℕ) (asked : Result Request ImFault) (reply other : Reply) → other ≡ reply
      → with_wish (veil asking.fabric s.node) (veiled_ledger asking.fabric l) (line_wish (veil_of_whole asking.fabric s) asking now asked) other ≡ with_wish s.node l (line_wish s asking now asked) reply
  line_wish_same deadlines s l valid is asking now (Ok request) reply other same =
      ap (λ (deadline : Option ℕ). with_wish (veil asking.fabric s.node) (veiled_ledger asking.fabric l) (wish_in_time asking deadline now request) other) (deadlines s asking)
      ∙ in_time_same s.node l valid is asking (deadline_of asking s.deadlines) now request reply other same
  line_wish_same deadlines s l valid is asking now (Err fault) reply other same = same

  pub line_replied : laws.DeadlinesOnTheVeil → histories.LineRepliesWithEventsOnTheVeil → (given : Environment) (s : State) (l : Ledger) (actor asking : Actor) (now : ℕ) (asked : Result Request ImFault) → IsValid s.node → IsLedger s.node l
      → asker s.node actor ≡ Some asking → asker (veil asking.fabric s.node) actor ≡ Some asking
      → full_line_reply given (veil_of_whole asking.fabric s) (veiled_ledger asking.fabric l) actor asking now asked ≡ full_line_reply given s l actor asking now asked
  line_replied deadlines replied given s l actor asking now asked valid is on_state on_veil =
      line_wish_same deadlines s l valid is asking now asked
      (asked_of.full_line_reply given s l.history actor asking now asked) (asked_of.full_line_reply given (veil_of_whole asking.fabric s) (veiled_history asking.fabric l.history) actor asking now asked)
      (replied given s l.history actor asking now asked valid is.history on_state on_veil)

  wishes_same : laws.DeadlinesOnTheVeil → (s : State) (asking : Actor) (now : ℕ) (asked : Result Request ImFault) → line_wish (veil_of_whole asking.fabric s) asking now asked ≡ line_wish s asking now asked
  wishes_same deadlines s asking now (Ok request) = ap (λ (deadline : Option ℕ). wish_in_time asking deadline now request) (deadlines s asking)
  wishes_same deadlines s asking now (Err fault) = refl

  pub responded : laws.DeadlinesOnTheVeil → (s : State) (l : Ledger) (asking : Actor) (now : ℕ) (asked : Result Request ImFault) → IsValid s.node → IsLedger s.node l
      → line_response (veil_of_whole asking.fabric s) (veiled_ledger asking.fabric l) asking now asked ≡ line_response s l asking now asked
  responded deadlines s l asking now asked valid is =
      λ i. response_to (wishes_same deadlines s asking now asked i) (line_wish_same deadlines s l valid is asking now asked replies.Nothing replies.Nothing refl i)
