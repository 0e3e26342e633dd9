-- What is replied of events is made of the asker's own entries, of its own events, and of those that all may see.
use Rattle.std.proofs.Common.{◌≡◌, ℕ, ◌-◌, ◌++◌, List, Option, Some, Result, Ok, Err, filter, if◌then◌else◌, is_some, refl, ap, sym, ◌∙◌}
use Rattle.mt_im.specs.declared.fault.ImFault.{ImFault}
use Rattle.mt_model.specs.messages.Status.{code_of}
use Rattle.mt_model.specs.rows.Seen.{Observation, own_entries}
use Rattle.mt_model.specs.declared.messages.message.Happened.{Happened}
use Rattle.mt_model.specs.declared.messages.message.Item.{Item}
use Rattle.mt_model.specs.declared.messages.message.Reply.{Reply}
use Rattle.mt_model.specs.declared.messages.message.Request.{Request}
use Rattle.mt_model.specs.declared.messages.message.Request.TheVariants as requests
use Rattle.mt_model.specs.declared.messages.status.Status.TheVariants.{Timeout}
use Rattle.mt_model.specs.declared.node.action.Action.TheVariants.{Ask}
use Rattle.mt_model.specs.declared.node.state.NodeState.{NodeState}
use Rattle.mt_model.specs.declared.tables.access.AclEntry.{AclEntry}
use Rattle.mt_model.specs.declared.tables.access.Actor.{Actor}
use Rattle.mt_events.specs.Reading.{Asking, is_told, refusals}
use Rattle.mt_events.specs.Rings.{ring_of}
use Rattle.mt_events.specs.Telling.{bytes_of, fitting, merged, own_of}
use Rattle.mt_machine.specs.Environment.{Environment}
use Rattle.mt_machine.specs.Isolation.{Own, veil, veil_of_whole}
use Rattle.mt_machine.specs.Laws as laws
use Rattle.mt_machine.specs.State.{IsValid, State}
use Rattle.mt_machine.specs.Step.{asked_reply, asker, is_late, refusal, reply_to}
use Rattle.mt_ledger.specs.history.Asking.{events_asked, events_for, full_line_reply, full_reply, with_events}
use Rattle.mt_ledger.specs.history.History.{History, IsHistory}
use Rattle.mt_ledger.specs.history.Isolation.{own_events, veiled_history}
use Rattle.mt_ledger.proofs.Rings.{own_again, shared_again}

-- what is answered of these lists
abbrev answered_of : Asking → List Happened → List Happened → List Item
answered_of asking shared mine = refusals asking ++ fitting (1176 - bytes_of (refusals asking)) (filter (is_told asking) (merged shared mine))

module _ (actor : Actor) (entries others : List AclEntry) (rings again : List (List Happened)) (same : own_entries actor.fabric others ≡ own_entries actor.fabric entries)
    (shared : ring_of 0 again ≡ ring_of 0 rings) (mine : own_of actor.fabric again ≡ own_of actor.fabric rings) where
  asked_same : (request : Request) → events_asked others again actor request ≡ events_asked entries rings actor request
  asked_same (requests.Status code) = refl
  asked_same (requests.Read paths wanted minimum filtered versions) = λ i. answered_of (record { entries = same i; actor = actor; minimum = minimum; paths = wanted }) (shared i) (mine i)
  asked_same (requests.Subscribe keep floor ceiling paths wanted minimum filtered versions) = refl
  asked_same (requests.Write suppress timed items) = refl
  asked_same (requests.Invoke suppress timed command fields) = refl
  asked_same (requests.Timed ms) = refl

module _ (keeps_own : laws.KeepsItsOwnPart) (given : Environment) (h : History) (is : IsHistory h) where
  -- on the veil of its fabric an actor is told the same events
  pub told_same : (s : NodeState) → IsValid s → (asking : Actor) (request : Request) → events_asked (veil asking.fabric s).entries (veiled_history asking.fabric h).rings asking request ≡ events_asked s.entries h.rings asking request
  told_same s valid asking request =
      asked_same asking s.entries (veil asking.fabric s).entries h.rings (veiled_history asking.fabric h).rings
      (ap (λ (o : Own). o.entries) (keeps_own asking.fabric s valid))
      (shared_again asking.fabric (own_events asking.fabric h) (ring_of 0 h.rings))
      (own_again asking.fabric h is)
      request

  pub replies_same : laws.SeesTheVeil → (s : NodeState) → IsValid s → (actor asking : Actor) (request : Request) (deadline : Option ℕ) (now : ℕ) → asker s actor ≡ Some asking → asker (veil asking.fabric s) actor ≡ Some asking
      → full_reply given (veil asking.fabric s) (veiled_history asking.fabric h) (Ask actor request deadline) now ≡ full_reply given s h (Ask actor request deadline) now
  replies_same sees s valid actor asking request deadline now on_state on_veil =
      let veiled = veil asking.fabric s in
      let hidden = veiled_history asking.fabric h in
      let replied : NodeState → History → Option Actor → Reply = λ t k whom. with_events (events_for t k whom request) (asked_reply given t request deadline now whom) in
      let seen : Observation → Reply = λ o. if is_late deadline now then refusal (code_of Timeout) else reply_to given (record o { clock = now }) asking (is_some deadline) request in
      ap (λ (whom : Option Actor). replied veiled hidden whom) on_veil
      ∙ (λ i. with_events (told_same s valid asking request i) (seen (sees asking.fabric s valid i)))
      ∙ ap (λ (whom : Option Actor). replied s h whom) (sym on_state)

  pub line_replies_same : laws.LinesReplyOnTheVeil → (s : State) → IsValid s.node → (actor asking : Actor) (now : ℕ) (asked : Result Request ImFault) → asker s.node actor ≡ Some asking → asker (veil asking.fabric s.node) actor ≡ Some asking
      → full_line_reply given (veil_of_whole asking.fabric s) (veiled_history asking.fabric h) actor asking now asked ≡ full_line_reply given s h actor asking now asked
  line_replies_same replies s valid actor asking now (Ok request) on_state on_veil = λ i. with_events (told_same s.node valid asking request i) (replies given s actor asking now (Ok request) valid on_state on_veil i)
  line_replies_same replies s valid actor asking now (Err fault) on_state on_veil = replies given s actor asking now (Err fault) valid on_state on_veil
