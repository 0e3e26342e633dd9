-- A line that acts for another makes nothing of the group key sets of a fabric.
use Rattle.std.proofs.Common.{◌≡◌, ◌≢◌, ℕ, ◌==◌, ◌&&◌, inl, inr, Bool, true, false, List, [], ◌∷◌, Option, Some, None, Result, Ok, Err, refl, sym, ap, ◌∙◌, unwrap_or, if◌then◌else◌}
use Rattle.std.specs.List.{find}
use Rattle.std.specs.Option.{option_map}
use Rattle.std.proofs.lemmas.Bool.{cases_Bool, eqb-true}
use Rattle.mt_tlv.specs.declared.value.Value.{Value}
use Rattle.mt_im.specs.Reading.{request_in}
use Rattle.mt_im.specs.declared.fault.ImFault.{ImFault}
use Rattle.mt_ledger.specs.Behind.{action_in}
use Rattle.mt_model.specs.declared.messages.message.Request.{Request}
use Rattle.mt_model.specs.declared.node.action.Action.{Action}
use Rattle.mt_model.specs.declared.node.state.NodeState.{NodeState}
use Rattle.mt_model.specs.declared.tables.access.Actor.{Actor}
use Rattle.mt_model.specs.declared.texts.recording.Event.{Event}
use Rattle.mt_model.specs.declared.texts.recording.Event.TheVariants as events
use Rattle.mt_talk.specs.Hearing.{Said, answers, asks, confirms, ends, nothing}
use Rattle.mt_machine.specs.Environment.{Environment}
use Rattle.mt_machine.specs.Laws.{LinesAskOnTheVeil}
use Rattle.mt_machine.specs.Lines.{action_of, deadline_for, line_actor}
use Rattle.mt_machine.specs.State.{IsValid}
use Rattle.mt_machine.specs.Step.{asker, session_actor}
use Rattle.mt_runs.specs.Course.{Course, goes, stops}
use Rattle.mt_runs.specs.Datagrams.{activity_said, actor_on, ending, said_to, session_named}
use Rattle.mt_runs.specs.Lines.{activity_named, fabric_named, fabric_of}
use Rattle.mt_runs.specs.Whole.{SessionTalk, Whole, fabric_over, is_talk_of, talk_of}
use Rattle.mt_keysets.specs.Changes.{behind_action, behind_line, behind_request, is_its_own, succeeds}
use Rattle.mt_keysets.specs.Runs.{sets_in_course}

found_id : (id : ℕ) (talks : List SessionTalk) (t : SessionTalk) → find (is_talk_of id) talks ≡ Some t → t.row.session ≡ id
found_id id [] t is = absurd cc
found_id id (u ∷ talks) t is = elim (cases_Bool (is_talk_of id u)) [
  | inl this ↦
      let same : Some u ≡ Some t = rw this at is in
      ap (λ (o : Option SessionTalk). unwrap_or (option_map (λ (v : SessionTalk). v.row.session) o) id) (sym same) ∙ eqb-true u.row.session id this
  | inr other ↦ found_id id talks t (rw other at is)
]

module _ (given : Environment) (fabric : ℕ) (s : NodeState) (sets : List Value) where
  -- an action makes nothing of them
  abbrev Leaves : Action → ℕ → Type 0
  Leaves action now = behind_action given fabric s action now sets ≡ sets

  not_its_own : (found : Option Actor) → ((asking : Actor) → found ≡ Some asking → asking.fabric ≡ fabric → ⊥) → is_its_own fabric found ≡ false
  not_its_own None never = refl
  not_its_own (Some asking) never = elim (cases_Bool (asking.fabric == fabric)) [
    | inl its ↦ absurd (never asking refl (eqb-true asking.fabric fabric its))
    | inr other ↦ other
  ]

  asked_leaves : (actor : Actor) (deadline : Option ℕ) (asked : Result Request ImFault) (now : ℕ) → ((asking : Actor) → asker s actor ≡ Some asking → asking.fabric ≡ fabric → ⊥) → Leaves (action_of actor deadline asked) now
  asked_leaves actor deadline (Ok request) now never =
      ap (λ (b : Bool). if b && succeeds given s actor request deadline now then behind_request fabric request sets else sets) (not_its_own (asker s actor) never)
  asked_leaves actor deadline (Err fault) now never = refl

  -- Over a session.

  live_for : (id : ℕ) (asking : Actor) → session_actor s id ≡ Some asking → fabric_over s id ≡ asking.fabric
  live_for id asking is = ap (λ (o : Option Actor). unwrap_or (option_map (λ (a : Actor). a.fabric) o) 0) is

  ending_leaves : (whose : ℕ) (subscription : Option ℕ) (now : ℕ) → Leaves (action_in (ending whose subscription)) now
  ending_leaves whose None now = refl
  ending_leaves whose (Some id) now = refl

  said_leaves : (id : ℕ) → fabric_over s id ≢ fabric → (what : Said) (now : ℕ) → Leaves (action_in (activity_said s id what)) now
  said_leaves id other nothing now = refl
  said_leaves id other (asks key acknowledge opcode payload timed) now =
      asked_leaves (actor_on id) timed (request_in opcode payload) now (λ asking is same. other (live_for id asking is ∙ same))
  said_leaves id other (confirms key acknowledge subscription) now = refl
  said_leaves id other (ends key acknowledge subscription) now = ending_leaves (fabric_over s id) subscription now
  said_leaves id other (answers key acknowledge payloads) now = refl

  talk_leaves : (bytes : List ℕ) (talks : List SessionTalk) (id : ℕ) → fabric_over s id ≢ fabric → (found : Option SessionTalk) → find (is_talk_of id) talks ≡ found → (now : ℕ) → Leaves (action_in (activity_named s bytes found)) now
  talk_leaves bytes talks id other None is now = refl
  talk_leaves bytes talks id other (Some t) is now = said_leaves t.row.session (λ same. other (ap (fabric_over s) (sym (found_id id talks t is)) ∙ same)) (said_to s bytes t) now

  named_leaves : (bytes : List ℕ) (talks : List SessionTalk) (named : Option ℕ) → fabric_named s named ≢ fabric → (now : ℕ) → Leaves (action_in (activity_named s bytes (talk_of named talks))) now
  named_leaves bytes talks None other now = refl
  named_leaves bytes talks (Some id) other now = talk_leaves bytes talks id other (find (is_talk_of id) talks) refl now

module _ (asks_there : LinesAskOnTheVeil) (given : Environment) (fabric : ℕ) (w : Whole) (valid : IsValid w.state.node) (sets : List Value) where
  line_leaves : (e : Event) → fabric_of w.state.node e ≢ fabric → behind_line given fabric w e sets ≡ sets
  line_leaves (events.Ask ms whose node cats opcode payload) other =
      let actor = line_actor whose node cats in
      asked_leaves given fabric w.state.node sets actor (deadline_for w.state (asker w.state.node actor)) (request_in opcode payload) ms
      (λ asking is same. other (sym ((asks_there w.state.node whose node cats valid).1 asking is) ∙ same))
  line_leaves (events.Datagram ms from bytes) other = named_leaves given fabric w.state.node sets bytes w.talks (session_named bytes) other ms
  line_leaves (events.Tick ms) other = refl
  line_leaves (events.Report ms whose subscription) other = refl
  line_leaves (events.Resend ms session) other = refl
  line_leaves (events.Stop calls fate) other = refl

  pub course_leaves : (e : Event) → fabric_of w.state.node e ≢ fabric → (c : Course) → sets_in_course given fabric w e c sets ≡ sets
  course_leaves e other (goes stop) = line_leaves e other
  course_leaves e other (stops line true) = line_leaves e other
  course_leaves e other (stops line false) = refl
