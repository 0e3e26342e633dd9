-- What a line sends is the same where the whole and what is asked are masked.
use Rattle.std.proofs.Common.{◌≡◌, ℕ, ◌&&◌, not, map, Bool, false, List, [], ◌++◌, Option, Some, None, Result, Ok, Err, refl, ap, ◌∙◌, unwrap_or, if◌then◌else◌}
use Rattle.mt_im.specs.declared.fault.ImFault.{ImFault}
use Rattle.mt_model.specs.messages.Blocks.{path_of}
use Rattle.mt_model.specs.messages.Status.{code_of}
use Rattle.mt_model.specs.declared.messages.message.Happened.{Happened}
use Rattle.mt_model.specs.declared.messages.message.Item.{Item}
use Rattle.mt_model.specs.declared.messages.message.Path.{Path}
use Rattle.mt_model.specs.declared.messages.message.Reply.{Reply}
use Rattle.mt_model.specs.declared.messages.message.Reply.TheVariants as replies
use Rattle.mt_model.specs.declared.messages.message.Request.{Request}
use Rattle.mt_model.specs.declared.messages.message.Request.TheVariants as requests
use Rattle.mt_model.specs.declared.messages.status.Status.TheVariants.{Busy, InvalidAction, ResourceExhausted}
use Rattle.mt_model.specs.declared.node.action.Action.TheVariants as actions
use Rattle.mt_model.specs.declared.node.state.NodeState.{NodeState}
use Rattle.mt_model.specs.declared.node.state.Version.{Version}
use Rattle.mt_model.specs.declared.tables.access.AclEntry.{AclEntry}
use Rattle.mt_model.specs.declared.tables.access.Actor.{Actor}
use Rattle.mt_model.specs.declared.tables.access.Auth.{Auth}
use Rattle.mt_model.specs.declared.tables.access.Auth.TheVariants.{Case, Group, Pase}
use Rattle.mt_subs.specs.Subscriptions.{next_id}
use Rattle.mt_machine.specs.Environment.{Environment}
use Rattle.mt_machine.specs.Lines.{deadline_of, has_room, is_refused, is_timed, line_reply, sent_as}
use Rattle.mt_machine.specs.State.{State}
use Rattle.mt_machine.specs.Step.{asker, asker_on, is_late, refusal, reply_of}
use Rattle.mt_ledger.specs.history.Asking as histories
use Rattle.mt_ledger.specs.history.Asking.{events_asked}
use Rattle.mt_ledger.specs.history.History.{History}
use Rattle.mt_ledger.specs.Asking.{full_line_reply, line_response, line_wish, with_wish}
use Rattle.mt_ledger.specs.Ledger.{Ledger}
use Rattle.mt_ledger.specs.Reporting.{Due, due_events, due_now, due_report, subscriber}
use Rattle.mt_ledger.specs.Subscribing.{Wish, attributes_for, first_events, has_no_room, is_malformed, response_to, wish_in_time, wish_of}
use Rattle.mt_runs.specs.Lines.{sent_asked, sent_due, sent_line, sent_to}
use Rattle.mt_runs.specs.Whole.{SessionTalk}
use Rattle.mt_masks.specs.Masking.{masked_asked, masked_node, masked_request, masked_state}
use Rattle.mt_masks.specs.Laws.{ReadsAreTheSame, RepliesAreTheSame}

-- Who is taken as asking.

asker_same_on : (s : NodeState) (actor : Actor) (session : Option ℕ) (auth : Auth) → actor.auth ≡ auth → asker_on (masked_node s) actor session ≡ asker_on s actor session
asker_same_on s actor (Some id) auth is = refl
asker_same_on s actor None Case is = rw is refl
asker_same_on s actor None Pase is = rw is refl
asker_same_on s actor None Group is = rw is refl

pub asker_same : (s : NodeState) (actor : Actor) → asker (masked_node s) actor ≡ asker s actor
asker_same s actor = asker_same_on s actor actor.session actor.auth refl

-- Requests: a KeySetWrite alone is another, which asks for no events, wishes for nothing and sets no time.

wish_same : (asking : Actor) (request : Request) → wish_of asking (masked_request request) ≡ wish_of asking request
wish_same asking (requests.Status code) = refl
wish_same asking (requests.Read paths wanted minimum filtered versions) = refl
wish_same asking (requests.Subscribe keep floor ceiling paths wanted minimum filtered versions) = refl
wish_same asking (requests.Write suppress timed items) = refl
wish_same asking (requests.Invoke suppress timed command fields) = refl
wish_same asking (requests.Timed ms) = refl

events_same : (entries : List AclEntry) (rings : List (List Happened)) (actor : Actor) (request : Request) → events_asked entries rings actor (masked_request request) ≡ events_asked entries rings actor request
events_same entries rings actor (requests.Status code) = refl
events_same entries rings actor (requests.Read paths wanted minimum filtered versions) = refl
events_same entries rings actor (requests.Subscribe keep floor ceiling paths wanted minimum filtered versions) = refl
events_same entries rings actor (requests.Write suppress timed items) = refl
events_same entries rings actor (requests.Invoke suppress timed command fields) = refl
events_same entries rings actor (requests.Timed ms) = refl

timed_same : (request : Request) → is_timed (masked_request request) ≡ is_timed request
timed_same (requests.Status code) = refl
timed_same (requests.Read paths wanted minimum filtered versions) = refl
timed_same (requests.Subscribe keep floor ceiling paths wanted minimum filtered versions) = refl
timed_same (requests.Write suppress timed items) = refl
timed_same (requests.Invoke suppress timed command fields) = refl
timed_same (requests.Timed ms) = refl

-- Wishes.

pub in_time_same : (asking : Actor) (deadline : Option ℕ) (now : ℕ) (request : Request) → wish_in_time asking deadline now (masked_request request) ≡ wish_in_time asking deadline now request
in_time_same asking deadline now request = ap (λ (wish : Option Wish). if is_late deadline now then None else wish) (wish_same asking request)

line_wish_same : (s : State) (asking : Actor) (ms : ℕ) (asked : Result Request ImFault) → line_wish (masked_state s) asking ms (masked_asked asked) ≡ line_wish s asking ms asked
line_wish_same s asking ms (Ok request) = in_time_same asking (deadline_of asking s.deadlines) ms request
line_wish_same s asking ms (Err fault) = refl

-- What is due to a subscriber.
pub due_same : (s : NodeState) (l : Ledger) (now fabric id : ℕ) → due_now (masked_node s) l now fabric id ≡ due_now s l now fabric id
due_same s l now fabric id = refl

module _ (reads : ReadsAreTheSame) where
  attributes_same : (s : NodeState) (actor : Actor) (paths : List Path) (filtered : Bool) (versions : List Version) → attributes_for (masked_node s) actor paths filtered versions ≡ attributes_for s actor paths filtered versions
  attributes_same s actor paths filtered versions = ap (λ (items : Option (List Item)). unwrap_or items []) (reads actor.fabric s actor paths filtered versions)

  with_wish_same : (s : NodeState) (l : Ledger) (wish : Option Wish) (reply : Reply) → with_wish (masked_node s) l wish reply ≡ with_wish s l wish reply
  with_wish_same s l None reply = refl
  with_wish_same s l (Some wish) reply = ap
      (λ (items : List Item).
      if is_malformed wish.sub then refusal (code_of InvalidAction)
      else if has_no_room wish l.subs then refusal (code_of ResourceExhausted)
      else replies.Report (Some (next_id wish.sub.actor.fabric l.subs)) (items ++ first_events s l.history wish) false)
      (attributes_same s wish.sub.actor wish.sub.paths wish.sub.filtered wish.versions)

  pub report_same : (s : NodeState) (h : History) (fabric id : ℕ) (due : Due) → due_report (masked_node s) h fabric id due ≡ due_report s h fabric id due
  report_same s h fabric id due = ap (λ (items : List Item). replies.Report (Some id) (items ++ due_events s h fabric due.kept) false) (attributes_same s (subscriber fabric due.kept) (map path_of due.places) due.kept.sub.filtered [])

  -- A REPORT STEP SENDS THE SAME.
  pub sent_due_same : (s : NodeState) (l : Ledger) (talks : List SessionTalk) (ms fabric id : ℕ) (due : Option Due) → sent_due (masked_node s) l talks ms fabric id due ≡ sent_due s l talks ms fabric id due
  sent_due_same s l talks ms fabric id None = refl
  sent_due_same s l talks ms fabric id (Some due) = ap (λ (report : Reply). sent_to ms fabric report talks due.kept.sub.actor.session) (report_same s l.history fabric id due)

  module _ (answers : RepliesAreTheSame) (given : Environment) where
    -- what is replied but for wishes
    line_reply_same : (s : State) (actor asking : Actor) (ms : ℕ) (asked : Result Request ImFault) → line_reply given (masked_state s) actor asking ms (masked_asked asked) ≡ line_reply given s actor asking ms asked
    line_reply_same s actor asking ms (Ok request) =
        (λ i. if is_refused asking s.deadlines ms (masked_request request) then refusal (code_of Busy) else answers given s.node (actions.Ask actor request (deadline_of asking s.deadlines)) ms i)
        ∙ (λ i. if (timed_part i) then refusal (code_of Busy) else reply_of given s.node (actions.Ask actor request (deadline_of asking s.deadlines)) ms)
      where
        timed_part : is_refused asking s.deadlines ms (masked_request request) ≡ is_refused asking s.deadlines ms request
        timed_part = ap (λ (sets : Bool). sets && (not (has_room asking s.deadlines) && not (is_late (deadline_of asking s.deadlines) ms))) (timed_same request)
    line_reply_same s actor asking ms (Err fault) = refl

    with_events_same : (s : State) (h : History) (actor asking : Actor) (ms : ℕ) (asked : Result Request ImFault)
        → histories.full_line_reply given (masked_state s) h actor asking ms (masked_asked asked) ≡ histories.full_line_reply given s h actor asking ms asked
    with_events_same s h actor asking ms (Ok request) = λ i. histories.with_events (events_same s.node.entries h.rings asking request i) (line_reply_same s actor asking ms (Ok request) i)
    with_events_same s h actor asking ms (Err fault) = refl

    full_same : (s : State) (l : Ledger) (actor asking : Actor) (ms : ℕ) (asked : Result Request ImFault) → full_line_reply given (masked_state s) l actor asking ms (masked_asked asked) ≡ full_line_reply given s l actor asking ms asked
    full_same s l actor asking ms asked =
        (λ i. with_wish (masked_node s.node) l (line_wish_same s asking ms asked i) (with_events_same s l.history actor asking ms asked i))
        ∙ with_wish_same s.node l (line_wish s asking ms asked) (histories.full_line_reply given s l.history actor asking ms asked)

    response_same : (s : State) (l : Ledger) (asking : Actor) (ms : ℕ) (asked : Result Request ImFault) → line_response (masked_state s) l asking ms (masked_asked asked) ≡ line_response s l asking ms asked
    response_same s l asking ms asked =
        (λ i. response_to (line_wish_same s asking ms asked i) (with_wish (masked_node s.node) l (line_wish_same s asking ms asked i) replies.Nothing))
        ∙ ap (response_to (line_wish s asking ms asked)) (with_wish_same s.node l (line_wish s asking ms asked) replies.Nothing)

    sent_line_same : (s : State) (l : Ledger) (actor : Actor) (ms : ℕ) (asked : Result Request ImFault) (asking : Option Actor) → sent_line given (masked_state s) l actor ms (masked_asked asked) asking ≡ sent_line given s l actor ms asked asking
    sent_line_same s l actor ms asked None = refl
    sent_line_same s l actor ms asked (Some asking) = λ i. sent_as ms asking.fabric (full_same s l actor asking ms asked i) ++ sent_as ms asking.fabric (response_same s l asking ms asked i)

    -- A LINE OF A PLAIN ACTOR SENDS THE SAME.
    pub sent_same : (s : State) (l : Ledger) (actor : Actor) (ms : ℕ) (asked : Result Request ImFault) → sent_asked given (masked_state s) l actor ms (masked_asked asked) ≡ sent_asked given s l actor ms asked
    sent_same s l actor ms asked = ap (sent_line given (masked_state s) l actor ms (masked_asked asked)) (asker_same s.node actor) ∙ sent_line_same s l actor ms asked (asker s.node actor)
