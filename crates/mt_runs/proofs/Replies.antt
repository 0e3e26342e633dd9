-- What a line is answered, and that an expiry is a rollback.
use Rattle.std.proofs.Common.{◌≡◌, ℕ, ◌++◌, Bool, true, false, List, [], ◌∷◌, Option, Some, None, Result, Ok, Err, append_assoc, append-nil, refl, sym, ap, ◌∙◌, subst, is_some, if◌then◌else◌}
use Rattle.mt_tlv.specs.declared.value.Value.{Value}
use Rattle.mt_invoke.specs.Checking.{checked, has_form}
use Rattle.mt_meta.specs.declared.meta.CommandMeta.{CommandMeta}
use Rattle.mt_model.specs.messages.Blocks.{place_named}
use Rattle.mt_model.specs.messages.Effects.{refused_at}
use Rattle.mt_model.specs.rows.Seen.{Seen}
use Rattle.mt_model.specs.declared.messages.message.Item.{Item}
use Rattle.mt_model.specs.declared.messages.message.Path.{Path}
use Rattle.mt_model.specs.declared.messages.message.Reply.{Reply}
use Rattle.mt_model.specs.declared.messages.message.Reply.TheVariants as replies
use Rattle.mt_model.specs.declared.messages.message.Request.{Request}
use Rattle.mt_model.specs.declared.messages.message.Request.TheVariants as requests
use Rattle.mt_model.specs.declared.messages.message.WriteItem.{WriteItem}
use Rattle.mt_model.specs.declared.messages.status.Status.{Status}
use Rattle.mt_model.specs.declared.messages.status.Status.TheVariants.{InvalidCommand}
use Rattle.mt_model.specs.declared.node.action.NodeStep.{NodeStep}
use Rattle.mt_model.specs.declared.node.state.NodeState.{NodeState}
use Rattle.mt_model.specs.declared.rows.place.Place.{Place}
use Rattle.mt_model.specs.declared.tables.access.Actor.{Actor}
use Rattle.mt_model.specs.declared.texts.recording.Event.TheVariants as events
use Rattle.mt_write.specs.Writing.{item_step, status_item, with_all, with_step}
use Rattle.mt_write.specs.declared.writing.Written.{Written}
use Rattle.mt_machine.specs.Commands.{carried_out, unless_refused}
use Rattle.mt_machine.specs.Environment.{Environment}
use Rattle.mt_machine.specs.Expiries as machine
use Rattle.mt_machine.specs.Lines.{deadline_of, line_actor, sent_as}
use Rattle.mt_machine.specs.Observation.{observation}
use Rattle.mt_machine.specs.Step.{asked_reply, asker, is_late, reply_in_time, reply_to, at_time}
use Rattle.mt_ledger.specs.Asking.{full_line_reply, with_wish}
use Rattle.mt_ledger.specs.history.Asking.{events_for, with_events}
use Rattle.mt_ledger.specs.Ledger.{Ledger}
use Rattle.mt_ledger.specs.Subscribing.{Wish, response_to, wish_asked, wish_in_time, wish_of}
use Rattle.mt_runs.specs.Expiries.{LinesExpireFirst, LinesRollBack, action_at, time_of}
use Rattle.mt_runs.specs.Lines.{sent_line}
use Rattle.mt_runs.specs.Replies.{AnswersExactly, PlainLinesSendTheirReply, PlainRepliesAreExact, RepliesAreExact, SessionRepliesAreExact, command_reply, is_subscribe, seen_of, status_of, statuses_of, steps_behind}

-- Writes: the statuses one by one.

one_step : (seen : Seen) (asker : Actor) (timed : Bool) (written : Written) (path : Path) (items : List WriteItem) (made : Result NodeStep Status)
    → ((next : Written) → (with_all seen asker timed next items).statuses ≡ next.statuses ++ statuses_of seen asker timed next.rows items)
    → (with_all seen asker timed (with_step written path made) items).statuses ≡ written.statuses ++ (status_item path (status_of made) ∷ statuses_of seen asker timed (steps_behind written.rows made) items)
one_step seen asker timed written path items (Ok step) rest =
    rest (with_step written path (Ok step)) ∙ append_assoc written.statuses (status_item path (status_of (Ok step)) ∷ []) (statuses_of seen asker timed (steps_behind written.rows (Ok step)) items)
one_step seen asker timed written path items (Err status) rest =
    rest (with_step written path (Err status)) ∙ append_assoc written.statuses (status_item path (status_of (Err status)) ∷ []) (statuses_of seen asker timed (steps_behind written.rows (Err status)) items)

statuses_are : (seen : Seen) (asker : Actor) (timed : Bool) (items : List WriteItem) (written : Written) → (with_all seen asker timed written items).statuses ≡ written.statuses ++ statuses_of seen asker timed written.rows items
statuses_are seen asker timed [] written = sym (append-nil written.statuses)
statuses_are seen asker timed (item ∷ items) written =
    one_step seen asker timed written item.path items (item_step seen asker timed written.rows item (place_named item.path)) (statuses_are seen asker timed items)

-- Commands.

command_is : (given : Environment) (s : NodeState) (asker : Actor) (command : Place) (fields : Value) (found : Result CommandMeta Status)
    → (unless_refused given (observation asker.fabric s) asker command fields found).reply ≡ command_reply given s asker command fields found
command_is given s asker command fields (Err status) = refl
command_is given s asker command fields (Ok meta) = by_form (has_form command fields)
  where
    by_form : (form : Bool) → (if form then carried_out given (observation asker.fabric s) asker command fields else refused_at command InvalidCommand).reply
        ≡ (if form then (carried_out given (observation asker.fabric s) asker command fields).reply else (refused_at command InvalidCommand).reply)
    by_form true = refl
    by_form false = refl

-- What is no subscription is no wish.

no_wish_of : (asking : Actor) (request : Request) → is_subscribe request ≡ false → wish_of asking request ≡ None
no_wish_of asking (requests.Subscribe keep floor ceiling paths wanted minimum filtered versions) is = absurd (cc)
no_wish_of asking (requests.Status code) is = refl
no_wish_of asking (requests.Read paths wanted minimum filtered versions) is = refl
no_wish_of asking (requests.Write suppress timed items) is = refl
no_wish_of asking (requests.Invoke suppress timed command fields) is = refl
no_wish_of asking (requests.Timed wait) is = refl

none_either : (late : Bool) (wish : Option Wish) → wish ≡ None → (if late then None else wish) ≡ None
none_either true wish is = refl
none_either false wish is = is

no_wish : (asking : Actor) (deadline : Option ℕ) (ms : ℕ) (request : Request) → is_subscribe request ≡ false → wish_in_time asking deadline ms request ≡ None
no_wish asking deadline ms request is = none_either (is_late deadline ms) (wish_of asking request) (no_wish_of asking request is)

no_events : (reply : Reply) → with_events [] reply ≡ reply
no_events (replies.Report subscription items suppress) = ap (λ (l : List Item). replies.Report subscription l suppress) (append-nil items)
no_events (replies.Status code) = refl
no_events (replies.Subscribed id ceiling) = refl
no_events (replies.Written items) = refl
no_events (replies.Invoked command fields) = refl
no_events (replies.InvokeStatus command code) = refl
no_events (replies.InvokeClusterStatus command code cluster) = refl
no_events replies.Nothing = refl

-- What is replied to whoever asks in time.

module _ (given : Environment) (s : NodeState) (l : Ledger) (asking : Actor) (deadline : Option ℕ) (ms : ℕ) (late : is_late deadline ms ≡ false) where
  in_time : (request : Request) → reply_in_time given s asking request deadline ms ≡ reply_to given (observation asking.fabric (at_time ms s)) asking (is_some deadline) request
  in_time request = rw late refl

  -- the reply, with the events among it
  abbrev Reply_to : Request → Reply
  Reply_to request = with_wish s l (wish_in_time asking deadline ms request) (with_events (events_for s l.history (Some asking) request) (reply_in_time given s asking request deadline ms))

  whole_reply : (request : Request) → is_subscribe request ≡ false → Reply_to request ≡ with_events (events_for s l.history (Some asking) request) (reply_to given (observation asking.fabric (at_time ms s)) asking (is_some deadline) request)
  whole_reply request is = λ i. with_wish s l (no_wish asking deadline ms request is i) (with_events (events_for s l.history (Some asking) request) (in_time request i))

  exact_replies : AnswersExactly given (at_time ms s) l asking (is_some deadline) Reply_to
  exact_replies = record {
    reads = λ paths wanted minimum filtered versions items global.
        whole_reply (requests.Read paths wanted minimum filtered versions) refl ∙ rw (items, global) refl;
    writes = λ timed items timely.
        whole_reply (requests.Write false timed items) refl ∙ rw timely (ap replies.Written (statuses_are (seen_of s asking) asking timed items (record { rows = []; statuses = [] })));
    commands = λ timed command fields timely.
        whole_reply (requests.Invoke false timed command fields) refl ∙ rw timely (command_events timed command fields);
  }
    where
      command_events : (timed : Bool) (command : Place) (fields : Value)
          → with_events [] (unless_refused given (observation asking.fabric (at_time ms s)) asking command fields (checked (seen_of s asking) asking command timed)).reply
          ≡ command_reply given (at_time ms s) asking command fields (checked (seen_of s asking) asking command timed)
      command_events timed command fields = no_events _ ∙ command_is given (at_time ms s) asking command fields (checked (seen_of s asking) asking command timed)

-- whoever is taken as asking
abbrev replied_to : Environment → NodeState → Ledger → Option ℕ → ℕ → Option Actor → Request → Reply
replied_to given s l deadline ms whom request = with_wish s l (wish_asked whom deadline ms request) (with_events (events_for s l.history whom request) (asked_reply given s request deadline ms whom))

over_sessions : SessionRepliesAreExact
over_sessions given w id asking timed ms is in_time =
    subst (λ (whom : Option Actor). AnswersExactly given (at_time ms w.state.node) w.ledger asking (is_some timed) (replied_to given w.state.node w.ledger timed ms whom)) (sym is)
    (exact_replies given w.state.node w.ledger asking timed ms in_time)

plainly : PlainRepliesAreExact
plainly given w actor asking ms is in_time =
    let s = w.state.node in
    let deadline = deadline_of asking w.state.deadlines in
    let exact = exact_replies given s w.ledger asking deadline ms in_time in
    let same : (request : Request) → with_wish s w.ledger (wish_in_time asking deadline ms request) (with_events (events_for s w.ledger.history (Some asking) request) (asked_reply given s request deadline ms (asker s actor)))
    ≡ with_wish s w.ledger (wish_in_time asking deadline ms request) (with_events (events_for s w.ledger.history (Some asking) request) (reply_in_time given s asking request deadline ms))
    = λ request i. with_wish s w.ledger (wish_in_time asking deadline ms request) (with_events (events_for s w.ledger.history (Some asking) request) (asked_reply given s request deadline ms (is i))) in
    record {
      reads = λ paths wanted minimum filtered versions items global. same (requests.Read paths wanted minimum filtered versions) ∙ exact.reads paths wanted minimum filtered versions items global;
      writes = λ timed items timely. same (requests.Write false timed items) ∙ exact.writes timed items timely;
      commands = λ timed command fields timely. same (requests.Invoke false timed command fields) ∙ exact.commands timed command fields timely;
    }

lines : PlainLinesSendTheirReply
lines given w ms fabric node cats opcode payload asking request is asked no_subscribe =
    let actor = line_actor fabric node cats in
    let deadline = deadline_of asking w.state.deadlines in
    (λ i. sent_line given w.state w.ledger actor ms (asked i) (is i))
    ∙ ap (λ (wish : Option Wish). sent_as ms asking.fabric (full_line_reply given w.state w.ledger actor asking ms (Ok request)) ++ sent_as ms asking.fabric (response_to wish (with_wish w.state.node w.ledger wish replies.Nothing)))
    (no_wish asking deadline ms request no_subscribe)
    ∙ append-nil (sent_as ms asking.fabric (full_line_reply given w.state w.ledger actor asking ms (Ok request)))

pub replies_exact : RepliesAreExact
replies_exact = record { plain = plainly; over_sessions = over_sessions; lines = lines }

-- Expiries.

pub expire_first : machine.ExpiriesComeFirst → LinesExpireFirst
expire_first law given w e keeps valid = law given w.state.node (action_at w e) (time_of e) keeps valid.node

nothing_expires : {A : Type 0} → false ≡ true → A
nothing_expires is = absurd cc

pub roll_back : machine.ExpiriesRollBack → LinesRollBack
roll_back law given w (events.Ask ms fabric node cats opcode payload) keeps valid = law given w.state.node (action_at w (events.Ask ms fabric node cats opcode payload)) ms keeps valid.node
roll_back law given w (events.Datagram ms from bytes) keeps valid = law given w.state.node (action_at w (events.Datagram ms from bytes)) ms keeps valid.node
roll_back law given w (events.Tick ms) keeps valid = law given w.state.node (action_at w (events.Tick ms)) ms keeps valid.node
roll_back law given w (events.Report ms fabric subscription) keeps valid = λ is. nothing_expires is
roll_back law given w (events.Resend ms session) keeps valid = λ is. nothing_expires is
roll_back law given w (events.Stop calls fate) keeps valid = λ is. nothing_expires is
