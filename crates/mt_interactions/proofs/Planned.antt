-- The outcome of a line, from the plan of the node's action.
use Rattle.std.proofs.Common.{◌≡◌, ℕ, not, ◌==◌, ◌&&◌, ◌||◌, inl, inr, Bool, true, false, List, [], ◌∷◌, Option, None, Some, Result, Ok, Err, IfOk, filter, refl, sym, ap, ◌∙◌, append-nil, if◌then◌else◌, is_none, unwrap_or}
use Rattle.std.specs.List.{list_any}
use Rattle.mt_im.specs.Reading.{Gives}
use Rattle.mt_im.specs.declared.fault.ImFault.{ImFault}
use Rattle.mt_im.specs.declared.fault.ImFault.TheVariants as faults
use Rattle.mt_model.specs.Optional.{is_that}
use Rattle.mt_model.specs.tables.Leaving.{stays}
use Rattle.mt_model.specs.declared.tables.access.Actor.{Actor}
use Rattle.mt_model.specs.declared.node.action.Action.TheVariants.{Ask, Expire, Nothing}
use Rattle.mt_model.specs.declared.node.action.PlainDeadline.{PlainDeadline}
use Rattle.mt_model.specs.declared.messages.message.Reply.{Reply}
use Rattle.mt_model.specs.declared.messages.message.Reply.TheVariants as replies
use Rattle.mt_model.specs.declared.messages.message.Request.{Request}
use Rattle.mt_node.specs.mt_machine.Lines.{action_of, deadline_for, deadline_of, deadlines_after, deadlines_of_those_left, fault_reply, is_deadline_of, sent_as, with_deadline, without}
use Rattle.mt_node.specs.mt_machine.State.{State, is_among}
use Rattle.mt_node.specs.mt_machine.Step.{after_action, after_steps, asked_reply, asked_steps, asker, at_time, closed_between, gone_between, reply_of}
use Rattle.mt_node.specs.mt_machine.Rollback.{added_in, deadlines_left, is_due}
use Rattle.mt_node.specs.mt_machine.Laws.{TakesTheAddedAway}
use Rattle.mt_model.specs.declared.tables.network.Armed.{Armed}
use Rattle.mt_node.specs.mt_machine.State.{IsValid}
use Rattle.mt_node.specs.mt_machine.Environment.{Environment}
use Rattle.mt_node.specs.mt_machine.Leaving.{has_left}
use Rattle.mt_node.specs.Plan.{IsPlan, applied}
use Rattle.mt_model.specs.declared.node.state.NodeState.{NodeState}
use Rattle.mt_model.specs.declared.tables.fabric.Fabric.{Fabric}
use Rattle.std.proofs.lemmas.Bool.{cases_Bool}
use Rattle.mt_interactions.specs.Deeds.{done_for}
use Rattle.mt_interactions.specs.Plan.{IsDone, IsLine, IsPassing, IsPlanned, IsTick, applied_history, applied_ledger, closed_by, is_want_of_memory, left_without}
use Rattle.mt_interactions.specs.Replying.{replied_plainly, sent_both}
use Rattle.mt_interactions.specs.Subscribing.{applied_subs}
use Rattle.mt_interactions.specs.declared.behind.SubsBehind.{SubsBehind}
use Rattle.mt_model.specs.declared.texts.recording.Sent.{Sent}
use Rattle.mt_subs.specs.Leaving.{left_in}
use Rattle.mt_runs.specs.mt_ledger.Asking.{full_reply, line_response, line_wish, with_wish}
use Rattle.mt_runs.specs.mt_ledger.Behind.{Activity, acts, action_in, ledger_behind, state_done, subs_done}
use Rattle.mt_runs.specs.mt_ledger.Ledger.{Ledger}
use Rattle.mt_runs.specs.mt_ledger.Subscribing.{behind_wish_if_any, wish_asked, wish_in, wish_in_time}
use Rattle.mt_runs.specs.mt_ledger.HistoryAsking.{events_for, with_events}
use Rattle.mt_runs.specs.mt_ledger.HistoryBehind.{history_behind}
use Rattle.mt_runs.specs.mt_ledger.History.{History, recorded_all, without_left}
use Rattle.mt_runs.specs.Lines.{sent_asked, sent_line}
use Rattle.mt_node.specs.mt_machine.Telling.{told_between}
use Rattle.mt_model.specs.declared.node.action.Action.{Action}
use Rattle.mt_model.specs.declared.node.action.NodeStep.{NodeStep}
use Rattle.mt_node.specs.mt_machine.Step.{Aside}
use Rattle.mt_interactions.specs.declared.outcome.InteractionOutcome.{InteractionOutcome}

or_false : (a b : Bool) → (a || b) ≡ false → (a ≡ false) × (b ≡ false)
or_false true b h = absurd (cc)
or_false false b h = (refl, h)

-- where nothing is taken away
step : (d : PlainDeadline) (ds rest : List PlainDeadline) (its : Bool) → (its ≡ false → ds ≡ rest) → its ≡ false → d ∷ ds ≡ (if not its then d ∷ rest else rest)
step d ds rest true same is = absurd (cc)
step d ds rest false same is = ap (λ (l : List PlainDeadline). d ∷ l) (same is)

pub none_taken : (asking : Actor) (ds : List PlainDeadline) → list_any (is_deadline_of asking) ds ≡ false → ds ≡ without asking ds
none_taken asking [] none = refl
none_taken asking (d ∷ ds) none =
    let both = or_false (is_deadline_of asking d) (list_any (is_deadline_of asking) ds) none in
    step d ds (without asking ds) (is_deadline_of asking d) (λ _. none_taken asking ds both.1) both.0

-- The deadlines of a fabric that leaves the table, told by that fabric.

-- the fabric that goes is the one that has left
left_is_gone : (before now : NodeState) (gone : Option ℕ) → ((fabric : ℕ) → has_left before now fabric ≡ is_that fabric gone) → (ds : List PlainDeadline) → left_without gone ds ≡ deadlines_of_those_left before now ds
left_is_gone before now None leaves [] = refl
left_is_gone before now (Some fabric) leaves [] = refl
left_is_gone before now None leaves (d ∷ ds) =
    let rest = left_is_gone before now None leaves ds in
    rw (leaves d.fabric) (ap (λ (l : List PlainDeadline). d ∷ l) rest)
left_is_gone before now (Some fabric) leaves (d ∷ ds) =
    let rest = left_is_gone before now (Some fabric) leaves ds in
    let same : not (has_left before now d.fabric) ≡ not (fabric == d.fabric) = ap not (leaves d.fabric) in
    elim (cases_Bool (fabric == d.fabric)) [
      | inl its ↦ rw (same, its) rest
      | inr other ↦ rw (same, other) (ap (λ (l : List PlainDeadline). d ∷ l) rest)
    ]

-- nobody leaves where the fabrics are the same
and_not : (b : Bool) → (b && not b) ≡ false
and_not true = refl
and_not false = refl

none_left : (s t : NodeState) → t.fabrics ≡ s.fabrics → (fabric : ℕ) → has_left s t fabric ≡ is_that fabric None
none_left s t same fabric = ap (λ (fs : List Fabric). is_among s.fabrics fabric && not (is_among fs fabric)) same ∙ and_not (is_among s.fabrics fabric)

all_left : (s t : NodeState) → t.fabrics ≡ s.fabrics → (ds : List PlainDeadline) → ds ≡ deadlines_of_those_left s t ds
all_left s t same ds = left_is_gone s t None (none_left s t same) ds

-- The history behind an outcome is that behind the action.
tells : (given : Environment) (s : State) (h : History) (action : Action) (ms : ℕ) (outcome : InteractionOutcome) → outcome.ms ≡ ms → IsPlan given s.node action ms outcome.node → applied_history outcome h ≡ history_behind given s.node action ms h
tells given s h action ms outcome time plan = λ i. recorded_all (time i) (plan.told i) (without_left (plan.aside i).gone h)

-- The ledger behind an outcome is that behind what is done, where this is made of the subscriptions.
ledger_of : (given : Environment) (s : State) (l : Ledger) (activity : Activity) (ms : ℕ) (outcome : InteractionOutcome) → outcome.ms ≡ ms → IsPlan given s.node (action_in activity) ms outcome.node → applied_subs outcome.subs ms l.subs ≡ subs_done s.node l ms activity
    → applied_ledger outcome s l ≡ ledger_behind given s.node activity ms l
ledger_of given s l activity ms outcome time plan made = λ i. record {
  history = tells given s l.history (action_in activity) ms outcome time plan i;
  subs = left_in (plan.state i) ((ap (λ n. applied_subs outcome.subs n l.subs) time ∙ made) i);
}

-- Where nobody is taken as asking, it is that of an action that does nothing.
nobody_tells : (given : Environment) (s : State) (h : History) (actor : Actor) (ms : ℕ) (asked : Result Request ImFault) (deadline : Option ℕ) → asker s.node actor ≡ None
    → history_behind given s.node Nothing ms h ≡ history_behind given s.node (action_of actor deadline asked) ms h
nobody_tells given s h actor ms (Ok request) deadline none = λ i.
    let a : Option Actor = sym none i in
    let steps : List NodeStep = asked_steps given s.node request deadline ms a in
    let behind : NodeState = after_steps a steps (at_time ms s.node) in
    recorded_all ms (told_between a steps s.node behind) (without_left (gone_between s.node.fabrics behind.fabrics) h)
nobody_tells given s h actor ms (Err fault) deadline none = refl

nobody_steps : (given : Environment) (s : State) (actor : Actor) (ms : ℕ) (asked : Result Request ImFault) (deadline : Option ℕ) → asker s.node actor ≡ None → after_action given s.node Nothing ms ≡ after_action given s.node (action_of actor deadline asked) ms
nobody_steps given s actor ms (Ok request) deadline none = sym (ap (λ (a : Option Actor). after_steps a (asked_steps given s.node request deadline ms a) (at_time ms s.node)) none)
nobody_steps given s actor ms (Err fault) deadline none = refl

nobody_changes : (given : Environment) (s : State) (l : Ledger) (actor : Actor) (ms : ℕ) (asked : Result Request ImFault) (deadline : Option ℕ) → asker s.node actor ≡ None
    → ledger_behind given s.node (acts Nothing) ms l ≡ ledger_behind given s.node (acts (action_of actor deadline asked)) ms l
nobody_changes given s l actor ms (Ok request) deadline none = λ i. record {
  history = nobody_tells given s l.history actor ms (Ok request) deadline none i;
  subs = left_in (nobody_steps given s actor ms (Ok request) deadline none i) (behind_wish_if_any s.node l ms (wish_asked (sym none i) deadline ms request));
}
nobody_changes given s l actor ms (Err fault) deadline none = refl

-- a request of whoever is taken as asking
pub request_line : (given : Environment) (s : State) (l : Ledger) (ms : ℕ) (actor asking : Actor) (request : Request) (outcome : InteractionOutcome) → asker s.node actor ≡ Some asking
    → IsPlan given s.node (Ask actor request (deadline_of asking s.deadlines)) ms outcome.node
    → outcome.ms ≡ ms → IsPlanned s l outcome
    → applied_subs outcome.subs ms l.subs ≡ behind_wish_if_any s.node l ms (line_wish s asking ms (Ok request))
    → unwrap_or outcome.deadlines s.deadlines ≡ left_without outcome.node.gone (with_deadline asking s.deadlines ms (Ok request))
    → IsLine given s l ms actor (Ok request) outcome
request_line given s l ms actor asking request outcome asks p time so made next =
    let until = deadline_of asking s.deadlines in
    let behind : NodeState = after_action given s.node (action_of actor (deadline_for s (asker s.node actor)) (Ok request)) ms in
    let node : applied outcome.node s.node ≡ behind = p.state ∙ ap (λ (a : Option Actor). after_action given s.node (action_of actor (deadline_for s a) (Ok request)) ms) (sym asks) in
    let deadlines : unwrap_or outcome.deadlines s.deadlines ≡ deadlines_of_those_left s.node behind (deadlines_after (asker s.node actor) s.deadlines ms (Ok request)) =
    next ∙ left_is_gone s.node (applied outcome.node s.node) outcome.node.gone p.leaves (with_deadline asking s.deadlines ms (Ok request))
    ∙ (λ i. deadlines_of_those_left s.node (node i) (deadlines_after (sym asks i) s.deadlines ms (Ok request))) in
    let subs : applied_subs outcome.subs ms l.subs ≡ behind_wish_if_any s.node l ms (wish_asked (asker s.node actor) until ms request) = made ∙ ap (λ (a : Option Actor). behind_wish_if_any s.node l ms (wish_asked a until ms request)) (sym asks) in
    record {
      state = λ i. record { node = node i; deadlines = deadlines i };
      ledger = ledger_of given s l (acts (Ask actor request until)) ms outcome time p subs
          ∙ ap (λ (a : Option Actor). ledger_behind given s.node (acts (action_of actor (deadline_for s a) (Ok request))) ms l) (sym asks);
      planned = so;
    }

pub request_sent : (given : Environment) (s : State) (l : Ledger) (ms : ℕ) (actor asking : Actor) (request : Request) (messages : List Sent) (reply : Reply) → asker s.node actor ≡ Some asking
    → reply ≡ reply_of given s.node (Ask actor request (deadline_of asking s.deadlines)) ms
    → messages ≡ sent_both ms asking.fabric (with_wish s.node l (line_wish s asking ms (Ok request)) (replied_plainly s l asking ms request reply)) (line_response s l asking ms (Ok request))
    → messages ≡ sent_asked given s l actor ms (Ok request)
request_sent given s l ms actor asking request messages reply asks is sends =
    sends
    ∙ ap (λ (r : Reply). sent_both ms asking.fabric (with_wish s.node l (line_wish s asking ms (Ok request)) (replied_plainly s l asking ms request r)) (line_response s l asking ms (Ok request))) is
    ∙ sym (ap (sent_line given s l actor ms (Ok request)) asks)

-- a payload that is no request, of whoever is taken as asking
pub refused_line : (given : Environment) (s : State) (l : Ledger) (ms : ℕ) (actor asking : Actor) (fault : ImFault) (outcome : InteractionOutcome) → asker s.node actor ≡ Some asking
    → IsPlan given s.node Nothing ms outcome.node
    → outcome.ms ≡ ms → IsPlanned s l outcome
    → applied_subs outcome.subs ms l.subs ≡ l.subs
    → unwrap_or outcome.deadlines s.deadlines ≡ with_deadline asking s.deadlines ms (Err fault)
    → IsLine given s l ms actor (Err fault) outcome
refused_line given s l ms actor asking fault outcome asks p time so made next =
    let deadlines : unwrap_or outcome.deadlines s.deadlines ≡ deadlines_of_those_left s.node (after_action given s.node Nothing ms) (deadlines_after (asker s.node actor) s.deadlines ms (Err fault)) =
    next ∙ ap (λ (a : Option Actor). deadlines_after a s.deadlines ms (Err fault)) (sym asks)
    ∙ all_left s.node (after_action given s.node Nothing ms) refl (deadlines_after (asker s.node actor) s.deadlines ms (Err fault)) in
    record {
      state = λ i. record { node = p.state i; deadlines = deadlines i };
      ledger = ledger_of given s l (acts Nothing) ms outcome time p made;
      planned = so;
    }

pub refused_sent : (given : Environment) (s : State) (l : Ledger) (ms : ℕ) (actor asking : Actor) (fault : ImFault) (messages : List Sent) → asker s.node actor ≡ Some asking → messages ≡ sent_as ms asking.fabric (fault_reply fault)
    → messages ≡ sent_asked given s l actor ms (Err fault)
refused_sent given s l ms actor asking fault messages asks sends = sends ∙ sym (append-nil (sent_as ms asking.fabric (fault_reply fault))) ∙ sym (ap (sent_line given s l actor ms (Err fault)) asks)

-- what an answer of memory gives, where it gives anything
pub if_ok : {T E : Type 0} (r : Result T E) (P Q : T → Type 0) → ((x : T) → P x → Q x) → IfOk r P → IfOk r Q
if_ok (Ok x) P Q follows holds = follows x holds
if_ok (Err e) P Q follows holds = holds

pub if_both : {T E : Type 0} (r : Result T E) (P Q R : T → Type 0) → ((x : T) → P x → Q x → R x) → IfOk r P → IfOk r Q → IfOk r R
if_both (Ok x) P Q R follows holds also = follows x holds also
if_both (Err e) P Q R follows holds also = holds

-- nobody is taken as asking
pub quiet_line : (given : Environment) (s : State) (l : Ledger) (ms : ℕ) (actor : Actor) (asked : Result Request ImFault) (outcome : InteractionOutcome) → asker s.node actor ≡ None → IsDone given s l (acts Nothing) ms outcome → IsLine given s l ms actor asked outcome
quiet_line given s l ms actor asked outcome none done =
    let same = nobody_steps given s actor ms asked (deadline_for s (asker s.node actor)) none in
    record {
      state = done.state ∙ (λ i. record { node = same i; deadlines = deadlines_of_those_left s.node (same i) (deadlines_after (sym none i) s.deadlines ms asked) });
      ledger = done.ledger ∙ nobody_changes given s l actor ms asked (deadline_for s (asker s.node actor)) none;
      planned = done.planned;
    }

pub quiet_sent : (given : Environment) (s : State) (l : Ledger) (ms : ℕ) (actor : Actor) (asked : Result Request ImFault) (messages : List Sent) → asker s.node actor ≡ None → messages ≡ [] → messages ≡ sent_asked given s l actor ms asked
quiet_sent given s l ms actor asked messages none sends = sends ∙ sym (ap (sent_line given s l actor ms asked) none)

-- what was decoded, but for want of memory
pub comes_to : (asked read : Result Request ImFault) → Gives (λ x. x) asked read → is_want_of_memory asked ≡ false → read ≡ asked
comes_to (Ok request) read gives sure = gives
comes_to (Err faults.Memory) read gives sure = absurd (cc)
comes_to (Err (faults.Tlv fault)) read gives sure = gives (λ e. absurd (cc))
comes_to (Err (faults.Missing n)) read gives sure = gives (λ e. absurd (cc))
comes_to (Err (faults.Form n)) read gives sure = gives (λ e. absurd (cc))
comes_to (Err faults.Opcode) read gives sure = gives (λ e. absurd (cc))
comes_to (Err faults.TooManyPaths) read gives sure = gives (λ e. absurd (cc))

-- The deadlines of the fabric that an expiry takes away, told by that fabric.

all_stay : (ds : List PlainDeadline) → ds ≡ filter (λ (d : PlainDeadline). stays None d.fabric) ds
all_stay [] = refl
all_stay (d ∷ ds) = ap (λ (rest : List PlainDeadline). d ∷ rest) (all_stay ds)

left_added : (added : Option ℕ) (ds : List PlainDeadline) → left_without added ds ≡ filter (λ (d : PlainDeadline). stays added d.fabric) ds
left_added None ds = all_stay ds
left_added (Some fabric) ds = refl

left_armed : (armed : Option Armed) (ds : List PlainDeadline) → left_without (added_in armed) ds ≡ deadlines_left armed ds
left_armed None ds = refl
left_armed (Some armed) ds = left_added armed.added ds

left_due : (due : Bool) (armed : Option Armed) (ds : List PlainDeadline) → left_without (if due then added_in armed else None) ds ≡ (if due then deadlines_left armed ds else ds)
left_due true armed ds = left_armed armed ds
left_due false armed ds = refl

pub tick_of : TakesTheAddedAway → (given : Environment) (s : State) (l : Ledger) (ms : ℕ) (outcome : InteractionOutcome) → IsValid s.node → outcome.ms ≡ ms → IsPlanned s l outcome → applied_subs outcome.subs ms l.subs ≡ l.subs → IsPlan given s.node Expire ms outcome.node
    → unwrap_or outcome.deadlines s.deadlines ≡ left_without outcome.node.gone s.deadlines → IsTick given s l ms outcome
tick_of takes given s l ms outcome valid time so made plan left =
    let gone : outcome.node.gone ≡ (if is_due s.node.armed ms then added_in s.node.armed else None) = ap (λ (aside : Aside). aside.gone) plan.aside ∙ takes given s.node ms valid in
    let deadlines : unwrap_or outcome.deadlines s.deadlines ≡ (if is_due s.node.armed ms then deadlines_left s.node.armed s.deadlines else s.deadlines) =
    left ∙ ap (λ (g : Option ℕ). left_without g s.deadlines) gone ∙ left_due (is_due s.node.armed ms) s.node.armed s.deadlines in
    record {
      state = λ i. record { node = plan.state i; deadlines = deadlines i };
      ledger = ledger_of given s l (acts Expire) ms outcome time plan made;
      planned = so;
    }

-- What no line of a plain actor does.

-- time passes
pub passes : (given : Environment) (s : State) (l : Ledger) (ms : ℕ) (subs : SubsBehind) (outcome : InteractionOutcome) → outcome.deadlines ≡ None → outcome.ms ≡ ms → outcome.subs ≡ subs → IsPlanned s l outcome → IsPlan given s.node Nothing ms outcome.node
    → IsPassing given s l ms subs outcome
passes given s l ms subs outcome none time made so plan =
    let deadlines : unwrap_or outcome.deadlines s.deadlines ≡ deadlines_of_those_left s.node (after_action given s.node Nothing ms) s.deadlines =
    ap (λ (d : Option (List PlainDeadline)). unwrap_or d s.deadlines) none ∙ all_left s.node (after_action given s.node Nothing ms) refl s.deadlines in
    record {
      state = λ i. record { node = plan.state i; deadlines = deadlines i };
      ledger = λ i. record { history = tells given s l.history Nothing ms outcome time plan i; subs = left_in (plan.state i) (applied_subs (made i) (time i) l.subs) };
      planned = so;
    }

-- what is done where time passes, and this is made of the subscriptions
pub passing_does : (given : Environment) (s : State) (l : Ledger) (ms : ℕ) (subs : SubsBehind) (activity : Activity) (outcome : InteractionOutcome) → action_in activity ≡ Nothing → applied_subs subs ms l.subs ≡ subs_done s.node l ms activity
    → IsPassing given s l ms subs outcome → IsDone given s l activity ms outcome
passing_does given s l ms subs activity outcome nothing made passing = record {
  state = passing.state ∙ ap (λ (a : Action). record { node = after_action given s.node a ms; deadlines = deadlines_of_those_left s.node (after_action given s.node a ms) s.deadlines }) (sym nothing);
  ledger = passing.ledger ∙ (λ i. record { history = history_behind given s.node (sym nothing i) ms l.history; subs = left_in (after_action given s.node (sym nothing i) ms) (made i) });
  planned = passing.planned;
}

-- an action of the node
pub acted : (given : Environment) (s : State) (l : Ledger) (ms : ℕ) (action : Action) (outcome : InteractionOutcome) → outcome.ms ≡ ms → IsPlanned s l outcome → IsPlan given s.node action ms outcome.node
    → applied_subs outcome.subs ms l.subs ≡ behind_wish_if_any s.node l ms (wish_in s.node action ms)
    → unwrap_or outcome.deadlines s.deadlines ≡ left_without outcome.node.gone s.deadlines → IsDone given s l (acts action) ms outcome
acted given s l ms action outcome time so plan made left =
    let deadlines : unwrap_or outcome.deadlines s.deadlines ≡ deadlines_of_those_left s.node (after_action given s.node action ms) s.deadlines =
    left ∙ left_is_gone s.node (applied outcome.node s.node) outcome.node.gone plan.leaves s.deadlines ∙ ap (λ (now : NodeState). deadlines_of_those_left s.node now s.deadlines) plan.state in
    record {
      state = λ i. record { node = plan.state i; deadlines = deadlines i };
      ledger = ledger_of given s l (acts action) ms outcome time plan made;
      planned = so;
    }

-- what is asked over a session
pub asked_over : (given : Environment) (s : State) (l : Ledger) (ms : ℕ) (actor asking : Actor) (request : Request) (timed : Option ℕ) (outcome : InteractionOutcome) → asker s.node actor ≡ Some asking → outcome.ms ≡ ms → IsPlanned s l outcome → IsPlan given s.node (Ask actor request timed) ms outcome.node
    → applied_subs outcome.subs ms l.subs ≡ behind_wish_if_any s.node l ms (wish_in_time asking timed ms request)
    → unwrap_or outcome.deadlines s.deadlines ≡ left_without outcome.node.gone s.deadlines → IsDone given s l (acts (Ask actor request timed)) ms outcome
asked_over given s l ms actor asking request timed outcome asks time so plan made left =
    acted given s l ms (Ask actor request timed) outcome time so plan (made ∙ ap (λ (a : Option Actor). behind_wish_if_any s.node l ms (wish_asked a timed ms request)) (sym asks)) left

-- what it is replied
pub replied : (given : Environment) (s : NodeState) (l : Ledger) (ms : ℕ) (actor asking : Actor) (request : Request) (timed : Option ℕ) (reply : Reply) → asker s actor ≡ Some asking → reply ≡ reply_of given s (Ask actor request timed) ms
    → with_wish s l (wish_in_time asking timed ms request) (with_events (events_for s l.history (Some asking) request) reply) ≡ full_reply given s l (Ask actor request timed) ms
replied given s l ms actor asking request timed reply asks is =
    ap (λ (r : Reply). with_wish s l (wish_in_time asking timed ms request) (with_events (events_for s l.history (Some asking) request) r)) is
    ∙ ap (λ (a : Option Actor). with_wish s l (wish_asked a timed ms request) (with_events (events_for s l.history a request) (reply_of given s (Ask actor request timed) ms))) (sym asks)

-- and where nobody is taken as asking
pub nobody_over : (given : Environment) (s : State) (l : Ledger) (ms : ℕ) (actor : Actor) (request : Request) (timed : Option ℕ) (outcome : InteractionOutcome) → asker s.node actor ≡ None
    → IsDone given s l (acts Nothing) ms outcome → IsDone given s l (acts (Ask actor request timed)) ms outcome
nobody_over given s l ms actor request timed outcome none quiet =
    let same = nobody_steps given s actor ms (Ok request) timed none in
    record {
      state = quiet.state ∙ (λ i. record { node = same i; deadlines = deadlines_of_those_left s.node (same i) s.deadlines });
      ledger = quiet.ledger ∙ nobody_changes given s l actor ms (Ok request) timed none;
      planned = quiet.planned;
    }

pub nobody_replied : (given : Environment) (s : NodeState) (l : Ledger) (ms : ℕ) (actor : Actor) (request : Request) (timed : Option ℕ) → asker s actor ≡ None → full_reply given s l (Ask actor request timed) ms ≡ replies.Nothing
nobody_replied given s l ms actor request timed none = ap (λ (a : Option Actor). with_wish s l (wish_asked a timed ms request) (with_events (events_for s l.history a request) (asked_reply given s request timed ms a))) none

-- The sessions that end with what is done.
pub closes : (given : Environment) (s : State) (l : Ledger) (activity : Activity) (ms : ℕ) (outcome : InteractionOutcome) → IsDone given s l activity ms outcome → closed_by outcome ≡ closed_between s.node.sessions (state_done given s.node activity ms).sessions
closes given s l activity ms outcome done =
    let plan = done.planned.node.1.1.1 in
    ap (λ (aside : Aside). aside.closed) plan.aside ∙ ap (λ (t : NodeState). closed_between s.node.sessions t.sessions) (sym plan.state ∙ ap (λ (t : State). t.node) done.state)

-- what is done over a session that is live
pub some_does : (fabric : Option ℕ) (activity : Activity) → is_none fabric ≡ false → activity ≡ done_for fabric (λ live. activity)
some_does None activity live = absurd (cc)
some_does (Some fabric) activity live = refl
