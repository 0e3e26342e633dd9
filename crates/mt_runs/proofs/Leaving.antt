-- What a line leaves to its fabric on the veil of that: what it leaves on the whole.
use Rattle.std.proofs.Common.{◌≡◌, ℕ, ◌==◌, ◌&&◌, not, Bool, true, false, List, [], ◌∷◌, Option, Some, None, Result, Ok, Err, inl, inr, refl, sym, ap, subst, ◌∙◌, filter, is_some, map, unwrap_or, if◌then◌else◌}
use Rattle.std.proofs.lemmas.Bool.{cases_Bool}
use Rattle.std.specs.List.{find, list_any}
use Rattle.std.specs.Option.{option_map}
use Rattle.mt_im.specs.Reading.{request_in}
use Rattle.mt_im.specs.declared.fault.ImFault.{ImFault}
use Rattle.mt_model.specs.declared.messages.message.Reply.{Reply}
use Rattle.mt_model.specs.declared.messages.message.Request.{Request}
use Rattle.mt_model.specs.declared.node.action.Action.TheVariants as actions
use Rattle.mt_model.specs.declared.node.action.PlainDeadline.{PlainDeadline}
use Rattle.mt_model.specs.declared.node.state.NodeState.{NodeState}
use Rattle.mt_model.specs.declared.tables.access.Actor.{Actor}
use Rattle.mt_model.specs.declared.texts.recording.Event.{Event}
use Rattle.mt_model.specs.declared.texts.recording.Event.TheVariants as events
use Rattle.mt_opcreds.specs.Laws.{KeepsRules}
use Rattle.mt_talk.specs.Hearing.{Said, answers, asks, confirms, ends, nothing, said}
use Rattle.mt_talk.specs.Talks.{Talk, ended_in}
use Rattle.mt_machine.specs.Environment.{Environment}
use Rattle.mt_machine.specs.Isolation as machine
use Rattle.mt_machine.specs.Isolation.{OwnOfWhole, is_deadline_in, own, own_of_whole, veil_of_whole}
use Rattle.mt_machine.specs.Laws as laws
use Rattle.mt_machine.specs.Lines.{action_of, behind_action, deadline_for, deadline_of, line_actor}
use Rattle.mt_machine.specs.State.{State}
use Rattle.mt_machine.specs.Step.{after_steps, asked_steps, asker, at_time, gone_between, session_actor}
use Rattle.mt_machine.specs.Telling.{told_between}
use Rattle.mt_subs.specs.Leaving.{is_none_of, left_in}
use Rattle.mt_subs.specs.Subscriptions.{is_of}
use Rattle.mt_subs.specs.declared.subscription.Subscription.{Subscription}
use Rattle.mt_ledger.specs.history.History.{recorded_all, without_left}
use Rattle.mt_ledger.specs.Behind.{Activity, action_in, acts, ledger_behind, state_done}
use Rattle.mt_ledger.specs.Behind as activities
use Rattle.mt_ledger.specs.Isolation.{OwnLedger, own_ledger, veiled_ledger}
use Rattle.mt_ledger.specs.Laws as ledger_laws
use Rattle.mt_ledger.specs.Ledger.{Ledger}
use Rattle.mt_ledger.specs.Reporting.{Due, due_now, due_report}
use Rattle.mt_ledger.specs.Subscribing.{behind_wish_if_any, wish_asked}
use Rattle.mt_runs.specs.Datagrams.{actor_on, activity_resent, activity_said, ending, resent_talk, session_named, talked}
use Rattle.mt_runs.specs.Isolation.{IsValidWhole, own_part, talks_among, veil}
use Rattle.mt_runs.specs.Lines.{action_asked, activity_again, activity_named, fabric_named, fabric_of, ledger_after, next, reported_talk, state_behind, talks_behind, talks_due, talks_told, with_next}
use Rattle.mt_runs.specs.Whole.{SessionTalk, Whole, fabric_over, is_live, is_talk_of, let_go, talk_of, with_talk}
use Rattle.mt_runs.proofs.Ids.{is_named}
use Rattle.mt_runs.proofs.Sending.{live_same, on_veil, over_here, over_there, own_has, own_has_not, resent_talk_same, talked_same}
use Rattle.mt_runs.proofs.Subscribers.{subscriber_among}
use Rattle.mt_runs.proofs.Talks.{among_fewer, found_among, found_id, none_among, other_replaced, replaced_among, talks_alike}
use Rattle.mt_runs.proofs.Valid.{bare, bare_keeps, ids_behind}

-- The veil has the own part.

own_twice : (fabric : ℕ) (ds : List PlainDeadline) → filter (is_deadline_in fabric) (filter (is_deadline_in fabric) ds) ≡ filter (is_deadline_in fabric) ds
own_twice fabric [] = refl
own_twice fabric (d ∷ ds) = elim (cases_Bool (is_deadline_in fabric d)) [
  | inl mine ↦ rw (mine, mine) (ap (λ (rest : List PlainDeadline). d ∷ rest) (own_twice fabric ds))
  | inr other ↦ rw other (own_twice fabric ds)
]

pub whole_again : laws.KeepsItsOwnPart → (fabric : ℕ) (w : Whole) → IsValidWhole w → own_of_whole fabric (veil_of_whole fabric w.state) ≡ own_of_whole fabric w.state
whole_again keeps fabric w valid = λ i. record { node = keeps fabric w.state.node valid.node i; deadlines = own_twice fabric w.state.deadlines i }

among_twice : (fabric : ℕ) (s : NodeState) (talks : List SessionTalk) → talks_among (own fabric s).sessions (talks_among (own fabric s).sessions talks) ≡ talks_among (own fabric s).sessions talks
among_twice fabric s talks = among_fewer (own fabric s).sessions (own fabric s).sessions (λ id there. there) talks

pub part_again : laws.KeepsItsOwnPart → ledger_laws.KeepsItsLedger → (fabric : ℕ) (w : Whole) → IsValidWhole w → own_part fabric (veil fabric w) ≡ own_part fabric w
part_again keeps keeps_ledger fabric w valid =
    let its = whole_again keeps fabric w valid in
    λ i. record {
      whole = its i;
      ledger = keeps_ledger fabric w.state.node w.ledger valid.ledger i;
      talks = (ap (λ (o : OwnOfWhole). talks_among o.node.sessions (talks_among (own fabric w.state.node).sessions w.talks)) its ∙ among_twice fabric w.state.node w.talks) i;
    }

-- Where none is named, none ends.

none_of_none : (fabric : ℕ) (x : Subscription) → is_none_of fabric [] x ≡ true
none_of_none fabric x = by_test (is_of fabric x)
  where
    by_test : (its : Bool) → not (its && false) ≡ true
    by_test true = refl
    by_test false = refl

all_left : (fabric : ℕ) (xs : List Subscription) → filter (is_none_of fabric []) xs ≡ xs
all_left fabric [] = refl
all_left fabric (x ∷ xs) = rw (none_of_none fabric x) (ap (λ (rest : List Subscription). x ∷ rest) (all_left fabric xs))

-- So an end of none leaves what time leaves, and what nobody asks leaves that too.

ends_none : (given : Environment) (fabric : ℕ) (x : NodeState) (ms : ℕ) (y : Ledger) → ledger_behind given x (activities.ends fabric []) ms y ≡ ledger_behind given x (acts actions.Nothing) ms y
ends_none given fabric x ms y = ap (λ (left : List Subscription). record {
  history = (ledger_behind given x (acts actions.Nothing) ms y).history;
  subs = left_in (state_done given x (acts actions.Nothing) ms) (record y.subs { subscriptions = left });
}) (all_left fabric y.subs.subscriptions)

abbrev behind_asking : Environment → NodeState → Request → Option ℕ → ℕ → Ledger → Option Actor → Ledger
behind_asking given x request deadline ms y found =
    let now = after_steps found (asked_steps given x request deadline ms found) (at_time ms x) in
    record {
      history = recorded_all ms (told_between found (asked_steps given x request deadline ms found) x now) (without_left (gone_between x.fabrics now.fabrics) y.history);
      subs = left_in now (behind_wish_if_any x y ms (wish_asked found deadline ms request));
    }

nobody_asks : (given : Environment) (x : NodeState) (ms : ℕ) (y : Ledger) (actor : Actor) (deadline : Option ℕ) (asked : Result Request ImFault) → asker x actor ≡ None
    → ledger_behind given x (acts (action_of actor deadline asked)) ms y ≡ ledger_behind given x (acts actions.Nothing) ms y
nobody_asks given x ms y actor deadline (Err fault) none = refl
nobody_asks given x ms y actor deadline (Ok request) none = ap (behind_asking given x request deadline ms y) none

module _ (kept : laws.SessionsKeepTheirIds) (given : Environment) (w : Whole) (valid : IsValidWhole w) where
  abbrev s : NodeState
  s = w.state.node

  abbrev l : Ledger
  l = w.ledger

  -- The parts together.
  pub leaves_all : (fabric : ℕ) (e : Event) → own_of_whole fabric (state_behind given (veil fabric w) e) ≡ own_of_whole fabric (state_behind given w e)
      → own_ledger fabric (ledger_after given (veil fabric w) e) ≡ own_ledger fabric (ledger_after given w e)
      → talks_behind given (veil fabric w) e ≡ talks_among (own fabric s).sessions (talks_behind given w e)
      → own_part fabric (next given (veil fabric w) e) ≡ own_part fabric (next given w e)
  leaves_all fabric e state ledger talks =
      let veiled = (veil fabric w).state.node in
      let now = (state_behind given w e).node in
      let veiled_now = (state_behind given (veil fabric w) e).node in
      λ i. record {
        whole = state i;
        ledger = ledger i;
        talks = (ap (λ (there : List SessionTalk). talks_among (own fabric veiled_now).sessions (map (let_go veiled veiled_now) there)) talks
            ∙ talks_alike fabric s veiled now veiled_now refl valid.sessions_differ (ids_behind kept given w e) (ids_behind kept given (veil fabric w) e)
            (ap (λ (o : OwnOfWhole). o.node.sessions) state) (talks_behind given w e)) i;
      }

  module _ (replies : ledger_laws.RepliesOnTheVeil) (finds : ledger_laws.FindsItsOwn) (keeps_part : laws.KeepsItsOwnPart) (keeps_ledger : ledger_laws.KeepsItsLedger) (actions_leave : laws.ActionsLeaveTheOwnOnTheVeil) (time_keeps : laws.TimeKeepsTheOwn)
      (ledgers_leave : ledger_laws.LeavesItsLedgerOnTheVeil) (confirm_leaves : ledger_laws.ConfirmsOnTheVeil) (ends_leave : ledger_laws.EndsOnTheVeil) (rules : KeepsRules given.judged) where
    -- what is left of a fabric's own behind what is done: its part of the node and the deadlines, and of the ledger
    abbrev both : ℕ → State → Ledger → Activity → ℕ → OwnOfWhole × OwnLedger
    both fabric x y activity ms = (own_of_whole fabric (behind_action given x (action_in activity) ms), own_ledger fabric (ledger_behind given x.node activity ms y))

    abbrev there : ℕ → Activity → ℕ → OwnOfWhole × OwnLedger
    there fabric activity ms = both fabric (veil_of_whole fabric w.state) (veiled_ledger fabric l) activity ms

    abbrev here : ℕ → Activity → ℕ → OwnOfWhole × OwnLedger
    here fabric activity ms = both fabric w.state l activity ms

    abbrev LedgerAlike : ℕ → Activity → ℕ → Type 0
    LedgerAlike fabric activity ms = own_ledger fabric (ledger_behind given (machine.veil fabric s) activity ms (veiled_ledger fabric l)) ≡ own_ledger fabric (ledger_behind given s activity ms l)

    time_leaves_own : (fabric ms : ℕ) → own_of_whole fabric (behind_action given (veil_of_whole fabric w.state) actions.Nothing ms) ≡ own_of_whole fabric (behind_action given w.state actions.Nothing ms)
    time_leaves_own fabric ms = time_keeps given fabric (veil_of_whole fabric w.state) ms ∙ whole_again keeps_part fabric w valid ∙ sym (time_keeps given fabric w.state ms)

    time_leaves_ledger : (fabric ms : ℕ) → LedgerAlike fabric (acts actions.Nothing) ms
    time_leaves_ledger fabric ms =
        ap (own_ledger fabric) (sym (ends_none given fabric (machine.veil fabric s) ms (veiled_ledger fabric l)))
        ∙ ends_leave fabric [] given s l ms rules valid.node valid.ledger
        ∙ ap (own_ledger fabric) (ends_none given fabric s ms l)

    time_leaves : (fabric ms : ℕ) → there fabric (acts actions.Nothing) ms ≡ here fabric (acts actions.Nothing) ms
    time_leaves fabric ms = λ i. (time_leaves_own fabric ms i, time_leaves_ledger fabric ms i)

    -- What is said over a session that is live.
    module _ (id : ℕ) (a : Actor) (live : session_actor s id ≡ Some a) (ms : ℕ) where
      ending_leaves : (subscription : Option ℕ) → there a.fabric (ending a.fabric subscription) ms ≡ here a.fabric (ending a.fabric subscription) ms
      ending_leaves None = time_leaves a.fabric ms
      ending_leaves (Some subscription) = λ i. (time_leaves_own a.fabric ms i, ends_leave a.fabric (subscription ∷ []) given s l ms rules valid.node valid.ledger i)

      -- what is done with a subscription is done with one of its fabric, on both
      of_its : (D : ℕ → Activity) → there a.fabric (D a.fabric) ms ≡ here a.fabric (D a.fabric) ms → there a.fabric (D (fabric_over (machine.veil a.fabric s) id)) ms ≡ here a.fabric (D (fabric_over s id)) ms
      of_its D same =
          ap (λ (n : ℕ). there a.fabric (D n) ms) (over_there replies finds given w valid id a live)
          ∙ same
          ∙ ap (λ (n : ℕ). here a.fabric (D n) ms) (sym (over_here replies finds given w valid id a live))

      said_leaves : (what : Said) → there a.fabric (activity_said (machine.veil a.fabric s) id what) ms ≡ here a.fabric (activity_said s id what) ms
      said_leaves nothing = time_leaves a.fabric ms
      said_leaves (asks key acknowledge opcode payload timed) =
          let veiled = on_veil w valid id a live in
          λ i. (
            actions_leave given w.state (actor_on id) a (request_in opcode payload) timed ms rules valid.node live veiled i,
            ledgers_leave given s l (actor_on id) a (request_in opcode payload) timed ms rules valid.node valid.ledger live veiled i,
          )
      said_leaves (confirms key acknowledge subscription) =
          of_its (λ (n : ℕ). activities.confirms n subscription) (λ i. (time_leaves_own a.fabric ms i, confirm_leaves a.fabric subscription given s l ms rules valid.node valid.ledger i))
      said_leaves (ends key acknowledge subscription) = of_its (λ (n : ℕ). ending n subscription) (ending_leaves subscription)
      said_leaves (answers key acknowledge payloads) = time_leaves a.fabric ms

    datagram_leaves : (ms : ℕ) (bytes : List ℕ) (t : SessionTalk) (a : Actor) → session_actor s t.row.session ≡ Some a
        → there a.fabric (activity_named (machine.veil a.fabric s) bytes (Some t)) ms ≡ here a.fabric (activity_named s bytes (Some t)) ms
    datagram_leaves ms bytes t a live =
        ap (λ (lives : Bool). there a.fabric (activity_said (machine.veil a.fabric s) t.row.session (said t.row t.talk lives bytes)) ms) (live_same replies finds given w valid t.row.session a live)
        ∙ said_leaves t.row.session a live ms (said t.row t.talk (is_live s t.row.session) bytes)

    quiet_doing : (bytes : List ℕ) (x : NodeState) (t : SessionTalk) → session_actor x t.row.session ≡ None → activity_named x bytes (Some t) ≡ acts actions.Nothing
    quiet_doing bytes x t none = ap (λ (lives : Bool). activity_said x t.row.session (said t.row t.talk lives bytes)) (ap is_some none)

    -- What ends with what is sent again in vain.

    abbrev resending : ℕ → SessionTalk → Option Actor → Activity
    resending ms t found = if is_some found then activities.ends (unwrap_or (option_map (λ (actor : Actor). actor.fabric) found) 0) (ended_in t.row ms t.talk) else acts actions.Nothing

    resend_live : (ms : ℕ) (x : NodeState) (t : SessionTalk) (a : Actor) → session_actor x t.row.session ≡ Some a → activity_resent x ms t ≡ activities.ends a.fabric (ended_in t.row ms t.talk)
    resend_live ms x t a live = ap (resending ms t) live

    quiet_resend : (ms : ℕ) (x : NodeState) (t : SessionTalk) → session_actor x t.row.session ≡ None → activity_resent x ms t ≡ acts actions.Nothing
    quiet_resend ms x t none = ap (resending ms t) none

    resend_leaves : (ms : ℕ) (t : SessionTalk) (a : Actor) → session_actor s t.row.session ≡ Some a → there a.fabric (activity_resent (machine.veil a.fabric s) ms t) ms ≡ here a.fabric (activity_resent s ms t) ms
    resend_leaves ms t a live =
        ap (λ (activity : Activity). there a.fabric activity ms) (resend_live ms (machine.veil a.fabric s) t a (on_veil w valid t.row.session a live))
        ∙ (λ i. (time_leaves_own a.fabric ms i, ends_leave a.fabric (ended_in t.row ms t.talk) given s l ms rules valid.node valid.ledger i))
        ∙ ap (λ (activity : Activity). here a.fabric activity ms) (sym (resend_live ms s t a live))

    -- Whatever session is named: what is done over it, and its talk behind that, here and on the veil of a fabric.
    module _ (ms : ℕ) (A : NodeState → Option SessionTalk → Activity) (T : SessionTalk → Talk) (V : ℕ → SessionTalk → Talk)
        (absent : (x : NodeState) → A x None ≡ acts actions.Nothing) (quiet : (x : NodeState) (t : SessionTalk) → session_actor x t.row.session ≡ None → A x (Some t) ≡ acts actions.Nothing)
        (alike : (t : SessionTalk) (a : Actor) → session_actor s t.row.session ≡ Some a → there a.fabric (A (machine.veil a.fabric s) (Some t)) ms ≡ here a.fabric (A s (Some t)) ms)
        (same : (t : SessionTalk) (a : Actor) → session_actor s t.row.session ≡ Some a → V a.fabric t ≡ T t) where
      abbrev LeavesAlike : ℕ → Option SessionTalk → Option SessionTalk → Type 0
      LeavesAlike fabric on_it found = there fabric (A (machine.veil fabric s) on_it) ms ≡ here fabric (A s found) ms

      abbrev TalksAlike : ℕ → Option SessionTalk → Option SessionTalk → Type 0
      TalksAlike fabric on_it found = with_next (V fabric) on_it (talks_among (own fabric s).sessions w.talks) ≡ talks_among (own fabric s).sessions (with_next T found w.talks)

      nothing_named : (fabric : ℕ) → LeavesAlike fabric None None
      nothing_named fabric =
          ap (λ (activity : Activity). there fabric activity ms) (absent (machine.veil fabric s))
          ∙ time_leaves fabric ms
          ∙ ap (λ (activity : Activity). here fabric activity ms) (sym (absent s))

      live_found : (id : ℕ) (a : Actor) → session_actor s id ≡ Some a → (found : Option SessionTalk) → find (is_talk_of id) w.talks ≡ found → LeavesAlike a.fabric found found × TalksAlike a.fabric found found
      live_found id a live None is = (nothing_named a.fabric, refl)
      live_found id a live (Some t) is =
          let its = ap (session_actor s) (found_id id w.talks t is) ∙ live in
          (alike t a its, ap (λ (new : Talk). with_talk t.row.session new (talks_among (own a.fabric s).sessions w.talks)) (same t a its) ∙ replaced_among (own a.fabric s).sessions t.row.session (T t) w.talks)

      quiet_found : (id : ℕ) → session_actor s id ≡ None → (found : Option SessionTalk) → find (is_talk_of id) w.talks ≡ found → LeavesAlike 0 None found × TalksAlike 0 None found
      quiet_found id none None is = (nothing_named 0, refl)
      quiet_found id none (Some t) is =
          let its = ap (session_actor s) (found_id id w.talks t is) ∙ none in (
            nothing_named 0 ∙ ap (λ (activity : Activity). here 0 activity ms) (absent s ∙ sym (quiet s t its)),
            sym (other_replaced (own 0 s).sessions t.row.session (T t) w.talks (own_has_not w valid 0 t.row.session its)),
          )

      by_actor : (id : ℕ) (found : Option Actor) → session_actor s id ≡ found
          → LeavesAlike (unwrap_or (option_map (λ (actor : Actor). actor.fabric) found) 0) (find (is_talk_of id) (veil (unwrap_or (option_map (λ (actor : Actor). actor.fabric) found) 0) w).talks) (find (is_talk_of id) w.talks)
          × TalksAlike (unwrap_or (option_map (λ (actor : Actor). actor.fabric) found) 0) (find (is_talk_of id) (veil (unwrap_or (option_map (λ (actor : Actor). actor.fabric) found) 0) w).talks) (find (is_talk_of id) w.talks)
      by_actor id None none =
          let away = none_among (own 0 s).sessions id w.talks (own_has_not w valid 0 id none) in
          let pair = quiet_found id none (find (is_talk_of id) w.talks) refl in (
            subst (λ (o : Option SessionTalk). LeavesAlike 0 o (find (is_talk_of id) w.talks)) (sym away) pair.0,
            subst (λ (o : Option SessionTalk). TalksAlike 0 o (find (is_talk_of id) w.talks)) (sym away) pair.1,
          )
      by_actor id (Some a) live =
          let found = found_among (own a.fabric s).sessions id w.talks (own_has w valid id a live) in
          let pair = live_found id a live (find (is_talk_of id) w.talks) refl in (
            subst (λ (o : Option SessionTalk). LeavesAlike a.fabric o (find (is_talk_of id) w.talks)) (sym found) pair.0,
            subst (λ (o : Option SessionTalk). TalksAlike a.fabric o (find (is_talk_of id) w.talks)) (sym found) pair.1,
          )

      pub by_name : (named : Option ℕ) → LeavesAlike (fabric_named s named) (talk_of named (veil (fabric_named s named) w).talks) (talk_of named w.talks) × TalksAlike (fabric_named s named) (talk_of named (veil (fabric_named s named) w).talks) (talk_of named w.talks)
      by_name None = (nothing_named 0, refl)
      by_name (Some id) = by_actor id (session_actor s id) refl

    -- The ledger behind a line of a plain actor.

    asked_ledger : (ms fabric : ℕ) (actor : Actor) (asked : Result Request ImFault) (deadline : Option ℕ) (found : Option Actor) → asker s actor ≡ found → asker (machine.veil fabric s) actor ≡ found
        → ((asking : Actor) → asker s actor ≡ Some asking → asking.fabric ≡ fabric) → LedgerAlike fabric (acts (action_of actor deadline asked)) ms
    asked_ledger ms fabric actor asked deadline None is is_there its =
        ap (own_ledger fabric) (nobody_asks given (machine.veil fabric s) ms (veiled_ledger fabric l) actor deadline asked is_there)
        ∙ time_leaves_ledger fabric ms
        ∙ ap (own_ledger fabric) (sym (nobody_asks given s ms l actor deadline asked is))
    asked_ledger ms fabric actor asked deadline (Some asking) is is_there its =
        let same : asking.fabric ≡ fabric = its asking is in
        subst (λ (n : ℕ). LedgerAlike n (acts (action_of actor deadline asked)) ms) same
        (ledgers_leave given s l actor asking asked deadline ms rules valid.node valid.ledger is (ap (λ (n : ℕ). asker (machine.veil n s) actor) same ∙ is_there))

    deadline_as : laws.DeadlinesOnTheVeil → (fabric : ℕ) (actor : Actor) (found : Option Actor) → asker s actor ≡ found → ((asking : Actor) → asker s actor ≡ Some asking → asking.fabric ≡ fabric)
        → deadline_for (veil_of_whole fabric w.state) found ≡ deadline_for w.state found
    deadline_as deadlines fabric actor None is its = refl
    deadline_as deadlines fabric actor (Some asking) is its =
        ap (λ (n : ℕ). deadline_of asking (veil_of_whole n w.state).deadlines) (sym (its asking is)) ∙ deadlines w.state asking

    line_ledger : laws.LinesAskOnTheVeil → laws.DeadlinesOnTheVeil → (ms fabric node : ℕ) (cats : List ℕ) (asked : Result Request ImFault)
        → own_ledger (if fabric == 0 then unwrap_or s.plain 0 else fabric)
        (ledger_behind given (machine.veil (if fabric == 0 then unwrap_or s.plain 0 else fabric) s) (acts (action_asked (veil_of_whole (if fabric == 0 then unwrap_or s.plain 0 else fabric) w.state) (line_actor fabric node cats) asked)) ms
        (veiled_ledger (if fabric == 0 then unwrap_or s.plain 0 else fabric) l))
        ≡ own_ledger (if fabric == 0 then unwrap_or s.plain 0 else fabric) (ledger_behind given s (acts (action_asked w.state (line_actor fabric node cats) asked)) ms l)
    line_ledger asks_there deadlines ms fabric node cats asked =
        let f = if fabric == 0 then unwrap_or s.plain 0 else fabric in
        let actor = line_actor fabric node cats in
        let asks = asks_there s fabric node cats valid.node in
        let same : deadline_for (veil_of_whole f w.state) (asker (machine.veil f s) actor) ≡ deadline_for w.state (asker s actor) =
        ap (deadline_for (veil_of_whole f w.state)) asks.0 ∙ deadline_as deadlines f actor (asker s actor) refl asks.1 in
        ap (λ (d : Option ℕ). own_ledger f (ledger_behind given (machine.veil f s) (acts (action_of actor d asked)) ms (veiled_ledger f l))) same
        ∙ asked_ledger ms f actor asked (deadline_for w.state (asker s actor)) (asker s actor) refl asks.0 asks.1

    -- The talks behind a report.

    talk_told : (fabric : ℕ) (T : SessionTalk → Talk) (found : Option SessionTalk) → with_next T found (talks_among (own fabric s).sessions w.talks) ≡ talks_among (own fabric s).sessions (with_next T found w.talks)
    talk_told fabric T None = refl
    talk_told fabric T (Some t) = replaced_among (own fabric s).sessions t.row.session (T t) w.talks

    told_alike : (ms fabric id : ℕ) (report : Reply) (session : Option ℕ) → ((n : ℕ) → session ≡ Some n → list_any (is_named n) (own fabric s).sessions ≡ true)
        → talks_told ms id report (talks_among (own fabric s).sessions w.talks) session ≡ talks_among (own fabric s).sessions (talks_told ms id report w.talks session)
    told_alike ms fabric id report None among = refl
    told_alike ms fabric id report (Some session) among =
        ap (λ (found : Option SessionTalk). with_next (reported_talk ms id report) found (talks_among (own fabric s).sessions w.talks)) (found_among (own fabric s).sessions session w.talks (among session refl))
        ∙ talk_told fabric (reported_talk ms id report) (talk_of (Some session) w.talks)

    due_alike : ledger_laws.ReportsOnTheVeil → (ms fabric id : ℕ) (found : Option Due) → due_now s l ms fabric id ≡ found
        → talks_due (machine.veil fabric s) (veiled_ledger fabric l) (veil fabric w).talks ms fabric id found ≡ talks_among (own fabric s).sessions (talks_due s l w.talks ms fabric id found)
    due_alike told ms fabric id None is = refl
    due_alike told ms fabric id (Some due) is =
        ap (λ (report : Reply). talks_told ms id report (veil fabric w).talks due.kept.sub.actor.session) (told fabric id s l due valid.node valid.ledger)
        ∙ told_alike ms fabric id (due_report s l.history fabric id due) due.kept.sub.actor.session (subscriber_among s l valid.ledger ms fabric id due is)

    report_talks : ledger_laws.DueOnTheVeil → ledger_laws.ReportsOnTheVeil → (ms fabric id : ℕ)
        → talks_behind given (veil fabric w) (events.Report ms fabric id) ≡ talks_among (own fabric s).sessions (talks_behind given w (events.Report ms fabric id))
    report_talks due told ms fabric id =
        ap (talks_due (machine.veil fabric s) (veiled_ledger fabric l) (veil fabric w).talks ms fabric id) (due fabric id ms s l valid.node valid.ledger)
        ∙ due_alike told ms fabric id (due_now s l ms fabric id) refl

    -- Every line.
    module _ (plain : laws.LeavesTheOwnOnTheVeil) (asks_there : laws.LinesAskOnTheVeil) (deadlines : laws.DeadlinesOnTheVeil) (ticks : ledger_laws.TicksLeaveLedgersOnTheVeil) (due : ledger_laws.DueOnTheVeil) (told : ledger_laws.ReportsOnTheVeil)
        (reports_leave : ledger_laws.ReportedOnTheVeil) where
      pub leaves_on_veil : (e : Event) → own_part (fabric_of s e) (next given (veil (fabric_of s e) w) e) ≡ own_part (fabric_of s e) (next given w e)
      leaves_on_veil (events.Ask ms fabric node cats opcode payload) =
          let e = events.Ask ms fabric node cats opcode payload in
          leaves_all (fabric_of s e) e (plain given w.state e rules valid.node) (line_ledger asks_there deadlines ms fabric node cats (request_in opcode payload)) refl
      leaves_on_veil (events.Datagram ms from bytes) =
          let e = events.Datagram ms from bytes in
          let pair = by_name ms (λ (x : NodeState) (found : Option SessionTalk). activity_named x bytes found) (λ (t : SessionTalk). talked given s l ms from bytes t) (λ (f : ℕ) (t : SessionTalk). talked given (machine.veil f s) (veiled_ledger f l) ms from bytes t)
          (λ x. refl) (quiet_doing bytes) (datagram_leaves ms bytes) (talked_same replies finds given w valid ms from bytes) (session_named bytes) in
          leaves_all (fabric_of s e) e (ap (λ (p : OwnOfWhole × OwnLedger). p.0) pair.0) (ap (λ (p : OwnOfWhole × OwnLedger). p.1) pair.0) pair.1
      leaves_on_veil (events.Tick ms) = leaves_all 0 (events.Tick ms) (plain given w.state (events.Tick ms) rules valid.node) (ticks 0 given s l ms rules valid.node valid.ledger) refl
      leaves_on_veil (events.Report ms fabric subscription) =
          leaves_all fabric (events.Report ms fabric subscription) (time_leaves_own fabric ms) (reports_leave fabric subscription given s l ms rules valid.node valid.ledger) (report_talks due told ms fabric subscription)
      leaves_on_veil (events.Resend ms session) =
          let e = events.Resend ms session in
          let pair = by_name ms (λ (x : NodeState) (found : Option SessionTalk). activity_again x ms found) (λ (t : SessionTalk). resent_talk s ms t) (λ (f : ℕ) (t : SessionTalk). resent_talk (machine.veil f s) ms t)
          (λ x. refl) (quiet_resend ms) (resend_leaves ms) (resent_talk_same replies finds given w valid ms) (Some session) in
          leaves_all (fabric_of s e) e (time_leaves_own (fabric_of s e) ms) (ap (λ (p : OwnOfWhole × OwnLedger). p.1) pair.0) pair.1
      leaves_on_veil (events.Stop calls fate) = leaves_all 0 (events.Stop calls fate) (plain given w.state (events.Stop calls fate) rules valid.node) (keeps_ledger 0 s l valid.ledger) refl

  -- A time step leaves any fabric on its veil what it leaves on the whole. What is given to the node is asked for by nobody.
  pub ticks_on_veil : laws.TicksOnTheVeil → ledger_laws.TicksLeaveLedgersOnTheVeil → (fabric ms : ℕ) → own_part fabric (next given (veil fabric w) (events.Tick ms)) ≡ own_part fabric (next given w (events.Tick ms))
  ticks_on_veil plain ticks fabric ms = leaves_all fabric (events.Tick ms) (plain given fabric w.state ms valid.node) (ticks fabric (bare given) s l ms (bare_keeps given) valid.node valid.ledger) refl
