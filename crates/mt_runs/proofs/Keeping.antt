-- What a line leaves of what is another fabric's own: all of it.
use Rattle.std.proofs.Common.{◌≡◌, ◌≢◌, ℕ, ◌==◌, Bool, true, false, List, [], ◌∷◌, Option, Some, None, Result, arith, refl, sym, ap, subst, ◌∙◌, is_some, unwrap_or, if◌then◌else◌}
use Rattle.std.specs.List.{find, list_any}
use Rattle.std.specs.Option.{option_map}
use Rattle.mt_failsafe.specs.Notes.{was_added, was_updated}
use Rattle.mt_im.specs.Reading.{request_in}
use Rattle.mt_im.specs.declared.fault.ImFault.{ImFault}
use Rattle.mt_model.specs.declared.messages.message.Reply.{Reply}
use Rattle.mt_model.specs.declared.messages.message.Request.{Request}
use Rattle.mt_model.specs.declared.node.action.Action.TheVariants as actions
use Rattle.mt_model.specs.declared.node.state.NodeState.{NodeState}
use Rattle.mt_model.specs.declared.tables.access.Actor.{Actor}
use Rattle.mt_model.specs.declared.texts.recording.Event.{Event}
use Rattle.mt_model.specs.declared.texts.recording.Event.TheVariants as events
use Rattle.mt_opcreds.specs.Laws.{KeepsRules}
use Rattle.mt_talk.specs.Hearing.{Said, answers, asks, confirms, ends, nothing, said}
use Rattle.mt_talk.specs.Talks.{Talk, ended_in}
use Rattle.mt_machine.specs.Environment.{Environment}
use Rattle.mt_machine.specs.Isolation.{OwnOfWhole, own, own_of_whole}
use Rattle.mt_machine.specs.Laws as laws
use Rattle.mt_machine.specs.Lines.{action_of, behind_action, deadline_for, is_tick, line_actor}
use Rattle.mt_machine.specs.Step.{after_action, asker, session_actor}
use Rattle.mt_machine.specs.Touching.{StaysThere}
use Rattle.mt_ledger.specs.Behind.{Activity, action_in, acts, ledger_behind}
use Rattle.mt_ledger.specs.Behind as activities
use Rattle.mt_ledger.specs.Isolation.{OwnLedger, own_ledger}
use Rattle.mt_ledger.specs.Laws as ledger_laws
use Rattle.mt_ledger.specs.Ledger.{Ledger}
use Rattle.mt_ledger.specs.Reporting.{Due, due_now, due_report}
use Rattle.mt_runs.specs.Datagrams.{actor_on, activity_said, ending, resent_talk, session_named, talked}
use Rattle.mt_runs.specs.Isolation.{IsValidWhole, own_part, talks_among}
use Rattle.mt_runs.specs.Lines.{activity_again, activity_named, fabric_named, fabric_of, ledger_after, next, reported_talk, state_behind, talks_behind, talks_due, talks_told, with_next}
use Rattle.mt_runs.specs.Whole.{SessionTalk, Whole, fabric_over, is_live, is_talk_of, talk_of}
use Rattle.mt_runs.proofs.Ids.{is_named}
use Rattle.mt_runs.proofs.Sessions.{is_its, own_named}
use Rattle.mt_runs.proofs.Sending.{over_live}
use Rattle.mt_runs.proofs.Subscribers.{own_over, subscriber_among}
use Rattle.mt_runs.proofs.Talks.{found_id, other_replaced, own_not_let_go}
use Rattle.mt_runs.proofs.Valid.{bare, bare_keeps, ids_behind}

not_equal : (a b : ℕ) → a ≢ b → (b == a) ≡ false
not_equal a b differ = grind (arith, differ)

module _ (kept : laws.SessionsKeepTheirIds) (given : Environment) (fabric : ℕ) (w : Whole) (valid : IsValidWhole w) where
  abbrev s : NodeState
  s = w.state.node

  abbrev l : Ledger
  l = w.ledger

  -- The parts together.
  pub keeps_all : (e : Event) → own_of_whole fabric (state_behind given w e) ≡ own_of_whole fabric w.state → own_ledger fabric (ledger_after given w e) ≡ own_ledger fabric l → talks_among (own fabric s).sessions (talks_behind given w e) ≡ talks_among (own fabric s).sessions w.talks
      → own_part fabric (next given w e) ≡ own_part fabric w
  keeps_all e state ledger talks =
      let now = (state_behind given w e).node in
      λ i. record {
        whole = state i;
        ledger = ledger i;
        talks = (own_not_let_go fabric s now (ids_behind kept given w e) valid.sessions_differ (talks_behind given w e)
            ∙ ap (λ (o : OwnOfWhole). talks_among o.node.sessions (talks_behind given w e)) state
            ∙ talks) i;
      }

  -- The session that is named is none of its own.
  other_session : (id : ℕ) (found : Option Actor) → session_actor s id ≡ found → fabric ≢ unwrap_or (option_map (λ (actor : Actor). actor.fabric) found) 0 → list_any (is_named id) (own fabric s).sessions ≡ false
  other_session id None is differ = own_named fabric s id valid.sessions_differ ∙ ap (is_its fabric) is
  other_session id (Some a) is differ = own_named fabric s id valid.sessions_differ ∙ ap (is_its fabric) is ∙ not_equal fabric a.fabric differ

  other_talk : (T : SessionTalk → Talk) (id : ℕ) → fabric ≢ fabric_named s (Some id) → (found : Option SessionTalk) → find (is_talk_of id) w.talks ≡ found
      → talks_among (own fabric s).sessions (with_next T found w.talks) ≡ talks_among (own fabric s).sessions w.talks
  other_talk T id differ None is = refl
  other_talk T id differ (Some t) is =
      other_replaced (own fabric s).sessions t.row.session (T t) w.talks (ap (λ (n : ℕ). list_any (is_named n) (own fabric s).sessions) (found_id id w.talks t is) ∙ other_session id (session_actor s id) refl differ)

  other_named : (T : SessionTalk → Talk) (named : Option ℕ) → fabric ≢ fabric_named s named → talks_among (own fabric s).sessions (with_next T (talk_of named w.talks) w.talks) ≡ talks_among (own fabric s).sessions w.talks
  other_named T None differ = refl
  other_named T (Some id) differ = other_talk T id differ (find (is_talk_of id) w.talks) refl

  -- whatever holds of none and of each talk that is not over a session of its own holds of the talk that is named
  by_talk : (P : Option SessionTalk → Type 0) → P None → ((t : SessionTalk) → fabric ≢ fabric_over s t.row.session → P (Some t)) → (id : ℕ) → fabric ≢ fabric_over s id
      → (found : Option SessionTalk) → find (is_talk_of id) w.talks ≡ found → P found
  by_talk P none some id differ None is = none
  by_talk P none some id differ (Some t) is = some t (λ same. differ (same ∙ ap (fabric_over s) (found_id id w.talks t is)))

  by_named : (P : Option SessionTalk → Type 0) → P None → ((t : SessionTalk) → fabric ≢ fabric_over s t.row.session → P (Some t)) → (named : Option ℕ) → fabric ≢ fabric_named s named → P (talk_of named w.talks)
  by_named P none some None differ = none
  by_named P none some (Some id) differ = by_talk P none some id differ (find (is_talk_of id) w.talks) refl

  -- The talk over which another's subscriber is told is none of its own.

  other_told : (ms other id : ℕ) (report : Reply) (session : Option ℕ) → fabric ≢ other → ((n : ℕ) → session ≡ Some n → list_any (is_named n) (own other s).sessions ≡ true)
      → talks_among (own fabric s).sessions (talks_told ms id report w.talks session) ≡ talks_among (own fabric s).sessions w.talks
  other_told ms other id report None differ among = refl
  other_told ms other id report (Some session) differ among =
      other_named (reported_talk ms id report) (Some session) (λ same. differ (same ∙ own_over w valid other session (among session refl)))

  other_due : (ms other id : ℕ) → fabric ≢ other → (found : Option Due) → due_now s l ms other id ≡ found → talks_among (own fabric s).sessions (talks_due s l w.talks ms other id found) ≡ talks_among (own fabric s).sessions w.talks
  other_due ms other id differ None is = refl
  other_due ms other id differ (Some due) is =
      other_told ms other id (due_report s l.history other id due) due.kept.sub.actor.session differ (subscriber_among s l valid.ledger ms other id due is)

  module _ (actions_keep : laws.ActionsKeepTheOwn) (time_keeps : laws.TimeKeepsTheOwn) (others_keep : ledger_laws.KeepsOthersLedgers) (confirms_aside : ledger_laws.ConfirmsAside) (ends_aside : ledger_laws.EndsAside) (reports_aside : ledger_laws.ReportsAside)
      (time_changes : ledger_laws.TimeChangesNothing) (nobody_changes : ledger_laws.NobodyChangesIt) (rules : KeepsRules given.judged) where
    -- what is left of its own: its part of the node and the deadlines, and of the ledger
    abbrev its : Activity → ℕ → OwnOfWhole × OwnLedger
    its activity ms = (own_of_whole fabric (behind_action given w.state (action_in activity) ms), own_ledger fabric (ledger_behind given s activity ms l))

    abbrev Keeps : Activity → ℕ → Type 0
    Keeps activity ms = StaysThere fabric s (behind_action given w.state (action_in activity) ms).node → its activity ms ≡ (own_of_whole fabric w.state, own_ledger fabric l)

    abbrev KeepsIts : Activity → ℕ → Type 0
    KeepsIts activity ms = own_ledger fabric (ledger_behind given s activity ms l) ≡ own_ledger fabric l

    time_aside : (ms : ℕ) → KeepsIts (acts actions.Nothing) ms
    time_aside ms = ap (own_ledger fabric) (time_changes given s l ms valid.ledger)

    time_passes : (ms : ℕ) → Keeps (acts actions.Nothing) ms
    time_passes ms there = λ i. (time_keeps given fabric w.state ms i, time_aside ms i)

    -- what is done with subscriptions of another
    confirm_keeps : (ms other id : ℕ) → fabric ≢ other → Keeps (activities.confirms other id) ms
    confirm_keeps ms other id differ there = λ i. (time_keeps given fabric w.state ms i, confirms_aside fabric other id differ given s l ms valid.ledger i)

    ending_keeps : (ms other : ℕ) → fabric ≢ other → (subscription : Option ℕ) → Keeps (ending other subscription) ms
    ending_keeps ms other differ None = time_passes ms
    ending_keeps ms other differ (Some id) = λ there i. (time_keeps given fabric w.state ms i, ends_aside fabric other (id ∷ []) differ given s l ms valid.ledger i)

    said_keeps : (id : ℕ) (a : Actor) → session_actor s id ≡ Some a → fabric ≢ fabric_over s id → (ms : ℕ) (what : Said) → Keeps (activity_said s id what) ms
    said_keeps id a live differ ms nothing = time_passes ms
    said_keeps id a live differ ms (asks key acknowledge opcode payload timed) =
        let other : fabric ≢ a.fabric = λ same. differ (same ∙ sym (over_live s id a live)) in
        λ there i. (
          actions_keep given fabric w.state (actor_on id) a (request_in opcode payload) timed ms rules valid.node live other there i,
          others_keep given fabric s l (actor_on id) a (request_in opcode payload) timed ms rules valid.node valid.ledger live other there i,
        )
    said_keeps id a live differ ms (confirms key acknowledge subscription) = confirm_keeps ms (fabric_over s id) subscription differ
    said_keeps id a live differ ms (ends key acknowledge subscription) = ending_keeps ms (fabric_over s id) differ subscription
    said_keeps id a live differ ms (answers key acknowledge payloads) = time_passes ms

    talk_keeps : (ms : ℕ) (bytes : List ℕ) (t : SessionTalk) → fabric ≢ fabric_over s t.row.session → (found : Option Actor) → session_actor s t.row.session ≡ found → Keeps (activity_named s bytes (Some t)) ms
    talk_keeps ms bytes t differ None is =
        subst (λ (lives : Bool). Keeps (activity_said s t.row.session (said t.row t.talk lives bytes)) ms) (sym (ap is_some is)) (time_passes ms)
    talk_keeps ms bytes t differ (Some a) is = said_keeps t.row.session a is differ ms (said t.row t.talk (is_live s t.row.session) bytes)

    named_keeps : (ms : ℕ) (bytes : List ℕ) (named : Option ℕ) → fabric ≢ fabric_named s named → Keeps (activity_named s bytes (talk_of named w.talks)) ms
    named_keeps ms bytes =
        by_named (λ (found : Option SessionTalk). Keeps (activity_named s bytes found) ms) (time_passes ms) (λ t differ. talk_keeps ms bytes t differ (session_actor s t.row.session) refl)

    -- what ends where it was sent again in vain

    resend_aside : (ms other : ℕ) (ids : List ℕ) → fabric ≢ other → (lives : Bool) → KeepsIts (if lives then activities.ends other ids else acts actions.Nothing) ms
    resend_aside ms other ids differ true = ends_aside fabric other ids differ given s l ms valid.ledger
    resend_aside ms other ids differ false = time_aside ms

    again_aside : (ms : ℕ) (named : Option ℕ) → fabric ≢ fabric_named s named → KeepsIts (activity_again s ms (talk_of named w.talks)) ms
    again_aside ms =
        by_named (λ (found : Option SessionTalk). KeepsIts (activity_again s ms found) ms) (time_aside ms)
        (λ t differ. resend_aside ms (fabric_over s t.row.session) (ended_in t.row ms t.talk) differ (is_live s t.row.session))

    -- the ledger behind a line of a plain actor
    asked_keeps : (ms other : ℕ) (actor : Actor) (asked : Result Request ImFault) (deadline : Option ℕ) (found : Option Actor) → asker s actor ≡ found → ((asking : Actor) → asker s actor ≡ Some asking → asking.fabric ≡ other) → fabric ≢ other
        → StaysThere fabric s (after_action given s (action_of actor deadline asked) ms) → KeepsIts (acts (action_of actor deadline asked)) ms
    asked_keeps ms other actor asked deadline None is of_it differ there = ap (own_ledger fabric) (nobody_changes given s l actor asked deadline ms valid.ledger is)
    asked_keeps ms other actor asked deadline (Some asking) is of_it differ there =
        others_keep given fabric s l actor asking asked deadline ms rules valid.node valid.ledger is (λ same. differ (same ∙ of_it asking is)) there

    pub keeps_own : laws.KeepsTheOwn → laws.LinesAskOnTheVeil → (e : Event) → is_tick e ≡ false → fabric ≢ fabric_of s e → StaysThere fabric s (next given w e).state.node → own_part fabric (next given w e) ≡ own_part fabric w
    keeps_own plain asks_there (events.Ask ms other node cats opcode payload) no_tick differ there =
        let e = events.Ask ms other node cats opcode payload in
        let actor = line_actor other node cats in
        keeps_all e (plain given fabric w.state e rules valid.node no_tick differ there)
        (asked_keeps ms (fabric_of s e) actor (request_in opcode payload) (deadline_for w.state (asker s actor)) (asker s actor) refl (asks_there s other node cats valid.node).1 differ there) refl
    keeps_own plain asks_there (events.Datagram ms from bytes) no_tick differ there =
        let pair = named_keeps ms bytes (session_named bytes) differ there in
        keeps_all (events.Datagram ms from bytes) (ap (λ (p : OwnOfWhole × OwnLedger). p.0) pair) (ap (λ (p : OwnOfWhole × OwnLedger). p.1) pair) (other_named (talked given s l ms from bytes) (session_named bytes) differ)
    keeps_own plain asks_there (events.Tick ms) no_tick differ there = absurd (cc)
    keeps_own plain asks_there (events.Report ms other subscription) no_tick differ there =
        keeps_all (events.Report ms other subscription) (time_keeps given fabric w.state ms) (reports_aside fabric other subscription differ given s l ms valid.ledger) (other_due ms other subscription differ (due_now s l ms other subscription) refl)
    keeps_own plain asks_there (events.Resend ms session) no_tick differ there =
        keeps_all (events.Resend ms session) (time_keeps given fabric w.state ms) (again_aside ms (Some session) differ) (other_named (resent_talk s ms) (Some session) differ)
    keeps_own plain asks_there (events.Stop calls fate) no_tick differ there = keeps_all (events.Stop calls fate) refl refl refl

  pub ticks_spare : laws.TicksSpareOthers → ledger_laws.TicksSpareLedgers → (ms : ℕ) → fabric ≢ 0 → was_added fabric s.armed ≡ false → was_updated fabric s.armed ≡ false → own_part fabric (next given w (events.Tick ms)) ≡ own_part fabric w
  ticks_spare plain ticks ms some added updated =
      keeps_all (events.Tick ms) (plain given fabric w.state ms valid.node some added updated) (ticks (bare given) fabric s l ms (bare_keeps given) valid.node valid.ledger some added updated) refl
