-- What a line sends on the veil of its fabric: what it sends on the whole.
use Rattle.std.proofs.Common.{◌≡◌, ℕ, ◌==◌, Bool, true, false, List, [], ◌++◌, Option, Some, None, Result, Ok, Err, arith, refl, sym, ap, ◌∙◌, is_some, unwrap_or, if◌then◌else◌}
use Rattle.std.specs.List.{find, list_any}
use Rattle.std.specs.Option.{option_map}
use Rattle.mt_im.specs.Reading.{request_in}
use Rattle.mt_im.specs.declared.fault.ImFault.{ImFault}
use Rattle.mt_im_out.specs.Chunks.{chunks_of}
use Rattle.mt_model.specs.declared.messages.message.Reply.{Reply}
use Rattle.mt_model.specs.declared.messages.message.Request.{Request}
use Rattle.mt_model.specs.declared.node.state.NodeState.{NodeState}
use Rattle.mt_model.specs.declared.tables.access.Actor.{Actor}
use Rattle.mt_model.specs.declared.texts.recording.Event.{Event}
use Rattle.mt_model.specs.declared.texts.recording.Event.TheVariants as events
use Rattle.mt_model.specs.declared.texts.recording.Sent.{Sent}
use Rattle.mt_outside.specs.declared.network.Peer.{Peer}
use Rattle.mt_talk.specs.Hearing.{Said, after_datagram, answers, asks, confirms, ends, nothing, said}
use Rattle.mt_talk.specs.Talks.{after_resend, resent_in}
use Rattle.mt_machine.specs.Environment.{Environment}
use Rattle.mt_machine.specs.Isolation as machine
use Rattle.mt_machine.specs.Isolation.{own}
use Rattle.mt_machine.specs.Laws as laws
use Rattle.mt_machine.specs.Lines.{line_actor, sent_as}
use Rattle.mt_machine.specs.Step.{asker, session_actor}
use Rattle.mt_subs.specs.Subscriptions.{kept_at}
use Rattle.mt_subs.specs.declared.subscription.Kept.{Kept}
use Rattle.mt_ledger.specs.Isolation.{veiled_ledger}
use Rattle.mt_ledger.specs.Laws as ledger_laws
use Rattle.mt_ledger.specs.Ledger.{Ledger}
use Rattle.mt_ledger.specs.Reporting.{Due, due_now, due_report}
use Rattle.mt_ledger.specs.Subscribing.{confirm_reply}
use Rattle.mt_runs.specs.Datagrams.{actor_on, all_sent, answer_to, behind_answer, datagram_of, dated, deadline_set, if_any, payloads_confirmed, reply_over, resent_over, resent_talk, sent_over, session_named, talked}
use Rattle.mt_runs.specs.Isolation.{IsValidWhole, veil}
use Rattle.mt_runs.specs.Lines.{fabric_named, fabric_of, reported_over, resent_named, sent, sent_asked, sent_due, sent_line, sent_named, sent_to}
use Rattle.mt_runs.specs.Whole.{SessionTalk, Whole, fabric_over, is_live, is_talk_of, talk_of}
use Rattle.mt_runs.proofs.Ids.{is_named}
use Rattle.mt_runs.proofs.Sessions.{actor_on_veil, if_its, is_its, own_named}
use Rattle.mt_runs.proofs.Subscribers.{subscriber_among}
use Rattle.mt_runs.proofs.Talks.{found_among, found_id}

same_number : (n : ℕ) → (n == n) ≡ true
same_number n = grind arith

-- A session that is live has the same actor on the veil of its fabric, and is live there too.

pub on_veil : (w : Whole) (valid : IsValidWhole w) (id : ℕ) (a : Actor) → session_actor w.state.node id ≡ Some a → session_actor (machine.veil a.fabric w.state.node) id ≡ Some a
on_veil w valid id a live =
    actor_on_veil a.fabric w.state.node id valid.sessions_differ ∙ ap (if_its a.fabric) live ∙ ap (λ (its : Bool). if its then Some a else None) (same_number a.fabric)

pub own_has : (w : Whole) (valid : IsValidWhole w) (id : ℕ) (a : Actor) → session_actor w.state.node id ≡ Some a → list_any (is_named id) (own a.fabric w.state.node).sessions ≡ true
own_has w valid id a live = own_named a.fabric w.state.node id valid.sessions_differ ∙ ap (is_its a.fabric) live ∙ same_number a.fabric

pub own_has_not : (w : Whole) (valid : IsValidWhole w) (fabric id : ℕ) → session_actor w.state.node id ≡ None → list_any (is_named id) (own fabric w.state.node).sessions ≡ false
own_has_not w valid fabric id none = own_named fabric w.state.node id valid.sessions_differ ∙ ap (is_its fabric) none

pub none_on_veil : (w : Whole) (valid : IsValidWhole w) (fabric id : ℕ) → session_actor w.state.node id ≡ None → session_actor (machine.veil fabric w.state.node) id ≡ None
none_on_veil w valid fabric id none = actor_on_veil fabric w.state.node id valid.sessions_differ ∙ ap (if_its fabric) none

-- and it is live for that fabric
pub over_live : (s : NodeState) (id : ℕ) (a : Actor) → session_actor s id ≡ Some a → fabric_over s id ≡ a.fabric
over_live s id a live = ap (λ (found : Option Actor). unwrap_or (option_map (λ (actor : Actor). actor.fabric) found) 0) live

abbrev sent_by_any : (SessionTalk → List Sent) → Option SessionTalk → List Sent
sent_by_any G None = []
sent_by_any G (Some t) = G t

module _ (replies : ledger_laws.RepliesOnTheVeil) (finds : ledger_laws.FindsItsOwn) (given : Environment) (w : Whole) (valid : IsValidWhole w) where
  abbrev s : NodeState
  s = w.state.node

  abbrev l : Ledger
  l = w.ledger

  -- Over a session that is live.
  module _ (id : ℕ) (a : Actor) (live : session_actor s id ≡ Some a) where
    abbrev veiled : NodeState
    veiled = machine.veil a.fabric s

    abbrev veiled_l : Ledger
    veiled_l = veiled_ledger a.fabric l

    pub live_same : is_live veiled id ≡ is_live s id
    live_same = ap is_some (on_veil w valid id a live ∙ sym live)

    over_same : (timed : Option ℕ) (ms : ℕ) (asked : Result Request ImFault) → reply_over given veiled veiled_l id timed ms asked ≡ reply_over given s l id timed ms asked
    over_same timed ms (Ok request) = replies given s l (actor_on id) a request timed ms valid.node valid.ledger live (on_veil w valid id a live)
    over_same timed ms (Err fault) = refl

    pub over_there : fabric_over veiled id ≡ a.fabric
    over_there = over_live veiled id a (on_veil w valid id a live)

    pub over_here : fabric_over s id ≡ a.fabric
    over_here = over_live s id a live

    found_same : (subscription : ℕ) → kept_at (fabric_over veiled id) subscription veiled_l.subs ≡ kept_at (fabric_over s id) subscription l.subs
    found_same subscription =
        ap (λ (n : ℕ). kept_at n subscription veiled_l.subs) over_there
        ∙ finds a.fabric subscription l
        ∙ ap (λ (n : ℕ). kept_at n subscription l.subs) (sym over_here)

    confirmed_same : (subscription : ℕ) → payloads_confirmed (fabric_over veiled id) subscription veiled_l.subs ≡ payloads_confirmed (fabric_over s id) subscription l.subs
    confirmed_same subscription = ap (λ (kept : Option Kept). chunks_of (confirm_reply subscription kept)) (found_same subscription)

    pub answer_same : (ms : ℕ) (what : Said) → answer_to given veiled veiled_l id ms what ≡ answer_to given s l id ms what
    answer_same ms nothing = refl
    answer_same ms (asks key acknowledge opcode payload timed) = λ i. Some (record {
      key = key;
      acknowledge = acknowledge;
      payloads = dated (deadline_set timed ms (request_in opcode payload)) (chunks_of (over_same timed ms (request_in opcode payload) i));
    })
    answer_same ms (confirms key acknowledge subscription) = λ i. Some (record { key = key; acknowledge = acknowledge; payloads = confirmed_same subscription i })
    answer_same ms (ends key acknowledge subscription) = refl
    answer_same ms (answers key acknowledge payloads) = refl

  sent_same : (ms : ℕ) (from : Peer) (bytes : List ℕ) (t : SessionTalk) (a : Actor) (live : session_actor s t.row.session ≡ Some a)
      → sent_over given (machine.veil a.fabric s) (veiled_ledger a.fabric l) ms from bytes t ≡ sent_over given s l ms from bytes t
  sent_same ms from bytes t a live =
      let lives = live_same t.row.session a live in
      λ i. all_sent ms t.row.session (after_datagram t.row (lives i) from bytes t.talk).latest
      (if_any (datagram_of t.row (after_datagram t.row (lives i) from bytes t.talk) (answer_same t.row.session a live ms (said t.row t.talk (lives i) bytes) i)))

  pub talked_same : (ms : ℕ) (from : Peer) (bytes : List ℕ) (t : SessionTalk) (a : Actor) (live : session_actor s t.row.session ≡ Some a)
      → talked given (machine.veil a.fabric s) (veiled_ledger a.fabric l) ms from bytes t ≡ talked given s l ms from bytes t
  talked_same ms from bytes t a live =
      let lives = live_same t.row.session a live in
      λ i. behind_answer t.row ms (after_datagram t.row (lives i) from bytes t.talk) (answer_same t.row.session a live ms (said t.row t.talk (lives i) bytes) i)

  resent_same : (ms : ℕ) (t : SessionTalk) (a : Actor) (live : session_actor s t.row.session ≡ Some a) → resent_over (machine.veil a.fabric s) ms t ≡ resent_over s ms t
  resent_same ms t a live = ap (λ (lives : Bool). if lives then all_sent ms t.row.session t.talk.latest (resent_in t.row ms t.talk) else []) (live_same t.row.session a live)

  pub resent_talk_same : (ms : ℕ) (t : SessionTalk) (a : Actor) (live : session_actor s t.row.session ≡ Some a) → resent_talk (machine.veil a.fabric s) ms t ≡ resent_talk s ms t
  resent_talk_same ms t a live = ap (λ (lives : Bool). if lives then after_resend ms t.talk else t.talk) (live_same t.row.session a live)

  -- Over another nothing is sent.

  nothing_sent : (ms id : ℕ) (peer : Option Peer) → all_sent ms id peer [] ≡ []
  nothing_sent ms id None = refl
  nothing_sent ms id (Some peer) = refl

  sent_quiet : (ms : ℕ) (from : Peer) (bytes : List ℕ) (x : NodeState) (y : Ledger) (t : SessionTalk) → session_actor x t.row.session ≡ None → sent_over given x y ms from bytes t ≡ []
  sent_quiet ms from bytes x y t none =
      ap (λ (lives : Bool). all_sent ms t.row.session (after_datagram t.row lives from bytes t.talk).latest
      (if_any (datagram_of t.row (after_datagram t.row lives from bytes t.talk) (answer_to given x y t.row.session ms (said t.row t.talk lives bytes))))) (ap is_some none)
      ∙ nothing_sent ms t.row.session (after_datagram t.row false from bytes t.talk).latest

  resent_quiet : (ms : ℕ) (x : NodeState) (t : SessionTalk) → session_actor x t.row.session ≡ None → resent_over x ms t ≡ []
  resent_quiet ms x t none = ap (λ (lives : Bool). if lives then all_sent ms t.row.session t.talk.latest (resent_in t.row ms t.talk) else []) (ap is_some none)

  -- Whatever session is named: what is sent over it, and on the veil of a fabric.
  module _ (F : SessionTalk → List Sent) (V : ℕ → SessionTalk → List Sent)
      (alike : (t : SessionTalk) (a : Actor) → session_actor s t.row.session ≡ Some a → V a.fabric t ≡ F t)
      (quiet : (t : SessionTalk) → session_actor s t.row.session ≡ None → F t ≡ [])
      (quiet_there : (fabric : ℕ) (t : SessionTalk) → session_actor (machine.veil fabric s) t.row.session ≡ None → V fabric t ≡ []) where
    over_found : (id : ℕ) (a : Actor) → session_actor s id ≡ Some a → (found : Option SessionTalk) → find (is_talk_of id) w.talks ≡ found → sent_by_any (V a.fabric) found ≡ sent_by_any F found
    over_found id a live None is = refl
    over_found id a live (Some t) is = alike t a (ap (session_actor s) (found_id id w.talks t is) ∙ live)

    over_quiet : (id : ℕ) → session_actor s id ≡ None → (found : Option SessionTalk) → find (is_talk_of id) w.talks ≡ found → sent_by_any F found ≡ []
    over_quiet id none None is = refl
    over_quiet id none (Some t) is = quiet t (ap (session_actor s) (found_id id w.talks t is) ∙ none)

    over_quiet_there : (id : ℕ) (talks : List SessionTalk) → session_actor (machine.veil 0 s) id ≡ None → (found : Option SessionTalk) → find (is_talk_of id) talks ≡ found → sent_by_any (V 0) found ≡ []
    over_quiet_there id talks none None is = refl
    over_quiet_there id talks none (Some t) is = quiet_there 0 t (ap (session_actor (machine.veil 0 s)) (found_id id talks t is) ∙ none)

    by_actor : (id : ℕ) (found : Option Actor) → session_actor s id ≡ found
        → sent_by_any (V (unwrap_or (option_map (λ (actor : Actor). actor.fabric) found) 0)) (find (is_talk_of id) (veil (unwrap_or (option_map (λ (actor : Actor). actor.fabric) found) 0) w).talks) ≡ sent_by_any F (find (is_talk_of id) w.talks)
    by_actor id None none =
        over_quiet_there id (veil 0 w).talks (none_on_veil w valid 0 id none) (find (is_talk_of id) (veil 0 w).talks) refl
        ∙ sym (over_quiet id none (find (is_talk_of id) w.talks) refl)
    by_actor id (Some a) live =
        ap (sent_by_any (V a.fabric)) (found_among (own a.fabric s).sessions id w.talks (own_has w valid id a live))
        ∙ over_found id a live (find (is_talk_of id) w.talks) refl

    pub over_named : (named : Option ℕ) → sent_by_any (V (fabric_named s named)) (talk_of named (veil (fabric_named s named) w).talks) ≡ sent_by_any F (talk_of named w.talks)
    over_named None = refl
    over_named (Some id) = by_actor id (session_actor s id) refl

  is_over : (G : SessionTalk → List Sent) (named_by : Option SessionTalk → List Sent) → named_by None ≡ [] → ((t : SessionTalk) → named_by (Some t) ≡ G t) → (found : Option SessionTalk) → named_by found ≡ sent_by_any G found
  is_over G named_by none some None = none
  is_over G named_by none some (Some t) = some t

  sends_datagram : (ms : ℕ) (from : Peer) (bytes : List ℕ) (named : Option ℕ)
      → sent_named given (machine.veil (fabric_named s named) s) (veiled_ledger (fabric_named s named) l) ms from bytes (talk_of named (veil (fabric_named s named) w).talks) ≡ sent_named given s l ms from bytes (talk_of named w.talks)
  sends_datagram ms from bytes named =
      let F : SessionTalk → List Sent = λ t. sent_over given s l ms from bytes t in
      let V : ℕ → SessionTalk → List Sent = λ fabric t. sent_over given (machine.veil fabric s) (veiled_ledger fabric l) ms from bytes t in
      is_over (V (fabric_named s named)) (sent_named given (machine.veil (fabric_named s named) s) (veiled_ledger (fabric_named s named) l) ms from bytes) refl (λ t. refl) (talk_of named (veil (fabric_named s named) w).talks)
      ∙ over_named F V (sent_same ms from bytes) (sent_quiet ms from bytes s l) (λ fabric. sent_quiet ms from bytes (machine.veil fabric s) (veiled_ledger fabric l)) named
      ∙ sym (is_over F (sent_named given s l ms from bytes) refl (λ t. refl) (talk_of named w.talks))

  sends_again : (ms : ℕ) (named : Option ℕ) → resent_named (machine.veil (fabric_named s named) s) ms (talk_of named (veil (fabric_named s named) w).talks) ≡ resent_named s ms (talk_of named w.talks)
  sends_again ms named =
      let F : SessionTalk → List Sent = λ t. resent_over s ms t in
      let V : ℕ → SessionTalk → List Sent = λ fabric t. resent_over (machine.veil fabric s) ms t in
      is_over (V (fabric_named s named)) (resent_named (machine.veil (fabric_named s named) s) ms) refl (λ t. refl) (talk_of named (veil (fabric_named s named) w).talks)
      ∙ over_named F V (resent_same ms) (resent_quiet ms s) (λ fabric. resent_quiet ms (machine.veil fabric s)) named
      ∙ sym (is_over F (resent_named s ms) refl (λ t. refl) (talk_of named w.talks))

  -- A report to a subscriber, where that is due.

  to_same : (ms fabric : ℕ) (report : Reply) (session : Option ℕ) → ((id : ℕ) → session ≡ Some id → list_any (is_named id) (own fabric s).sessions ≡ true)
      → sent_to ms fabric report (veil fabric w).talks session ≡ sent_to ms fabric report w.talks session
  to_same ms fabric report None there = refl
  to_same ms fabric report (Some id) there = ap (reported_over ms report) (found_among (own fabric s).sessions id w.talks (there id refl))

  due_same : ledger_laws.ReportsOnTheVeil → (ms fabric id : ℕ) (found : Option Due) → due_now s l ms fabric id ≡ found
      → sent_due (machine.veil fabric s) (veiled_ledger fabric l) (veil fabric w).talks ms fabric id found ≡ sent_due s l w.talks ms fabric id found
  due_same told ms fabric id None is = refl
  due_same told ms fabric id (Some due) is =
      ap (λ (report : Reply). sent_to ms fabric report (veil fabric w).talks due.kept.sub.actor.session) (told fabric id s l due valid.node valid.ledger)
      ∙ to_same ms fabric (due_report s l.history fabric id due) due.kept.sub.actor.session (subscriber_among s l valid.ledger ms fabric id due is)

  sends_report : ledger_laws.DueOnTheVeil → ledger_laws.ReportsOnTheVeil → (ms fabric id : ℕ)
      → sent_due (machine.veil fabric s) (veiled_ledger fabric l) (veil fabric w).talks ms fabric id (due_now (machine.veil fabric s) (veiled_ledger fabric l) ms fabric id) ≡ sent_due s l w.talks ms fabric id (due_now s l ms fabric id)
  sends_report due told ms fabric id =
      ap (sent_due (machine.veil fabric s) (veiled_ledger fabric l) (veil fabric w).talks ms fabric id) (due fabric id ms s l valid.node valid.ledger)
      ∙ due_same told ms fabric id (due_now s l ms fabric id) refl

  -- A line of a plain actor: what it is replied, and what follows at once.
  module _ (asks_there : laws.LinesAskOnTheVeil) (line_replies : ledger_laws.LineRepliesOnTheVeil) (responds : ledger_laws.RespondsOnTheVeil) where
    both_at_its : (actor asking : Actor) (ms : ℕ) (asked : Result Request ImFault) → asker s actor ≡ Some asking → asker (machine.veil asking.fabric s) actor ≡ Some asking
        → sent_line given (veil asking.fabric w).state (veil asking.fabric w).ledger actor ms asked (Some asking) ≡ sent_line given w.state l actor ms asked (Some asking)
    both_at_its actor asking ms asked is there =
        let replied = line_replies given w.state l actor asking ms asked valid.node valid.ledger is there in
        let responded = responds w.state l asking ms asked valid.node valid.ledger in
        λ i. sent_as ms asking.fabric (replied i) ++ sent_as ms asking.fabric (responded i)

    line_as : (fabric : ℕ) (actor : Actor) (ms : ℕ) (asked : Result Request ImFault) (found : Option Actor) → asker s actor ≡ found → asker (machine.veil fabric s) actor ≡ found
        → ((asking : Actor) → asker s actor ≡ Some asking → asking.fabric ≡ fabric)
        → sent_line given (veil fabric w).state (veil fabric w).ledger actor ms asked found ≡ sent_line given w.state l actor ms asked found
    line_as fabric actor ms asked None is there its = refl
    line_as fabric actor ms asked (Some asking) is there its =
        let same : asking.fabric ≡ fabric = its asking is in
        ap (λ (n : ℕ). sent_line given (veil n w).state (veil n w).ledger actor ms asked (Some asking)) (sym same)
        ∙ both_at_its actor asking ms asked is (ap (λ (n : ℕ). asker (machine.veil n s) actor) same ∙ there)

    sends_line : (ms fabric node : ℕ) (cats : List ℕ) (asked : Result Request ImFault)
        → sent_asked given (veil (if fabric == 0 then unwrap_or s.plain 0 else fabric) w).state (veil (if fabric == 0 then unwrap_or s.plain 0 else fabric) w).ledger (line_actor fabric node cats) ms asked
        ≡ sent_asked given w.state l (line_actor fabric node cats) ms asked
    sends_line ms fabric node cats asked =
        let f = if fabric == 0 then unwrap_or s.plain 0 else fabric in
        let actor = line_actor fabric node cats in
        let asks = asks_there s fabric node cats valid.node in
        ap (sent_line given (veil f w).state (veil f w).ledger actor ms asked) asks.0
        ∙ line_as f actor ms asked (asker s actor) refl asks.0 asks.1

    pub sends_on_veil : ledger_laws.DueOnTheVeil → ledger_laws.ReportsOnTheVeil → (e : Event) → sent given (veil (fabric_of s e) w) e ≡ sent given w e
    sends_on_veil due told (events.Ask ms fabric node cats opcode payload) = sends_line ms fabric node cats (request_in opcode payload)
    sends_on_veil due told (events.Datagram ms from bytes) = sends_datagram ms from bytes (session_named bytes)
    sends_on_veil due told (events.Tick ms) = refl
    sends_on_veil due told (events.Report ms fabric subscription) = sends_report due told ms fabric subscription
    sends_on_veil due told (events.Resend ms session) = sends_again ms (Some session)
    sends_on_veil due told (events.Stop calls fate) = refl
