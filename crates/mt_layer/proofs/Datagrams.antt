-- A datagram's line is what its session's worker makes of it and what the shared node answers.
use Rattle.std.proofs.Common.{◌≡◌, ℕ, ◌∙◌, Bool, true, false, List, [], Option, Some, None, refl, ap, subst, sym, map}
use Rattle.mt_model.specs.declared.node.state.NodeState.{NodeState}
use Rattle.mt_model.specs.declared.texts.config.SessionRow.{SessionRow}
use Rattle.mt_model.specs.declared.texts.recording.Event.{Event}
use Rattle.mt_model.specs.declared.texts.recording.Event.TheVariants as events
use Rattle.mt_model.specs.declared.texts.recording.Sent.{Sent}
use Rattle.mt_outside.specs.declared.network.Peer.{Peer}
use Rattle.mt_talk.specs.Hearing.{after_datagram, received_in, said}
use Rattle.mt_talk.specs.Talks.{Talk, after_drop}
use Rattle.mt_shared.specs.mt_machine.Environment.{Environment}
use Rattle.mt_shared.specs.mt_machine.Lines.{behind_action}
use Rattle.mt_shared.specs.mt_machine.Step.{after_action, closed_between}
use Rattle.mt_shared.specs.mt_ledger.Behind.{Activity, action_in, ledger_behind}
use Rattle.mt_shared.specs.mt_ledger.Ledger.{Ledger}
use Rattle.mt_shared.specs.mt_runs.Datagrams.{Answer, all_sent, answer_to, behind_answer, datagram_of, if_any, session_named, talked}
use Rattle.mt_shared.specs.mt_runs.Isolation.{IsValidWhole}
use Rattle.mt_shared.specs.mt_runs.Lines.{activity_named, sent_named, with_next}
use Rattle.mt_shared.specs.mt_runs.Whole.{SessionTalk, Whole, fabric_live, fabric_over, is_live, let_go, talk_of, with_talk}
use Rattle.mt_shared.specs.mt_interactions.Configured.{ConfiguredInteractions}
use Rattle.mt_shared.specs.mt_interactions.Deeds.{activity_at}
use Rattle.mt_shared.specs.mt_interactions.Deed.{Deed}
use Rattle.mt_shared.specs.Replay as shared
use Rattle.mt_shared.specs.Replay.{given_in}
use Rattle.mt_shared.specs.declared.entry.Answer as answers
use Rattle.mt_layer.specs.Agreeing.{Agrees, AreAlike, Serves, has_ended}
use Rattle.mt_layer.specs.Answering.{answered_with}
use Rattle.mt_layer.specs.Deeds.{deed_heard}
use Rattle.mt_layer.specs.Laws.{DatagramsAreLines}
use Rattle.mt_layer.specs.Lines.{IsLine, next_with, whole_of}
use Rattle.mt_layer.specs.Saying.{if_live, sent_heard, talk_heard, unless_closed}
use Rattle.mt_layer.proofs.Alike.{agrees_heard, agrees_of, answer_alike, hear_alike, heard_open, said_same}
use Rattle.mt_layer.proofs.Deeds.{alike_live, deeds_are_said, live_for, live_for_none, replies_answer, said_of, unheard}
use Rattle.mt_layer.proofs.Ending.{FollowAll, all_follow}
use Rattle.mt_layer.proofs.Idle.{nothing_sent}
use Rattle.mt_layer.proofs.Listed.{found_other, found_with, talk_on}
use Rattle.mt_layer.proofs.Serving.{own_agree, serving, silent_agree}
use Rattle.mt_layer.proofs.Lines.{nothing_open, others_serve}

module _ (node : ConfiguredInteractions) (talks : List SessionTalk) (valid : IsValidWhole (whole_of node talks)) where
  abbrev given : Environment
  given = given_in node

  abbrev s : NodeState
  s = node.state.node

  abbrev l : Ledger
  l = node.ledger

  abbrev w : Whole
  w = whole_of node talks

  module _ (row : SessionRow) (u : Talk) (serves : Serves (whole_of node talks) row u) where
    abbrev id : ℕ
    id = row.session

    abbrev t : Talk
    t = serves.told

    abbrev told : SessionTalk
    told = talk_on row serves.told

    -- DATAGRAMS
    module _ (ms : ℕ) (from : Peer) (bytes : List ℕ) (named : session_named bytes ≡ Some row.session) where
      abbrev deed : Deed
      deed = deed_heard row bytes u

      abbrev event : Event
      event = events.Datagram ms from bytes

      abbrev answer : answers.Answer
      answer = shared.answer_to node deed ms

      abbrev now : Whole
      now = next_with node talks event

      found : talk_of (session_named bytes) talks ≡ Some told
      found = ap (λ (o : Option ℕ). talk_of o talks) named ∙ serves.there

      does : activity_named s bytes (talk_of (session_named bytes) talks) ≡ activity_at s deed ms
      does = ap (activity_named s bytes) found ∙ sym (deeds_are_said s row u t bytes ms serves.agrees)

      follow : FollowAll s.sessions now.state.node.sessions
      follow = all_follow given s (action_in (activity_named s bytes (talk_of (session_named bytes) talks))) ms

      closes : answer.closed ≡ closed_between s.sessions now.state.node.sessions
      closes = ap (λ (a : Activity). closed_between s.sessions (after_action given s (action_in a) ms).sessions) (sym does)

      -- what the worker hears, as if the session were live
      abbrev heard : Talk
      heard = after_datagram row true from bytes u

      abbrev said_it : Option Answer
      said_it = answered_with ms answer.reply (said row u true bytes)

      -- what the machine makes of it, live or not
      abbrev heard_by : Bool → Talk
      heard_by live = after_datagram row live from bytes t

      abbrev said_by : Bool → Option Answer
      said_by live = answer_to given s l id ms (said row t live bytes)

      abbrev sent_by_it : Bool → List Sent
      sent_by_it live = all_sent ms id (heard_by live).latest (if_any (datagram_of row (heard_by live) (said_by live)))

      abbrev left : Bool → Talk
      left live = behind_answer row ms (heard_by live) (said_by live)

      fabric_is : answer.fabric ≡ fabric_live s id
      fabric_is = said_of s id (said row u true bytes)

      -- over a session that is live
      module _ (live : is_live s row.session ≡ true) where
        on_fabric : answer.fabric ≡ Some (fabric_over s id)
        on_fabric = fabric_is ∙ live_for s id live

        hear_it : AreAlike heard (heard_by true)
        hear_it = (hear_alike row true from bytes u t (alike_live s id u t live serves.agrees)).1

        answers_it : said_it ≡ said_by true
        answers_it =
            replies_answer given s l id ms (said row u true bytes) live
            ∙ ap (answer_to given s l id ms) (said_same row true bytes u t (alike_live s id u t live serves.agrees))

        sends_it : sent_heard row ms from bytes answer u ≡ sent_by_it true
        sends_it =
            (λ i. if_live (on_fabric i) (all_sent ms id heard.latest (if_any (datagram_of row heard (answers_it i)))) [])
            ∙ (λ i. all_sent ms id (hear_it.latest i) (if_any ((answer_alike row ms (said_by true) heard (heard_by true) hear_it).0 i)))

        keeps_it : talk_heard row ms from bytes answer u ≡ unless_closed (closed_between s.sessions now.state.node.sessions) id (behind_answer row ms heard (said_by true))
        keeps_it = λ i. if_live (on_fabric i) (unless_closed (closes i) id (behind_answer row ms heard (answers_it i))) (after_drop heard)

        agrees_live : Agrees (has_ended now.state.node id) (talk_heard row ms from bytes answer u) (let_go s now.state.node (talk_on row (left true))).talk
        agrees_live =
            subst (λ (x : Talk). Agrees (has_ended now.state.node id) x (let_go s now.state.node (talk_on row (left true))).talk) (sym keeps_it)
            (own_agree s now.state.node follow valid.sessions_differ row (behind_answer row ms heard (said_by true)) (left true)
            (agrees_of (has_ended s id) _ _ (answer_alike row ms (said_by true) heard (heard_by true) hear_it).1))

      -- and over one that is not
      module _ (off : is_live s row.session ≡ false) where
        of_none : answer.fabric ≡ None
        of_none = fabric_is ∙ live_for_none s id off

        says_none : said_by false ≡ None
        says_none = ap (answer_to given s l id ms) (unheard row t (received_in row t bytes))

        sends_none : sent_heard row ms from bytes answer u ≡ sent_by_it false
        sends_none =
            (λ i. if_live (of_none i) (all_sent ms id heard.latest (if_any (datagram_of row heard said_it))) [])
            ∙ sym (nothing_sent ms id (heard_by false).latest)
            ∙ (λ i. all_sent ms id (heard_by false).latest (if_any (datagram_of row (heard_by false) (sym says_none i))))

        keeps_none : talk_heard row ms from bytes answer u ≡ after_drop heard
        keeps_none = λ i. if_live (of_none i) (unless_closed answer.closed id (behind_answer row ms heard said_it)) (after_drop heard)

        left_none : heard_by false ≡ left false
        left_none = λ i. behind_answer row ms (heard_by false) (sym says_none i)

        agrees_off : Agrees (has_ended now.state.node id) (talk_heard row ms from bytes answer u) (let_go s now.state.node (talk_on row (left false))).talk
        agrees_off =
            subst (λ (x : Talk). Agrees (has_ended now.state.node id) x (let_go s now.state.node (talk_on row (left false))).talk) (sym keeps_none)
            (subst (λ (y : Talk). Agrees (has_ended now.state.node id) (after_drop heard) (let_go s now.state.node (talk_on row y)).talk) left_none
            (silent_agree s now.state.node follow valid.sessions_differ row heard (heard_by false) (agrees_heard row true false from bytes (has_ended s id) u t serves.agrees)
            (heard_open from (received_in row t bytes) t ∙ nothing_open node talks valid row u serves off)))

      sends_as : (live : Bool) → is_live s id ≡ live → sent_by_it live ≡ sent_heard row ms from bytes answer u
      sends_as true live = sym (sends_it live)
      sends_as false off = sym (sends_none off)

      agrees_as : (live : Bool) → is_live s id ≡ live → Agrees (has_ended now.state.node id) (talk_heard row ms from bytes answer u) (let_go s now.state.node (talk_on row (left live))).talk
      agrees_as true live = agrees_live live
      agrees_as false off = agrees_off off

      spoken : now.talks ≡ map (let_go s now.state.node) (with_talk id (left (is_live s id)) talks)
      spoken = ap (λ (o : Option SessionTalk). map (let_go s now.state.node) (with_next (talked given s l ms from bytes) o talks)) found

      pub datagram_line : IsLine node talks event deed ms row (sent_heard row ms from bytes answer u) (talk_heard row ms from bytes answer u)
      datagram_line = record {
        state = ap (λ (a : Activity). behind_action given node.state (action_in a) ms) does;
        ledger = ap (λ (a : Activity). ledger_behind given s a ms l) does;
        sent = ap (sent_named given s l ms from bytes) found ∙ sends_as (is_live s id) refl;
        own = serving s now (with_talk id (left (is_live s id)) talks) spoken row (left (is_live s id)) (talk_heard row ms from bytes answer u) (found_with id (left (is_live s id)) talks told serves.there) (agrees_as (is_live s id) refl);
        others = λ other v apart serves_it. others_serve node talks valid now (with_talk id (left (is_live s id)) talks) follow spoken other v (found_other id other.session (left (is_live s id)) talks apart) serves_it;
      }

pub datagrams : DatagramsAreLines
datagrams node talks ms from bytes row u valid named serves = datagram_line node talks valid row u serves ms from bytes named
