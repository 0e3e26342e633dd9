-- What is sent to a plain actor names the fabric for which its line acts.
use Rattle.std.proofs.Common.{◌≡◌, ℕ, ◌==◌, Bool, true, false, List, [], ◌∷◌, Option, Some, None, Result, arith, refl, ◌∙◌, map, unwrap_or, if◌then◌else◌}
use Rattle.std.proofs.lemmas.Bool.{and_from}
use Rattle.std.proofs.lemmas.List.Folds.{list_all-append, list_all-map}
use Rattle.std.specs.List.{list_all}
use Rattle.std.specs.Option.{option_map}
use Rattle.mt_im.specs.Reading.{request_in}
use Rattle.mt_im.specs.declared.fault.ImFault.{ImFault}
use Rattle.mt_im_out.specs.Chunks.{chunks_of}
use Rattle.mt_model.specs.declared.messages.message.Payload.{Payload}
use Rattle.mt_model.specs.declared.messages.message.Reply.{Reply}
use Rattle.mt_model.specs.declared.messages.message.Request.{Request}
use Rattle.mt_model.specs.declared.tables.access.Actor.{Actor}
use Rattle.mt_model.specs.declared.texts.config.SessionRow.{SessionRow}
use Rattle.mt_model.specs.declared.texts.recording.Event.{Event}
use Rattle.mt_model.specs.declared.texts.recording.Event.TheVariants as events
use Rattle.mt_model.specs.declared.texts.recording.Sent.{Sent}
use Rattle.mt_outside.specs.declared.network.Peer.{Peer}
use Rattle.mt_machine.specs.Environment.{Environment}
use Rattle.mt_machine.specs.Lines.{sent_as, sent_plain}
use Rattle.mt_machine.specs.State.{is_member}
use Rattle.mt_machine.specs.Step.{asker, case_actor, pase_actor}
use Rattle.mt_ledger.specs.Asking.{full_line_reply, line_response}
use Rattle.mt_ledger.specs.Reporting.{Due, due_now, due_report}
use Rattle.mt_runs.specs.Course.{Course, Going, course, goes, stepped, stops}
use Rattle.mt_runs.specs.Datagrams.{all_sent, datagram_of, heard, if_any, its_answer, sent_at, session_named}
use Rattle.mt_runs.specs.Lines.{fabric_of, reported_over, resent_named, sent, sent_due, sent_line, sent_named, sent_to}
use Rattle.mt_runs.specs.Whole.{SessionTalk, Whole, is_live, talk_of}
use Rattle.mt_talk.specs.Talks.{report_in, resent_in, sent_by}
use Rattle.mt_runs.specs.Messages.{message_to, messages, messages_at, messages_in, messages_on_way, names, names_its_fabric}

same_number : (n : ℕ) → (n == n) ≡ true
same_number n = grind arith

abbrev fits : ℕ → Sent → Bool
fits fabric sent = names fabric sent.to

-- what is sent to a plain actor, and over a session

plain_fits : (ms fabric : ℕ) (payloads : List Payload) → list_all (fits fabric) (map (sent_plain ms fabric) payloads) ≡ true
plain_fits ms fabric [] = refl
plain_fits ms fabric (payload ∷ payloads) = and_from (fabric == fabric) (list_all (fits fabric) (map (sent_plain ms fabric) payloads)) (same_number fabric) (plain_fits ms fabric payloads)

reply_fits : (ms fabric : ℕ) (reply : Reply) → list_all (fits fabric) (sent_as ms fabric reply) ≡ true
reply_fits ms fabric reply = plain_fits ms fabric (chunks_of reply)

session_fits : (ms fabric id : ℕ) (peer : Peer) (datagrams : List (List ℕ)) → list_all (fits fabric) (map (sent_at ms id peer) datagrams) ≡ true
session_fits ms fabric id peer [] = refl
session_fits ms fabric id peer (bytes ∷ datagrams) = session_fits ms fabric id peer datagrams

over_fits : (ms fabric id : ℕ) (peer : Option Peer) (datagrams : List (List ℕ)) → list_all (fits fabric) (all_sent ms id peer datagrams) ≡ true
over_fits ms fabric id None datagrams = refl
over_fits ms fabric id (Some peer) datagrams = session_fits ms fabric id peer datagrams

module _ (given : Environment) (w : Whole) where
  -- a line of a plain actor
  module _ (ms : ℕ) (asked : Result Request ImFault) (actor : Actor) where
    taken_fits : (asking : Actor) → list_all (fits asking.fabric) (sent_line given w.state w.ledger actor ms asked (Some asking)) ≡ true
    taken_fits asking =
        let reply = full_line_reply given w.state w.ledger actor asking ms asked in
        let response = line_response w.state w.ledger asking ms asked in
        list_all-append (fits asking.fabric) (sent_as ms asking.fabric reply) (sent_as ms asking.fabric response)
        ∙ and_from (list_all (fits asking.fabric) (sent_as ms asking.fabric reply)) (list_all (fits asking.fabric) (sent_as ms asking.fabric response)) (reply_fits ms asking.fabric reply) (reply_fits ms asking.fabric response)

    pase_fits : (plain : Option ℕ) → list_all (fits (unwrap_or plain 0)) (sent_line given w.state w.ledger actor ms asked (option_map pase_actor plain)) ≡ true
    pase_fits None = refl
    pase_fits (Some fabric) = taken_fits (pase_actor fabric)

    case_fits : (other node : ℕ) (cats : List ℕ) (there : Bool) → list_all (fits other) (sent_line given w.state w.ledger actor ms asked (if there then Some (case_actor other node cats) else None)) ≡ true
    case_fits other node cats true = taken_fits (case_actor other node cats)
    case_fits other node cats false = refl

  ask_fits : (ms : ℕ) (asked : Result Request ImFault) (other node : ℕ) (cats : List ℕ) (pase : Bool)
      → list_all (fits (if pase then unwrap_or w.state.node.plain 0 else other))
      (sent_line given w.state w.ledger (if pase then pase_actor 0 else case_actor other node cats) ms asked (asker w.state.node (if pase then pase_actor 0 else case_actor other node cats)))
      ≡ true
  ask_fits ms asked other node cats true = pase_fits ms asked (pase_actor 0) w.state.node.plain
  ask_fits ms asked other node cats false = case_fits ms asked (case_actor other node cats) other node cats (is_member other w.state.node)

  -- a line over a session

  named_fits : (fabric ms : ℕ) (from : Peer) (bytes : List ℕ) (found : Option SessionTalk) → list_all (fits fabric) (sent_named given w.state.node w.ledger ms from bytes found) ≡ true
  named_fits fabric ms from bytes None = refl
  named_fits fabric ms from bytes (Some t) =
      let heard_it = heard w.state.node from bytes t in
      over_fits ms fabric t.row.session heard_it.latest (if_any (datagram_of t.row heard_it (its_answer given w.state.node w.ledger ms bytes t)))

  again_fits : (fabric ms : ℕ) (t : SessionTalk) (lives : Bool) → list_all (fits fabric) (if lives then all_sent ms t.row.session t.talk.latest (resent_in t.row ms t.talk) else []) ≡ true
  again_fits fabric ms t true = over_fits ms fabric t.row.session t.talk.latest (resent_in t.row ms t.talk)
  again_fits fabric ms t false = refl

  resent_fits : (fabric ms : ℕ) (found : Option SessionTalk) → list_all (fits fabric) (resent_named w.state.node ms found) ≡ true
  resent_fits fabric ms None = refl
  resent_fits fabric ms (Some t) = again_fits fabric ms t (is_live w.state.node t.row.session)

  -- a report

  told_fits : (fabric ms : ℕ) (report : Reply) (found : Option SessionTalk) → list_all (fits fabric) (reported_over ms report found) ≡ true
  told_fits fabric ms report None = refl
  told_fits fabric ms report (Some t) = over_fits ms fabric t.row.session t.talk.latest (if_any (sent_by (report_in t.row t.talk (chunks_of report))))

  to_fits : (fabric ms : ℕ) (report : Reply) (session : Option ℕ) → list_all (fits fabric) (sent_to ms fabric report w.talks session) ≡ true
  to_fits fabric ms report None = reply_fits ms fabric report
  to_fits fabric ms report (Some session) = told_fits fabric ms report (talk_of (Some session) w.talks)

  due_fits : (fabric ms id : ℕ) (found : Option Due) → list_all (fits fabric) (sent_due w.state.node w.ledger w.talks ms fabric id found) ≡ true
  due_fits fabric ms id None = refl
  due_fits fabric ms id (Some due) = to_fits fabric ms (due_report w.state.node w.ledger.history fabric id due) due.kept.sub.actor.session

  sent_fits : (e : Event) → list_all (fits (fabric_of w.state.node e)) (sent given w e) ≡ true
  sent_fits (events.Ask ms other node cats opcode payload) = ask_fits ms (request_in opcode payload) other node cats (other == 0)
  sent_fits (events.Datagram ms from bytes) = named_fits (fabric_of w.state.node (events.Datagram ms from bytes)) ms from bytes (talk_of (session_named bytes) w.talks)
  sent_fits (events.Tick ms) = refl
  sent_fits (events.Report ms fabric id) = due_fits fabric ms id (due_now w.state.node w.ledger ms fabric id)
  sent_fits (events.Resend ms session) = resent_fits (fabric_of w.state.node (events.Resend ms session)) ms (talk_of (Some session) w.talks)
  sent_fits (events.Stop calls fate) = refl

  pub line_names : (e : Event) → list_all names_its_fabric (messages_at given w e) ≡ true
  line_names e = list_all-map names_its_fabric (message_to (fabric_of w.state.node e)) (sent given w e) ∙ sent_fits e

-- a line on its way, and a run

course_names : (given : Environment) (w : Whole) (e : Event) (c : Course) → list_all names_its_fabric (messages_in given w e c) ≡ true
course_names given w e (goes stop) = line_names given w e
course_names given w e (stops line survived) = refl

pub run_names : (given : Environment) (sessions : List SessionRow) (es : List Event) (g : Going) → list_all names_its_fabric (messages given sessions g es) ≡ true
run_names given sessions [] g = refl
run_names given sessions (e ∷ es) g =
    let here = messages_on_way given g e in
    let later = messages given sessions (stepped given sessions g e) es in
    list_all-append names_its_fabric here later
    ∙ and_from (list_all names_its_fabric here) (list_all names_its_fabric later) (course_names given g.whole e (course given g e)) (run_names given sessions es (stepped given sessions g e))
