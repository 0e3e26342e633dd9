-- So is that of a report step.
use Rattle.std.proofs.Common.{◌≡◌, ◌≢◌, ℕ, ◌∙◌, List, [], Option, Some, None, refl, ap, sym, map}
use Rattle.mt_im_out.specs.Chunks.{chunks_of}
use Rattle.mt_model.specs.declared.messages.message.Reply.{Reply}
use Rattle.mt_model.specs.declared.node.action.Action.TheVariants as actions
use Rattle.mt_model.specs.declared.node.state.NodeState.{NodeState}
use Rattle.mt_model.specs.declared.texts.config.SessionRow.{SessionRow}
use Rattle.mt_model.specs.declared.texts.recording.Event.{Event}
use Rattle.mt_model.specs.declared.texts.recording.Event.TheVariants as events
use Rattle.mt_model.specs.declared.texts.recording.Sent.{Sent}
use Rattle.mt_subs.specs.Subscriptions.{kept_at}
use Rattle.mt_subs.specs.declared.subscription.Kept.{Kept}
use Rattle.mt_talk.specs.Talks.{Talk, after_report, report_in, sent_by}
use Rattle.mt_shared.specs.mt_machine.Environment.{Environment}
use Rattle.mt_shared.specs.mt_ledger.Ledger.{Ledger}
use Rattle.mt_shared.specs.mt_ledger.Reporting.{Due, due_now, due_report}
use Rattle.mt_shared.specs.mt_runs.Datagrams.{all_sent, if_any}
use Rattle.mt_shared.specs.mt_runs.Isolation.{IsValidWhole}
use Rattle.mt_shared.specs.mt_runs.Lines.{reported_over, reported_talk, sent_due, sent_to, talks_due, talks_told, with_next}
use Rattle.mt_shared.specs.mt_runs.Whole.{SessionTalk, Whole, let_go, with_talk}
use Rattle.mt_shared.specs.mt_interactions.Configured.{ConfiguredInteractions}
use Rattle.mt_shared.specs.mt_interactions.Deeds.{reply_due}
use Rattle.mt_shared.specs.mt_interactions.Deed.{Deed}
use Rattle.mt_shared.specs.mt_interactions.TheVariants as deeds
use Rattle.mt_shared.specs.Replay as shared
use Rattle.mt_shared.specs.Replay.{given_in}
use Rattle.mt_shared.specs.declared.entry.Answer as answers
use Rattle.mt_layer.specs.Agreeing.{AreAlike, Serves, has_ended}
use Rattle.mt_layer.specs.Laws.{ReportsAreLines}
use Rattle.mt_layer.specs.Lines.{IsLine, next_with, whole_of}
use Rattle.mt_layer.specs.Saying.{sent_report, talk_report, unless_closed}
use Rattle.mt_layer.proofs.Alike.{agrees_of, agrees_with, report_alike}
use Rattle.mt_layer.proofs.Deeds.{alike_live}
use Rattle.mt_layer.proofs.Ending.{FollowAll, all_follow}
use Rattle.mt_layer.proofs.Idle.{same_reported, same_silence}
use Rattle.mt_layer.proofs.Listed.{found_other, found_with, talk_on}
use Rattle.mt_layer.proofs.Serving.{own_agree, serving}
use Rattle.mt_layer.proofs.Subscribers.{due_live, due_there}
use Rattle.mt_layer.proofs.Lines.{others_serve}

module _ (node : ConfiguredInteractions) (talks : List SessionTalk) (valid : IsValidWhole (whole_of node talks)) where
  abbrev given : Environment
  given = given_in node

  abbrev s : NodeState
  s = node.state.node

  abbrev l : Ledger
  l = node.ledger

  abbrev w : Whole
  w = whole_of node talks

  module _ (row : SessionRow) (u : Talk) (serves : Serves (whole_of node talks) row u) where
    abbrev id : ℕ
    id = row.session

    abbrev t : Talk
    t = serves.told

    abbrev told : SessionTalk
    told = talk_on row serves.told

    -- REPORT STEPS
    module _ (ms fabric subscription : ℕ) (over : (kept : Kept) → kept_at fabric subscription node.ledger.subs ≡ Some kept → kept.sub.actor.session ≡ Some row.session) where
      abbrev deed : Deed
      deed = deeds.Report fabric subscription

      abbrev event : Event
      event = events.Report ms fabric subscription

      abbrev answer : answers.Answer
      answer = shared.answer_to node deed ms

      abbrev now : Whole
      now = next_with node talks event

      follow : FollowAll s.sessions now.state.node.sessions
      follow = all_follow given s actions.Nothing ms

      abbrev behind : Reply → Talk
      behind reply = after_report row subscription (chunks_of reply) ms t

      abbrev talk_told : Reply → Talk
      talk_told reply = unless_closed answer.closed id (after_report row subscription (chunks_of reply) ms u)

      abbrev sent_told : Reply → List Sent
      sent_told reply = all_sent ms id u.latest (if_any (sent_by (report_in row u (chunks_of reply))))

      -- what is said where this is due
      abbrev talks_then : Option Due → List SessionTalk
      talks_then due = talks_due s l talks ms fabric subscription due

      abbrev reply_then : Option Due → Reply
      reply_then due = reply_due s l.history fabric subscription due

      -- a report to the session's subscriber
      module _ (due : Due) (is : due_now s node.ledger ms fabric subscription ≡ Some due) where
        abbrev reply : Reply
        reply = due_report s l.history fabric subscription due

        its : due.kept.sub.actor.session ≡ Some id
        its = over due.kept (due_there s l ms fabric subscription due is)

        a : AreAlike u t
        a = alike_live s id u t (due_live s l valid.ledger valid.sessions_differ ms fabric subscription due is id its) serves.agrees

        due_sends : sent_due s l talks ms fabric subscription (Some due) ≡ sent_told reply
        due_sends =
            ap (sent_to ms fabric reply talks) its
            ∙ ap (reported_over ms reply) serves.there
            ∙ (λ i. all_sent ms id (sym a.latest i) (if_any (sent_by (sym (report_alike row subscription (chunks_of reply) ms u t a).0 i))))

        due_spoken : talks_then (Some due) ≡ with_talk id (behind reply) talks
        due_spoken =
            ap (talks_told ms subscription reply talks) its
            ∙ ap (λ (o : Option SessionTalk). with_next (reported_talk ms subscription reply) o talks) serves.there

        due_serves : now.talks ≡ map (let_go s now.state.node) (talks_then (Some due)) → Serves now row (talk_told reply)
        due_serves are =
            serving s now (with_talk id (behind reply) talks) (are ∙ ap (map (let_go s now.state.node)) due_spoken) row (behind reply) (talk_told reply) (found_with id (behind reply) talks told serves.there)
            (own_agree s now.state.node follow valid.sessions_differ row (after_report row subscription (chunks_of reply) ms u) (behind reply)
            (agrees_of (has_ended s id) _ _ (report_alike row subscription (chunks_of reply) ms u t a).1))

        due_others : now.talks ≡ map (let_go s now.state.node) (talks_then (Some due)) → (other : SessionRow) (v : Talk) → other.session ≢ row.session → Serves w other v → Serves now other v
        due_others are other v apart serves_it =
            others_serve node talks valid now (with_talk id (behind reply) talks) follow (are ∙ ap (map (let_go s now.state.node)) due_spoken) other v (found_other id other.session (behind reply) talks apart) serves_it

      -- by what is due
      sends_as : (due : Option Due) → due_now s node.ledger ms fabric subscription ≡ due → sent_due s l talks ms fabric subscription due ≡ sent_told (reply_then due)
      sends_as None is = sym (same_silence row subscription ms u id)
      sends_as (Some due) is = due_sends due is

      serves_as : (due : Option Due) → due_now s node.ledger ms fabric subscription ≡ due → now.talks ≡ map (let_go s now.state.node) (talks_then due) → Serves now row (talk_told (reply_then due))
      serves_as None is are =
          serving s now talks are row t (talk_told (reply_then None)) serves.there
          (own_agree s now.state.node follow valid.sessions_differ row (after_report row subscription [] ms u) t
          (agrees_with (has_ended s id) (after_report row subscription [] ms u) u t (same_reported row subscription ms u) serves.agrees))
      serves_as (Some due) is are = due_serves due is are

      others_as : (due : Option Due) → due_now s node.ledger ms fabric subscription ≡ due → now.talks ≡ map (let_go s now.state.node) (talks_then due)
          → (other : SessionRow) (v : Talk) → other.session ≢ row.session → Serves w other v → Serves now other v
      others_as None is are other v apart serves_it = others_serve node talks valid now talks follow are other v refl serves_it
      others_as (Some due) is are other v apart serves_it = due_others due is are other v apart serves_it

      pub report_line : IsLine node talks event deed ms row (sent_report row ms answer u) (talk_report row ms subscription answer u)
      report_line = record {
        state = refl;
        ledger = refl;
        sent = sends_as (due_now s l ms fabric subscription) refl;
        own = serves_as (due_now s l ms fabric subscription) refl refl;
        others = others_as (due_now s l ms fabric subscription) refl refl;
      }

pub reports : ReportsAreLines
reports node talks ms fabric subscription row u valid over serves = report_line node talks valid row u serves ms fabric subscription over
