-- So is the line of a resend step.
use Rattle.std.proofs.Common.{◌≡◌, ℕ, ◌<◌, ◌∙◌, if◌then◌else◌, Bool, true, false, List, [], Option, Some, refl, ap, subst, sym, map}
use Rattle.mt_model.specs.declared.node.action.Action.{Action}
use Rattle.mt_model.specs.declared.node.action.Action.TheVariants as actions
use Rattle.mt_model.specs.declared.node.state.NodeState.{NodeState}
use Rattle.mt_model.specs.declared.texts.config.SessionRow.{SessionRow}
use Rattle.mt_model.specs.declared.texts.recording.Event.{Event}
use Rattle.mt_model.specs.declared.texts.recording.Event.TheVariants as events
use Rattle.mt_talk.specs.Talks.{Talk, after_drop, after_resend, ended_in, resent_in}
use Rattle.mt_shared.specs.mt_machine.Environment.{Environment}
use Rattle.mt_shared.specs.mt_machine.Lines.{behind_action}
use Rattle.mt_shared.specs.mt_machine.Step.{after_action, closed_between}
use Rattle.mt_shared.specs.mt_ledger.Behind.{Activity, acts, action_in, ends, ledger_behind}
use Rattle.mt_shared.specs.mt_ledger.Ledger.{Ledger}
use Rattle.mt_shared.specs.mt_runs.Datagrams.{all_sent, resent_talk}
use Rattle.mt_shared.specs.mt_runs.Isolation.{IsValidWhole}
use Rattle.mt_shared.specs.mt_runs.Lines.{activity_again, resent_named, with_next}
use Rattle.mt_shared.specs.mt_runs.Whole.{SessionTalk, Whole, fabric_over, is_live, let_go, talk_of, with_talk}
use Rattle.mt_shared.specs.mt_interactions.Configured.{ConfiguredInteractions}
use Rattle.mt_shared.specs.mt_interactions.Deeds.{EndsAreByTime, activity_at}
use Rattle.mt_shared.specs.mt_interactions.Deed.{Deed}
use Rattle.mt_shared.specs.Replay as shared
use Rattle.mt_shared.specs.Replay.{given_in}
use Rattle.mt_shared.specs.declared.entry.Answer as answers
use Rattle.mt_layer.specs.Agreeing.{Agrees, Serves, has_ended}
use Rattle.mt_layer.specs.Deeds.{deed_again}
use Rattle.mt_layer.specs.Laws.{ResendsAreLines}
use Rattle.mt_layer.specs.Lines.{IsLine, next_with, whole_of}
use Rattle.mt_layer.specs.Saying.{if_live, sent_again, talk_again, unless_closed}
use Rattle.mt_layer.proofs.Alike.{agrees_but_open, agrees_of, resend_alike}
use Rattle.mt_layer.proofs.Deeds.{alike_live, deeds_are_resent, live_for, live_for_none}
use Rattle.mt_layer.proofs.Ending.{FollowAll, all_follow}
use Rattle.mt_layer.proofs.Listed.{found_other, found_with, talk_on}
use Rattle.mt_layer.proofs.Serving.{own_agree, serving, silent_agree}
use Rattle.mt_layer.proofs.Lines.{nothing_open, others_serve}

module _ (node : ConfiguredInteractions) (talks : List SessionTalk) (valid : IsValidWhole (whole_of node talks)) where
  abbrev given : Environment
  given = given_in node

  abbrev s : NodeState
  s = node.state.node

  abbrev l : Ledger
  l = node.ledger

  abbrev w : Whole
  w = whole_of node talks

  module _ (row : SessionRow) (u : Talk) (serves : Serves (whole_of node talks) row u) where
    abbrev id : ℕ
    id = row.session

    abbrev t : Talk
    t = serves.told

    abbrev told : SessionTalk
    told = talk_on row serves.told

    -- RESEND STEPS
    module _ (by_time : EndsAreByTime) (ms : ℕ) (early : ms < 18446744073709551615) where
      abbrev deed : Deed
      deed = deed_again row u

      abbrev event : Event
      event = events.Resend ms id

      abbrev answer : answers.Answer
      answer = shared.answer_to node deed ms

      abbrev now : Whole
      now = next_with node talks event

      does : activity_again s ms (talk_of (Some id) talks) ≡ activity_at s deed ms
      does = ap (activity_again s ms) serves.there ∙ sym (deeds_are_resent by_time s row u t ms early serves.agrees)

      -- the node does nothing in it
      idles : actions.Nothing ≡ action_in (activity_at s deed ms)
      idles = by_live (is_live s id) ∙ ap action_in (sym (deeds_are_resent by_time s row u t ms early serves.agrees))
        where
          by_live : (live : Bool) → actions.Nothing ≡ action_in (if live then ends (fabric_over s id) (ended_in row ms t) else acts actions.Nothing)
          by_live true = refl
          by_live false = refl

      follow : FollowAll s.sessions now.state.node.sessions
      follow = all_follow given s actions.Nothing ms

      closes : answer.closed ≡ closed_between s.sessions now.state.node.sessions
      closes = ap (λ (a : Action). closed_between s.sessions (after_action given s a ms).sessions) (sym idles)

      abbrev left : Bool → Talk
      left live = if live then after_resend ms t else t

      sends_as : (live : Bool) → is_live s id ≡ live → (if live then all_sent ms id t.latest (resent_in row ms t) else []) ≡ sent_again row ms answer u
      sends_as true live =
          let a = alike_live s id u t live serves.agrees in
          (λ i. all_sent ms id (sym a.latest i) (sym (resend_alike row ms u t a).0 i))
          ∙ (λ i. if_live (sym (live_for s id live) i) (all_sent ms id u.latest (resent_in row ms u)) [])
      sends_as false off = λ i. if_live (sym (live_for_none s id off) i) (all_sent ms id u.latest (resent_in row ms u)) []

      agrees_as : (live : Bool) → is_live s id ≡ live → Agrees (has_ended now.state.node id) (talk_again row ms answer u) (let_go s now.state.node (talk_on row (left live))).talk
      agrees_as true live =
          let a = alike_live s id u t live serves.agrees in
          subst (λ (x : Talk). Agrees (has_ended now.state.node id) x (let_go s now.state.node (talk_on row (after_resend ms t))).talk)
          (sym (λ i. if_live (live_for s id live i) (unless_closed (closes i) id (after_resend ms u)) (after_drop u)))
          (own_agree s now.state.node follow valid.sessions_differ row (after_resend ms u) (after_resend ms t) (agrees_of (has_ended s id) _ _ (resend_alike row ms u t a).2))
      agrees_as false off =
          subst (λ (x : Talk). Agrees (has_ended now.state.node id) x (let_go s now.state.node (talk_on row t)).talk)
          (sym (λ i. if_live (live_for_none s id off i) (unless_closed answer.closed id (after_resend ms u)) (after_drop u)))
          (silent_agree s now.state.node follow valid.sessions_differ row u t (agrees_but_open (has_ended s id) u t serves.agrees) (nothing_open node talks valid row u serves off))

      spoken : now.talks ≡ map (let_go s now.state.node) (with_talk id (left (is_live s id)) talks)
      spoken = ap (λ (o : Option SessionTalk). map (let_go s now.state.node) (with_next (resent_talk s ms) o talks)) serves.there

      pub resend_line : IsLine node talks event deed ms row (sent_again row ms answer u) (talk_again row ms answer u)
      resend_line = record {
        state = ap (λ (a : Action). behind_action given node.state a ms) idles;
        ledger = ap (λ (a : Activity). ledger_behind given s a ms l) does;
        sent = ap (resent_named s ms) serves.there ∙ sends_as (is_live s id) refl;
        own = serving s now (with_talk id (left (is_live s id)) talks) spoken row (left (is_live s id)) (talk_again row ms answer u) (found_with id (left (is_live s id)) talks told serves.there) (agrees_as (is_live s id) refl);
        others = λ other v apart serves_it. others_serve node talks valid now (with_talk id (left (is_live s id)) talks) follow spoken other v (found_other id other.session (left (is_live s id)) talks apart) serves_it;
      }

pub resends : EndsAreByTime → ResendsAreLines
resends by_time node talks ms row u valid early serves = resend_line node talks valid row u serves by_time ms early
