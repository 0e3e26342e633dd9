-- What deeds do and what is replied to them is what is said, and what is answered to that.
use Rattle.std.proofs.Common.{◌≡◌, ℕ, ◌==◌, ◌∙◌, Bool, true, false, [], ◌∷◌, Option, Some, None, Result, Ok, Err, refl, ap, sym, arith, is_some, unwrap_or, map, if◌then◌else◌}
use Rattle.std.proofs.lemmas.Bool.{le-leb}
use Rattle.std.specs.List.{find}
use Rattle.std.specs.Option.{option_and_then, option_map}
use Rattle.mt_exchange.specs.Resending.{end_times}
use Rattle.mt_exchange.specs.declared.lists.EndTime.{EndTime}
use Rattle.mt_im.specs.Reading.{request_in}
use Rattle.mt_im.specs.declared.fault.ImFault.{ImFault}
use Rattle.mt_im_out.specs.Chunks.{chunks_of}
use Rattle.mt_model.specs.declared.messages.message.Request.{Request}
use Rattle.mt_model.specs.declared.node.action.Action.TheVariants as actions
use Rattle.mt_model.specs.declared.node.state.NodeSession.{NodeSession}
use Rattle.mt_model.specs.declared.node.state.NodeState.{NodeState}
use Rattle.mt_model.specs.declared.node.state.Standing.{Standing}
use Rattle.mt_model.specs.declared.node.state.Standing.TheVariants.{Waits, Live, Ended}
use Rattle.mt_model.specs.declared.tables.access.Actor.{Actor}
use Rattle.mt_model.specs.declared.texts.config.SessionRow.{SessionRow}
use Rattle.mt_session.specs.declared.opening.Dropped.{Dropped}
use Rattle.mt_session.specs.Opening.{Arrival}
use Rattle.mt_talk.specs.Hearing.{Said, answers, asks, confirms, ends, nothing, received_in, said, said_in}
use Rattle.mt_talk.specs.Talks.{Talk, ended_in}
use Rattle.mt_shared.specs.mt_machine.Environment.{Environment}
use Rattle.mt_shared.specs.mt_machine.Lines.{action_of}
use Rattle.mt_shared.specs.mt_machine.Step.{live_actor, session_actor}
use Rattle.mt_shared.specs.mt_ledger.Behind as doings
use Rattle.mt_shared.specs.mt_ledger.Ledger.{Ledger}
use Rattle.mt_shared.specs.mt_runs.Datagrams.{activity_said, actor_on, answer_to, payloads_over}
use Rattle.mt_shared.specs.mt_runs.Whole.{fabric_live, fabric_over, is_live}
use Rattle.mt_shared.specs.mt_interactions.Deeds.{EndsAreByTime, activity_at, confirmed_for, done_for, ended_at, fabric_at, replied}
use Rattle.mt_layer.specs.Agreeing.{Agrees, AreAlike, has_ended, is_ended, is_over}
use Rattle.mt_layer.specs.Answering.{answered_with, payloads_asked}
use Rattle.mt_layer.specs.Deeds.{deed_again, deed_asked, deed_heard, deed_said}
use Rattle.mt_layer.specs.Laws.{DeedsAreWhatIsResent, DeedsAreWhatIsSaid, RepliesAreAnswers}
use Rattle.mt_layer.proofs.Alike.{alike_of, resend_alike, said_same}

contradiction : {A : Type 0} → false ≡ true → A
contradiction is = absurd (cc)

-- A session that is live has not ended.

live_goes : (session : NodeSession) (standing : Standing) → is_some (live_actor session standing) ≡ true → is_ended standing ≡ false
live_goes session Waits live = refl
live_goes session (Live fabric) live = refl
live_goes session Ended live = contradiction live

found_goes : (found : Option NodeSession) → is_some (option_and_then (λ (session : NodeSession). live_actor session session.standing) found) ≡ true → is_over found ≡ false
found_goes None live = contradiction live
found_goes (Some session) live = live_goes session session.standing live

pub live_not_ended : (s : NodeState) (id : ℕ) → is_live s id ≡ true → has_ended s id ≡ false
live_not_ended s id live = found_goes (find (λ (session : NodeSession). session.session == id) s.sessions) live

pub alike_live : (s : NodeState) (id : ℕ) (u t : Talk) → is_live s id ≡ true → Agrees (has_ended s id) u t → AreAlike u t
alike_live s id u t live a = alike_of (has_ended s id) u t a (live_not_ended s id live)

-- The fabric for which it is live.

some_fabric : (found : Option Actor) → is_some found ≡ true → option_map (λ (actor : Actor). actor.fabric) found ≡ Some (unwrap_or (option_map (λ (actor : Actor). actor.fabric) found) 0)
some_fabric None live = contradiction live
some_fabric (Some actor) live = refl

no_fabric : (found : Option Actor) → is_some found ≡ false → option_map (λ (actor : Actor). actor.fabric) found ≡ None
no_fabric None off = refl
no_fabric (Some actor) off = contradiction (sym off)

pub live_for : (s : NodeState) (id : ℕ) → is_live s id ≡ true → fabric_live s id ≡ Some (fabric_over s id)
live_for s id live = some_fabric (session_actor s id) live

pub live_for_none : (s : NodeState) (id : ℕ) → is_live s id ≡ false → fabric_live s id ≡ None
live_for_none s id off = no_fabric (session_actor s id) off

-- WHAT A DEED DOES over a session that is live

has_come_at_once : (subscription ms : ℕ) → ended_at ms (record { subscription = subscription; ms = 0 } ∷ []) ≡ subscription ∷ []
has_come_at_once subscription ms = ap (λ (come : Bool). map (λ (end : EndTime). end.subscription) (if come then record { subscription = subscription; ms = 0 } ∷ [] else [])) (le-leb 0 ms (omega arith))

module _ (s : NodeState) (id ms : ℕ) where
  asked_does : (timed : Option ℕ) (asked : Result Request ImFault) → is_live s id ≡ true → activity_at s (deed_asked id timed asked) ms ≡ doings.acts (action_of (actor_on id) timed asked)
  asked_does timed (Ok request) live = ap (λ (o : Option ℕ). done_for o (λ fabric. doings.acts (actions.Ask (actor_on id) request timed))) (live_for s id live)
  asked_does timed (Err fault) live = refl

  said_does : (x : Said) → is_live s id ≡ true → activity_at s (deed_said id x) ms ≡ activity_said s id x
  said_does nothing live = refl
  said_does (asks key acknowledge opcode payload timed) live = asked_does timed (request_in opcode payload) live
  said_does (confirms key acknowledge subscription) live = ap (λ (o : Option ℕ). done_for o (λ fabric. doings.confirms fabric subscription)) (live_for s id live)
  said_does (ends key acknowledge None) live = refl
  said_does (ends key acknowledge (Some subscription)) live =
      ap (λ (o : Option ℕ). done_for o (λ fabric. doings.ends fabric (ended_at ms (record { subscription = subscription; ms = 0 } ∷ [])))) (live_for s id live)
      ∙ ap (doings.ends (fabric_over s id)) (has_come_at_once subscription ms)
  said_does (answers key acknowledge payloads) live = refl

  -- and over one that is not

  asked_not : (timed : Option ℕ) (asked : Result Request ImFault) → is_live s id ≡ false → activity_at s (deed_asked id timed asked) ms ≡ doings.acts actions.Nothing
  asked_not timed (Ok request) off = ap (λ (o : Option ℕ). done_for o (λ fabric. doings.acts (actions.Ask (actor_on id) request timed))) (live_for_none s id off)
  asked_not timed (Err fault) off = refl

  said_not : (x : Said) → is_live s id ≡ false → activity_at s (deed_said id x) ms ≡ doings.acts actions.Nothing
  said_not nothing off = refl
  said_not (asks key acknowledge opcode payload timed) off = asked_not timed (request_in opcode payload) off
  said_not (confirms key acknowledge subscription) off = ap (λ (o : Option ℕ). done_for o (λ fabric. doings.confirms fabric subscription)) (live_for_none s id off)
  said_not (ends key acknowledge None) off = refl
  said_not (ends key acknowledge (Some subscription)) off =
      ap (λ (o : Option ℕ). done_for o (λ fabric. doings.ends fabric (ended_at ms (record { subscription = subscription; ms = 0 } ∷ [])))) (live_for_none s id off)
  said_not (answers key acknowledge payloads) off = refl

-- while it is not live nothing is said
pub unheard : (row : SessionRow) (t : Talk) (answer : Result Arrival Dropped) → said_in row t false answer ≡ nothing
unheard row t (Ok x) = refl
unheard row t (Err dropped) = refl

pub deeds_are_said : DeedsAreWhatIsSaid
deeds_are_said s row u t bytes ms agrees = by_live (is_live s row.session) refl
  where
    by_live : (live : Bool) → is_live s row.session ≡ live → activity_at s (deed_heard row bytes u) ms ≡ activity_said s row.session (said row t live bytes)
    by_live true live =
        said_does s row.session ms (said row u true bytes) live
        ∙ ap (activity_said s row.session) (said_same row true bytes u t (alike_live s row.session u t live agrees))
    by_live false off = said_not s row.session ms (said row u true bytes) off ∙ sym (ap (activity_said s row.session) (unheard row t (received_in row t bytes)))

pub deeds_are_resent : EndsAreByTime → DeedsAreWhatIsResent
deeds_are_resent by_time s row u t ms early agrees = by_live (is_live s row.session) refl
  where
    by_live : (live : Bool) → is_live s row.session ≡ live → activity_at s (deed_again row u) ms ≡ (if live then doings.ends (fabric_over s row.session) (ended_in row ms t) else doings.acts actions.Nothing)
    by_live true live =
        ap (λ (o : Option ℕ). done_for o (λ fabric. doings.ends fabric (ended_at ms (end_times u.open_ones)))) (live_for s row.session live)
        ∙ ap (doings.ends (fabric_over s row.session)) (sym (by_time ms u.open_ones early) ∙ (resend_alike row ms u t (alike_live s row.session u t live agrees)).1)
    by_live false off = ap (λ (o : Option ℕ). done_for o (λ fabric. doings.ends fabric (ended_at ms (end_times u.open_ones)))) (live_for_none s row.session off)

-- THE FABRIC of which it is

asked_of : (s : NodeState) (id : ℕ) (timed : Option ℕ) (asked : Result Request ImFault) → fabric_at s (deed_asked id timed asked) ≡ fabric_live s id
asked_of s id timed (Ok request) = refl
asked_of s id timed (Err fault) = refl

pub said_of : (s : NodeState) (id : ℕ) (x : Said) → fabric_at s (deed_said id x) ≡ fabric_live s id
said_of s id nothing = refl
said_of s id (asks key acknowledge opcode payload timed) = asked_of s id timed (request_in opcode payload)
said_of s id (confirms key acknowledge subscription) = refl
said_of s id (ends key acknowledge None) = refl
said_of s id (ends key acknowledge (Some subscription)) = refl
said_of s id (answers key acknowledge payloads) = refl

-- WHAT IS ANSWERED

module _ (given : Environment) (s : NodeState) (l : Ledger) (id ms : ℕ) where
  asked_answered : (timed : Option ℕ) (asked : Result Request ImFault) → payloads_asked ms timed (replied given s l (deed_asked id timed asked) ms) asked ≡ payloads_over given s l id timed ms asked
  asked_answered timed (Ok request) = refl
  asked_answered timed (Err fault) = refl

  said_answered : (x : Said) → is_live s id ≡ true → answered_with ms (replied given s l (deed_said id x) ms) x ≡ answer_to given s l id ms x
  said_answered nothing live = refl
  said_answered (asks key acknowledge opcode payload timed) live = λ i. Some (record { key = key; acknowledge = acknowledge; payloads = asked_answered timed (request_in opcode payload) i })
  said_answered (confirms key acknowledge subscription) live =
      ap (λ (o : Option ℕ). Some (record { key = key; acknowledge = acknowledge; payloads = chunks_of (confirmed_for l subscription o) })) (live_for s id live)
  said_answered (ends key acknowledge subscription) live = refl
  said_answered (answers key acknowledge payloads) live = refl

pub replies_answer : RepliesAreAnswers
replies_answer given s l id ms x live = said_answered given s l id ms x live
