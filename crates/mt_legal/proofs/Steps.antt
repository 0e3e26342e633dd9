-- What comes of one entry that is a line.
use Rattle.std.proofs.Common.{◌≡◌, ◌∙◌, refl, ap, sym, subst, inl, inr, ℕ, ◌<◌, ◌≤◌, arith, true, false, List, Contains, Option, Some, None, Result, Ok, Err}
use Rattle.mt_im.specs.Reading.{request_in}
use Rattle.mt_im.specs.declared.fault.ImFault.{ImFault}
use Rattle.mt_files.specs.Event.{at_time}
use Rattle.mt_model.specs.declared.limits.TheConstants.{LAST_TIME}
use Rattle.mt_model.specs.declared.messages.message.Request.{Request}
use Rattle.mt_model.specs.declared.texts.recording.Event.{Event}
use Rattle.mt_model.specs.declared.texts.recording.Event.TheVariants as events
use Rattle.mt_opcreds.specs.Laws.{KeepsRules}
use Rattle.mt_outside.specs.declared.network.Peer.{Peer}
use Rattle.mt_talk.specs.Hearing.{Said, answers, asks, confirms, ends, nothing}
use Rattle.mt_talk.specs.Talks.{Talk}
use Rattle.mt_shares.specs.mt_runs.Datagrams.{session_named}
use Rattle.mt_shares.specs.mt_runs.LineLaws.{WholeStaysValid}
use Rattle.mt_shares.specs.mt_runs.Lines as lines
use Rattle.mt_shares.specs.mt_runs.Lines.{is_stop}
use Rattle.mt_shares.specs.mt_runs.Isolation.{IsValidWhole}
use Rattle.mt_shares.specs.mt_runs.Whole.{SessionTalk, Whole}
use Rattle.mt_shares.specs.mt_interactions.Configured.{ConfiguredInteractions}
use Rattle.mt_shares.specs.mt_interactions.Deed.{Deed}
use Rattle.mt_shares.specs.mt_interactions.TheVariants as deeds
use Rattle.mt_shares.specs.mt_shared.Replay.{answer_to, behind_deed, given_in}
use Rattle.mt_shares.specs.mt_shared.Answer.{Answer}
use Rattle.mt_shares.specs.mt_shared.Call.{Call}
use Rattle.mt_shares.specs.mt_layer.Deeds.{deed_again, deed_ended, deed_asked, deed_heard, deed_said, said_as_live}
use Rattle.mt_shares.specs.mt_layer.Laws.{DatagramsAreLines, ReportsAreLines, ResendsAreLines, TicksAreLines}
use Rattle.mt_shares.specs.mt_layer.Lines.{IsLine, IsNobodysLine, next_with, whole_of}
use Rattle.mt_subscribers.specs.Laws.{SubscriptionsAreGained, SubscriptionsStay}
use Rattle.mt_subscribers.specs.Over.{IsDoneOver, IsOver}
use Rattle.mt_shares.specs.mt_worker.Accounts.{Account, Accounts, behind, ends_of, sent_by, sent_in, standing_behind, talk_in}
use Rattle.mt_shares.specs.mt_worker.Due.{call_again, call_heard, call_report, call_tick, is_in}
use Rattle.mt_shares.specs.mt_worker.Gots.{Each, Got}
use Rattle.mt_shares.specs.mt_worker.Made.{Makes, subscription_named}
use Rattle.mt_shares.specs.mt_worker.Subscription.{Subscription}
use Rattle.mt_legal.specs.Lines.{IsLine as IsEntry}
use Rattle.mt_legal.proofs.Standing.{Stands, StandsFor, all_stand, one_stands, stands_anew, unmoved}
use Rattle.mt_legal.proofs.Told.{IsTold, each_there, told_heard, told_on, told_still}

-- What the crates below show of a line.
pub record Laws : Type 0 where
  pub valid : WholeStaysValid
  pub heard : DatagramsAreLines
  pub again : ResendsAreLines
  pub reported : ReportsAreLines
  pub ticked : TicksAreLines
  pub stay : SubscriptionsStay
  pub gained : SubscriptionsAreGained

-- what can be told in a recording is before the last that can be told
early : (ms : ℕ) → ms ≤ LAST_TIME → ms < 18446744073709551615
early ms in_time = omega (arith, in_time)

-- A deed for what is heard over a session is done over that.

asked_over : (id : ℕ) (timed : Option ℕ) (asked : Result Request ImFault) → IsDoneOver id (deed_asked id timed asked)
asked_over id timed (Ok request) = refl
asked_over id timed (Err fault) = refl

ended_over : (id : ℕ) (ended : Option ℕ) → IsDoneOver id (deed_ended id ended)
ended_over id None = refl
ended_over id (Some subscription) = refl

said_over : (id : ℕ) (heard : Said) → IsDoneOver id (deed_said id heard)
said_over id nothing = refl
said_over id (asks key acknowledge opcode payload timed) = asked_over id timed (request_in opcode payload)
said_over id (confirms key acknowledge subscription) = refl
said_over id (ends key acknowledge subscription) = ended_over id subscription
said_over id (answers key acknowledge payloads) = refl

-- the entry of a call that is a line, as the replay answers it
abbrev pub line_of : ConfiguredInteractions → ℕ → ℕ → ℕ → Call → Got
line_of node place session ms call = record { place = place; session = session; told = (record { call = call; ms = ms; stop = None }, answer_to node call.deed ms) }

-- THE ENTRY MOVES ALL ON: the line sends what the account does, and has the node's state and ledger; and all accounts stand behind it.
pub record Moves (node : ConfiguredInteractions) (talks : List SessionTalk) (ids : List ℕ) (accounts : Accounts) (got : Got) (ms : ℕ) (call : Call) : Type 0 where
  pub line : is_stop (at_time ms call.event) ≡ false
  pub sends : lines.sent (given_in node) (whole_of node talks) (at_time ms call.event) ≡ sent_by (accounts got.session) got.told
  pub state : (next_with node talks (at_time ms call.event)).state ≡ (behind_deed node call.deed ms).state
  pub ledger : (next_with node talks (at_time ms call.event)).ledger ≡ (behind_deed node call.deed ms).ledger
  pub stands : Stands (behind_deed node call.deed ms) (next_with node talks (at_time ms call.event)).talks ids (behind accounts got)

module _ (laws : Laws) (node : ConfiguredInteractions) (rules : KeepsRules (given_in node).judged) (talks : List SessionTalk) (ids : List ℕ) (accounts : Accounts) (stands : Stands node talks ids accounts) (place ms : ℕ) where
  valid_on : (event : Event) → IsValidWhole (next_with node talks event)
  valid_on event = laws.valid (given_in node) (whole_of node talks) event rules stands.valid

  stays : (deed : Deed) (fabric id session : ℕ) → fabric < 256 → IsOver fabric id session node.ledger.subs → IsOver fabric id session (behind_deed node deed ms).ledger.subs
  stays deed fabric id session below over = laws.stay node deed ms fabric id session stands.valid.node stands.valid.ledger below over

  -- A LINE OF ONE OF THESE SESSIONS
  module _ (session : ℕ) (mine : is_in ids session ≡ true) where
    abbrev a : Account
    a = accounts session

    abbrev here : StandsFor node talks session (accounts session)
    here = stands.each session mine

    abbrev told_behind : Deed → List Subscription → Type 0
    told_behind deed subscriptions = Each (IsTold a.row.session (behind_deed node deed ms).ledger.subs) subscriptions

    abbrev is_line : Call → Type 0
    is_line call = IsLine node talks (at_time ms call.event) call.deed ms a.row (sent_in call.event ms (answer_to node call.deed ms) a) (talk_in call.event ms (answer_to node call.deed ms) a)

    -- those that were told are
    still_told : (deed : Deed) → told_behind deed a.subscriptions
    still_told deed = told_on a.row.session node.ledger.subs (behind_deed node deed ms).ledger.subs (λ fabric id. stays deed fabric id a.row.session) a.subscriptions here.told

    moves_one : (call : Call) → is_stop (at_time ms call.event) ≡ false → is_line call → told_behind call.deed (standing_behind call.event call.deed ms (answer_to node call.deed ms) a.subscriptions)
        → Moves node talks ids accounts (line_of node place session ms call) ms call
    moves_one call goes line told =
        let now : ConfiguredInteractions = behind_deed node call.deed ms in
        let w : Whole = next_with node talks (at_time ms call.event) in
        let valid : IsValidWhole w = valid_on (at_time ms call.event) in
        let u : Talk = talk_in call.event ms (answer_to node call.deed ms) a in
        let subscriptions : List Subscription = standing_behind call.event call.deed ms (answer_to node call.deed ms) a.subscriptions in
        record {
          line = goes;
          sends = line.sent;
          state = line.state;
          ledger = line.ledger;
          stands = one_stands node now talks w line.state line.ledger valid (stays call.deed) ids accounts stands (line_of node place session ms call) mine
              (stands_anew node now talks w line.state line.ledger valid (stays call.deed) session a u subscriptions here.id_is line.own told) line.others;
        }

    -- for a datagram
    moves_heard : (at : ℕ) (from : Peer) (bytes : List ℕ) → session_named bytes ≡ Some session → Moves node talks ids accounts (line_of node place session ms (call_heard a at from bytes)) ms (call_heard a at from bytes)
    moves_heard at from bytes names =
        let deed : Deed = deed_heard a.row bytes a.talk in
        let answer : Answer = answer_to node deed ms in
        moves_one (call_heard a at from bytes) refl
        (laws.heard node talks ms from bytes a.row a.talk stands.valid (names ∙ ap Some (sym here.id_is)) here.serves)
        (told_heard a.row.session (behind_deed node deed ms).ledger.subs answer.fabric answer.reply (ends_of deed) ms a.subscriptions
        (λ fabric id items suppress below for_it tells. laws.gained node deed ms fabric id a.row.session items suppress stands.valid.node stands.valid.ledger below (said_over a.row.session (said_as_live a.row bytes a.talk)) for_it tells)
        (still_told deed))

    -- in a resend step
    moves_again : (at : ℕ) → ms ≤ LAST_TIME → Moves node talks ids accounts (line_of node place session ms (call_again a at)) ms (call_again a at)
    moves_again at in_time =
        let deed : Deed = deed_again a.row a.talk in
        let answer : Answer = answer_to node deed ms in
        moves_one (call_again a at) refl
        (laws.again node talks ms a.row a.talk stands.valid (early ms in_time) here.serves)
        (told_still a.row.session (behind_deed node deed ms).ledger.subs answer.fabric (ends_of deed) ms a.subscriptions (still_told deed))

    -- in a report step
    moves_reported : (at fabric id : ℕ) → Contains a.subscriptions (subscription_named fabric id) → Moves node talks ids accounts (line_of node place session ms (call_report at (subscription_named fabric id))) ms (call_report at (subscription_named fabric id))
    moves_reported at fabric id there =
        let told = each_there (IsTold a.row.session node.ledger.subs) a.subscriptions (subscription_named fabric id) here.told there in
        moves_one (call_report at (subscription_named fabric id)) refl
        (laws.reported node talks ms fabric id a.row a.talk stands.valid told.over.over here.serves)
        (still_told (deeds.Report fabric id))

    moves_made : (call : Call) (event : Event) → ms ≤ LAST_TIME → Makes session (accounts session) call event → Moves node talks ids accounts (line_of node place session ms call) ms call
    moves_made call (events.Datagram at from bytes) in_time made =
        subst (λ (c : Call). Moves node talks ids accounts (line_of node place session ms c) ms c) (sym made.1) (moves_heard at from bytes made.0)
    moves_made call (events.Resend at id) in_time made =
        subst (λ (c : Call). Moves node talks ids accounts (line_of node place session ms c) ms c) (sym made) (moves_again at in_time)
    moves_made call (events.Report at fabric id) in_time made =
        subst (λ (c : Call). Moves node talks ids accounts (line_of node place session ms c) ms c) (sym made.1) (moves_reported at fabric id made.0)
    moves_made call (events.Ask at fabric id cats opcode payload) in_time made = absurd made
    moves_made call (events.Tick at) in_time made = absurd made
    moves_made call (events.Stop calls fate) in_time made = absurd made

  -- A TIME STEP
  moves_tick : (session at : ℕ) → Moves node talks ids accounts (line_of node place session ms (call_tick at)) ms (call_tick at)
  moves_tick session at =
      let line : IsNobodysLine node talks (events.Tick ms) deeds.Expire ms = laws.ticked node talks ms stands.valid in
      let now : ConfiguredInteractions = behind_deed node deeds.Expire ms in
      let w : Whole = next_with node talks (events.Tick ms) in
      record {
        line = refl;
        sends = line.sent;
        state = line.state;
        ledger = line.ledger;
        stands = subst (Stands now w.talks ids) (sym (unmoved accounts (line_of node place session ms (call_tick at)) (λ b. refl)))
            (all_stand node now talks w line.state line.ledger (valid_on (events.Tick ms)) (stays deeds.Expire) ids accounts stands line.others);
      }

  pub entry_moves : (session : ℕ) (call : Call) → ms ≤ LAST_TIME → IsEntry ids accounts (line_of node place session ms call) → Moves node talks ids accounts (line_of node place session ms call) ms call
  entry_moves session call in_time (inl made) = moves_made session made.0 call call.event in_time made.1
  entry_moves session call in_time (inr tick) = subst (λ (c : Call). Moves node talks ids accounts (line_of node place session ms c) ms c) (sym tick.call_is) (moves_tick session tick.now)
