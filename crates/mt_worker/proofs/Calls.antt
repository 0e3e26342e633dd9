-- What one call over a session sends, and the account behind it: a datagram, a resend step and a report step.
use Rattle.std.proofs.Common.{◌≡◌, ◌∙◌, refl, sym, ap, subst, ℕ, ◌+◌, ◌-◌, List, [], ◌∷◌, ◌++◌, Option, Some, None, drop, length, append-nil}
use Rattle.mt_exchange.specs.declared.lists.EndTime.{EndTime}
use Rattle.mt_layer.specs.Answering.{answered_with}
use Rattle.mt_layer.specs.Deeds.{said_as_live}
use Rattle.mt_layer.specs.Saying.{heard_as_live, sent_again, sent_answering, sent_report, talk_again, talk_answering, talk_report}
use Rattle.mt_model.specs.declared.texts.config.SessionRow.{SessionRow}
use Rattle.mt_model.specs.declared.texts.recording.Sent.{Sent}
use Rattle.mt_outside.specs.declared.network.Peer.{Peer}
use Rattle.mt_layer.specs.mt_runs.Datagrams.{Answer}
use Rattle.mt_layer.specs.mt_shared.Replay.{unless_stopped}
use Rattle.mt_layer.specs.mt_shared.Call.{Call}
use Rattle.mt_layer.specs.mt_shared.Stamped.{Stamped}
use Rattle.mt_layer.specs.mt_shared.Stop.{Stop}
use Rattle.mt_talk.specs.Talks.{Talk}
use Rattle.mt_worker.specs.Accounts.{Account, account_behind, account_over, ends_of, gained, sent_over, standing_behind, still_standing, talk_in}
use Rattle.mt_worker.specs.Due.{Hears, Reports, Resends, Wakes, call_again, call_heard, call_report, last_three}
use Rattle.mt_worker.specs.Gots.{Got, Told}
use Rattle.mt_worker.specs.Seats.{IsSeatOf}
use Rattle.mt_worker.specs.Works.{got_by}
use Rattle.mt_worker.specs.declared.seat.Seat.{Seat}
use Rattle.mt_worker.specs.declared.seat.Subscription.{Subscription}
use Rattle.mt_worker.proofs.Sessions.{rows_stay}

module _ (a : Account) (now : ℕ) (stamped : Stamped) where
  -- A DATAGRAM.
  module _ (from : Peer) (bytes : List ℕ) where
    abbrev pub heard_got : Got
    heard_got = got_by a.row.session (call_heard a now from bytes) stamped

    abbrev pub heard : Talk
    heard = heard_as_live a.row from bytes a.talk

    abbrev pub its : Option Answer
    its = answered_with stamped.ms stamped.answer.reply (said_as_live a.row bytes a.talk)

    pub hears : Hears a now from bytes (heard_got ∷ [])
    hears = (heard_got, [], refl, record { session_is = refl; call_is = refl; line = refl }, refl)

    pub heard_sent : (said : Option Answer) (sent : List Sent) → said ≡ its → sent ≡ sent_answering a.row stamped.ms stamped.answer said heard → sent ≡ sent_over a (heard_got ∷ [])
    heard_sent said sent is gives = gives ∙ ap (λ (o : Option Answer). sent_answering a.row stamped.ms stamped.answer o heard) is ∙ sym (append-nil (sent_answering a.row stamped.ms stamped.answer its heard))

    pub heard_stands : (said : Option Answer) (at : List EndTime) (seat : Seat) → said ≡ its → at ≡ ends_of (call_heard a now from bytes).deed
        → IsSeatOf seat (record a {
          talk = talk_answering a.row stamped.ms stamped.answer said heard;
          subscriptions = still_standing stamped.answer.fabric at stamped.ms a.subscriptions ++ gained stamped.answer.fabric stamped.answer.reply;
        })
        → IsSeatOf seat (account_over a (heard_got ∷ []))
    heard_stands said at seat is ends stands = subst
        (λ (e : List EndTime). IsSeatOf seat (record a {
          talk = talk_answering a.row stamped.ms stamped.answer its heard;
          subscriptions = still_standing stamped.answer.fabric e stamped.ms a.subscriptions ++ gained stamped.answer.fabric stamped.answer.reply;
        }))
        ends
        (subst (λ (o : Option Answer). IsSeatOf seat (record a {
          talk = talk_answering a.row stamped.ms stamped.answer o heard;
          subscriptions = still_standing stamped.answer.fabric at stamped.ms a.subscriptions ++ gained stamped.answer.fabric stamped.answer.reply;
        })) is stands)

  -- A RESEND STEP.
  abbrev pub again_got : Got
  again_got = got_by a.row.session (call_again a now) stamped

  pub resends : Resends a now (again_got ∷ [])
  resends = (again_got, [], refl, record { session_is = refl; call_is = refl; line = refl }, refl)

  pub again_sent : (sent : List Sent) → sent ≡ sent_again a.row stamped.ms stamped.answer a.talk → sent ≡ sent_over a (again_got ∷ [])
  again_sent sent gives = gives ∙ sym (append-nil (sent_again a.row stamped.ms stamped.answer a.talk))

  pub again_stands : (at : List EndTime) (seat : Seat) → at ≡ ends_of (call_again a now).deed
      → IsSeatOf seat (record a { talk = talk_again a.row stamped.ms stamped.answer a.talk; subscriptions = still_standing stamped.answer.fabric at stamped.ms a.subscriptions }) → IsSeatOf seat (account_over a (again_got ∷ []))
  again_stands at seat ends stands =
      subst (λ (e : List EndTime). IsSeatOf seat (record a { talk = talk_again a.row stamped.ms stamped.answer a.talk; subscriptions = still_standing stamped.answer.fabric e stamped.ms a.subscriptions })) ends stands

  -- A REPORT STEP.
  module _ (subscription : Subscription) where
    abbrev pub report_got : Got
    report_got = got_by a.row.session (call_report now subscription) stamped

    pub reports : Reports a.row.session now (subscription ∷ []) (report_got ∷ [])
    reports = (report_got, [], refl, record { session_is = refl; call_is = refl; line = refl }, refl)

    pub report_sent : (sent : List Sent) → sent ≡ sent_report a.row stamped.ms stamped.answer a.talk → sent ≡ sent_over a (report_got ∷ [])
    report_sent sent gives = gives ∙ sym (append-nil (sent_report a.row stamped.ms stamped.answer a.talk))

    pub report_stands : (seat : Seat) → IsSeatOf seat (record a { talk = talk_report a.row stamped.ms subscription.id stamped.answer a.talk }) → IsSeatOf seat (account_over a (report_got ∷ []))
    report_stands seat stands = stands

-- A WAKE: the resend step, and then the report steps.
pub wakes_both : (a : Account) (now first : ℕ) (xs ys : List Got) → Resends a now xs → first ≡ length (account_over a xs).subscriptions - 3 → Reports (account_over a xs).row.session now (drop first (account_over a xs).subscriptions) ys → Wakes a now (xs ++ ys)
wakes_both a now first xs ys again is rest =
    let got = again.0 in
    let only : xs ≡ got ∷ [] = again.2 ∙ ap (λ (l : List Got). got ∷ l) again.4 in
    let row : (account_over a xs).row ≡ a.row = rows_stay a xs in
    let behind : account_over a xs ≡ account_behind a got.told = ap (account_over a) only in
    let reports : Reports a.row.session now (last_three (account_behind a got.told).subscriptions) ys =
    subst (λ (b : Account). Reports a.row.session now (last_three b.subscriptions) ys) behind
    (subst (λ (n : ℕ). Reports a.row.session now (drop n (account_over a xs).subscriptions) ys) is
    (subst (λ (r : SessionRow). Reports r.session now (drop first (account_over a xs).subscriptions) ys) row rest)) in
    (got, ys, ap (λ (l : List Got). l ++ ys) only, again.3, reports)

-- REPORT STEPS, one after the other. They leave the subscriptions as they are.

behind_report : (a : Account) (told : Told) (now : ℕ) (subscription : Subscription) → told.0.call ≡ call_report now subscription → (account_behind a told).subscriptions ≡ a.subscriptions
behind_report a told now subscription call =
    let each : (o : Option Stop) → (unless_stopped o (record a {
      talk = talk_in told.0.call.event told.0.ms told.1 a;
      subscriptions = standing_behind told.0.call.event told.0.call.deed told.0.ms told.1 a.subscriptions;
    }) a).subscriptions ≡ a.subscriptions = elim [
      | None ↦ ap (λ (k : Call). standing_behind k.event k.deed told.0.ms told.1 a.subscriptions) call
      | Some stop ↦ refl
    ] in
    each told.0.stop

pub reports_both : (a : Account) (now at : ℕ) (subscription : Subscription) (xs ys : List Got) → drop at a.subscriptions ≡ subscription ∷ drop (at + 1) a.subscriptions → Reports a.row.session now (subscription ∷ []) xs
    → Reports (account_over a xs).row.session now (drop (at + 1) (account_over a xs).subscriptions) ys → Reports a.row.session now (drop at a.subscriptions) (xs ++ ys)
reports_both a now at subscription xs ys found one rest =
    let got = one.0 in
    let only : xs ≡ got ∷ [] = one.2 ∙ ap (λ (l : List Got). got ∷ l) one.4 in
    let row : (account_over a xs).row ≡ a.row = rows_stay a xs in
    let kept : (account_over a xs).subscriptions ≡ a.subscriptions = ap (λ (l : List Got). (account_over a l).subscriptions) only ∙ behind_report a got.told now subscription one.3.call_is in
    let others : Reports a.row.session now (drop (at + 1) a.subscriptions) ys =
    subst (λ (l : List Subscription). Reports a.row.session now (drop (at + 1) l) ys) kept
    (subst (λ (r : SessionRow). Reports r.session now (drop (at + 1) (account_over a xs).subscriptions) ys) row rest) in
    subst (λ (l : List Subscription). Reports a.row.session now l (xs ++ ys)) (sym found) (got, ys, ap (λ (l : List Got). l ++ ys) only, one.3, others)
