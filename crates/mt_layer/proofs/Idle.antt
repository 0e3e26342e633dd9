-- A report of nothing sends nothing, and leaves a talk as it was.
use Rattle.std.proofs.Common.{◌≡◌, ℕ, List, [], Option, Some, None, Result, Ok, refl, ap, subst, sym, ◌∙◌, append-nil}
use Rattle.mt_outside.specs.declared.network.Peer.{Peer}
use Rattle.mt_model.specs.declared.texts.config.SessionRow.{SessionRow}
use Rattle.mt_session.specs.declared.fault.SealFault.{SealFault}
use Rattle.mt_session.specs.Sessions.{Message}
use Rattle.mt_exchange.specs.Runs.{Run, after, begun_with, report_message, report_of, reported}
use Rattle.mt_exchange.specs.Sending.{free_id, sealed_with, sealing}
use Rattle.mt_exchange.specs.Shown.{arrivals_in, messages_in, outgoing_if, shown_by, shown_report}
use Rattle.mt_talk.specs.Talks.{Talk, behind, behind_unless_refused, report_in, run_in, sent_by}
use Rattle.mt_talk.specs.Talks as talks
use Rattle.mt_shared.specs.mt_runs.Datagrams.{all_sent, if_any}
use Rattle.mt_layer.specs.Agreeing.{AreAlike}
use Rattle.mt_layer.proofs.Alike.{its_run, run_with}

-- no datagram is sent
pub nothing_sent : (ms id : ℕ) (latest : Option Peer) → all_sent ms id latest [] ≡ []
nothing_sent ms id None = refl
nothing_sent ms id (Some peer) = refl

none_sealed : (row : SessionRow) (messages : List Message) (id : Option ℕ) → sealing row messages (report_message id []) ≡ Ok None
none_sealed row messages None = refl
none_sealed row messages (Some id) = refl

pub none_reported : (row : SessionRow) (t : Talk) → report_in row t [] ≡ Ok None
none_reported row t = none_sealed row (run_in t).messages (free_id t.next_id t.open_ones)

none_shown : (subscription ms : ℕ) (id : Option ℕ) (answer : Result (Option (List ℕ)) SealFault) → shown_report subscription (outgoing_if None (report_message id [])) answer ms ≡ []
none_shown subscription ms None answer = refl
none_shown subscription ms (Some id) answer = refl

none_begun : (row : SessionRow) (subscription ms : ℕ) (id : Option ℕ) (answer : Result (Option (List ℕ)) SealFault) (r : Run) → record (begun_with row subscription id [] ms answer r) { messages = sealed_with r.messages (report_message id []) answer } ≡ r
none_begun row subscription ms None answer r = refl
none_begun row subscription ms (Some id) answer r = refl

module _ (row : SessionRow) (subscription ms : ℕ) (t : Talk) where
  abbrev r : Run
  r = run_in t

  same_run : after row r (reported subscription [] ms) ≡ r
  same_run = none_begun row subscription ms (free_id r.next_id r.open_ones) (report_of row r []) r

  same_shown : shown_by row r (reported subscription [] ms) ≡ []
  same_shown = none_shown subscription ms (free_id r.next_id r.open_ones) (report_of row r [])

  same_behind : AreAlike (behind row (reported subscription [] ms) t) t
  same_behind = record {
    run = its_run (shown_by row r (reported subscription [] ms)) (after row r (reported subscription [] ms)).open_ones (after row r (reported subscription [] ms)).next_id t.latest t
        ∙ (λ i. run_with (same_shown i) (same_run i).open_ones (same_run i).next_id r)
        ∙ (λ i. record { open_ones = t.open_ones; next_id = t.next_id; arrivals = append-nil (arrivals_in t.shown) i; messages = append-nil (messages_in t.shown) i });
    latest = refl;
  }

  pub same_reported : AreAlike (talks.after_report row subscription [] ms t) t
  same_reported = subst (λ (x : Result (Option (List ℕ)) SealFault). AreAlike (behind_unless_refused row x (reported subscription [] ms) t) t) (sym (none_reported row t)) same_behind

  pub same_silence : (id : ℕ) → all_sent ms id t.latest (if_any (sent_by (report_in row t []))) ≡ []
  same_silence id = ap (λ (x : Result (Option (List ℕ)) SealFault). all_sent ms id t.latest (if_any (sent_by x))) (none_reported row t) ∙ nothing_sent ms id t.latest
