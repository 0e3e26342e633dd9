-- A report, step by step.
use Rattle.std.proofs.Common.{◌≡◌, ℕ, ◌+◌, ◌%◌, List, [], ◌∷◌, Option, Some, None, Ok, sym, ◌∙◌}
use Rattle.mt_model.specs.declared.texts.config.SessionRow.{SessionRow}
use Rattle.mt_model.specs.declared.messages.message.Payload.{Payload}
use Rattle.mt_session.specs.Sessions.{next_counter}
use Rattle.mt_exchange.specs.declared.exchange.Exchange.{Exchange}
use Rattle.mt_exchange.specs.Opened.{put}
use Rattle.mt_exchange.specs.Parts.{first_of, rest_of}
use Rattle.mt_exchange.specs.Runs.{Run, after_report, begun_with, fresh_exchange, report_message, report_of}
use Rattle.mt_exchange.specs.Sending.{behind_sending, free_id, message, own_key, reliably, sealed_with, sealing}
use Rattle.mt_exchange.proofs.Answered.{Answer}

parts : (payloads : List Payload) (first : Payload) (rest : List Payload) → Some first ≡ first_of payloads → rest ≡ rest_of payloads → payloads ≡ first ∷ rest
parts [] first rest is_first is_rest = cc
parts (p ∷ ps) first rest is_first is_rest = cc

module _ (row : SessionRow) (r : Run) (subscription : ℕ) (payloads : List Payload) (now id : ℕ) (first : Payload) (rest : List Payload)
    (is_id : Some id ≡ free_id r.next_id r.open_ones) (is_first : Some first ≡ first_of payloads) (is_rest : rest ≡ rest_of payloads) where
  payloads-are : payloads ≡ first ∷ rest
  payloads-are = parts payloads first rest is_first is_rest

  pub report-is : (answer : Answer) → sealing row r.messages (message (own_key id) None (reliably first rest)) ≡ answer → report_of row r payloads ≡ answer
  report-is answer e = (λ i. sealing row r.messages (report_message (sym is_id i) (payloads-are i))) ∙ e

  pub messages-are : (answer : Answer) → report_of row r payloads ≡ answer
      → sealed_with r.messages (message (own_key id) None (reliably first rest)) answer ≡ (after_report row subscription payloads now r).messages
  messages-are answer e = λ i. sealed_with r.messages (report_message (is_id i) (sym payloads-are i)) (sym e i)

  pub open-is : (sent : Option (List ℕ)) (counter : ℕ) (old t2 : List Exchange) (x1 x2 : Exchange) → report_of row r payloads ≡ Ok sent
      → old ≡ r.open_ones → counter ≡ next_counter row r.messages → x1 ≡ fresh_exchange id subscription
      → x2 ≡ behind_sending (reliably first rest) counter now (Ok sent) x1 → t2 ≡ put x2 old → t2 ≡ (after_report row subscription payloads now r).open_ones
  open-is sent counter old t2 x1 x2 e is_old is_counter is_x1 is_x2 put2 =
      put2 ∙ (λ i. put ((is_x2 ∙ (λ j. behind_sending (reliably first rest) (is_counter j) now (Ok sent) (is_x1 j))) i) (is_old i))
      ∙ (λ i. (begun_with row subscription (is_id i) (sym payloads-are i) now (sym e i) r).open_ones)

  pub next-is : (sent : Option (List ℕ)) (n : ℕ) → report_of row r payloads ≡ Ok sent → n ≡ (id + 1) % 65536
      → n ≡ (after_report row subscription payloads now r).next_id
  next-is sent n e is = is ∙ (λ i. (begun_with row subscription (is_id i) (sym payloads-are i) now (sym e i) r).next_id)

  pub arrivals-are : (sent : Option (List ℕ)) → report_of row r payloads ≡ Ok sent → r.arrivals ≡ (after_report row subscription payloads now r).arrivals
  arrivals-are sent e = λ i. (begun_with row subscription (is_id i) (sym payloads-are i) now (sym e i) r).arrivals
