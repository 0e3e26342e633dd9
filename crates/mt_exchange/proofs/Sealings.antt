-- What a session says to a message, and what has happened once more.
use Rattle.std.proofs.Common.{◌≡◌, ◌≢◌, ℕ, List, [], ◌∷◌, ◌++◌, Option, Some, None, Result, Ok, Err, IfSome, IfNone, ap, sym}
use Rattle.std.proofs.lemmas.List.Sums.{fold-append}
use Rattle.mt_model.specs.declared.texts.config.SessionRow.{SessionRow}
use Rattle.mt_session.specs.declared.fault.SealFault.{SealFault}
use Rattle.mt_session.specs.declared.fault.SealFault.TheVariants.{Memory}
use Rattle.mt_frame.specs.declared.header.ProtocolHeader.{ProtocolHeader}
use Rattle.mt_exchange.specs.Sending.{message_under, sealed_unless}
use Rattle.mt_exchange.specs.Runs.{Happening, after, begun, run}

pub sent_by : (refused : Option SealFault) (bytes sent : List ℕ) → IfSome refused (λ fault. Ok sent ≡ Err fault) → sent ≡ bytes
    → sealed_unless refused bytes ≡ Ok (Some sent)
sent_by None bytes sent never is = ap (λ (b : List ℕ). Ok (Some b)) (sym is)
sent_by (Some fault) bytes sent never is = cc

abbrev pub Refused : Type 0 → SealFault → SealFault → Type 0
Refused A fault other = let it : Result A SealFault = Err fault in it ≡ Err other

pub refused_by : (A : Type 0) (refused : Option SealFault) (bytes : List ℕ) (fault : SealFault) → IfSome refused (λ f. Refused A fault f)
    → IfNone refused (fault ≡ Memory) → fault ≢ Memory → sealed_unless refused bytes ≡ Err fault
refused_by A None bytes fault is memory other = absurd (other memory)
refused_by A (Some f) bytes fault is memory other = cc

-- a run goes on
pub run-more : (row : SessionRow) (happenings : List Happening) (h : Happening) → run row (happenings ++ h ∷ []) ≡ after row (run row happenings) h
run-more row happenings h = fold-append (after row) begun happenings (h ∷ [])

-- the message that has a header
pub message_is : (found : Option ProtocolHeader) (header : ProtocolHeader) (payload bytes : List ℕ) → Some header ≡ found → payload ≡ bytes
    → Some (record { header = header; payload = payload }) ≡ message_under found bytes
message_is found header payload bytes is same = λ i. message_under (is i) (same i)
