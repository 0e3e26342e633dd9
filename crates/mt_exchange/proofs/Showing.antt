-- What is shown of a run, one happening after the other.
use Rattle.std.proofs.Common.{◌≡◌, ℕ, true, false, List, [], ◌∷◌, ◌++◌, Option, Some, None, Result, Ok, Err, refl, ap, sym, ◌∙◌, append_assoc, fold}
use Rattle.std.proofs.lemmas.List.{append-nil}
use Rattle.mt_model.specs.declared.texts.config.SessionRow.{SessionRow}
use Rattle.mt_model.specs.declared.messages.message.Payload.{Payload}
use Rattle.mt_session.specs.declared.fault.SealFault.{SealFault}
use Rattle.mt_session.specs.Opening.{Arrival}
use Rattle.mt_session.specs.Sessions.{Message}
use Rattle.mt_exchange.specs.Runs.{Happening, Run, after, answer_message, answer_of, answer_sending, answered, arrived, begun_with, dropped, report_message, report_of, reported, resend_step}
use Rattle.mt_exchange.specs.Sending.{free_id, sealed_with}
use Rattle.mt_exchange.specs.Shown.{Shown, again, arrivals_in, closed, deadline_of_first, deadline_to_send, heard, messages_in, outgoing_if, sent, shown_answer, shown_by, shown_from, shown_report, told}

arrivals-of-both : (xs ys : List Shown) → arrivals_in (xs ++ ys) ≡ arrivals_in xs ++ arrivals_in ys
arrivals-of-both [] ys = refl
arrivals-of-both (heard live a ∷ xs) ys = ap (λ (more : List Arrival). a ∷ more) (arrivals-of-both xs ys)
arrivals-of-both (sent message now ∷ xs) ys = arrivals-of-both xs ys
arrivals-of-both (told subscription message now ∷ xs) ys = arrivals-of-both xs ys
arrivals-of-both (again now ∷ xs) ys = arrivals-of-both xs ys
arrivals-of-both (closed ∷ xs) ys = arrivals-of-both xs ys

messages-of-both : (xs ys : List Shown) → messages_in (xs ++ ys) ≡ messages_in xs ++ messages_in ys
messages-of-both [] ys = refl
messages-of-both (heard live a ∷ xs) ys = messages-of-both xs ys
messages-of-both (sent message now ∷ xs) ys = ap (λ (ms : List Message). message.message ∷ ms) (messages-of-both xs ys)
messages-of-both (told subscription message now ∷ xs) ys = ap (λ (ms : List Message). message.message ∷ ms) (messages-of-both xs ys)
messages-of-both (again now ∷ xs) ys = messages-of-both xs ys
messages-of-both (closed ∷ xs) ys = messages-of-both xs ys

-- what is sent is no arrival
answer-arrivals : (deadline : Option ℕ) (message : Option Message) (answer : Result (Option (List ℕ)) SealFault) (now : ℕ)
    → arrivals_in (shown_answer (outgoing_if deadline message) answer now) ≡ []
answer-arrivals deadline None answer now = refl
answer-arrivals deadline (Some m) (Ok bytes) now = refl
answer-arrivals deadline (Some m) (Err fault) now = refl

report-arrivals : (subscription : ℕ) (deadline : Option ℕ) (message : Option Message) (answer : Result (Option (List ℕ)) SealFault) (now : ℕ)
    → arrivals_in (shown_report subscription (outgoing_if deadline message) answer now) ≡ []
report-arrivals subscription deadline None answer now = refl
report-arrivals subscription deadline (Some m) (Ok bytes) now = refl
report-arrivals subscription deadline (Some m) (Err fault) now = refl

begun-arrivals : (row : SessionRow) (subscription : ℕ) (id : Option ℕ) (payloads : List Payload) (now : ℕ) (answer : Result (Option (List ℕ)) SealFault) (r : Run)
    → (begun_with row subscription id payloads now answer r).arrivals ≡ r.arrivals
begun-arrivals row subscription None payloads now answer r = refl
begun-arrivals row subscription (Some id) [] now answer r = refl
begun-arrivals row subscription (Some id) (p ∷ rest) now (Ok bytes) r = refl
begun-arrivals row subscription (Some id) (p ∷ rest) now (Err fault) r = refl

-- what is sent is sealed
answer-messages : (messages : List Message) (deadline : Option ℕ) (message : Option Message) (answer : Result (Option (List ℕ)) SealFault) (now : ℕ)
    → sealed_with messages message answer ≡ messages ++ messages_in (shown_answer (outgoing_if deadline message) answer now)
answer-messages messages deadline None answer now = sym (append-nil messages)
answer-messages messages deadline (Some m) (Ok bytes) now = refl
answer-messages messages deadline (Some m) (Err fault) now = sym (append-nil messages)

report-messages : (messages : List Message) (subscription : ℕ) (deadline : Option ℕ) (message : Option Message) (answer : Result (Option (List ℕ)) SealFault) (now : ℕ)
    → sealed_with messages message answer ≡ messages ++ messages_in (shown_report subscription (outgoing_if deadline message) answer now)
report-messages messages subscription deadline None answer now = sym (append-nil messages)
report-messages messages subscription deadline (Some m) (Ok bytes) now = refl
report-messages messages subscription deadline (Some m) (Err fault) now = sym (append-nil messages)

-- what one happening adds
arrivals-behind : (row : SessionRow) (r : Run) (h : Happening) → (after row r h).arrivals ≡ r.arrivals ++ arrivals_in (shown_by row r h)
arrivals-behind row r (arrived true a) = refl
arrivals-behind row r (arrived false a) = refl
arrivals-behind row r (answered key acknowledge payloads now) =
    sym (append-nil r.arrivals) ∙ ap (λ (some : List Arrival). r.arrivals ++ some)
    (sym (answer-arrivals (deadline_to_send (answer_sending r key acknowledge payloads)) (answer_message r key acknowledge payloads) (answer_of row r key acknowledge payloads) now))
arrivals-behind row r (reported subscription payloads now) =
    begun-arrivals row subscription (free_id r.next_id r.open_ones) payloads now (report_of row r payloads) r
    ∙ sym (append-nil r.arrivals) ∙ ap (λ (some : List Arrival). r.arrivals ++ some)
    (sym (report-arrivals subscription (deadline_of_first payloads) (report_message (free_id r.next_id r.open_ones) payloads) (report_of row r payloads) now))
arrivals-behind row r (resend_step now) = sym (append-nil r.arrivals)
arrivals-behind row r dropped = sym (append-nil r.arrivals)

messages-behind : (row : SessionRow) (r : Run) (h : Happening) → (after row r h).messages ≡ r.messages ++ messages_in (shown_by row r h)
messages-behind row r (arrived true a) = sym (append-nil r.messages)
messages-behind row r (arrived false a) = sym (append-nil r.messages)
messages-behind row r (answered key acknowledge payloads now) =
    answer-messages r.messages (deadline_to_send (answer_sending r key acknowledge payloads)) (answer_message r key acknowledge payloads) (answer_of row r key acknowledge payloads) now
messages-behind row r (reported subscription payloads now) =
    report-messages r.messages subscription (deadline_of_first payloads) (report_message (free_id r.next_id r.open_ones) payloads) (report_of row r payloads) now
messages-behind row r (resend_step now) = sym (append-nil r.messages)
messages-behind row r dropped = sym (append-nil r.messages)

-- and what all of them add to a run
pub arrivals-on : (row : SessionRow) (r : Run) (happenings : List Happening)
    → r.arrivals ++ arrivals_in (shown_from row r happenings) ≡ (fold (after row) r happenings).arrivals
arrivals-on row r [] = append-nil r.arrivals
arrivals-on row r (h ∷ happenings) =
    let s : List Shown = shown_by row r h in
    let more : List Shown = shown_from row (after row r h) happenings in
    ap (λ (some : List Arrival). r.arrivals ++ some) (arrivals-of-both s more)
    ∙ sym (append_assoc r.arrivals (arrivals_in s) (arrivals_in more))
    ∙ ap (λ (some : List Arrival). some ++ arrivals_in more) (sym (arrivals-behind row r h)) ∙ arrivals-on row (after row r h) happenings

pub messages-on : (row : SessionRow) (r : Run) (happenings : List Happening)
    → r.messages ++ messages_in (shown_from row r happenings) ≡ (fold (after row) r happenings).messages
messages-on row r [] = append-nil r.messages
messages-on row r (h ∷ happenings) =
    let s : List Shown = shown_by row r h in
    let more : List Shown = shown_from row (after row r h) happenings in
    ap (λ (ms : List Message). r.messages ++ ms) (messages-of-both s more)
    ∙ sym (append_assoc r.messages (messages_in s) (messages_in more))
    ∙ ap (λ (ms : List Message). ms ++ messages_in more) (sym (messages-behind row r h)) ∙ messages-on row (after row r h) happenings

-- what happens once more is shown last
pub more-from : (row : SessionRow) (r : Run) (happenings : List Happening) (h : Happening)
    → shown_from row r (happenings ++ h ∷ []) ≡ shown_from row r happenings ++ shown_by row (fold (after row) r happenings) h
more-from row r [] h = append-nil (shown_by row r h)
more-from row r (g ∷ happenings) h =
    ap (λ (xs : List Shown). shown_by row r g ++ xs) (more-from row (after row r g) happenings h)
    ∙ sym (append_assoc (shown_by row r g) (shown_from row (after row r g) happenings) (shown_by row (fold (after row) (after row r g) happenings) h))
