-- A book that is one entry longer: what it replays to, what is told there, its times and its stop.
use Rattle.std.proofs.Common.{◌≡◌, ◌∙◌, refl, sym, ap, subst, ℕ, ◌+◌, max, Bool, true, false, cond, true≢false, List, [], ◌∷◌, ◌++◌, length, Option, Some, None, slice_get, arith, eq-eqb, length-append}
use Rattle.std.proofs.lemmas.Bool.{and_from, and_parts, le-leb, leb-true}
use Rattle.std.specs.Prelude.{◌==◌, ◌≤◌, is_some, nat_le, unwrap_or}
use Rattle.mt_durable.specs.declared.durable.Entry as kept
use Rattle.mt_files.specs.Form.{HasForm}
use Rattle.mt_model.specs.declared.limits.TheConstants.{LAST_TIME}
use Rattle.mt_model.specs.declared.texts.recording.Event.{Event}
use Rattle.mt_model.specs.declared.texts.recording.Event.TheVariants as events
use Rattle.mt_model.specs.texts.Events.{event_time}
use Rattle.mt_outside.specs.Stream.{one_more}
use Rattle.mt_interactions.specs.mt_machine.State.{State}
use Rattle.mt_interactions.specs.mt_ledger.Ledger.{Ledger}
use Rattle.mt_interactions.specs.Configured.{ConfiguredInteractions, behind}
use Rattle.std.proofs.Math.Logic.{∥∥₁_map}
use Rattle.std.proofs.lemmas.List.Elements.{All-push}
use Rattle.mt_shared.specs.Acts.{StandsBetween}
use Rattle.mt_shared.specs.Book.{AreFormed, are_in_time, asked, done, failed, first_of, is_timed, last_time, stop_in}
use Rattle.mt_shared.specs.Replay.{answer_at, behind_deed, map_of, next, replay, told}
use Rattle.mt_shared.specs.declared.entry.Answer.{Answer}
use Rattle.mt_shared.specs.declared.entry.Call.{Call}
use Rattle.mt_shared.specs.declared.entry.Entry.{Entry}
use Rattle.mt_shared.specs.declared.entry.Stop.{Stop}

pub replay_push : (node : ConfiguredInteractions) (book : List Entry) (entry : Entry) → replay node (book ++ entry ∷ []) ≡ next (replay node book) entry
replay_push node [] entry = refl
replay_push node (e ∷ book) entry = replay_push (next node e) book entry

told_last : (node : ConfiguredInteractions) (book : List Entry) (entry : Entry) → slice_get (told node (book ++ entry ∷ [])) (length book) ≡ Some (entry, answer_at (replay node book) entry)
told_last node [] entry = refl
told_last node (e ∷ book) entry = told_last (next node e) book entry

pub time_push : (before : ℕ) (book : List Entry) (entry : Entry) → last_time before (book ++ entry ∷ []) ≡ entry.ms
time_push before [] entry = refl
time_push before (e ∷ book) entry = time_push e.ms book entry

pub timed_push : (before : ℕ) (book : List Entry) (entry : Entry) → is_timed before book ≡ true → entry.ms ≡ max (asked entry.call) (last_time before book) → is_timed before (book ++ entry ∷ []) ≡ true
timed_push before [] entry timed is = ap (λ (b : Bool). cond b true false) (eq-eqb entry.ms (max (asked entry.call) before) is)
timed_push before (e ∷ book) entry timed is =
    let Goal : Bool → Type 0 = λ b. cond b (is_timed e.ms book) false ≡ true → cond b (is_timed e.ms (book ++ entry ∷ [])) false ≡ true in
    let both : (b : Bool) → Goal b = elim [ true ↦ λ h. timed_push e.ms book entry h is | false ↦ λ h. h ] in
    both (e.ms == max (asked e.call) before) timed

-- TIMES THAT A RECORDING CAN HAVE.

-- the time that a caller told is one
asked_in_time : (event : Event) → HasForm event → unwrap_or (event_time event) 0 ≤ LAST_TIME
asked_in_time (events.Ask ms fabric node cats opcode payload) form = form.time
asked_in_time (events.Datagram ms from bytes) form = form.0
asked_in_time (events.Tick ms) form = form
asked_in_time (events.Report ms fabric subscription) form = form.0
asked_in_time (events.Resend ms session) form = form.0
asked_in_time (events.Stop calls fate) form = omega arith

last_in_time : (before : ℕ) (book : List Entry) → before ≤ LAST_TIME → are_in_time book ≡ true → last_time before book ≤ LAST_TIME
last_in_time before [] low are = low
last_in_time before (e ∷ book) low are =
    let both = and_parts (nat_le e.ms LAST_TIME) (are_in_time book) are in
    last_in_time e.ms book (leb-true e.ms LAST_TIME both.0) both.1

in_time_push : (book : List Entry) (entry : Entry) → are_in_time book ≡ true → entry.ms ≤ LAST_TIME → are_in_time (book ++ entry ∷ []) ≡ true
in_time_push [] entry are low = and_from (nat_le entry.ms LAST_TIME) true (le-leb entry.ms LAST_TIME low) refl
in_time_push (e ∷ book) entry are low =
    let both = and_parts (nat_le e.ms LAST_TIME) (are_in_time book) are in
    and_from (nat_le e.ms LAST_TIME) (are_in_time (book ++ entry ∷ [])) both.0 (in_time_push book entry both.1 low)

pub still_in_time : (book longer : List Entry) (entry : Entry) → are_in_time book ≡ true → longer ≡ book ++ entry ∷ [] → HasForm entry.call.event → entry.ms ≡ max (asked entry.call) (last_time 0 book) → are_in_time longer ≡ true
still_in_time book longer entry are is form time =
    let low : asked entry.call ≤ LAST_TIME = asked_in_time entry.call.event form in
    let last : last_time 0 book ≤ LAST_TIME = last_in_time 0 book (omega arith) are in
    let fits : entry.ms ≤ LAST_TIME = omega arith in
    ap are_in_time is ∙ in_time_push book entry are fits

-- A deed that was done makes no stop.
pub stop_in-done : (book : List Entry) (call : Call) (ms : ℕ) → stop_in (book ++ done call ms ∷ []) ≡ stop_in book
stop_in-done [] call ms = refl
stop_in-done (e ∷ book) call ms = ap (first_of e.stop) (stop_in-done book call ms)

-- One whose commit failed makes the first one.
pub stop_in-failed : (book : List Entry) (call : Call) (ms : ℕ) (stop : Stop) → stop_in book ≡ None → stop_in (book ++ failed call ms stop ∷ []) ≡ Some stop
stop_in-failed [] call ms stop none = refl
stop_in-failed (e ∷ book) call ms stop none =
    let Goal : Option Stop → Type 0 = λ o. first_of o (stop_in book) ≡ None → first_of o (stop_in (book ++ failed call ms stop ∷ [])) ≡ Some stop in
    let both : (o : Option Stop) → Goal o = elim [ None ↦ λ h. stop_in-failed book call ms stop h | Some other ↦ λ h. absurd (true≢false (ap is_some h)) ] in
    both e.stop none

-- Each call is one that a line can tell.
pub still_formed : (book longer : List Entry) (entry : Entry) → ∥ AreFormed book ∥₁ → longer ≡ book ++ entry ∷ [] → HasForm entry.call.event → ∥ AreFormed longer ∥₁
still_formed book longer entry formed is form =
    subst (λ (b : List Entry). ∥ AreFormed b ∥₁) (sym is) (∥∥₁_map formed (λ (all : AreFormed book). All-push (λ (e : Entry). HasForm e.call.event) book entry all form))

-- WHAT A HELD NODE KEEPS.

pub still_replays : (origin node after : ConfiguredInteractions) (book longer : List Entry) (entry : Entry) → replay origin book ≡ node → longer ≡ book ++ entry ∷ [] → after ≡ next node entry → replay origin longer ≡ after
still_replays origin node after book longer entry replays is step =
    ap (replay origin) is ∙ replay_push origin book entry ∙ ap (λ (n : ConfiguredInteractions). next n entry) replays ∙ sym step

pub still_timed : (book longer : List Entry) (entry : Entry) → is_timed 0 book ≡ true → longer ≡ book ++ entry ∷ [] → entry.ms ≡ max (asked entry.call) (last_time 0 book) → is_timed 0 longer ≡ true
still_timed book longer entry timed is time = ap (is_timed 0) is ∙ timed_push 0 book entry timed time

pub now_last : (book longer : List Entry) (entry : Entry) → longer ≡ book ++ entry ∷ [] → last_time 0 longer ≡ entry.ms
now_last book longer entry is = ap (last_time 0) is ∙ time_push 0 book entry

-- what is told of the last entry
pub told_there : (origin node : ConfiguredInteractions) (book longer : List Entry) (call : Call) (ms place : ℕ) (answer : Answer) → replay origin book ≡ node → longer ≡ book ++ done call ms ∷ [] → place ≡ length book
    → answer ≡ answer_at node (done call ms) → slice_get (told origin longer) place ≡ Some (done call ms, answer)
told_there origin node book longer call ms place answer replays is at its =
    let Told : Answer → Option (Entry × Answer) = λ a. Some (done call ms, a) in
    ap (λ (b : List Entry). slice_get (told origin b) place) is
    ∙ ap (slice_get (told origin (book ++ done call ms ∷ []))) at
    ∙ told_last origin book (done call ms)
    ∙ ap Told (ap (λ (n : ConfiguredInteractions). answer_at n (done call ms)) replays ∙ sym its)

-- a node with the state and the ledger behind a deed is the node behind it
pub step_is : (node after : ConfiguredInteractions) (state state' : State) (ledger ledger' : Ledger) → after ≡ behind state ledger node → state ≡ state' → ledger ≡ ledger' → after ≡ behind state' ledger' node
step_is node after state state' ledger ledger' put is too = put ∙ ap (λ (both : State × Ledger). behind both.0 both.1 node) (λ i. (is i, too i))

some_same : {X : Type 0} (a b : X) → Some a ≡ Some b → a ≡ b
some_same a b same = cc

-- the stop that ends the book is its last entry
pub now_stopped : (book longer : List Entry) (entry : Entry) (stop it : Stop) → longer ≡ book ++ entry ∷ [] → stop.place ≡ length book → Some stop ≡ Some it → length longer ≡ it.place + 1
now_stopped book longer entry stop it is at same =
    let placed : stop.place ≡ it.place = ap (λ (s : Stop). s.place) (some_same stop it same) in
    let longer_by : length longer ≡ length book + 1 = ap length is ∙ length-append book (entry ∷ []) in
    omega (arith, longer_by, at, placed)

-- and the count of faults rose in it
pub now_risen : (stop it : Stop) → stop.after ≡ one_more stop.before → Some stop ≡ Some it → it.after ≡ one_more it.before
now_risen stop it rose same = subst (λ (s : Stop). s.after ≡ one_more s.before) (some_same stop it same) rose

last_there : (book : List Entry) (entry : Entry) → slice_get (book ++ entry ∷ []) (length book) ≡ Some entry
last_there [] entry = refl
last_there (e ∷ book) entry = last_there book entry

-- the entry with the stop stands at its place
pub stop_there : (book longer : List Entry) (entry : Entry) (stop it : Stop) → longer ≡ book ++ entry ∷ [] → stop.place ≡ length book → Some stop ≡ Some it → slice_get longer it.place ≡ Some entry
stop_there book longer entry stop it is at same =
    let placed : it.place ≡ length book = sym (ap (λ (s : Stop). s.place) (some_same stop it same)) ∙ at in
    ap (λ (b : List Entry). slice_get b it.place) is ∙ ap (slice_get (book ++ entry ∷ [])) placed ∙ last_there book entry

-- what is found of the keeper, where the entry with the stop stands at its place
pub stands_there : (Between : List kept.Entry → List kept.Entry → Type 0) (node : ConfiguredInteractions) (last : Option Entry) (entry : Entry) → last ≡ Some entry
    → Between (map_of node) (map_of (behind_deed node entry.call.deed entry.ms)) → StandsBetween Between node last
stands_there Between node last entry is stands = subst (StandsBetween Between node) (sym is) stands

-- the count of faults is that of the stop
pub now_counted : (faults : ℕ) (stop it : Stop) → faults ≡ stop.after → Some stop ≡ Some it → faults ≡ it.after
now_counted faults stop it counted same = counted ∙ ap (λ (s : Stop). s.after) (some_same stop it same)
