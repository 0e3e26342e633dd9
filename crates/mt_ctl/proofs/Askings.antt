-- Steps that are sealed one after the other.
use Rattle.std.proofs.Common.{◌≡◌, ℕ, suc, ◌+◌, ◌-◌, ◌<◌, ◌≤◌, Bool, true, false, cond, eqb, ltb, List, [], ◌∷◌, ◌++◌, length, drop, get_or, Option, Some, None, Result, Err, refl, sym, ap, subst, ◌∙◌, arith, add-one, drop-cons, eqb-true}
use Rattle.std.specs.Prelude.{All, IfNone, IfErr}
use Rattle.std.proofs.lemmas.Bool.{eqb-false, ne_eqb, le-ltb}
use Rattle.std.proofs.lemmas.List.{append-nil, append_assoc, drop_all}
use Rattle.std.proofs.lemmas.List.Elements.{All-append, All-cons, All-nil}
use Rattle.mt_frame.specs.declared.header.ProtocolHeader.{ProtocolHeader}
use Rattle.mt_frame.specs.Writing.{IsProtocol, optional_bytes, protocol_bytes}
use Rattle.mt_model.specs.declared.texts.config.SessionRow.{SessionRow}
use Rattle.mt_model.specs.declared.texts.recording.Event.{Event}
use Rattle.mt_session.specs.declared.fault.SealFault.{SealFault}
use Rattle.mt_session.specs.declared.fault.SealFault.TheVariants.{Exhausted, Memory, TooLong}
use Rattle.mt_session.specs.Datagrams.{datagram_length}
use Rattle.mt_session.specs.Sessions.{Message, next_counter, refusal}
use Rattle.mt_ctl.specs.declared.steps.Step.{Step}
use Rattle.mt_ctl.specs.Asking.{event_of, events_from, exhausted_from}
use Rattle.mt_ctl.specs.Steps.{header_of, message_of, messages_from, next_behind}

-- Counters that are left.

abbrev nowhere : Option ℕ
nowhere = None

pub enough_left : (steps : List Step) (line counter : ℕ) → length steps ≤ 4294967295 - counter → exhausted_from line counter steps ≡ nowhere
enough_left [] line counter few = refl
enough_left (step ∷ steps) line counter few =
    let other : eqb counter 4294967295 ≡ false = ne_eqb counter 4294967295 (λ e. omega arith) in
    ap (λ (t : Bool). cond t (Some line) (exhausted_from (line + 1) (counter + 1) steps)) other
    ∙ enough_left steps (line + 1) (counter + 1) (omega arith)

pub not_enough_left : (steps : List Step) (line counter : ℕ) → counter ≤ 4294967295 → 4294967295 - counter < length steps
    → exhausted_from line counter steps ≡ Some (line + (4294967295 - counter))
not_enough_left [] line counter below many = absurd (omega arith)
not_enough_left (step ∷ steps) line counter below many =
    by_case (eqb counter 4294967295) refl (λ left. not_enough_left steps (line + 1) (counter + 1) (omega arith) (omega arith))
  where
    by_case : (t : Bool) → eqb counter 4294967295 ≡ t
        → (counter < 4294967295 → exhausted_from (line + 1) (counter + 1) steps ≡ Some (line + 1 + (4294967295 - (counter + 1))))
        → cond t (Some line) (exhausted_from (line + 1) (counter + 1) steps) ≡ Some (line + (4294967295 - counter))
    by_case true is rest =
        let last = eqb-true counter 4294967295 is in
        let same : line ≡ line + (4294967295 - counter) = omega arith in
        ap Some same
    by_case false is rest =
        let other = eqb-false counter 4294967295 is in
        let left : counter < 4294967295 = omega arith in
        let same : line + 1 + (4294967295 - (counter + 1)) ≡ line + (4294967295 - counter) = omega arith in
        rest left ∙ ap Some same

-- A message that is not refused.

optional_short : (ack : Option ℕ) → length (optional_bytes 4 ack) ≤ 4
optional_short None = omega arith
optional_short (Some n) = omega arith

header_short : (header : ProtocolHeader) → header.vendor ≡ None → length (protocol_bytes header) ≤ 10
header_short header none =
    let P : Option ℕ → Type 0 = λ vendor. length (protocol_bytes (record header { vendor = vendor })) ≤ 10 in
    subst P (sym none) (let short = optional_short header.acknowledged in omega arith)

-- the headers and the tag take 34 bytes at most
pub length-payload : (next : ℕ) (step : Step) → datagram_length (header_of next step) step.payload ≤ length step.payload + 34
length-payload next step =
    let head : length (protocol_bytes (header_of next step)) ≤ 10 = header_short (header_of next step) refl in
    omega arith

-- a short payload has a datagram of at most 1,232 bytes
pub length-short : (next : ℕ) (step : Step) → length step.payload ≤ 1198 → datagram_length (header_of next step) step.payload ≤ 1232
length-short next step short = omega (arith, length-payload next step)

-- a short payload on a session with a counter left is not refused
pub not_refused : (row : SessionRow) (messages : List Message) (next : ℕ) (step : Step) → next_counter row messages < 4294967295
    → length step.payload ≤ 1198 → refusal row messages (header_of next step) step.payload ≡ None
not_refused row messages next step left short =
    let header = header_of next step in
    let fits = length-short next step short in
    let counter : eqb (next_counter row messages) 4294967295 ≡ false = ne_eqb (next_counter row messages) 4294967295 (λ e. omega arith) in
    let size : ltb 1232 (datagram_length header step.payload) ≡ false = le-ltb 1232 (datagram_length header step.payload) (omega arith) in
    λ i. cond (counter i) (Some Exhausted) (cond (size i) (Some TooLong) None)

-- where a message is not refused only memory may lack
pub memory_alone : {A : Type 0} (refused : Option SealFault) (r : Result A SealFault) (fault : SealFault) → refused ≡ None
    → IfNone refused (IfErr r (λ f. f ≡ Memory)) → r ≡ Err fault → fault ≡ Memory
memory_alone {A} refused r fault none memory is =
    let P : Option SealFault → Type 0 = λ o. IfNone o (IfErr r (λ f. f ≡ Memory)) in
    let Q : Result A SealFault → Type 0 = λ s. IfErr s (λ f. f ≡ Memory) in
    subst Q is (subst P none memory)

-- One step after the other.

-- what is left from a step on
pub steps_at : (steps : List Step) (i : ℕ) (step : Step) → i < length steps → step ≡ get_or steps i step → drop i steps ≡ step ∷ drop (i + 1) steps
steps_at steps i step lt is = rw add-one (drop-cons steps i step lt ∙ ap (λ (s : Step). s ∷ drop (suc i) steps) (sym is))

-- the events so far, with that of a step, and those of the rest
pub events_more : (row : SessionRow) (start i count next after : ℕ) (steps : List Step) (step : Step) (events new all : List Event) (event : Event)
    → i < length steps → step ≡ get_or steps i step → count ≡ start + i → event ≡ event_of row count next step → after ≡ next_behind next step.kind
    → new ≡ events ++ event ∷ [] → events ++ events_from row (start + i) next (drop i steps) ≡ all
    → new ++ events_from row (start + (i + 1)) after (drop (i + 1) steps) ≡ all
events_more row start i count next after steps step events new all event lt is counted told behind pushed so_far =
    let rest = drop (i + 1) steps in
    let more : start + (i + 1) ≡ start + i + 1 = omega arith in
    let here : event ≡ event_of row (start + i) next step = told ∙ ap (λ c. event_of row c next step) counted in
    (λ j. pushed j ++ events_from row (more j) (behind j) rest)
    ∙ append_assoc events (event ∷ []) (events_from row (start + i + 1) (next_behind next step.kind) rest)
    ∙ (λ j. events ++ here j ∷ events_from row (start + i + 1) (next_behind next step.kind) rest)
    ∙ ap (λ ss. events ++ events_from row (start + i) next ss) (sym (steps_at steps i step lt is))
    ∙ so_far

-- the messages so far, with that of a step, and those of the rest
pub messages_more : (i next after : ℕ) (steps : List Step) (step : Step) (messages all : List Message)
    → i < length steps → step ≡ get_or steps i step → after ≡ next_behind next step.kind
    → messages ++ messages_from next (drop i steps) ≡ all
    → (messages ++ message_of next step ∷ []) ++ messages_from after (drop (i + 1) steps) ≡ all
messages_more i next after steps step messages all lt is behind so_far =
    append_assoc messages (message_of next step ∷ []) (messages_from after (drop (i + 1) steps))
    ∙ (λ j. messages ++ message_of next step ∷ messages_from (behind j) (drop (i + 1) steps))
    ∙ ap (λ ss. messages ++ messages_from next ss) (sym (steps_at steps i step lt is))
    ∙ so_far

abbrev pub IsSpelled : Message → Type 0
IsSpelled message = IsProtocol message.header

pub spelled_more : (messages : List Message) (message : Message) → All IsSpelled messages → IsProtocol message.header → All IsSpelled (messages ++ message ∷ [])
spelled_more messages message are is = All-append IsSpelled messages (message ∷ []) are (All-cons IsSpelled message [] is (All-nil IsSpelled))

-- all messages, where no step is left
pub spelled_all : (i next : ℕ) (steps : List Step) (messages all : List Message) → length steps ≤ i → messages ++ messages_from next (drop i steps) ≡ all
    → All IsSpelled messages → All IsSpelled all
spelled_all i next steps messages all end so_far are =
    let whole : messages ≡ all = sym (append-nil messages) ∙ ap (λ ss. messages ++ messages_from next ss) (sym (drop_all i steps end)) ∙ so_far in
    subst (All IsSpelled) whole are
