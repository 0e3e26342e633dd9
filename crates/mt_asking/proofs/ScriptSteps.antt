-- What the lines of a script tell fits the fields of a message, and what is sent for it is an event.
use Rattle.std.proofs.Common.{◌≡◌, ◌<◌, ◌≤◌, ◌+◌, ◌*◌, ◌^◌, ℕ, zero, suc, Bool, true, false, cond, ◌==◌, List, [], ◌∷◌, length, Option, Some, None, Result, Ok, Err, refl, sym, ap, subst, arith, ◌∙◌}
use Rattle.std.specs.Prelude.{All, IfSome, codes, nat_le, nat_lt, ⊤}
use Rattle.std.specs.Option.{option_and_then, option_map}
use Rattle.std.proofs.lemmas.Bool.{leb-true}
use Rattle.std.proofs.lemmas.List.Elements.{All-nil, All-cons, All-head, All-tail}
use Rattle.hex.specs.Hex.{IsBytes, decode_of, decode_sized}
use Rattle.hex.specs.declared.error.FromHexError.{FromHexError}
use Rattle.hex.proofs.HexLemmas.{decode_of-ok, decode_sized-ok, decode_sized-twice}
use Rattle.mt_ctl.specs.Asking.{controller, event_of, events_from}
use Rattle.mt_ctl.specs.Script.{ack_in, exchange_in, head, in_time, is_too_long, line_step, line_told, node_in, node_of, ours_in, ours_of, request_in, script_of, sent_by, sent_in, sent_on, step_payload_in, steps_behind_head, steps_from}
use Rattle.mt_ctl.specs.Steps.{header_of, messages_from, next_behind}
use Rattle.mt_ctl.specs.declared.steps.Kind.{Kind}
use Rattle.mt_ctl.specs.declared.steps.Kind.TheVariants.{New, Ours, Node}
use Rattle.mt_ctl.specs.declared.steps.Step.{Step}
use Rattle.mt_files.specs.Event.{time_in}
use Rattle.mt_files.specs.Field.{bytes_in, first_byte, number_between, number_of, ok_of, opcode_in, up_to}
use Rattle.mt_files.specs.Form.{IsEvent, IsPeer}
use Rattle.mt_files.specs.Lines.{fields_of, lines_of, text_is}
use Rattle.mt_files.specs.Told.{at_line, followed, onto}
use Rattle.mt_frame.specs.Writing.{IsProtocol}
use Rattle.mt_model.specs.declared.texts.config.SessionRow.{SessionRow}
use Rattle.mt_model.specs.declared.texts.line_fault.LineFault.{LineFault}
use Rattle.mt_model.specs.declared.texts.line_fault.LineFault.TheVariants.{Line, TooLong}
use Rattle.mt_model.specs.declared.texts.line_fault.LineKind.{LineKind}
use Rattle.mt_model.specs.declared.texts.line_fault.LineKind.TheVariants.{Head, Form, Time}
use Rattle.mt_session.specs.Sessions.{Message}
use Rattle.mt_asking.proofs.ByteLists.{bytes-cons, bytes-nil}
use Rattle.mt_asking.proofs.SealedBytes.{datagram-bytes}

-- The numbers of a kind fit their fields.
abbrev pub FitsKind : Kind → Type 0
FitsKind New = ⊤
FitsKind (Ours exchange ack) = (exchange < 65536) × IfSome ack (λ counter. counter < 4294967296)
FitsKind (Node exchange ack) = (exchange < 65536) × IfSome ack (λ counter. counter < 4294967296)

-- So do those of a step.
pub record IsSpelled (step : Step) : Type 0 where
  pub ms : step.ms < 2 ^ 64
  pub kind : FitsKind step.kind
  pub opcode : step.opcode < 256
  pub payload : IsBytes step.payload

-- what is told of each value that may be there
if_some : {A : Type 0} (P : A → Type 0) (o : Option A) → ((a : A) → o ≡ Some a → P a) → IfSome o P
if_some P None h = tt
if_some P (Some a) h = h a refl

then-some : {A B : Type 0} (o : Option A) (f : A → Option B) (b : B) → option_and_then f o ≡ Some b → (a : A) × (o ≡ Some a) × (f a ≡ Some b)
then-some None f b h = absurd (cc)
then-some (Some a) f b h = (a, refl, h)

some-same : {A : Type 0} (x y : A) → Some x ≡ Some y → x ≡ y
some-same x y h = cc

-- Fields.

tested : (test : ℕ → Bool) (found n : ℕ) → cond (test found) (Some found) None ≡ Some n → (test found ≡ true) × (found ≡ n)
tested test found n h = by_test (test found) refl h
  where
    by_test : (t : Bool) → test found ≡ t → cond t (Some found) None ≡ Some n → (test found ≡ true) × (found ≡ n)
    by_test true is e = (is, some-same found n e)
    by_test false is e = absurd (cc)

number-below : (least most : ℕ) (text : List ℕ) (n : ℕ) → number_between least most text ≡ Some n → n ≤ most
number-below least most text n h =
    let a = then-some (up_to most (number_of text)) (λ number. cond (nat_le least number) (Some number) None) n h in
    let same = (tested (λ number. nat_le least number) a.0 n a.2).1 in
    let b = then-some (number_of text) (λ number. cond (nat_le number most) (Some number) None) a.0 a.1 in
    let c = tested (λ number. nat_le number most) b.0 a.0 b.2 in
    subst (λ (m : ℕ). m ≤ most) (c.1 ∙ same) (leb-true b.0 most c.0)

exchange-fits : (text : List ℕ) → IfSome (exchange_in text) (λ exchange. exchange < 65536)
exchange-fits text = if_some (λ exchange. exchange < 65536) (exchange_in text) (λ n is. let le = number-below 0 65535 text n is in omega (arith, le))

time-fits : (text : List ℕ) → IfSome (time_in text) (λ ms. ms < 2 ^ 64)
time-fits text = if_some (λ ms. ms < 2 ^ 64) (time_in text) (λ n is. let le = number-below 0 281474976710655 text n is in omega (arith, le))

ack-fits : (text : List ℕ) → IfSome (ack_in text) (λ ack. IfSome ack (λ counter. counter < 4294967296))
ack-fits text = by_sign (text_is text (codes "-")) (if_some (λ counter. counter < 4294967296) (number_between 0 4294967295 text) (λ n is. let le = number-below 0 4294967295 text n is in omega (arith, le)))
  where
    by_number : (o : Option ℕ) → IfSome o (λ counter. counter < 4294967296) → IfSome (option_map Some o) (λ ack. IfSome ack (λ counter. counter < 4294967296))
    by_number None h = tt
    by_number (Some n) h = h

    by_sign : (t : Bool) → IfSome (number_between 0 4294967295 text) (λ counter. counter < 4294967296)
        → IfSome (cond t (Some None) (option_map Some (number_between 0 4294967295 text))) (λ ack. IfSome ack (λ counter. counter < 4294967296))
    by_sign true h = tt
    by_sign false h = by_number (number_between 0 4294967295 text) h

read_ok : (r : Result (List ℕ) FromHexError) (bytes : List ℕ) → ok_of r ≡ Some bytes → r ≡ Ok bytes
read_ok (Ok found) bytes e = ap Ok (some-same found bytes e)
read_ok (Err fault) bytes e = absurd (cc)

sized-bytes : (size : ℕ) (text bytes : List ℕ) → bytes_in size text ≡ Some bytes → IsBytes bytes
sized-bytes size text bytes h =
    let is = read_ok (decode_sized text size) bytes h in
    let long = decode_sized-ok text size bytes is in
    (decode_of-ok text bytes (sym (decode_sized-twice text size long) ∙ is)).3

first-fits : (bytes : List ℕ) (b : ℕ) → IsBytes bytes → first_byte bytes ≡ Some b → b < 256
first-fits [] b h e = absurd (cc)
first-fits (x ∷ bytes) b h e = subst (λ (n : ℕ). n < 256) (some-same x b e) (h 0)

opcode-fits : (text : List ℕ) → IfSome (opcode_in text) (λ opcode. opcode < 256)
opcode-fits text = if_some (λ opcode. opcode < 256) (opcode_in text) (λ n is.
    let a = then-some (bytes_in 1 text) first_byte n is in
    first-fits a.0 n (sized-bytes 1 text a.0 a.1) a.2)

payload-fits : (text : List ℕ) → IfSome (step_payload_in text) IsBytes
payload-fits text = if_some IsBytes (step_payload_in text) (λ bytes is. by_length (length text == 0) bytes is)
  where
    by_size : (t : Bool) (bytes : List ℕ) → cond t (ok_of (decode_of text)) None ≡ Some bytes → IsBytes bytes
    by_size true bytes e = (decode_of-ok text bytes (read_ok (decode_of text) bytes e)).3
    by_size false bytes e = absurd (cc)

    by_sign : (t : Bool) (bytes : List ℕ) → cond t (Some []) (cond (nat_le (length text) (2 * 1198)) (ok_of (decode_of text)) None) ≡ Some bytes → IsBytes bytes
    by_sign true bytes e = subst IsBytes (some-same [] bytes e) bytes-nil
    by_sign false bytes e = by_size (nat_le (length text) (2 * 1198)) bytes e

    by_length : (t : Bool) (bytes : List ℕ) → cond t None (cond (text_is text (codes "-")) (Some []) (cond (nat_le (length text) (2 * 1198)) (ok_of (decode_of text)) None)) ≡ Some bytes → IsBytes bytes
    by_length true bytes e = absurd (cc)
    by_length false bytes e = by_sign (text_is text (codes "-")) bytes e

-- Lines.

sent-spelled : (ms : Option ℕ) (kind : Option Kind) (opcode : Option ℕ) (payload : Option (List ℕ)) (s : Step)
    → IfSome ms (λ n. n < 2 ^ 64) → IfSome kind FitsKind → IfSome opcode (λ n. n < 256) → IfSome payload IsBytes → sent_by ms kind opcode payload ≡ Ok s → IsSpelled s
sent-spelled (Some ms) (Some kind) (Some opcode) (Some payload) s p q r t h =
    let made : Step = record { ms = ms; kind = kind; opcode = opcode; payload = payload } in
    let same : made ≡ s = cc in
    subst IsSpelled same (record { ms = p; kind = q; opcode = r; payload = t })
sent-spelled (Some ms) (Some kind) (Some opcode) None s p q r t h = absurd (cc)
sent-spelled (Some ms) (Some kind) None payload s p q r t h = absurd (cc)
sent-spelled (Some ms) None opcode payload s p q r t h = absurd (cc)
sent-spelled None kind opcode payload s p q r t h = absurd (cc)

ours-fits : (exchange : Option ℕ) (ack : Option (Option ℕ)) → IfSome exchange (λ n. n < 65536) → IfSome ack (λ a. IfSome a (λ counter. counter < 4294967296)) → IfSome (ours_of exchange ack) FitsKind
ours-fits (Some exchange) (Some ack) p q = (p, q)
ours-fits (Some exchange) None p q = tt
ours-fits None ack p q = tt

node-fits : (exchange : Option ℕ) (ack : Option (Option ℕ)) → IfSome exchange (λ n. n < 65536) → IfSome ack (λ a. IfSome a (λ counter. counter < 4294967296)) → IfSome (node_of exchange ack) FitsKind
node-fits (Some exchange) (Some ack) p q = (p, q)
node-fits (Some exchange) None p q = tt
node-fits None ack p q = tt

request-spelled : (fields : List (List ℕ)) (s : Step) → request_in fields ≡ Ok s → IsSpelled s
request-spelled [] s h = absurd (cc)
request-spelled (a ∷ []) s h = absurd (cc)
request-spelled (a ∷ b ∷ []) s h = absurd (cc)
request-spelled (ms ∷ opcode ∷ payload ∷ []) s h =
    sent-spelled (time_in ms) (Some New) (opcode_in opcode) (step_payload_in payload) s (time-fits ms) tt (opcode-fits opcode) (payload-fits payload) h
request-spelled (a ∷ b ∷ c ∷ d ∷ fields) s h = absurd (cc)

ours-spelled : (fields : List (List ℕ)) (s : Step) → ours_in fields ≡ Ok s → IsSpelled s
ours-spelled [] s h = absurd (cc)
ours-spelled (a ∷ []) s h = absurd (cc)
ours-spelled (a ∷ b ∷ []) s h = absurd (cc)
ours-spelled (a ∷ b ∷ c ∷ []) s h = absurd (cc)
ours-spelled (a ∷ b ∷ c ∷ d ∷ []) s h = absurd (cc)
ours-spelled (ms ∷ exchange ∷ ack ∷ opcode ∷ payload ∷ []) s h =
    sent-spelled (time_in ms) (ours_of (exchange_in exchange) (ack_in ack)) (opcode_in opcode) (step_payload_in payload) s
    (time-fits ms) (ours-fits (exchange_in exchange) (ack_in ack) (exchange-fits exchange) (ack-fits ack)) (opcode-fits opcode) (payload-fits payload) h
ours-spelled (a ∷ b ∷ c ∷ d ∷ e ∷ f ∷ fields) s h = absurd (cc)

node-spelled : (fields : List (List ℕ)) (s : Step) → node_in fields ≡ Ok s → IsSpelled s
node-spelled [] s h = absurd (cc)
node-spelled (a ∷ []) s h = absurd (cc)
node-spelled (a ∷ b ∷ []) s h = absurd (cc)
node-spelled (a ∷ b ∷ c ∷ []) s h = absurd (cc)
node-spelled (a ∷ b ∷ c ∷ d ∷ []) s h = absurd (cc)
node-spelled (ms ∷ exchange ∷ ack ∷ opcode ∷ payload ∷ []) s h =
    sent-spelled (time_in ms) (node_of (exchange_in exchange) (ack_in ack)) (opcode_in opcode) (step_payload_in payload) s
    (time-fits ms) (node-fits (exchange_in exchange) (ack_in ack) (exchange-fits exchange) (ack-fits ack)) (opcode-fits opcode) (payload-fits payload) h
node-spelled (a ∷ b ∷ c ∷ d ∷ e ∷ f ∷ fields) s h = absurd (cc)

sent_on-spelled : (letter : List ℕ) (fields : List (List ℕ)) (s : Step) → sent_on letter fields ≡ Ok s → IsSpelled s
sent_on-spelled letter fields s h = by_letter (text_is letter (codes "Q")) (text_is letter (codes "F")) (text_is letter (codes "G")) h
  where
    by_letter : (q f g : Bool) → cond q (request_in fields) (cond f (ours_in fields) (cond g (node_in fields) (Err Form))) ≡ Ok s → IsSpelled s
    by_letter true f g e = request-spelled fields s e
    by_letter false true g e = ours-spelled fields s e
    by_letter false false true e = node-spelled fields s e
    by_letter false false false e = absurd (cc)

sent_in-spelled : (fields : List (List ℕ)) (s : Step) → sent_in fields ≡ Ok s → IsSpelled s
sent_in-spelled [] s h = absurd (cc)
sent_in-spelled (letter ∷ fields) s h = sent_on-spelled letter fields s h

told-spelled : (number before : ℕ) (line : List ℕ) (s : Step) → line_told number before line ≡ Ok s → IsSpelled s
told-spelled number before line s h = by_size (is_too_long number line) h
  where
    by_time : (x : Step) (t : Bool) → at_line number (cond t (Err Time) (Ok x)) ≡ Ok s → x ≡ s
    by_time x true e = absurd (cc)
    by_time x false e = cc

    by_step : (r : Result Step LineKind) → line_step line ≡ r → at_line number (in_time before r) ≡ Ok s → IsSpelled s
    by_step (Err kind) is e = absurd (cc)
    by_step (Ok x) is e = subst IsSpelled (by_time x (nat_lt x.ms before) e) (sent_in-spelled (fields_of line) x is)

    by_size : (t : Bool) → cond t (Err TooLong) (at_line number (in_time before (line_step line))) ≡ Ok s → IsSpelled s
    by_size true e = absurd (cc)
    by_size false e = by_step (line_step line) refl e

-- The whole.

record Followed (told : Result Step LineFault) (rest : Step → Result (List Step) LineFault) (steps : List Step) : Type 0 where
  step : Step
  others : List Step
  first : told ≡ Ok step
  then : rest step ≡ Ok others
  all : step ∷ others ≡ steps

followed-some : (told : Result Step LineFault) (rest : Step → Result (List Step) LineFault) (steps : List Step) → followed told rest ≡ Ok steps → Followed told rest steps
followed-some (Err fault) rest steps h = absurd (cc)
followed-some (Ok s) rest steps h = by_rest (rest s) refl h
  where
    by_rest : (r : Result (List Step) LineFault) → rest s ≡ r → onto s r ≡ Ok steps → Followed (Ok s) rest steps
    by_rest (Err fault) is h = absurd (cc)
    by_rest (Ok others) is h = record { step = s; others = others; first = refl; then = is; all = cc }

lines-spelled : (number before : ℕ) (lines : List (List ℕ)) (steps : List Step) → steps_from number before lines ≡ Ok steps → All IsSpelled steps
lines-spelled number before [] steps h = let none : [] ≡ steps = cc in subst (All IsSpelled) none (All-nil IsSpelled)
lines-spelled number before (line ∷ lines) steps h =
    let f = followed-some (line_told number before line) (λ (step : Step). steps_from (number + 1) step.ms lines) steps h in
    subst (All IsSpelled) f.all (All-cons IsSpelled f.step f.others (told-spelled number before line f.step f.first) (lines-spelled (number + 1) f.step.ms lines f.others f.then))

behind-spelled : (lines : List (List ℕ)) (steps : List Step) → steps_behind_head lines ≡ Ok steps → All IsSpelled steps
behind-spelled [] steps h = absurd (cc)
behind-spelled (first ∷ lines) steps h = by_tests (nat_lt 4096 (length first)) (text_is first head) h
  where
    by_tests : (long is : Bool) → cond long (Err TooLong) (cond is (steps_from 2 0 lines) (Err (Line 1 Head))) ≡ Ok steps → All IsSpelled steps
    by_tests true is e = absurd (cc)
    by_tests false true e = lines-spelled 2 0 lines steps e
    by_tests false false e = absurd (cc)

pub script_spelled : (bytes : List ℕ) (steps : List Step) → script_of bytes ≡ Ok steps → All IsSpelled steps
script_spelled bytes steps h = by_size (nat_lt 16777216 (length bytes)) h
  where
    by_size : (t : Bool) → cond t (Err TooLong) (steps_behind_head (lines_of bytes)) ≡ Ok steps → All IsSpelled steps
    by_size true e = absurd (cc)
    by_size false e = behind-spelled (lines_of bytes) steps e

-- The messages of steps.

header-spelled : (next : ℕ) (step : Step) → next < 65536 → IsSpelled step → IsProtocol (header_of next step)
header-spelled next step fits h = by_kind step.kind h.kind
  where
    by_kind : (kind : Kind) → FitsKind kind → IsProtocol (header_of next (record step { kind = kind }))
    by_kind New k = record { opcode = h.opcode; exchange = fits; protocol = omega arith; vendor = tt; acknowledged = tt }
    by_kind (Ours exchange ack) k = record { opcode = h.opcode; exchange = k.0; protocol = omega arith; vendor = tt; acknowledged = k.1 }
    by_kind (Node exchange ack) k = record { opcode = h.opcode; exchange = k.0; protocol = omega arith; vendor = tt; acknowledged = k.1 }

next-fits : (next : ℕ) (kind : Kind) → next < 65536 → next_behind next kind < 65536
next-fits next New h = omega arith
next-fits next (Ours exchange ack) h = h
next-fits next (Node exchange ack) h = h

abbrev HasProtocol : Message → Type 0
HasProtocol message = IsProtocol message.header

pub messages_spelled : (next : ℕ) (steps : List Step) → next < 65536 → All IsSpelled steps → All (λ message. IsProtocol message.header) (messages_from next steps)
messages_spelled next [] fits h = All-nil HasProtocol
messages_spelled next (step ∷ steps) fits h =
    All-cons HasProtocol (record { header = header_of next step; payload = step.payload }) (messages_from (next_behind next step.kind) steps) (header-spelled next step fits (All-head IsSpelled step steps h))
    (messages_spelled (next_behind next step.kind) steps (next-fits next step.kind fits) (All-tail IsSpelled step steps h))

-- Their events.

abbrev with_zeros : ℕ → List ℕ → List ℕ
with_zeros zero bytes = bytes
with_zeros (suc n) bytes = 0 ∷ with_zeros n bytes

zeros-front : (n : ℕ) (bytes : List ℕ) → IsBytes bytes → IsBytes (with_zeros n bytes)
zeros-front zero bytes h = h
zeros-front (suc n) bytes h = bytes-cons 0 (with_zeros n bytes) (omega arith) (zeros-front n bytes h)

peer_bytes : IsBytes controller.ip
peer_bytes =
    zeros-front 10 (255 ∷ 255 ∷ 127 ∷ 0 ∷ 0 ∷ 1 ∷ []) (bytes-cons 255 (255 ∷ 127 ∷ 0 ∷ 0 ∷ 1 ∷ []) (omega arith) (bytes-cons 255 (127 ∷ 0 ∷ 0 ∷ 1 ∷ []) (omega arith)
    (bytes-cons 127 (0 ∷ 0 ∷ 1 ∷ []) (omega arith) (zeros-front 2 (1 ∷ []) (bytes-cons 1 [] (omega arith) bytes-nil)))))

controller_is_peer : IsPeer controller
controller_is_peer = record {
  long = refl;
  bytes = peer_bytes;
  port = omega arith;
}

pub events_spelled : (row : SessionRow) (counter next : ℕ) (steps : List Step) → IsBytes row.key_out → next < 65536 → All IsSpelled steps → All IsEvent (events_from row counter next steps)
events_spelled row counter next [] key fits h = All-nil IsEvent
events_spelled row counter next (step ∷ steps) key fits h =
    let first = All-head IsSpelled step steps h in
    All-cons IsEvent (event_of row counter next step) (events_from row (counter + 1) (next_behind next step.kind) steps)
    (first.ms, controller_is_peer, datagram-bytes row counter (header_of next step) step.payload key (header-spelled next step fits first) first.payload)
    (events_spelled row (counter + 1) (next_behind next step.kind) steps key (next-fits next step.kind fits) (All-tail IsSpelled step steps h))
