-- A script that is read line by line.
use Rattle.std.proofs.Common.{◌≡◌, ℕ, suc, ◌+◌, ◌*◌, ◌≤◌, Bool, true, false, cond, eqb, leb, List, [], ◌∷◌, ◌++◌, length, Option, Some, None, Result, Ok, Err, refl, sym, ap, subst, ◌∙◌, arith}
use Rattle.std.specs.Prelude.{IfErr, IsErrAnd, codes}
use Rattle.std.specs.List.{onto_first}
use Rattle.std.proofs.lemmas.Bool.{leb-true}
use Rattle.std.proofs.lemmas.List.Elements.{All-append, All-cons, All-nil}
use Rattle.hex.specs.Hex.{decode_of}
use Rattle.hex.specs.declared.error.FromHexError.{FromHexError}
use Rattle.hex.proofs.HexLemmas.{decode_of-ok}
use Rattle.mt_model.specs.declared.texts.line_fault.LineFault.{LineFault}
use Rattle.mt_model.specs.declared.texts.line_fault.LineKind.{LineKind}
use Rattle.mt_files.specs.Event.{time_in}
use Rattle.mt_files.specs.Field.{at_least, number_of, ok_of, opcode_in, up_to}
use Rattle.mt_files.specs.Lines.{fields_of, lines_of, onto_line, parts_of, text_is}
use Rattle.mt_ctl.specs.declared.steps.Kind.{Kind}
use Rattle.mt_ctl.specs.declared.steps.Kind.TheVariants.{New}
use Rattle.mt_ctl.specs.declared.steps.Step.{Step}
use Rattle.mt_files.specs.Told.{followed, onto}
use Rattle.mt_ctl.specs.Script.{ack_in, exchange_in, line_step, line_told, node_in, node_of, ours_in, ours_of, request_in, sent_by, sent_in, step_payload_in, steps_from}
use Rattle.mt_ctl.specs.Steps.{AreShort}

-- steps in front of what the rest tells
abbrev pub onto_all : List Step → Result (List Step) LineFault → Result (List Step) LineFault
onto_all [] told = told
onto_all (step ∷ steps) told = onto step (onto_all steps told)

onto_all-append : (ss : List Step) (s : Step) (told : Result (List Step) LineFault) → onto_all (ss ++ s ∷ []) told ≡ onto_all ss (onto s told)
onto_all-append [] s told = refl
onto_all-append (x ∷ ss) s told = ap (onto x) (onto_all-append ss s told)

pub onto_all-fault : (ss : List Step) (fault : LineFault) → onto_all ss (Err fault) ≡ Err fault
onto_all-fault [] fault = refl
onto_all-fault (x ∷ ss) fault = ap (onto x) (onto_all-fault ss fault)

pub onto_all-ends : (ss : List Step) → onto_all ss (Ok []) ≡ Ok ss
onto_all-ends [] = refl
onto_all-ends (x ∷ ss) = ap (onto x) (onto_all-ends ss)

-- one more line
pub onto_all-line : (ss : List Step) (s : Step) (number before : ℕ) (rest line behind : List ℕ) → lines_of rest ≡ line ∷ lines_of behind → line_told number before line ≡ Ok s
    → onto_all ss (steps_from number before (lines_of rest)) ≡ onto_all (ss ++ s ∷ []) (steps_from (number + 1) s.ms (lines_of behind))
onto_all-line ss s number before rest line behind lines told =
    ap (λ ls. onto_all ss (steps_from number before ls)) lines
    ∙ ap (λ r. onto_all ss (followed r (λ step. steps_from (number + 1) step.ms (lines_of behind)))) told
    ∙ sym (onto_all-append ss s (steps_from (number + 1) s.ms (lines_of behind)))

-- the line with the first fault
pub onto_all-stop : (ss : List Step) (fault : LineFault) (number before : ℕ) (rest line behind : List ℕ) → lines_of rest ≡ line ∷ lines_of behind → line_told number before line ≡ Err fault
    → onto_all ss (steps_from number before (lines_of rest)) ≡ Err fault
onto_all-stop ss fault number before rest line behind lines told =
    ap (λ ls. onto_all ss (steps_from number before ls)) lines
    ∙ ap (λ r. onto_all ss (followed r (λ step. steps_from (number + 1) step.ms (lines_of behind)))) told
    ∙ onto_all-fault ss fault

-- no line is left
pub onto_all-done : (ss : List Step) (number before : ℕ) (rest : List ℕ) → length rest ≡ 0 → onto_all ss (steps_from number before (lines_of rest)) ≡ Ok ss
onto_all-done ss number before [] none = onto_all-ends ss
onto_all-done ss number before (b ∷ bytes) none = absurd (omega arith)

-- what a fault says, of the result that hands it on
pub handed_on : {A : Type 0} (P : LineFault → Type 0) (r : Result A LineFault) (fault : LineFault) → IsErrAnd r (λ e. e ≡ fault) → P fault → IfErr r P
handed_on P (Ok x) fault h p = tt
handed_on P (Err e) fault h p = subst P (sym h) p

-- What a line sends is within the ranges.

abbrev IsShort : Step → Type 0
IsShort step = length step.payload ≤ 1198

-- a step whose payload in hex takes at most so many bytes
abbrev pub IsFormed : ℕ → Step → Type 0
IsFormed most step = (step.ms ≤ 281474976710655) × IsShort step × (2 * length step.payload ≤ most)

wider : (few most : ℕ) (s : Step) → few ≤ most → IsFormed few s → IsFormed most s
wider few most s le h = (h.0, h.1, let light = h.2 in omega arith)

-- how many bytes there are in all
abbrev pub total : List (List ℕ) → ℕ
total [] = 0
total (x ∷ xs) = length x + total xs

total-parts : (sep : ℕ) (text : List ℕ) → total (parts_of sep text) ≤ length text
total-parts sep [] = omega arith
total-parts sep (b ∷ text) = by_case (eqb b sep) (total-parts sep text)
  where
    onto_part : (parts : List (List ℕ)) → total parts ≤ length text → total (onto_first b parts) ≤ suc (length text)
    onto_part [] le = omega arith
    onto_part (part ∷ parts) le = omega arith

    by_case : (t : Bool) → total (parts_of sep text) ≤ length text → total (cond t ([] ∷ parts_of sep text) (onto_first b (parts_of sep text))) ≤ suc (length text)
    by_case true le = omega arith
    by_case false le = onto_part (parts_of sep text) le

pub total-lines : (text : List ℕ) → total (lines_of text) ≤ length text
total-lines [] = omega arith
total-lines (b ∷ text) = by_case (eqb b 10) (total-lines text)
  where
    onto_one : (lines : List (List ℕ)) → total lines ≤ length text → total (onto_line b lines) ≤ suc (length text)
    onto_one [] le = omega arith
    onto_one (line ∷ lines) le = omega arith

    by_case : (t : Bool) → total (lines_of text) ≤ length text → total (cond t ([] ∷ lines_of text) (onto_line b (lines_of text))) ≤ suc (length text)
    by_case true le = omega arith
    by_case false le = onto_one (lines_of text) le

abbrev sends : Step → Result Step LineKind
sends step = Ok step

some-same : {A : Type 0} (x y : A) → Some x ≡ Some y → x ≡ y
some-same x y h = cc

abbrev Fits : List ℕ → List ℕ → Type 0
Fits text bytes = (length bytes ≤ 1198) × (2 * length bytes ≤ length text)

payload-size : (text bytes : List ℕ) → step_payload_in text ≡ Some bytes → Fits text bytes
payload-size text bytes h = first (eqb (length text) 0) h
  where
    decoded : (r : Result (List ℕ) FromHexError) → ok_of r ≡ Some bytes → r ≡ Ok bytes
    decoded (Ok found) e = ap Ok (some-same found bytes e)
    decoded (Err fault) e = absurd (cc)

    third : (t : Bool) → leb (length text) (2 * 1198) ≡ t → cond t (ok_of (decode_of text)) None ≡ Some bytes → Fits text bytes
    third true le e =
        let ok = decode_of-ok text bytes (decoded (decode_of text) e) in
        let fits = leb-true (length text) (2 * 1198) le in
        (omega (arith, ok.2, fits), omega (arith, ok.2))
    third false le e = absurd (cc)

    second : (t : Bool) → cond t (Some []) (cond (leb (length text) (2 * 1198)) (ok_of (decode_of text)) None) ≡ Some bytes → Fits text bytes
    second true e = subst (Fits text) (some-same [] bytes e) (omega arith, omega arith)
    second false e = third (leb (length text) (2 * 1198)) refl e

    first : (t : Bool) → cond t None (cond (text_is text (codes "-")) (Some []) (cond (leb (length text) (2 * 1198)) (ok_of (decode_of text)) None)) ≡ Some bytes → Fits text bytes
    first true e = absurd (cc)
    first false e = second (text_is text (codes "-")) e

some-if : (t : Bool) (k n : ℕ) → cond t (Some k) None ≡ Some n → (t ≡ true) × (k ≡ n)
some-if true k n h = (refl, some-same k n h)
some-if false k n h = absurd (cc)

up_to-some : (most : ℕ) (found : Option ℕ) (n : ℕ) → up_to most found ≡ Some n → n ≤ most
up_to-some most None n h = absurd (cc)
up_to-some most (Some k) n h = let p = some-if (leb k most) k n h in subst (λ m. m ≤ most) p.1 (leb-true k most p.0)

at_least-some : (least : ℕ) (found : Option ℕ) (n : ℕ) → at_least least found ≡ Some n → found ≡ Some n
at_least-some least None n h = absurd (cc)
at_least-some least (Some k) n h = let p = some-if (leb least k) k n h in ap Some p.1

time-most : (text : List ℕ) (n : ℕ) → time_in text ≡ Some n → n ≤ 281474976710655
time-most text n h = up_to-some 281474976710655 (number_of text) n (at_least-some 0 (up_to 281474976710655 (number_of text)) n h)

sent_by-form : (most : ℕ) (ms : Option ℕ) (kind : Option Kind) (opcode : Option ℕ) (payload : Option (List ℕ)) (s : Step)
    → ((n : ℕ) → ms ≡ Some n → n ≤ 281474976710655) → ((bytes : List ℕ) → payload ≡ Some bytes → (length bytes ≤ 1198) × (2 * length bytes ≤ most))
    → sent_by ms kind opcode payload ≡ sends s → IsFormed most s
sent_by-form most (Some ms) (Some kind) (Some opcode) (Some payload) s time size h =
    let step : Step = record { ms = ms; kind = kind; opcode = opcode; payload = payload } in
    let same : step ≡ s = cc in
    let fits = size payload refl in
    subst (IsFormed most) same (time ms refl, fits.0, fits.1)
sent_by-form most None kind opcode payload s time size h = absurd (cc)
sent_by-form most (Some ms) None opcode payload s time size h = absurd (cc)
sent_by-form most (Some ms) (Some kind) None payload s time size h = absurd (cc)
sent_by-form most (Some ms) (Some kind) (Some opcode) None s time size h = absurd (cc)

request-form : (fields : List (List ℕ)) (s : Step) → request_in fields ≡ sends s → IsFormed (total fields) s
request-form (ms ∷ opcode ∷ payload ∷ []) s h =
    sent_by-form (total (ms ∷ opcode ∷ payload ∷ [])) (time_in ms) (Some New) (opcode_in opcode) (step_payload_in payload) s (time-most ms)
    (λ bytes is. let fits = payload-size payload bytes is in let light = fits.1 in (fits.0, omega arith)) h
request-form fields s h = absurd (cc)

ours-form : (fields : List (List ℕ)) (s : Step) → ours_in fields ≡ sends s → IsFormed (total fields) s
ours-form (ms ∷ exchange ∷ ack ∷ opcode ∷ payload ∷ []) s h =
    sent_by-form (total (ms ∷ exchange ∷ ack ∷ opcode ∷ payload ∷ [])) (time_in ms) (ours_of (exchange_in exchange) (ack_in ack)) (opcode_in opcode) (step_payload_in payload) s (time-most ms)
    (λ bytes is. let fits = payload-size payload bytes is in let light = fits.1 in (fits.0, omega arith)) h
ours-form fields s h = absurd (cc)

node-form : (fields : List (List ℕ)) (s : Step) → node_in fields ≡ sends s → IsFormed (total fields) s
node-form (ms ∷ exchange ∷ ack ∷ opcode ∷ payload ∷ []) s h =
    sent_by-form (total (ms ∷ exchange ∷ ack ∷ opcode ∷ payload ∷ [])) (time_in ms) (node_of (exchange_in exchange) (ack_in ack)) (opcode_in opcode) (step_payload_in payload) s (time-most ms)
    (λ bytes is. let fits = payload-size payload bytes is in let light = fits.1 in (fits.0, omega arith)) h
node-form fields s h = absurd (cc)

either : (most : ℕ) (t : Bool) (a b : Result Step LineKind) (s : Step) → (a ≡ sends s → IsFormed most s) → (b ≡ sends s → IsFormed most s)
    → cond t a b ≡ sends s → IsFormed most s
either most true a b s p q h = p h
either most false a b s p q h = q h

sent_in-form : (fields : List (List ℕ)) (s : Step) → sent_in fields ≡ sends s → IsFormed (total fields) s
sent_in-form [] s h = absurd (cc)
sent_in-form (letter ∷ fields) s h =
    let most : ℕ = length letter + total fields in
    let wide : IsFormed (total fields) s → IsFormed most s = wider (total fields) most s (omega arith) in
    either most (text_is letter (codes "Q")) _ _ s (λ e. wide (request-form fields s e))
    (either most (text_is letter (codes "F")) _ _ s (λ e. wide (ours-form fields s e))
    (either most (text_is letter (codes "G")) _ _ s (λ e. wide (node-form fields s e)) (λ h. absurd (cc)))) h

pub line_step-form : (line : List ℕ) (s : Step) → line_step line ≡ Ok s → IsFormed (length line) s
line_step-form line s h =
    wider (total (fields_of line)) (length line) s (total-parts 32 line) (sent_in-form (fields_of line) s h)

-- one more step
pub short_more : (ss : List Step) (s : Step) → AreShort ss → length s.payload ≤ 1198 → AreShort (ss ++ s ∷ [])
short_more ss s are is = All-append IsShort ss (s ∷ []) are (All-cons IsShort s [] is (All-nil IsShort))
