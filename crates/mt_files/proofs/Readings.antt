-- A text that is read line by line.
use Rattle.std.proofs.Common.{◌≡◌, ℕ, ◌+◌, List, [], ◌∷◌, ◌++◌, length, Result, Ok, Err, refl, sym, ap, subst, ◌∙◌, arith}
use Rattle.std.specs.Prelude.{IfErr, IsErrAnd}
use Rattle.mt_model.specs.declared.texts.recording.Event.{Event}
use Rattle.mt_model.specs.declared.texts.recording.Sent.{Sent}
use Rattle.mt_model.specs.declared.texts.line_fault.LineFault.{LineFault}
use Rattle.mt_files.specs.Lines.{lines_of}
use Rattle.mt_files.specs.Output as output
use Rattle.mt_files.specs.Recording.{events_from, line_told, time_at}
use Rattle.mt_files.specs.Told.{followed, onto}

-- items in front of what the rest tells
abbrev pub onto_all : {A : Type 0} → List A → Result (List A) LineFault → Result (List A) LineFault
onto_all [] told = told
onto_all (item ∷ items) told = onto item (onto_all items told)

onto_all-append : {A : Type 0} (xs : List A) (x : A) (told : Result (List A) LineFault) → onto_all (xs ++ x ∷ []) told ≡ onto_all xs (onto x told)
onto_all-append [] x told = refl
onto_all-append (y ∷ xs) x told = ap (onto y) (onto_all-append xs x told)

onto_all-fault : {A : Type 0} (xs : List A) (fault : LineFault) → onto_all xs (Err fault) ≡ Err fault
onto_all-fault [] fault = refl
onto_all-fault (x ∷ xs) fault = ap (onto x) (onto_all-fault xs fault)

onto_all-ends : {A : Type 0} (xs : List A) → onto_all xs (Ok []) ≡ Ok xs
onto_all-ends [] = refl
onto_all-ends (x ∷ xs) = ap (onto x) (onto_all-ends xs)

-- what a fault says, of the result that hands it on
pub handed_on : {A : Type 0} (P : LineFault → Type 0) (r : Result A LineFault) (fault : LineFault) → IsErrAnd r (λ e. e ≡ fault) → P fault → IfErr r P
handed_on P (Ok x) fault h p = tt
handed_on P (Err e) fault h p = subst P (sym h) p

-- a line and the rest, where both were read
pub record Followed (A : Type 0) (told : Result A LineFault) (rest : A → Result (List A) LineFault) (items : List A) : Type 0 where
  pub item : A
  pub others : List A
  pub first : told ≡ Ok item
  pub then : rest item ≡ Ok others
  pub all : items ≡ item ∷ others

pub followed-some : {A : Type 0} (told : Result A LineFault) (rest : A → Result (List A) LineFault) (items : List A) → followed told rest ≡ Ok items → Followed A told rest items
followed-some (Err fault) rest items h = absurd (cc)
followed-some {A} (Ok x) rest items h = by_rest (rest x) refl h
  where
    by_rest : (r : Result (List A) LineFault) → rest x ≡ r → onto x r ≡ Ok items → Followed A (Ok x) rest items
    by_rest (Err fault) is h = absurd (cc)
    by_rest (Ok others) is h = let same : x ∷ others ≡ items = cc in record { item = x; others = others; first = refl; then = is; all = sym same }

-- Recordings.

-- one more line
pub onto_all-line : (es : List Event) (e : Event) (number before : ℕ) (rest line behind : List ℕ) → lines_of rest ≡ line ∷ lines_of behind → line_told number before line ≡ Ok e
    → onto_all es (events_from number before (lines_of rest)) ≡ onto_all (es ++ e ∷ []) (events_from (number + 1) (time_at before e) (lines_of behind))
onto_all-line es e number before rest line behind lines told =
    ap (λ ls. onto_all es (events_from number before ls)) lines
    ∙ ap (λ r. onto_all es (followed r (λ event. events_from (number + 1) (time_at before event) (lines_of behind)))) told
    ∙ sym (onto_all-append es e (events_from (number + 1) (time_at before e) (lines_of behind)))

-- the line with the first fault
pub onto_all-stop : (es : List Event) (fault : LineFault) (number before : ℕ) (rest line behind : List ℕ) → lines_of rest ≡ line ∷ lines_of behind → line_told number before line ≡ Err fault
    → onto_all es (events_from number before (lines_of rest)) ≡ Err fault
onto_all-stop es fault number before rest line behind lines told =
    ap (λ ls. onto_all es (events_from number before ls)) lines
    ∙ ap (λ r. onto_all es (followed r (λ event. events_from (number + 1) (time_at before event) (lines_of behind)))) told
    ∙ onto_all-fault es fault

-- no line is left
pub onto_all-done : (es : List Event) (number before : ℕ) (rest : List ℕ) → length rest ≡ 0 → onto_all es (events_from number before (lines_of rest)) ≡ Ok es
onto_all-done es number before [] none = onto_all-ends es
onto_all-done es number before (b ∷ bytes) none = absurd (omega arith)

-- Outputs.

-- one more line
pub messages-line : (ms : List Sent) (m : Sent) (number before : ℕ) (rest line behind : List ℕ) → lines_of rest ≡ line ∷ lines_of behind → output.line_told number before line ≡ Ok m
    → onto_all ms (output.messages_from number before (lines_of rest)) ≡ onto_all (ms ++ m ∷ []) (output.messages_from (number + 1) m.ms (lines_of behind))
messages-line ms m number before rest line behind lines told =
    ap (λ ls. onto_all ms (output.messages_from number before ls)) lines
    ∙ ap (λ r. onto_all ms (followed r (λ message. output.messages_from (number + 1) message.ms (lines_of behind)))) told
    ∙ sym (onto_all-append ms m (output.messages_from (number + 1) m.ms (lines_of behind)))

-- the line with the first fault
pub messages-stop : (ms : List Sent) (fault : LineFault) (number before : ℕ) (rest line behind : List ℕ) → lines_of rest ≡ line ∷ lines_of behind → output.line_told number before line ≡ Err fault
    → onto_all ms (output.messages_from number before (lines_of rest)) ≡ Err fault
messages-stop ms fault number before rest line behind lines told =
    ap (λ ls. onto_all ms (output.messages_from number before ls)) lines
    ∙ ap (λ r. onto_all ms (followed r (λ message. output.messages_from (number + 1) message.ms (lines_of behind)))) told
    ∙ onto_all-fault ms fault

-- no line is left
pub messages-done : (ms : List Sent) (number before : ℕ) (rest : List ℕ) → length rest ≡ 0 → onto_all ms (output.messages_from number before (lines_of rest)) ≡ Ok ms
messages-done ms number before [] none = onto_all-ends ms
messages-done ms number before (b ∷ bytes) none = absurd (omega arith)
