-- Why nothing is made of a text, as why what it comes to is not told; and what too many bytes come to.
use Rattle.std.proofs.Common.{◌≡◌, ◌≢◌, ◌<◌, ℕ, false, cond, List, [], length, Option, Result, Ok, Err, refl, sym, ap, subst, arith}
use Rattle.std.proofs.lemmas.Bool.{lt-ltb}
use Rattle.mt_ctl.specs.Script.{script_of, steps_behind_head}
use Rattle.mt_files.specs.Lines.{lines_of}
use Rattle.mt_files.specs.Output.{messages_from, output_of}
use Rattle.mt_model.specs.declared.limits.TheConstants.{RECORDING_BYTES}
use Rattle.mt_model.specs.declared.texts.config.SessionRow.{SessionRow}
use Rattle.mt_model.specs.declared.texts.line_fault.LineFault.TheVariants as lines
use Rattle.mt_outside.specs.Laws.{StreamLaws}
use Rattle.mt_endings.specs.declared.fault.Fault.{Fault}
use Rattle.mt_endings.specs.declared.fault.Fault.TheVariants.{BadWords, BadConfig, BadRecord, ReadFault, WriteFault, Memory, DiskFault, NotAJournal, TooLong, Differ, NoSession, Exhausted}
use Rattle.mt_endings.specs.Endings.{Played, nothing_but}
use Rattle.mt_endings.specs.Parts.{StopsPlaying, is_read_fault}
use Rattle.mt_asking.specs.Asked.{asked_by, shown_by}
use Rattle.mt_asking.specs.Made.{StopsMaking, told}
use Rattle.mt_asking.specs.declared.telling.Word.{Word}
use Rattle.mt_asking.specs.declared.telling.Word.TheVariants.{Ask, Show}

pub stops_playing : (streams : StreamLaws) (fault : Fault) (all : Played) (written : Option (List ℕ)) (faults : ℕ) → StopsMaking fault all → StopsPlaying fault all written written faults faults
stops_playing streams BadWords all written faults h = absurd h
stops_playing streams (BadConfig field) all written faults h = absurd h
stops_playing streams (BadRecord line kind) all written faults h = subst (λ (p : Played). StopsPlaying (BadRecord line kind) p written written faults faults) (sym h) (refl, streams.nothing written)
stops_playing streams ReadFault all written faults h = absurd h
stops_playing streams WriteFault all written faults h = absurd h
stops_playing streams Memory all written faults h = ([], all.lines, refl, streams.nothing written)
stops_playing streams DiskFault all written faults h = absurd h
stops_playing streams (NotAJournal place) all written faults h = absurd h
stops_playing streams TooLong all written faults h = subst (λ (p : Played). StopsPlaying TooLong p written written faults faults) (sym h) (refl, streams.nothing written)
stops_playing streams Differ all written faults h = absurd h
stops_playing streams NoSession all written faults h = absurd h
stops_playing streams (Exhausted line) all written faults h = subst (λ (p : Played). StopsPlaying (Exhausted line) p written written faults faults) (sym h) (refl, streams.nothing written)

-- Too many bytes are told before all else.

long_script : (bytes : List ℕ) → RECORDING_BYTES < length bytes → script_of bytes ≡ Err lines.TooLong
long_script bytes more = ap (λ t. cond t (Err lines.TooLong) (steps_behind_head (lines_of bytes))) (lt-ltb 16777216 (length bytes) (omega (arith, more)))

long_output : (bytes : List ℕ) → RECORDING_BYTES < length bytes → output_of bytes ≡ Err lines.TooLong
long_output bytes more = ap (λ t. cond t (Err lines.TooLong) (messages_from 1 0 (lines_of bytes))) (lt-ltb RECORDING_BYTES (length bytes) more)

pub long_text : (word : Word) (row : SessionRow) (bytes : List ℕ) → RECORDING_BYTES < length bytes → told word row bytes ≡ nothing_but TooLong
long_text Ask row bytes more = ap (asked_by row) (long_script bytes more)
long_text Show row bytes more = ap (shown_by row) (long_output bytes more)

-- What a call's fault says of its result.

no_read_fault : (fault : Fault) → is_read_fault fault ≡ false → fault ≢ ReadFault
no_read_fault fault quiet is = let h : is_read_fault ReadFault ≡ false = subst (λ f. is_read_fault f ≡ false) is quiet in absurd (cc)

pub not_read : {T : Type 0} (r : Result T Fault) (fault : Fault) → r ≡ Err fault → is_read_fault fault ≡ false → r ≢ Err ReadFault
not_read r fault is quiet same = no_read_fault fault quiet (cc)

pub is_no_fault : {T E : Type 0} {value : T} {fault : E} (r : Result T E) → r ≡ Ok value → r ≢ Err fault
is_no_fault r is same = absurd (cc)
