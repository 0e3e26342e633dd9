-- From what stopped a run, and how that was told, to the row of its status.
use Rattle.std.proofs.Common.{◌≡◌, ◌≢◌, true, false, cond, Bool, ℕ, zero, suc, ◌<◌, List, [], ◌∷◌, ◌++◌, length, Option, Some, None, Result, Ok, Err, ◌⊎◌, inl, inr, refl, sym, ap, subst, ◌∙◌, arith}
use Rattle.std.specs.Prelude.{IfSome}
use Rattle.std.proofs.lemmas.Bool.{lt-ltb}
use Rattle.std.proofs.lemmas.List.{append-nil}
use Rattle.mt_outside.specs.Laws.{StreamLaws}
use Rattle.mt_outside.specs.Stream.{ReadToEnd, RoseByOne, Took, TookLess}
use Rattle.mt_model.specs.declared.limits.TheConstants.{CONFIGURATION_BYTES, RECORDING_BYTES}
use Rattle.mt_model.specs.declared.texts.recording.Event.{Event}
use Rattle.mt_config.specs.Configuration.{configuration}
use Rattle.mt_files.specs.Recording.{events_behind_head, recording_of}
use Rattle.mt_files.specs.Lines.{lines_of, text_of}
use Rattle.mt_model.specs.texts.Contents.{Contents}
use Rattle.mt_config.specs.declared.configuration.ConfigField.{ConfigField}
use Rattle.mt_config.specs.declared.configuration.ConfigField.TheVariants.{Size}
use Rattle.mt_model.specs.declared.texts.line_fault.LineFault.{LineFault}
use Rattle.mt_model.specs.declared.texts.line_fault.LineFault.TheVariants as lines
use Rattle.mt_endings.specs.declared.fault.Fault.{Fault}
use Rattle.mt_endings.specs.declared.fault.Fault.TheVariants.{BadWords, BadConfig, BadRecord, ReadFault, WriteFault, Memory, DiskFault, NotAJournal, TooLong, Differ, NoSession, Exhausted}
use Rattle.mt_endings.specs.Faults.{fault_line, fault_of, status_of}
use Rattle.mt_endings.specs.Endings.{Ending, Played, Recordings, all_text, configured, exit_status, in_hand_of, last_line, nothing_but, of_files, of_none, of_recording, of_recordings, of_text, recorded, recorded_both, recorded_second, with_recording, without_recording}
use Rattle.mt_endings.specs.Moments.{Input, in_hand, Moment, moment, AreCalm, AreSourcesCalm, HasSinkFailed, IsLeft, IsSinkCalm, HasRead, to_end, too_many, HasReadIf, Reads}
use Rattle.mt_endings.specs.Parts.{Done, Finishes, IsTold, PlayedTo, Recorded, Stops, StopsCalmly, StopsConfiguring, StopsPlaying, StopsReading, StopsRecording, TellsThere, TookFirst, is_memory, is_read_fault, is_write_fault, no_memory, no_sink, part_of_line, told_line, wants_no_memory, whole_line}
use Rattle.mt_endings.specs.Run.{Ends}
use Rattle.mt_endings.specs.Statuses.{Told, HadNoMemory, NoMemory, SourceFailed, config_failed, first_failed, second_failed, Cut, text_cut, read_fault_cut, ReadsNothing, CouldNotWrite, is_told, is_status, TellsMemory}

-- What a source may have held.

abbrev left_in : Option (List ℕ) → List ℕ
left_in None = []
left_in (Some left) = left

IsLeft-left_in : (left : Option (List ℕ)) → IsLeft left (left_in left)
IsLeft-left_in None = tt
IsLeft-left_in (Some left) = refl

IsLeft-read : (left after : Option (List ℕ)) (bytes : List ℕ) → ReadToEnd left after bytes → IsLeft left bytes
IsLeft-read None after bytes h = tt
IsLeft-read (Some left) after bytes h = h.0

IsLeft-HasRead : (most : ℕ) (old new : Input) (bytes : List ℕ) → HasRead most old new bytes → IsLeft old.left bytes
IsLeft-HasRead most old new bytes (to_end read within) = IsLeft-read old.left new.left bytes read
IsLeft-HasRead most old new bytes (too_many left more) = left

-- the recordings that two sources may have held
abbrev left_in_both : Input → Input → Recordings
left_in_both first second = record { first = left_in first.left; second = left_in second.left }

longer_than : (most : ℕ) → (bytes : List ℕ) × (most < length bytes)
longer_than zero = (0 ∷ [], omega arith)
longer_than (suc most) = let r = longer_than most in (0 ∷ r.0, omega (arith, r.1))

-- the bytes of a source that has too many
pub too_many_left : (most : ℕ) (left : Option (List ℕ)) → IfSome left (λ bytes. most < length bytes) → (bytes : List ℕ) × IsLeft left bytes × (most < length bytes)
too_many_left most None h = let r = longer_than most in (r.0, tt, r.1)
too_many_left most (Some left) h = (left, refl, h)

-- Too many bytes are told before all else.

pub recording_too_long : (bytes : List ℕ) → RECORDING_BYTES < length bytes → recording_of bytes ≡ Err lines.TooLong
recording_too_long bytes more = ap (λ t. cond t (Err lines.TooLong) (events_behind_head (lines_of bytes))) (lt-ltb RECORDING_BYTES (length bytes) more)

pub configuration_too_long : (bytes : List ℕ) → CONFIGURATION_BYTES < length bytes → configuration bytes ≡ Err Size
unfolding configuration
configuration_too_long bytes more = rw lt-ltb refl

-- Why a recording is not played.

pub unread_too_long : (old new : Input) → IfSome old.left (λ bytes. RECORDING_BYTES < length bytes) → StopsReading TooLong old new
unread_too_long old new more =
    let l = too_many_left RECORDING_BYTES old.left more in
    (l.0, too_many l.1 l.2, l.2)

-- a text that is not read is no recording
pub unread_recording : (fault : Fault) (old new : Input) → StopsReading fault old new → StopsRecording fault old new
unread_recording BadWords old new h = absurd h
unread_recording (BadConfig field) old new h = absurd h
unread_recording (BadRecord line kind) old new h = absurd h
unread_recording ReadFault old new h = h
unread_recording WriteFault old new h = absurd h
unread_recording Memory old new h = tt
unread_recording DiskFault old new h = absurd h
unread_recording (NotAJournal place) old new h = absurd h
unread_recording TooLong old new h = (lines.TooLong, refl, (h.0, h.1, recording_too_long h.0 h.2))
unread_recording Differ old new h = absurd h
unread_recording NoSession old new h = absurd h
unread_recording (Exhausted line) old new h = absurd h

pub recorded_badly : (fault : LineFault) (old new : Input) (bytes : List ℕ) → HasRead RECORDING_BYTES old new bytes → (fault ≡ lines.Memory) ⊎ (recording_of bytes ≡ Err fault) → StopsRecording (fault_of fault) old new
recorded_badly (lines.Line line kind) old new bytes read (inl e) = absurd (cc)
recorded_badly (lines.Line line kind) old new bytes read (inr e) = (lines.Line line kind, refl, (bytes, read, e))
recorded_badly lines.TooLong old new bytes read (inl e) = absurd (cc)
recorded_badly lines.TooLong old new bytes read (inr e) = (lines.TooLong, refl, (bytes, read, e))
recorded_badly lines.Memory old new bytes read why = tt

-- no file was read for a configuration in hand
hand_read : HasRead CONFIGURATION_BYTES in_hand in_hand []
hand_read = to_end (refl, refl) (omega arith)

-- What the recordings of a run come to that has a configuration in hand.

abbrev with_reads : Bool → Bool → Played → Ending
with_reads first second all = record { lines = all.lines; fault = all.fault; reads_first = first; reads_second = second }

-- Each was read, or was not touched, as that says, and they come to this.
record ComesTo (comes : Recordings → Ending) (first_old first_new second_old second_new : Input) (first second : Bool) (all : Played) : Type 0 where
  recordings : Recordings
  is : comes recordings ≡ with_reads first second all
  first_read : HasReadIf first first_old first_new recordings.first
  second_read : HasReadIf second second_old second_new recordings.second

-- no bytes were written
pub took_nothing : (written : Option (List ℕ)) → Took written written []
took_nothing None = tt
took_nothing (Some bytes) = ap Some (sym (append-nil bytes))

-- Each row of the table of statuses, as the end of a run.

not_told_as : (status other : ℕ) → is_told status ≡ true → is_told other ≡ false → status ≡ other → ⊥
not_told_as status other told not is = let h : is_told other ≡ true = subst (λ n. is_told n ≡ true) is told in absurd (cc)

ends_told : (status : ℕ) (ending : List ℕ → Recordings → Ending) (old new : Moment) → is_told status ≡ true → is_status status ≡ true → Told status ending old new → Ends status (Some ending) old new
ends_told status ending old new one known h = record {
  known = known;
  told = λ e. h;
  bad_words = λ e. absurd (not_told_as status 2 one refl e);
  read_fault = λ e. absurd (not_told_as status 5 one refl e);
  write_fault = λ e. absurd (not_told_as status 6 one refl e);
  memory = λ e. absurd (not_told_as status 7 one refl e);
}

ends_bad_words : (asked : Option (List ℕ → Recordings → Ending)) (old new : Moment) → asked ≡ None → ReadsNothing old new → IsSinkCalm old new → Took old.written new.written (fault_line BadWords) → Ends 2 asked old new
ends_bad_words asked old new none reads calm h = record {
  known = refl;
  told = λ e. absurd (cc);
  bad_words = λ e. (none, reads, calm, h);
  read_fault = λ e. absurd (omega arith);
  write_fault = λ e. absurd (omega arith);
  memory = λ e. absurd (omega arith);
}

ends_read_fault : (ending : List ℕ → Recordings → Ending) (old new : Moment) → SourceFailed ending old new → IsSinkCalm old new → Took old.written new.written (fault_line ReadFault) → Ends 5 (Some ending) old new
ends_read_fault ending old new failed calm h = record {
  known = refl;
  told = λ e. absurd (cc);
  bad_words = λ e. absurd (omega arith);
  read_fault = λ e. (failed, calm, h);
  write_fault = λ e. absurd (omega arith);
  memory = λ e. absurd (omega arith);
}

ends_write_fault : (asked : Option (List ℕ → Recordings → Ending)) (old new : Moment) → HasSinkFailed old new → CouldNotWrite asked old new → Ends 6 asked old new
ends_write_fault asked old new rose h = record {
  known = refl;
  told = λ e. absurd (cc);
  bad_words = λ e. absurd (omega arith);
  read_fault = λ e. absurd (omega arith);
  write_fault = λ e. (rose, h);
  memory = λ e. absurd (omega arith);
}

ends_memory : (asked : Option (List ℕ → Recordings → Ending)) (old new : Moment) → HadNoMemory asked old new → Ends 7 asked old new
ends_memory asked old new h = record {
  known = refl;
  told = λ e. absurd (cc);
  bad_words = λ e. absurd (omega arith);
  read_fault = λ e. absurd (omega arith);
  write_fault = λ e. absurd (omega arith);
  memory = λ e. h;
}

-- all was written, and no fault is told
pub ends_done : (ending : List ℕ → Recordings → Ending) (old new : Moment) → Done ending old new → Ends 0 (Some ending) old new
ends_done ending old new h = ends_told 0 ending old new refl refl (record {
  config = h.0;
  recordings = h.1;
  reads = h.2;
  is = sym (ap exit_status h.3);
  calm = h.4;
  written = subst (λ o. Took old.written new.written (text_of (ending h.0 h.1).lines ++ last_line o)) (sym h.3) (rw append-nil h.5);
})

is_no_write_fault : (fault : Fault) → is_write_fault fault ≡ false → fault ≢ WriteFault
is_no_write_fault fault quiet is = let h : is_write_fault WriteFault ≡ false = subst (λ f. is_write_fault f ≡ false) is quiet in absurd (cc)

wants_memory : (fault : Fault) → wants_no_memory fault ≡ false → fault ≢ WriteFault
wants_memory fault wants is = let h : wants_no_memory WriteFault ≡ false = subst (λ f. wants_no_memory f ≡ false) is wants in absurd (cc)

-- What stops configuring, recording and playing is no disk that failed.

no_disk_in_configuring : (fault : Fault) (old now : Input) → StopsConfiguring fault old now → fault ≢ DiskFault
no_disk_in_configuring fault old now h is = subst (λ (f : Fault). StopsConfiguring f old now) is h

no_refusal : (refused : LineFault) → fault_of refused ≢ DiskFault
no_refusal (lines.Line line kind) is = cc
no_refusal lines.TooLong is = cc
no_refusal lines.Memory is = cc

no_disk_in_recording : (fault : Fault) (old now : Input) → StopsRecording fault old now → fault ≢ DiskFault
no_disk_in_recording fault old now h is =
    let refused = subst (λ (f : Fault). StopsRecording f old now) is h in
    no_refusal refused.0 (sym refused.1)

no_disk_in_reading : (fault : Fault) (old now : Input) → StopsReading fault old now → fault ≢ DiskFault
no_disk_in_reading fault old now h is = subst (λ (f : Fault). StopsReading f old now) is h

no_disk_in_playing : (fault : Fault) (all : Played) (before after : Option (List ℕ)) (old now : ℕ) → StopsPlaying fault all before after old now → fault ≢ DiskFault
no_disk_in_playing fault all before after old now h is = subst (λ (f : Fault). StopsPlaying f all before after old now) is h

-- By the laws on what is written.
module _ (laws : StreamLaws) where
  -- nothing was written before the line
  nothing_before : (a b c : Option (List ℕ)) (line : List ℕ) → Took a b [] → Took b c line → Took a c line
  nothing_before a b c line p q = laws.then a b c [] line p q

  nothing_part : (a b c : Option (List ℕ)) (line : List ℕ) → Took a b [] → TookLess b c line → TookLess a c line
  nothing_part a b c line p q = laws.then_less a b c [] line p q

  -- the messages that were written before a run stopped
  record Front (ending : List ℕ → Recordings → Ending) (old : Moment) (mid : Option (List ℕ)) : Type 0 where
    config : List ℕ
    recordings : Recordings
    config_left : IsLeft old.config.left config
    first_left : IsLeft old.first.left recordings.first
    second_left : IsLeft old.second.left recordings.second
    told : TookFirst old.written mid (ending config recordings).lines

  nothing_yet : (ending : List ℕ → Recordings → Ending) (old : Moment) (mid : Option (List ℕ)) → Took old.written mid [] → Front ending old mid
  nothing_yet ending old mid h = record {
    config = left_in old.config.left;
    recordings = left_in_both old.first old.second;
    config_left = IsLeft-left_in old.config.left;
    first_left = IsLeft-left_in old.first.left;
    second_left = IsLeft-left_in old.second.left;
    told = ([], (ending (left_in old.config.left) (left_in_both old.first old.second)).lines, refl, h);
  }

  -- the messages that were written, and the last line
  both_parts : (ending : List ℕ → Recordings → Ending) (old mid : Moment) (after : Option (List ℕ)) (faults : ℕ) → Front ending old mid.written → AreCalm old mid → TellsThere mid.written after mid.write_faults faults
      → NoMemory ending old (moment mid.config mid.first mid.second after faults)
  both_parts ending old mid after faults f calm q = record {
    config = f.config;
    recordings = f.recordings;
    config_left = f.config_left;
    first_left = f.first_left;
    second_left = f.second_left;
    calm = record { config = calm.sources.config; first = calm.sources.first; second = calm.sources.second };
    told = f.told.0;
    others = f.told.1;
    front = f.told.2;
    last = q.0;
    tells = subst (λ (before : ℕ). TellsMemory q.0 before faults) calm.sink q.1;
    written = laws.then old.written mid.written after (text_of f.told.0) q.0 f.told.3 q.2;
  }

  -- neither a source nor the sink is the cause
  calm_of : (fault : Fault) (old mid : Moment) → wants_no_memory fault ≡ false → StopsCalmly fault old mid → AreCalm old mid
  calm_of BadWords old mid wants h = h
  calm_of (BadConfig field) old mid wants h = h
  calm_of (BadRecord line kind) old mid wants h = h
  calm_of ReadFault old mid wants h = absurd (cc)
  calm_of WriteFault old mid wants h = absurd (cc)
  calm_of Memory old mid wants h = h
  calm_of DiskFault old mid wants h = absurd (cc)
  calm_of (NotAJournal place) old mid wants h = h
  calm_of TooLong old mid wants h = h
  calm_of Differ old mid wants h = h
  calm_of NoSession old mid wants h = h
  calm_of (Exhausted line) old mid wants h = h

  sink_of : (fault : Fault) (old mid : Moment) → fault ≢ WriteFault → StopsCalmly fault old mid → IsSinkCalm old mid
  sink_of BadWords old mid not h = h.sink
  sink_of (BadConfig field) old mid not h = h.sink
  sink_of (BadRecord line kind) old mid not h = h.sink
  sink_of ReadFault old mid not h = h
  sink_of WriteFault old mid not h = absurd (not refl)
  sink_of Memory old mid not h = h.sink
  sink_of DiskFault old mid not h = h.sink
  sink_of (NotAJournal place) old mid not h = h.sink
  sink_of TooLong old mid not h = h.sink
  sink_of Differ old mid not h = h.sink
  sink_of NoSession old mid not h = h.sink
  sink_of (Exhausted line) old mid not h = h.sink

  pub stops_calmly : (fault : Fault) (old mid : Moment) → (is_read_fault fault ≡ false → AreSourcesCalm old mid) → (is_write_fault fault ≡ false → IsSinkCalm old mid) → StopsCalmly fault old mid
  stops_calmly BadWords old mid sources sink = record { sources = sources refl; sink = sink refl }
  stops_calmly (BadConfig field) old mid sources sink = record { sources = sources refl; sink = sink refl }
  stops_calmly (BadRecord line kind) old mid sources sink = record { sources = sources refl; sink = sink refl }
  stops_calmly ReadFault old mid sources sink = sink refl
  stops_calmly WriteFault old mid sources sink = sources refl
  stops_calmly Memory old mid sources sink = record { sources = sources refl; sink = sink refl }
  stops_calmly DiskFault old mid sources sink = record { sources = sources refl; sink = sink refl }
  stops_calmly (NotAJournal place) old mid sources sink = record { sources = sources refl; sink = sink refl }
  stops_calmly TooLong old mid sources sink = record { sources = sources refl; sink = sink refl }
  stops_calmly Differ old mid sources sink = record { sources = sources refl; sink = sink refl }
  stops_calmly NoSession old mid sources sink = record { sources = sources refl; sink = sink refl }
  stops_calmly (Exhausted line) old mid sources sink = record { sources = sources refl; sink = sink refl }

  -- the files were read, and all is written but the last line
  record Stopped (fault : Fault) (ending : List ℕ → Recordings → Ending) (old mid : Moment) : Type 0 where
    config : List ℕ
    recordings : Recordings
    reads : Reads ending old mid config recordings
    is : (ending config recordings).fault ≡ Some fault
    took : Took old.written mid.written (text_of (ending config recordings).lines)

  stopped_badly : (field : ConfigField) (ending : List ℕ → Recordings → Ending) (old mid : Moment) → Stops (BadConfig field) ending old mid → Stopped (BadConfig field) ending old mid
  stopped_badly field ending old mid h =
      let recordings = left_in_both old.first old.second in
      let ends : ending h.0 recordings ≡ without_recording (nothing_but (BadConfig field)) = h.2 recordings in record {
        config = h.0;
        recordings = recordings;
        reads = record {
          config_read = h.1;
          first_read = subst (λ (e : Ending). HasReadIf e.reads_first old.first mid.first recordings.first) (sym ends) (h.3, IsLeft-left_in old.first.left);
          second_read = subst (λ (e : Ending). HasReadIf e.reads_second old.second mid.second recordings.second) (sym ends) (h.4, IsLeft-left_in old.second.left);
        };
        is = ap (λ (e : Ending). e.fault) ends;
        took = subst (λ (e : Ending). Took old.written mid.written (text_of e.lines)) (sym ends) h.5;
      }

  -- the recording is what its source had left, read or not
  was_left : (reads : Bool) (old new : Input) (recording : List ℕ) → HasReadIf reads old new recording → IsLeft old.left recording
  was_left true old new recording h = IsLeft-HasRead RECORDING_BYTES old new recording h
  was_left false old new recording h = h.1

  front_of : (fault : Fault) (ending : List ℕ → Recordings → Ending) (old mid : Moment) → Stopped fault ending old mid → Front ending old mid.written
  front_of fault ending old mid h = record {
    config = h.config;
    recordings = h.recordings;
    config_left = IsLeft-HasRead CONFIGURATION_BYTES old.config mid.config h.config h.reads.config_read;
    first_left = was_left (ending h.config h.recordings).reads_first old.first mid.first h.recordings.first h.reads.first_read;
    second_left = was_left (ending h.config h.recordings).reads_second old.second mid.second h.recordings.second h.reads.second_read;
    told = ((ending h.config h.recordings).lines, [], sym (append-nil (ending h.config h.recordings).lines), h.took);
  }

  module _ (ending : List ℕ → Recordings → Ending) (old mid : Moment) (after : Option (List ℕ)) (faults : ℕ) where
    abbrev new : Moment
    new = moment mid.config mid.first mid.second after faults

    reads_now : (config : List ℕ) (recordings : Recordings) → Reads ending old mid config recordings → Reads ending old new config recordings
    reads_now config recordings h = record { config_read = h.config_read; first_read = h.first_read; second_read = h.second_read }

    failed_now : SourceFailed ending old mid → SourceFailed ending old new
    failed_now (config_failed rose kept kept_too) = config_failed rose kept kept_too
    failed_now (first_failed config read calm taken rose kept) = first_failed config read calm taken rose kept
    failed_now (second_failed config first read calm first_read first_calm taken rose) = second_failed config first read calm first_read first_calm taken rose

    sources_now : AreSourcesCalm old mid → AreSourcesCalm old new
    sources_now h = record { config = h.config; first = h.first; second = h.second }

    -- the fault line was written
    stopped_told : (fault : Fault) → is_told (status_of fault) ≡ true → is_status (status_of fault) ≡ true → Stopped fault ending old mid → AreCalm old mid → faults ≡ mid.write_faults → Took mid.written after (fault_line fault) → Ends (status_of fault) (Some ending) old new
    stopped_told fault one known h calm same t = ends_told (status_of fault) ending old new one known (record {
      config = h.config;
      recordings = h.recordings;
      reads = reads_now h.config h.recordings h.reads;
      is = sym (ap exit_status h.is);
      calm = record { sources = sources_now calm.sources; sink = same ∙ calm.sink };
      written = subst (λ o. Took old.written after (text_of (ending h.config h.recordings).lines ++ last_line o)) (sym h.is) (laws.then old.written mid.written after (text_of (ending h.config h.recordings).lines) (fault_line fault) h.took t);
    })

    stopped_by : (fault : Fault) → (config : List ℕ) × (recordings : Recordings) × Reads ending old mid config recordings × ((ending config recordings).fault ≡ Some fault) × Took old.written mid.written (text_of (ending config recordings).lines) → Stopped fault ending old mid
    stopped_by fault h = record { config = h.0; recordings = h.1; reads = h.2; is = h.3; took = h.4 }

    -- the sink failed at the fault line
    stopped_cut : (fault : Fault) → Stopped fault ending old mid → AreCalm old mid → TookLess mid.written after (fault_line fault) → Cut ending old new
    stopped_cut fault h calm t = text_cut h.config h.recordings (reads_now h.config h.recordings h.reads) (sources_now calm.sources) (subst (λ o. TookLess old.written after (text_of (ending h.config h.recordings).lines ++ last_line o)) (sym h.is) (laws.then_less old.written mid.written after (text_of (ending h.config h.recordings).lines) (fault_line fault) h.took t))

    fronts : (fault : Fault) → fault ≢ WriteFault → Stops fault ending old mid → Front ending old mid.written
    fronts BadWords not h = absurd h
    fronts (BadConfig field) not h = nothing_yet ending old mid.written h.5
    fronts (BadRecord line kind) not h = front_of (BadRecord line kind) ending old mid (stopped_by (BadRecord line kind) h)
    fronts ReadFault not h = nothing_yet ending old mid.written h.1
    fronts WriteFault not h = absurd (not refl)
    fronts Memory not h = record { config = h.0; recordings = h.1; config_left = h.2; first_left = h.3; second_left = h.4; told = h.5 }
    fronts DiskFault not h = front_of DiskFault ending old mid (stopped_by DiskFault h)
    fronts (NotAJournal place) not h = front_of (NotAJournal place) ending old mid (stopped_by (NotAJournal place) h)
    fronts TooLong not h = front_of TooLong ending old mid (stopped_by TooLong h)
    fronts Differ not h = front_of Differ ending old mid (stopped_by Differ h)
    fronts NoSession not h = front_of NoSession ending old mid (stopped_by NoSession h)
    fronts (Exhausted line) not h = front_of (Exhausted line) ending old mid (stopped_by (Exhausted line) h)

    row_told : (fault : Fault) → fault ≢ WriteFault → fault ≢ DiskFault → is_memory fault ≡ false → Stops fault ending old mid → StopsCalmly fault old mid → faults ≡ mid.write_faults → Took mid.written after (fault_line fault) → Ends (status_of fault) (Some ending) old new
    row_told BadWords not kept other h calm same t = absurd h
    row_told (BadConfig field) not kept other h calm same t = stopped_told (BadConfig field) refl refl (stopped_badly field ending old mid h) calm same t
    row_told (BadRecord line kind) not kept other h calm same t = stopped_told (BadRecord line kind) refl refl (stopped_by (BadRecord line kind) h) calm same t
    row_told ReadFault not kept other h calm same t = ends_read_fault ending old new (failed_now h.0) (same ∙ calm) (nothing_before old.written mid.written after (fault_line ReadFault) h.1 t)
    row_told WriteFault not kept other h calm same t = absurd (not refl)
    row_told Memory not kept other h calm same t = absurd (cc)
    row_told DiskFault not kept other h calm same t = absurd (kept refl)
    row_told (NotAJournal place) not kept other h calm same t = stopped_told (NotAJournal place) refl refl (stopped_by (NotAJournal place) h) calm same t
    row_told TooLong not kept other h calm same t = stopped_told TooLong refl refl (stopped_by TooLong h) calm same t
    row_told Differ not kept other h calm same t = stopped_told Differ refl refl (stopped_by Differ h) calm same t
    row_told NoSession not kept other h calm same t = stopped_told NoSession refl refl (stopped_by NoSession h) calm same t
    row_told (Exhausted line) not kept other h calm same t = stopped_told (Exhausted line) refl refl (stopped_by (Exhausted line) h) calm same t

    row_cut : (fault : Fault) → fault ≢ WriteFault → is_memory fault ≡ false → Stops fault ending old mid → StopsCalmly fault old mid → TookLess mid.written after (fault_line fault) → Cut ending old new
    row_cut BadWords not other h calm t = absurd h
    row_cut (BadConfig field) not other h calm t = stopped_cut (BadConfig field) (stopped_badly field ending old mid h) calm t
    row_cut (BadRecord line kind) not other h calm t = stopped_cut (BadRecord line kind) (stopped_by (BadRecord line kind) h) calm t
    row_cut ReadFault not other h calm t = read_fault_cut (failed_now h.0) (nothing_part old.written mid.written after (fault_line ReadFault) h.1 t)
    row_cut WriteFault not other h calm t = absurd (not refl)
    row_cut Memory not other h calm t = absurd (cc)
    row_cut DiskFault not other h calm t = stopped_cut DiskFault (stopped_by DiskFault h) calm t
    row_cut (NotAJournal place) not other h calm t = stopped_cut (NotAJournal place) (stopped_by (NotAJournal place) h) calm t
    row_cut TooLong not other h calm t = stopped_cut TooLong (stopped_by TooLong h) calm t
    row_cut Differ not other h calm t = stopped_cut Differ (stopped_by Differ h) calm t
    row_cut NoSession not other h calm t = stopped_cut NoSession (stopped_by NoSession h) calm t
    row_cut (Exhausted line) not other h calm t = stopped_cut (Exhausted line) (stopped_by (Exhausted line) h) calm t

    -- nothing had failed before
    fails_once : (fault : Fault) → fault ≢ WriteFault → StopsCalmly fault old mid → RoseByOne mid.write_faults faults → HasSinkFailed old new
    fails_once fault not calm rose = subst (λ (before : ℕ). RoseByOne before faults) (sink_of fault old mid not calm) rose

    ends_told_by : (fault : Fault) (status : ℕ) → fault ≢ WriteFault → fault ≢ DiskFault → is_memory fault ≡ false → Stops fault ending old mid → StopsCalmly fault old mid → IsTold fault status mid.written after mid.write_faults faults → Ends status (Some ending) old new
    ends_told_by fault status not kept other h calm (whole_line is same t) = rw is (row_told fault not kept other h calm same t)
    ends_told_by fault status not kept other h calm (part_of_line is rose t) = rw is (ends_write_fault (Some ending) old new (fails_once fault not calm rose) (row_cut fault not other h calm t))

    -- the sink had failed at the output
    ends_cut : Stops WriteFault ending old mid → StopsCalmly WriteFault old mid → after ≡ mid.written → faults ≡ mid.write_faults → Ends 6 (Some ending) old new
    ends_cut h calm same stays = ends_write_fault (Some ending) old new (subst (λ (count : ℕ). RoseByOne old.write_faults count) (sym stays) h.0)
        (text_cut h.1.0 h.1.1 (reads_now h.1.0 h.1.1 h.1.2) (sources_now calm) (rw same (laws.less_of_more old.written mid.written (text_of (ending h.1.0 h.1.1).lines) (last_line (ending h.1.0 h.1.1).fault) h.1.3)))

    pub ends_by : (fault : Fault) (status : ℕ) → fault ≢ DiskFault → Stops fault ending old mid → StopsCalmly fault old mid → Finishes fault status mid.written after mid.write_faults faults → Ends status (Some ending) old new
    ends_by fault status kept h calm (told_line other quiet t) = ends_told_by fault status (is_no_write_fault fault quiet) kept other h calm t
    ends_by fault status kept h calm (no_memory wants is t) = rw is (ends_memory (Some ending) old new (both_parts ending old mid after faults (fronts fault (wants_memory fault wants) h) (calm_of fault old mid wants calm) t))
    ends_by fault status kept h calm (no_sink at is same stays) = rw is (ends_cut (subst (λ (f : Fault). Stops f ending old mid) at h) (subst (λ (f : Fault). StopsCalmly f old mid) at calm) same stays)

  -- Words that have no form, and words that were not looked at.

  pub ends_badly : (old : Moment) (after : Option (List ℕ)) (faults status : ℕ) → IsTold BadWords status old.written after old.write_faults faults → Ends status None old (moment old.config old.first old.second after faults)
  ends_badly old after faults status (whole_line is same t) = rw is (ends_bad_words None old (moment old.config old.first old.second after faults) refl (refl, refl, refl) same t)
  ends_badly old after faults status (part_of_line is rose t) = rw is (ends_write_fault None old (moment old.config old.first old.second after faults) rose ((refl, refl, refl), t))

  unread : (asked : Option (List ℕ → Recordings → Ending)) (old : Moment) (after : Option (List ℕ)) (faults : ℕ) → TellsThere old.written after old.write_faults faults → HadNoMemory asked old (moment old.config old.first old.second after faults)
  unread None old after faults h = record { nothing = (refl, refl, refl); last = h.0; tells = h.1; written = h.2 }
  unread (Some ending) old after faults h = both_parts ending old old after faults (nothing_yet ending old old.written (laws.nothing old.written)) (record { sources = record { config = refl; first = refl; second = refl }; sink = refl }) h

  pub ends_unread : (asked : Option (List ℕ → Recordings → Ending)) (old : Moment) (after : Option (List ℕ)) (faults : ℕ) → TellsThere old.written after old.write_faults faults → Ends 7 asked old (moment old.config old.first old.second after faults)
  ends_unread asked old after faults h = ends_memory asked old (moment old.config old.first old.second after faults) (unread asked old after faults h)

  -- No configuration.

  configuring_stops : (comes_to : Contents → Recordings → Ending) (fault : Fault) (old now first second : Input) (written : Option (List ℕ)) (faults : ℕ) → StopsConfiguring fault old now → Stops fault (of_files comes_to) (moment old first second written faults) (moment now first second written faults)
  configuring_stops comes_to BadWords old now first second written faults h = absurd h
  configuring_stops comes_to (BadConfig field) old now first second written faults h = (h.0, h.1, λ recordings. ap (configured (λ (contents : Contents). comes_to contents recordings)) h.2, refl, refl, laws.nothing written)
  configuring_stops comes_to (BadRecord line kind) old now first second written faults h = absurd h
  configuring_stops comes_to ReadFault old now first second written faults h = (config_failed h refl refl, laws.nothing written)
  configuring_stops comes_to WriteFault old now first second written faults h = absurd h
  configuring_stops comes_to Memory old now first second written faults h = (left_in old.left, left_in_both first second, IsLeft-left_in old.left, IsLeft-left_in first.left, IsLeft-left_in second.left, ([], (of_files comes_to (left_in old.left) (left_in_both first second)).lines, refl, laws.nothing written))
  configuring_stops comes_to DiskFault old now first second written faults h = absurd h
  configuring_stops comes_to (NotAJournal place) old now first second written faults h = absurd h
  configuring_stops comes_to TooLong old now first second written faults h = absurd h
  configuring_stops comes_to Differ old now first second written faults h = absurd h
  configuring_stops comes_to NoSession old now first second written faults h = absurd h
  configuring_stops comes_to (Exhausted line) old now first second written faults h = absurd h

  pub unconfigured : (comes_to : Contents → Recordings → Ending) (fault : Fault) (status : ℕ) (old now first second : Input) (before after : Option (List ℕ)) (old_faults new_faults : ℕ)
      → StopsConfiguring fault old now → (is_read_fault fault ≡ false → now.faults ≡ old.faults) → Finishes fault status before after old_faults new_faults
      → Ends status (Some (of_files comes_to)) (moment old first second before old_faults) (moment now first second after new_faults)
  unconfigured comes_to fault status old now first second before after old_faults new_faults h calm end =
      let from = moment old first second before old_faults in
      let mid = moment now first second before old_faults in
      ends_by (of_files comes_to) from mid after new_faults fault status (no_disk_in_configuring fault old now h) (configuring_stops comes_to fault old now first second before old_faults h)
      (stops_calmly fault from mid (λ quiet. record { config = calm quiet; first = refl; second = refl }) (λ other. refl)) end

  never_fails_in_hand : RoseByOne 0 0 → ⊥
  never_fails_in_hand h = omega arith

  -- A run with a configuration in hand, as the end of the run that read it.
  module _ (comes_to : Contents → Recordings → Ending) (contents : Contents) (bytes : List ℕ) (is : configuration bytes ≡ Ok contents) (read_old read_new first_old first_new second_old second_new : Input) (before after : Option (List ℕ)) (old_faults new_faults : ℕ) (read : HasRead CONFIGURATION_BYTES read_old read_new bytes) (read_calm : read_new.faults ≡ read_old.faults) where
    abbrev held : List ℕ → Recordings → Ending
    held = in_hand_of (comes_to contents)

    abbrev whole_run : List ℕ → Recordings → Ending
    whole_run = of_files comes_to

    abbrev old_hand : Moment
    old_hand = moment in_hand first_old second_old before old_faults

    abbrev new_hand : Moment
    new_hand = moment in_hand first_new second_new after new_faults

    abbrev old_run : Moment
    old_run = moment read_old first_old second_old before old_faults

    abbrev new_run : Moment
    new_run = moment read_new first_new second_new after new_faults

    same : (other : List ℕ) (recordings : Recordings) → held other recordings ≡ whole_run bytes recordings
    same other recordings = sym (ap (configured (λ (c : Contents). comes_to c recordings)) is)

    reads_run : (other : List ℕ) (recordings : Recordings) → Reads held old_hand new_hand other recordings → Reads whole_run old_run new_run bytes recordings
    reads_run other recordings h = record {
      config_read = read;
      first_read = subst (λ (e : Ending). HasReadIf e.reads_first first_old first_new recordings.first) (same other recordings) h.first_read;
      second_read = subst (λ (e : Ending). HasReadIf e.reads_second second_old second_new recordings.second) (same other recordings) h.second_read;
    }

    sources_run : AreSourcesCalm old_hand new_hand → AreSourcesCalm old_run new_run
    sources_run h = record { config = read_calm; first = h.first; second = h.second }

    told_run : (status : ℕ) → Told status held old_hand new_hand → Told status whole_run old_run new_run
    told_run status h = record {
      config = bytes;
      recordings = h.recordings;
      reads = reads_run h.config h.recordings h.reads;
      is = h.is ∙ ap (λ (e : Ending). exit_status e.fault) (same h.config h.recordings);
      calm = record { sources = sources_run h.calm.sources; sink = h.calm.sink };
      written = subst (λ (e : Ending). Took before after (all_text e)) (same h.config h.recordings) h.written;
    }

    failed_run : SourceFailed held old_hand new_hand → SourceFailed whole_run old_run new_run
    failed_run (config_failed rose kept kept_too) = absurd (never_fails_in_hand rose)
    failed_run (first_failed other hand calm taken rose kept) = first_failed bytes read read_calm (λ recordings. subst (λ (e : Ending). e.reads_first ≡ true) (same other recordings) (taken recordings)) rose kept
    failed_run (second_failed other first hand calm first_read first_calm taken rose) = second_failed bytes first read read_calm first_read first_calm (λ second. subst (λ (e : Ending). e.reads_second ≡ true) (same other (record { first = first; second = second })) (taken second)) rose

    memory_run : NoMemory held old_hand new_hand → NoMemory whole_run old_run new_run
    memory_run h = record {
      config = bytes;
      recordings = h.recordings;
      config_left = IsLeft-HasRead CONFIGURATION_BYTES read_old read_new bytes read;
      first_left = h.first_left;
      second_left = h.second_left;
      calm = sources_run h.calm;
      told = h.told;
      others = h.others;
      front = sym (ap (λ (e : Ending). e.lines) (same h.config h.recordings)) ∙ h.front;
      last = h.last;
      tells = h.tells;
      written = h.written;
    }

    cut_run : Cut held old_hand new_hand → Cut whole_run old_run new_run
    cut_run (text_cut other recordings reads calm t) = text_cut bytes recordings (reads_run other recordings reads) (sources_run calm) (subst (λ (e : Ending). TookLess before after (all_text e)) (same other recordings) t)
    cut_run (read_fault_cut failed t) = read_fault_cut (failed_run failed) t

    pub ends_behind : (status : ℕ) → Ends status (Some held) old_hand new_hand → Ends status (Some whole_run) old_run new_run
    ends_behind status h = record {
      known = h.known;
      told = λ e. told_run status (h.told e);
      bad_words = λ e. absurd (cc (h.bad_words e).0);
      read_fault = λ e. let p = h.read_fault e in (failed_run p.0, p.1, p.2);
      write_fault = λ e. let p = h.write_fault e in (p.0, cut_run p.1);
      memory = λ e. memory_run (h.memory e);
    }

  -- A run with a configuration in hand, by what its recordings come to.
  module _ (comes : Recordings → Ending) (first_old first_new second_old second_new : Input) (before : Option (List ℕ)) (old_faults : ℕ) where
    abbrev of_hand : List ℕ → Recordings → Ending
    of_hand = in_hand_of comes

    abbrev from_hand : Moment
    from_hand = moment in_hand first_old second_old before old_faults

    abbrev to_hand : Option (List ℕ) → ℕ → Moment
    to_hand after faults = moment in_hand first_new second_new after faults

    abbrev Comes : Bool → Bool → Played → Type 0
    Comes first second all = ComesTo comes first_old first_new second_old second_new first second all

    module _ (first second : Bool) (all : Played) (h : Comes first second all) (after : Option (List ℕ)) (faults : ℕ) where
      reads_hand : Reads of_hand from_hand (to_hand after faults) [] h.recordings
      reads_hand = record {
        config_read = hand_read;
        first_read = subst (λ (e : Ending). HasReadIf e.reads_first first_old first_new h.recordings.first) (sym h.is) h.first_read;
        second_read = subst (λ (e : Ending). HasReadIf e.reads_second second_old second_new h.recordings.second) (sym h.is) h.second_read;
      }

      -- all that they come to was written
      done_in_hand : AreCalm from_hand (to_hand after faults) → PlayedTo all before after → Done of_hand from_hand (to_hand after faults)
      done_in_hand calm p = ([], h.recordings, reads_hand, ap (λ (e : Ending). e.fault) h.is ∙ p.0, calm, subst (λ (e : Ending). Took before after (text_of e.lines)) (sym h.is) p.1)

      -- and it is a fault
      whole_in_hand : (fault : Fault) → (all.fault ≡ Some fault) × Took before after (text_of all.lines)
          → (config : List ℕ) × (recordings : Recordings) × Reads of_hand from_hand (to_hand after faults) config recordings × ((of_hand config recordings).fault ≡ Some fault) × Took before after (text_of (of_hand config recordings).lines)
      whole_in_hand fault p = ([], h.recordings, reads_hand, ap (λ (e : Ending). e.fault) h.is ∙ p.0, subst (λ (e : Ending). Took before after (text_of e.lines)) (sym h.is) p.1)

      stops_in_hand : (fault : Fault) → StopsPlaying fault all before after old_faults faults → Stops fault of_hand from_hand (to_hand after faults)
      stops_in_hand BadWords p = absurd p
      stops_in_hand (BadConfig field) p = absurd p
      stops_in_hand (BadRecord line kind) p = whole_in_hand (BadRecord line kind) p
      stops_in_hand ReadFault p = absurd p
      stops_in_hand WriteFault p = (p.0, ([], h.recordings, reads_hand, subst (λ (e : Ending). TookLess before after (text_of e.lines)) (sym h.is) p.1))
      stops_in_hand Memory p = (
        [],
        h.recordings,
        refl,
        was_left first first_old first_new h.recordings.first h.first_read,
        was_left second second_old second_new h.recordings.second h.second_read,
        subst (λ (e : Ending). TookFirst before after e.lines) (sym h.is) p,
      )
      stops_in_hand DiskFault p = absurd p
      stops_in_hand (NotAJournal place) p = whole_in_hand (NotAJournal place) p
      stops_in_hand TooLong p = whole_in_hand TooLong p
      stops_in_hand Differ p = whole_in_hand Differ p
      stops_in_hand NoSession p = whole_in_hand NoSession p
      stops_in_hand (Exhausted line) p = whole_in_hand (Exhausted line) p

    abbrev mid_hand : Moment
    mid_hand = to_hand before old_faults

    -- there was no memory before anything was written
    stops_early : Stops Memory of_hand from_hand mid_hand
    stops_early = (
      [],
      left_in_both first_old second_old,
      refl,
      IsLeft-left_in first_old.left,
      IsLeft-left_in second_old.left,
      ([], (comes (left_in_both first_old second_old)).lines, refl, laws.nothing before),
    )

    -- A recording is refused as one of its lines is, or as it is too long.
    stops_refused : (first second : Bool) (refused : LineFault) → Comes first second (nothing_but (fault_of refused)) → Stops (fault_of refused) of_hand from_hand mid_hand
    stops_refused first second (lines.Line line kind) h = whole_in_hand first second (nothing_but (BadRecord line kind)) h before old_faults (BadRecord line kind) (refl, laws.nothing before)
    stops_refused first second lines.TooLong h = whole_in_hand first second (nothing_but TooLong) h before old_faults TooLong (refl, laws.nothing before)
    stops_refused first second lines.Memory h = stops_early

    -- There was no recording in this source.
    module _ (first second : Bool) (source_old source_new : Input) (failed : RoseByOne source_old.faults source_new.faults → SourceFailed of_hand from_hand mid_hand)
        (refused : (fault : LineFault) (bytes : List ℕ) → HasRead RECORDING_BYTES source_old source_new bytes → recording_of bytes ≡ Err fault → Comes first second (nothing_but (fault_of fault))) where
      stops_by_refusal : (fault : Fault) → (line_fault : LineFault) × (fault ≡ fault_of line_fault) × ((bytes : List ℕ) × HasRead RECORDING_BYTES source_old source_new bytes × (recording_of bytes ≡ Err line_fault)) → Stops fault of_hand from_hand mid_hand
      stops_by_refusal fault h = subst (λ (f : Fault). Stops f of_hand from_hand mid_hand) (sym h.1) (stops_refused first second h.0 (refused h.0 h.2.0 h.2.1 h.2.2))

      stops_recording : (fault : Fault) → StopsRecording fault source_old source_new → Stops fault of_hand from_hand mid_hand
      stops_recording BadWords h = stops_by_refusal BadWords h
      stops_recording (BadConfig field) h = stops_by_refusal (BadConfig field) h
      stops_recording (BadRecord line kind) h = stops_by_refusal (BadRecord line kind) h
      stops_recording ReadFault h = (failed h, laws.nothing before)
      stops_recording WriteFault h = stops_by_refusal WriteFault h
      stops_recording Memory h = stops_early
      stops_recording DiskFault h = stops_by_refusal DiskFault h
      stops_recording (NotAJournal place) h = stops_by_refusal (NotAJournal place) h
      stops_recording TooLong h = stops_by_refusal TooLong h
      stops_recording Differ h = stops_by_refusal Differ h
      stops_recording NoSession h = stops_by_refusal NoSession h
      stops_recording (Exhausted line) h = stops_by_refusal (Exhausted line) h

      ends_unrecorded : (fault : Fault) (status : ℕ) (after : Option (List ℕ)) (new_faults : ℕ) → StopsRecording fault source_old source_new → (is_read_fault fault ≡ false → AreSourcesCalm from_hand mid_hand) → Finishes fault status before after old_faults new_faults
          → Ends status (Some of_hand) from_hand (to_hand after new_faults)
      ends_unrecorded fault status after new_faults h calm end = ends_by of_hand from_hand mid_hand after new_faults fault status (no_disk_in_recording fault source_old source_new h) (stops_recording fault h) (stops_calmly fault from_hand mid_hand calm (λ other. refl)) end

    -- What its recordings come to was written, or was not.
    module _ (first second : Bool) (all : Played) (h : Comes first second all) (first_calm : first_new.faults ≡ first_old.faults) (second_calm : second_new.faults ≡ second_old.faults) where
      ends_played : (after : Option (List ℕ)) (new_faults : ℕ) → PlayedTo all before after → new_faults ≡ old_faults → Ends 0 (Some of_hand) from_hand (to_hand after new_faults)
      ends_played after new_faults p same = ends_done of_hand from_hand (to_hand after new_faults)
          (done_in_hand first second all h after new_faults (record { sources = record { config = refl; first = first_calm; second = second_calm }; sink = same }) p)

      ends_stopped : (fault : Fault) (status : ℕ) (between after : Option (List ℕ)) (faults new_faults : ℕ)
          → StopsPlaying fault all before between old_faults faults → (is_write_fault fault ≡ false → faults ≡ old_faults) → Finishes fault status between after faults new_faults
          → Ends status (Some of_hand) from_hand (to_hand after new_faults)
      ends_stopped fault status between after faults new_faults p calm end =
          let mid = to_hand between faults in
          ends_by of_hand from_hand mid after new_faults fault status (no_disk_in_playing fault all before between old_faults faults p) (stops_in_hand first second all h between faults fault p)
          (stops_calmly fault from_hand mid (λ quiet. record { config = refl; first = first_calm; second = second_calm }) calm) end

  -- One recording, with a configuration in hand. The second is not touched.
  module _ (come_to : List Event → Played) (old now second : Input) (before : Option (List ℕ)) (old_faults : ℕ) where
    one_comes : (bytes : List ℕ) (all : Played) → HasRead RECORDING_BYTES old now bytes → recorded come_to (recording_of bytes) ≡ with_reads true false all → ComesTo (of_recording come_to) old now second second true false all
    one_comes bytes all read is = record {
      recordings = record { first = bytes; second = left_in second.left };
      is = is;
      first_read = read;
      second_read = (refl, IsLeft-left_in second.left);
    }

    one_recorded : (events : List Event) → Recorded events old now → ComesTo (of_recording come_to) old now second second true false (come_to events)
    one_recorded events h = one_comes h.0 (come_to events) h.1 (ap (recorded come_to) h.2)

    always_reads : (read : Result (List Event) LineFault) → (recorded come_to read).reads_first ≡ true
    always_reads (Ok events) = refl
    always_reads (Err fault) = refl

    pub unrecorded : (fault : Fault) (status : ℕ) (after : Option (List ℕ)) (new_faults : ℕ)
        → StopsRecording fault old now → (is_read_fault fault ≡ false → now.faults ≡ old.faults) → Finishes fault status before after old_faults new_faults
        → Ends status (Some (in_hand_of (of_recording come_to))) (moment in_hand old second before old_faults) (moment in_hand now second after new_faults)
    unrecorded fault status after new_faults h calm end = ends_unrecorded (of_recording come_to) old now second second before old_faults true false old now
        (λ rose. first_failed [] hand_read refl (λ recordings. always_reads (recording_of recordings.first)) rose refl)
        (λ line_fault bytes read is. one_comes bytes (nothing_but (fault_of line_fault)) read (ap (recorded come_to) is))
        fault status after new_faults h (λ quiet. record { config = refl; first = calm quiet; second = refl }) end

    pub played_to_end : (events : List Event) (after : Option (List ℕ)) (new_faults : ℕ)
        → Recorded events old now → now.faults ≡ old.faults → PlayedTo (come_to events) before after → new_faults ≡ old_faults
        → Ends 0 (Some (in_hand_of (of_recording come_to))) (moment in_hand old second before old_faults) (moment in_hand now second after new_faults)
    played_to_end events after new_faults held same h calm = ends_played (of_recording come_to) old now second second before old_faults true false (come_to events) (one_recorded events held) same refl after new_faults h calm

    pub stopped_in_play : (events : List Event) (fault : Fault) (status : ℕ) (between after : Option (List ℕ)) (faults new_faults : ℕ)
        → Recorded events old now → now.faults ≡ old.faults → StopsPlaying fault (come_to events) before between old_faults faults → (is_write_fault fault ≡ false → faults ≡ old_faults) → Finishes fault status between after faults new_faults
        → Ends status (Some (in_hand_of (of_recording come_to))) (moment in_hand old second before old_faults) (moment in_hand now second after new_faults)
    stopped_in_play events fault status between after faults new_faults held same h calm end = ends_stopped (of_recording come_to) old now second second before old_faults true false (come_to events) (one_recorded events held) same refl
        fault status between after faults new_faults h calm end

  -- Another text, with a configuration in hand. The second is not touched.
  module _ (come_to : List ℕ → Played) (old now second : Input) (before : Option (List ℕ)) (old_faults : ℕ) where
    text_comes : (bytes : List ℕ) (all : Played) → HasRead RECORDING_BYTES old now bytes → come_to bytes ≡ all → ComesTo (of_text come_to) old now second second true false all
    text_comes bytes all read is = record {
      recordings = record { first = bytes; second = left_in second.left };
      is = ap with_recording is;
      first_read = read;
      second_read = (refl, IsLeft-left_in second.left);
    }

    text_stops : ((bytes : List ℕ) → RECORDING_BYTES < length bytes → come_to bytes ≡ nothing_but TooLong) → (fault : Fault) → StopsReading fault old now
        → Stops fault (in_hand_of (of_text come_to)) (moment in_hand old second before old_faults) (moment in_hand now second before old_faults)
    text_stops long BadWords h = absurd h
    text_stops long (BadConfig field) h = absurd h
    text_stops long (BadRecord line kind) h = absurd h
    text_stops long ReadFault h = (first_failed [] hand_read refl (λ recordings. refl) h refl, laws.nothing before)
    text_stops long WriteFault h = absurd h
    text_stops long Memory h = stops_early (of_text come_to) old now second second before old_faults
    text_stops long DiskFault h = absurd h
    text_stops long (NotAJournal place) h = absurd h
    text_stops long TooLong h =
        whole_in_hand (of_text come_to) old now second second before old_faults true false (nothing_but TooLong) (text_comes h.0 (nothing_but TooLong) h.1 (long h.0 h.2)) before old_faults TooLong (refl, laws.nothing before)
    text_stops long Differ h = absurd h
    text_stops long NoSession h = absurd h
    text_stops long (Exhausted line) h = absurd h

    pub text_unread : (fault : Fault) (status : ℕ) (after : Option (List ℕ)) (new_faults : ℕ) → ((bytes : List ℕ) → RECORDING_BYTES < length bytes → come_to bytes ≡ nothing_but TooLong)
        → StopsReading fault old now → (is_read_fault fault ≡ false → now.faults ≡ old.faults) → Finishes fault status before after old_faults new_faults
        → Ends status (Some (in_hand_of (of_text come_to))) (moment in_hand old second before old_faults) (moment in_hand now second after new_faults)
    text_unread fault status after new_faults long h calm end =
        let from = moment in_hand old second before old_faults in
        let mid = moment in_hand now second before old_faults in
        ends_by (in_hand_of (of_text come_to)) from mid after new_faults fault status (no_disk_in_reading fault old now h) (text_stops long fault h)
        (stops_calmly fault from mid (λ quiet. record { config = refl; first = calm quiet; second = refl }) (λ other. refl)) end

    pub text_told : (bytes : List ℕ) (after : Option (List ℕ)) (new_faults : ℕ)
        → HasRead RECORDING_BYTES old now bytes → now.faults ≡ old.faults → PlayedTo (come_to bytes) before after → new_faults ≡ old_faults
        → Ends 0 (Some (in_hand_of (of_text come_to))) (moment in_hand old second before old_faults) (moment in_hand now second after new_faults)
    text_told bytes after new_faults read same h calm = ends_played (of_text come_to) old now second second before old_faults true false (come_to bytes) (text_comes bytes (come_to bytes) read refl) same refl after new_faults h calm

    pub text_stopped : (bytes : List ℕ) (fault : Fault) (status : ℕ) (between after : Option (List ℕ)) (faults new_faults : ℕ)
        → HasRead RECORDING_BYTES old now bytes → now.faults ≡ old.faults → StopsPlaying fault (come_to bytes) before between old_faults faults → (is_write_fault fault ≡ false → faults ≡ old_faults) → Finishes fault status between after faults new_faults
        → Ends status (Some (in_hand_of (of_text come_to))) (moment in_hand old second before old_faults) (moment in_hand now second after new_faults)
    text_stopped bytes fault status between after faults new_faults read same h calm end = ends_stopped (of_text come_to) old now second second before old_faults true false (come_to bytes) (text_comes bytes (come_to bytes) read refl) same refl
        fault status between after faults new_faults h calm end

  -- Two recordings, with a configuration in hand.
  module _ (come_to : List Event → List Event → Played) (before : Option (List ℕ)) (old_faults : ℕ) where
    abbrev of_both : List ℕ → Recordings → Ending
    of_both = in_hand_of (of_recordings come_to)

    always_reads_first : (first second : Result (List Event) LineFault) → (recorded_both come_to first second).reads_first ≡ true
    always_reads_first (Ok events) (Ok others) = refl
    always_reads_first (Ok events) (Err fault) = refl
    always_reads_first (Err fault) second = refl

    always_reads_second : (events : List Event) (second : Result (List Event) LineFault) → (recorded_second (come_to events) second).reads_second ≡ true
    always_reads_second events (Ok others) = refl
    always_reads_second events (Err fault) = refl

    -- behind a first recording that is one
    behind_first : (events : List Event) (bytes : List ℕ) (second : Result (List Event) LineFault) → recording_of bytes ≡ Ok events → recorded_both come_to (recording_of bytes) second ≡ recorded_second (come_to events) second
    behind_first events bytes second is = ap (λ (first : Result (List Event) LineFault). recorded_both come_to first second) is

    -- the first is none, and the second is not touched
    pub first_unrecorded : (fault : Fault) (status : ℕ) (old now second : Input) (after : Option (List ℕ)) (new_faults : ℕ)
        → StopsRecording fault old now → (is_read_fault fault ≡ false → now.faults ≡ old.faults) → Finishes fault status before after old_faults new_faults
        → Ends status (Some of_both) (moment in_hand old second before old_faults) (moment in_hand now second after new_faults)
    first_unrecorded fault status old now second after new_faults h calm end = ends_unrecorded (of_recordings come_to) old now second second before old_faults true false old now
        (λ rose. first_failed [] hand_read refl (λ recordings. always_reads_first (recording_of recordings.first) (recording_of recordings.second)) rose refl)
        (λ line_fault bytes read is. record {
          recordings = record { first = bytes; second = left_in second.left };
          is = ap (λ (first : Result (List Event) LineFault). recorded_both come_to first (recording_of (left_in second.left))) is;
          first_read = read;
          second_read = (refl, IsLeft-left_in second.left);
        })
        fault status after new_faults h (λ quiet. record { config = refl; first = calm quiet; second = refl }) end

    module _ (events : List Event) (first_old first_now old now : Input) (held : Recorded events first_old first_now) (first_calm : first_now.faults ≡ first_old.faults) where
      two_come : (bytes : List ℕ) (all : Played) → HasRead RECORDING_BYTES old now bytes → recorded_second (come_to events) (recording_of bytes) ≡ with_reads true true all → ComesTo (of_recordings come_to) first_old first_now old now true true all
      two_come bytes all read is = record {
        recordings = record { first = held.0; second = bytes };
        is = behind_first events held.0 (recording_of bytes) held.2 ∙ is;
        first_read = held.1;
        second_read = read;
      }

      two_recorded : (others : List Event) → Recorded others old now → ComesTo (of_recordings come_to) first_old first_now old now true true (come_to events others)
      two_recorded others h = two_come h.0 (come_to events others) h.1 (ap (recorded_second (come_to events)) h.2)

      reads_behind : (second : List ℕ) → (recorded_both come_to (recording_of held.0) (recording_of second)).reads_second ≡ true
      reads_behind second = ap (λ (e : Ending). e.reads_second) (behind_first events held.0 (recording_of second) held.2) ∙ always_reads_second events (recording_of second)

      pub second_unrecorded : (fault : Fault) (status : ℕ) (after : Option (List ℕ)) (new_faults : ℕ)
          → StopsRecording fault old now → (is_read_fault fault ≡ false → now.faults ≡ old.faults) → Finishes fault status before after old_faults new_faults
          → Ends status (Some of_both) (moment in_hand first_old old before old_faults) (moment in_hand first_now now after new_faults)
      second_unrecorded fault status after new_faults h calm end = ends_unrecorded (of_recordings come_to) first_old first_now old now before old_faults true true old now
          (λ rose. second_failed [] held.0 hand_read refl held.1 first_calm reads_behind rose)
          (λ line_fault bytes read is. two_come bytes (nothing_but (fault_of line_fault)) read (ap (recorded_second (come_to events)) is))
          fault status after new_faults h (λ quiet. record { config = refl; first = first_calm; second = calm quiet }) end

      pub both_played : (others : List Event) (after : Option (List ℕ)) (new_faults : ℕ)
          → Recorded others old now → now.faults ≡ old.faults → PlayedTo (come_to events others) before after → new_faults ≡ old_faults
          → Ends 0 (Some of_both) (moment in_hand first_old old before old_faults) (moment in_hand first_now now after new_faults)
      both_played others after new_faults read same h calm = ends_played (of_recordings come_to) first_old first_now old now before old_faults true true (come_to events others) (two_recorded others read) first_calm same after new_faults h calm

      pub both_stopped : (others : List Event) (fault : Fault) (status : ℕ) (between after : Option (List ℕ)) (faults new_faults : ℕ)
          → Recorded others old now → now.faults ≡ old.faults → StopsPlaying fault (come_to events others) before between old_faults faults → (is_write_fault fault ≡ false → faults ≡ old_faults) → Finishes fault status between after faults new_faults
          → Ends status (Some of_both) (moment in_hand first_old old before old_faults) (moment in_hand first_now now after new_faults)
      both_stopped others fault status between after faults new_faults read same h calm end = ends_stopped (of_recordings come_to) first_old first_now old now before old_faults true true (come_to events others) (two_recorded others read) first_calm same
          fault status between after faults new_faults h calm end

  -- No recording, with a configuration in hand.
  module _ (all : Played) (first second : Input) (before : Option (List ℕ)) (old_faults : ℕ) where
    none_comes : ComesTo (of_none all) first first second second false false all
    none_comes = record {
      recordings = left_in_both first second;
      is = refl;
      first_read = (refl, IsLeft-left_in first.left);
      second_read = (refl, IsLeft-left_in second.left);
    }

    pub made_whole : (after : Option (List ℕ)) (new_faults : ℕ) → PlayedTo all before after → new_faults ≡ old_faults
        → Ends 0 (Some (in_hand_of (of_none all))) (moment in_hand first second before old_faults) (moment in_hand first second after new_faults)
    made_whole after new_faults h same = ends_played (of_none all) first first second second before old_faults false false all none_comes refl refl after new_faults h same

    pub unmade : (fault : Fault) (status : ℕ) (between after : Option (List ℕ)) (faults new_faults : ℕ)
        → StopsPlaying fault all before between old_faults faults → (is_write_fault fault ≡ false → faults ≡ old_faults) → Finishes fault status between after faults new_faults
        → Ends status (Some (in_hand_of (of_none all))) (moment in_hand first second before old_faults) (moment in_hand first second after new_faults)
    unmade fault status between after faults new_faults h calm end = ends_stopped (of_none all) first first second second before old_faults false false all none_comes refl refl fault status between after faults new_faults h calm end
