-- Of a configuration and a recording, the run to which they come.
use Rattle.std.proofs.Common.{◌≡◌, true, ℕ, List, [], ◌∷◌, Result, Ok, refl, sym, ap, ◌∙◌, arith}
use Rattle.std.proofs.lemmas.Bool.{and_parts}
use Rattle.std.proofs.lemmas.List.{length-map}
use Rattle.std.specs.Prelude.{map, nat_le, length}
use Rattle.std.specs.List.{list_all}
use Rattle.mt_config.specs.Configuration.{IsConfiguration}
use Rattle.mt_files.specs.Output.{sent_line}
use Rattle.mt_files.specs.Event.{line_event}
use Rattle.mt_files.specs.Recording.{IsRecording, recording_of}
use Rattle.mt_model.specs.declared.texts.line_fault.LineKind.{LineKind}
use Rattle.mt_model.specs.declared.texts.config.Config.{Config}
use Rattle.mt_model.specs.declared.texts.config.CsrRow.{CsrRow}
use Rattle.mt_model.specs.declared.texts.config.JoinRow.{JoinRow}
use Rattle.mt_model.specs.declared.texts.config.RootRow.{RootRow}
use Rattle.mt_model.specs.declared.texts.recording.Event.{Event}
use Rattle.mt_model.specs.texts.Config.{are_csrs, are_joins, are_roots, is_csr, is_join, is_root}
use Rattle.mt_model.specs.texts.Contents.{Contents, contents_of}
use Rattle.mt_opcreds.specs.Laws.{KeepsRules}
use Rattle.mt_compare.specs.mt_machine.Environment.{given_by}
use Rattle.mt_compare.specs.mt_runs.Isolation.{IsValidWhole}
use Rattle.mt_compare.specs.mt_runs.LineLaws.{WholeOpensValid}
use Rattle.mt_compare.specs.mt_runs.Messages.{Message, messages}
use Rattle.mt_compare.specs.mt_runs.Laws.{EqualMarksEqualEnds, EqualMarksEqualMessages, EqualMarksEqualParts, HasRoom, RunsAreTheirMessages}
use Rattle.mt_endings.specs.Endings.{Recordings, configured, of_files, recorded}
use Rattle.mt_top.specs.Asked.{played, replayed}
use Rattle.mt_top.specs.Begun.{begun_with}
use Rattle.mt_top.specs.Isolated.{IsIsolated, line_to}

-- The verdicts of a configuration keep their rules.

roots_keep : (rows : List RootRow) → are_roots rows ≡ true → list_all is_root rows ≡ true
unfolding are_roots
roots_keep rows are = (and_parts (nat_le (length rows) 16) (list_all is_root rows) are).1

csrs_keep : (rows : List CsrRow) → are_csrs rows ≡ true → list_all is_csr rows ≡ true
unfolding are_csrs
csrs_keep rows are = (and_parts (nat_le (length rows) 16) (list_all is_csr rows) are).1

joins_keep : (rows : List JoinRow) → are_joins rows ≡ true → list_all is_join rows ≡ true
unfolding are_joins
joins_keep rows are = (and_parts (nat_le (length rows) 16) (list_all is_join rows) are).1

keeps_rules : (config : Config) → KeepsRules (given_by (contents_of config)).judged
keeps_rules config = record {
  roots = roots_keep config.roots config.roots_are_valid;
  csrs = csrs_keep config.csrs config.csrs_are_valid;
  joins = joins_keep config.joins config.joins_are_valid;
}

-- a line for each message, with its fabric or without
lines_of_messages : (all : List Message) → map sent_line (map (λ (message : Message). message.sent) all) ≡ map line_to all
lines_of_messages [] = refl
lines_of_messages (message ∷ all) = ap (λ (lines : List (List ℕ)). line_to message ∷ lines) (lines_of_messages all)

-- what a line tells that tells an event
abbrev told_as : Event → Result Event LineKind
told_as event = Ok event

-- what is read is a recording
abbrev RecordingsAreRead : Type 0
RecordingsAreRead = (bytes : List ℕ) (events : List Event) → recording_of bytes ≡ Ok events → IsRecording bytes events

-- A run of a recording has room for the boots that may come: each line brings one at most.
has_room : (config : Config) (bytes : List ℕ) (events : List Event) → IsRecording bytes events → HasRoom (begun_with (contents_of config)).going events
has_room config bytes events recording =
    let few = recording.few_lines in
    let all : length (map line_event recording.lines) ≡ length (map told_as events) = ap length recording.told in
    let same : length recording.lines ≡ length events = sym (length-map recording.lines line_event) ∙ all ∙ length-map events told_as in
    omega arith

module _ (opens : WholeOpensValid) (theirs : RunsAreTheirMessages) (equal : EqualMarksEqualMessages) (left : EqualMarksEqualParts) (ended : EqualMarksEqualEnds) (read : RecordingsAreRead) where
  valid : (config : Config) → IsValidWhole (begun_with (contents_of config)).going.whole
  valid config = opens 1 0 config.fabrics config.entries config.sessions refl config.fabrics_are_valid config.entries_are_valid config.sessions_are_valid

  pub isolated : (config : Config) (bytes : List ℕ) (recordings : Recordings) (events : List Event) → IsConfiguration bytes config → recording_of recordings.first ≡ Ok events
      → IsIsolated (begun_with (contents_of config)) events (of_files replayed bytes recordings).lines
  isolated config bytes recordings events is reads =
      let begun = begun_with (contents_of config) in
      let room = has_room config recordings.first events (read recordings.first events reads) in record {
        told =
            ap (λ r. (configured (λ (contents : Contents). replayed contents recordings) r).lines) is
            ∙ ap (λ r. (recorded (played begun) r).lines) reads
            ∙ ap (map sent_line) (theirs begun.given begun.sessions begun.going events)
            ∙ lines_of_messages (messages begun.given begun.sessions begun.going events);
        determined = λ fabric other others named alike.
            equal begun.given begun.sessions fabric begun.going other events others (keeps_rules config) config.sessions_are_valid named (valid config) room alike.valid alike.room alike.own alike.marked;
        left = λ fabric other others named alike.
            left begun.given begun.sessions fabric begun.going other events others (keeps_rules config) config.sessions_are_valid named (valid config) room alike.valid alike.room alike.own alike.marked;
        ended = λ fabric other others named alike.
            ended begun.given begun.sessions fabric begun.going other events others (keeps_rules config) config.sessions_are_valid named (valid config) room alike.valid alike.room alike.own alike.marked;
      }
