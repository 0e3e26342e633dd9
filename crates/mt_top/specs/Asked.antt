-- What the words ask for comes to, by what the files hold.
use Rattle.std.specs.Prelude.{◌≡◌, ℕ, nat_le, Bool, true, false, List, [], Option, Some, None, if◌then◌else◌, length, map}
use Rattle.std.specs.Option.{option_map}
use Rattle.mt_files.specs.Output.{sent_line}
use Rattle.mt_model.specs.declared.texts.recording.Event.{Event}
use Rattle.mt_model.specs.texts.Contents.{Contents}
use Rattle.mt_compare.specs.mt_runs.Messages.{run}
use Rattle.mt_soak.specs.Generated.{generated}
use Rattle.mt_soak.specs.Summary.{summary_lines}
use Rattle.mt_words.specs.Words.{asked}
use Rattle.mt_words.specs.declared.asked.Asked.{Asked}
use Rattle.mt_words.specs.declared.asked.Asked.TheVariants.{Ask, Compare, Replay, Settle, Show, Soak}
use Rattle.mt_compare.specs.mt_marks.Difference.{Difference, difference}
use Rattle.mt_compare.specs.Text.{comparison_lines}
use Rattle.mt_asking.specs.Asked.{asking, showing}
use Rattle.mt_settle.specs.Settled.{settled}
use Rattle.mt_endings.specs.Endings.{Ending, Played, Recordings, in_hand_of, of_files, of_none, of_recording, of_recordings}
use Rattle.mt_endings.specs.Moments.{Input, Moment}
use Rattle.mt_endings.specs.OnDisk.{Asks, EndsInHand, of_files_alone, of_journal}
use Rattle.mt_endings.specs.Run.{Ends}
use Rattle.mt_endings.specs.declared.fault.Fault.{Fault}
use Rattle.mt_endings.specs.declared.fault.Fault.TheVariants.{Differ}
use Rattle.mt_top.specs.Begun.{Begun, begun_with}

-- REPLAY: what the node sends over the events of a recording, through every stop of its disk.

-- a line for each message
abbrev pub played : Begun → List Event → Played
played begun events = record { lines = map sent_line (run begun.given begun.sessions begun.going events); fault = None }

abbrev pub replayed : Contents → Recordings → Ending
replayed contents = of_recording (played (begun_with contents))

-- SOAK: the summary of what the node sends over so many events made from a number.

abbrev pub summary_of : Begun → ℕ → List Event → Played
summary_of begun count events = record { lines = summary_lines count (run begun.given begun.sessions begun.going events); fault = None }

abbrev pub summarized : ℕ → ℕ → Contents → Played
summarized begin count contents = summary_of (begun_with contents) count (generated begin (length contents.fabrics) count)

abbrev pub soaked : ℕ → ℕ → Contents → Recordings → Ending
soaked begin count contents = of_none (summarized begin count contents)

-- COMPARE: where two recordings first differ by the marks of a fabric. The first recording comes before the second.

abbrev pub fault_of_difference : Option Difference → Option Fault
fault_of_difference None = None
fault_of_difference (Some d) = Some Differ

abbrev pub told_difference : Option Difference → Played
told_difference found = record { lines = comparison_lines found; fault = fault_of_difference found }

abbrev pub compared_by : ℕ → Begun → List Event → List Event → Played
compared_by fabric begun first second = told_difference (difference begun.given begun.sessions fabric begun.going first second)

abbrev pub compared : ℕ → Contents → Recordings → Ending
compared fabric contents = of_recordings (compared_by fabric (begun_with contents))

-- SETTLE: a line for each key of the map with which a node goes on, behind a journal.

abbrev pub settles : List ℕ → Contents → Recordings → Ending
settles journal contents = of_none (settled contents journal)

-- ASK and SHOW: what a script, or an output, comes to on a session, is `asking` and `showing` of mt_asking.

-- What is asked for comes to this, by the bytes of a journal, with what the configuration says, and by the bytes of the recordings.
abbrev pub comes_to : Asked → List ℕ → Contents → Recordings → Ending
comes_to Replay journal = replayed
comes_to (Compare fabric) journal = compared fabric
comes_to (Soak begin count) journal = soaked begin count
comes_to Settle journal = settles journal
comes_to (Ask session) journal = asking session
comes_to (Show session) journal = showing session

-- whether the journal is looked at
abbrev pub reads_journal : Asked → Bool
reads_journal Settle = true
reads_journal wanted = false

-- how many events may be asked for
abbrev pub is_within : Asked → Bool
is_within Replay = true
is_within (Compare fabric) = true
is_within (Soak begin count) = nat_le count 100000
is_within Settle = true
is_within (Ask session) = true
is_within (Show session) = true

-- what is asked for, by the bytes of the files
abbrev pub asks_for : Asked → Asks
asks_for wanted = if reads_journal wanted then of_journal (λ (journal : List ℕ). of_files (comes_to wanted journal)) else of_files_alone (of_files (comes_to wanted []))

-- what the words ask for; None where they have no form
abbrev pub asked_of : List (List ℕ) → Option Asks
asked_of words = option_map asks_for (asked words)

-- How what is asked for ends with a configuration in hand. Where the journal is looked at, no recording is.
abbrev pub CarriesOut : ℕ → Asked → Contents → Input → Input → Moment → Moment → Type 0
CarriesOut status Settle contents before after old new = EndsInHand status (λ (journal : List ℕ). settles journal contents) before after old new × (new.first ≡ old.first) × (new.second ≡ old.second)
CarriesOut status wanted contents before after old new = Ends status (Some (in_hand_of (comes_to wanted [] contents))) old new × (after ≡ before)
