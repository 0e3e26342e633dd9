-- The record of a book.
use Rattle.std.specs.Prelude.{◌≡◌, ℕ, List, ◌++◌, Option, Result, Ok, Err, map}
use Rattle.mt_files.specs.Event.{event_line}
use Rattle.mt_files.specs.Lines.{text_of}
use Rattle.mt_files.specs.Recording.{recording_text}
use Rattle.mt_model.specs.declared.texts.recording.Event.{Event}
use Rattle.mt_outside.specs.Stream.{RoseByOne, Took, TookLess}
use Rattle.mt_starting.specs.mt_shared.Book.{lines_in}
use Rattle.mt_starting.specs.mt_shared.Entry.{Entry}
use Rattle.mt_serving.specs.declared.recording.RecordFault.{RecordFault}
use Rattle.mt_serving.specs.declared.recording.RecordFault.TheVariants.{Memory, Write}

-- a recording of its lines, in their order, each at the time at which it was done
abbrev pub record_of : List Entry → List ℕ
record_of book = recording_text (lines_in book)

-- the lines of these events
abbrev pub event_lines : List Event → List ℕ
event_lines events = text_of (map event_line events)

-- a front of these bytes was added at the end of what was written, with what is missing of them
abbrev pub TookFront : Option (List ℕ) → Option (List ℕ) → List ℕ → Type 0
TookFront before after bytes = (front : List ℕ) × (rest : List ℕ) × (front ++ rest ≡ bytes) × Took before after front

-- All of it was written; or less, where the sink failed; or a front, where memory was wanting.
abbrev pub Writes : {T : Type 0} → Result T RecordFault → List ℕ → Option (List ℕ) → Option (List ℕ) → ℕ → ℕ → Type 0
Writes (Ok x) text before after old new = Took before after text × (new ≡ old)
Writes (Err Write) text before after old new = TookLess before after text × RoseByOne old new
Writes (Err Memory) text before after old new = TookFront before after text × (new ≡ old)
