-- What a journal settles to: a line for each key of the map with which a node goes on.
use Rattle.std.specs.Prelude.{◌≡◌, ℕ, List, [], ◌∷◌, Option, Some, None, Result, Ok, Err, codes, map}
use Rattle.hex.specs.Hex.{encode_lower}
use Rattle.mt_tlv.specs.Narrow.{narrow}
use Rattle.mt_tlv.specs.View.{tree}
use Rattle.mt_tlv.specs.declared.value.Tag.TheVariants.{Anonymous}
use Rattle.mt_tlv.specs.declared.value.Value.{Value}
use Rattle.mt_durable.specs.declared.durable.Entry.{Entry}
use Rattle.mt_journal.specs.declared.reading.JournalFault.{JournalFault}
use Rattle.mt_journal.specs.declared.reading.JournalFault.TheVariants as journals
use Rattle.mt_model.specs.texts.Contents.{Contents}
use Rattle.mt_outside.specs.Stream.{RoseByOne}
use Rattle.mt_files.specs.Lines.{line_of}
use Rattle.mt_endings.specs.Endings.{Played, nothing_but}
use Rattle.mt_endings.specs.declared.fault.Fault.{Fault}
use Rattle.mt_endings.specs.declared.fault.Fault.TheVariants.{DiskFault, Memory, NotAJournal}
use Rattle.mt_keeping.specs.Recovered.{recovered}

-- the bytes of a value; in a map each key has one
abbrev pub value_bytes : Option Value → List ℕ
value_bytes None = []
value_bytes (Some value) = narrow Anonymous (tree value)

-- `K key value`, in hex
abbrev pub settled_line : Entry → List ℕ
settled_line entry = line_of (codes "K" ∷ encode_lower entry.key ∷ encode_lower (value_bytes entry.value) ∷ [])

abbrev pub settled_lines : List Entry → List (List ℕ)
settled_lines entries = map settled_line entries

-- The journal of a file always leads to a state, so the second case never stands.
abbrev pub settled_by : Result (Option (List Entry)) ℕ → Played
settled_by (Ok (Some entries)) = record { lines = settled_lines entries; fault = None }
settled_by (Ok None) = record { lines = []; fault = None }
settled_by (Err place) = nothing_but (NotAJournal place)

-- what a journal comes to under a configuration
abbrev pub settled : Contents → List ℕ → Played
settled contents journal = settled_by (recovered contents journal)

-- Why nothing is told of a journal: a call of the disk failed, there was no memory, or it is none.
abbrev pub StopsSettling : Fault → Contents → Option (List ℕ) → ℕ → ℕ → Type 0
StopsSettling DiskFault contents told old new = RoseByOne old new
StopsSettling Memory contents told old new = new ≡ old
StopsSettling (NotAJournal place) contents told old new = (new ≡ old) × ((journal : List ℕ) → told ≡ Some journal → settled contents journal ≡ nothing_but (NotAJournal place))
StopsSettling fault contents told old new = ⊥

-- what keeps a journal from being recovered, as the fault of a run
abbrev pub fault_of : JournalFault → Fault
fault_of journals.Disk = DiskFault
fault_of (journals.NotAJournal place) = NotAJournal place
fault_of journals.Memory = Memory
