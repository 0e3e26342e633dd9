-- The status of each fault, and the last line that tells it.
use Rattle.std.specs.Prelude.{ℕ, List, [], ◌++◌, codes}
use Rattle.std.specs.Fmt.{decimal}
use Rattle.mt_config.specs.Configuration.{name_of}
use Rattle.mt_model.specs.texts.LineKinds.{kind_name}
use Rattle.mt_model.specs.declared.texts.line_fault.LineFault.{LineFault}
use Rattle.mt_model.specs.declared.texts.line_fault.LineFault.TheVariants as lines
use Rattle.mt_endings.specs.declared.fault.Fault.{Fault}
use Rattle.mt_endings.specs.declared.fault.Fault.TheVariants.{BadWords, BadConfig, BadRecord, ReadFault, WriteFault, Memory, DiskFault, NotAJournal, TooLong, Differ, NoSession, Exhausted}

-- what a text comes to that is no recording, no script or no output, or was not read
abbrev pub fault_of : LineFault → Fault
fault_of (lines.Line line kind) = BadRecord line kind
fault_of lines.TooLong = TooLong
fault_of lines.Memory = Memory

abbrev pub status_of : Fault → ℕ
status_of BadWords = 2
status_of (BadConfig field) = 3
status_of (BadRecord line kind) = 4
status_of ReadFault = 5
status_of WriteFault = 6
status_of Memory = 7
status_of DiskFault = 8
status_of (NotAJournal place) = 9
status_of TooLong = 10
status_of Differ = 11
status_of NoSession = 15
status_of (Exhausted line) = 16

-- What the last line says of a fault. That two recordings differ is told by lines that stand before, and has no last line.
unfoldable pub fault_text : Fault → List ℕ
fault_text BadWords = codes "fault 2 words"
fault_text (BadConfig field) = codes "fault 3 config " ++ name_of field
fault_text (BadRecord line kind) = codes "fault 4 line " ++ (decimal line ++ (codes " " ++ kind_name kind))
fault_text ReadFault = codes "fault 5 read"
fault_text WriteFault = codes "fault 6 write"
fault_text Memory = codes "fault 7 memory"
fault_text DiskFault = codes "fault 8 disk"
fault_text (NotAJournal place) = codes "fault 9 journal " ++ decimal place
fault_text TooLong = codes "fault 10 long"
fault_text Differ = []
fault_text NoSession = codes "fault 15 session"
fault_text (Exhausted line) = codes "fault 16 line " ++ decimal line

-- The last line of a run that a fault ended. A sink that failed gets none.
unfoldable pub fault_line : Fault → List ℕ
fault_line Differ = []
fault_line fault = fault_text fault ++ codes "\n"
