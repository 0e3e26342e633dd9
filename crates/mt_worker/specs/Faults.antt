-- Why a worker stopped working, and with which status.
use Rattle.std.specs.Prelude.{◌≡◌, ℕ, ◌+◌, true, List, Result, Ok, Err, Some, length, ⊤}
use Rattle.mt_files.specs.Form.{HasForm, IsEvent}
use Rattle.mt_outside.specs.Stream.{one_more}
use Rattle.mt_layer.specs.mt_shared.Book.{is_full, stop_in}
use Rattle.mt_layer.specs.mt_shared.Shared.{IsRefused, NodePass}
use Rattle.mt_layer.specs.mt_shared.ActFault.{ActFault}
use Rattle.mt_layer.specs.mt_shared.TheVariants as acts
use Rattle.mt_layer.specs.mt_shared.Call.{Call}
use Rattle.mt_layer.specs.mt_shared.Entry.{Entry}
use Rattle.mt_layer.specs.mt_shared.Stop.{Stop}
use Rattle.mt_worker.specs.declared.fault.WorkFault.{WorkFault}
use Rattle.mt_worker.specs.declared.fault.WorkFault.TheVariants.{Memory, Stopped, Link, Full}

abbrev pub fault_of : ActFault → WorkFault
fault_of (acts.Stopped stop) = Stopped
fault_of (acts.RecordFull entries bytes) = Full
fault_of acts.Memory = Memory

-- the node refused the call, a line of a recording, which is this fault
abbrev pub IsDenied : NodePass → NodePass → Call → WorkFault → Type 0
IsDenied before after call fault = (refused : ActFault) × (fault ≡ fault_of refused) × HasForm call.event × IsRefused before after call refused

-- THE STATUSES
abbrev pub status_in : WorkFault → ℕ
status_in Memory = 7
status_in Stopped = 8
status_in Link = 12
status_in Full = 13

abbrev pub status_of : {T : Type 0} → Result T WorkFault → ℕ
status_of (Ok x) = 0
status_of (Err fault) = status_in fault

-- THE CAUSES, told by what the pass has then seen. Stopped: the book ends with a stop, at its last place. Full: the book has no room for the line of a call that was refused, one that a recording can have.
abbrev pub IsCause : List Entry → WorkFault → Type 0
IsCause seen Memory = ⊤
IsCause seen Stopped = (stop : Stop) × (stop_in seen ≡ Some stop) × (length seen ≡ stop.place + 1)
IsCause seen Link = ⊤
IsCause seen Full = (call : Call) × HasForm call.event × IsEvent call.event × (is_full seen call ≡ true)

-- Link: the outlet's count of faults rose by one. Else it is as it was.
abbrev pub Counts : {T : Type 0} → Result T WorkFault → ℕ → ℕ → Type 0
Counts (Ok x) before now = now ≡ before
Counts (Err Link) before now = now ≡ one_more before
Counts (Err fault) before now = now ≡ before
