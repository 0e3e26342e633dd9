-- A fault never has status 0.
use Rattle.std.proofs.Common.{◌≡◌, ℕ, ◌<◌, List, Option, arith}
use Rattle.mt_endings.specs.Faults.{status_of}
use Rattle.mt_endings.specs.Parts.{Finishes, IsTold}
use Rattle.mt_endings.specs.Parts.Finishes.{told_line, no_memory, no_sink}
use Rattle.mt_endings.specs.Parts.IsTold.{whole_line, part_of_line}
use Rattle.mt_endings.specs.declared.fault.Fault.{Fault}
use Rattle.mt_endings.specs.declared.fault.Fault.TheVariants.{BadWords, BadConfig, BadRecord, ReadFault, WriteFault, Memory, DiskFault, NotAJournal, TooLong, Differ, NoSession, Exhausted}

above_one : (fault : Fault) → 1 < status_of fault
above_one = elim [
  | BadWords ↦ omega arith
  | BadConfig field ↦ omega arith
  | BadRecord line kind ↦ omega arith
  | ReadFault ↦ omega arith
  | WriteFault ↦ omega arith
  | Memory ↦ omega arith
  | DiskFault ↦ omega arith
  | NotAJournal place ↦ omega arith
  | TooLong ↦ omega arith
  | Differ ↦ omega arith
  | NoSession ↦ omega arith
  | Exhausted line ↦ omega arith
]

other_than_nought : (status wanted : ℕ) → status ≡ wanted → 1 < wanted → status ≡ 0 → ⊥
other_than_nought status wanted is above none = omega arith

pub told-other : (fault : Fault) (status : ℕ) (before after : Option (List ℕ)) (old new : ℕ) → IsTold fault status before after old new → status ≡ 0 → ⊥
told-other fault status before after old new = elim [
  | whole_line is calm took ↦ other_than_nought status (status_of fault) is (above_one fault)
  | part_of_line is rose less ↦ other_than_nought status 6 is (omega arith)
]

pub finishes-other : (fault : Fault) (status : ℕ) (before after : Option (List ℕ)) (old new : ℕ) → Finishes fault status before after old new → status ≡ 0 → ⊥
finishes-other fault status before after old new = elim [
  | told_line other sink told ↦ told-other fault status before after old new told
  | no_memory wants is tells ↦ other_than_nought status 7 is (omega arith)
  | no_sink sink is same calm ↦ other_than_nought status 6 is (omega arith)
]
