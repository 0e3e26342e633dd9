-- What is left after writes and syncs.
use Rattle.std.proofs.Common.{◌≡◌, ℕ, ◌≤◌, List, [], ◌∷◌, length, arith}
use Rattle.std.proofs.lemmas.List.{length-append, length-take, length-replicate}
use Rattle.mt_outside.specs.MemoryDisk.{DiskEvent, half_torn}
use Rattle.mt_outside.specs.MemoryDisk.DiskEvent.{wrote, synced}
use Rattle.mt_outside.specs.Replaying.{left_after, left_after_one}
use Rattle.mt_outside.specs.declared.fate.Fate.{Fate}
use Rattle.mt_outside.specs.declared.fate.Fate.TheVariants.{Kept, Lost, Torn}
use Rattle.mt_outside.proofs.Overwriting.{length-overwritten}

pub length-half_torn : (bytes : List ℕ) → length (half_torn bytes) ≡ length bytes
length-half_torn bytes = simp (length-append, length-take, length-replicate) (omega arith)

-- nothing gets shorter
grows_one : (fate : Fate) (bytes : List ℕ) (event : DiskEvent) → length bytes ≤ length (left_after_one fate bytes event)
grows_one Kept bytes (wrote at from) = omega (arith, length-overwritten at from bytes)
grows_one Lost bytes (wrote at from) = omega arith
grows_one Torn bytes (wrote at from) = omega (arith, length-overwritten at (half_torn from) bytes)
grows_one Kept bytes synced = omega arith
grows_one Lost bytes synced = omega arith
grows_one Torn bytes synced = omega arith

pub grows : (fate : Fate) (bytes : List ℕ) (events : List DiskEvent) → length bytes ≤ length (left_after fate bytes events)
grows fate bytes [] = omega arith
grows fate bytes (event ∷ events) = omega (arith, grows_one fate bytes event, grows fate (left_after_one fate bytes event) events)
