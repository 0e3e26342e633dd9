-- The moments of the disk in memory, and what a stop leaves of it.
use Rattle.std.specs.Prelude.{◌≡◌, ◌≤◌, ℕ, List, Some, length}
use Rattle.std.proofs.Common.{arith, sym, subst}
use Rattle.std.proofs.lemmas.List.{take_all}
use Rattle.mt_outside.specs.Logs.{DiskLog, held_of, log_of}
use Rattle.mt_outside.specs.MemoryDisk.{DiskEvent, DiskState, Leaves, LeftSince, held, held_after, settled}

pub left_now : (disk : DiskState) (from : ℕ) (image : List ℕ) → from ≤ length disk.events → Leaves (held disk) image → LeftSince disk from image
left_now disk from image before now =
    (length disk.events, before, omega arith, subst (λ (es : List DiskEvent). Leaves (held_after (settled disk.first) es) image) (sym (take_all (length disk.events) disk.events (omega arith))) now)

pub left_since_now : (disk : DiskState) (image : List ℕ) → LeftSince disk (length disk.events) image → Leaves (held disk) image
left_since_now disk image left =
    subst (λ (es : List DiskEvent). Leaves (held_after (settled disk.first) es) image) (take_all left.0 disk.events (omega arith)) left.3

pub log_leaves : (disk : DiskState) (was : DiskLog) (image : List ℕ) → log_of disk ≡ Some was → Leaves (held_of was) image → Leaves (held disk) image
log_leaves disk was image is left =
    let same : record { first = disk.first; events = disk.events } ≡ was = cc is in
    subst (λ (l : DiskLog). Leaves (held_of l) image) (sym same) left
