-- What a stop in a commit leaves, as a map.
use Rattle.std.proofs.Common.{◌≡◌, ℕ, true, false, List, refl, arith}
use Rattle.std.specs.Prelude.{Option, Some, None, Result, Ok, Err, IfSome, IsTrue, OnErr, Bool, if◌then◌else◌}
use Rattle.mt_durable.specs.declared.durable.Entry.{Entry}
use Rattle.mt_journal.specs.Layout.{MayFollow}
use Rattle.mt_journal.specs.Standing.{fits_at, switch_calls}
use Rattle.mt_journal.specs.Stopping.{LogLeaves, StopLeaves, list_left, survives}
use Rattle.mt_journal.specs.declared.position.Position.{Position}
use Rattle.mt_journal.specs.declared.position.Position.TheVariants.{Fresh, Begun, Log, InUse}
use Rattle.mt_outside.specs.Logs.{DiskLog, held_of}
use Rattle.mt_outside.specs.MemoryDisk.{left_by}
use Rattle.mt_outside.specs.declared.stop.Stop.{Stop}
use Rattle.mt_store.specs.Leading.{Holds, StopHolds, map_left, map_of}

-- what is left leads to the one map or to the other, as it is the one list or the other
left_leads : (survived : Bool) (list other : List (List ℕ)) (map after : List Entry) → map_of list ≡ Some map → map_of other ≡ Some after → map_of (if survived then other else list) ≡ Some (if survived then after else map)
left_leads true list other map after leads behind = behind
left_leads false list other map after leads behind = leads

log_holds : (image : List ℕ → Bool) (change : MayFollow) (calls : ℕ) (list other : List (List ℕ)) (map after : List Entry) → map_of list ≡ Some map → map_of other ≡ Some after → (stop : Stop) (log : Option DiskLog)
    → LogLeaves image change stop.fate (list_left calls stop list other) log → IfSome log (λ (l : DiskLog). Holds image change (map_left calls stop map after) (left_by stop.fate (held_of l)))
log_holds image change calls list other map after leads behind stop None left = tt
log_holds image change calls list other map after leads behind stop (Some l) left = record { list = list_left calls stop list other; has = left; leads = left_leads (survives calls stop) list other map after leads behind }

pub stop_holds : (image : List ℕ → Bool) (change : MayFollow) (calls : ℕ) (list other : List (List ℕ)) (map after : List Entry) → map_of list ≡ Some map → map_of other ≡ Some after
    → (allowed now : Option Stop) (log : Option DiskLog) → StopLeaves image change calls list other allowed now log → StopHolds image change calls map after allowed now log
stop_holds image change calls list other map after leads behind None now log leaves = tt
stop_holds image change calls list other map after leads behind (Some stop) now log leaves = λ halts. ((leaves halts).0, log_holds image change calls list other map after leads behind stop log (leaves halts).1)

pub on_err : {T E : Type 0} (result : Result T E) (P Q : Type 0) → (P → Q) → OnErr result P → OnErr result Q
on_err (Ok x) P Q leads p = p
on_err (Err e) P Q leads p = leads p

-- what holds, holds of an error too
pub of_err : {T E : Type 0} (result : Result T E) (P : Type 0) → P → OnErr result P
of_err (Ok x) P p = tt
of_err (Err e) P p = p

-- a change that fits is added in four calls, as an image is put where there is one
pub four_calls : (place : Position) (count : ℕ) → IsTrue (fits_at place count) → switch_calls place ≡ 4
four_calls Fresh count fits = absurd (grind (arith, fits))
four_calls Begun count fits = refl
four_calls (Log gate) count fits = refl
four_calls (InUse base p0 p1 gate) count fits = refl
