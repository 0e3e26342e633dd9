-- The node under its lock: what a pass has seen, and what a call makes of that.
use Rattle.std.specs.Prelude.{◌≡◌, true, false, List, [], ◌∷◌, ◌++◌, Some, None, length, slice_get}
use mathlib.Core.List.{IsPrefix}
use Rattle.atomic_table.specs.Seated.{TableId}
use Rattle.mt_turn.specs.History.{IsRecorded}
use Rattle.mt_turn.specs.Known.{Known, places_after}
use Rattle.mt_interactions.specs.Configured.{ConfiguredInteractions}
use Rattle.mt_shared.specs.Acts.{Refuses}
use Rattle.mt_shared.specs.Book.{done, is_full, lines_in, record_size, stop_in, time_for}
use Rattle.mt_shared.specs.Replay.{told}
use Rattle.mt_shared.specs.declared.entry.ActFault.{ActFault}
use Rattle.mt_shared.specs.declared.entry.ActFault.TheVariants.{Stopped, RecordFull}
use Rattle.mt_shared.specs.declared.entry.Call.{Call}
use Rattle.mt_shared.specs.declared.entry.Entry.{Entry}
use Rattle.mt_shared.specs.declared.entry.Stamped.{Stamped}
use Rattle.mt_shared.specs.declared.entry.Stop.{Stop}

-- the lock, and the node with which its book began
pub record SharedView : Type 0 where
  pub lock : TableId
  pub origin : ConfiguredInteractions

-- what is known of a thread's pass
abbrev pub NodePass : Type 0
NodePass = Known Entry ConfiguredInteractions

-- a pass of this lock that is outside
abbrev pub IsPassOf : SharedView → NodePass → Type 0
IsPassOf node pass = (pass.lock ≡ node.lock) × (pass.origin ≡ Some node.origin) × (pass.inside ≡ false)

-- The call was answered. It stands in the one book, directly behind a book that begins with all that the pass had seen, at the answered place,
-- which is above all places of the pass and becomes one of them. What the replay answers there is the answer.
pub record IsAnswered (origin : ConfiguredInteractions) (old new : NodePass) (call : Call) (stamped : Stamped) : Type 0 where
  pub recorded : IsRecorded old new (done call stamped.ms)
  pub time : stamped.ms ≡ time_for recorded.found call
  pub runs : stop_in recorded.found ≡ None
  pub room : is_full recorded.found call ≡ false
  pub place : new.places ≡ old.places ++ stamped.place ∷ []
  pub told_there : slice_get (told origin new.seen) stamped.place ≡ Some (done call stamped.ms, stamped.answer)

-- The call was refused. It found a book that begins with all that the pass had seen; what the pass has seen now is that book, or, where its
-- commit failed, that book and the stop. Where that book ends with a stop it is this that refuses, and else where it is full that, with the numbers of
-- its lines and bytes.
pub record IsRefused (old new : NodePass) (call : Call) (fault : ActFault) : Type 0 where
  pub found : List Entry
  pub begins : IsPrefix old.seen found
  pub refuses : Refuses fault call found new.seen
  pub places : new.places ≡ places_after found new.seen old.places
  pub again : (stop : Stop) → stop_in found ≡ Some stop → fault ≡ Stopped stop
  pub full : stop_in found ≡ None → is_full found call ≡ true → fault ≡ RecordFull (length (lines_in found)) (record_size found)
