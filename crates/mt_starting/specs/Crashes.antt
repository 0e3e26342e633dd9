-- What a crash now leaves of the disk of a store of states.
use Rattle.std.specs.Prelude.{◌≡◌, ℕ, false, List, Option, None, Some}
use Rattle.mt_durable.specs.declared.durable.Entry.{Entry}
use Rattle.mt_journal.specs.declared.position.Position.{Position}
use Rattle.mt_model.specs.texts.Contents.{Contents}
use Rattle.mt_shared.specs.mt_keeping.Recovered.{KeepsMap, RecoversEither, RecoversFrom}
use Rattle.mt_shared.specs.mt_keeping.States.{KeepingState, told_map}

-- Each disk of this kind can tell its contents.
abbrev pub AlwaysTells : {D : Type 0} → (D → Option (List ℕ)) → Type 0
AlwaysTells {D = D} contents = (disk : D) → (file : List ℕ) × (contents disk ≡ Some file)

-- THE DISK IS SAFE: its journal is in use and leads to this map, and of each file that a crash now leaves is recovered what a node goes on with
-- behind it.
pub record IsSafe {D : Type 0} (contents : D → Option (List ℕ)) (images : D → List ℕ → Type 0) (disk : D) (place : Position) (map : List Entry) : Type 0 where
  pub keeps : KeepsMap contents images disk place map
  pub recovers : (config : Contents) (file : List ℕ) → images disk file → RecoversFrom config map file

-- BETWEEN TWO MAPS: of each file that a crash now leaves is recovered what a node goes on with behind the one map or the other
abbrev pub IsBetween : {D : Type 0} → (D → List ℕ → Type 0) → D → List Entry → List Entry → Type 0
IsBetween images disk before after = (config : Contents) (file : List ℕ) → images disk file → RecoversEither config before after file

-- WHAT A STORE KEEPS to which was committed since it was recovered. Of the crashes of disks that cannot tell their contents nothing is said.
pub record KeepsSafe {D : Type 0} (contents : D → Option (List ℕ)) (images : D → List ℕ → Type 0) (state : KeepingState D) : Type 0 where
  pub in_use : state.store.journal.failed ≡ false → state.rolled ≡ None
  pub safe : AlwaysTells contents → state.store.journal.failed ≡ false → IsSafe contents images state.store.journal.disk state.store.journal.place (told_map state)
