-- What a journal has, on a disk in memory that runs or rests.
use Rattle.std.specs.Prelude.{◌≡◌, false, List, None}
use Rattle.mt_durable.specs.declared.durable.Entry.{Entry}
use Rattle.mt_model.specs.texts.Contents.{Contents}
use Rattle.mt_outside.specs.MemoryDisk.{DiskState, contents_of}
use Rattle.mt_keeping.specs.Laws.{KeepsInMemory}
use Rattle.mt_keeping.specs.Recovered.{RecoversFrom}
use Rattle.mt_keeping.specs.States.{KeepingState}

-- a store to which may be committed: its journal is in use, and no call has failed
pub record IsReady (store : KeepingState DiskState) : Type 0 where
  pub keeps : KeepsInMemory store.store.journal.disk store.store.journal.place store.store.image
  pub ready : store.store.journal.failed ≡ false

-- and the journal has this map; no stop of the disk is to come
pub record Keeps (store : KeepingState DiskState) (map : List Entry) : Type 0 where
  pub is : IsReady store
  pub runs : store.store.journal.disk.stop ≡ None
  pub image : store.store.image ≡ map
  pub in_use : store.rolled ≡ None

-- A disk that was restarted, and holds what a node goes on with behind this map.
pub record Rests (store : KeepingState DiskState) (map : List Entry) : Type 0 where
  pub runs : store.store.journal.disk.stop ≡ None
  pub recovers : (contents : Contents) → RecoversFrom contents map (contents_of store.store.journal.disk)
