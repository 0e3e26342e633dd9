use Rattle.std.proofs.Common.{◌≡◌, List, [], Option, Some, ap, refl, unwrap_or}
use Rattle.mt_durable.specs.declared.durable.Entry.{Entry}
use Rattle.mt_model.specs.texts.Contents as configs
use Rattle.mt_outside.specs.MemoryDisk.{DiskState, contents_of}
use Rattle.mt_play.proofs.Reopening.{new_found}
use Rattle.mt_play.proofs.playing.recovered.Goals as goal

pub returns-in-Ok-clause-ready : goal.returns-in-Ok-clause-ready
returns-in-Ok-clause-ready c = record { keeps = c.in-Ok.ensures.kept (contents_of c.in_ok-disk.disk) refl; ready = c.in-Ok.ensures.ready }

pub returns-in-Ok-clause-told : goal.returns-in-Ok-clause-told
returns-in-Ok-clause-told c = ap (λ (rolled : Option (List Entry)). unwrap_or rolled c.in-Ok.both.0.store.image) c.in-Ok.ensures.told

pub returns-in-Ok-clause-new : goal.returns-in-Ok-clause-new
returns-in-Ok-clause-new c =
    let empty : Some (contents_of c.in_ok-disk.disk) ≡ Some [] = ap (λ (disk : DiskState). Some (contents_of disk)) c.in_ok-disk.ensures in
    new_found (configs.contents_of c.args.config.now) c.in-Ok.both.1 (c.in-Ok.ensures.recovered [] empty)
