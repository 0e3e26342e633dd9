use Rattle.std.proofs.Common.{◌∙◌, ap}
use Rattle.mt_outside.specs.Logs.{fewer}
use Rattle.mt_outside.specs.MemoryDisk.{DiskState, forgotten, held}
use Rattle.mt_journal.specs.Standing.{switch_calls}
use Rattle.mt_play.proofs.Disks.{kept_held}
use Rattle.mt_play.proofs.journal.compact_if_long.Goals as goal

pub returns-clause-keeps : goal.returns-clause-keeps
returns-clause-keeps c map keeps =
    let old = c.args.store.now in
    let journal = c.compact.new.self.store.journal in
    let now = c.forget.new.self in
    let lent = c.disk_mut.ensures.value in
    record {
      is = record {
        keeps = kept_held journal.disk now journal.place c.compact.new.self.store.image (c.forget.ensures.held ∙ ap held lent) (c.in-Ok.ensures.kept keeps.is.keeps);
        ready = c.in-Ok.ensures.failed;
      };
      runs = ap (λ (d : DiskState). d.stop) (c.forget.ensures.forgotten ∙ ap forgotten lent) ∙ c.in-Ok.ensures.lasts.0 ∙ ap (fewer (switch_calls old.store.journal.place)) keeps.runs;
      image = c.in-Ok.ensures.image ∙ keeps.image;
      in_use = c.in-Ok.ensures.told;
    }
