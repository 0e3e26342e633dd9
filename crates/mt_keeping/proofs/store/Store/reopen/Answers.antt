use Rattle.std.proofs.Common.{◌≡◌, ap, ◌∙◌}
use Rattle.mt_keeping.specs.States.{KeepingState}
use Rattle.mt_keeping.proofs.store.Store.reopen.Goals as goal

pub returns-in-Ok-clause-kept : goal.returns-in-Ok-clause-kept
returns-in-Ok-clause-kept g c = λ file told.
    (let disk : c.self.inside.store.journal.disk ≡ c.args.self.now.store.journal.disk = ap (λ (s : KeepingState g.row.D.Denot). s.store.journal.disk) c.self.view_is in
    rw c.in_ok-map.ensures.image (c.in_ok-map.ensures.recovered file (ap g.D.Disk.contents disk ∙ told)).1)
