use Rattle.mt_store.specs.Leading.{Holds}
use Rattle.mt_keeping.specs.Recovered.{RecoversFrom, is_state_image, may_follow}
use Rattle.mt_keeping.proofs.Recovering.{leaves_then, recovers}
use Rattle.mt_keeping.proofs.store.Store.compact.Goals as goal

pub returns-clause-moments : goal.returns-clause-moments
returns-clause-moments g c = rw (← c.self.view_is) (λ contents keeps.
    (let image = c.self.inside.store.image in
    leaves_then {D = g.row.D.Denot} g.D.Disk.moment g.D.Disk.images_since c.self.inside.store.journal.disk c.compact.new.self.journal.disk
    (Holds is_state_image may_follow image) (RecoversFrom contents image) (recovers contents image) (c.compact.ensures.moments keeps)))

pub returns-clause-kept : goal.returns-clause-kept
returns-clause-kept g c = rw (← c.self.view_is) c.compact.ensures.kept
