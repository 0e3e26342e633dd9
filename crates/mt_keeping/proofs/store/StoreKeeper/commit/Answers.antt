use Rattle.std.proofs.Common.{List, subst}
use Rattle.mt_durable.specs.Reading.{said}
use Rattle.mt_durable.specs.Setting.{with_all}
use Rattle.mt_durable.specs.declared.durable.Entry.{Entry}
use Rattle.mt_journal.specs.Standing.{switch_calls}
use Rattle.mt_store.specs.Leading.{HoldsEither}
use Rattle.mt_keeping.specs.Recovered.{KeepsMap, RecoversEither, RecoversFrom, StopHoldsMap, is_state_image, may_follow}
use Rattle.mt_keeping.proofs.Recovering.{either_recovers, leaves_then, of_err, on_ok, safe_recovers}
use Rattle.mt_keeping.proofs.store.StoreKeeper.commit.Goals as goal

-- in use
pub returns-in_default-clause-committed : goal.returns-in_default-clause-committed
returns-in_default-clause-committed g c = rw (← c.self.view_is) (rw c.in_default.is c.commit.ensures.committed)

pub returns-in_default-clause-part : goal.returns-in_default-clause-part
returns-in_default-clause-part g c = rw (← c.self.view_is) (rw c.in_default.is c.commit.ensures.part)

pub returns-in_default-clause-kept : goal.returns-in_default-clause-kept
returns-in_default-clause-kept g c = rw (← c.self.view_is) c.commit.ensures.kept

pub returns-in_default-clause-moments : goal.returns-in_default-clause-moments
returns-in_default-clause-moments g c = rw (← c.self.view_is) (rw c.in_default.is (λ contents keeps.
    (let image = c.self.inside.store.image in
    let after = with_all (said c.args.change.now) image in
    leaves_then {D = g.row.D.Denot} g.D.Disk.moment g.D.Disk.images_since c.self.inside.store.journal.disk c.commit.new.self.journal.disk
    (HoldsEither is_state_image may_follow image after) (RecoversEither contents image after) (either_recovers contents image after) (c.commit.ensures.moments keeps))))

pub returns-in_default-clause-acknowledged : goal.returns-in_default-clause-acknowledged
returns-in_default-clause-acknowledged g c = rw (← c.self.view_is) (rw c.in_default.is (λ contents file keeps.
    (let new = c.commit.new.self in
    on_ok c.commit.result (KeepsMap {D = g.row.D.Denot} g.D.Disk.contents g.D.Disk.images new.journal.disk new.journal.place new.image) (g.D.Disk.images new.journal.disk file → RecoversFrom contents new.image file)
    (λ kept. safe_recovers {D = g.row.D.Denot} contents g.D.Disk.contents g.D.Disk.images new.journal.disk new.journal.place new.image kept file)
    (c.commit.ensures.kept keeps))))

pub returns-in_default-clause-left : goal.returns-in_default-clause-left
returns-in_default-clause-left g c = rw (← c.self.view_is) (rw c.in_default.is c.commit.ensures.left)

-- the first commit
pub returns-in_err-lead_to-clause-moments : goal.returns-in_err-lead_to-clause-moments
returns-in_err-lead_to-clause-moments g c = rw (← c.self.view_is) (rw c.in-Some.is (λ contents keeps.
    (let image = c.self.inside.store.image in
    let next = c.follow.new.self in
    leaves_then {D = g.row.D.Denot} g.D.Disk.moment g.D.Disk.images_since c.self.inside.store.journal.disk c.lead_to.new.self.journal.disk
    (HoldsEither is_state_image may_follow image next) (RecoversEither contents image (with_all (said c.args.change.now) c.in-Some.rolled.image))
    (λ file has. subst (λ (map : List Entry). RecoversEither contents image map file) c.follow.ensures.value (either_recovers contents image next file has))
    (c.lead_to.ensures.moments keeps))))

pub returns-in_err-lead_to-clause-left : goal.returns-in_err-lead_to-clause-left
returns-in_err-lead_to-clause-left g c = rw (← c.self.view_is) (rw c.in-Some.is (λ keeps ready.
    of_err c.from_residual.result _
    (subst (λ (map : List Entry). StopHoldsMap (switch_calls c.self.inside.store.journal.place) c.self.inside.store.image map (g.D.Disk.allowed c.self.inside.store.journal.disk) (g.D.Disk.allowed c.lead_to.new.self.journal.disk) (g.D.Disk.log c.lead_to.new.self.journal.disk))
    c.follow.ensures.value (c.in_err-lead_to.ensures.left keeps ready))))

pub returns-clause-kept : goal.returns-clause-kept
returns-clause-kept g c = rw (← c.self.view_is) c.in_ok-lead_to.ensures.kept

pub returns-clause-moments : goal.returns-clause-moments
returns-clause-moments g c = rw (← c.self.view_is) (rw c.in-Some.is (λ contents keeps.
    (let image = c.self.inside.store.image in
    let next = c.follow.new.self in
    leaves_then {D = g.row.D.Denot} g.D.Disk.moment g.D.Disk.images_since c.self.inside.store.journal.disk c.lead_to.new.self.journal.disk
    (HoldsEither is_state_image may_follow image next) (RecoversEither contents image (with_all (said c.args.change.now) c.in-Some.rolled.image))
    (λ file has. subst (λ (map : List Entry). RecoversEither contents image map file) c.follow.ensures.value (either_recovers contents image next file has))
    (c.lead_to.ensures.moments keeps))))

pub returns-clause-acknowledged : goal.returns-clause-acknowledged
returns-clause-acknowledged g c = rw (← c.self.view_is) (λ contents file keeps.
    (let new = c.lead_to.new.self in
    safe_recovers {D = g.row.D.Denot} contents g.D.Disk.contents g.D.Disk.images new.journal.disk new.journal.place new.image (c.in_ok-lead_to.ensures.kept keeps) file))
