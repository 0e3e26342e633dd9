use Rattle.std.proofs.Common.{◌∙◌, ap, Some}
use Rattle.mt_shared.specs.mt_keeping.States.{told_map}
use Rattle.mt_starting.proofs.Keeps.{between, keeps_on, on_err}
use Rattle.mt_starting.proofs.safe.SafeStoreKeeper.commit.Goals as goal

pub invariant_of-self : goal.invariant_of-self
invariant_of-self g c =
    keeps_on {D = g.row.D.Denot} g.D.Disk.contents g.D.Disk.images g.D.Disk.moment g.D.Disk.images_since g.met.D.Disk.counts_now
    c.self.inside.store c.commit.new.self c.self.invariant c.args.change.now c.commit.result
    c.commit.ensures.still c.commit.ensures.failed c.commit.ensures.in_use c.commit.ensures.kept c.commit.ensures.acknowledged

pub returns-clause-between : goal.returns-clause-between
returns-clause-between g c before after ran is leads =
    on_err c.commit.result _ (λ always. between {D = g.row.D.Denot} g.D.Disk.contents g.D.Disk.images g.D.Disk.moment g.D.Disk.images_since g.met.D.Disk.counts_now
    c.self.inside.store c.commit.new.self c.self.invariant c.args.change.now c.commit.result
    c.requires.form c.commit.ensures.moments c.bytes_of_a_change_are_read.ensures.read c.states_may_be_committed.ensures.one
    (rw (← c.told.ensures) c.as_slice-told.ensures.says.ascend) (rw (← c.told.ensures) c.as_slice-told.ensures.whole)
    before after (ap (λ s. s.store.journal.failed) c.self.view_is ∙ ran) (ap (λ s. Some (told_map s)) c.self.view_is ∙ is) leads always)

pub returns-clause-committed : goal.returns-clause-committed
returns-clause-committed g c = rw (← c.self.view_is) c.commit.ensures.committed

pub returns-clause-part : goal.returns-clause-part
returns-clause-part g c = rw (← c.self.view_is) c.commit.ensures.part

pub returns-clause-moments : goal.returns-clause-moments
returns-clause-moments g c = rw (← c.self.view_is) c.commit.ensures.moments

pub returns-clause-acknowledged : goal.returns-clause-acknowledged
returns-clause-acknowledged g c = rw (← c.self.view_is) c.commit.ensures.acknowledged
