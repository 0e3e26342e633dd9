use Rattle.std.proofs.Common.{List, subst, ⊎_elim}
use Rattle.std.specs.Prelude.{OnOk}
use Rattle.mt_durable.specs.declared.durable.Entry.{Entry}
use Rattle.mt_outside.specs.Disk.{LeavesOnly}
use Rattle.mt_store.specs.Leading.{Holds, HoldsEither, Keeps}
use Rattle.mt_store.proofs.Leads.{leaves_then, said_is}
use Rattle.mt_store.proofs.store.Store.compact.Goals as goal

pub returns-clause-kept : goal.returns-clause-kept
returns-clause-kept g c = rw (← c.self.view_is) (λ keeps.
    (let same = said_is c.bytes_of_a_change_are_read.ensures.read c.self.inside.image c.as_slice.result.now c.as_slice.ensures.says in
    subst (λ (m : List Entry). OnOk c.switch_to.result (Keeps {D = g.row.D.Denot} g.D.Disk.contents g.D.Disk.images g.F.Form.image g.F.Form.change c.switch_to.new.journal.disk c.switch_to.new.journal.place m))
    same (c.switch_to.ensures.kept c.self.inside.image keeps)))

pub returns-clause-moments : goal.returns-clause-moments
returns-clause-moments g c = rw (← c.self.view_is) (λ keeps.
    (let map = c.self.inside.image in
    let same = said_is c.bytes_of_a_change_are_read.ensures.read map c.as_slice.result.now c.as_slice.ensures.says in
    let either = subst (λ (m : List Entry). LeavesOnly {D = g.row.D.Denot} g.D.Disk.moment g.D.Disk.images_since c.self.inside.journal.disk c.switch_to.new.journal.disk (HoldsEither g.F.Form.image g.F.Form.change map m))
    same (c.switch_to.ensures.moments map keeps) in
    leaves_then {D = g.row.D.Denot} g.D.Disk.moment g.D.Disk.images_since c.self.inside.journal.disk c.switch_to.new.journal.disk
    (HoldsEither g.F.Form.image g.F.Form.change map map) (Holds g.F.Form.image g.F.Form.change map) (λ file has. ⊎_elim (λ one. one) (λ one. one) has) either))
