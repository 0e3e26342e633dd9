use Rattle.std.proofs.Common.{◌∙◌, List, sym, subst}
use Rattle.std.specs.Prelude.{OnErr, OnOk}
use Rattle.mt_durable.specs.declared.durable.Entry.{Entry}
use Rattle.mt_journal.specs.Standing.{switch_calls}
use Rattle.mt_outside.specs.Disk.{LeavesOnly}
use Rattle.mt_store.specs.Leading.{HoldsEither, Keeps, StopHolds}
use Rattle.mt_store.proofs.Leads.{said_is}
use Rattle.mt_store.proofs.LeadingOver.{written_leads}
use Rattle.mt_store.proofs.store.put_map.Goals as goal

pub put-requires-clause-form : goal.put-requires-clause-form
put-requires-clause-form g c =
    (written_leads c.bytes_of_a_change_are_read.ensures.read c.differences_lead_there.ensures.leads c.differences_lead_there.ensures.says
    c.as_slice.result.now c.as_slice-image.result.now c.args.room.now c.write_difference.new.into c.in-Some.count c.args.from.now c.args.to.now
    c.as_slice.ensures.says c.as_slice.ensures.whole c.as_slice-image.ensures.says c.as_slice-image.ensures.whole
    c.in-Some.ensures.written c.in-Some.ensures.size c.requires.room).is

pub returns-in-Some-clause-kept : goal.returns-in-Some-clause-kept
returns-in-Some-clause-kept g c = λ keeps.
    (let over = written_leads c.bytes_of_a_change_are_read.ensures.read c.differences_lead_there.ensures.leads c.differences_lead_there.ensures.says
    c.as_slice.result.now c.as_slice-image.result.now c.args.room.now c.write_difference.new.into c.in-Some.count c.args.from.now c.args.to.now
    c.as_slice.ensures.says c.as_slice.ensures.whole c.as_slice-image.ensures.says c.as_slice-image.ensures.whole
    c.in-Some.ensures.written c.in-Some.ensures.size c.requires.room in
    let image = said_is c.bytes_of_a_change_are_read.ensures.read c.args.to.now c.as_slice-image.result.now c.as_slice-image.ensures.says in
    subst (λ (m : List Entry). OnOk c.put.result (Keeps {D = g.row.D.Denot} g.D.Disk.contents g.D.Disk.images g.F.Form.image g.F.Form.change c.put.new.journal.disk c.put.new.journal.place m))
    over.leads (c.put.ensures.kept c.args.from.now (image ∙ sym over.leads) keeps))

pub returns-in-Some-clause-moments : goal.returns-in-Some-clause-moments
returns-in-Some-clause-moments g c = λ keeps.
    (let over = written_leads c.bytes_of_a_change_are_read.ensures.read c.differences_lead_there.ensures.leads c.differences_lead_there.ensures.says
    c.as_slice.result.now c.as_slice-image.result.now c.args.room.now c.write_difference.new.into c.in-Some.count c.args.from.now c.args.to.now
    c.as_slice.ensures.says c.as_slice.ensures.whole c.as_slice-image.ensures.says c.as_slice-image.ensures.whole
    c.in-Some.ensures.written c.in-Some.ensures.size c.requires.room in
    let image = said_is c.bytes_of_a_change_are_read.ensures.read c.args.to.now c.as_slice-image.result.now c.as_slice-image.ensures.says in
    subst (λ (m : List Entry). LeavesOnly {D = g.row.D.Denot} g.D.Disk.moment g.D.Disk.images_since c.args.journal.now.disk c.put.new.journal.disk (HoldsEither g.F.Form.image g.F.Form.change c.args.from.now m))
    over.leads (c.put.ensures.moments c.args.from.now (image ∙ sym over.leads) keeps))

pub returns-in-Some-clause-left : goal.returns-in-Some-clause-left
returns-in-Some-clause-left g c = λ keeps ready.
    (let over = written_leads c.bytes_of_a_change_are_read.ensures.read c.differences_lead_there.ensures.leads c.differences_lead_there.ensures.says
    c.as_slice.result.now c.as_slice-image.result.now c.args.room.now c.write_difference.new.into c.in-Some.count c.args.from.now c.args.to.now
    c.as_slice.ensures.says c.as_slice.ensures.whole c.as_slice-image.ensures.says c.as_slice-image.ensures.whole
    c.in-Some.ensures.written c.in-Some.ensures.size c.requires.room in
    let image = said_is c.bytes_of_a_change_are_read.ensures.read c.args.to.now c.as_slice-image.result.now c.as_slice-image.ensures.says in
    subst (λ (m : List Entry). OnErr c.put.result (StopHolds g.F.Form.image g.F.Form.change (switch_calls c.args.journal.now.place) c.args.from.now m (g.D.Disk.allowed c.args.journal.now.disk) (g.D.Disk.allowed c.put.new.journal.disk) (g.D.Disk.log c.put.new.journal.disk)))
    over.leads (c.put.ensures.left c.args.from.now (image ∙ sym over.leads) keeps ready))

pub returns-in-None-clause-kept : goal.returns-in-None-clause-kept
returns-in-None-clause-kept g c = λ keeps.
    (let image = said_is c.bytes_of_a_change_are_read.ensures.read c.args.to.now c.as_slice-image.result.now c.as_slice-image.ensures.says in
    subst (λ (m : List Entry). OnOk c.switch_to.result (Keeps {D = g.row.D.Denot} g.D.Disk.contents g.D.Disk.images g.F.Form.image g.F.Form.change c.switch_to.new.journal.disk c.switch_to.new.journal.place m))
    image (c.switch_to.ensures.kept c.args.from.now keeps))

pub returns-in-None-clause-moments : goal.returns-in-None-clause-moments
returns-in-None-clause-moments g c = λ keeps.
    (let image = said_is c.bytes_of_a_change_are_read.ensures.read c.args.to.now c.as_slice-image.result.now c.as_slice-image.ensures.says in
    subst (λ (m : List Entry). LeavesOnly {D = g.row.D.Denot} g.D.Disk.moment g.D.Disk.images_since c.args.journal.now.disk c.switch_to.new.journal.disk (HoldsEither g.F.Form.image g.F.Form.change c.args.from.now m))
    image (c.switch_to.ensures.moments c.args.from.now keeps))
