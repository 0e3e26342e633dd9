use Rattle.std.proofs.Common.{◌≡◌, [], ◌∷◌}
use Rattle.std.specs.Prelude.{Some}
use Rattle.mt_durable.specs.Reading.{said}
use Rattle.mt_journal.specs.Standing.{HasEither, StandsFor, switch_calls}
use Rattle.mt_journal.specs.Stopping.{StopLeaves}
use Rattle.mt_store.specs.Leading.{HoldsEither, Keeps, StopHolds, map_of}
use Rattle.mt_store.proofs.Leads.{either_holds, leaves_then, map_of_image, on_ok}
use Rattle.mt_store.proofs.Stops.{on_err, stop_holds}
use Rattle.mt_store.proofs.store.switch_to.Goals as goal

pub returns-clause-kept : goal.returns-clause-kept
returns-clause-kept g c = λ map keeps.
    (let image = c.args.image.now in
    let leads : map_of (image ∷ []) ≡ Some (said image) = map_of_image c.bytes_of_a_change_are_read.ensures.read c.changes_lead_on.ensures.from_empty image c.requires.image_form in
    on_ok c.switch.result
    (StandsFor {D = g.row.D.Denot} g.D.Disk.contents g.D.Disk.images g.F.Form.image g.F.Form.change c.switch.new.self.disk c.switch.new.self.place (image ∷ []))
    (Keeps {D = g.row.D.Denot} g.D.Disk.contents g.D.Disk.images g.F.Form.image g.F.Form.change c.switch.new.self.disk c.switch.new.self.place (said image))
    (λ stands. record { list = image ∷ []; stands = stands; leads = leads })
    (c.switch.ensures.replaced keeps.list keeps.stands))

pub returns-clause-moments : goal.returns-clause-moments
returns-clause-moments g c = λ map keeps.
    (let image = c.args.image.now in
    let leads : map_of (image ∷ []) ≡ Some (said image) = map_of_image c.bytes_of_a_change_are_read.ensures.read c.changes_lead_on.ensures.from_empty image c.requires.image_form in
    leaves_then {D = g.row.D.Denot} g.D.Disk.moment g.D.Disk.images_since c.args.journal.now.disk c.switch.new.self.disk
    (HasEither g.F.Form.image g.F.Form.change keeps.list (image ∷ [])) (HoldsEither g.F.Form.image g.F.Form.change map (said image))
    (either_holds g.F.Form.image g.F.Form.change keeps.list (image ∷ []) map (said image) keeps.leads leads)
    (c.switch.ensures.moments keeps.list keeps.stands))

pub returns-clause-left : goal.returns-clause-left
returns-clause-left g c = λ map keeps ready.
    (let image = c.args.image.now in
    let calls = switch_calls c.args.journal.now.place in
    let leads : map_of (image ∷ []) ≡ Some (said image) = map_of_image c.bytes_of_a_change_are_read.ensures.read c.changes_lead_on.ensures.from_empty image c.requires.image_form in
    on_err c.switch.result
    (StopLeaves g.F.Form.image g.F.Form.change calls keeps.list (image ∷ []) (g.D.Disk.allowed c.args.journal.now.disk) (g.D.Disk.allowed c.switch.new.self.disk) (g.D.Disk.log c.switch.new.self.disk))
    (StopHolds g.F.Form.image g.F.Form.change calls map (said image) (g.D.Disk.allowed c.args.journal.now.disk) (g.D.Disk.allowed c.switch.new.self.disk) (g.D.Disk.log c.switch.new.self.disk))
    (stop_holds g.F.Form.image g.F.Form.change calls keeps.list (image ∷ []) map (said image) keeps.leads leads (g.D.Disk.allowed c.args.journal.now.disk) (g.D.Disk.allowed c.switch.new.self.disk) (g.D.Disk.log c.switch.new.self.disk))
    (c.switch.ensures.left keeps.list keeps.stands ready))
