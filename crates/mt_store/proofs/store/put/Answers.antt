use Rattle.std.proofs.Common.{◌≡◌, ℕ, true, List, [], ◌∷◌, ◌++◌, length, sym, subst, ◌∙◌}
use Rattle.std.specs.Prelude.{OnErr, OnOk, Some}
use Rattle.mt_durable.specs.Reading.{is_change, said}
use Rattle.mt_durable.specs.Setting.{with_all}
use Rattle.mt_durable.specs.declared.durable.Entry.{Entry}
use Rattle.mt_journal.specs.Standing.{HasEither, StandsFor, switch_calls}
use Rattle.mt_journal.specs.Stopping.{Outlasts, StopLeaves}
use Rattle.mt_outside.specs.Disk.{LeavesOnly}
use Rattle.mt_outside.specs.Logs.{fewer}
use Rattle.mt_store.specs.Leading.{HoldsEither, Keeps, StopHolds, map_of}
use Rattle.mt_store.proofs.Leads.{change_is, may_follow, either_holds, leaves_then, map_more, on_ok}
use Rattle.mt_store.proofs.Stops.{four_calls, on_err, stop_holds}
use Rattle.mt_store.proofs.store.put.Goals as goal

pub returns-then-fits-clause-kept : goal.returns-then-fits-clause-kept
returns-then-fits-clause-kept g c = λ map next keeps.
    (let change = c.args.change.now in
    let is : is_change change ≡ true = change_is c.bytes_of_a_change_are_read.ensures.read change c.requires.form in
    let list = keeps.list ++ change ∷ [] in
    on_ok c.append.result
    (StandsFor {D = g.row.D.Denot} g.D.Disk.contents g.D.Disk.images g.F.Form.image g.F.Form.change c.append.new.self.disk c.append.new.self.place list)
    (Keeps {D = g.row.D.Denot} g.D.Disk.contents g.D.Disk.images g.F.Form.image g.F.Form.change c.append.new.self.disk c.append.new.self.place (with_all (said change) map))
    (λ stands. record { list = list; stands = stands; leads = map_more [] keeps.list change map is keeps.leads })
    (c.append.ensures.added keeps.list keeps.stands (may_follow g.F.Rule.admits (g.F.Form.change keeps.list change) change c.args.image.now map is (g.met.F.MapForm.changes keeps.list map change keeps.leads) next c.requires.admitted)))

pub returns-then-fits-clause-moments : goal.returns-then-fits-clause-moments
returns-then-fits-clause-moments g c = λ map next keeps.
    (let change = c.args.change.now in
    let is : is_change change ≡ true = change_is c.bytes_of_a_change_are_read.ensures.read change c.requires.form in
    let list = keeps.list ++ change ∷ [] in
    leaves_then {D = g.row.D.Denot} g.D.Disk.moment g.D.Disk.images_since c.args.journal.now.disk c.append.new.self.disk
    (HasEither g.F.Form.image g.F.Form.change keeps.list list) (HoldsEither g.F.Form.image g.F.Form.change map (with_all (said change) map))
    (either_holds g.F.Form.image g.F.Form.change keeps.list list map (with_all (said change) map) keeps.leads (map_more [] keeps.list change map is keeps.leads))
    (c.append.ensures.moments keeps.list keeps.stands (may_follow g.F.Rule.admits (g.F.Form.change keeps.list change) change c.args.image.now map is (g.met.F.MapForm.changes keeps.list map change keeps.leads) next c.requires.admitted)))

pub returns-else-fits-clause-kept : goal.returns-else-fits-clause-kept
returns-else-fits-clause-kept g c = λ map next keeps.
    subst (λ (m : List Entry). OnOk c.switch_to.result (Keeps {D = g.row.D.Denot} g.D.Disk.contents g.D.Disk.images g.F.Form.image g.F.Form.change c.switch_to.new.journal.disk c.switch_to.new.journal.place m))
    next (c.switch_to.ensures.kept map keeps)

pub returns-else-fits-clause-moments : goal.returns-else-fits-clause-moments
returns-else-fits-clause-moments g c = λ map next keeps.
    subst (λ (m : List Entry). LeavesOnly {D = g.row.D.Denot} g.D.Disk.moment g.D.Disk.images_since c.args.journal.now.disk c.switch_to.new.journal.disk (HoldsEither g.F.Form.image g.F.Form.change map m))
    next (c.switch_to.ensures.moments map keeps)

pub returns-then-fits-clause-left : goal.returns-then-fits-clause-left
returns-then-fits-clause-left g c = λ map next keeps ready.
    (let change = c.args.change.now in
    let is : is_change change ≡ true = change_is c.bytes_of_a_change_are_read.ensures.read change c.requires.form in
    let list = keeps.list ++ change ∷ [] in
    let after = with_all (said change) map in
    let behind : map_of list ≡ Some after = map_more [] keeps.list change map is keeps.leads in
    let four : switch_calls c.args.journal.now.place ≡ 4 = four_calls c.args.journal.now.place (length change) (sym c.fits.ensures ∙ c.if-fits.true) in
    subst (λ (n : ℕ). OnErr c.append.result (StopHolds g.F.Form.image g.F.Form.change n map after (g.D.Disk.allowed c.args.journal.now.disk) (g.D.Disk.allowed c.append.new.self.disk) (g.D.Disk.log c.append.new.self.disk))) (sym four)
    (on_err c.append.result
    (StopLeaves g.F.Form.image g.F.Form.change 4 keeps.list list (g.D.Disk.allowed c.args.journal.now.disk) (g.D.Disk.allowed c.append.new.self.disk) (g.D.Disk.log c.append.new.self.disk))
    (StopHolds g.F.Form.image g.F.Form.change 4 map after (g.D.Disk.allowed c.args.journal.now.disk) (g.D.Disk.allowed c.append.new.self.disk) (g.D.Disk.log c.append.new.self.disk))
    (stop_holds g.F.Form.image g.F.Form.change 4 keeps.list list map after keeps.leads behind (g.D.Disk.allowed c.args.journal.now.disk) (g.D.Disk.allowed c.append.new.self.disk) (g.D.Disk.log c.append.new.self.disk))
    (c.append.ensures.left keeps.list keeps.stands
    (may_follow g.F.Rule.admits (g.F.Form.change keeps.list change) change c.args.image.now map is (g.met.F.MapForm.changes keeps.list map change keeps.leads) next c.requires.admitted) ready)))

pub returns-then-fits-clause-lasts : goal.returns-then-fits-clause-lasts
returns-then-fits-clause-lasts g c =
    let four : switch_calls c.args.journal.now.place ≡ 4 = four_calls c.args.journal.now.place (length c.args.change.now) (sym c.fits.ensures ∙ c.if-fits.true) in
    subst (λ (n : ℕ). OnOk c.append.result ((g.D.Disk.allowed c.append.new.self.disk ≡ fewer n (g.D.Disk.allowed c.args.journal.now.disk)) × Outlasts n (g.D.Disk.allowed c.args.journal.now.disk))) (sym four) c.append.ensures.lasts

pub returns-else-fits-clause-left : goal.returns-else-fits-clause-left
returns-else-fits-clause-left g c = λ map next keeps ready.
    subst (λ (m : List Entry). OnErr c.switch_to.result (StopHolds g.F.Form.image g.F.Form.change (switch_calls c.args.journal.now.place) map m (g.D.Disk.allowed c.args.journal.now.disk) (g.D.Disk.allowed c.switch_to.new.journal.disk) (g.D.Disk.log c.switch_to.new.journal.disk)))
    next (c.switch_to.ensures.left map keeps ready)
