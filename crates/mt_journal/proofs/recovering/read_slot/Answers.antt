use Rattle.std.proofs.Common.{◌≡◌, ◌+◌, drop, Some, Err, refl, subst, ◌∙◌, arith, rules}
use Rattle.mt_journal.specs.Layout.{slot_at, slot_length}
use Rattle.mt_journal.specs.Recovering.{RecordsRead}
use Rattle.mt_journal.specs.declared.recovering.RecordsEnd.TheVariants.{Moved}
use Rattle.mt_journal.proofs.Faults.{handed_on}
use Rattle.mt_journal.proofs.Pieces.{no_move}
use Rattle.mt_journal.proofs.recovering.read_slot.Goals as goal

pub returns-in_err-end-clause-refused : goal.returns-in_err-end-clause-refused
returns-in_err-end-clause-refused g c = λ file told whole.
    (let same : c.from_residual-in_err-end.result ≡ Err c.in_err-end.field-0.0 = search rules in
    let reads = slot_at g.F.Form.image g.F.Form.change c.args.start in
    handed_on c.from_residual-in_err-end.result c.in_err-end.field-0.0 (λ at. reads file ≡ Err at) _ same
    (c.in_err-end.ensures.refused file reads c.args.start (c.read_image.ensures.only.kept ∙ told) whole (omega (arith, c.in_ok-first.ensures.behind)) (c.in_ok-first.ensures.found file told))
    (λ at wrong. wrong))

pub returns-in-Closed-clause-found : goal.returns-in-Closed-clause-found
returns-in-Closed-clause-found g c = λ file told whole.
    (let reads = slot_at g.F.Form.image g.F.Form.change c.args.start in
    subst (λ e. RecordsRead reads g.F.Form.change (Some (c.args.start + slot_length)) c.args.start e c.in_ok-end.list.items file) c.in-Closed.is
    (c.in_ok-end.ensures.found file reads c.args.start (c.read_image.ensures.only.kept ∙ told) whole (omega (arith, c.in_ok-first.ensures.behind)) (c.in_ok-first.ensures.found file told)))

pub returns-in-Moved-clause-refused : goal.returns-in-Moved-clause-refused
returns-in-Moved-clause-refused g c = λ file told whole.
    (let reads = slot_at g.F.Form.image g.F.Form.change c.args.start in
    let read : RecordsRead reads g.F.Form.change (Some (c.args.start + slot_length)) c.args.start (Moved c.in-Moved.gate) c.in_ok-end.list.items file =
    subst (λ e. RecordsRead reads g.F.Form.change (Some (c.args.start + slot_length)) c.args.start e c.in_ok-end.list.items file) c.in-Moved.is
    (c.in_ok-end.ensures.found file reads c.args.start (c.read_image.ensures.only.kept ∙ told) whole (omega (arith, c.in_ok-first.ensures.behind)) (c.in_ok-first.ensures.found file told)) in
    let none = no_move (Some (c.args.start + slot_length)) (drop (c.in-Moved.gate + 1) file) refl in
    absurd (grind (arith, read.2, none)))
