use Rattle.std.proofs.Common.{◌≡◌, ℕ, ◌+◌, [], ◌∷◌, true, length, drop, Some, Err, ap, ◌∙◌, sym, arith}
use Rattle.std.proofs.lemmas.Grind.{common_steps}
use Rattle.mt_journal.specs.Layout.{piece_at, slot_length}
use Rattle.mt_journal.proofs.Faults.{handed_on}
use Rattle.mt_journal.proofs.Walking.{image_wrong, slot_up_to}
use Rattle.mt_journal.proofs.recovering.read_image.Goals as goal

pub returns-in_err-image-clause-refused : goal.returns-in_err-image-clause-refused
returns-in_err-image-clause-refused g c = λ file told whole.
    (let same : c.from_residual.result ≡ Err c.in_err-image.field-0.0 = grind (arith, common_steps) in
    handed_on c.from_residual.result c.in_err-image.field-0.0 (λ at. piece_at g.F.Form.image c.args.whole (Some (c.args.start + slot_length)) c.args.start (drop c.args.start file) ≡ Err at) _ same
    (c.in_err-image.ensures.refused file g.F.Form.image told whole)
    (λ at wrong. image_wrong g.F.Form.image g.F.Form.change c.args.start file at (ap (λ (w : ℕ). piece_at g.F.Form.image w (Some (c.args.start + slot_length)) c.args.start (drop c.args.start file)) (sym whole) ∙ wrong)))

pub returns-clause-found : goal.returns-clause-found
returns-clause-found g c = λ file told.
    (let image = c.in_ok-image.image.items in
    let items : c.push.new.self.items ≡ image ∷ [] = grind (arith, common_steps) in
    let size : c.len.result ≡ length image = grind (arith, common_steps) in
    let form : g.F.Form.image image ≡ true = grind (arith, common_steps) in
    slot_up_to g.F.Form.image g.F.Form.change c.args.start file image c.push.new.self.items c.len.result (c.in_ok-image.ensures.found file told) form items size)
