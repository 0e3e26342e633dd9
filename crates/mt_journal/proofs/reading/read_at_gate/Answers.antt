use Rattle.std.proofs.Common.{◌≡◌, ◌<◌, ◌+◌, false, length, drop, Err, ap, sym, ◌∙◌, arith}
use Rattle.std.proofs.lemmas.Grind.{common_steps}
use Rattle.mt_journal.specs.Layout.{is_move, marks_move, piece_at}
use Rattle.mt_journal.specs.Recovering.{OpenRead}
use Rattle.mt_journal.proofs.Faults.{handed_on}
use Rattle.mt_journal.proofs.Pieces.{no_move}
use Rattle.mt_journal.proofs.Walking.{length_wrong, piece_wrong}
use Rattle.mt_journal.proofs.reading.read_at_gate.Goals as goal

pub returns-in_err-count-clause-refused : goal.returns-in_err-count-clause-refused
returns-in_err-count-clause-refused g c = λ file list told whole behind.
    (let is = c.in_ok-read_gate.ensures.read file told whole in
    let open_ : OpenRead c.args.gate file = record { there = omega (arith, c.in_ok-read_gate.ensures.there, whole); opens = grind (arith, common_steps, is) } in
    let same : c.from_residual-in_err-count.result ≡ Err c.in_err-count.field-0.0 = grind (arith, common_steps) in
    handed_on c.from_residual-in_err-count.result c.in_err-count.field-0.0 (λ at. (at ≡ c.args.whole) × (length (drop (c.args.gate + 1) file) < 4)) _ same
    (c.in_err-count.ensures.refused file (c.read_gate.ensures.only.kept ∙ told))
    (λ at wrong. length_wrong g.F.Form.change list c.args.whole c.args.limit c.args.gate file open_ wrong.1 ∙ ap Err (sym wrong.0)))

pub returns-in_err-change-clause-refused : goal.returns-in_err-change-clause-refused
returns-in_err-change-clause-refused g c = λ file list told whole behind.
    (let is = c.in_ok-read_gate.ensures.read file told whole in
    let open_ : OpenRead c.args.gate file = record { there = omega (arith, c.in_ok-read_gate.ensures.there, whole); opens = grind (arith, common_steps, is) } in
    let still = c.read_gate.ensures.only.kept ∙ told in
    let found = c.in_ok-count.ensures.found file still in
    let differs : marks_move c.args.limit c.in_ok-count.count ≡ false = grind (arith, common_steps) in
    let stays : is_move c.args.limit (drop (c.args.gate + 1) file) ≡ false = no_move c.args.limit (drop (c.args.gate + 1) file) (ap (λ n. marks_move c.args.limit n) (sym found.1) ∙ differs) in
    let same : c.from_residual-in_err-change.result ≡ Err c.in_err-change.field-0.0 = grind (arith, common_steps) in
    handed_on c.from_residual-in_err-change.result c.in_err-change.field-0.0 (λ at. piece_at (g.F.Form.change list) c.args.whole c.args.limit (c.args.gate + 1) (drop (c.args.gate + 1) file) ≡ Err at) _ same
    (c.in_err-change.ensures.refused file (g.F.Form.change list) (c.read_length.ensures.only.kept ∙ still) whole found.0 found.1)
    (λ at wrong. piece_wrong g.F.Form.change list c.args.whole c.args.limit c.args.gate file open_ stays at wrong))
