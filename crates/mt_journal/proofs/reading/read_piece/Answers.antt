use Rattle.std.proofs.Common.{◌≡◌, ◌<◌, length, drop, Err, ap, sym, ◌∙◌, arith}
use Rattle.std.proofs.lemmas.Grind.{common_steps}
use Rattle.mt_journal.proofs.Faults.{handed_on}
use Rattle.mt_journal.proofs.Fields.{no_length}
use Rattle.mt_journal.proofs.reading.read_piece.Goals as goal

pub returns-in_err-count-clause-refused : goal.returns-in_err-count-clause-refused
returns-in_err-count-clause-refused g c = λ file is_piece told whole.
    (let same : c.from_residual.result ≡ Err c.in_err-count.field-0.0 = grind (arith, common_steps) in
    handed_on c.from_residual.result c.in_err-count.field-0.0 (λ at. (at ≡ c.args.whole) × (length (drop c.args.place file) < 4)) _ same
    (c.in_err-count.ensures.refused file told)
    (λ at wrong. no_length is_piece c.args.whole c.args.limit c.args.place (drop c.args.place file) wrong.1 ∙ ap Err (sym wrong.0)))

pub returns-clause-refused : goal.returns-clause-refused
returns-clause-refused g c = λ file is_piece told whole.
    (let found = c.in_ok-count.ensures.found file told in
    c.read_content.ensures.refused file is_piece (c.read_length.ensures.only.kept ∙ told) whole found.0 found.1)
