use Rattle.std.proofs.Common.{◌≡◌, ◌≢◌, ◌+◌, ◌≤◌, false, length, arith}
use Rattle.std.proofs.lemmas.Grind.{common_steps}
use Rattle.mt_journal.specs.Layout.{is_past}
use Rattle.mt_journal.proofs.Fields.{cut_off, laid}
use Rattle.mt_journal.proofs.reading.read_content.Goals as goal

pub returns-then-len-count-clause-refused : goal.returns-then-len-count-clause-refused
returns-then-len-count-clause-refused g c = λ file is_piece told whole four n_is.
    (let short : c.args.count ≤ 65536 = grind (arith, common_steps) in
    let within : is_past c.args.limit (c.args.place + 5 + c.args.count) ≡ false = grind (arith, common_steps) in
    let differ : length c.in_ok-bytes.bytes.items ≢ c.args.count = grind (arith, common_steps) in
    cut_off c.args.limit c.args.place file c.in_ok-bytes.bytes.items c.args.count four n_is short within (c.in_ok-bytes.ensures.read file told) is_piece c.args.whole differ)

pub returns-clause-found : goal.returns-clause-found
returns-clause-found g c = λ file told four n_is.
    (let short : c.args.count ≤ 65536 = grind (arith, common_steps) in
    let within : is_past c.args.limit (c.args.place + 5 + c.args.count) ≡ false = grind (arith, common_steps) in
    let same : length c.in_ok-bytes.bytes.items ≡ c.args.count = grind (arith, common_steps) in
    laid c.args.limit c.args.place file c.in_ok-bytes.bytes.items c.args.count four n_is short within (c.in_ok-bytes.ensures.read file told) same)
