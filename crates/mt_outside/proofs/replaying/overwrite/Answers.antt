use Rattle.std.proofs.Common.{◌≡◌, ℕ, ◌+◌, ◌-◌, List, ◌++◌, length, take, drop, replicate, ap, ◌∙◌, arith}
use Rattle.std.proofs.lemmas.Grind.{common_steps}
use Rattle.mt_outside.specs.Disk.{overwritten}
use Rattle.mt_outside.proofs.Overwriting.{over_filled, written_back}
use Rattle.mt_outside.proofs.replaying.overwrite.Goals as goal

pub returns-clause-written : goal.returns-clause-written
returns-clause-written c =
    let at = c.args.at in
    let from = c.args.from.now in
    let old = c.args.bytes.now.items in
    let filled = c.fill_up.new.bytes.items in
    let filled_is : filled ≡ old ++ replicate (at + length from - length old) 0 = grind (arith, common_steps) in
    let put_is : c.put.new.bytes ≡ take at filled ++ from ++ drop (at + length from) filled = grind (arith, common_steps) in
    let whole : c.put.new.bytes ≡ overwritten at from old = put_is ∙ ap (λ (l : List ℕ). take at l ++ from ++ drop (at + length from) l) filled_is ∙ over_filled old from at in
    let same : length c.put.new.bytes ≡ length filled = grind (arith, common_steps, c.put.auto.bytes) in
    let room : c.fill_up.new.bytes.len ≡ length c.put.new.bytes = grind (arith, common_steps) in
    written_back c.put.new.bytes filled c.fill_up.new.bytes.len room (omega arith) ∙ whole
