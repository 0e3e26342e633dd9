use Rattle.std.proofs.Common.{◌≡◌, ℕ, ◌+◌, ◌-◌, ◌/◌, List, ◌++◌, length, take, drop, replicate, ap, ◌∙◌, arith}
use Rattle.std.proofs.lemmas.Grind.{common_steps}
use Rattle.mt_outside.specs.Disk.{overwritten}
use Rattle.mt_outside.specs.MemoryDisk.{half_torn}
use Rattle.mt_outside.proofs.Overwriting.{torn_over, written_back}
use Rattle.mt_outside.proofs.replaying.overwrite_torn.Goals as goal

pub returns-clause-written : goal.returns-clause-written
returns-clause-written c =
    let at = c.args.at in
    let from = c.args.from.now in
    let old = c.args.bytes.now.items in
    let half = length from / 2 in
    let whole = c.overwrite.new.bytes.items in
    let tear_is : c.tear.new.bytes ≡ take (at + half) whole ++ replicate (length from - half) 0xa5 ++ drop (at + half + (length from - half)) whole = grind (arith, common_steps) in
    let torn : c.tear.new.bytes ≡ overwritten at (half_torn from) old =
    tear_is
    ∙ ap (λ (l : List ℕ). take (at + half) l ++ replicate (length from - half) 0xa5 ++ drop (at + half + (length from - half)) l) c.overwrite.ensures.written
    ∙ torn_over at old from half (omega arith) in
    let same : length c.tear.new.bytes ≡ length whole = grind (arith, common_steps, c.tear.auto.bytes) in
    let room : c.overwrite.new.bytes.len ≡ length c.tear.new.bytes = grind (arith, common_steps) in
    written_back c.tear.new.bytes whole c.overwrite.new.bytes.len room (omega arith) ∙ torn
