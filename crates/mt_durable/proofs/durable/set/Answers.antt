use Rattle.std.proofs.Common.{◌≡◌, true, false, ◌∙◌, arith}
use Rattle.std.proofs.lemmas.Grind.{common_steps}
use Rattle.mt_durable.specs.Maps.{has_value}
use Rattle.mt_durable.proofs.Setting.{inserted, left_out}
use Rattle.mt_durable.proofs.durable.set.Goals as goal

pub returns-then-is_some-clause-items : goal.returns-then-is_some-clause-items
returns-then-is_some-clause-items c =
    let has : has_value c.args.entry.value ≡ true = grind (arith, common_steps) in
    c.put.ensures.items
    ∙ inserted c.args.entry c.args.entries.now.items c.take_away.new.entries.items c.count_before-at.result (grind (arith, common_steps)) (grind (arith, common_steps)) (grind (arith, common_steps)) has

pub returns-else-is_some-clause-items : goal.returns-else-is_some-clause-items
returns-else-is_some-clause-items c =
    let has : has_value c.args.entry.value ≡ false = grind (arith, common_steps) in
    left_out c.args.entry c.args.entries.now.items c.take_away.new.entries.items c.count_before-at.result (grind (arith, common_steps)) (grind (arith, common_steps)) (grind (arith, common_steps)) has
