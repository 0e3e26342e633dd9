use Rattle.std.proofs.Common.{arith}
use Rattle.mt_config.specs.Json.{items_of}
use Rattle.mt_config.proofs.Items.{count-items_view}
use Rattle.mt_config.proofs.json.items.Goals as goal

pub returns-then-len-most-clause-items : goal.returns-then-len-most-clause-items
unfolding items_of
returns-then-len-most-clause-items c = grind (arith, count-items_view c.in-Some-as_array.items.now.items)

pub returns-clause-items : goal.returns-clause-items
unfolding items_of
returns-clause-items c = grind (arith, count-items_view c.in-Some-as_array.items.now.items)
