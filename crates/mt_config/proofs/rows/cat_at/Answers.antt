use Rattle.std.proofs.Common.{ap}
use Rattle.mt_config.specs.Rows.{cat_or_none}
use Rattle.mt_config.proofs.Items.{item_at, no_item_at}
use Rattle.mt_config.proofs.rows.cat_at.Goals as goal

pub returns-then-place-items : goal.returns-then-place-items
returns-then-place-items c =
    rw (item_at c.args.items.now c.args.place c.index-items-place.result c.if-place-items.true c.index-items-place.is) c.cat.ensures

pub returns-else-place-items : goal.returns-else-place-items
returns-else-place-items c = ap cat_or_none (no_item_at c.args.items.now c.args.place c.if-place-items.false)
