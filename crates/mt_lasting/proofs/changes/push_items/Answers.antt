use Rattle.mt_lasting.specs.Keys.{indexes}
use Rattle.mt_lasting.proofs.Staying.{items_stay}
use Rattle.mt_lasting.proofs.changes.push_items.Goals as goal

pub returns-then-have_equal_items : goal.returns-then-have_equal_items
returns-then-have_equal_items c =
    let equal = c.if-have_equal_items.true in
    items_stay c.args.before.now c.args.behind.now (c.have_equal_items.ensures.entries equal) (c.have_equal_items.ensures.rows equal) indexes c.args.entries.now.items
