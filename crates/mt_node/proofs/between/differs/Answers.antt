use Rattle.std.proofs.Common.{sym, ◌∙◌}
use Rattle.mt_node.proofs.Unchanging.{never_differs}
use Rattle.mt_node.proofs.between.differs.Goals as goal

pub returns-then-not-is_of_tables : goal.returns-then-not-is_of_tables
returns-then-not-is_of_tables c =
    let place = c.args.place.now in
    let computed = sym c.is_stored.ensures ∙ c.if-is_stored.false in
    let none = sym c.is_of_tables.ensures ∙ c.if-not-is_of_tables.true in
    sym (never_differs c.what_is_told_the_same_is.ensures.rows c.args.state.now c.args.behind.now place computed none)
