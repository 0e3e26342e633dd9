use Rattle.mt_grammar.specs.declared.keys.Key.TheVariants.{Failsafe}
use Rattle.mt_lasting.proofs.Staying.{stays}
use Rattle.mt_lasting.proofs.changes.push_failsafe.Goals as goal

pub returns-then-have_equal_failsafe : goal.returns-then-have_equal_failsafe
returns-then-have_equal_failsafe c =
    stays c.args.before.now c.args.behind.now Failsafe (c.have_equal_failsafe.ensures c.if-have_equal_failsafe.true) c.args.entries.now.items
