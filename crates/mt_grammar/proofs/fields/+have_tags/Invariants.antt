use Rattle.std.proofs.Common.{length, ◌+◌, ◌*◌}
use Rattle.mt_grammar.proofs.fields.+have_tags.Given as goal

abbrev pub decreases-have_tags : goal.decreases-have_tags
decreases-have_tags l = 2 * length l.numbers.now

abbrev pub decreases-begin_with : goal.decreases-begin_with
decreases-begin_with l = 2 * length l.numbers.now + 1
