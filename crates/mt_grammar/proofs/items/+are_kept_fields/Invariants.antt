use Rattle.std.proofs.Common.{length, ◌+◌, ◌*◌}
use Rattle.mt_grammar.proofs.items.+are_kept_fields.Given as goal

abbrev pub decreases-are_kept_fields : goal.decreases-are_kept_fields
decreases-are_kept_fields l = 2 * length l.fields.now

abbrev pub decreases-begin_with : goal.decreases-begin_with
decreases-begin_with l = 2 * length l.fields.now + 1
