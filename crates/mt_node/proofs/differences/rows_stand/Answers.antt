use Rattle.mt_node.proofs.RowsBehind.{rows_decided}
use Rattle.mt_node.proofs.differences.rows_stand.Goals as goal

pub returns-in-Some : goal.returns-in-Some
returns-in-Some c = λ own. rw c.in-Some.is (rows_decided c.args.place.now c.args.fabric c.what_is_told_the_same_is.ensures.rows c.args.rows.now c.in-Some.values.now c.are_values.result own (rw c.as_slice.ensures at c.are_values.ensures))
