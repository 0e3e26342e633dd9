use Rattle.mt_node.proofs.EntriesBehind.{entries_decided}
use Rattle.mt_node.proofs.differences.entries_stand.Goals as goal

pub returns-in-Some : goal.returns-in-Some
returns-in-Some c = rw c.in-Some.is (entries_decided c.what_is_told_the_same_is.ensures.rows c.entries_are_read_again.ensures c.args.entries.now c.in-Some.new.now c.are_same_entries.result (rw c.as_slice.ensures at c.are_same_entries.ensures))
