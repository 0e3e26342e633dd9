use Rattle.std.proofs.Common.{◌≡◌, drop}
use Rattle.mt_model.specs.rows.Seen.{seen_as}
use Rattle.mt_write.specs.Writing.{with_all, write_answer}
use Rattle.mt_write.proofs.writing.write.Given as goal

-- what is answered so far, with the items to come, is the answer to all
abbrev pub invariant-loop-item : goal.invariant-loop-item
invariant-loop-item g l =
    let seen = seen_as l.actor.fabric (g.S.Sight.rows_of l.sight) (g.S.Sight.versions l.sight) (g.S.Sight.all_entries l.sight) in
    with_all seen l.actor l.timed l.written (drop l.item-index l.items) ≡ write_answer seen l.actor l.fn.items l.timed
