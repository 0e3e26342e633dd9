use Rattle.std.proofs.Common.{ap}
use Rattle.mt_marks.specs.Seen.{other_rows}
use Rattle.mt_marks.proofs.making.rows_of_others.Goals as goal

pub loop-place-init : goal.loop-place-init
loop-place-init c = rw (c.new-seen.ensures.items, c.stored_places-place-items.ensures) (ap (other_rows c.args.fabric) (c.rows_stand_at_stored_places.ensures.all c.args.rows.now c.requires.ascending c.requires.stored))
