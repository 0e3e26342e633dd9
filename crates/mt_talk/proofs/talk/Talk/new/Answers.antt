use Rattle.std.proofs.Common.{[], refl}
use Rattle.mt_talk.proofs.talk.Talk.new.Goals as goal

pub returns : goal.returns
returns c = record { happenings = []; session = c.new.ensures; exchanges = c.new-2.ensures c.args.row; shown = refl; open_ones = refl; next_id = refl; latest = refl }
