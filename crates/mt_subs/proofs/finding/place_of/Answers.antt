use Rattle.mt_subs.proofs.Places.{is_place}
use Rattle.mt_subs.proofs.finding.place_of.Goals as goal

pub returns : goal.returns
returns c = is_place c.args.fabric c.args.id c.args.subs.now c.position_of.result c.requires c.position_of.ensures
