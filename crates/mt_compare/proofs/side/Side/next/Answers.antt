use Rattle.std.proofs.Common.{refl}
use Rattle.mt_compare.specs.Sides.{line_in}
use Rattle.mt_compare.proofs.Going.{lost_head}
use Rattle.mt_compare.proofs.side.Side.next.Goals as goal

pub returns-in-Some-clause-next : goal.returns-in-Some-clause-next
returns-in-Some-clause-next c given sessions g is = record {
  now = g;
  line = line_in c.in-Some.line;
  stands = is;
  at = refl;
  left = lost_head given sessions c.args.fabric g c.args.self.now c.in-Some.line c.in-Some.is;
}
