use Rattle.mt_why.specs.Causes.{Holds}
use Rattle.mt_why.proofs.Pushed.{all_pushed}
use Rattle.mt_why.proofs.explaining.add.Goals as goal

pub returns : goal.returns
returns c = record {
  items = c.in_ok-push.ensures.items;
  all = rw c.in_ok-push.ensures.items (all_pushed (Holds c.args.scene.now) c.args.causes.now.items c.args.cause c.requires.all c.requires.holds);
}
