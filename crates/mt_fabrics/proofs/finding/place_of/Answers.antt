use Rattle.mt_fabrics.proofs.Places.{is_at}
use Rattle.mt_fabrics.proofs.finding.place_of.Goals as goal

pub returns-then-fabric-index : goal.returns-then-fabric-index
returns-then-fabric-index c =
    is_at c.args.index c.args.fabrics.now c.loop-place.place c.index-fabrics-place.result c.requires c.loop-place-test.true c.index-fabrics-place.is c.if-fabric-index.true
