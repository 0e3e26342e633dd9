use Rattle.std.proofs.Common.{◌≡◌, arith, length}
use Rattle.mt_events.proofs.Keeping.{made_empty, made_kept}
use Rattle.mt_events.proofs.rings.Rings.new.Goals as goal

pub invariant_of-result : goal.invariant_of-result
invariant_of-result c =
    let items = c.loop-fabric.rings.items in
    let long = c.loop-fabric.invariant.long in
    let all : length items ≡ 17 = omega (arith, long, c.loop-fabric-test.false, c.loop-fabric.auto.fabric-end) in
    made_kept items all (λ k lt. c.loop-fabric.invariant.made k (omega (arith, lt, long)))

pub returns-clause-empty : goal.returns-clause-empty
returns-clause-empty c =
    let items = c.loop-fabric.rings.items in
    let long = c.loop-fabric.invariant.long in
    let all : length items ≡ 17 = omega (arith, long, c.loop-fabric-test.false, c.loop-fabric.auto.fabric-end) in
    made_empty items all (λ k lt. c.loop-fabric.invariant.made k (omega (arith, lt, long)))
