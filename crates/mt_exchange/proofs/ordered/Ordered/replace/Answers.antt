-- The order stays, and one key has another exchange.
use Rattle.std.proofs.Common.{◌<◌, length, set, ap, ◌∙◌, arith, is_some}
use Rattle.std.proofs.lemmas.List.{length-map}
use Rattle.mt_exchange.specs.Kept.{under}
use Rattle.mt_exchange.proofs.Keeping.{is_kept-set, kept-set}
use Rattle.mt_exchange.proofs.ordered.Ordered.replace.Goals as goal

pub invariant_of-self : goal.invariant_of-self
invariant_of-self c =
    is_kept-set c.self.inside.exchanges c.index-key.result.now c.replace.new.dest (ap is_some c.index_mut.ensures.value) c.self.inside.order.items c.self.invariant

pub returns-clause-placed : goal.returns-clause-placed
returns-clause-placed c =
    let s = c.self.inside.exchanges in
    let order = c.self.inside.order.items in
    let within : c.args.index < length order = omega (arith, c.requires, length-map order (under s), ap length c.self.view_is) in
    kept-set s c.index-key.result.now c.replace.new.dest (ap is_some c.index_mut.ensures.value) order c.args.index within c.index-key.ensures c.self.invariant.once
    ∙ (λ j. set (c.self.view_is j) c.args.index (c.replace.ensures.after j))
