-- The key of what is taken out goes out of the order.
use Rattle.std.proofs.Common.{◌<◌, length, ap, ◌∙◌, arith}
use Rattle.std.proofs.lemmas.List.{length-map}
use Rattle.std.specs.List.{remove as removed}
use Rattle.mt_exchange.specs.Kept.{kept, under}
use Rattle.mt_exchange.proofs.Keeping.{is_kept-remove, kept-remove}
use Rattle.mt_exchange.proofs.ordered.Ordered.remove.Goals as goal

pub invariant_of-self : goal.invariant_of-self
invariant_of-self c =
    let old = c.self.inside.exchanges in
    let order = c.self.inside.order.items in
    let within : c.args.index < length order = omega (arith, c.requires, length-map order (under old), ap length c.self.view_is) in
    rw (c.remove-key.ensures.items)
    (is_kept-remove old c.remove.new.self c.remove-key.result order c.args.index within c.remove-key.ensures.value c.remove.ensures.updates c.self.invariant c.remove.ensures.len)

pub returns-clause-rest : goal.returns-clause-rest
returns-clause-rest c =
    let old = c.self.inside.exchanges in
    let order = c.self.inside.order.items in
    let within : c.args.index < length order = omega (arith, c.requires, length-map order (under old), ap length c.self.view_is) in
    ap (kept c.remove.new.self) c.remove-key.ensures.items
    ∙ kept-remove old c.remove.new.self c.remove-key.result order c.args.index within c.remove-key.ensures.value c.remove.ensures.updates c.self.invariant
    ∙ ap (λ l. removed l c.args.index) c.self.view_is
