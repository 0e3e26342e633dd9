-- The key that had nothing goes into the order.
use Rattle.std.proofs.Common.{◌≡◌, ◌≤◌, length, ℕ, sym, ap, subst, ◌∙◌, arith}
use Rattle.std.proofs.lemmas.List.{length-map}
use Rattle.std.specs.List.{insert as inserted}
use Rattle.slab.specs.Slab.{Slab}
use Rattle.mt_exchange.specs.declared.exchange.Exchange.{Exchange}
use Rattle.mt_exchange.specs.Kept.{IsKept, kept, under}
use Rattle.mt_exchange.proofs.Keeping.{is_kept-insert, is_kept-room, kept-insert}
use Rattle.mt_exchange.proofs.ordered.Ordered.insert.Goals as goal

pub invariant_of-self-2 : goal.invariant_of-self-2
invariant_of-self-2 c =
    let s = c.reserve.new.self in
    let new = c.insert_reserved.new.self in
    let order = c.self.inside.order.items in
    let step = c.insert_reserved.ensures in
    let is = is_kept-room c.self.inside.exchanges s order c.reserve.ensures.rest_kept c.self.invariant in
    let same : c.insert_reserved.result ≡ c.vacant_key-key.result = step.key ∙ sym c.vacant_key-key.ensures.value in
    let within : c.args.index ≤ length order = omega (arith, c.requires, length-map order (under c.self.inside.exchanges), ap length c.self.view_is) in
    let P : ℕ → Type 0 = λ key. IsKept new (inserted order c.args.index key) in
    rw (c.in_ok-insert.ensures.items) (subst P same (is_kept-insert s new c.insert_reserved.result c.args.x order c.args.index step.was_vacant step.updates is step.len within))

pub returns-clause-placed : goal.returns-clause-placed
returns-clause-placed c =
    let s = c.reserve.new.self in
    let new = c.insert_reserved.new.self in
    let order = c.self.inside.order.items in
    let step = c.insert_reserved.ensures in
    let is = is_kept-room c.self.inside.exchanges s order c.reserve.ensures.rest_kept c.self.invariant in
    let same : c.insert_reserved.result ≡ c.vacant_key-key.result = step.key ∙ sym c.vacant_key-key.ensures.value in
    ap (kept new) (c.in_ok-insert.ensures.items ∙ ap (inserted order c.args.index) (sym same))
    ∙ kept-insert s new c.insert_reserved.result c.args.x order c.args.index step.was_vacant step.updates is
    ∙ ap (λ l. inserted l c.args.index c.args.x) (ap (λ (z : Slab Exchange). kept z order) c.reserve.ensures.rest_kept ∙ c.self.view_is)
