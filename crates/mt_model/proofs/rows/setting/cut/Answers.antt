use Rattle.std.proofs.Common.{◌≡◌, ◌++◌, ℕ, ap, arith, drop, max, take, ◌∙◌}
use Rattle.mt_model.proofs.rows.setting.cut.Goals as goal

pub returns-clause-items : goal.returns-clause-items
returns-clause-items g c =
    let items = c.args.items.now.items in
    let end : c.loop.counter ≡ max c.args.at c.args.end = omega (arith, c.loop.invariant.from, c.loop.invariant.within) in
    c.loop.invariant.items ∙ ap (λ (n : ℕ). take c.args.at items ++ drop n items) end
