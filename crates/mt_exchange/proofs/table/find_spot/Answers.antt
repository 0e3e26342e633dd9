-- The place that is found is the exchange's.
use Rattle.std.proofs.Common.{sym, ap, ◌∙◌, arith}
use Rattle.mt_exchange.specs.declared.exchange.Exchange.{Exchange}
use Rattle.mt_exchange.specs.Opened.{nothing, rank}
use Rattle.mt_exchange.proofs.Places.{is_at, is_before}
use Rattle.mt_exchange.proofs.table.find_spot.Goals as goal

pub returns-then-here-rank : goal.returns-then-here-rank
returns-then-here-rank c =
    is_at c.args.key c.args.exchanges.now c.loop-at.at c.at.result.now (omega (arith, c.loop-at-test.true, c.len-at-end.ensures)) c.at.ensures c.loop-at.invariant
    (sym (ap (λ (y : Exchange). rank y.key) c.at.ensures) ∙ sym c.rank-here.ensures ∙ c.if-here-rank.true ∙ c.rank-rank.ensures)

pub returns-then-here-rank-2 : goal.returns-then-here-rank-2
returns-then-here-rank-2 c =
    is_before c.args.key c.args.exchanges.now c.loop-at.at c.at.result.now (omega (arith, c.loop-at-test.true)) c.loop-at.invariant
    (λ _. omega (arith, c.rank-here.ensures, c.rank-rank.ensures, c.if-here-rank-2.true, ap (λ (y : Exchange). rank y.key) c.at.ensures))

pub returns : goal.returns
returns c =
    is_before c.args.key c.args.exchanges.now _ (nothing c.args.key) (omega arith)
    (λ k e l. c.loop-at.invariant k e (omega (arith, l, c.loop-at-test.false))) (λ l. absurd (omega (arith, l)))
