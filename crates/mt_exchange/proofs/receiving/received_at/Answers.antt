-- The message is taken on the exchange behind its acknowledgement.
use Rattle.std.proofs.Common.{◌∙◌, ap}
use Rattle.mt_session.specs.Opening.{arrival}
use Rattle.mt_exchange.specs.declared.exchange.Exchange.{Exchange}
use Rattle.mt_exchange.specs.Opened.{nothing}
use Rattle.mt_exchange.specs.Places.{changed_at}
use Rattle.mt_exchange.specs.Receiving.{taken_by}
use Rattle.mt_exchange.proofs.Received.{awaited-before, one-at, table-at, turn-at}
use Rattle.mt_exchange.proofs.receiving.received_at.Goals as goal

pub returns-clause-turn : goal.returns-clause-turn
returns-clause-turn c = λ rising.
    turn-at c.args.table.now (arrival c.args.opened.now) c.args.index c.take-x.result c.relieve.result c.or_nothing-x.result c.count_of_peer_but-count.result
    (taken_by c.turn_on-turn.result) rising c.requires c.take-x.ensures.taken c.relieve.ensures c.or_nothing-x.ensures c.count_of_peer_but-count.ensures
    (c.turn_on-turn.ensures (λ awaited on. c.in_ok-success.ensures (ap (λ (x : Exchange). x.confirmation) (one-at c.args.table.now c.args.index c.at.result.now c.take-x.result c.requires.within c.at.ensures c.take-x.ensures.taken)
    ∙ awaited-before c.take-x.result c.relieve.result c.or_nothing-x.result c.args.opened.now.header.acknowledged c.relieve.ensures c.or_nothing-x.ensures awaited) on))

pub returns-clause-table : goal.returns-clause-table
returns-clause-table c = λ rising.
    table-at c.args.table.now (arrival c.args.opened.now) c.args.index c.take-x.result c.relieve.result c.or_nothing-x.result c.count_of_peer_but-count.result
    (taken_by c.turn_on-turn.result) rising c.requires c.take-x.ensures.taken c.relieve.ensures c.or_nothing-x.ensures c.count_of_peer_but-count.ensures
    (c.turn_on-turn.ensures (λ awaited on. c.in_ok-success.ensures (ap (λ (x : Exchange). x.confirmation) (one-at c.args.table.now c.args.index c.at.result.now c.take-x.result c.requires.within c.at.ensures c.take-x.ensures.taken)
    ∙ awaited-before c.take-x.result c.relieve.result c.or_nothing-x.result c.args.opened.now.header.acknowledged c.relieve.ensures c.or_nothing-x.ensures awaited) on))
    c.settle.new.self c.behind.result (nothing c.key_of.result) c.behind.ensures (c.settle.ensures ∙ ap (changed_at c.args.index c.behind.result) c.take-x.ensures.rest)
