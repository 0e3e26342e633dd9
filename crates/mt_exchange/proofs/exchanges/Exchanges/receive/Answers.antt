-- The exchanges of a run stand by rising key, so what the message is and leaves is what the definition says.
use Rattle.std.proofs.Common.{true, List, ap, sym, subst, ◌∙◌}
use Rattle.mt_session.specs.Opening.{arrival}
use Rattle.mt_exchange.specs.declared.exchange.Exchange.{Exchange}
use Rattle.mt_exchange.specs.Places.{IsRising}
use Rattle.mt_exchange.specs.Receiving.{received, taken}
use Rattle.mt_exchange.specs.Runs.{Run, arrived}
use Rattle.mt_exchange.proofs.Sealings.{run-more}
use Rattle.mt_exchange.proofs.Settling.{rising-run}
use Rattle.mt_exchange.proofs.exchanges.Exchanges.receive.Goals as goal

pub returns-clause-turn : goal.returns-clause-turn
returns-clause-turn c = λ row happenings s.
    c.in_ok-turn.ensures.turn (subst IsRising (sym s.open_ones) (rising-run row happenings))
    ∙ ap (λ (xs : List Exchange). taken xs (arrival c.args.opened.now)) s.open_ones

pub returns-clause-stands : goal.returns-clause-stands
returns-clause-stands c = λ row happenings s.
    let more = run-more row happenings (arrived true (arrival c.args.opened.now)) in
    record {
      open_ones =
          c.in_ok-turn.ensures.table (subst IsRising (sym s.open_ones) (rising-run row happenings))
          ∙ ap (λ (xs : List Exchange). received xs (arrival c.args.opened.now)) s.open_ones
          ∙ sym (ap (λ (z : Run). z.open_ones) more);
      next_id = s.next_id ∙ sym (ap (λ (z : Run). z.next_id) more);
    }
