use Rattle.std.proofs.Common.{◌≡◌, ◌*◌, List, length, ℕ}
use Rattle.mt_layer.specs.mt_shared.Shared.{IsPassOf}
use Rattle.mt_worker.specs.Accounts.{Accounts}
use Rattle.mt_worker.specs.Due.{AreRising, DoesAll}
use Rattle.mt_worker.specs.Few.{take_count, wake_count}
use Rattle.mt_worker.specs.Gots.{Got}
use Rattle.mt_worker.specs.Seats.{AreSeats}
use Rattle.mt_worker.specs.Works.{WentOn}
use Rattle.mt_turn.specs.History.{IsOutsideAgain}
use Rattle.mt_worker.proofs.Works.{ok}
use Rattle.mt_worker.proofs.hand.Hand.run.Given as goal

-- the jobs so far are done, and the seats stand behind them
abbrev pub invariant-loop : goal.invariant-loop
invariant-loop g l = record {
  own : IsPassOf l.desk.node.now l.self.pass;
  outside : IsOutsideAgain l.fn.self.pass l.self.pass;
  queue : l.jobs.queue ≡ l.fn.jobs.queue;
  went : (ids : List ℕ) (accounts : Accounts) → AreSeats l.fn.seats ids accounts → AreRising ids
      → WentOn g.O.Outlet.given g.O.Outlet.faults (λ (f : Accounts) (gots : List Got). DoesAll ids f l.jobs.taken gots) (take_count l.jobs.taken) (4 * length ids * wake_count l.jobs.taken) ids l.fn.self l.self l.seats (ok (Unit {0}) tt) accounts;
}
