-- The session stands for what it let in, and what is shown so far begins what is shown of all.
use Rattle.std.proofs.Common.{◌≡◌, List, [], ◌++◌, drop}
use Rattle.mt_session.specs.Datagrams.{mirror}
use Rattle.mt_session.specs.Opening.{Arrival}
use Rattle.mt_session.specs.Sessions.{StandsFor}
use Rattle.mt_ctl.specs.Showing.{datagrams_in, shown, shown_behind}
use Rattle.mt_ctl.proofs.showing.show.Given as goal

abbrev pub invariant-loop-message : goal.invariant-loop-message
invariant-loop-message l =
    (arrivals : List Arrival) × (StandsFor l.session (mirror l.row) arrivals []
    × (l.items.items ++ shown_behind (mirror l.row) arrivals (datagrams_in (drop l.message-index l.sent)) ≡ shown l.row l.sent))
