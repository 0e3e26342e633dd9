-- The session has sealed the steps so far, and the events so far begin those of all.
use Rattle.std.proofs.Common.{◌≡◌, ◌+◌, List, [], ◌++◌, length, drop}
use Rattle.std.specs.Prelude.{All}
use Rattle.mt_session.specs.Datagrams.{mirror}
use Rattle.mt_session.specs.Sessions.{Message, StandsFor}
use Rattle.mt_ctl.specs.Asking.{asked, events_from}
use Rattle.mt_ctl.specs.Steps.{messages_from, script_headers}
use Rattle.mt_ctl.proofs.Askings.{IsSpelled}
use Rattle.mt_ctl.proofs.asking.sealed.Given as goal

abbrev pub invariant-loop-step : goal.invariant-loop-step
invariant-loop-step l = record {
  stands : (messages : List Message) × (StandsFor l.session (mirror l.row) [] messages × (length messages ≡ l.step-index)
      × (messages ++ messages_from l.next (drop l.step-index l.steps) ≡ script_headers l.steps) × All IsSpelled messages);
  told : l.events.items ++ events_from (mirror l.row) (l.row.counter_in + l.step-index) l.next (drop l.step-index l.steps) ≡ asked l.row l.steps;
}
