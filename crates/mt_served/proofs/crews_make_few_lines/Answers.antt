use Rattle.mt_served.proofs.Joining.{Laws, make_few}
use Rattle.mt_served.proofs.crews_make_few_lines.Goals as goal

pub returns : goal.returns
returns g c =
    let laws : Laws = record {
      runs = c.books_are_runs.ensures.sent;
      merge = c.shares_are_merged.ensures;
      make = c.merged_calls_are_made.ensures;
      send = c.workers_send_their_own.ensures;
      exact = c.owners_are_exact.ensures;
      begin = c.rows_have_begun.ensures;
      follow = c.sessions_follow.ensures;
      wake = c.ticks_are_wakes.ensures;
    } in
    make_few laws _ g.O.Outlet.given g.O.Outlet.faults
