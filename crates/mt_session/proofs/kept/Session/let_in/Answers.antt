-- The tests of a plaintext, over what was let in before.
use Rattle.mt_window.specs.declared.window.Seen.TheVariants as window
use Rattle.mt_session.proofs.Answered.{framed_by, window_is}
use Rattle.mt_session.specs.Sessions.{counters}
use Rattle.mt_session.proofs.kept.Session.let_in.Goals as goal

pub returns-in-Fresh-clause-stands : goal.returns-in-Fresh-clause-stands
returns-in-Fresh-clause-stands c = λ row arrivals messages s.
    record {
      is_row = s.is_row;
      is_window =
          window_is c.accept.new.self row.counter_in arrivals _ (c.in-Fresh.ensures.answer row.counter_in (counters arrivals) s.is_window)
          (c.in-Fresh.ensures.accepted row.counter_in (counters arrivals) s.is_window);
      is_counter = s.is_counter;
    }

pub returns-in-Duplicate-clause-answer : goal.returns-in-Duplicate-clause-answer
returns-in-Duplicate-clause-answer c = λ row arrivals messages s.
    framed_by row (counters arrivals) c.args.counter c.args.plain.now c.in-Ok.found window.Duplicate c.in-Ok.ensures.exact
    (c.in-Duplicate.ensures.answer row.counter_in (counters arrivals) s.is_window)

pub returns-in-Old-clause-answer : goal.returns-in-Old-clause-answer
returns-in-Old-clause-answer c = λ row arrivals messages s.
    framed_by row (counters arrivals) c.args.counter c.args.plain.now c.in-Ok.found window.Old c.in-Ok.ensures.exact
    (c.in-Old.ensures.answer row.counter_in (counters arrivals) s.is_window)
