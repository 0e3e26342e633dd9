use Rattle.mt_runs.proofs.Restarting.{stops_reopen}
use Rattle.mt_runs.proofs.stops.reopenings_are_exact.Goals as goal

pub returns : goal.returns
returns c = record {
  stops = stops_reopen c.wholes_are_valid.ensures.stays c.reopenings_roll_back.ensures.back c.reopenings_roll_back.ensures.rolled c.rollbacks_are_the_last_word.ensures.keys;
  leaves = c.expiries_roll_back.ensures.leaves;
}
