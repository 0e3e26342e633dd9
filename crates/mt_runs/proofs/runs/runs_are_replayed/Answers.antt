use Rattle.mt_runs.proofs.Replays.{replays, replays_ends, replays_left, stay_valid}
use Rattle.mt_runs.proofs.Steps.{Known}
use Rattle.mt_runs.proofs.runs.runs_are_replayed.Goals as goal
use Rattle.mt_runs.proofs.runs.runs_are_replayed.Goals.{After-reopenings_see_the_own_part}

-- what is known of each line, and of each reopening
known : (c : After-reopenings_see_the_own_part) → Known
known c = record {
  stays = c.wholes_are_valid.ensures.stays;
  sends = c.whole_sends_on_the_veil.ensures.veil;
  strangers = c.strangers_are_sent_nothing.ensures;
  leaves = c.whole_leaves_the_own_on_the_veil.ensures.veil;
  ticks = c.ticks_see_the_mark_alone.ensures.veil;
  keeps = c.whole_keeps_the_own.ensures;
  again = c.veil_keeps_the_own.ensures.own;
  boots = c.raised_ceilings_come_first.ensures.boot;
  valid = c.reopenings_see_the_own_part.ensures.valid;
  taken = c.reopenings_see_the_own_part.ensures.taken;
  sees = c.reopenings_see_the_own_part.ensures.own;
  once = c.reopenings_see_the_own_part.ensures.once;
  nobody = c.reopenings_see_the_own_part.ensures.born;
}

pub returns-clause-valid : goal.returns-clause-valid
returns-clause-valid c = λ given sessions g events rules rows valid room.
    stay_valid given sessions (known (goal.at.returns-clause-valid c).After-reopenings_see_the_own_part) rules rows events g valid room

pub returns-clause-sent : goal.returns-clause-sent
returns-clause-sent c = λ given sessions fabric g events rules rows valid room some.
    replays given sessions (known (goal.at.returns-clause-sent c).After-reopenings_see_the_own_part) rules rows fabric some events g valid room

pub returns-clause-held : goal.returns-clause-held
returns-clause-held c = λ given sessions fabric g events rules rows valid room some.
    replays_left given sessions (known (goal.at.returns-clause-held c).After-reopenings_see_the_own_part) rules rows fabric some events g valid room

pub returns-clause-ends : goal.returns-clause-ends
returns-clause-ends c = λ given sessions fabric g events rules rows valid room some.
    replays_ends given sessions (known (goal.at.returns-clause-ends c).After-reopenings_see_the_own_part) rules rows fabric some events g valid room
