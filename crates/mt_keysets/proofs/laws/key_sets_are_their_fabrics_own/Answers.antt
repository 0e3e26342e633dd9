use Rattle.mt_keysets.proofs.Lines.{Known}
use Rattle.mt_keysets.proofs.Runs.{others_step, run_follows}
use Rattle.mt_keysets.proofs.laws.key_sets_are_their_fabrics_own.Goals as goal
use Rattle.mt_keysets.proofs.laws.key_sets_are_their_fabrics_own.Goals.{After-steps_are_sound}

-- what is known of each line, and of each reopening
known : (c : After-steps_are_sound) → Known
known c = record {
  stays = c.wholes_are_valid.ensures.stays;
  askers = c.what_is_asked_is_the_same_on_the_veil.ensures.known;
  moves = c.steps_are_moves.ensures;
  sound = c.steps_are_sound.ensures;
  boots = c.raised_ceilings_come_first.ensures.boot;
  reopens = c.reopenings_see_the_own_part.ensures.valid;
  taken = c.reopenings_see_the_own_part.ensures.taken;
  sees = c.reopenings_see_the_own_part.ensures.own;
}

pub returns-clause-run : goal.returns-clause-run
returns-clause-run c = λ given sessions fabric g events rules rows valid room some.
    run_follows given sessions (known (goal.at.returns-clause-run c).After-steps_are_sound) rules rows fabric some events g valid room

pub returns-clause-others : goal.returns-clause-others
returns-clause-others c = λ given sessions fabric g event rules rows valid room some.
    others_step given sessions (known (goal.at.returns-clause-others c).After-steps_are_sound) rules rows fabric some
    (goal.at.returns-clause-others c).After-steps_are_sound.what_is_asked_is_the_same_on_the_veil.ensures.asker g event valid room
