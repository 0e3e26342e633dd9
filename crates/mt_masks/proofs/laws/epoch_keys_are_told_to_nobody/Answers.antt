use Rattle.mt_masks.proofs.Actions.{acted_masked, replies_same}
use Rattle.mt_masks.proofs.Lines.{action_masked, aside_same, behind_masked, next_masked, sent_same, tick_masked, told_same}
use Rattle.mt_masks.proofs.Observed.{read_same}
use Rattle.mt_masks.proofs.Seen.{seen_agree}
use Rattle.mt_machine.specs.Observation.{observation}
use Rattle.mt_masks.specs.Masking.{masked_node}
use Rattle.mt_masks.proofs.laws.epoch_keys_are_told_to_nobody.Goals as goal

pub returns-clause-replies : goal.returns-clause-replies
returns-clause-replies c = λ given s action now. replies_same c.steps_are_moves.ensures c.steps_are_sound.ensures given s action now

pub returns-clause-steps : goal.returns-clause-steps
returns-clause-steps c = λ given s action now. acted_masked c.steps_are_moves.ensures c.steps_are_sound.ensures given s action now

pub returns-clause-states : goal.returns-clause-states
returns-clause-states c = λ given s action now. behind_masked c.steps_are_moves.ensures c.steps_are_sound.ensures given s action now

pub returns-clause-asides : goal.returns-clause-asides
returns-clause-asides c = λ given s action now. aside_same c.steps_are_moves.ensures c.steps_are_sound.ensures given s action now

pub returns-clause-told : goal.returns-clause-told
returns-clause-told c = λ given s action now. told_same c.steps_are_moves.ensures c.steps_are_sound.ensures given s action now

pub returns-clause-reads : goal.returns-clause-reads
returns-clause-reads c = λ fabric s actor paths filtered versions. read_same (observation fabric s).seen (observation fabric (masked_node s)).seen.rows_at (seen_agree fabric s) actor filtered versions paths

pub returns-clause-sent : goal.returns-clause-sent
returns-clause-sent c = λ given s actor ms asked. sent_same c.steps_are_moves.ensures c.steps_are_sound.ensures given s actor ms asked

pub returns-clause-lines : goal.returns-clause-lines
returns-clause-lines c = λ given s actor ms asked. next_masked c.steps_are_moves.ensures c.steps_are_sound.ensures given s actor ms asked

pub returns-clause-actions : goal.returns-clause-actions
returns-clause-actions c = λ given s action ms. action_masked c.steps_are_moves.ensures c.steps_are_sound.ensures given s action ms

pub returns-clause-ticks : goal.returns-clause-ticks
returns-clause-ticks c = λ given s ms. tick_masked c.steps_are_moves.ensures c.steps_are_sound.ensures given s ms
