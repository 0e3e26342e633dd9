use Rattle.std.proofs.Common.{◌≡◌, refl}
use Rattle.mt_runs.specs.Course.{going_on}
use Rattle.mt_runs.specs.Whole.{Whole, opened}
use Rattle.mt_secrecy.specs.Alike.{masked_whole}
use Rattle.mt_secrecy.specs.Laws.{KeysAreNeverSent}
use Rattle.mt_secrecy.proofs.Runs.{GoAlike, Known, left_alike, messages_alike, runs_alike}
use Rattle.mt_secrecy.proofs.Sample.{keys_alike, writes_are_read}
use Rattle.mt_secrecy.proofs.laws.keys_are_never_sent.Goals as goal
use Rattle.mt_secrecy.proofs.laws.keys_are_never_sent.Goals.{After-epoch_keys_are_told_to_nobody}

-- what is known of the node where keys are masked
known : (c : After-epoch_keys_are_told_to_nobody) → Known
known c = record {
  replies = c.epoch_keys_are_told_to_nobody.ensures.replies;
  reads = c.epoch_keys_are_told_to_nobody.ensures.reads;
  states = c.epoch_keys_are_told_to_nobody.ensures.states;
  told = c.epoch_keys_are_told_to_nobody.ensures.told;
  lines = c.epoch_keys_are_told_to_nobody.ensures.lines;
  acted = c.epoch_keys_are_told_to_nobody.ensures.actions;
  ticks = c.epoch_keys_are_told_to_nobody.ensures.ticks;
}

-- no stop is to come
both : (w v : Whole) → masked_whole w ≡ masked_whole v → GoAlike (going_on w) (going_on v)
both w v same = record { whole = same; stop = refl; other = refl }

pub returns-clause-sent : goal.returns-clause-sent
returns-clause-sent c = λ given sessions w v events others same alike. runs_alike (known (goal.at.returns-clause-sent c).After-epoch_keys_are_told_to_nobody) given sessions events others (going_on w) (going_on v) (both w v same) alike

pub returns-clause-messages : goal.returns-clause-messages
returns-clause-messages c = λ given sessions w v events others same alike.
    messages_alike (known (goal.at.returns-clause-messages c).After-epoch_keys_are_told_to_nobody) given sessions events others (going_on w) (going_on v) (both w v same) alike

pub returns-clause-left : goal.returns-clause-left
returns-clause-left c = λ given sessions w v events others same alike. left_alike (known (goal.at.returns-clause-left c).After-epoch_keys_are_told_to_nobody) given sessions events others (going_on w) (going_on v) (both w v same) alike

pub returns-clause-new : goal.returns-clause-new
returns-clause-new c = λ given config events others alike.
    let sent : KeysAreNeverSent = returns-clause-sent c in
    sent given config.sessions (opened config) (opened config) events others refl alike

pub returns-clause-sample : goal.returns-clause-sample
returns-clause-sample c = keys_alike

pub returns-clause-read : goal.returns-clause-read
returns-clause-read c = writes_are_read
