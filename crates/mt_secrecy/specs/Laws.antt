-- That no epoch key of a group key set is ever sent: what a run sends does not hang on them.
use Rattle.std.specs.Prelude.{◌≡◌, List}
use Rattle.mt_model.specs.declared.texts.config.Config.{Config}
use Rattle.mt_model.specs.declared.texts.config.SessionRow.{SessionRow}
use Rattle.mt_model.specs.declared.texts.recording.Event.{Event}
use Rattle.mt_machine.specs.Environment.{Environment}
use Rattle.mt_runs.specs.Course.{going_on}
use Rattle.mt_runs.specs.Messages.{behind, messages, run}
use Rattle.mt_runs.specs.Whole.{Whole, opened}
use Rattle.mt_secrecy.specs.Alike.{AllAlike, masked_whole}

-- KEYS ARE NEVER SENT: two recordings that are alike send the same bytes to everybody, in the same order; and so they do from two wholes that are
-- the same but for keys.
abbrev pub KeysAreNeverSent : Type 0
KeysAreNeverSent = (given : Environment) (sessions : List SessionRow) (w v : Whole) (events others : List Event) → masked_whole w ≡ masked_whole v → AllAlike events others
    → run given sessions (going_on w) events ≡ run given sessions (going_on v) others

-- so is each message with the fabric to which it is sent
abbrev pub KeysAreInNoMessage : Type 0
KeysAreInNoMessage = (given : Environment) (sessions : List SessionRow) (w v : Whole) (events others : List Event) → masked_whole w ≡ masked_whole v → AllAlike events others
    → messages given sessions (going_on w) events ≡ messages given sessions (going_on v) others

-- and the two leave wholes that are the same but for keys
abbrev pub KeysAloneDiffer : Type 0
KeysAloneDiffer = (given : Environment) (sessions : List SessionRow) (w v : Whole) (events others : List Event) → masked_whole w ≡ masked_whole v → AllAlike events others
    → masked_whole (behind given sessions (going_on w) events).whole ≡ masked_whole (behind given sessions (going_on v) others).whole

-- So it is of a node that begins as a configuration says.
abbrev pub NewNodesSendNoKeys : Type 0
NewNodesSendNoKeys = (given : Environment) (config : Config) (events others : List Event) → AllAlike events others
    → run given config.sessions (going_on (opened config)) events ≡ run given config.sessions (going_on (opened config)) others
