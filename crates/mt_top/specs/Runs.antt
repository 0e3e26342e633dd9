-- What is promised of a run of the program, watched or not.
use Rattle.std.specs.Prelude.{ℕ, List}
use Rattle.mt_endings.specs.Moments.{Input, Moment}
use Rattle.mt_asking.specs.Laws.{AskedIsOpened, ShownIsExact}
use Rattle.mt_endings.specs.OnDisk.{EndsAs}
use Rattle.mt_compare.specs.mt_runs.Expiries.{ExpiriesAreRollbacks}
use Rattle.mt_compare.specs.mt_runs.Replies.{RepliesAreExact}
use Rattle.mt_compare.specs.mt_runs.Restarts.{ReopeningsAreExact}
use Rattle.mt_top.specs.Asked.{asked_of}
use Rattle.mt_top.specs.Clusters.{KeySetsAreTheirOwn, KeysAreSecret, WindowsAreExact}
use Rattle.mt_top.specs.Compared.{ComparisonsAreExact}
use Rattle.mt_top.specs.Denials.{DenialsAreExact}
use Rattle.mt_top.specs.Isolated.{RunsAreIsolated}

-- These words were asked for, and this was the status. The disk, and the sources and the sink, are told as they were before and after.
pub record IsRun (words : List (List ℕ)) (status : ℕ) (disk_before disk_after : Input) (before after : Moment) : Type 0 where
  -- it ends as what is asked for ends; where that looks at no journal, the disk is as it was
  pub ends : EndsAs status (asked_of words) disk_before disk_after before after
  -- what each fabric is sent of any run is determined by its own part and its marks
  pub isolated : RunsAreIsolated
  -- access is denied exactly where no entry grants it
  pub denied : DenialsAreExact
  -- a line is answered by exactly the items of what it asks, as its fabric sees the state before it
  pub replied : RepliesAreExact
  -- behind every expiry of the fail-safe, whichever way it comes, the node is the rollback of what it was
  pub expired : ExpiriesAreRollbacks
  -- whichever line the disk stops in, the node behind it goes on with exactly the rollback of what it kept, in which every change that was
  -- answered is
  pub reopened : ReopeningsAreExact
  -- what a comparison tells is what the marks say
  pub compared : ComparisonsAreExact
  -- what is asked for a script is a recording, whose datagrams a new session of the node opens to exactly the script's headers and payloads
  pub asked : AskedIsOpened
  -- what is shown of a datagram is the message that is sealed in it, or the first test that it fails; what a session of the node sealed is shown exactly
  pub shown : ShownIsExact
  -- a commissioning window is open from the line that opens it up to the line that closes it, and is refused exactly where a cause stands
  pub windows : WindowsAreExact
  -- a fabric's group key sets are what its own commands made of them
  pub key_sets : KeySetsAreTheirOwn
  -- no epoch key of a key set is ever sent
  pub secret : KeysAreSecret
