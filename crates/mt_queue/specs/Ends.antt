-- What contracts see of the ends of a queue.
use Rattle.std.specs.Prelude.{◌≡◌, true, false, List, []}
use Rattle.atomic_table.specs.Seated.{TableId}
use Rattle.atomic_table.specs.declared.badge.Badge.{Badge}
use Rattle.crossbeam_channel.specs.declared.flavors.array.Key.{Key}
use Rattle.crossbeam_channel.specs.Claims.{Pass, view}
use Rattle.mt_queue.specs.declared.job.Job.{Job}
use Rattle.mt_queue.specs.declared.rule.Notes.{Notes}

-- Which queue it is: the table of its places, and that of its jobs.
pub record QueueId : Type 0 where
  pub places : TableId
  pub jobs : Badge (Key Job)

-- the sending end: the queue, and what was put
pub record Put : Type 0 where
  pub queue : QueueId
  pub put : List Job

-- the taking end, and its pass: the queue, and what was taken
pub record Taken : Type 0 where
  pub queue : QueueId
  pub taken : List Job

abbrev pub queue_of : Pass Job Notes → QueueId
queue_of p = record { places = p.table_id; jobs = p.me.0.of }

abbrev pub put_by : Pass Job Notes → Put
put_by p = record { queue = queue_of p; put = (view p).put }

abbrev pub taken_by : Pass Job Notes → Taken
taken_by p = record { queue = queue_of p; taken = (view p).taken }

abbrev pub IsOfSender : Pass Job Notes → Type 0
IsOfSender p = ((view p).puts ≡ true) × ((view p).takes ≡ false)

-- it has no place in hand
abbrev pub IsOfTaker : Pass Job Notes → Type 0
IsOfTaker p = ((view p).takes ≡ true) × ((view p).puts ≡ false) × (p.me.1 ≡ [])
