-- What a worker did, and the reporter.
use Rattle.std.specs.Prelude.{◌≡◌, ◌≢◌, ℕ, ⊤, true, List, [], ◌∷◌, Option, Result, is_some, length, map, IfErr, IfOk, OnOk}
use Rattle.mt_layer.specs.mt_interactions.Configured.{ConfiguredInteractions}
use Rattle.mt_model.specs.declared.texts.config.SessionRow.{SessionRow}
use Rattle.mt_model.specs.declared.texts.recording.Sent.{Sent}
use Rattle.mt_outside.specs.declared.network.Parcel.{Parcel}
use Rattle.mt_queue.specs.declared.job.Job.{Job}
use Rattle.mt_layer.specs.mt_shared.Book.{done}
use Rattle.mt_layer.specs.mt_shared.Shared.{NodePass}
use Rattle.mt_layer.specs.mt_shared.Call.{Call}
use Rattle.mt_layer.specs.mt_shared.Stamped.{Stamped}
use Rattle.mt_worker.specs.Accounts.{Account, Accounts, account_over, all_behind, all_sent, sent_over}
use Rattle.mt_worker.specs.Due.{DoesAll, Ticks, TicksAll, id_of, is_in}
use Rattle.mt_worker.specs.Faults.{Counts, IsCause, status_of}
use Rattle.mt_worker.specs.Few.{AreAtMost, AreFew, AreFewTicks, ticks_for, wake_count}
use Rattle.mt_worker.specs.Giving.{Gave, GavePart, parcels_in}
use Rattle.mt_worker.specs.Gots.{Each, Goes, Got}
use Rattle.mt_worker.specs.Made.{AreMade, AreMadeOver, AreTicks}
use Rattle.mt_worker.specs.Seats.{AreSeats, IsSeatOf}
use Rattle.mt_worker.specs.declared.fault.WorkFault.{WorkFault}
use Rattle.mt_worker.specs.declared.fault.WorkFault.TheVariants.{Link}
use Rattle.mt_worker.specs.declared.hand.Hand.{Hand}
use Rattle.mt_worker.specs.declared.seat.Seat.{Seat}
use Rattle.mt_worker.specs.declared.working.Done.{Done}

-- all were made over this session
abbrev pub AreOverOne : ℕ → List Got → Type 0
AreOverOne session gots = Each (λ (got : Got). got.session ≡ session) gots

-- over one of these
abbrev pub AreOver : List ℕ → List Got → Type 0
AreOver ids gots = Each (λ (got : Got). is_in ids got.session ≡ true) gots

-- this call over this session, whose entry is a stop
pub record IsStopOf (session : ℕ) (call : Call) (got : Got) : Type 0 where
  pub session_is : got.session ≡ session
  pub call_is : got.told.0.call ≡ call
  pub stop : is_some got.told.0.stop ≡ true

-- a stop, or nothing
abbrev pub AreStops : ℕ → Call → List Got → Type 0
AreStops session call gots = Each (IsStopOf session call) gots

-- what a call got that was refused
pub record GotNone (session : ℕ) (call : Call) (before after : NodePass) (fault : WorkFault) : Type 0 where
  pub gots : List Got
  pub goes : Goes before after gots
  pub stops : AreStops session call gots
  pub not_link : fault ≢ Link
  pub cause : IsCause after.seen fault

module _ {O : Type 0} (given : O → Option (List Parcel)) (faults : O → ℕ) where
  -- A part of a worker's work, which ended so: its calls got these, and these messages were to be sent. All were given to the outlet, or, with a
  -- fault, the first of them.
  pub record Went {T : Type 0} (before after : Hand O) (result : Result T WorkFault) (gots : List Got) (sent : List Sent) : Type 0 where
    pub goes : Goes before.pass after.pass gots
    pub all : OnOk result (Gave (given before.outlet) (given after.outlet) (parcels_in sent))
    pub part : GavePart (given before.outlet) (given after.outlet) (parcels_in sent)
    pub counts : Counts result (faults before.outlet) (faults after.outlet)
    pub cause : IfErr result (IsCause after.pass.seen)

  -- The same over one session: each of its calls was one to be made then, and at most so many of them made lines of datagrams and of steps; without a
  -- fault they were those that were due, and behind them the seat stands for the account behind them.
  pub record WentOver {T : Type 0} (Due : Account → List Got → Type 0) (heard steps : ℕ) (before after : Hand O) (seat : Seat) (result : Result T WorkFault) (a : Account) : Type 0 where
    pub gots : List Got
    pub went : Went before after result gots (sent_over a gots)
    pub over : AreOverOne a.row.session gots
    pub made : AreMadeOver a gots
    pub few : AreAtMost heard steps gots
    pub did : OnOk result (Due a gots)
    pub stands : OnOk result (IsSeatOf seat (account_over a gots))

  -- and over several
  pub record WentOn {T : Type 0} (Due : Accounts → List Got → Type 0) (heard steps : ℕ) (ids : List ℕ) (before after : Hand O) (seats : List Seat) (result : Result T WorkFault) (accounts : Accounts) : Type 0 where
    pub gots : List Got
    pub went : Went before after result gots (all_sent accounts gots)
    pub over : AreOver ids gots
    pub made : AreMade accounts gots
    pub few : AreAtMost heard steps gots
    pub did : OnOk result (Due accounts gots)
    pub stands : OnOk result (AreSeats seats ids (all_behind accounts gots))

  -- and through all jobs that were taken
  pub record WentThrough {T : Type 0} (ids : List ℕ) (jobs : List Job) (before after : Hand O) (result : Result T WorkFault) (accounts : Accounts) : Type 0 where
    pub gots : List Got
    pub went : Went before after result gots (all_sent accounts gots)
    pub over : AreOver ids gots
    pub made : AreMade accounts gots
    pub few : AreFew (length ids) jobs gots
    pub did : OnOk result (DoesAll ids accounts jobs gots)

  -- WHAT A WORKER DID, with these accounts as it began. Its calls got these, each over one of its sessions, and each was one to be made then, at every
  -- status, and no more of them than its jobs give; what its outlet was given are the messages that they send, all of them at status 0, else the first of
  -- them. At status 0 these calls are exactly those that the jobs give that it took.
  pub record Worked (rows : List SessionRow) (accounts : Accounts) (pass : NodePass) (outlet : O) (done : Done O) : Type 0 where
    pub result : Result ⊤ WorkFault
    pub gots : List Got
    pub status : done.status ≡ status_of result
    pub goes : Goes pass done.pass gots
    pub over : AreOver (map id_of rows) gots
    pub made : AreMade accounts gots
    pub all : OnOk result (Gave (given outlet) (given done.outlet) (parcels_in (all_sent accounts gots)))
    pub part : GavePart (given outlet) (given done.outlet) (parcels_in (all_sent accounts gots))
    pub did : OnOk result (DoesAll (map id_of rows) accounts done.queue.taken gots)
    pub counts : Counts result (faults outlet) (faults done.outlet)
    pub cause : IfErr result (IsCause done.pass.seen)
    pub few : AreFew (length rows) done.queue.taken gots

-- what a call that was answered got
abbrev pub got_by : ℕ → Call → Stamped → Got
got_by session call stamped = record { place = stamped.place; session = session; told = (done call stamped.ms, stamped.answer) }

-- A call was answered, which is a line of the book; or refused, and then it got nothing, or the stop.
pub record Acts (origin : ConfiguredInteractions) (session : ℕ) (call : Call) {O : Type 0} (before after : Hand O) (result : Result Stamped WorkFault) : Type 0 where
  pub answered : IfOk result (λ stamped. Goes before.pass after.pass (got_by session call stamped ∷ []))
  pub refused : IfErr result (λ fault. GotNone session call before.pass after.pass fault)

-- A part of the reporter's work, for these calls that were due: each call was a time step, and at most so many made lines.

pub record TickedBy {T : Type 0} (Due : List Got → Type 0) (steps : ℕ) (before after : NodePass) (result : Result T WorkFault) : Type 0 where
  pub gots : List Got
  pub goes : Goes before after gots
  pub ticks : AreTicks gots
  pub few : AreAtMost 0 steps gots
  pub did : OnOk result (Due gots)
  pub not_link : IfErr result (λ fault. fault ≢ Link)
  pub cause : IfErr result (IsCause after.seen)

abbrev pub Ticked : {T : Type 0} → Job → NodePass → NodePass → Result T WorkFault → Type 0
Ticked job before after result = TickedBy (Ticks job) (ticks_for job) before after result

abbrev pub TickedThrough : {T : Type 0} → List Job → NodePass → NodePass → Result T WorkFault → Type 0
TickedThrough jobs before after result = TickedBy (TicksAll jobs) (wake_count jobs) before after result

-- WHAT THE REPORTER DID. Its calls are time steps, at every status, and no more than the wakes that it took; at status 0 one for each of these.
pub record Reported (pass : NodePass) (done : Done ⊤) : Type 0 where
  pub result : Result ⊤ WorkFault
  pub gots : List Got
  pub status : done.status ≡ status_of result
  pub goes : Goes pass done.pass gots
  pub ticks : AreTicks gots
  pub did : OnOk result (TicksAll done.queue.taken gots)
  pub cause : IfErr result (IsCause done.pass.seen)
  pub no_link : done.status ≢ 12
  pub few : AreFewTicks done.queue.taken gots
