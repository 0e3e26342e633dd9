-- The calls of all are a run, and each worker's outlet was given what that sends over its sessions.
use Rattle.std.proofs.Common.{◌≡◌, ◌∙◌, ℕ, ◌<◌, nat_le, ◌==◌, true, List, [], ◌∷◌, Option, Result, Ok, Err, OnOk, filter, map, sym, ap, subst, arith}
use Rattle.std.specs.Prelude.{⊤}
use Rattle.std.proofs.lemmas.Bool.{and_parts, leb-true}
use Rattle.mt_legal.specs.Laws.{AreInTime, BooksAreRuns, IsServable, IsWholeBook}
use Rattle.mt_legal.specs.Lines.{ids_of_boot, rows_of_boot, told_of}
use Rattle.mt_legal.specs.mt_interactions.Configured.{ConfiguredInteractions}
use Rattle.mt_legal.specs.mt_shares.Laws.{MergedCallsAreMade, WorkersSendTheirOwn}
use Rattle.mt_legal.specs.mt_shares.Threads.{HaveTheirIds, calls_of, is_to_worker}
use Rattle.mt_model.specs.declared.limits.TheConstants.{LAST_TIME}
use Rattle.mt_model.specs.declared.texts.config.SessionRow.{SessionRow}
use Rattle.mt_outside.specs.declared.network.Parcel.{Parcel}
use Rattle.mt_rounds.specs.mt_owners.Laws.{OwnersAreExact}
use Rattle.mt_rounds.specs.mt_owners.Rows.{AreRowsOf}
use Rattle.mt_rounds.specs.mt_receiver.Rounds.{owner_of}
use Rattle.mt_rounds.specs.mt_shared.Book.{are_in_time}
use Rattle.mt_rounds.specs.mt_shared.Entry.{Entry}
use Rattle.mt_rounds.specs.mt_shared.Replay.{told}
use Rattle.mt_rounds.specs.mt_shared.Shared.{NodePass}
use Rattle.mt_rounds.specs.mt_worker.Accounts.{Accounts, all_sent}
use Rattle.mt_rounds.specs.mt_worker.Due.{HaveBegun, id_of, is_in}
use Rattle.mt_rounds.specs.mt_worker.Faults.{status_of}
use Rattle.mt_rounds.specs.mt_worker.Giving.{Gave, GavePart, parcels_in}
use Rattle.mt_rounds.specs.mt_worker.Gots.{Got}
use Rattle.mt_rounds.specs.mt_worker.Made.{AreMade, AreTicks}
use Rattle.mt_rounds.specs.mt_worker.WorkFault.{WorkFault}
use Rattle.mt_rounds.specs.mt_worker.WorkFault.TheVariants.{Memory, Stopped, Link, Full}
use Rattle.mt_rounds.specs.mt_worker.Works.{AreOver, Worked}
use Rattle.mt_served.specs.Crews.{Service}
use Rattle.mt_served.specs.Served.{SendsTheRun, run_over, run_to}

-- a status of 0 is that of no fault
pub went_well : {P : Type 0} (result : Result ⊤ WorkFault) (status : ℕ) → status ≡ status_of result → status ≡ 0 → OnOk result P → P
went_well (Ok done) status is none p = p
went_well (Err Memory) status is none p = absurd (omega (arith, is, none))
went_well (Err Stopped) status is none p = absurd (omega (arith, is, none))
went_well (Err Link) status is none p = absurd (omega (arith, is, none))
went_well (Err Full) status is none p = absurd (omega (arith, is, none))

each_in_time : (book : List Entry) → are_in_time book ≡ true → AreInTime book
each_in_time [] may = tt
each_in_time (entry ∷ book) may =
    let both = and_parts (nat_le entry.ms LAST_TIME) (are_in_time book) may in
    (leb-true entry.ms LAST_TIME both.0, each_in_time book both.1)

-- A WORKER'S SESSIONS are of the boot.
module _ (exact : OwnersAreExact) (origin : ConfiguredInteractions) (workers worker : ℕ) (rows : List SessionRow) (mine : AreRowsOf origin.state.node.boot workers worker origin.config.sessions rows) where
  of_boot : (id : ℕ) → is_in (map id_of rows) id ≡ true → is_in (ids_of_boot origin) id ≡ true
  of_boot id own = (and_parts (is_in (ids_of_boot origin) id) (owner_of workers id == worker) (sym (exact origin.state.node.boot workers worker origin.config.sessions rows mine id) ∙ own)).0

  pub over_boot : (gots : List Got) → AreOver (map id_of rows) gots → AreOver (ids_of_boot origin) gots
  over_boot [] over = tt
  over_boot (got ∷ gots) over = (of_boot got.session over.0, over_boot gots over.1)

-- THE WHOLE BOOK, where what each thread's calls are is known.
pub record AreCalls (origin : ConfiguredInteractions) (accounts : Accounts) (workers : ℕ) (all : List Got) : Type 0 where
  pub made : (worker : ℕ) → worker < workers → AreOver (ids_of_boot origin) (calls_of workers worker all) × AreMade accounts (calls_of workers worker all)
  pub ticks : AreTicks (calls_of workers workers all)

pub is_whole : MergedCallsAreMade → (origin : ConfiguredInteractions) (accounts : Accounts) (workers : ℕ) (book : List Entry) (all : List Got) → 0 < workers → HaveBegun (rows_of_boot origin) accounts → are_in_time book ≡ true
    → map told_of all ≡ told origin book → AreCalls origin accounts workers all → IsWholeBook origin accounts book all
is_whole merged origin accounts workers book all some begun in_time told_are calls = record {
  begun = begun;
  told_are = told_are;
  lines = merged workers (ids_of_boot origin) accounts all some calls.made calls.ticks;
  in_time = each_in_time book in_time;
}

-- THE RUN, of which each worker's outlet was given its own.
module _ (runs : BooksAreRuns) (own : WorkersSendTheirOwn) (origin : ConfiguredInteractions) (accounts : Accounts) (workers : ℕ) (book : List Entry) (all : List Got)
    (servable : IsServable origin) (whole : IsWholeBook origin accounts book all) (theirs : HaveTheirIds accounts) (ticks : AreTicks (calls_of workers workers all)) where
  sends_own : (worker : ℕ) → worker < workers → parcels_in (all_sent accounts (calls_of workers worker all)) ≡ run_to origin workers worker book
  sends_own worker less =
      let sent : run_over origin book ≡ all_sent accounts all = runs origin accounts book all servable whole in
      ap parcels_in (sym (own workers worker accounts all less theirs ticks) ∙ ap (filter (is_to_worker workers worker)) (sym sent))

  pub sends_the_run : {O : Type 0} (given : O → Option (List Parcel)) (faults : O → ℕ) (pass : NodePass) (service : Service O) (w : Worked given faults service.rows accounts pass service.lent service.left)
      → service.number < workers → w.gots ≡ calls_of workers service.number all → SendsTheRun given origin workers book service
  sends_the_run given faults pass service w less its =
      let same : parcels_in (all_sent accounts w.gots) ≡ run_to origin workers service.number book = ap (λ (gots : List Got). parcels_in (all_sent accounts gots)) its ∙ sends_own service.number less in
      record {
        part = subst (GavePart (given service.lent) (given service.left.outlet)) same w.part;
        all = λ none. subst (Gave (given service.lent) (given service.left.outlet)) same (went_well w.result service.left.status w.status none w.all);
      }
