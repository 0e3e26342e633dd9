-- Why the threads of a node stopped.
use Rattle.std.proofs.Common.{◌≡◌, ◌∙◌, refl, sym, ap, subst, ℕ, ◌<◌, ◌==◌, ◌⊎◌, Bool, true, false, inl, inr, if◌then◌else◌, List, [], ◌∷◌, ◌++◌, length, map, Option, Some, None, Result, Ok, Err, arith, eq-eqb, ne_eqb}
use lib.ListN.{length-map}
use mathlib.Core.List.{IsPrefix}
use Rattle.std.proofs.Math.Logic.{∥∥₁_elim}
use Rattle.std.proofs.lemmas.List.Elements.{All-head, All-tail, Contains-get_or}
use Rattle.std.proofs.lemmas.List.Prefix.{front_fits}
use Rattle.std.specs.Prelude.{◌≤◌, All, IfErr, OnOk, slice_index_or, ⊤}
use Rattle.mt_crew.specs.Gathering.{first_fault, first_of}
use Rattle.mt_crew.specs.Serves.{HasServed, status_in, status_of}
use Rattle.mt_crew.specs.mt_receiver.ReceiveFault.{ReceiveFault}
use Rattle.mt_crew.specs.mt_receiver.Received as of_receiver
use Rattle.mt_crew.specs.mt_receiver.Receives.{Came, Counts}
use Rattle.mt_crew.specs.mt_receiver.TheVariants as receiving
use Rattle.mt_crew.specs.mt_served.Crews.{Service, lent_of}
use Rattle.mt_crew.specs.mt_served.Laws.{CrewsAreFew}
use Rattle.mt_crew.specs.mt_worker.Accounts.{Accounts, begun_account}
use Rattle.mt_crew.specs.mt_worker.Due.{AreRising, HaveBegun, id_of}
use Rattle.mt_crew.specs.mt_worker.Faults as working
use Rattle.mt_crew.specs.mt_worker.Faults.{IsCause}
use Rattle.mt_crew.specs.mt_worker.Gots.{Each}
use Rattle.mt_crew.specs.mt_worker.WorkFault.{WorkFault}
use Rattle.mt_crew.specs.mt_worker.WorkFault.TheVariants.{Full, Link, Memory, Stopped}
use Rattle.mt_files.specs.Form.{IsEvent}
use Rattle.mt_model.specs.declared.tables.access.Auth.TheVariants.{Pase}
use Rattle.mt_model.specs.declared.texts.config.SessionRow.{SessionRow}
use Rattle.mt_model.specs.texts.Config.{are_sessions}
use Rattle.mt_outside.specs.declared.network.Arrival.{Arrival}
use Rattle.mt_outside.specs.declared.network.Parcel.{Parcel}
use Rattle.mt_sizes.specs.Laws.{LinesAreShort}
use Rattle.mt_starting.specs.mt_shared.Book.{AreFormed, are_in_time, first_of as first_stop, stop_in}
use Rattle.mt_starting.specs.mt_shared.Entry.{Entry}
use Rattle.mt_starting.specs.mt_shared.Shared.{SharedView}
use Rattle.mt_starting.specs.mt_shared.Stop.{Stop}
use Rattle.mt_serving.specs.Serves.{HaveCauses, LinkRose, Rose, WasFull}
use Rattle.mt_serving.proofs.Complete.{never_full}
use Rattle.mt_serving.proofs.Readings.{lines_are_told}

-- EACH WORKER HAS BEGUN, with the accounts of its own rows.

-- a row that says nothing
abbrev silent_row : SessionRow
silent_row = record {
  session = 0;
  peer_session = 0;
  boot = 0;
  auth = Pase;
  root_key = [];
  fabric_id = 0;
  own_node = 0;
  peer_node = 0;
  cats = [];
  key_in = [];
  key_out = [];
  counter_in = 0;
  counter_out = 0;
}

-- the row of that id, or else one that says nothing
abbrev row_of : List SessionRow → ℕ → SessionRow
row_of [] id = silent_row
row_of (row ∷ rows) id = if row.session == id then row else row_of rows id

abbrev accounts_of : List SessionRow → Accounts
accounts_of rows id = begun_account (row_of rows id)

abbrev IsFound : List SessionRow → SessionRow → Type 0
IsFound rows row = row_of rows row.session ≡ row

found_behind : (first : SessionRow) (all rows : List SessionRow) → Each (λ (id : ℕ). first.session < id) (map id_of rows) → Each (IsFound all) rows → Each (IsFound (first ∷ all)) rows
found_behind first all [] above each = tt
found_behind first all (row ∷ rows) above each =
    let other : first.session ≡ row.session → ⊥ = λ same. absurd (omega (arith, above.0, same)) in
    (ap (λ (b : Bool). if b then first else row_of all row.session) (ne_eqb first.session row.session other) ∙ each.0, found_behind first all rows above.1 each.1)

all_found : (rows : List SessionRow) → AreRising (map id_of rows) → Each (IsFound rows) rows
all_found [] rising = tt
all_found (row ∷ rows) rising = (
  ap (λ (b : Bool). if b then row else row_of rows row.session) (eq-eqb row.session row.session refl),
  found_behind row rows rows rising.0 (all_found rows rising.1),
)

begun_there : (all rows : List SessionRow) → Each (IsFound all) rows → HaveBegun rows (accounts_of all)
begun_there all [] found = tt
begun_there all (row ∷ rows) found = (ap begun_account found.0, begun_there all rows found.1)

have_begun : (rows : List SessionRow) → AreRising (map id_of rows) → HaveBegun rows (accounts_of rows)
have_begun rows rising = begun_there rows rows (all_found rows rising)

-- THE STOP of a beginning is that of the book.
stop_stays : (seen rest : List Entry) (stop : Stop) → stop_in seen ≡ Some stop → stop_in (seen ++ rest) ≡ Some stop
stop_stays [] rest stop is = absurd (cc)
stop_stays (entry ∷ seen) rest stop is =
    let Goal : Option Stop → Type 0 = λ one. first_stop one (stop_in seen) ≡ Some stop → first_stop one (stop_in (seen ++ rest)) ≡ Some stop in
    let both : (one : Option Stop) → Goal one = elim [ None ↦ λ there. stop_stays seen rest stop there | Some other ↦ λ there. there ] in
    both entry.stop is

-- WHAT THE STATUS OF A THREAD TELLS, where this has risen if a link failed.
module _ (book : List Entry) (LinkFailed : Type 0) where
  record Tells (status : ℕ) : Type 0 where
    one_of : (status ≡ 0) ⊎ (status ≡ 7) ⊎ (status ≡ 8) ⊎ (status ≡ 12) ⊎ (status ≡ 13)
    disk : status ≡ 8 → (stop : Stop) × (stop_in book ≡ Some stop)
    link : status ≡ 12 → LinkFailed
    full : status ≡ 13 → WasFull book

  tells_nothing : Tells 0
  tells_nothing = record { one_of = inl refl; disk = λ is. absurd (omega (arith, is)); link = λ is. absurd (omega (arith, is)); full = λ is. absurd (omega (arith, is)) }

  tells_memory : Tells 7
  tells_memory = record { one_of = inr (inl refl); disk = λ is. absurd (omega (arith, is)); link = λ is. absurd (omega (arith, is)); full = λ is. absurd (omega (arith, is)) }

  tells_disk : (stop : Stop) → stop_in book ≡ Some stop → Tells 8
  tells_disk stop stands = record { one_of = inr (inr (inl refl)); disk = λ is. (stop, stands); link = λ is. absurd (omega (arith, is)); full = λ is. absurd (omega (arith, is)) }

  tells_link : LinkFailed → Tells 12
  tells_link failed = record { one_of = inr (inr (inr (inl refl))); disk = λ is. absurd (omega (arith, is)); link = λ is. failed; full = λ is. absurd (omega (arith, is)) }

  tells_full : WasFull book → Tells 13
  tells_full was = record { one_of = inr (inr (inr (inr refl))); disk = λ is. absurd (omega (arith, is)); link = λ is. absurd (omega (arith, is)); full = λ is. was }

  -- that of a worker or the reporter, by what its pass has seen
  of_working : {T : Type 0} (result : Result T WorkFault) (seen : List Entry) → IsPrefix seen book → IfErr result (IsCause seen) → (result ≡ Err Link → LinkFailed) → Tells (working.status_of result)
  of_working (Ok x) seen begins cause failed = tells_nothing
  of_working (Err Memory) seen begins cause failed = tells_memory
  of_working (Err Stopped) seen begins cause failed = tells_disk cause.0 (subst (λ (b : List Entry). stop_in b ≡ Some cause.0) begins.1 (stop_stays seen begins.0 cause.0 cause.1))
  of_working (Err Link) seen begins cause failed = tells_link (failed refl)
  of_working (Err Full) seen begins cause failed = tells_full (record { seen = seen; call = cause.0; begins = begins; form = cause.1; typed = cause.2; full = cause.3 })

  -- that of the receiver
  of_receiving : (ended : Result ⊤ ReceiveFault) → (ended ≡ Err receiving.Link → LinkFailed) → Tells (status_of ended)
  of_receiving (Ok x) failed = tells_nothing
  of_receiving (Err receiving.Memory) failed = tells_memory
  of_receiving (Err receiving.Link) failed = tells_link (failed refl)

  -- THE FIRST that is not 0 tells what its thread does.

  first_tells : (status later : ℕ) → Tells status → Tells later → Tells (first_of status later)
  first_tells status later one other = by (status == 0)
    where
      by : (none : Bool) → Tells (if none then later else status)
      by true = other
      by false = one

  all_tell : {O : Type 0} (services : List (Service O)) (last : ℕ) → All (λ (service : Service O). Tells (status_in service)) services → Tells last → Tells (first_fault (map status_in services ++ last ∷ []))
  all_tell [] last each one = first_tells last 0 one tells_nothing
  all_tell {O} (service ∷ services) last each one =
      first_tells (status_in service) (first_fault (map status_in services ++ last ∷ [])) (All-head (λ (other : Service O). Tells (status_in other)) service services each)
      (all_tell services last (All-tail (λ (other : Service O). Tells (status_in other)) service services each) one)

-- Where a worker found the record full, the receiver met no fault.
ended_well : (P : Type 0) (ended : Result ⊤ ReceiveFault) (later : ℕ) → first_of (status_of ended) later ≡ 13 → OnOk ended P → P
ended_well P (Ok x) later full its = its
ended_well P (Err receiving.Memory) later full its = absurd (omega (arith, full))
ended_well P (Err receiving.Link) later full its = absurd (omega (arith, full))

-- what came is a front of what was held
few_came : (held left : Option (List Arrival)) (arrivals all : List Arrival) → Came held arrivals left → held ≡ Some all → length all ≤ 4000 → length arrivals ≤ 4000
few_came None left arrivals all came is few = absurd (cc)
few_came (Some there) left arrivals all came is few =
    let same : there ≡ all = cc in
    let fits = front_fits there arrivals came.0 came.1 in
    omega (arith, fits, ap length same, few)

none_stands : (book : List Entry) (stop : Stop) → stop_in book ≡ Some stop → stop_in book ≡ None → ⊥
none_stands book stop stands runs = cc

module _ {I O : Type 0} (held : I → Option (List Arrival)) (clock missed : I → ℕ) (given : O → Option (List Parcel)) (failed : O → ℕ) (node : SharedView) (limit : ℕ) (lent returned : List O) (intake left : I) (received : of_receiver.Received) (book : List Entry) (status : ℕ)
    (its : HasServed held clock missed given failed node node.origin.state.node.boot node.origin.config.sessions limit lent returned intake left received book status) where
  abbrev Failed : Type 0
  Failed = LinkRose held missed failed its.services intake left

  -- what the status of each worker tells
  worker_tells : All (λ (service : Service O). Tells book Failed (status_in service)) its.services
  worker_tells k d less =
      let service : Service O = slice_index_or its.services k d in
      let rising : AreRising (map id_of service.rows) = (its.crew.rows k d less).rising in
      let worked = its.crew.worked k d less (accounts_of service.rows) (have_begun service.rows rising) in
      let rose : worked.result ≡ Err Link → Failed = λ is.
      inr (service, Contains-get_or its.services k d less, subst (λ (result : Result ⊤ WorkFault). working.Counts result (failed service.lent) (failed service.left.outlet)) is worked.counts) in
      subst (Tells book Failed) (sym worked.status) (of_working book Failed worked.result service.left.pass.seen (its.crew.heard k d less) worked.cause rose)

  -- the reporter's
  clerk_tells : Tells book Failed its.clerk.status
  clerk_tells =
      let did = its.crew.reported in
      let none : did.result ≡ Err Link → Failed = λ is. absurd (did.no_link (did.status ∙ ap working.status_of is)) in
      subst (Tells book Failed) (sym did.status) (of_working book Failed did.result its.clerk.pass.seen its.crew.clerk_heard did.cause none)

  -- and that of all
  status_tells : Tells book Failed status
  status_tells =
      let rose : received.ended ≡ Err receiving.Link → Failed = λ is. inl (subst (λ (result : Result ⊤ ReceiveFault). Counts result (missed intake) (missed left)) is its.counts) in
      subst (Tells book Failed) (sym its.status_is)
      (first_tells book Failed (status_of received.ended) (first_fault (map status_in its.services ++ its.clerk.status ∷ [])) (of_receiving book Failed received.ended rose) (all_tell book Failed its.services its.clerk.status worker_tells clerk_tells))

  module _ (short : LinesAreShort) (law : CrewsAreFew O given failed) (fit : are_sessions node.origin.config.sessions ≡ true) (some : 0 < length lent) (in_time : are_in_time book ≡ true) (formed : ∥ AreFormed book ∥₁)
      (typed : All (λ (entry : Entry). IsEvent entry.call.event) book) where
    count : length its.services ≡ length lent
    count = sym (length-map its.services lent_of) ∙ ap length its.lent_are

    -- WHERE FEW ANSWERS CAME it was not full.
    not_full : (all : List Arrival) → held intake ≡ Some all → length all ≤ 4000 → status ≡ 13 → ⊥
    not_full all holds few is =
        let took = ended_well _ received.ended (first_fault (map status_in its.services ++ its.clerk.status ∷ [])) (sym its.status_is ∙ is) its.took in
        let came = few_came (held intake) (held left) took.arrivals all took.came holds few in
        let lines = law node.lock node.origin book its.services its.clerk took.arrivals fit (subst (λ (n : ℕ). 0 < n) (sym count) some) its.crew took.took in
        let was = status_tells.full is in
        ∥∥₁_elim formed (λ a b. absurd a) (λ each. never_full short was.seen was.begins.0 book was.call took.arrivals was.begins.1 lines
        (lines_are_told short book in_time typed each) came in_time was.form was.typed was.full)

    -- THE CAUSES, where the keeper's count of faults is that of the book's stop, in whose commit it rose by one.
    pub causes : (faults : ℕ) → ((stop : Stop) → stop_in book ≡ Some stop → faults ≡ stop.after) → ((stop : Stop) → stop_in book ≡ Some stop → Rose stop.before stop.after)
        → HaveCauses held missed failed its.services intake left faults book status
    causes faults counted rose = record {
      one_of = status_tells.one_of;
      disk = λ is. let stop = status_tells.disk is in record { stop = stop.0; stands = stop.1; rose = rose stop.0 stop.1; now = counted stop.0 stop.1 };
      link = status_tells.link;
      full = status_tells.full;
      complete = λ all holds few runs calm. elim status_tells.one_of [
        | inl none ↦ inl none
        | inr (inl memory) ↦ inr memory
        | inr (inr (inl disk)) ↦ let stop = status_tells.disk disk in absurd (none_stands book stop.0 stop.1 runs)
        | inr (inr (inr (inl link))) ↦ absurd (calm (status_tells.link link))
        | inr (inr (inr (inr full))) ↦ absurd (not_full all holds few full)
      ];
    }
