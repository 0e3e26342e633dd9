-- What the threads of a started node did is serving.
use Rattle.std.proofs.Common.{◌≡◌, ◌∙◌, sym, ap, subst, ℕ, ◌<◌, ◌==◌, Bool, true, false, inl, inr, if◌then◌else◌, List, [], ◌∷◌, ◌++◌, Option, Result, Ok, Err, length, map, arith}
use Rattle.std.proofs.lemmas.Bool.{cases_Bool, eqb-true}
use lib.ListN.{length-map}
use Rattle.std.proofs.lemmas.List.Elements.{All-cons, All-nil}
use Rattle.std.proofs.Math.Logic.{∥∥₁_map}
use Rattle.std.specs.Prelude.{All, None, OnOk, Some, is_some, slice_get, ⊤}
use Rattle.mt_files.specs.Recording.{recording_of}
use Rattle.mt_model.specs.texts.Config.{are_sessions}
use Rattle.mt_outside.specs.declared.network.Arrival.{Arrival}
use Rattle.mt_outside.specs.declared.network.Parcel.{Parcel}
use Rattle.mt_crew.specs.Gathering.{first_fault, first_of}
use Rattle.mt_crew.specs.Serves.{HasServed, status_in, status_of}
use Rattle.mt_crew.specs.mt_receiver.ReceiveFault.{ReceiveFault}
use Rattle.mt_crew.specs.mt_receiver.TheVariants.{Memory, Link}
use Rattle.mt_crew.specs.mt_receiver.Received as of_receiver
use Rattle.mt_crew.specs.mt_served.Crews.{Service, lent_of}
use Rattle.mt_crew.specs.mt_legal.Laws.{IsServable}
use Rattle.mt_crew.specs.mt_served.Laws.{CrewsAreFew, CrewsServe}
use Rattle.mt_starting.specs.Crashes.{AlwaysTells, IsBetween, IsSafe}
use Rattle.mt_starting.specs.mt_interactions.Configured.{ConfiguredInteractions}
use Rattle.mt_starting.specs.mt_keeping.Recovered.{RecoversFrom}
use Rattle.mt_starting.specs.mt_keeping.States.{KeepingState, told_map}
use Rattle.mt_starting.specs.mt_shared.Acts.{StandsBetween}
use Rattle.mt_starting.specs.mt_shared.Book.{are_in_time, is_timed, lines_in, stop_in}
use Rattle.mt_starting.specs.mt_shared.Entry.{Entry}
use Rattle.mt_starting.specs.mt_shared.Replay.{behind_deed, map_of, replay}
use Rattle.mt_starting.specs.mt_shared.Stop.{Stop}
use Rattle.mt_starting.specs.mt_shared.Shared.{SharedView}
use Rattle.mt_serving.specs.Record.{record_of}
use Rattle.mt_serving.specs.Serves.{HaveCauses, KeepsTheEnd, LeavesBehind, Ran, Serves, ServesAll}

some_same : {X : Type 0} (a b : X) → Some a ≡ Some b → a ≡ b
some_same a b same = cc

-- THE FIRST STATUS that is not 0: where it is 0, all are.

none_of_both : (status later : ℕ) → first_of status later ≡ 0 → (status ≡ 0) × (later ≡ 0)
none_of_both status later none = elim (cases_Bool (status == 0)) [
  | inl is ↦
      let zero : status ≡ 0 = eqb-true status 0 is in
      (zero, subst (λ (b : Bool). (if b then later else status) ≡ 0) is none)
  | inr not ↦
      let zero : status ≡ 0 = subst (λ (b : Bool). (if b then later else status) ≡ 0) not none in
      (zero, subst (λ (b : Bool). (if b then later else status) ≡ 0) (ap (λ (n : ℕ). n == 0) zero) none)
]

all_well : {O : Type 0} (services : List (Service O)) (last : ℕ) → first_fault (map status_in services ++ last ∷ []) ≡ 0 → All (λ (service : Service O). service.left.status ≡ 0) services × (last ≡ 0)
all_well [] last none = (All-nil _, (none_of_both last 0 none).0)
all_well {O} (service ∷ services) last none =
    let both = none_of_both service.left.status (first_fault (map status_in services ++ last ∷ [])) none in
    let others = all_well services last both.1 in
    (All-cons (λ (one : Service O). one.left.status ≡ 0) service services both.0 others.0, others.1)

-- the receiver met no fault
ended_well : (P : Type 0) (ended : Result ⊤ ReceiveFault) → status_of ended ≡ 0 → OnOk ended P → P
ended_well P (Ok x) none its = its
ended_well P (Err Memory) none its = absurd (omega (arith, none))
ended_well P (Err Link) none its = absurd (omega (arith, none))

module _ {I O : Type 0} (held : I → Option (List Arrival)) (clock missed : I → ℕ) (given : O → Option (List Parcel)) (failed : O → ℕ) (law : CrewsServe O given failed) (node : SharedView) (limit : ℕ) (lent returned : List O) (intake left : I)
    (received : of_receiver.Received) (book : List Entry) (status : ℕ) (servable : IsServable node.origin) (fit : are_sessions node.origin.config.sessions ≡ true) (in_time : are_in_time book ≡ true) (timed : is_timed 0 book ≡ true) (some : 0 < length lent)
    (its : HasServed held clock missed given failed node node.origin.state.node.boot node.origin.config.sessions limit lent returned intake left received book status) where
  count : length its.services ≡ length lent
  count = sym (length-map its.services lent_of) ∙ ap length its.lent_are

  module _ (read : recording_of (record_of book) ≡ Ok (lines_in book)) where
    pub serves : Serves held clock given node.origin lent returned book
    serves = record {
      services = its.services;
      clerk = its.clerk;
      lent_are = its.lent_are;
      returned_are = its.returned_are;
      timed = timed;
      run = law node.lock node.origin book its.services its.clerk servable fit in_time (subst (λ (n : ℕ). 0 < n) (sym count) some) its.crew;
      read = read;
    }

    -- the causes are those of its own threads
    pub causes_of : (faults : ℕ) → HaveCauses held missed failed its.services intake left faults book status → HaveCauses held missed failed serves.services intake left faults book status
    unfolding serves
    causes_of faults causes = causes

    pub serves_all : CrewsAreFew O given failed → status ≡ 0 → ServesAll held clock given node.origin limit lent returned intake left book
    unfolding serves
    serves_all few none =
        let first = none_of_both (status_of received.ended) (first_fault (map status_in its.services ++ its.clerk.status ∷ [])) (sym its.status_is ∙ none) in
        let well = all_well its.services its.clerk.status first.1 in
        let took = ended_well _ received.ended first.0 its.took in
        record {
          serves = serves;
          sent = λ k d less. (serves.run.run.sends k d less).all (well.0 k d less);
          arrivals = took.arrivals;
          came = took.came;
          in_order = took.in_order;
          ended = took.ended;
          follows = serves.run.follows took.arrivals well.0 well.1 took.took;
          few = (few node.lock node.origin book its.services its.clerk took.arrivals fit (subst (λ (n : ℕ). 0 < n) (sym count) some) its.crew took.took).all;
        }

-- WHAT A CRASH LEAVES at the end.
module _ {D : Type 0} (contents : D → Option (List ℕ)) (images : D → List ℕ → Type 0) where
  -- what is found of a store between two maps is found of its disk
  leaves_behind : (node : ConfiguredInteractions) (kept disk : D) (last : Option Entry) → disk ≡ kept → AlwaysTells contents
      → StandsBetween (λ before after. AlwaysTells contents → IsBetween images kept before after) node last → LeavesBehind contents images node disk last
  leaves_behind node kept disk None is always stands = tt
  leaves_behind node kept disk (Some entry) is always stands = subst (λ (d : D). IsBetween images d (map_of node) (map_of (behind_deed node entry.call.deed entry.ms))) (sym is) (stands always)

  pub keeps_the_end : (origin node : ConfiguredInteractions) (book : List Entry) (store : KeepingState D) (disk : D)
      → (AlwaysTells contents → store.store.journal.failed ≡ false → IsSafe contents images disk store.store.journal.place (told_map store))
      → disk ≡ store.store.journal.disk
      → store.store.journal.failed ≡ is_some (stop_in book) → (stop_in book ≡ None → Some (told_map store) ≡ Some (map_of node))
      → ((stop : Stop) → stop_in book ≡ Some stop → ∥ StandsBetween (λ before after. AlwaysTells contents → IsBetween images store.store.journal.disk before after) node (slice_get book stop.place) ∥₁)
      → node ≡ replay origin book
      → KeepsTheEnd contents images origin book disk
  keeps_the_end origin node book store disk safe at failed kept between is = record {
    whole = λ always runs config file left.
        let map : told_map store ≡ map_of (replay origin book) = some_same (told_map store) (map_of node) (kept runs) ∙ ap map_of is in
        subst (λ entries. RecoversFrom config entries file) map ((safe always (failed ∙ ap is_some runs)).recovers config file left);
    stopped = λ stop always stands.
        ∥∥₁_map (between stop stands) (λ one.
        subst (λ (n : ConfiguredInteractions). LeavesBehind contents images n disk (slice_get book stop.place)) is (leaves_behind node store.store.journal.disk disk (slice_get book stop.place) at always one));
  }

-- The same course, of what is equal.
module _ {I O D : Type 0} (held : I → Option (List Arrival)) (clock missed : I → ℕ) (given : O → Option (List Parcel)) (failed : O → ℕ) (contents : D → Option (List ℕ)) (images : D → List ℕ → Type 0) (faults : D → ℕ) where
  abbrev Runs : ConfiguredInteractions → ℕ → List O → List O → I → I → D → ℕ → Option (List ℕ) → Option (List ℕ) → ℕ → ℕ → Type 0
  Runs origin limit lent returned intake left disk status before after old new = Ran held clock missed given failed contents images faults origin limit lent returned intake left disk status before after old new

  pub same_course : (limit : ℕ) (lent : List O) (intake : I) (before after : Option (List ℕ)) (old new : ℕ) (origin o : ConfiguredInteractions) (returned r : List O) (left l : I) (disk d : D) (status s : ℕ)
      → origin ≡ o → returned ≡ r → left ≡ l → disk ≡ d → status ≡ s
      → Ran held clock missed given failed contents images faults origin limit lent returned intake left disk status before after old new
      → Ran held clock missed given failed contents images faults o limit lent r intake l d s before after old new
  same_course limit lent intake before after old new origin o returned r left l disk d status s origins returns lefts disks statuses course =
      subst (λ (x : ConfiguredInteractions). Runs x limit lent r intake l d s before after old new) origins
      (subst (λ (x : List O). Runs origin limit lent x intake l d s before after old new) returns
      (subst (λ (x : I). Runs origin limit lent returned intake x d s before after old new) lefts
      (subst (λ (x : D). Runs origin limit lent returned intake left x s before after old new) disks
      (subst (λ (x : ℕ). Runs origin limit lent returned intake left disk x before after old new) statuses course))))
