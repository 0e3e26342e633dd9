-- From what the threads did and left to what serving has come to.
use Rattle.std.proofs.Common.{◌≡◌, ◌<◌, ◌≤◌, ◌∙◌, ℕ, ◌+◌, List, [], ◌∷◌, ◌++◌, Option, Result, Ok, Err, OnOk, map, length, get_or, sym, ap, subst, arith}
use Rattle.std.specs.Prelude.{⊤}
use Rattle.std.proofs.lemmas.List.{get_or-map, length-map, map_push}
use Rattle.std.proofs.lemmas.List.Elements.{All-same}
use Rattle.std.specs.List.{All}
use mathlib.Core.List.{IsPrefix}
use Rattle.mt_model.specs.declared.texts.config.SessionRow.{SessionRow}
use Rattle.mt_outside.specs.declared.network.Arrival.{Arrival}
use Rattle.mt_outside.specs.declared.network.Parcel.{Parcel}
use Rattle.mt_queue.specs.Ends.{QueueId}
use Rattle.mt_queue.specs.declared.job.Job.TheVariants.{End}
use Rattle.mt_owners.specs.Rows.{AreRowsOf, rows_in}
use Rattle.mt_owners.specs.mt_receiver.Received as of_receiver
use Rattle.mt_owners.specs.mt_receiver.Receives.{AllPut, Counts, Received, workers_of}
use Rattle.mt_owners.specs.mt_receiver.Rounds.{jobs_for}
use Rattle.mt_owners.specs.mt_shared.Entry.{Entry}
use Rattle.mt_owners.specs.mt_shared.Shared.{NodePass, SharedView}
use Rattle.mt_owners.specs.mt_worker.Done.{Done}
use Rattle.mt_owners.specs.mt_worker.Due.{id_of}
use Rattle.mt_owners.specs.mt_worker.Works.{Reported}
use Rattle.mt_served.specs.Crews as crews
use Rattle.mt_served.specs.Crews.{DidItsWork, IsCrew, Service, TookTheirJobs, begun_pass, lent_of, returned_of, times_got}
use Rattle.mt_served.specs.mt_shares.Merging.{upto}
use Rattle.mt_turn.specs.Counts.{how_often, total}
use Rattle.mt_crew.specs.Gathering.{GatheredAll, TookOfAll, first_fault, first_of, outlet_left, queue_left, status_left, times_left}
use Rattle.mt_crew.specs.Members.{HasReported, HasWorked, jobs_in, lefts, number_of}
use Rattle.mt_crew.specs.Ready.{AreReady, AreSeated, HaveSessions, IsUnput, queue_put, queue_taken}
use Rattle.mt_crew.specs.Serves.{HasReceived, HasServed, TookWhatCame, status_in, status_of}
use Rattle.mt_crew.specs.declared.member.Member.{Member}
use Rattle.mt_crew.specs.declared.seating.Places.{Places}
use Rattle.mt_crew.specs.declared.seating.Seated.{Seated}
use Rattle.mt_crew.specs.declared.threads.Reception.{Reception}
use Rattle.mt_crew.proofs.Crews.{Serviced, serviced, total_map, upto_at}
use Rattle.mt_crew.proofs.Jobs.{TookEach, jobs_no_end, same_queues, took_each}
use Rattle.mt_crew.proofs.Lists.{map_map, zip_each}

-- of each whose part is so
pub each_of : {A B : Type 0} (P : B → Type 0) (f : A → B) (xs : List A) (ys : List B) → map f xs ≡ ys → All P ys → All (λ (x : A). P (f x)) xs
each_of {A} {B} P f xs ys is all k d lt =
    let same = ap length is in
    let len = length-map xs f in
    subst P (ap (λ (l : List B). get_or l k (f d)) (sym is) ∙ get_or-map f xs k d (f d) lt) (all k (f d) (omega arith))

-- the part of the one at a place
part_at : {A B : Type 0} (f : A → B) (xs : List A) (ys : List B) → map f xs ≡ ys → (k : ℕ) (d : A) → k < length xs → f (get_or xs k d) ≡ get_or ys k (f d)
part_at {A} {B} f xs ys is k d lt = sym (get_or-map f xs k d (f d) lt) ∙ ap (λ (l : List B). get_or l k (f d)) is

on_ok : {T E A B : Type 0} (result : Result T E) → (A → B) → OnOk result A → OnOk result B
on_ok (Ok x) f a = f a
on_ok (Err e) f a = tt

module _ {O : Type 0} (given : O → Option (List Parcel)) (faults : O → ℕ) (node : SharedView) (lent : List O) (places : Places O) (seated : Seated O) (afters : List (Member O)) (clerk : Done ⊤) where
  abbrev pub begun : NodePass
  begun = begun_pass node.lock node.origin

  abbrev pub Crewed : Type 0
  Crewed = Serviced given faults node begun seated.members.items afters

  abbrev pub AllSeated : Type 0
  AllSeated = AreSeated node begun places lent seated

  count_is : (s : Crewed) → AllSeated → length s.services ≡ length lent
  count_is s seats =
      let len = length-map s.services (crews.number_of {O = O}) in
      let same = ap length s.numbers in
      let members = length-map seated.members.items (number_of {O = O}) in
      let all = seats.length_is in
      omega arith

  numbers_are : (s : Crewed) → AllSeated → map crews.number_of s.services ≡ upto (length lent)
  numbers_are s seats = s.numbers ∙ seats.numbers

  number_at : (s : Crewed) → AllSeated → (k : ℕ) (d : Service O) → k < length lent → (get_or s.services k d).number ≡ k
  number_at s seats k d lt =
      let count = count_is s seats in
      part_at (crews.number_of {O = O}) s.services (upto (length lent)) (numbers_are s seats) k d (omega arith) ∙ upto_at (length lent) k d.number lt

  rows_at : (s : Crewed) → AllSeated → (k : ℕ) (d : Service O) → k < length lent → (get_or s.services k d).rows ≡ get_or places.rows.items k d.rows
  rows_at s seats k d lt =
      let count = count_is s seats in
      part_at (λ (service : Service O). service.rows) s.services places.rows.items (s.rows ∙ seats.rows) k d (omega arith)

  pub crew_is : (boot : ℕ) (sessions : List SessionRow) (before after : NodePass) (book : List Entry) (s : Crewed) → AllSeated → HaveSessions boot (length lent) sessions places → HasReported node seated.pass seated.ticks clerk
      → before.places ≡ [] → GatheredAll before after (lefts afters) clerk → book ≡ after.seen
      → ((k : ℕ) → k < length after.seen → how_often k after.places ≡ 1) → ((k : ℕ) → length after.seen ≤ k → how_often k after.places ≡ 0)
      → IsCrew given faults node.lock node.origin boot sessions book s.services clerk
  crew_is boot sessions before after book s seats have reported none gathered seen once no_other =
      let count : length s.services ≡ length lent = count_is s seats in
      let entries : length book ≡ length after.seen = ap length seen in
      let sums : (k : ℕ) → how_often k after.places ≡ how_often k clerk.pass.places + total (times_got k) s.services = λ k.
      let all = gathered.places k in
      let zero : how_often k before.places ≡ 0 = ap (how_often k) none in
      let left = ap (total (times_left {O = O} k)) s.left in
      let each = total_map (times_left {O = O} k) (λ (service : Service O). service.left) s.services in
      omega arith in
      record {
        numbers = numbers_are s seats ∙ ap upto (sym count);
        rows = λ k d lt.
            let below : k < length lent = omega arith in
            subst (λ (n : ℕ). AreRowsOf boot n (get_or s.services k d).number sessions (get_or s.services k d).rows) (sym count)
            (subst (λ (w : ℕ). AreRowsOf boot (length lent) w sessions (get_or s.services k d).rows) (sym (number_at s seats k d below))
            (subst (AreRowsOf boot (length lent) k sessions) (sym (rows_at s seats k d below)) (have.rows k d.rows below)));
        worked = s.worked;
        reported = subst (λ (pass : NodePass). Reported pass clerk) seats.pass_is reported.reported;
        heard = each_of (λ (ended : Done O). IsPrefix ended.pass.seen book) (λ (service : Service O). service.left) s.services (lefts afters) s.left
            (subst (λ (l : List Entry). All (λ (ended : Done O). IsPrefix ended.pass.seen l) (lefts afters)) (sym seen) gathered.heard);
        clerk_heard = subst (IsPrefix clerk.pass.seen) (sym seen) gathered.clerk_heard;
        once = λ k lt. sym (sums k) ∙ once k (omega arith);
        no_other = λ k le. sym (sums k) ∙ no_other k (omega arith);
      }

  -- what each took, by its number
  jobs_taken : (s : Crewed) → AllSeated → (ids : List ℕ) (arrivals : List Arrival) → TookEach (λ (k : ℕ). jobs_for (length lent) k ids 0 arrivals) (length lent) (lefts afters) clerk → TookTheirJobs ids arrivals s.services clerk
  jobs_taken s seats ids arrivals took =
      let count : length s.services ≡ length lent = count_is s seats in
      record {
        each = λ k d lt.
            let below : k < length lent = omega arith in
            let left : (get_or s.services k d).left ≡ get_or (lefts afters) k d.left = part_at (λ (service : Service O). service.left) s.services (lefts afters) s.left k d lt in
            ap (λ (ended : Done O). ended.queue.taken) left ∙ (took.each k d.left below
            ∙ (ap (λ (n : ℕ). jobs_for n k ids 0 arrivals ++ End ∷ []) (sym count)
            ∙ ap (λ (w : ℕ). jobs_for (length s.services) w ids 0 arrivals ++ End ∷ []) (sym (number_at s seats k d below))));
        waked = took.of_clerk ∙ ap (λ (n : ℕ). jobs_for n n ids 0 arrivals ++ End ∷ []) (sym count);
      }

  lefts_count : (s : Crewed) → AllSeated → length (lefts afters) ≡ length lent
  lefts_count s seats =
      let len = length-map s.services (λ (service : Service O). service.left) in
      let same = ap length s.left in
      let count = count_is s seats in
      omega arith

  module _ {I P : Type 0} (held : I → Option (List Arrival)) (clock failures : I → ℕ) (before after : Reception I P) where
    came_and_taken : (s : Crewed) → AllSeated → (ids : List ℕ) → before.ids.items ≡ ids → length before.senders.items ≡ length lent + 1 → All IsUnput before.senders.items → TookOfAll after.senders.items (lefts afters) clerk
        → Received before.ids.items before.limit before.senders.items after.senders.items (held before.intake) (held after.intake) (clock before.intake)
        → TookWhatCame held clock failures ids before.limit before.intake after.intake s.services clerk
    came_and_taken s seats ids are len unput took got =
        let workers : workers_of before.senders.items ≡ length lent = omega arith in
        let put : AllPut (λ (k : ℕ). jobs_for (length lent) k before.ids.items 0 got.given ++ End ∷ []) before.senders.items after.senders.items =
        subst (λ (n : ℕ). AllPut (λ (k : ℕ). jobs_for n k before.ids.items 0 got.given ++ End ∷ []) before.senders.items after.senders.items) workers got.put in
        record {
          arrivals = got.given;
          came = got.came;
          in_order = got.in_order;
          ended = got.ended;
          took = subst (λ (l : List ℕ). TookTheirJobs l got.given s.services clerk) are (jobs_taken s seats before.ids.items got.given
              (took_each (λ (k : ℕ). jobs_for (length lent) k before.ids.items 0 got.given) before.senders.items after.senders.items (lefts afters) clerk (length lent) len (lefts_count s seats)
              (λ k. jobs_no_end (length lent) k before.ids.items 0 got.given) unput put took));
        }

    pub took_is : (boot : ℕ) (sessions : List SessionRow) (received : of_receiver.Received) (s : Crewed) → AllSeated → AreReady (length lent) places → HaveSessions boot (length lent) sessions places
        → before.senders ≡ seated.senders → before.ids ≡ seated.ids → HasReceived held clock failures before after received → TookOfAll after.senders.items (lefts afters) clerk
        → OnOk received.ended (TookWhatCame held clock failures (map id_of (rows_in boot sessions)) before.limit before.intake after.intake s.services clerk)
    took_is boot sessions received s seats ready have senders ids got took =
        let same : before.senders.items ≡ places.senders.items = ap (λ it. it.items) senders ∙ ap (λ it. it.items) seats.senders in
        on_ok received.ended (came_and_taken s seats (map id_of (rows_in boot sessions)) (ap (λ it. it.items) ids ∙ (ap (λ it. it.items) seats.ids ∙ have.ids)) (ap length same ∙ ready.senders) (All-same IsUnput before.senders.items places.senders.items same ready.unput) took) got.put

    -- SERVING IN WHOLE, between the pass that was split and the one that had taken all in again.
    pub has_served : (boot : ℕ) (sessions : List SessionRow) (limit : ℕ) (returned : List O) (intake left : I) (received : of_receiver.Received) (split joined : NodePass) (book : List Entry) (status last : ℕ) (s : Crewed)
        → AllSeated → AreReady (length lent) places → HaveSessions boot (length lent) sessions places → HasReported node seated.pass seated.ticks clerk
        → before.senders ≡ seated.senders → before.ids ≡ seated.ids → before.limit ≡ limit → before.intake ≡ intake → after.intake ≡ left
        → HasReceived held clock failures before after received → TookOfAll after.senders.items (lefts afters) clerk
        → split.places ≡ [] → GatheredAll split joined (lefts afters) clerk → book ≡ joined.seen
        → ((k : ℕ) → k < length joined.seen → how_often k joined.places ≡ 1) → ((k : ℕ) → length joined.seen ≤ k → how_often k joined.places ≡ 0)
        → returned ≡ map outlet_left (lefts afters) → last ≡ first_fault (map status_left (lefts afters) ++ clerk.status ∷ []) → status ≡ first_of (status_of received.ended) last
        → HasServed held clock failures given faults node boot sessions limit lent returned intake left received book status
    has_served boot sessions limit returned intake left received split joined book status last s seats ready have reported senders ids limit_is intake_is left_is got took none gathered seen once no_other outlets last_is status_is =
        let same : map (λ (service : Service O). service.left) s.services ≡ lefts afters = s.left in
        let statuses : map status_in s.services ≡ map status_left (lefts afters) = sym (map_map (status_left {O = O}) (λ (service : Service O). service.left) s.services) ∙ ap (map status_left) same in
        let lent_is : map lent_of s.services ≡ lent = s.lent ∙ seats.outlets_are in
        let returned_is : map returned_of s.services ≡ returned = sym (map_map (outlet_left {O = O}) (λ (service : Service O). service.left) s.services) ∙ (ap (map outlet_left) same ∙ sym outlets) in
        record {
          services = s.services;
          clerk = clerk;
          lent_are = lent_is;
          returned_are = returned_is;
          crew = crew_is boot sessions split joined book s seats have reported none gathered seen once no_other;
          took = subst (λ (p : ℕ × I × I). OnOk received.ended (TookWhatCame held clock failures (map id_of (rows_in boot sessions)) p.0 p.1 p.2 s.services clerk)) (λ i. (limit_is i, intake_is i, left_is i))
              (took_is boot sessions received s seats ready have senders ids got took);
          counts = subst (λ (p : I × I). Counts received.ended (failures p.0) (failures p.1)) (λ i. (intake_is i, left_is i)) got.counts;
          status_is = status_is ∙ ap (first_of (status_of received.ended)) (last_is ∙ ap (λ (l : List ℕ). first_fault (l ++ clerk.status ∷ [])) (sym statuses));
        }

-- all services, one after the other
pub crewed : {O : Type 0} (given : O → Option (List Parcel)) (faults : O → ℕ) (node : SharedView) (pass : NodePass) (lent : List O) (places : Places O) (seated : Seated O) (afters : List (Member O))
    → AreSeated node pass places lent seated → length afters ≡ length seated.members.items
    → ((k : ℕ) (d : Member O) → k < length seated.members.items → HasWorked given faults node (get_or seated.members.items k d) (get_or afters k d))
    → Serviced given faults node pass seated.members.items afters
crewed given faults node pass lent places seated afters seats len each = serviced given faults node pass seated.members.items afters (zip_each (HasWorked given faults node) seated.members.items afters len each) seats.begins

-- WHICH QUEUES came back: those to which the threads belong.
pub queues_are : {O I P : Type 0} (held : I → Option (List Arrival)) (clock failures : I → ℕ) (before after : Reception I P) (received : of_receiver.Received) (given : O → Option (List Parcel)) (faults : O → ℕ) (node : SharedView) (pass : NodePass) (lent : List O) (places : Places O) (seated : Seated O) (afters : List (Member O)) (clerk : Done ⊤)
    → Serviced given faults node pass seated.members.items afters → AreSeated node pass places lent seated → AreReady (length lent) places → before.senders ≡ seated.senders → HasReceived held clock failures before after received → HasReported node seated.pass seated.ticks clerk
    → map queue_left (lefts afters) ++ queue_left clerk ∷ [] ≡ map queue_put after.senders.items
queues_are held clock failures before after received given faults node pass lent places seated afters clerk s seats ready senders got reported =
    ap (λ (l : List QueueId). l ++ queue_left clerk ∷ []) s.queues
    ∙ (ap (λ (q : QueueId). map queue_taken (jobs_in seated.members.items) ++ q ∷ []) reported.queue
    ∙ (sym (map_push queue_taken (jobs_in seated.members.items) seated.ticks)
    ∙ (ap (map queue_taken) seats.jobs
    ∙ (ready.queues
    ∙ (ap (λ it. map queue_put it.items) (sym (senders ∙ seats.senders))
    ∙ sym (same_queues before.senders.items after.senders.items got.same))))))
