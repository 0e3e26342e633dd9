-- What all threads got is one run, and each thread did its part of it.
use Rattle.std.proofs.Common.{◌≡◌, ◌∙◌, refl, sym, ap, subst, ℕ, zero, suc, ◌+◌, ◌*◌, ◌<◌, ◌≤◌, ◌%◌, arith, List, [], ◌∷◌, ◌++◌, Option, filter, length, map}
use Rattle.std.specs.Prelude.{All, true, ⊤}
use Rattle.std.proofs.lemmas.List.Elements.{All-cons, All-nil}
use Rattle.std.proofs.lemmas.Nat.{mul-le}
use mathlib.Core.Logic.{dite}
use mathlib.Core.Option as options
use native.Mathlib.Decide.{ℕ_discrete}
use lib.ListN.{get_elem?}
use Rattle.atomic_table.specs.Seated.{TableId}
use Rattle.mt_legal.specs.Laws.{BooksAreRuns, IsServable, IsWholeBook}
use Rattle.mt_legal.specs.Lines.{ids_of_boot, rows_of_boot, told_of}
use Rattle.mt_legal.specs.mt_interactions.Configured.{ConfiguredInteractions}
use Rattle.mt_legal.specs.mt_shares.Laws.{MergedCallsAreMade, SharesAreMerged, WorkersSendTheirOwn}
use Rattle.mt_legal.specs.mt_shares.Merging.{Merged}
use Rattle.mt_legal.specs.mt_shares.Threads.{calls_of, thread_of}
use Rattle.mt_model.specs.declared.texts.recording.Event.{Event}
use Rattle.mt_model.specs.texts.Config.{are_sessions}
use Rattle.mt_outside.specs.declared.network.Arrival.{Arrival}
use Rattle.mt_outside.specs.declared.network.Parcel.{Parcel}
use Rattle.mt_queue.specs.declared.job.Job.{Job}
use Rattle.mt_queue.specs.declared.job.Job.TheVariants.{End}
use Rattle.mt_rounds.specs.Following.{Follows}
use Rattle.mt_rounds.specs.Laws.{SessionsFollow, TicksAreWakes, is_over}
use Rattle.mt_rounds.specs.mt_owners.Laws.{OwnersAreExact, RowsHaveBegun}
use Rattle.mt_rounds.specs.mt_owners.Rows.{AreRowsOf, is_own}
use Rattle.mt_rounds.specs.mt_receiver.Rounds.{jobs_for}
use Rattle.mt_rounds.specs.mt_shared.Book.{are_in_time, lines_in}
use Rattle.mt_rounds.specs.mt_shared.Entry.{Entry}
use Rattle.mt_rounds.specs.mt_shared.Replay.{told}
use Rattle.mt_rounds.specs.mt_worker.Accounts.{Accounts}
use Rattle.mt_rounds.specs.mt_worker.Done.{Done}
use Rattle.mt_rounds.specs.mt_worker.Due.{DoesAll, HaveBegun, TicksAll, id_of, is_in}
use Rattle.mt_rounds.specs.mt_worker.Few.{heard_count, is_datagram, step_count, take_count, wake_count}
use Rattle.mt_rounds.specs.mt_worker.Gots.{AreTold, Each, Got, place_of}
use Rattle.mt_rounds.specs.mt_worker.Made.{AreMade, AreTicks}
use Rattle.mt_rounds.specs.mt_worker.Works.{AreOver}
use Rattle.mt_served.specs.Crews.{IsCrew, Service, TookTheirJobs, begun_pass}
use Rattle.mt_served.specs.Few.{HasFewLines, IsServedLine}
use Rattle.mt_served.specs.Laws.{CrewsAreFew, CrewsServe}
use Rattle.mt_served.specs.Served.{FollowsAnswers, SendsTheRun}
use Rattle.mt_served.proofs.Begun.{all_begun, begun_accounts, few_sessions, their_ids}
use Rattle.mt_served.proofs.Fewness.{few_heard, few_steps}
use Rattle.mt_served.proofs.Following.{DidThese, follows, ticks}
use Rattle.mt_served.proofs.Gathering.{At, DidAll, at_all, at_worker, did_all, gots_in, length_gots, lists_of, of_reporter, of_worker, within}
use Rattle.mt_served.proofs.Lines.{all_heard, all_kinds, all_lines, lines_are, lines_of, made_are, ticks_are}
use Rattle.mt_served.proofs.Owning.{few_rows}
use Rattle.mt_served.proofs.Running.{AreCalls, is_whole, over_boot, sends_the_run, went_well}
use Rattle.mt_served.proofs.Sharing.{merged}
use Rattle.mt_served.proofs.Takings.{all_wakes, takes_ended, wakes_ended}
use Rattle.mt_served.proofs.Telling.{all_are_told, all_told, told_longer}
use Rattle.mt_served.proofs.Threads.{is_one, of_all}

-- The laws on which it stands.
pub record Laws : Type 0 where
  pub runs : BooksAreRuns
  pub merge : SharesAreMerged
  pub make : MergedCallsAreMade
  pub send : WorkersSendTheirOwn
  pub exact : OwnersAreExact
  pub begin : RowsHaveBegun
  pub follow : SessionsFollow
  pub wake : TicksAreWakes

-- at each index there is an item
some_at : {A : Type 0} (xs : List A) (j : ℕ) → j < length xs → (x : A) × (get_elem? xs j ≡ options.some x)
some_at [] j less = absurd (omega (arith, less))
some_at (x ∷ xs) zero less = (x, refl)
some_at (x ∷ xs) (suc j) less = some_at xs j (omega (arith, less))

-- and what holds of these holds of all
all_at : {A : Type 0} (P : A → Type 0) (xs : List A) → ((j : ℕ) (x : A) → get_elem? xs j ≡ options.some x → P x) → All P xs
all_at P [] each = All-nil P
all_at P (x ∷ xs) each = All-cons P x xs (each 0 x refl) (all_at P xs (λ j. each (suc j)))

module _ (laws : Laws) {O : Type 0} (given : O → Option (List Parcel)) (faults : O → ℕ) (lock : TableId) (origin : ConfiguredInteractions) (book : List Entry) (services : List (Service O)) (clerk : Done ⊤) (fit : are_sessions origin.config.sessions ≡ true)
    (some : 0 < length services) (crew : IsCrew given faults lock origin origin.state.node.boot origin.config.sessions book services clerk) where
  abbrev workers : ℕ
  workers = length services

  abbrev accounts : Accounts
  accounts = begun_accounts (rows_of_boot origin)

  silent : HaveBegun (rows_of_boot origin) accounts
  silent = all_begun origin.state.node.boot origin.config.sessions fit

  did : DidAll given faults lock origin accounts services
  did = did_all given faults lock origin accounts laws.begin origin.state.node.boot origin.config.sessions book services clerk crew silent

  abbrev lists : List (List Got)
  lists = lists_of given faults lock origin accounts services did crew.reported

  all_got : Merged place_of (thread_of workers) (length book) lists
  all_got = merged given faults lock origin accounts origin.state.node.boot origin.config.sessions book services clerk did crew laws.merge some

  abbrev all : List Got
  all = all_got.0

  abbrev calls : ℕ → List Got
  calls thread = calls_of workers thread all

  -- EACH THREAD, whose calls are what there is of it

  abbrev IsAt : ℕ → List Got → Type 0
  IsAt j gots = At given faults lock origin accounts origin.state.node.boot origin.config.sessions book services j gots

  worker_at : (j : ℕ) → j < workers → IsAt j (calls j)
  worker_at j less =
      let gots = gots_in given faults lock origin accounts services did in
      let its : (xs : List Got) × (get_elem? gots j ≡ options.some xs) = some_at gots j (omega (arith, less, length_gots given faults lock origin accounts services did)) in
      let same : its.0 ≡ calls j = all_got.1.shares j its.0 (of_worker given faults lock origin accounts services did crew.reported j less ∙ its.1) in
      subst (IsAt j) same (at_worker given faults lock origin accounts origin.state.node.boot origin.config.sessions book services clerk did crew j its.0 its.1)

  reporter_is : crew.reported.gots ≡ calls workers
  reporter_is = all_got.1.shares workers crew.reported.gots (of_reporter given faults lock origin accounts services did crew.reported)

  told_at : (thread : ℕ) → thread ≤ workers → AreTold (told origin book) (calls thread)
  told_at thread one = dite (ℕ_discrete thread workers)
      (λ last. subst (λ (j : ℕ). AreTold (told origin book) (calls j)) (sym last)
      (subst (AreTold (told origin book)) reporter_is (told_longer origin clerk.pass.seen book crew.reported.gots crew.clerk_heard (crew.reported.goes.told_are origin refl))))
      (λ other.
      let a = worker_at thread (omega arith) in
      subst (AreTold (told origin book)) a.gots_are (told_longer origin a.service.left.pass.seen book a.its.gots a.heard (a.its.goes.told_are origin refl)))

  are_calls : AreCalls origin accounts workers all
  are_calls = record {
    made = λ worker less.
        let a = worker_at worker less in
        (subst (AreOver (ids_of_boot origin)) a.gots_are (over_boot laws.exact origin workers a.service.number a.service.rows a.rows a.its.gots a.its.over), subst (AreMade accounts) a.gots_are a.its.made);
    ticks = subst AreTicks reporter_is crew.reported.ticks;
  }

  told_whole : map told_of all ≡ told origin book
  told_whole = all_told origin book all (all_are_told workers some (told origin book) all told_at) all_got.1.places

  -- THE RUN

  whole_book : are_in_time book ≡ true → IsWholeBook origin accounts book all
  whole_book in_time = is_whole laws.make origin accounts workers book all some silent in_time told_whole are_calls

  sends : IsServable origin → IsWholeBook origin accounts book all → All (SendsTheRun given origin workers book) services
  sends servable whole = all_at (SendsTheRun given origin workers book) services each
    where
      each : (j : ℕ) (service : Service O) → get_elem? services j ≡ options.some service → SendsTheRun given origin workers book service
      each j service there =
          let less = within services j service there in
          let a = worker_at j less in
          let same : a.service ≡ service = options.some-injective a.service service (sym a.there ∙ there) in
          subst (SendsTheRun given origin workers book) same
          (sends_the_run laws.runs laws.send origin accounts workers book all servable whole (their_ids (rows_of_boot origin)) are_calls.ticks given faults (begun_pass lock origin) a.service a.its
          (subst (λ (n : ℕ). n < workers) (sym a.number_is) less)
          (subst (λ (n : ℕ). a.its.gots ≡ calls n) (sym a.number_is) a.gots_are))

  -- THE ANSWERS
  module _ (arrivals : List Arrival) (took : TookTheirJobs (ids_of_boot origin) arrivals services clerk) where
    abbrev jobs : ℕ → List Job
    jobs thread = jobs_for workers thread (ids_of_boot origin) 0 arrivals ++ End ∷ []

    taken_at : (j : ℕ) (a : IsAt j (calls j)) → a.service.left.queue.taken ≡ jobs j
    taken_at j a = at_all (λ (service : Service O). service.left.queue.taken ≡ jobs service.number) services j a.service took.each a.there ∙ ap jobs a.number_is

    -- at whatever statuses: FEW LINES

    heard_at : (j : ℕ) → j < workers → heard_count (calls j) ≤ take_count (jobs_for workers j (ids_of_boot origin) 0 arrivals)
    heard_at j less =
        let a = worker_at j less in
        let few : heard_count a.its.gots ≤ take_count a.service.left.queue.taken = a.its.few.heard in
        let taken : take_count a.service.left.queue.taken ≡ take_count (jobs_for workers j (ids_of_boot origin) 0 arrivals) = ap take_count (taken_at j a) ∙ takes_ended (jobs_for workers j (ids_of_boot origin) 0 arrivals) in
        subst (λ (gots : List Got). heard_count gots ≤ take_count (jobs_for workers j (ids_of_boot origin) 0 arrivals)) a.gots_are (subst (λ (n : ℕ). heard_count a.its.gots ≤ n) taken few)

    few_wakes : (j : ℕ) → wake_count (jobs j) ≤ length arrivals
    few_wakes j =
        let most : wake_count (jobs_for workers j (ids_of_boot origin) 0 arrivals) ≤ length arrivals = all_wakes workers (ids_of_boot origin) j 0 arrivals in
        subst (λ (n : ℕ). n ≤ length arrivals) (sym (wakes_ended (jobs_for workers j (ids_of_boot origin) 0 arrivals))) most

    abbrev own_rows : ℕ → ℕ
    own_rows j = length (filter (is_own origin.state.node.boot workers j) origin.config.sessions)

    steps_at : (j : ℕ) → j < workers → step_count (calls j) ≤ 4 * own_rows j * length arrivals
    steps_at j less =
        let a = worker_at j less in
        let few : step_count a.its.gots ≤ 4 * length a.service.rows * wake_count a.service.left.queue.taken = a.its.few.steps in
        let rows : length a.service.rows ≤ own_rows j = few_rows origin.state.node.boot workers j origin.config.sessions a.service.rows
        (subst (λ (n : ℕ). AreRowsOf origin.state.node.boot workers n origin.config.sessions a.service.rows) a.number_is a.rows) in
        let waked : wake_count a.service.left.queue.taken ≤ length arrivals = subst (λ (taken : List Job). wake_count taken ≤ length arrivals) (sym (taken_at j a)) (few_wakes j) in
        let most : 4 * length a.service.rows * wake_count a.service.left.queue.taken ≤ 4 * own_rows j * length arrivals =
        mul-le (4 * length a.service.rows) (wake_count a.service.left.queue.taken) (4 * own_rows j) (length arrivals) (omega (arith, rows)) waked in
        let both : step_count a.its.gots ≤ 4 * own_rows j * length arrivals = omega (arith, few, most) in
        subst (λ (gots : List Got). step_count gots ≤ 4 * own_rows j * length arrivals) a.gots_are both

    last_heard : heard_count (calls workers) ≤ 0
    last_heard = subst (λ (gots : List Got). heard_count gots ≤ 0) reporter_is crew.reported.few.heard

    last_steps : step_count (calls workers) ≤ length arrivals
    last_steps =
        let few : step_count crew.reported.gots ≤ wake_count clerk.queue.taken = crew.reported.few.steps in
        let waked : wake_count clerk.queue.taken ≤ length arrivals = subst (λ (taken : List Job). wake_count taken ≤ length arrivals) (sym took.waked) (few_wakes workers) in
        let both : step_count crew.reported.gots ≤ length arrivals = omega (arith, few, waked) in
        subst (λ (gots : List Got). step_count gots ≤ length arrivals) reporter_is both

    kinds_of : (thread : ℕ) → thread ≤ workers → Each (λ (got : Got). IsServedLine got.told.0.call.event) (calls thread)
    kinds_of thread one = dite (ℕ_discrete thread workers)
        (λ last. subst (λ (j : ℕ). Each (λ (got : Got). IsServedLine got.told.0.call.event) (calls j)) (sym last) (ticks_are (calls workers) are_calls.ticks))
        (λ other. made_are accounts (calls thread) (are_calls.made thread (omega arith)).1)

    few_lines : HasFewLines book arrivals
    few_lines =
        let one : (got : Got) → thread_of workers got ≤ workers = λ got. is_one workers some got.session in
        let heard : heard_count all ≤ length arrivals = few_heard workers one arrivals all (ids_of_boot origin) heard_at last_heard in
        let steps : step_count all ≤ 257 * length arrivals = few_steps workers one arrivals all origin.state.node.boot origin.config.sessions steps_at last_steps (few_sessions origin.config.sessions fit) in
        let lines : lines_of all ≡ lines_in book = lines_are origin book all told_whole in
        let count : length (lines_of all) ≡ heard_count all + step_count all = all_lines all in
        let most : length (lines_of all) ≤ 258 * length arrivals = omega (arith, heard, steps, count) in
        let datagrams : length (filter is_datagram (lines_of all)) ≤ length arrivals = subst (λ (n : ℕ). n ≤ length arrivals) (sym (all_heard all)) heard in
        let kinds : All IsServedLine (lines_of all) = all_kinds all (of_all workers some (λ (got : Got). IsServedLine got.told.0.call.event) all kinds_of) in
        record {
          all = subst (λ (events : List Event). length events ≤ 258 * length arrivals) lines most;
          datagrams = subst (λ (events : List Event). length (filter is_datagram events) ≤ length arrivals) lines datagrams;
          kinds = subst (All IsServedLine) lines kinds;
        }

    -- at status 0: THEIR LINES FOLLOW

    did_these : All (λ (service : Service O). service.left.status ≡ 0) services → (j : ℕ) (a : IsAt j (calls j)) → DidThese workers some origin accounts arrivals all j a.service.rows
    did_these well j a =
        let ids = map id_of a.service.rows in
        let none : a.service.left.status ≡ 0 = at_all (λ (service : Service O). service.left.status ≡ 0) services j a.service well a.there in
        let does : DoesAll ids accounts a.service.left.queue.taken a.its.gots = went_well a.its.result a.service.left.status a.its.status none a.its.did in
        subst (DoesAll ids accounts (jobs j)) a.gots_are (subst (λ (taken : List Job). DoesAll ids accounts taken a.its.gots) (taken_at j a) does)

    session_follows : All (λ (service : Service O). service.left.status ≡ 0) services → (id : ℕ) → is_in (ids_of_boot origin) id ≡ true → Follows 0 (accounts id) arrivals (filter (is_over id) all)
    session_follows well id there =
        let worker : ℕ = id % workers in
        let a = worker_at worker (omega (arith, some)) in
        follows workers some origin accounts arrivals all laws.follow laws.exact (their_ids (rows_of_boot origin)) id a.service.rows there
        (subst (λ (n : ℕ). AreRowsOf origin.state.node.boot workers n origin.config.sessions a.service.rows) a.number_is a.rows)
        (did_these well worker a)

    follows_answers : All (λ (service : Service O). service.left.status ≡ 0) services → clerk.status ≡ 0 → FollowsAnswers origin accounts arrivals all
    follows_answers well clerk_well =
        let ticked : TicksAll clerk.queue.taken crew.reported.gots = went_well crew.reported.result clerk.status crew.reported.status clerk_well crew.reported.did in
        record {
          sessions = session_follows well;
          ticks = ticks workers some origin accounts arrivals all laws.wake (subst (TicksAll (jobs workers)) reporter_is (subst (λ (taken : List Job). TicksAll taken crew.reported.gots) took.waked ticked));
        }

pub serve : Laws → (O : Type 0) (given : O → Option (List Parcel)) (faults : O → ℕ) → CrewsServe O given faults
serve laws O given faults lock origin book services clerk servable fit in_time some crew =
    let whole = whole_book laws given faults lock origin book services clerk fit some crew in_time in
    record {
      accounts = accounts laws given faults lock origin book services clerk fit some crew;
      gots = all laws given faults lock origin book services clerk fit some crew;
      run = record { whole = whole; sends = sends laws given faults lock origin book services clerk fit some crew servable whole };
      follows = λ arrivals well clerk_well took. follows_answers laws given faults lock origin book services clerk fit some crew arrivals took well clerk_well;
    }

pub make_few : Laws → (O : Type 0) (given : O → Option (List Parcel)) (faults : O → ℕ) → CrewsAreFew O given faults
make_few laws O given faults lock origin book services clerk arrivals fit some crew took = few_lines laws given faults lock origin book services clerk fit some crew arrivals took
