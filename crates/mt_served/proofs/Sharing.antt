-- What all threads got are shares of the one book: each has the calls over its own sessions, and each place of the book is of one of them.
use Rattle.std.proofs.Common.{◌≡◌, ◌∙◌, refl, sym, ap, subst, inl, inr, ℕ, suc, ◌+◌, ◌<◌, arith, ne_eqb, length, Bool, true, List, [], ◌∷◌, ◌++◌, Option, map}
use Rattle.std.specs.Prelude.{◌==◌, ◌%◌, All, if◌then◌else◌, ⊤}
use Rattle.std.proofs.lemmas.Bool.{and_parts, eqb-true, or_cases, true≢false}
use Rattle.std.proofs.lemmas.List.Elements.{All-head, All-tail}
use mathlib.Core.Option as options
use lib.ListN.{get_elem?}
use Rattle.atomic_table.specs.Seated.{TableId}
use Rattle.mt_legal.specs.mt_interactions.Configured.{ConfiguredInteractions}
use Rattle.mt_legal.specs.mt_shares.Laws.{SharesAreMerged}
use Rattle.mt_legal.specs.mt_shares.Merging.{AreShares, Merged, RiseFrom, times_in}
use Rattle.mt_legal.specs.mt_shares.Merging as shares
use Rattle.mt_legal.specs.mt_shares.Threads.{thread_of, thread_over}
use Rattle.mt_model.specs.declared.texts.config.SessionRow.{SessionRow}
use Rattle.mt_outside.specs.declared.network.Parcel.{Parcel}
use Rattle.mt_rounds.specs.mt_owners.Rows.{AreRowsOf, is_own}
use Rattle.mt_rounds.specs.mt_shared.Entry.{Entry}
use Rattle.mt_rounds.specs.mt_worker.Accounts.{Accounts}
use Rattle.mt_rounds.specs.mt_worker.Done.{Done}
use Rattle.mt_rounds.specs.mt_worker.Due.{IsServed, id_of, is_in}
use Rattle.mt_rounds.specs.mt_worker.Gots.{Got, Rise, place_of}
use Rattle.mt_rounds.specs.mt_worker.Made.{AreTicks, IsTick}
use Rattle.mt_rounds.specs.mt_worker.Works.{AreOver}
use Rattle.mt_served.specs.Crews.{IsCrew, Service, times_got}
use Rattle.mt_served.proofs.Gathering.{At, DidAll, at_worker, gots_in, lists_of, of_whom}
use Rattle.mt_turn.specs.Counts.{how_often, total}

-- ONE LIST

abbrev IsOfThread : ℕ → ℕ → Got → Type 0
IsOfThread workers j got = thread_of workers got ≡ j

rises : (workers from below : ℕ) (gots : List Got) → Rise from below gots → RiseFrom place_of (thread_of workers) from gots
rises workers from below [] rise = tt
rises workers from below (got ∷ gots) rise = (rise.0, rises workers (suc got.place) below gots rise.1)

-- a time step is the reporter's
ticks_own : (workers : ℕ) (gots : List Got) → AreTicks gots → shares.Each (IsOfThread workers workers) gots
ticks_own workers [] ticks = tt
ticks_own workers (got ∷ gots) ticks =
    let first : IsTick got = ticks.0 in
    (ap (thread_over workers) first.nobody, ticks_own workers gots ticks.1)

-- a session of a worker's rows is its own

own_thread : (boot workers worker id : ℕ) (row : SessionRow) → IsServed row → is_own boot workers worker row ≡ true → row.session ≡ id → thread_over workers id ≡ worker
own_thread boot workers worker id row served own named =
    let its = eqb-true (row.session % workers) worker (and_parts (row.boot == boot) (row.session % workers == worker) own).1 in
    ap (thread_over workers) (sym named) ∙ ap (λ (b : Bool). if b then workers else row.session % workers) (ne_eqb row.session 0 served.session) ∙ its

in_rows : (boot workers worker id : ℕ) (rows : List SessionRow) → All IsServed rows → All (λ (row : SessionRow). is_own boot workers worker row ≡ true) rows → is_in (map id_of rows) id ≡ true → thread_over workers id ≡ worker
in_rows boot workers worker id [] served own mine = absurd (true≢false (sym mine))
in_rows boot workers worker id (row ∷ rows) served own mine =
    let Own = λ (other : SessionRow). is_own boot workers worker other ≡ true in
    elim (or_cases (row.session == id) (is_in (map id_of rows) id) mine) [
      | inl same ↦ own_thread boot workers worker id row (All-head IsServed row rows served) (All-head Own row rows own) (eqb-true row.session id same)
      | inr later ↦ in_rows boot workers worker id rows (All-tail IsServed row rows served) (All-tail Own row rows own) later
    ]

over_own : (boot workers worker : ℕ) (sessions rows : List SessionRow) (gots : List Got) → AreRowsOf boot workers worker sessions rows → AreOver (map id_of rows) gots → shares.Each (IsOfThread workers worker) gots
over_own boot workers worker sessions rows [] are over = tt
over_own boot workers worker sessions rows (got ∷ gots) are over = (in_rows boot workers worker got.session rows are.served are.own over.0, over_own boot workers worker sessions rows gots are over.1)

-- ALL LISTS

module _ {O : Type 0} (given : O → Option (List Parcel)) (faults : O → ℕ) (lock : TableId) (origin : ConfiguredInteractions) (accounts : Accounts) where
  abbrev AllDid : List (Service O) → Type 0
  AllDid services = DidAll given faults lock origin accounts services

  abbrev gots_of : (services : List (Service O)) → AllDid services → List (List Got)
  gots_of services did = gots_in given faults lock origin accounts services did

  -- each place is counted where it stands among those of a pass

  abbrev times : ℕ → ℕ → List Got → ℕ
  times workers k gots = times_in place_of (thread_of workers) k gots

  counted : (workers k : ℕ) (services : List (Service O)) (did : AllDid services) → total (times workers k) (gots_of services did) ≡ total (times_got k) services
  counted workers k [] did = refl
  counted workers k (service ∷ services) did = ap (λ (n : ℕ). n + total (times workers k) (gots_of services did.1)) (ap (how_often k) (sym did.0.goes.places)) ∙ ap (λ (n : ℕ). times_got k service + n) (counted workers k services did.1)

  with_last : (workers k : ℕ) (lists : List (List Got)) (last : List Got) → total (times workers k) (lists ++ last ∷ []) ≡ times workers k last + total (times workers k) lists
  with_last workers k [] last = omega arith
  with_last workers k (gots ∷ lists) last = omega (arith, with_last workers k lists last)

  module _ (boot : ℕ) (sessions : List SessionRow) (book : List Entry) (services : List (Service O)) (clerk : Done ⊤) (did : AllDid services) (crew : IsCrew given faults lock origin boot sessions book services clerk) where
    abbrev all_lists : List (List Got)
    all_lists = lists_of given faults lock origin accounts services did crew.reported

    counted_all : (k : ℕ) → total (times (length services) k) all_lists ≡ how_often k clerk.pass.places + total (times_got k) services
    counted_all k = with_last (length services) k (gots_of services did) crew.reported.gots
        ∙ ap (λ (n : ℕ). n + total (times (length services) k) (gots_of services did)) (ap (how_often k) (sym crew.reported.goes.places))
        ∙ ap (λ (n : ℕ). how_often k clerk.pass.places + n) (counted (length services) k services did)

    worker_at : (j : ℕ) (xs : List Got) → get_elem? (gots_of services did) j ≡ options.some xs → At given faults lock origin accounts boot sessions book services j xs
    worker_at j xs there = at_worker given faults lock origin accounts boot sessions book services clerk did crew j xs there

    -- what holds of the list of each worker, and of the reporter's, holds of all
    of_each : (P : ℕ → List Got → Type 0) → ((j : ℕ) (xs : List Got) → At given faults lock origin accounts boot sessions book services j xs → P j xs) → P (length services) crew.reported.gots
        → (j : ℕ) (xs : List Got) → get_elem? all_lists j ≡ options.some xs → P j xs
    of_each P workers reporter j xs at = elim (of_whom given faults lock origin accounts services did crew.reported j xs at) [
      | inl there ↦ workers j xs (worker_at j xs there)
      | inr last ↦ subst (λ (n : ℕ). P n xs) (sym last.0) (subst (P (length services)) last.1 reporter)
    ]

    pub are_shares : 0 < length services → AreShares place_of (thread_of (length services)) (length book) all_lists
    are_shares some = record {
      once = λ k less. counted_all k ∙ crew.once k less;
      no_other = λ k more. counted_all k ∙ crew.no_other k more;
      rise = of_each (λ (j : ℕ) (xs : List Got). RiseFrom place_of (thread_of (length services)) 0 xs)
          (λ j xs it. subst (RiseFrom place_of (thread_of (length services)) 0) it.gots_are (rises (length services) 0 (length it.service.left.pass.seen) it.its.gots it.its.goes.rise))
          (rises (length services) 0 (length clerk.pass.seen) crew.reported.gots crew.reported.goes.rise);
      own = of_each (λ (j : ℕ) (xs : List Got). shares.Each (IsOfThread (length services) j) xs)
          (λ j xs it. subst (shares.Each (IsOfThread (length services) j)) it.gots_are
          (subst (λ (n : ℕ). shares.Each (IsOfThread (length services) n) it.its.gots) it.number_is
          (over_own boot (length services) it.service.number sessions it.service.rows it.its.gots it.rows it.its.over)))
          (ticks_own (length services) crew.reported.gots crew.reported.ticks);
    }

    pub merged : SharesAreMerged → 0 < length services → Merged place_of (thread_of (length services)) (length book) all_lists
    merged law some = law (thread_of (length services)) (length book) all_lists (are_shares some)
