-- The lines of each session follow the answers of the intake, and there is a time step for each wake.
use Rattle.std.proofs.Common.{◌≡◌, ◌≢◌, ◌∙◌, ℕ, ◌<◌, ◌%◌, ◌==◌, ◌&&◌, Bool, ◌||◌, true, true≢false, inl, inr, List, [], ◌∷◌, ◌++◌, All, filter, length, map, refl, sym, ap, subst, eq-eqb}
use Rattle.std.proofs.lemmas.Bool.{cases_Bool, eqb-true}
use Rattle.std.proofs.lemmas.List.Elements.{All-head, All-tail}
use Rattle.mt_legal.specs.Lines.{ids_of_boot}
use Rattle.mt_legal.specs.mt_interactions.Configured.{ConfiguredInteractions}
use Rattle.mt_legal.specs.mt_shares.Threads.{HaveTheirIds, calls_of}
use Rattle.mt_model.specs.declared.texts.config.SessionRow.{SessionRow}
use Rattle.mt_outside.specs.declared.network.Arrival.{Arrival}
use Rattle.mt_queue.specs.declared.job.Job.TheVariants.{End}
use Rattle.mt_rounds.specs.Following.{Follows}
use Rattle.mt_rounds.specs.Laws.{SessionsFollow, TicksAreWakes, is_over}
use Rattle.mt_rounds.specs.mt_owners.Laws.{OwnersAreExact}
use Rattle.mt_rounds.specs.mt_owners.Rows.{AreRowsOf}
use Rattle.mt_rounds.specs.mt_receiver.Rounds.{jobs_for, wake_count}
use Rattle.mt_rounds.specs.mt_worker.Accounts.{Accounts}
use Rattle.mt_rounds.specs.mt_worker.Due.{DoesAll, IsServed, TicksAll, id_of, is_in}
use Rattle.mt_rounds.specs.mt_worker.Gots.{Got}
use Rattle.mt_served.proofs.Threads.{over_its, over_none}

-- A session that a worker serves is not 0.
some_session : (rows : List SessionRow) (id : ℕ) → All IsServed rows → is_in (map id_of rows) id ≡ true → id ≢ 0
some_session [] id served own = absurd (true≢false (sym own))
some_session (row ∷ rows) id served own = elim (cases_Bool (row.session == id)) [
  | inl same ↦ λ none. (All-head IsServed row rows served).session (eqb-true row.session id same ∙ none)
  | inr differs ↦ some_session rows id (All-tail IsServed row rows served) (subst (λ (b : Bool). (b || is_in (map id_of rows) id) ≡ true) differs own)
]

module _ (workers : ℕ) (some : 0 < workers) (origin : ConfiguredInteractions) (accounts : Accounts) (arrivals : List Arrival) (all : List Got) where
  -- the worker did what the answers give it
  abbrev pub DidThese : ℕ → List SessionRow → Type 0
  DidThese worker rows = DoesAll (map id_of rows) accounts (jobs_for workers worker (ids_of_boot origin) 0 arrivals ++ End ∷ []) (calls_of workers worker all)

  pub follows : SessionsFollow → OwnersAreExact → HaveTheirIds accounts → (id : ℕ) (rows : List SessionRow) → is_in (ids_of_boot origin) id ≡ true → AreRowsOf origin.state.node.boot workers (id % workers) origin.config.sessions rows
      → DidThese (id % workers) rows → Follows 0 (accounts id) arrivals (filter (is_over id) all)
  follows follow exact theirs id rows there mine did =
      let worker : ℕ = id % workers in
      let own : is_in (map id_of rows) id ≡ true =
      exact origin.state.node.boot workers worker origin.config.sessions rows mine id ∙ ap (λ (b : Bool). b && (worker == worker)) there ∙ eq-eqb worker worker refl in
      let its : Follows 0 (accounts id) arrivals (filter (is_over id) (calls_of workers worker all)) =
      follow workers worker id 0 (ids_of_boot origin) (map id_of rows) accounts arrivals (calls_of workers worker all) mine.rising (exact origin.state.node.boot workers worker origin.config.sessions rows mine) theirs own did in
      subst (Follows 0 (accounts id) arrivals) (over_its workers some id (some_session rows id mine.served own) all) its

  pub ticks : TicksAreWakes → TicksAll (jobs_for workers workers (ids_of_boot origin) 0 arrivals ++ End ∷ []) (calls_of workers workers all) → length (filter (is_over 0) all) ≡ wake_count 0 arrivals
  ticks wakes did = ap length (over_none workers some all) ∙ wakes workers 0 (ids_of_boot origin) arrivals (calls_of workers workers all) did
