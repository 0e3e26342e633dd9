-- Parts of a worker's work over several sessions: of one of them, of one after another, and of one job after another.
use Rattle.std.proofs.Common.{◌≡◌, ◌≢◌, ◌∙◌, refl, sym, ap, subst, ℕ, ◌<◌, ◌≤◌, ◌+◌, ◌*◌, length, arith, Bool, true, false, List, [], ◌∷◌, ◌++◌, Option, Some, None, Result, OnOk, append-nil, append_assoc, eq-eqb, ne_eqb, MatchBool}
use Rattle.std.specs.Prelude.{◌||◌}
use Rattle.mt_outside.specs.declared.network.Parcel.{Parcel}
use Rattle.mt_outside.specs.declared.network.Peer.{Peer}
use Rattle.mt_queue.specs.declared.job.Job.{Job}
use Rattle.mt_queue.specs.declared.job.Job.TheVariants.{End}
use Rattle.mt_layer.specs.mt_runs.Datagrams.{session_named}
use Rattle.mt_worker.specs.Accounts.{Account, Accounts, account_over, all_behind, all_sent, sent_over}
use Rattle.mt_worker.specs.Due.{AreRising, Does, DoesAll, Hears, Sweeps, Takes, Wakes, is_in}
use Rattle.mt_worker.specs.Few.{heard_for, steps_for, take_count, wake_count}
use Rattle.mt_worker.specs.Gots.{Each, Got}
use Rattle.mt_worker.specs.Seats.{AreSeats, IsSeatOf}
use Rattle.mt_worker.specs.Works.{AreOverOne, Went, WentOn, WentOver, WentThrough}
use Rattle.mt_worker.specs.declared.fault.WorkFault.{WorkFault}
use Rattle.mt_worker.specs.declared.fault.WorkFault.TheVariants.{Memory}
use Rattle.mt_worker.specs.declared.hand.Hand.{Hand}
use Rattle.mt_worker.specs.declared.seat.Seat.{Seat}
use Rattle.mt_worker.proofs.Few.{few_as, few_none, few_on, few_through, steps_push, takes_push}
use Rattle.mt_worker.proofs.Giving.{gave_none, part_none}
use Rattle.mt_worker.proofs.Made.{all_made_on, one_made}
use Rattle.mt_worker.proofs.Passes.{goes_none}
use Rattle.mt_worker.proofs.Sessions.{all_both, apart, behind_both, first_over, later_over, later_same, one_behind, one_sent, others_behind, over_on, rows_stay, seats_same}
use Rattle.mt_worker.proofs.Works.{err, failed_as, ok, ok_as, went_on}

-- ONE JOB AFTER ANOTHER.
does_push : (ids : List ℕ) (accounts : Accounts) (jobs : List Job) (job : Job) (xs ys : List Got) → DoesAll ids accounts jobs xs → Does ids (all_behind accounts xs) job ys → DoesAll ids accounts (jobs ++ job ∷ []) (xs ++ ys)
does_push ids accounts [] job xs ys all its =
    let its_own : Does ids accounts job ys = subst (λ (gots : List Got). Does ids (all_behind accounts gots) job ys) all its in
    (ys, [], ap (λ (gots : List Got). gots ++ ys) all ∙ sym (append-nil ys), its_own, refl)
does_push ids accounts (first ∷ jobs) job xs ys all its =
    let mine = all.0 in
    let rest = all.1 in
    let here : Does ids (all_behind (all_behind accounts mine) rest) job ys = subst (λ (f : Accounts). Does ids f job ys) (ap (all_behind accounts) all.2 ∙ behind_both accounts mine rest) its in
    (mine, rest ++ ys, ap (λ (gots : List Got). gots ++ ys) all.2 ∙ append_assoc mine rest ys, all.3, does_push ids (all_behind accounts mine) jobs job rest ys all.4 here)

module _ {O : Type 0} (given : O → Option (List Parcel)) (faults : O → ℕ) where
  -- one part after another
  pub on_on : {T U : Type 0} (t : T) (One Two Both : Accounts → List Got → Type 0) (heard steps more_heard more_steps most_heard most_steps : ℕ) (ids : List ℕ) (x y z : Hand O) (mid seats : List Seat) (result : Result U WorkFault) (accounts : Accounts) (first : WentOn given faults One heard steps ids x y mid (ok T t) accounts)
      → WentOn given faults Two more_heard more_steps ids y z seats result (all_behind accounts first.gots) → heard + more_heard ≤ most_heard → steps + more_steps ≤ most_steps → ((ys : List Got) → Two (all_behind accounts first.gots) ys → Both accounts (first.gots ++ ys)) → WentOn given faults Both most_heard most_steps ids x z seats result accounts
  on_on t One Two Both heard steps more_heard more_steps most_heard most_steps ids x y z mid seats result accounts first then hears goes both = record {
    gots = first.gots ++ then.gots;
    went = subst (Went given faults x z result (first.gots ++ then.gots)) (sym (all_both accounts first.gots then.gots)) (went_on given faults t x y z result first.gots then.gots _ _ first.went then.went);
    over = over_on ids first.gots then.gots first.over then.over;
    made = all_made_on accounts first.gots then.gots first.made then.made;
    few = few_on heard steps more_heard more_steps most_heard most_steps first.gots then.gots hears goes first.few then.few;
    did = ok_as given faults result _ _ (both then.gots) then.did;
    stands = subst (λ (f : Accounts). OnOk result (AreSeats seats ids f)) (sym (behind_both accounts first.gots then.gots)) then.stands;
  }

  pub job_on : {T U : Type 0} (t : T) (ids : List ℕ) (jobs : List Job) (job : Job) (x y z : Hand O) (mid seats : List Seat) (result : Result U WorkFault) (accounts : Accounts) (first : WentOn given faults (λ (f : Accounts) (gots : List Got). DoesAll ids f jobs gots) (take_count jobs) (4 * length ids * wake_count jobs) ids x y mid (ok T t) accounts)
      → WentOn given faults (λ (f : Accounts) (gots : List Got). Does ids f job gots) (heard_for job) (steps_for (length ids) job) ids y z seats result (all_behind accounts first.gots) → WentOn given faults (λ (f : Accounts) (gots : List Got). DoesAll ids f (jobs ++ job ∷ []) gots) (take_count (jobs ++ job ∷ [])) (4 * length ids * wake_count (jobs ++ job ∷ [])) ids x z seats result accounts
  job_on t ids jobs job x y z mid seats result accounts first then =
      let takes = takes_push jobs job in
      on_on t _ _ (λ (f : Accounts) (gots : List Got). DoesAll ids f (jobs ++ job ∷ []) gots) (take_count jobs) (4 * length ids * wake_count jobs) (heard_for job) (steps_for (length ids) job) (take_count (jobs ++ job ∷ [])) (4 * length ids * wake_count (jobs ++ job ∷ [])) ids x y z mid seats result accounts first then (omega (arith, takes)) (steps_push (length ids) jobs job) (λ ys its. does_push ids accounts jobs job first.gots ys first.did its)

  pub through : {T : Type 0} (ids : List ℕ) (jobs : List Job) (x y : Hand O) (seats : List Seat) (result : Result T WorkFault) (accounts : Accounts) → WentOn given faults (λ (f : Accounts) (gots : List Got). DoesAll ids f jobs gots) (take_count jobs) (4 * length ids * wake_count jobs) ids x y seats result accounts → WentThrough given faults ids jobs x y result accounts
  through ids jobs x y seats result accounts went = record { gots = went.gots; went = went.went; over = went.over; made = went.made; few = few_through (length ids) jobs went.gots went.few; did = went.did }

  -- a fault stays one, whatever else was due
  pub on_failed : (T U : Type 0) (One Both : Accounts → List Got → Type 0) (heard steps : ℕ) (ids : List ℕ) (x y : Hand O) (mid seats : List Seat) (fault : WorkFault) (accounts : Accounts) → WentOn given faults One heard steps ids x y mid (err T fault) accounts → WentOn given faults Both heard steps ids x y seats (err U fault) accounts
  on_failed T U One Both heard steps ids x y mid seats fault accounts went = record { gots = went.gots; went = failed_as given faults T U x y fault went.gots (all_sent accounts went.gots) went.went; over = went.over; made = went.made; few = went.few; did = tt; stands = tt }

  -- ONE SESSION AMONG SEVERAL: the first.
  module _ (ids : List ℕ) (id : ℕ) (accounts : Accounts) (its : (accounts id).row.session ≡ id) where
    over_id : (gots : List Got) → AreOverOne (accounts id).row.session gots → AreOverOne id gots
    over_id gots over = subst (λ (i : ℕ). AreOverOne i gots) its over

    first_went : {T : Type 0} (x y : Hand O) (result : Result T WorkFault) (gots : List Got) → AreOverOne id gots → Went given faults x y result gots (sent_over (accounts id) gots) → Went given faults x y result gots (all_sent accounts gots)
    first_went x y result gots over went = subst (Went given faults x y result gots) (sym (one_sent accounts id gots over)) went

    first_seats : (seat : Seat) (seats : List Seat) (gots : List Got) → Each (λ (later : ℕ). id < later) ids → AreOverOne id gots → IsSeatOf seat (account_over (accounts id) gots) → AreSeats seats ids accounts → AreSeats (seat ∷ seats) (id ∷ ids) (all_behind accounts gots)
    first_seats seat seats gots above over stands others =
        let here : all_behind accounts gots id ≡ account_over (accounts id) gots = one_behind accounts id gots over in
        (ap (λ (a : Account). a.row.session) here ∙ ap (λ row. row.session) (rows_stay (accounts id) gots) ∙ its, subst (IsSeatOf seat) (sym here) stands, seats_same seats ids accounts (all_behind accounts gots) (later_same accounts id ids gots above over) others)

    -- A WAKE: the first session, and then the others.
    pub wake_failed : (T U : Type 0) (now : ℕ) (x y : Hand O) (seat : Seat) (seats : List Seat) (fault : WorkFault) → WentOver given faults (λ (a : Account) (gots : List Got). Wakes a now gots) 0 4 x y seat (err T fault) (accounts id)
        → WentOn given faults (λ (f : Accounts) (gots : List Got). Sweeps now (id ∷ ids) f gots) 0 (4 * length (id ∷ ids)) (id ∷ ids) x y seats (err U fault) accounts
    wake_failed T U now x y seat seats fault first =
        let over = over_id first.gots first.over in
        record { gots = first.gots; went = failed_as given faults T U x y fault first.gots (all_sent accounts first.gots) (first_went x y _ first.gots over first.went); over = first_over id ids first.gots over; made = one_made accounts id first.gots over first.made; few = few_as 0 4 0 (4 * length (id ∷ ids)) first.gots (omega arith) (omega arith) first.few; did = tt; stands = tt }

    pub wake_others : {T : Type 0} (t : T) (now : ℕ) (x y : Hand O) (seat : Seat) (seats : List Seat) → Each (λ (later : ℕ). id < later) ids → AreSeats seats ids accounts → (first : WentOver given faults (λ (a : Account) (gots : List Got). Wakes a now gots) 0 4 x y seat (ok T t) (accounts id))
        → AreSeats seats ids (all_behind accounts first.gots)
    wake_others t now x y seat seats above others first = seats_same seats ids accounts (all_behind accounts first.gots) (later_same accounts id ids first.gots above (over_id first.gots first.over)) others

    pub wake_then : {T U : Type 0} (t : T) (now : ℕ) (x y z : Hand O) (seat : Seat) (seats : List Seat) (result : Result U WorkFault) → Each (λ (later : ℕ). id < later) ids
        → (first : WentOver given faults (λ (a : Account) (gots : List Got). Wakes a now gots) 0 4 x y seat (ok T t) (accounts id))
        → WentOn given faults (λ (f : Accounts) (gots : List Got). Sweeps now ids f gots) 0 (4 * length ids) ids y z seats result (all_behind accounts first.gots)
        → WentOn given faults (λ (f : Accounts) (gots : List Got). Sweeps now (id ∷ ids) f gots) 0 (4 * length (id ∷ ids)) (id ∷ ids) x z (seat ∷ seats) result accounts
    wake_then t now x y z seat seats result above first rest =
        let over = over_id first.gots first.over in
        let mid : Accounts = all_behind accounts first.gots in
        let stays : all_behind mid rest.gots id ≡ account_over (accounts id) first.gots = others_behind mid id rest.gots (apart id ids rest.gots above rest.over) ∙ one_behind accounts id first.gots over in
        let seated : AreSeats seats ids (all_behind mid rest.gots) → AreSeats (seat ∷ seats) (id ∷ ids) (all_behind accounts (first.gots ++ rest.gots)) = λ are.
        subst (AreSeats (seat ∷ seats) (id ∷ ids)) (sym (behind_both accounts first.gots rest.gots))
        (ap (λ (a : Account). a.row.session) stays ∙ ap (λ row. row.session) (rows_stay (accounts id) first.gots) ∙ its, subst (IsSeatOf seat) (sym stays) first.stands, are) in
        record {
          gots = first.gots ++ rest.gots;
          went = subst (Went given faults x z result (first.gots ++ rest.gots)) (sym (all_both accounts first.gots rest.gots)) (went_on given faults t x y z result first.gots rest.gots _ _ (first_went x y _ first.gots over first.went) rest.went);
          over = over_on (id ∷ ids) first.gots rest.gots (first_over id ids first.gots over) (later_over id ids rest.gots rest.over);
          made = all_made_on accounts first.gots rest.gots (one_made accounts id first.gots over first.made) rest.made;
          few = few_on 0 4 0 (4 * length ids) 0 (4 * length (id ∷ ids)) first.gots rest.gots (omega arith) (omega arith) first.few rest.few;
          did = ok_as given faults result _ _ (λ (sweeps : Sweeps now ids mid rest.gots). (first.gots, rest.gots, refl, first.did, sweeps)) rest.did;
          stands = ok_as given faults result _ _ seated rest.stands;
        }

    -- A DATAGRAM: it is the first session's, or another's.
    pub take_first : {T : Type 0} (session now : ℕ) (from : Peer) (bytes : List ℕ) (x y : Hand O) (seat : Seat) (seats : List Seat) (result : Result T WorkFault) → id ≡ session → Each (λ (later : ℕ). id < later) ids → AreSeats seats ids accounts
        → WentOver given faults (λ (a : Account) (gots : List Got). Hears a now from bytes gots) 1 0 x y seat result (accounts id)
        → WentOn given faults (λ (f : Accounts) (gots : List Got). Takes (id ∷ ids) f now from bytes (Some session) gots) 1 0 (id ∷ ids) x y (seat ∷ seats) result accounts
    take_first session now from bytes x y seat seats result same above others first =
        let over = over_id first.gots first.over in
        let is : is_in (id ∷ ids) session ≡ true = ap (λ (b : Bool). b || is_in ids session) (eq-eqb id session same) in
        record {
          gots = first.gots;
          went = first_went x y result first.gots over first.went;
          over = first_over id ids first.gots over;
          made = one_made accounts id first.gots over first.made;
          few = first.few;
          did = ok_as given faults result _ _ (λ (heard : Hears (accounts id) now from bytes first.gots).
              subst (λ (b : Bool). MatchBool b (Hears (accounts session) now from bytes first.gots) (first.gots ≡ [])) (sym is) (subst (λ (i : ℕ). Hears (accounts i) now from bytes first.gots) same heard)) first.did;
          stands = ok_as given faults result _ _ (λ (stands : IsSeatOf seat (account_over (accounts id) first.gots)). first_seats seat seats first.gots above over stands others) first.stands;
        }

    pub take_other : {T : Type 0} (session now : ℕ) (from : Peer) (bytes : List ℕ) (x y : Hand O) (seat : Seat) (seats : List Seat) (result : Result T WorkFault) → id ≢ session → Each (λ (later : ℕ). id < later) ids → IsSeatOf seat (accounts id)
        → WentOn given faults (λ (f : Accounts) (gots : List Got). Takes ids f now from bytes (Some session) gots) 1 0 ids x y seats result accounts
        → WentOn given faults (λ (f : Accounts) (gots : List Got). Takes (id ∷ ids) f now from bytes (Some session) gots) 1 0 (id ∷ ids) x y (seat ∷ seats) result accounts
    take_other session now from bytes x y seat seats result differs above stands rest =
        let same : is_in (id ∷ ids) session ≡ is_in ids session = ap (λ (b : Bool). b || is_in ids session) (ne_eqb id session differs) in
        let stays : all_behind accounts rest.gots id ≡ accounts id = others_behind accounts id rest.gots (apart id ids rest.gots above rest.over) in
        record {
          gots = rest.gots;
          went = rest.went;
          over = later_over id ids rest.gots rest.over;
          made = rest.made;
          few = rest.few;
          did = ok_as given faults result _ _ (λ (took : Takes ids accounts now from bytes (Some session) rest.gots). subst (λ (b : Bool). MatchBool b (Hears (accounts session) now from bytes rest.gots) (rest.gots ≡ [])) (sym same) took) rest.did;
          stands = ok_as given faults result _ _ (λ (are : AreSeats seats ids (all_behind accounts rest.gots)). (ap (λ (a : Account). a.row.session) stays ∙ its, subst (IsSeatOf seat) (sym stays) stands, are)) rest.stands;
        }

  -- NOTHING WAS DUE.
  pub on_idle : (T : Type 0) (t : T) (Due : Accounts → List Got → Type 0) (heard steps : ℕ) (ids : List ℕ) (x : Hand O) (seats : List Seat) (accounts : Accounts) → x.pass.inside ≡ false → Due accounts [] → AreSeats seats ids accounts → WentOn given faults Due heard steps ids x x seats (ok T t) accounts
  on_idle T t Due heard steps ids x seats accounts outside due are = record {
    gots = [];
    went = record { goes = goes_none x.pass outside; all = gave_none (given x.outlet); part = part_none (given x.outlet) (given x.outlet) [] refl; counts = refl; cause = tt };
    over = tt;
    made = tt;
    few = few_none heard steps;
    did = due;
    stands = are;
  }

  cons_is_not_nil : (seat : Seat) (seats : List Seat) → seat ∷ seats ≡ [] → ⊥
  cons_is_not_nil seat seats same = cc

  -- A WAKE, as it goes through the seats.

  pub wake_none : (T : Type 0) (t : T) (now : ℕ) (ids : List ℕ) (x : Hand O) (seats : List Seat) (accounts : Accounts) → x.pass.inside ≡ false → seats ≡ [] → AreSeats seats ids accounts → WentOn given faults (λ (f : Accounts) (gots : List Got). Sweeps now ids f gots) 0 (4 * length ids) ids x x seats (ok T t) accounts
  wake_none T t now [] x seats accounts outside none are = on_idle T t _ 0 0 [] x seats accounts outside refl are
  wake_none T t now (id ∷ ids) x [] accounts outside none are = absurd are
  wake_none T t now (id ∷ ids) x (seat ∷ seats) accounts outside none are = absurd (cons_is_not_nil seat seats none)

  module _ (now : ℕ) (x y : Hand O) (whole : List Seat) (seat later : Seat) (others : List Seat) (is : whole ≡ seat ∷ others) where
    pub wake_fails : (T U : Type 0) (ids : List ℕ) (accounts : Accounts) (seats : List Seat) (fault : WorkFault) → AreSeats whole ids accounts → ((a : Account) → IsSeatOf seat a → WentOver given faults (λ (a : Account) (gots : List Got). Wakes a now gots) 0 4 x y later (err T fault) a)
        → WentOn given faults (λ (f : Accounts) (gots : List Got). Sweeps now ids f gots) 0 (4 * length ids) ids x y seats (err U fault) accounts
    wake_fails T U [] accounts seats fault are went = absurd (subst (λ (l : List Seat). AreSeats l [] accounts) is are)
    wake_fails T U (id ∷ ids) accounts seats fault are went =
        let first = subst (λ (l : List Seat). AreSeats l (id ∷ ids) accounts) is are in
        wake_failed ids id accounts first.0 T U now x y later seats fault (went (accounts id) first.1)

    pub wake_goes : (T U : Type 0) (t : T) (z : Hand O) (ids : List ℕ) (accounts : Accounts) (seats : List Seat) (result : Result U WorkFault) → AreSeats whole ids accounts → AreRising ids
        → ((a : Account) → IsSeatOf seat a → WentOver given faults (λ (a : Account) (gots : List Got). Wakes a now gots) 0 4 x y later (ok T t) a)
        → ((ids : List ℕ) (accounts : Accounts) → AreSeats others ids accounts → AreRising ids → WentOn given faults (λ (f : Accounts) (gots : List Got). Sweeps now ids f gots) 0 (4 * length ids) ids y z seats result accounts)
        → WentOn given faults (λ (f : Accounts) (gots : List Got). Sweeps now ids f gots) 0 (4 * length ids) ids x z (later ∷ seats) result accounts
    wake_goes T U t z [] accounts seats result are rising went rest = absurd (subst (λ (l : List Seat). AreSeats l [] accounts) is are)
    wake_goes T U t z (id ∷ ids) accounts seats result are rising went rest =
        let first = subst (λ (l : List Seat). AreSeats l (id ∷ ids) accounts) is are in
        let one = went (accounts id) first.1 in
        wake_then ids id accounts first.0 t now x y z later seats result rising.0 one (rest ids (all_behind accounts one.gots) (wake_others ids id accounts first.0 t now x y later others rising.0 first.2 one) rising.1)

  -- A DATAGRAM, as its session is looked for.

  pub take_none : (T : Type 0) (t : T) (session now : ℕ) (from : Peer) (bytes : List ℕ) (ids : List ℕ) (x : Hand O) (seats : List Seat) (accounts : Accounts) → x.pass.inside ≡ false → seats ≡ [] → AreSeats seats ids accounts
      → WentOn given faults (λ (f : Accounts) (gots : List Got). Takes ids f now from bytes (Some session) gots) 1 0 ids x x seats (ok T t) accounts
  take_none T t session now from bytes [] x seats accounts outside none are = on_idle T t _ 1 0 [] x seats accounts outside refl are
  take_none T t session now from bytes (id ∷ ids) x [] accounts outside none are = absurd are
  take_none T t session now from bytes (id ∷ ids) x (seat ∷ seats) accounts outside none are = absurd (cons_is_not_nil seat seats none)

  pub take_nobody : (T : Type 0) (t : T) (named : Option ℕ) (now : ℕ) (from : Peer) (bytes : List ℕ) (ids : List ℕ) (x : Hand O) (seats : List Seat) (accounts : Accounts) → x.pass.inside ≡ false → named ≡ None → AreSeats seats ids accounts
      → WentOn given faults (λ (f : Accounts) (gots : List Got). Takes ids f now from bytes named gots) 1 0 ids x x seats (ok T t) accounts
  take_nobody T t named now from bytes ids x seats accounts outside none are =
      on_idle T t (λ (f : Accounts) (gots : List Got). Takes ids f now from bytes named gots) 1 0 ids x seats accounts outside (subst (λ (o : Option ℕ). Takes ids accounts now from bytes o []) (sym none) refl) are

  module _ (session now : ℕ) (from : Peer) (bytes : List ℕ) (x y : Hand O) (whole : List Seat) (seat later : Seat) (others : List Seat) (is : whole ≡ seat ∷ others) where
    pub take_here : (T : Type 0) (ids : List ℕ) (accounts : Accounts) (result : Result T WorkFault) → AreSeats whole ids accounts → AreRising ids → session_named bytes ≡ Some session → ((a : Account) → IsSeatOf seat a → a.row.session ≡ session)
        → ((a : Account) → IsSeatOf seat a → session_named bytes ≡ Some a.row.session → WentOver given faults (λ (a : Account) (gots : List Got). Hears a now from bytes gots) 1 0 x y later result a)
        → WentOn given faults (λ (f : Accounts) (gots : List Got). Takes ids f now from bytes (Some session) gots) 1 0 ids x y (later ∷ others) result accounts
    take_here T [] accounts result are rising named same went = absurd (subst (λ (l : List Seat). AreSeats l [] accounts) is are)
    take_here T (id ∷ ids) accounts result are rising named same went =
        let first = subst (λ (l : List Seat). AreSeats l (id ∷ ids) accounts) is are in
        let its = same (accounts id) first.1 in
        take_first ids id accounts first.0 session now from bytes x y later others result (sym first.0 ∙ its) rising.0 first.2 (went (accounts id) first.1 (named ∙ ap (λ (i : ℕ). Some i) (sym its)))

    pub take_there : (T : Type 0) (ids : List ℕ) (accounts : Accounts) (seats : List Seat) (result : Result T WorkFault) → AreSeats whole ids accounts → AreRising ids → ((a : Account) → IsSeatOf seat a → a.row.session ≢ session)
        → ((ids : List ℕ) (accounts : Accounts) → AreSeats others ids accounts → AreRising ids → WentOn given faults (λ (f : Accounts) (gots : List Got). Takes ids f now from bytes (Some session) gots) 1 0 ids x y seats result accounts)
        → WentOn given faults (λ (f : Accounts) (gots : List Got). Takes ids f now from bytes (Some session) gots) 1 0 ids x y (seat ∷ seats) result accounts
    take_there T [] accounts seats result are rising differs rest = absurd (subst (λ (l : List Seat). AreSeats l [] accounts) is are)
    take_there T (id ∷ ids) accounts seats result are rising differs rest =
        let first = subst (λ (l : List Seat). AreSeats l (id ∷ ids) accounts) is are in
        take_other ids id accounts first.0 session now from bytes x y seat seats result (λ same. differs (accounts id) first.1 (first.0 ∙ same)) rising.0 first.1 (rest ids accounts first.2 rising.1)

  -- the end message
  pub end_idle : (T : Type 0) (t : T) (job : Job) (ids : List ℕ) (x : Hand O) (seats : List Seat) (accounts : Accounts) → x.pass.inside ≡ false → job ≡ End → AreSeats seats ids accounts → WentOn given faults (λ (f : Accounts) (gots : List Got). Does ids f job gots) (heard_for job) (steps_for (length ids) job) ids x x seats (ok T t) accounts
  end_idle T t job ids x seats accounts outside is are = on_idle T t (λ (f : Accounts) (gots : List Got). Does ids f job gots) (heard_for job) (steps_for (length ids) job) ids x seats accounts outside (subst (λ (j : Job). Does ids accounts j []) (sym is) refl) are

  -- RESULTS of another type.

  pub on_fine : (T U : Type 0) (t : T) (other : U) (Due : Accounts → List Got → Type 0) (heard steps : ℕ) (ids : List ℕ) (x y : Hand O) (seats : List Seat) (accounts : Accounts) → WentOn given faults Due heard steps ids x y seats (ok T t) accounts → WentOn given faults Due heard steps ids x y seats (ok U other) accounts
  on_fine T U t other Due heard steps ids x y seats accounts its = record {
    gots = its.gots;
    went = record { goes = its.went.goes; all = its.went.all; part = its.went.part; counts = its.went.counts; cause = tt };
    over = its.over;
    made = its.made;
    few = its.few;
    did = its.did;
    stands = its.stands;
  }

  -- WHERE THERE WAS NO MEMORY for the seats.
  pub through_nowhere : (T : Type 0) (ids : List ℕ) (jobs : List Job) (x : Hand O) (accounts : Accounts) → x.pass.inside ≡ false → WentThrough given faults ids jobs x x (err T Memory) accounts
  through_nowhere T ids jobs x accounts outside = record {
    gots = [];
    went = record { goes = goes_none x.pass outside; all = tt; part = part_none (given x.outlet) (given x.outlet) [] refl; counts = refl; cause = tt };
    over = tt;
    made = tt;
    few = few_through (length ids) jobs [] (few_none (take_count jobs) (4 * length ids * wake_count jobs));
    did = tt;
  }
