-- What the calls over one session send, and leave, among those of all.
use Rattle.std.proofs.Common.{◌≡◌, ◌≢◌, ◌∙◌, refl, sym, ap, subst, ℕ, Bool, true, false, true≢false, List, [], ◌∷◌, ◌++◌, Option, Some, None, append_assoc, eq-eqb, eqb-true, ne_eqb, arith}
use Rattle.std.specs.Prelude.{◌==◌, ◌||◌, ◌<◌, is_some, if◌then◌else◌}
use Rattle.mt_model.specs.declared.texts.recording.Sent.{Sent}
use Rattle.mt_layer.specs.mt_shared.Replay.{unless_stopped}
use Rattle.mt_layer.specs.mt_shared.Call.{Call}
use Rattle.mt_layer.specs.mt_shared.Stop.{Stop}
use Rattle.mt_worker.specs.Accounts.{Account, Accounts, account_behind, account_over, all_behind, all_sent, behind, sent_by, sent_in, sent_over, standing_behind, talk_in}
use Rattle.mt_worker.specs.Due.{is_in}
use Rattle.mt_worker.specs.Gots.{Each, Got, Told}
use Rattle.mt_worker.specs.Seats.{AreSeats, IsSeatOf}
use Rattle.mt_worker.specs.Works.{AreOver, AreOverOne, AreStops}
use Rattle.mt_worker.specs.declared.seat.Seat.{Seat}

-- ONE PART AFTER ANOTHER.

pub over_both : (a : Account) (xs ys : List Got) → sent_over a (xs ++ ys) ≡ sent_over a xs ++ sent_over (account_over a xs) ys
over_both a [] ys = refl
over_both a (x ∷ xs) ys = ap (λ (sent : List Sent). sent_by a x.told ++ sent) (over_both (account_behind a x.told) xs ys) ∙ sym (append_assoc (sent_by a x.told) (sent_over (account_behind a x.told) xs) _)

pub account_both : (a : Account) (xs ys : List Got) → account_over a (xs ++ ys) ≡ account_over (account_over a xs) ys
account_both a [] ys = refl
account_both a (x ∷ xs) ys = account_both (account_behind a x.told) xs ys

pub all_both : (accounts : Accounts) (xs ys : List Got) → all_sent accounts (xs ++ ys) ≡ all_sent accounts xs ++ all_sent (all_behind accounts xs) ys
all_both accounts [] ys = refl
all_both accounts (x ∷ xs) ys = ap (λ (sent : List Sent). sent_by (accounts x.session) x.told ++ sent) (all_both (behind accounts x) xs ys) ∙ sym (append_assoc (sent_by (accounts x.session) x.told) (all_sent (behind accounts x) xs) _)

pub behind_both : (accounts : Accounts) (xs ys : List Got) → all_behind accounts (xs ++ ys) ≡ all_behind (all_behind accounts xs) ys
behind_both accounts [] ys = refl
behind_both accounts (x ∷ xs) ys = behind_both (behind accounts x) xs ys

pub over_on : (ids : List ℕ) (xs ys : List Got) → AreOver ids xs → AreOver ids ys → AreOver ids (xs ++ ys)
over_on ids [] ys a b = b
over_on ids (x ∷ xs) ys a b = (a.0, over_on ids xs ys a.1 b)

-- AN ENTRY CHANGES THE ACCOUNT OF ITS SESSION ALONE.

pub here : (accounts : Accounts) (got : Got) (id : ℕ) → got.session ≡ id → behind accounts got id ≡ account_behind (accounts id) got.told
here accounts got id is = ap (λ (b : Bool). if b then account_behind (accounts id) got.told else accounts id) (eq-eqb id got.session (sym is))

there : (accounts : Accounts) (got : Got) (id : ℕ) → got.session ≢ id → behind accounts got id ≡ accounts id
there accounts got id not = ap (λ (b : Bool). if b then account_behind (accounts id) got.told else accounts id) (ne_eqb id got.session (λ same. not (sym same)))

pub one_sent : (accounts : Accounts) (id : ℕ) (gots : List Got) → AreOverOne id gots → all_sent accounts gots ≡ sent_over (accounts id) gots
one_sent accounts id [] over = refl
one_sent accounts id (got ∷ gots) over =
    ap (λ (i : ℕ). sent_by (accounts i) got.told ++ all_sent (behind accounts got) gots) over.0
    ∙ ap (λ (sent : List Sent). sent_by (accounts id) got.told ++ sent) (one_sent (behind accounts got) id gots over.1 ∙ ap (λ (a : Account). sent_over a gots) (here accounts got id over.0))

pub one_behind : (accounts : Accounts) (id : ℕ) (gots : List Got) → AreOverOne id gots → all_behind accounts gots id ≡ account_over (accounts id) gots
one_behind accounts id [] over = refl
one_behind accounts id (got ∷ gots) over = one_behind (behind accounts got) id gots over.1 ∙ ap (λ (a : Account). account_over a gots) (here accounts got id over.0)

pub others_behind : (accounts : Accounts) (id : ℕ) (gots : List Got) → Each (λ (got : Got). got.session ≢ id) gots → all_behind accounts gots id ≡ accounts id
others_behind accounts id [] not = refl
others_behind accounts id (got ∷ gots) not = others_behind (behind accounts got) id gots not.1 ∙ there accounts got id not.0

pub row_stays : (a : Account) (told : Told) → (account_behind a told).row ≡ a.row
row_stays a told =
    let each : (o : Option Stop) → (unless_stopped o (record a {
      talk = talk_in told.0.call.event told.0.ms told.1 a;
      subscriptions = standing_behind told.0.call.event told.0.call.deed told.0.ms told.1 a.subscriptions;
    }) a).row ≡ a.row = elim [ None ↦ refl | Some stop ↦ refl ] in
    each told.0.stop

pub rows_stay : (a : Account) (gots : List Got) → (account_over a gots).row ≡ a.row
rows_stay a [] = refl
rows_stay a (got ∷ gots) = rows_stay (account_behind a got.told) gots ∙ row_stays a got.told

-- A STOP sends nothing.

stop_sends : (a : Account) (told : Told) → is_some told.0.stop ≡ true → sent_by a told ≡ []
stop_sends a told =
    let each : (o : Option Stop) → is_some o ≡ true → unless_stopped o (sent_in told.0.call.event told.0.ms told.1 a) [] ≡ [] = elim [ None ↦ λ is. absurd (true≢false (sym is)) | Some stop ↦ λ is. refl ] in
    each told.0.stop

pub stops_send : (a : Account) (session : ℕ) (call : Call) (gots : List Got) → AreStops session call gots → sent_over a gots ≡ []
stops_send a session call [] stops = refl
stops_send a session call (got ∷ gots) stops = ap (λ (sent : List Sent). sent ++ sent_over (account_behind a got.told) gots) (stop_sends a got.told stops.0.stop) ∙ stops_send (account_behind a got.told) session call gots stops.1

pub stops_over : (session : ℕ) (call : Call) (gots : List Got) → AreStops session call gots → AreOverOne session gots
stops_over session call [] stops = tt
stops_over session call (got ∷ gots) stops = (stops.0.session_is, stops_over session call gots stops.1)

-- WHICH SESSIONS.

pub one_on : (id : ℕ) (xs ys : List Got) → AreOverOne id xs → AreOverOne id ys → AreOverOne id (xs ++ ys)
one_on id [] ys a b = b
one_on id (x ∷ xs) ys a b = (a.0, one_on id xs ys a.1 b)

pub first_over : (id : ℕ) (ids : List ℕ) (gots : List Got) → AreOverOne id gots → AreOver (id ∷ ids) gots
first_over id ids [] over = tt
first_over id ids (got ∷ gots) over = (ap (λ (b : Bool). b || is_in ids got.session) (eq-eqb id got.session (sym over.0)), first_over id ids gots over.1)

or_true : (b : Bool) → (b || true) ≡ true
or_true = elim [ true ↦ refl | false ↦ refl ]

pub later_over : (id : ℕ) (ids : List ℕ) (gots : List Got) → AreOver ids gots → AreOver (id ∷ ids) gots
later_over id ids [] over = tt
later_over id ids (got ∷ gots) over = (ap (λ (b : Bool). (id == got.session) || b) over.0 ∙ or_true (id == got.session), later_over id ids gots over.1)

-- what is among numbers that are all above one is not that
above_differs : (id session : ℕ) (ids : List ℕ) → Each (λ (later : ℕ). id < later) ids → is_in ids session ≡ true → session ≢ id
above_differs id session [] above is = absurd (true≢false (sym is))
above_differs id session (other ∷ ids) above is =
    let each : (b : Bool) → (other == session) ≡ b → (b || is_in ids session) ≡ true → session ≢ id = elim [
      | true ↦ λ same _ equal. let found : other ≡ session = eqb-true other session same in let less = above.0 in omega (arith, found, equal)
      | false ↦ λ _ rest. above_differs id session ids above.1 rest
    ] in
    each (other == session) refl is

pub apart : (id : ℕ) (ids : List ℕ) (gots : List Got) → Each (λ (later : ℕ). id < later) ids → AreOver ids gots → Each (λ (got : Got). got.session ≢ id) gots
apart id ids [] above over = tt
apart id ids (got ∷ gots) above over = (above_differs id got.session ids above over.0, apart id ids gots above over.1)

-- SEATS stand for the accounts of their sessions, whatever those of others are.

pub seats_same : (seats : List Seat) (ids : List ℕ) (f g : Accounts) → Each (λ (id : ℕ). g id ≡ f id) ids → AreSeats seats ids f → AreSeats seats ids g
seats_same [] [] f g same are = are
seats_same [] (id ∷ ids) f g same are = are
seats_same (seat ∷ seats) [] f g same are = are
seats_same (seat ∷ seats) (id ∷ ids) f g same are =
    (subst (λ (a : Account). a.row.session ≡ id) (sym same.0) are.0, subst (IsSeatOf seat) (sym same.0) are.1, seats_same seats ids f g same.1 are.2)

-- behind calls over one session, those of the later ones are as they were
pub later_same : (accounts : Accounts) (id : ℕ) (ids : List ℕ) (gots : List Got) → Each (λ (later : ℕ). id < later) ids → AreOverOne id gots → Each (λ (other : ℕ). all_behind accounts gots other ≡ accounts other) ids
later_same accounts id [] gots above over = tt
later_same accounts id (other ∷ ids) gots above over =
    (others_behind accounts other gots (differ id other gots above.0 over), later_same accounts id ids gots above.1 over)
  where
    differ : (id other : ℕ) (gots : List Got) → id < other → AreOverOne id gots → Each (λ (got : Got). got.session ≢ other) gots
    differ id other [] less over = tt
    differ id other (got ∷ gots) less over = ((λ equal. let is = over.0 in omega (arith, is, equal)), differ id other gots less over.1)
