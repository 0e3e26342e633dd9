-- A run behind a fresh message, before that is answered.
use Rattle.std.proofs.Common.{◌≡◌, ℕ, ◌&&◌, nat_lt, Bool, true, false, true≢false, not, List, [], ◌∷◌, ◌++◌, map, Option, if◌then◌else◌, refl, ap, sym, subst, ◌∙◌}
use Rattle.std.specs.List.{AllByRecursion}
use Rattle.std.specs.Option.{unwrap_or}
use Rattle.mt_model.specs.declared.limits.TheConstants.{EXCHANGES}
use Rattle.mt_model.specs.declared.texts.config.SessionRow.{SessionRow}
use Rattle.mt_session.specs.Opening.{Arrival}
use Rattle.mt_exchange.specs.declared.exchange.Key.{Key}
use Rattle.mt_exchange.specs.declared.exchange.Exchange.{Exchange}
use Rattle.mt_exchange.specs.Opened.{count_of_peer, exchange_at, is_any, is_open, nothing, put}
use Rattle.mt_exchange.specs.Payloads.{is_success}
use Rattle.mt_exchange.specs.Receiving.{Taken, acknowledged, ask, begins, behind, busy, closed, confirmed, confirming, ended, is_interaction, key_of, next, received, relieved, relieved_ones, taken_on}
use Rattle.mt_exchange.specs.Retold.{AwaitsAll, IsOn, IsOpened, IsRetold, IsSettled, TakenOnItsExchange, bare, retold_so_far}
use Rattle.mt_exchange.specs.Runs.{Run, after_arrival}
use Rattle.mt_exchange.specs.Shown.{Shown, heard}
use Rattle.mt_exchange.proofs.Bare.{all-at, all-put, bare-at, bare-count, bare-open, bare-put, out-put}
use Rattle.mt_exchange.proofs.Keys.{behind-key, exchange_at-key}
use Rattle.mt_exchange.proofs.Told.{sealed_told, so_far_behind}

-- What a message is, and what is behind it.

behind-by : (p q i c s k : Bool) (x : Exchange) (opcode : ℕ) (payload : List ℕ) (subscription : ℕ)
    → behind (if p then closed else if q then busy x.key else if not i then acknowledged else if c then (if not s then ended x.key x.subscription else if false then next x.key else confirmed x.key subscription) else ask x.key opcode payload x.deadline) (bare x)
    ≡ bare (behind (if p then closed else if q then busy x.key else if not i then acknowledged else if c then (if not s then ended x.key x.subscription else if k then next x.key else confirmed x.key subscription) else ask x.key opcode payload x.deadline) x)
behind-by true q i c s k x opcode payload subscription = refl
behind-by false true i c s k x opcode payload subscription = refl
behind-by false false false c s k x opcode payload subscription = refl
behind-by false false true true false k x opcode payload subscription = refl
behind-by false false true true true true x opcode payload subscription = refl
behind-by false false true true true false x opcode payload subscription = refl
behind-by false false true false s k x opcode payload subscription = refl

behind-bare : (x : Exchange) (count : ℕ) (a : Arrival) → IsSettled x → behind (taken_on (bare x) count a) (bare x) ≡ bare (behind (taken_on x count a) x)
behind-bare x count a is =
    let on : Bool → Taken = λ (o : Bool).
    if not o && not (begins a.header) then closed
    else if not o && not (nat_lt count EXCHANGES) then busy x.key
    else if not (is_interaction a.header) then acknowledged
    else if x.confirmation then confirming (bare x) (is_success a.header.opcode a.payload)
    else ask x.key a.header.opcode a.payload x.deadline in
    ap (λ (o : Bool). behind (on o) (bare x)) (bare-open x is.confirmed)
    ∙ behind-by (not (is_open x) && not (begins a.header)) (not (is_open x) && not (nat_lt count EXCHANGES)) (is_interaction a.header) x.confirmation (is_success a.header.opcode a.payload) (is_any x.kept)
    x a.header.opcode a.payload (unwrap_or x.subscription 0)

behind-open : (t : Taken) (x : Exchange) → IsSettled x → is_open (bare (behind t x)) ≡ is_open (behind t x)
behind-open (ask key opcode payload timed) x is = refl
behind-open (next key) x is = refl
behind-open (confirmed key subscription) x is = refl
behind-open (ended key subscription) x is = refl
behind-open acknowledged x is = bare-open x is.confirmed
behind-open (busy key) x is = bare-open x is.confirmed
behind-open closed x is = bare-open x is.confirmed

-- what is kept on an exchange that may wait for an answer
pub record IsWaiting (x : Exchange) : Type 0 where
  pub awaiting : AwaitsAll x.kept
  pub confirmed : x.unanswered ≡ false → is_any x.kept ≡ true → x.confirmation ≡ true

pub settled-waiting : (x : Exchange) → IsSettled x → IsWaiting x
settled-waiting x is = record { awaiting = is.awaiting; confirmed = λ e. is.confirmed }

behind-waiting : (t : Taken) (x : Exchange) → IsSettled x → IsWaiting (behind t x)
behind-waiting (ask key opcode payload timed) x is = record { awaiting = is.awaiting; confirmed = λ e. absurd (true≢false e) }
behind-waiting (next key) x is = record { awaiting = is.awaiting; confirmed = λ e. absurd (true≢false e) }
behind-waiting (confirmed key subscription) x is = record { awaiting = is.awaiting; confirmed = λ e. absurd (true≢false e) }
behind-waiting (ended key subscription) x is = record { awaiting = tt; confirmed = λ e any. absurd (true≢false (sym any)) }
behind-waiting acknowledged x is = settled-waiting x is
behind-waiting (busy key) x is = settled-waiting x is
behind-waiting closed x is = settled-waiting x is

nothing-settled : (key : Key) → IsSettled (nothing key)
nothing-settled key = record { answered = refl; confirmed = λ e. absurd (true≢false (sym e)); awaiting = tt }

pub found-settled : (key : Key) (xs : List Exchange) → AllByRecursion IsSettled xs → IsSettled (exchange_at key xs)
found-settled key xs all = all-at IsSettled key xs (nothing-settled key) all

relieved-settled : (counter : Option ℕ) (x : Exchange) → IsSettled x → IsSettled (relieved counter x)
relieved-settled counter x is = record { answered = is.answered; confirmed = is.confirmed; awaiting = is.awaiting }

all-waiting : (xs : List Exchange) → AllByRecursion IsSettled xs → AllByRecursion IsWaiting xs
all-waiting [] all = tt
all-waiting (x ∷ xs) all = (settled-waiting x all.0, all-waiting xs all.1)

-- Among exchanges on which nothing waits.

module _ (a : Arrival) (xs : List Exchange) (all : AllByRecursion IsSettled xs) where
  abbrev key : Key
  key = key_of a.header

  abbrev rest : List Exchange
  rest = relieved_ones a.header xs

  -- what is put behind the message
  abbrev new_in : List Exchange → Exchange
  new_in ys = behind (taken_on (exchange_at key ys) (count_of_peer ys) a) (exchange_at key ys)

  rest-settled : AllByRecursion IsSettled rest
  rest-settled = all-put IsSettled (relieved a.header.acknowledged (exchange_at key xs)) xs (λ e. relieved-settled a.header.acknowledged (exchange_at key xs) (found-settled key xs all)) all

  rest-bare : relieved_ones a.header (map bare xs) ≡ map bare rest
  rest-bare =
      ap (λ (x : Exchange). put (relieved a.header.acknowledged x) (map bare xs)) (bare-at key xs)
      ∙ bare-put (relieved a.header.acknowledged (exchange_at key xs)) xs (bare-open (relieved a.header.acknowledged (exchange_at key xs)) (found-settled key xs all).confirmed)

  pub old-settled : IsSettled (exchange_at key rest)
  old-settled = found-settled key rest rest-settled

  new-bare : new_in (map bare rest) ≡ bare (new_in rest)
  new-bare =
      (λ i. behind (taken_on (bare-at key rest i) (bare-count rest i) a) (bare-at key rest i))
      ∙ behind-bare (exchange_at key rest) (count_of_peer rest) a old-settled

  pub received-bare : received (map bare xs) a ≡ map bare (received xs a)
  received-bare =
      ap (λ (ys : List Exchange). put (new_in ys) ys) rest-bare
      ∙ ap (λ (x : Exchange). put x (map bare rest)) new-bare
      ∙ bare-put (new_in rest) rest (behind-open (taken_on (exchange_at key rest) (count_of_peer rest) a) (exchange_at key rest) old-settled)

  pub received-waiting : IsWaiting (exchange_at key (received xs a))
  received-waiting =
      all-at IsWaiting key (put (new_in rest) rest) (settled-waiting (nothing key) (nothing-settled key))
      (all-put IsWaiting (new_in rest) rest (λ e. behind-waiting (taken_on (exchange_at key rest) (count_of_peer rest) a) (exchange_at key rest) old-settled) (all-waiting rest rest-settled))

  pub received-others : AllByRecursion IsSettled (put (nothing key) (received xs a))
  received-others =
      let its : (new_in rest).key ≡ key = behind-key (taken_on (exchange_at key rest) (count_of_peer rest) a) (exchange_at key rest) ∙ exchange_at-key key rest in
      subst (λ (k : Key). AllByRecursion IsSettled (put (nothing k) (received xs a))) its (out-put IsSettled (new_in rest) rest rest-settled)

  pub received-opened : AllByRecursion IsOpened xs → AllByRecursion IsOpened (received xs a)
  received-opened opened =
      all-put IsOpened (new_in rest) rest (λ e. e) (all-put IsOpened (relieved a.header.acknowledged (exchange_at key xs)) xs (λ e. e) opened)

-- It is said of its own exchange.

on-by : (p q i c s k : Bool) (x : Exchange) (at : Key) (opcode : ℕ) (payload : List ℕ) (subscription : ℕ) → x.key ≡ at
    → IsOn at (if p then closed else if q then busy x.key else if not i then acknowledged else if c then (if not s then ended x.key x.subscription else if k then next x.key else confirmed x.key subscription) else ask x.key opcode payload x.deadline)
on-by true q i c s k x at opcode payload subscription its = tt
on-by false true i c s k x at opcode payload subscription its = its
on-by false false false c s k x at opcode payload subscription its = tt
on-by false false true true false k x at opcode payload subscription its = its
on-by false false true true true true x at opcode payload subscription its = its
on-by false false true true true false x at opcode payload subscription its = its
on-by false false true false s k x at opcode payload subscription its = its

pub on-its-exchange : TakenOnItsExchange
on-its-exchange open_ones a =
    let rest = relieved_ones a.header open_ones in
    let x = exchange_at (key_of a.header) rest in
    on-by (not (is_open x) && not (begins a.header)) (not (is_open x) && not (nat_lt (count_of_peer rest) EXCHANGES)) (is_interaction a.header) x.confirmation (is_success a.header.opcode a.payload) (is_any x.kept)
    x (key_of a.header) a.header.opcode a.payload (unwrap_or x.subscription 0) (exchange_at-key (key_of a.header) rest)

-- What is shown tells a run but for what is kept, where one exchange may wait for an answer.
pub record IsHeard (row : SessionRow) (key : Key) (r : Run) (items : List Shown) : Type 0 where
  pub open_ones : map bare r.open_ones ≡ (retold_so_far row items).open_ones
  pub next_id : r.next_id ≡ (retold_so_far row items).next_id
  pub messages : r.messages ≡ (retold_so_far row items).messages
  pub waiting : IsWaiting (exchange_at key r.open_ones)
  pub others : AllByRecursion IsSettled (put (nothing key) r.open_ones)
  pub opened : AllByRecursion IsOpened r.open_ones

pub heard_live : (row : SessionRow) (r : Run) (items : List Shown) (a : Arrival) → IsRetold row r items → IsHeard row (key_of a.header) (after_arrival true a r) (items ++ heard true a ∷ [])
heard_live row r items a is =
    let step = sym (so_far_behind row items (heard true a)) in
    record {
      open_ones = sym (received-bare a r.open_ones is.settled) ∙ ap (λ (xs : List Exchange). received xs a) is.open_ones ∙ ap (λ (q : Run). q.open_ones) step;
      next_id = is.next_id ∙ ap (λ (q : Run). q.next_id) step;
      messages = sealed_told row r items is ∙ ap (λ (q : Run). q.messages) step;
      waiting = received-waiting a r.open_ones is.settled;
      others = received-others a r.open_ones is.settled;
      opened = received-opened a r.open_ones is.settled is.opened;
    }
