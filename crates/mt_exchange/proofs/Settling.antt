-- Exchanges by rising key: two puts under one key are one, and those of a run stand so.
use Rattle.std.proofs.Common.{◌≡◌, ℕ, zero, suc, ◌+◌, ◌<◌, ◌≤◌, ◌==◌, nat_lt, true, false, not, cond, List, [], ◌∷◌, ◌++◌, length, get_or, Option, Some, None, Ok, Err, if◌then◌else◌, refl, ap, sym, subst, ◌∙◌, append-nil, inl, inr, arith}
use Rattle.std.specs.Prelude.{fold, slice_set}
use Rattle.std.specs.List.{remove}
use Rattle.std.proofs.lemmas.Bool.{cases_Bool, cond-false, cond-true, eqb-true, le-ltb, ne_eqb}
use Rattle.std.proofs.lemmas.List.Sums.{sum_by-cons}
use Rattle.mt_model.specs.declared.texts.config.SessionRow.{SessionRow}
use Rattle.mt_model.specs.declared.messages.message.Payload.{Payload}
use Rattle.mt_exchange.specs.declared.exchange.Key.{Key}
use Rattle.mt_exchange.specs.declared.exchange.Exchange.{Exchange}
use Rattle.mt_exchange.specs.Opened.{count_of_peer, exchange_at, if_open, is_open, nothing, put, rank}
use Rattle.mt_exchange.specs.Places.{AreAbove, IsRising}
use Rattle.mt_exchange.specs.Receiving.{behind, key_of, relieved, relieved_ones, taken}
use Rattle.mt_exchange.specs.Resending.{closes, resent}
use Rattle.mt_exchange.specs.Runs.{Happening, Run, after, answer_of, answer_sending, answered, arrived, begun, begun_with, dropped, fresh_exchange, report_of, reported, resend_step, run}
use Rattle.mt_exchange.specs.Sending.{behind_sending, free_id, reliably}
use Rattle.mt_session.specs.Sessions.{next_counter}
use Rattle.mt_exchange.proofs.Answered.{Answer}
use Rattle.mt_exchange.proofs.Bare.{all-put}

not_below : (n : ℕ) → nat_lt n n ≡ false
not_below n = grind arith

its_own : (n : ℕ) → (n == n) ≡ true
its_own n = grind arith

below : (m n : ℕ) → nat_lt m n ≡ true → m < n
below m n e = grind arith

beyond : (m n : ℕ) → nat_lt m n ≡ false → (m == n) ≡ false → n < m
beyond m n high differs = grind arith

lower : (m n : ℕ) (xs : List Exchange) → m ≤ n → AreAbove n xs → AreAbove m xs
lower m n [] le all = tt
lower m n (x ∷ xs) le all = let first : n < rank x.key = all.0 in (omega (arith, le, first), lower m n xs le all.1)

-- what is found and put among those that are all above

above-at : (key : Key) (xs : List Exchange) → AreAbove (rank key) xs → exchange_at key xs ≡ nothing key
above-at key [] all = refl
above-at key (z ∷ zs) all =
    let over : rank key < rank z.key = all.0 in
    cond-false _ _ _ (le-ltb (rank z.key) (rank key) (omega (arith, over)))
    ∙ cond-false _ _ _ (ne_eqb (rank z.key) (rank key) (λ e. absurd (omega (arith, e, over))))

above-put : (x : Exchange) (xs : List Exchange) → AreAbove (rank x.key) xs → put x xs ≡ if_open x ++ xs
above-put x [] all = sym (append-nil (if_open x))
above-put x (z ∷ zs) all =
    let over : rank x.key < rank z.key = all.0 in
    cond-false _ _ _ (le-ltb (rank z.key) (rank x.key) (omega (arith, over)))
    ∙ cond-false _ _ _ (ne_eqb (rank z.key) (rank x.key) (λ e. absurd (omega (arith, e, over))))

-- where others are put behind one, all that are above that one are above it too
module _ (x y : Exchange) (ys : List Exchange) (rising : IsRising (y ∷ ys)) (high : nat_lt (rank y.key) (rank x.key) ≡ false) where
  above-same : (rank y.key == rank x.key) ≡ true → AreAbove (rank x.key) ys
  above-same same = lower (rank x.key) (rank y.key) ys (omega (arith, eqb-true (rank y.key) (rank x.key) same)) rising.0

  above-other : (rank y.key == rank x.key) ≡ false → AreAbove (rank x.key) (y ∷ ys)
  above-other differs =
      let over : rank x.key < rank y.key = beyond (rank y.key) (rank x.key) high differs in
      (over, lower (rank x.key) (rank y.key) ys (omega (arith, over)) rising.0)

-- What is found once something was put.

joined-at : (x : Exchange) (xs : List Exchange) → AreAbove (rank x.key) xs → exchange_at x.key (if_open x ++ xs) ≡ (if is_open x then x else nothing x.key)
joined-at x xs all = elim (cases_Bool (is_open x)) [
  | inl e ↦ rw e (rw (not_below (rank x.key), its_own (rank x.key)) refl)
  | inr e ↦ rw e (above-at x.key xs all)
]

pub at-put : (x : Exchange) (xs : List Exchange) → IsRising xs → exchange_at x.key (put x xs) ≡ (if is_open x then x else nothing x.key)
at-put x [] rising = ap (exchange_at x.key) (sym (append-nil (if_open x))) ∙ joined-at x [] tt
at-put x (y ∷ ys) rising = elim (cases_Bool (nat_lt (rank y.key) (rank x.key))) [
  | inl low ↦ rw low (rw low (at-put x ys rising.1))
  | inr high ↦ elim (cases_Bool (rank y.key == rank x.key)) [
    | inl same ↦ rw (high, same) (joined-at x ys (above-same x y ys rising high same))
    | inr differs ↦ rw (high, differs) (joined-at x (y ∷ ys) (above-other x y ys rising high differs))
  ]
]

-- Two puts under one key are one.

module _ (x z : Exchange) (one : rank x.key ≡ rank z.key) where
  joined-put : (xs : List Exchange) → AreAbove (rank x.key) xs → put z (if_open x ++ xs) ≡ if_open z ++ xs
  joined-put xs all = elim (cases_Bool (is_open x)) [
    | inl e ↦
        rw e (cond-false _ _ _ (le-ltb (rank x.key) (rank z.key) (omega (arith, one)))
        ∙ cond-true _ _ _ (ap (λ (n : ℕ). n == rank z.key) one ∙ its_own (rank z.key)))
    | inr e ↦ rw e (above-put z xs (lower (rank z.key) (rank x.key) xs (omega (arith, one)) all))
  ]

  pub put-twice : (xs : List Exchange) → IsRising xs → put z (put x xs) ≡ put z xs
  put-twice [] rising = ap (put z) (sym (append-nil (if_open x))) ∙ joined-put [] tt ∙ append-nil (if_open z)
  put-twice (y ∷ ys) rising =
      let low-z : nat_lt (rank y.key) (rank x.key) ≡ nat_lt (rank y.key) (rank z.key) = ap (nat_lt (rank y.key)) one in
      let same-z : (rank y.key == rank x.key) ≡ (rank y.key == rank z.key) = ap (λ (n : ℕ). rank y.key == n) one in
      elim (cases_Bool (nat_lt (rank y.key) (rank x.key))) [
        | inl low ↦
            let on : nat_lt (rank y.key) (rank z.key) ≡ true = sym low-z ∙ low in
            ap (put z) (cond-true _ _ _ low) ∙ cond-true _ _ _ on ∙ ap (λ (l : List Exchange). y ∷ l) (put-twice ys rising.1) ∙ sym (cond-true _ _ _ on)
        | inr high ↦
            let off : nat_lt (rank y.key) (rank z.key) ≡ false = sym low-z ∙ high in
            elim (cases_Bool (rank y.key == rank x.key)) [
              | inl same ↦
                  ap (put z) (cond-false _ _ _ high ∙ cond-true _ _ _ same) ∙ joined-put ys (above-same x y ys rising high same)
                  ∙ sym (cond-false _ _ _ off ∙ cond-true _ _ _ (sym same-z ∙ same))
              | inr differs ↦
                  ap (put z) (cond-false _ _ _ high ∙ cond-false _ _ _ differs) ∙ joined-put (y ∷ ys) (above-other x y ys rising high differs)
                  ∙ sym (cond-false _ _ _ off ∙ cond-false _ _ _ (sym same-z ∙ differs))
            ]
      ]

-- What is put among rising ones leaves them rising.

rising-joined : (x : Exchange) (xs : List Exchange) → AreAbove (rank x.key) xs → IsRising xs → IsRising (if_open x ++ xs)
rising-joined x xs all rising = elim (cases_Bool (is_open x)) [
  | inl e ↦ rw e (all, rising)
  | inr e ↦ rw e rising
]

pub rising-put : (x : Exchange) (xs : List Exchange) → IsRising xs → IsRising (put x xs)
rising-put x [] rising = subst IsRising (append-nil (if_open x)) (rising-joined x [] tt tt)
rising-put x (y ∷ ys) rising = elim (cases_Bool (nat_lt (rank y.key) (rank x.key))) [
  | inl low ↦
      rw low (
        all-put (λ (z : Exchange). rank y.key < rank z.key) x ys (λ _. below (rank y.key) (rank x.key) low) rising.0,
        rising-put x ys rising.1,
      )
  | inr high ↦ elim (cases_Bool (rank y.key == rank x.key)) [
    | inl same ↦ rw (high, same) (rising-joined x ys (above-same x y ys rising high same) rising.1)
    | inr differs ↦ rw (high, differs) (rising-joined x (y ∷ ys) (above-other x y ys rising high differs) rising)
  ]
]

-- So does a resend step.

above-resent : (now n : ℕ) (xs : List Exchange) → AreAbove n xs → AreAbove n (resent now xs)
above-resent now n [] all = tt
above-resent now n (x ∷ xs) all = elim (cases_Bool (closes now x)) [
  | inl e ↦ rw e (above-resent now n xs all.1)
  | inr e ↦ rw e (all.0, above-resent now n xs all.1)
]

rising-resent : (now : ℕ) (xs : List Exchange) → IsRising xs → IsRising (resent now xs)
rising-resent now [] rising = tt
rising-resent now (x ∷ xs) rising = elim (cases_Bool (closes now x)) [
  | inl e ↦ rw e (rising-resent now xs rising.1)
  | inr e ↦ rw e (above-resent now (rank x.key) xs rising.0, rising-resent now xs rising.1)
]

-- So those of a run are rising.

rising-begun : (row : SessionRow) (subscription : ℕ) (id : Option ℕ) (payloads : List Payload) (now : ℕ) (answer : Answer) (r : Run)
    → IsRising r.open_ones → IsRising (begun_with row subscription id payloads now answer r).open_ones
rising-begun row subscription (Some id) (p ∷ rest) now (Ok bytes) r rising =
    rising-put (behind_sending (reliably p rest) (next_counter row r.messages) now (Ok bytes) (fresh_exchange id subscription)) r.open_ones rising
rising-begun row subscription (Some id) (p ∷ rest) now (Err fault) r rising = rising
rising-begun row subscription (Some id) [] now answer r rising = rising
rising-begun row subscription None payloads now answer r rising = rising

rising-after : (row : SessionRow) (r : Run) (h : Happening) → IsRising r.open_ones → IsRising (after row r h).open_ones
rising-after row r (arrived true a) rising =
    rising-put (behind (taken r.open_ones a) (exchange_at (key_of a.header) (relieved_ones a.header r.open_ones))) (relieved_ones a.header r.open_ones)
    (rising-put (relieved a.header.acknowledged (exchange_at (key_of a.header) r.open_ones)) r.open_ones rising)
rising-after row r (arrived false a) rising = rising
rising-after row r (answered key acknowledge payloads now) rising =
    rising-put (behind_sending (answer_sending r key acknowledge payloads) (next_counter row r.messages) now (answer_of row r key acknowledge payloads) (exchange_at key r.open_ones))
    r.open_ones rising
rising-after row r (reported subscription payloads now) rising =
    rising-begun row subscription (free_id r.next_id r.open_ones) payloads now (report_of row r payloads) r rising
rising-after row r (resend_step now) rising = rising-resent now r.open_ones rising
rising-after row r dropped rising = tt

rising-from : (row : SessionRow) (r : Run) (happenings : List Happening) → IsRising r.open_ones → IsRising (fold (after row) r happenings).open_ones
rising-from row r [] rising = rising
rising-from row r (h ∷ happenings) rising = rising-from row (after row r h) happenings (rising-after row r h rising)

pub rising-run : (row : SessionRow) (happenings : List Happening) → IsRising (run row happenings).open_ones
rising-run row happenings = rising-from row begun happenings tt

-- What is at a place, changed twice.

pub set-twice : (xs : List Exchange) (p : ℕ) (x y : Exchange) → slice_set (slice_set xs p x) p y ≡ slice_set xs p y
set-twice [] p x y = refl
set-twice (z ∷ xs) zero x y = refl
set-twice (z ∷ xs) (suc p) x y = ap (λ (l : List Exchange). z ∷ l) (set-twice xs p x y)

pub remove-set : (xs : List Exchange) (p : ℕ) (x : Exchange) → remove (slice_set xs p x) p ≡ remove xs p
remove-set [] p x = refl
remove-set (z ∷ xs) zero x = refl
remove-set (z ∷ xs) (suc p) x = ap (λ (l : List Exchange). z ∷ l) (remove-set xs p x)

-- how many the peer began without the one at a place
pub count-removed : (xs : List Exchange) (p : ℕ) (d : Exchange) → p < length xs
    → count_of_peer xs ≡ count_of_peer (remove xs p) + cond (not (get_or xs p d).key.ours) 1 0
count-removed [] p d lt = absurd (omega arith)
count-removed (x ∷ xs) zero d lt =
    let f : Exchange → ℕ = λ (y : Exchange). cond (not y.key.ours) 1 0 in
    let whole : count_of_peer (x ∷ xs) ≡ f x + count_of_peer xs = sum_by-cons f x xs in
    omega (arith, whole)
count-removed (x ∷ xs) (suc p) d lt =
    let f : Exchange → ℕ = λ (y : Exchange). cond (not y.key.ours) 1 0 in
    let whole : count_of_peer (x ∷ xs) ≡ f x + count_of_peer xs = sum_by-cons f x xs in
    let left : count_of_peer (x ∷ remove xs p) ≡ f x + count_of_peer (remove xs p) = sum_by-cons f x (remove xs p) in
    let rest : count_of_peer xs ≡ count_of_peer (remove xs p) + cond (not (get_or xs p d).key.ours) 1 0 = count-removed xs p d (omega arith) in
    omega (arith, whole, left, rest)
