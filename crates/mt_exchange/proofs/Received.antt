-- A message that is taken, step by step.
use Rattle.std.proofs.Common.{◌≡◌, ℕ, ◌<◌, true, true≢false, List, length, Option, Some, None, get_or, if◌then◌else◌, refl, ap, sym, ◌∙◌, inl, inr}
use Rattle.std.specs.Prelude.{slice_set}
use Rattle.std.specs.List.{remove}
use Rattle.std.proofs.lemmas.Bool.{cases_Bool, cond-false, cond-true}
use Rattle.std.proofs.lemmas.List.{get_or_read}
use Rattle.mt_session.specs.Opening.{Arrival}
use Rattle.mt_exchange.specs.declared.exchange.Key.{Key}
use Rattle.mt_exchange.specs.declared.exchange.Exchange.{Exchange}
use Rattle.mt_exchange.specs.Opened.{count_of_peer, exchange_at, is_open, nothing, put, rank}
use Rattle.mt_exchange.specs.Places.{IsAt, IsBefore, IsRising, changed_at}
use Rattle.mt_exchange.specs.Receiving.{Taken, behind, key_of, received, relieved, relieved_ones, taken, taken_on}
use Rattle.mt_exchange.proofs.Keys.{behind-key, exchange_at-key}
use Rattle.mt_exchange.proofs.Settling.{at-put, put-twice, remove-set, set-twice}

-- on an open exchange it does not count how many the peer has
uncounted : (x : Exchange) (m n : ℕ) (a : Arrival) → is_open x ≡ true → taken_on x m a ≡ taken_on x n a
uncounted x m n a e = rw e refl

-- nothing is owed where there is nothing
relieved-nothing : (counter : Option ℕ) (key : Key) → relieved counter (nothing key) ≡ nothing key
relieved-nothing None key = refl
relieved-nothing (Some counter) key = refl

-- where its exchange stands at a place
module _ (old : List Exchange) (a : Arrival) (p : ℕ) (x0 x1 x2 : Exchange) (count : ℕ) (turn : Taken) (rising : IsRising old)
    (is : IsAt (key_of a.header) old p) (given : x0 ≡ get_or old p x0) (is_x1 : x1 ≡ relieved a.header.acknowledged x0)
    (is_x2 : x2 ≡ (if is_open x1 then x1 else nothing x1.key)) (counted : count ≡ count_of_peer (remove old p)) (is_turn : turn ≡ taken_on x2 count a) where
  abbrev key : Key
  key = key_of a.header

  abbrev rest : List Exchange
  rest = relieved_ones a.header old

  x0-is : x0 ≡ exchange_at key old
  x0-is = given ∙ sym (is.found x0)

  key_x1 : x1.key ≡ key
  key_x1 = ap (λ (x : Exchange). x.key) is_x1 ∙ ap (λ (x : Exchange). x.key) x0-is ∙ exchange_at-key key old

  rest-is : put x1 old ≡ rest
  rest-is = ap (λ (x : Exchange). put x old) (is_x1 ∙ ap (relieved a.header.acknowledged) x0-is)

  x2-is : x2 ≡ exchange_at key rest
  x2-is = is_x2 ∙ sym (at-put x1 old rising) ∙ (λ i. exchange_at (key_x1 i) (rest-is i))

  counts : taken_on x2 count a ≡ taken_on x2 (count_of_peer rest) a
  counts = elim (cases_Bool (is_open x1)) [
    | inl e ↦ uncounted x2 count (count_of_peer rest) a (ap is_open (is_x2 ∙ cond-true _ _ _ e) ∙ e)
    | inr e ↦ ap (λ (n : ℕ). taken_on x2 n a) (counted ∙ ap count_of_peer (is.removed x1 key_x1 e ∙ rest-is))
  ]

  pub turn-at : turn ≡ taken old a
  turn-at = is_turn ∙ counts ∙ ap (λ (x : Exchange). taken_on x (count_of_peer rest) a) x2-is

  changed-is : (y : Exchange) → y.key ≡ key → changed_at p y old ≡ put y old
  changed-is y same = elim (cases_Bool (is_open y)) [
    | inl e ↦ cond-true _ _ _ e ∙ is.changed y same e
    | inr e ↦ cond-false _ _ _ e ∙ is.removed y same e
  ]

  pub table-at : (new : List Exchange) (y n : Exchange) → y ≡ behind turn x2 → new ≡ changed_at p y (slice_set old p n) → new ≡ received old a
  table-at new y n is_y is_new =
      let key_y : y.key ≡ key =
      ap (λ (x : Exchange). x.key) is_y ∙ behind-key turn x2 ∙ ap (λ (x : Exchange). x.key) x2-is ∙ exchange_at-key key rest in
      is_new
      ∙ (λ i. if is_open y then set-twice old p n y i else remove-set old p n i)
      ∙ changed-is y key_y
      ∙ sym (put-twice x1 y (ap rank (key_x1 ∙ sym key_y)) old rising)
      ∙ (λ i. put ((is_y ∙ (λ j. behind (turn-at j) (x2-is j))) i) (rest-is i))

-- where it stands nowhere
module _ (old : List Exchange) (a : Arrival) (p : ℕ) (x : Exchange) (count : ℕ) (turn : Taken) (is : IsBefore (key_of a.header) old p)
    (is_x : x ≡ nothing (key_of a.header)) (counted : count ≡ count_of_peer old) (is_turn : turn ≡ taken_on x count a) where
  abbrev its_key : Key
  its_key = key_of a.header

  others-are : old ≡ relieved_ones a.header old
  others-are =
      is.left (nothing its_key) refl refl
      ∙ ap (λ (y : Exchange). put y old) (sym (relieved-nothing a.header.acknowledged its_key) ∙ ap (relieved a.header.acknowledged) (sym is.found))

  x-is : x ≡ exchange_at its_key (relieved_ones a.header old)
  x-is = is_x ∙ sym is.found ∙ ap (exchange_at its_key) others-are

  pub turn-anew : turn ≡ taken old a
  turn-anew = is_turn ∙ (λ i. taken_on (x-is i) ((counted ∙ ap count_of_peer others-are) i) a)

  pub table-anew : (new : List Exchange) (y : Exchange) → y ≡ behind turn x → new ≡ put y old → new ≡ received old a
  table-anew new y is_y is_new = is_new ∙ (λ i. put ((is_y ∙ (λ j. behind (turn-anew j) (x-is j))) i) (others-are i))

-- what awaits a confirmation once it is relieved awaited it before
pub awaited-before : (x0 x1 x2 : Exchange) (counter : Option ℕ) → x1 ≡ relieved counter x0 → x2 ≡ (if is_open x1 then x1 else nothing x1.key)
    → x2.confirmation ≡ true → x0.confirmation ≡ true
awaited-before x0 x1 x2 counter is_x1 is_x2 awaited = elim (cases_Bool (is_open x1)) [
  | inl e ↦ sym (ap (λ (x : Exchange). x.confirmation) (is_x2 ∙ cond-true _ _ _ e ∙ is_x1)) ∙ awaited
  | inr e ↦ absurd (true≢false (sym awaited ∙ ap (λ (x : Exchange). x.confirmation) (is_x2 ∙ cond-false _ _ _ e)))
]

-- the exchange that is lent at a place is the one that is taken out of it
pub one-at : (xs : List Exchange) (p : ℕ) (x y : Exchange) → p < length xs → x ≡ get_or xs p x → y ≡ get_or xs p y → x ≡ y
one-at xs p x y lt is_x is_y = is_x ∙ sym (get_or_read xs p y lt is_y x)
