-- Exchanges without the payloads that they keep, in a list.
use Rattle.std.proofs.Common.{◌≡◌, ℕ, ◌+◌, ◌==◌, ◌||◌, nat_lt, Bool, true, false, true≢false, not, cond, List, [], ◌∷◌, ◌++◌, map, is_some, if◌then◌else◌, refl, ap, sym, subst, ◌∙◌, append-nil, inl, inr, arith}
use Rattle.std.specs.List.{AllByRecursion}
use Rattle.std.proofs.lemmas.Bool.{cases_Bool}
use Rattle.std.proofs.lemmas.List.Sums.{sum_by-cons}
use Rattle.mt_exchange.specs.declared.exchange.Key.{Key}
use Rattle.mt_exchange.specs.declared.exchange.Exchange.{Exchange}
use Rattle.mt_exchange.specs.Opened.{count_of_peer, exchange_at, if_open, is_any, is_open, nothing, put, rank}
use Rattle.mt_exchange.specs.Retold.{IsOpened, IsSettled, bare, quiet, settled}

-- what is found by a key
pub bare-at : (key : Key) (xs : List Exchange) → exchange_at key (map bare xs) ≡ bare (exchange_at key xs)
bare-at key [] = refl
bare-at key (y ∷ ys) = elim (cases_Bool (nat_lt (rank y.key) (rank key))) [
  | inl low ↦ rw low (bare-at key ys)
  | inr high ↦ elim (cases_Bool (rank y.key == rank key)) [
    | inl same ↦ rw (high, same) refl
    | inr differs ↦ rw (high, differs) refl
  ]
]

if_open-by : (b c : Bool) (x : Exchange) → b ≡ c → (if b then bare x ∷ [] else []) ≡ map bare (if c then x ∷ [] else [])
if_open-by true true x e = refl
if_open-by true false x e = absurd (true≢false e)
if_open-by false true x e = absurd (true≢false (sym e))
if_open-by false false x e = refl

bare-if_open : (x : Exchange) → is_open (bare x) ≡ is_open x → if_open (bare x) ≡ map bare (if_open x)
bare-if_open x e = if_open-by (is_open (bare x)) (is_open x) x e

bare-append : (xs ys : List Exchange) → map bare (xs ++ ys) ≡ map bare xs ++ map bare ys
bare-append [] ys = refl
bare-append (x ∷ xs) ys = ap (λ (l : List Exchange). bare x ∷ l) (bare-append xs ys)

pub bare-joined : (x : Exchange) (ys : List Exchange) → is_open (bare x) ≡ is_open x → if_open (bare x) ++ map bare ys ≡ map bare (if_open x ++ ys)
bare-joined x ys e = ap (λ (l : List Exchange). l ++ map bare ys) (bare-if_open x e) ∙ sym (bare-append (if_open x) ys)

-- what is put among others
pub bare-put : (x : Exchange) (ys : List Exchange) → is_open (bare x) ≡ is_open x → put (bare x) (map bare ys) ≡ map bare (put x ys)
bare-put x [] e = bare-if_open x e
bare-put x (y ∷ ys) e = elim (cases_Bool (nat_lt (rank y.key) (rank x.key))) [
  | inl low ↦ rw low (ap (λ (l : List Exchange). bare y ∷ l) (bare-put x ys e))
  | inr high ↦ elim (cases_Bool (rank y.key == rank x.key)) [
    | inl same ↦ rw (high, same) (bare-joined x ys e)
    | inr differs ↦ rw (high, differs) (bare-joined x (y ∷ ys) e)
  ]
]

-- the peer's are as many
pub bare-count : (xs : List Exchange) → count_of_peer (map bare xs) ≡ count_of_peer xs
bare-count [] = refl
bare-count (x ∷ xs) =
    let f : Exchange → ℕ = λ (y : Exchange). cond (not y.key.ours) 1 0 in
    sum_by-cons f (bare x) (map bare xs) ∙ ap (λ (n : ℕ). f x + n) (bare-count xs) ∙ sym (sum_by-cons f x xs)

-- Whether an exchange is open hangs on no payload that it keeps while it awaits a confirmation.

open-by : (u k o c d : Bool) → (k ≡ true → c ≡ true) → (u || false || o || c || d) ≡ (u || k || o || c || d)
open-by u false o c d h = refl
open-by true true o c d h = refl
open-by false true true c d h = refl
open-by false true false true d h = refl
open-by false true false false d h = absurd (true≢false (sym (h refl)))

pub bare-open : (x : Exchange) → (is_any x.kept ≡ true → x.confirmation ≡ true) → is_open (bare x) ≡ is_open x
bare-open x h = open-by x.unanswered (is_any x.kept) (is_any x.owed) x.confirmation (is_some x.deadline) h

-- What holds of all.
module _ (P : Exchange → Type 0) where
  all-if_open : (x : Exchange) (ys : List Exchange) → (is_open x ≡ true → P x) → AllByRecursion P ys → AllByRecursion P (if_open x ++ ys)
  all-if_open x ys p all = elim (cases_Bool (is_open x)) [
    | inl e ↦ rw e (p e, all)
    | inr e ↦ rw e all
  ]

  pub all-put : (x : Exchange) (ys : List Exchange) → (is_open x ≡ true → P x) → AllByRecursion P ys → AllByRecursion P (put x ys)
  all-put x [] p all = subst (AllByRecursion P) (append-nil (if_open x)) (all-if_open x [] p tt)
  all-put x (y ∷ ys) p all = elim (cases_Bool (nat_lt (rank y.key) (rank x.key))) [
    | inl low ↦ rw low (all.0, all-put x ys p all.1)
    | inr high ↦ elim (cases_Bool (rank y.key == rank x.key)) [
      | inl same ↦ rw (high, same) (all-if_open x ys p all.1)
      | inr differs ↦ rw (high, differs) (all-if_open x (y ∷ ys) p all)
    ]
  ]

  pub all-at : (key : Key) (ys : List Exchange) → P (nothing key) → AllByRecursion P ys → P (exchange_at key ys)
  all-at key [] p all = p
  all-at key (y ∷ ys) p all = elim (cases_Bool (nat_lt (rank y.key) (rank key))) [
    | inl low ↦ rw low (all-at key ys p all.1)
    | inr high ↦ elim (cases_Bool (rank y.key == rank key)) [
      | inl same ↦ rw (high, same) all.0
      | inr differs ↦ rw (high, differs) p
    ]
  ]

  all-out : (key : Key) (ys : List Exchange) → AllByRecursion P ys → AllByRecursion P (put (nothing key) ys)
  all-out key ys all = all-put (nothing key) ys (λ e. absurd (true≢false (sym e))) all

  -- of all but the one that was put
  out-if_open : (x : Exchange) (ys : List Exchange) → AllByRecursion P ys → AllByRecursion P (put (nothing x.key) (if_open x ++ ys))
  out-if_open x ys all = elim (cases_Bool (is_open x)) [
    | inl e ↦ rw e (rw (not_below (rank x.key), its_own (rank x.key)) all)
    | inr e ↦ rw e (all-out x.key ys all)
  ]
    where
      not_below : (n : ℕ) → nat_lt n n ≡ false
      not_below n = grind arith

      its_own : (n : ℕ) → (n == n) ≡ true
      its_own n = grind arith

  pub out-put : (x : Exchange) (ys : List Exchange) → AllByRecursion P ys → AllByRecursion P (put (nothing x.key) (put x ys))
  out-put x [] all = subst (λ (l : List Exchange). AllByRecursion P (put (nothing x.key) l)) (append-nil (if_open x)) (out-if_open x [] tt)
  out-put x (y ∷ ys) all = elim (cases_Bool (nat_lt (rank y.key) (rank x.key))) [
    | inl low ↦ rw low (rw low (all.0, out-put x ys all.1))
    | inr high ↦ elim (cases_Bool (rank y.key == rank x.key)) [
      | inl same ↦ rw (high, same) (out-if_open x ys all.1)
      | inr differs ↦ rw (high, differs) (out-if_open x (y ∷ ys) all)
    ]
  ]

  -- and of that too
  pub all-over : (x : Exchange) (ys : List Exchange) → (is_open x ≡ true → P x) → AllByRecursion P (put (nothing x.key) ys) → AllByRecursion P (put x ys)
  all-over x [] p all = all-put x [] p tt
  all-over x (y ∷ ys) p all = elim (cases_Bool (nat_lt (rank y.key) (rank x.key))) [
    | inl low ↦ let rest = rw low at all in rw low (rest.0, all-over x ys p rest.1)
    | inr high ↦ elim (cases_Bool (rank y.key == rank x.key)) [
      | inl same ↦ rw (high, same) (all-if_open x ys p (rw (high, same) at all))
      | inr differs ↦ rw (high, differs) (all-if_open x (y ∷ ys) p (rw (high, differs) at all))
    ]
  ]

-- Exchanges on which nothing waits stay as they are once all that is unanswered is taken as answered.

quiet-same : (x : Exchange) → x.unanswered ≡ false → quiet (bare x) ≡ bare x
quiet-same x e = λ i. record (bare x) { unanswered = sym e i }

first-same : (x : Exchange) (ys : List Exchange) → IsSettled x → IsOpened x → if_open (quiet (bare x)) ++ ys ≡ bare x ∷ ys
first-same x ys is opened =
    ap (λ (y : Exchange). if_open y ++ ys) (quiet-same x is.answered)
    ∙ ap (λ (b : Bool). (if b then bare x ∷ [] else []) ++ ys) (bare-open x is.confirmed ∙ opened)

pub settled-same : (xs : List Exchange) → AllByRecursion IsSettled xs → AllByRecursion IsOpened xs → settled (map bare xs) ≡ map bare xs
settled-same [] all opened = refl
settled-same (x ∷ xs) all opened =
    first-same x (settled (map bare xs)) all.0 opened.0 ∙ ap (λ (l : List Exchange). bare x ∷ l) (settled-same xs all.1 opened.1)

-- Where nothing waits on any but one, that one is put as it is once it is taken as answered.

none-joined : (x : Exchange) (ys : List Exchange) → is_open (bare x) ≡ is_open x → bare x ≡ nothing x.key → map bare ys ≡ map bare (if_open x ++ ys)
none-joined x ys e none = ap (λ (y : Exchange). if_open y ++ map bare ys) (sym none) ∙ bare-joined x ys e

pub settled-put : (x : Exchange) (ys : List Exchange) → is_open (bare x) ≡ is_open x → AllByRecursion IsSettled (put (nothing x.key) ys) → AllByRecursion IsOpened ys
    → bare x ≡ quiet (bare (exchange_at x.key ys)) → settled (map bare ys) ≡ map bare (put x ys)
settled-put x [] e all opened is = none-joined x [] e is ∙ ap (map bare) (append-nil (if_open x))
settled-put x (y ∷ ys) e all opened is = elim (cases_Bool (nat_lt (rank y.key) (rank x.key))) [
  | inl low ↦
      let rest = rw low at all in
      let found = rw low at is in
      rw low (first-same y (settled (map bare ys)) rest.0 opened.0 ∙ ap (λ (l : List Exchange). bare y ∷ l) (settled-put x ys e rest.1 opened.1 found))
  | inr high ↦ elim (cases_Bool (rank y.key == rank x.key)) [
    | inl same ↦
        let rest = rw (high, same) at all in
        let found = rw (high, same) at is in
        rw (high, same) (
        ap (λ (l : List Exchange). if_open (quiet (bare y)) ++ l) (settled-same ys rest opened.1)
        ∙ ap (λ (z : Exchange). if_open z ++ map bare ys) (sym found)
        ∙ bare-joined x ys e
        )
    | inr differs ↦
        let rest = rw (high, differs) at all in
        let found = rw (high, differs) at is in
        rw (high, differs) (settled-same (y ∷ ys) rest opened ∙ none-joined x (y ∷ ys) e found)
  ]
]
