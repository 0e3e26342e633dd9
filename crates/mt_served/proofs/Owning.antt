-- How many sessions the workers have: together no more than there are.
use Rattle.std.proofs.Common.{◌≡◌, ◌∙◌, refl, ap, ⊎_elim, ℕ, ◌+◌, ◌<◌, ◌≤◌, ◌==◌, ◌&&◌, Bool, true, false, cond, List, [], ◌∷◌, filter, length, map, arith}
use Rattle.std.specs.Prelude.{All, Contains, nat_lt}
use Rattle.std.proofs.lemmas.Bool.{and_from, and_parts, lt-ltb, ltb-true}
use Rattle.std.proofs.lemmas.List.Elements.{All-head, All-tail, Contains-append_cases, Contains-push_cases}
use Rattle.mt_model.specs.declared.texts.config.SessionRow.{SessionRow}
use Rattle.mt_rounds.specs.mt_owners.Rows.{AreRowsOf, is_above, is_own}
use Rattle.mt_rounds.specs.mt_receiver.Rounds.{owner_of}
use Rattle.mt_rounds.specs.mt_worker.Due.{AreRising, IsServed, id_of}
use Rattle.mt_rounds.specs.mt_worker.Gots.{Each}
use Rattle.mt_served.proofs.Sums.{count_more, counts_most, once_most, one_if, one_most, only_at, sum_below, sums_add, sums_most, sums_none}

none_there : {A : Type 0} (y : A) → Contains [] y → ⊥
none_there y among = let less = among.1 in omega (arith, less)

-- the first of a list, or one of the rest
data Stands {A : Type 0} (x : A) (xs : List A) (y : A) : Type 0 where
  Here : x ≡ y → Stands x xs y
  There : Contains xs y → Stands x xs y

stands : {A : Type 0} (x : A) (xs : List A) (y : A) → Contains (x ∷ xs) y → Stands x xs y
stands x xs y among = ⊎_elim
    (λ (one : Contains (x ∷ []) y). ⊎_elim (λ (none : Contains [] y). absurd (none_there y none)) (λ (same : x ≡ y). Here same) (Contains-push_cases [] x y one))
    (λ (later : Contains xs y). There later)
    (Contains-append_cases (x ∷ []) xs y among)

-- WHAT PASSES ONE TEST passes another, and one item passes that alone.
module _ {A : Type 0} (p q : A → Bool) (implies : (x : A) → p x ≡ true → q x ≡ true) where
  one_more : (y : A) (xs : List A) → Contains xs y → p y ≡ false → q y ≡ true → length (filter p xs) + 1 ≤ length (filter q xs)
  one_more y [] among fails passes = absurd (none_there y among)
  one_more y (x ∷ xs) among fails passes = by (λ later. one_more y xs later fails passes) (stands x xs y among)
    where
      here : x ≡ y → length (filter p (x ∷ xs)) + 1 ≤ length (filter q (x ∷ xs))
      here same =
          let not_it : one_if (p x) ≡ 0 = ap (λ (z : A). one_if (p z)) same ∙ ap one_if fails in
          let it : one_if (q x) ≡ 1 = ap (λ (z : A). one_if (q z)) same ∙ ap one_if passes in
          let rest = counts_most p q implies xs in
          omega (arith, not_it, it, rest, count_more p x xs, count_more q x xs)

      by : (Contains xs y → length (filter p xs) + 1 ≤ length (filter q xs)) → Stands x xs y → length (filter p (x ∷ xs)) + 1 ≤ length (filter q (x ∷ xs))
      by further (Here same) = here same
      by further (There later) =
          let rest = further later in
          let most = one_most (p x) (q x) (implies x) in
          omega (arith, rest, most, count_more p x xs, count_more q x xs)

-- ONE WORKER'S.
module _ (boot workers worker : ℕ) (sessions : List SessionRow) where
  lower : (id higher : ℕ) → id ≤ higher → (row : SessionRow) → is_above boot workers worker higher row ≡ true → is_above boot workers worker id row ≡ true
  lower id higher less row above =
      let both = and_parts (is_own boot workers worker row) (nat_lt higher row.session) above in
      let more = ltb-true higher row.session both.1 in
      and_from (is_own boot workers worker row) (nat_lt id row.session) both.0 (lt-ltb id row.session (omega (arith, less, more)))

  not_itself : (row : SessionRow) → is_above boot workers worker row.session row ≡ false
  not_itself row = by (nat_lt row.session row.session) refl
    where
      by : (b : Bool) → nat_lt row.session row.session ≡ b → (is_own boot workers worker row && b) ≡ false
      by true less = let more = ltb-true row.session row.session less in absurd (omega (arith, more))
      by false less = both (is_own boot workers worker row)
        where
          both : (c : Bool) → (c && false) ≡ false
          both true = refl
          both false = refl

  few_above : (id : ℕ) (rows : List SessionRow) → Each (λ (later : ℕ). id < later) (map id_of rows) → AreRising (map id_of rows) → All (λ row. Contains sessions row) rows
      → All (λ row. is_own boot workers worker row ≡ true) rows → length rows ≤ length (filter (is_above boot workers worker id) sessions)
  few_above id [] above rising among own = omega arith
  few_above id (row ∷ rows) above rising among own =
      let Own = λ (other : SessionRow). is_own boot workers worker other ≡ true in
      let Among = λ (other : SessionRow). Contains sessions other in
      let less : id < row.session = above.0 in
      let rest = few_above row.session rows rising.0 rising.1 (All-tail Among row rows among) (All-tail Own row rows own) in
      let it = and_from (is_own boot workers worker row) (nat_lt id row.session) (All-head Own row rows own) (lt-ltb id row.session less) in
      let more = one_more (is_above boot workers worker row.session) (is_above boot workers worker id) (lower id row.session (omega (arith, less))) row sessions (All-head Among row rows among) (not_itself row) it in
      omega (arith, rest, more)

  some_ids : (rows : List SessionRow) → All IsServed rows → Each (λ (later : ℕ). 0 < later) (map id_of rows)
  some_ids [] served = tt
  some_ids (row ∷ rows) served =
      let some = (All-head IsServed row rows served).session in
      (omega (arith, some), some_ids rows (All-tail IsServed row rows served))

  pub few_rows : (rows : List SessionRow) → AreRowsOf boot workers worker sessions rows → length rows ≤ length (filter (is_own boot workers worker) sessions)
  few_rows rows are =
      let above = few_above 0 rows (some_ids rows are.served) are.rising are.among are.own in
      let all = counts_most (is_above boot workers worker 0) (is_own boot workers worker) (λ row is. (and_parts (is_own boot workers worker row) (nat_lt 0 row.session) is).0) sessions in
      omega (arith, above, all)

-- ALL WORKERS'.

pub all_rows : (boot workers : ℕ) (sessions : List SessionRow) → sum_below workers (λ worker. length (filter (is_own boot workers worker) sessions)) ≤ length sessions
all_rows boot workers [] = let none = sums_none workers in omega (arith, none)
all_rows boot workers (row ∷ sessions) =
    let owner = owner_of workers row.session in
    let Later = λ (worker : ℕ). length (filter (is_own boot workers worker) sessions) in
    let each = sums_most workers (λ worker. length (filter (is_own boot workers worker) (row ∷ sessions))) (λ worker. only_at 1 owner worker + Later worker) (λ worker less. parts worker) in
    let both = sums_add workers (only_at 1 owner) Later in
    let once = once_most workers 1 owner in
    let rest = all_rows boot workers sessions in
    omega (arith, each, both, once, rest)
  where
    by : (b c : Bool) → cond (b && c) 1 0 ≤ cond c 1 0
    by true c = omega arith
    by false true = omega arith
    by false false = omega arith

    parts : (worker : ℕ) → length (filter (is_own boot workers worker) (row ∷ sessions)) ≤ only_at 1 (owner_of workers row.session) worker + length (filter (is_own boot workers worker) sessions)
    parts worker =
        let first = by (row.boot == boot) (owner_of workers row.session == worker) in
        omega (arith, first, count_more (is_own boot workers worker) row sessions)
