-- Results, and the seats of a worker, as they are made and moved on.
use Rattle.std.proofs.Common.{◌≡◌, ◌∙◌, refl, sym, ap, subst, ℕ, zero, suc, ◌+◌, ◌<◌, arith, get_or, length, map, take, true, true≢false, List, [], ◌∷◌, ◌++◌, Option, Some, None, Result, Ok, Err, OnOk, filter}
use Rattle.std.specs.Prelude.{is_some}
use Rattle.std.proofs.lemmas.List.{take_more}
use Rattle.mt_exchange.specs.declared.lists.EndTime.{EndTime}
use Rattle.mt_model.specs.declared.texts.config.SessionRow.{SessionRow}
use Rattle.mt_worker.specs.Accounts.{Accounts, begun_account, stands_unless, still_standing}
use Rattle.mt_worker.specs.Due.{HaveBegun, id_of}
use Rattle.mt_worker.specs.Seats.{AreSeats, IsSeatOf}
use Rattle.mt_worker.specs.declared.seat.Seat.{Seat}
use Rattle.mt_worker.specs.declared.seat.Subscription.{Subscription}

pub ok_is : {T E : Type 0} (result : Result T E) (P Q : Type 0) → (P → Q) → OnOk result P → OnOk result Q
ok_is (Ok x) P Q follows p = follows p
ok_is (Err e) P Q follows p = tt

pub standing_some : (fabric : Option ℕ) (at : List EndTime) (ms : ℕ) (subscriptions : List Subscription) → is_some fabric ≡ true → filter (stands_unless at ms) subscriptions ≡ still_standing fabric at ms subscriptions
standing_some None at ms subscriptions is = absurd (true≢false (sym is))
standing_some (Some fabric) at ms subscriptions is = refl

pub seats_push : (seats : List Seat) (ids : List ℕ) (accounts : Accounts) (seat : Seat) (id : ℕ) → AreSeats seats ids accounts → (accounts id).row.session ≡ id → IsSeatOf seat (accounts id) → AreSeats (seats ++ seat ∷ []) (ids ++ id ∷ []) accounts
seats_push [] [] accounts seat id are its stands = (its, stands, tt)
seats_push [] (other ∷ ids) accounts seat id are its stands = absurd are
seats_push (other ∷ seats) [] accounts seat id are its stands = absurd are
seats_push (first ∷ seats) (other ∷ ids) accounts seat id are its stands = (are.0, are.1, seats_push seats ids accounts seat id are.2 its stands)

-- THE ROWS, as one more of them has its seat.

pub ids_more : (rows : List SessionRow) (at : ℕ) (row : SessionRow) → at < length rows → row ≡ get_or rows at row → map id_of (take (at + 1) rows) ≡ map id_of (take at rows) ++ row.session ∷ []
ids_more rows at row less is =
    ap (map id_of) (take_more rows at row less) ∙ ids_both (take at rows) (get_or rows at row ∷ []) ∙ ap (λ (r : SessionRow). map id_of (take at rows) ++ r.session ∷ []) (sym is)
  where
    ids_both : (xs ys : List SessionRow) → map id_of (xs ++ ys) ≡ map id_of xs ++ map id_of ys
    ids_both [] ys = refl
    ids_both (x ∷ xs) ys = ap (λ (ids : List ℕ). x.session ∷ ids) (ids_both xs ys)

none_below : (n : ℕ) → n < 0 → ⊥
none_below n less = omega (arith, less)

pub begun_at : (rows : List SessionRow) (accounts : Accounts) (at : ℕ) (row : SessionRow) → at < length rows → row ≡ get_or rows at row → HaveBegun rows accounts → accounts row.session ≡ begun_account row
begun_at [] accounts at row less is begun = absurd (none_below at less)
begun_at (first ∷ rows) accounts zero row less is begun = subst (λ (r : SessionRow). accounts r.session ≡ begun_account r) (sym is) begun.0
begun_at (first ∷ rows) accounts (suc at) row less is begun = begun_at rows accounts at row (omega (arith, less)) is begun.1
