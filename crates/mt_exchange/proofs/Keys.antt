-- An exchange that is found has the key that was looked for.
use Rattle.std.proofs.Common.{◌≡◌, ℕ, ◌+◌, ◌*◌, ◌==◌, Bool, true, false, cond, nat_lt, List, [], ◌∷◌, refl, arith}
use Rattle.mt_exchange.specs.declared.exchange.Key.{Key}
use Rattle.mt_exchange.specs.declared.exchange.Exchange.{Exchange}
use Rattle.mt_exchange.specs.Opened.{exchange_at, nothing, rank}
use Rattle.mt_exchange.specs.Receiving.{Taken, ask, next, confirmed, ended, acknowledged, busy, closed, behind}
use Rattle.std.proofs.lemmas.Bool.{eqb-true}

same_parts : (a b : ℕ) (o p : Bool) → 2 * a + cond o 1 0 ≡ 2 * b + cond p 1 0 → (a ≡ b) × (o ≡ p)
same_parts a b true true e = (omega arith, refl)
same_parts a b true false e = absurd (omega arith)
same_parts a b false true e = absurd (omega arith)
same_parts a b false false e = (omega arith, refl)

pub one_key : (a b : Key) → rank a ≡ rank b → a ≡ b
one_key a b e = let parts = same_parts a.exchange b.exchange a.ours b.ours e in λ i. record { exchange = parts.0 i; ours = parts.1 i }

found_by : (key : Key) (low same : Bool) (rest y : Exchange) → rest.key ≡ key → (same ≡ true → y.key ≡ key)
    → (cond low rest (cond same y (nothing key))).key ≡ key
found_by key true same rest y is here = is
found_by key false true rest y is here = here refl
found_by key false false rest y is here = refl

pub exchange_at-key : (key : Key) (xs : List Exchange) → (exchange_at key xs).key ≡ key
exchange_at-key key [] = refl
exchange_at-key key (y ∷ ys) =
    found_by key (nat_lt (rank y.key) (rank key)) (rank y.key == rank key) (exchange_at key ys) y (exchange_at-key key ys) (λ e.
    one_key y.key key (eqb-true (rank y.key) (rank key) e))

pub behind-key : (t : Taken) (x : Exchange) → (behind t x).key ≡ x.key
behind-key (ask key opcode payload timed) x = refl
behind-key (next key) x = refl
behind-key (confirmed key subscription) x = refl
behind-key (ended key subscription) x = refl
behind-key acknowledged x = refl
behind-key (busy key) x = refl
behind-key closed x = refl
