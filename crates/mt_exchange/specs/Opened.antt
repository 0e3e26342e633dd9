-- The open exchanges of a session, in the order of their keys.
use Rattle.std.specs.Prelude.{ℕ, ◌+◌, ◌*◌, ◌==◌, ◌||◌, nat_lt, Bool, true, false, not, List, [], ◌∷◌, ◌++◌, count_by, None, is_some, if◌then◌else◌}
use Rattle.mt_exchange.specs.declared.exchange.Key.{Key}
use Rattle.mt_exchange.specs.declared.exchange.Exchange.{Exchange}

-- the order of keys: by the exchange's id, and of two with one id the peer's first
abbrev pub rank : Key → ℕ
rank key = 2 * key.exchange + (if key.ours then 1 else 0)

-- an exchange of which there is nothing
abbrev pub nothing : Key → Exchange
nothing key = record { key = key; unanswered = false; kept = []; owed = []; confirmation = false; deadline = None; subscription = None }

abbrev pub is_any : {A : Type 0} → List A → Bool
is_any [] = false
is_any (x ∷ xs) = true

-- An exchange is open as long as something of it is to be sent, owed or awaited: an answer or kept payloads, a
-- message that is not acknowledged, the confirmation of a payload or the request after a TimedRequest.
abbrev pub is_open : Exchange → Bool
is_open x = x.unanswered || is_any x.kept || is_any x.owed || x.confirmation || is_some x.deadline

-- what there is of the exchange with this key
abbrev pub exchange_at : Key → List Exchange → Exchange
exchange_at key [] = nothing key
exchange_at key (x ∷ xs) =
    if nat_lt (rank x.key) (rank key) then exchange_at key xs
    else if rank x.key == rank key then x
    else nothing key

-- the exchange in a list, where it is open
abbrev pub if_open : Exchange → List Exchange
if_open x = if is_open x then x ∷ [] else []

-- the open exchanges, once this is what there is of the exchange with its key
abbrev pub put : Exchange → List Exchange → List Exchange
put x [] = if_open x
put x (y ∷ ys) =
    if nat_lt (rank y.key) (rank x.key) then y ∷ put x ys
    else if rank y.key == rank x.key then if_open x ++ ys
    else if_open x ++ y ∷ ys

-- how many the peer began
abbrev pub count_of_peer : List Exchange → ℕ
count_of_peer open_ones = count_by (λ x. not x.key.ours) open_ones
