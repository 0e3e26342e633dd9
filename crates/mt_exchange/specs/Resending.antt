-- Sending again what was not acknowledged (Matter Core Specification, section 4.11, Message Reliability
-- Protocol; the waits are this project's own, without jitter).
use Rattle.std.specs.Prelude.{ℕ, ◌+◌, ◌==◌, ◌&&◌, nat_lt, nat_le, min, Bool, not, List, [], ◌∷◌, map, filter, Option, Some, None, option_to_list, if◌then◌else◌}
use Rattle.std.specs.List.{flat_map, list_any}
use Rattle.mt_model.specs.declared.limits.TheConstants.{LAST_WAIT, SENDINGS}
use Rattle.mt_exchange.specs.declared.exchange.Owed.{Owed}
use Rattle.mt_exchange.specs.declared.exchange.Exchange.{Exchange}
use Rattle.mt_exchange.specs.declared.lists.EndTime.{EndTime}

-- how long is waited after the first, second, third and fourth sending, in ms
abbrev pub wait_after : ℕ → ℕ
wait_after sendings = if nat_lt sendings 3 then 500 else if sendings == 3 then 800 else 1280

-- whether a message is due again: so many sendings are the most
abbrev pub is_due : ℕ → Owed → Bool
is_due now o = nat_lt o.sendings SENDINGS && nat_le (o.last + wait_after o.sendings) now

-- from when on a message that was sent so often closes its exchange; no later time than the last can be told
abbrev pub close_of : Owed → ℕ
close_of o = min (o.last + LAST_WAIT) 18446744073709551615

abbrev pub is_spent : ℕ → Owed → Bool
is_spent now o = o.sendings == SENDINGS && nat_le (o.last + LAST_WAIT) now

-- whether a resend step closes an exchange
abbrev pub closes : ℕ → Exchange → Bool
closes now x = list_any (is_spent now) x.owed

-- a message behind a resend step
abbrev pub sent_again : ℕ → Owed → Owed
sent_again now o = if is_due now o then record o { sendings = o.sendings + 1; last = now } else o

-- an exchange that stays open behind a resend step
abbrev pub behind_step : ℕ → Exchange → Exchange
behind_step now x = record x { owed = map (sent_again now) x.owed }

-- the exchanges that a resend step leaves open
abbrev pub remaining : ℕ → List Exchange → List Exchange
remaining now open_ones = filter (λ x. not (closes now x)) open_ones

-- the open exchanges behind a resend step
abbrev pub resent : ℕ → List Exchange → List Exchange
resent now open_ones = map (behind_step now) (remaining now open_ones)

-- what is due of an exchange
abbrev pub due_of : ℕ → Exchange → List (List ℕ)
due_of now x = map (λ o. o.datagram) (filter (is_due now) x.owed)

-- what a resend step sends: what is due, by exchange and then by counter, the same bytes
abbrev pub due_again : ℕ → List Exchange → List (List ℕ)
due_again now open_ones = flat_map (due_of now) (remaining now open_ones)

-- the subscription of an exchange that a resend step closes
abbrev pub ended_of : ℕ → Exchange → List ℕ
ended_of now x = if closes now x then option_to_list x.subscription else []

-- the subscriptions of the exchanges that a resend step closes
abbrev pub ended_by : ℕ → List Exchange → List ℕ
ended_by now open_ones = flat_map (ended_of now) open_ones

-- the earlier of two times that may be there
abbrev pub earlier : Option ℕ → ℕ → Option ℕ
earlier None time = Some time
earlier (Some before) time = Some (min before time)

abbrev pub end_with : Option ℕ → Owed → Option ℕ
end_with found o = if o.sendings == SENDINGS then earlier found (close_of o) else found

-- from when on an exchange closes, where a message of it was sent five times
abbrev pub end_in : Option ℕ → List Owed → Option ℕ
end_in found [] = found
end_in found (o ∷ os) = end_in (end_with found o) os

abbrev pub end_time : Option ℕ → Option ℕ → List EndTime
end_time None end = []
end_time (Some subscription) None = []
end_time (Some subscription) (Some ms) = record { subscription = subscription; ms = ms } ∷ []

abbrev pub end_of : Exchange → List EndTime
end_of x = end_time x.subscription (end_in None x.owed)

-- from when on the exchanges of subscriptions close
abbrev pub end_times : List Exchange → List EndTime
end_times open_ones = flat_map end_of open_ones
