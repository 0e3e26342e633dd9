-- How exchanges lie in a slab, beside the list of its keys that says their order.
use Rattle.std.specs.Prelude.{◌≡◌, ◌≢◌, ℕ, List, [], ◌∷◌, length, map, false, unwrap_or}
use Rattle.std.specs.List.{AllByRecursion}
use Rattle.slab.specs.Slab.{Slab, get, slab_len, ContainsKey}
use Rattle.mt_exchange.specs.declared.exchange.Exchange.{Exchange}
use Rattle.mt_exchange.specs.Opened.{nothing}

-- the exchange under a key; where the slab has none, one of which there is nothing
abbrev pub under : Slab Exchange → ℕ → Exchange
under s key = unwrap_or (get s key) (nothing (record { exchange = 0; ours = false }))

-- the exchanges under keys, in the order of the keys
abbrev pub kept : Slab Exchange → List ℕ → List Exchange
kept s order = map (under s) order

-- no key stands twice
abbrev pub IsOnce : List ℕ → Type 0
IsOnce [] = Unit {0}
IsOnce (key ∷ order) = AllByRecursion (λ other. other ≢ key) order × IsOnce order

-- the slab has an exchange under each key of the list, which has each key once, and has no other exchange
pub record IsKept (s : Slab Exchange) (order : List ℕ) : Type 0 where
  pub present : AllByRecursion (ContainsKey s) order
  pub once : IsOnce order
  pub alone : slab_len s ≡ length order
