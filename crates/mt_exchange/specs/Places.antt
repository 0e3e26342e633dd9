-- Where an exchange stands among others, and what follows for what is found and put there.
use Rattle.std.specs.Prelude.{◌≡◌, ℕ, ◌≤◌, ◌<◌, true, false, List, [], ◌∷◌, length, get_or, slice_set, if◌then◌else◌}
use Rattle.std.specs.List.{AllByRecursion, insert, remove}
use Rattle.mt_exchange.specs.declared.exchange.Key.{Key}
use Rattle.mt_exchange.specs.declared.exchange.Exchange.{Exchange}
use Rattle.mt_exchange.specs.declared.table.Spot.{Spot}
use Rattle.mt_exchange.specs.declared.table.Spot.TheVariants.{At, Before}
use Rattle.mt_exchange.specs.Opened.{exchange_at, is_open, nothing, put, rank}

-- The exchange with this key stands at this place.
pub record IsAt (key : Key) (xs : List Exchange) (at : ℕ) : Type 0 where
  pub within : at < length xs
  pub found : (d : Exchange) → exchange_at key xs ≡ get_or xs at d
  pub over : (x y : Exchange) → x.key ≡ key → y.key ≡ key → put x (slice_set xs at y) ≡ put x xs
  pub changed : (x : Exchange) → x.key ≡ key → is_open x ≡ true → slice_set xs at x ≡ put x xs
  pub removed : (x : Exchange) → x.key ≡ key → is_open x ≡ false → remove xs at ≡ put x xs

-- There is none with this key, and it would stand at this place.
pub record IsBefore (key : Key) (xs : List Exchange) (at : ℕ) : Type 0 where
  pub within : at ≤ length xs
  pub found : exchange_at key xs ≡ nothing key
  pub inserted : (x : Exchange) → x.key ≡ key → is_open x ≡ true → insert xs at x ≡ put x xs
  pub left : (x : Exchange) → x.key ≡ key → is_open x ≡ false → xs ≡ put x xs

abbrev pub IsSpot : Key → List Exchange → Spot → Type 0
IsSpot key xs (At at) = IsAt key xs at
IsSpot key xs (Before at) = IsBefore key xs at

-- the exchanges, once this is what there is of the one at a place
abbrev pub changed_at : ℕ → Exchange → List Exchange → List Exchange
changed_at at x xs = if is_open x then slice_set xs at x else remove xs at

-- all have a key above this one
abbrev pub AreAbove : ℕ → List Exchange → Type 0
AreAbove low xs = AllByRecursion (λ x. low < rank x.key) xs

-- they stand by rising key, and no key stands twice
abbrev pub IsRising : List Exchange → Type 0
IsRising [] = Unit {0}
IsRising (x ∷ xs) = AreAbove (rank x.key) xs × IsRising xs
