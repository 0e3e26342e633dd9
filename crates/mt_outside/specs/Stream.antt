-- What the calls of a source and a sink do, and when they may fail. Where an object cannot tell its bytes, nothing is said of them.
use Rattle.std.specs.Prelude.{◌≡◌, ◌≤◌, ◌+◌, ◌^◌, ◌-◌, ℕ, List, [], ◌∷◌, ◌++◌, Option, Some, None, Result, IsErr, IsOk, min, ⊤}

-- A count of 64 bits after one more, which stays at its last value once it is there.
abbrev pub one_more : ℕ → ℕ
one_more count = min (count + 1) (2 ^ 64 - 1)

-- the count rose by one, or stands at its last value
abbrev pub RoseByOne : ℕ → ℕ → Type 0
RoseByOne before now = now ≡ one_more before

-- A call that fails raises the count of faults by one, and one that succeeds leaves it; the count never falls.
pub record HasCause {T E : Type 0} (before now : ℕ) (result : Result T E) : Type 0 where
  pub never_falls : before ≤ now
  pub rose : IsErr result → RoseByOne before now
  pub stays : IsOk result → now ≡ before

-- of what was left these bytes were given, in order, and the rest is left
abbrev pub Gave : Option (List ℕ) → Option (List ℕ) → List ℕ → Type 0
Gave None after bytes = ⊤
Gave (Some left) after bytes = (rest : List ℕ) × (left ≡ bytes ++ rest) × (after ≡ Some rest)

-- of what was left some front was given
abbrev pub GavePart : Option (List ℕ) → Option (List ℕ) → Type 0
GavePart before after = (bytes : List ℕ) × Gave before after bytes

-- these bytes were all that was left, and nothing is left now
abbrev pub ReadToEnd : Option (List ℕ) → Option (List ℕ) → List ℕ → Type 0
ReadToEnd None after bytes = ⊤
ReadToEnd (Some left) after bytes = (left ≡ bytes) × (after ≡ Some [])

-- these bytes were added at the end of what was written
abbrev pub Took : Option (List ℕ) → Option (List ℕ) → List ℕ → Type 0
Took None after bytes = ⊤
Took (Some before) after bytes = after ≡ Some (before ++ bytes)

-- the other list begins with this one, and is longer
abbrev pub IsProperPrefix : List ℕ → List ℕ → Type 0
IsProperPrefix front whole = (next : ℕ) × (rest : List ℕ) × (whole ≡ front ++ next ∷ rest)

-- fewer than all of these bytes, a front of them, which may be none, were added at the end of what was written
abbrev pub TookLess : Option (List ℕ) → Option (List ℕ) → List ℕ → Type 0
TookLess before after bytes = (front : List ℕ) × IsProperPrefix front bytes × Took before after front
