-- What the calls of a disk do to its contents, and what a crash may make of them. Where a disk cannot tell its contents, nothing is said of them.
use Rattle.std.specs.Prelude.{◌≡◌, ◌⊎◌, ◌≤◌, ◌+◌, ◌-◌, ℕ, List, ◌++◌, length, take, drop, replicate, min, max, Option, Some, None, ⊤}

-- these bytes at this offset, in the place of what stood there; a gap behind the old end is filled with 0
abbrev pub overwritten : ℕ → List ℕ → List ℕ → List ℕ
overwritten at bytes old = take at old ++ replicate (at - length old) 0 ++ bytes ++ drop (at + length bytes) old

-- After a write of n bytes that is cut short: any bytes in its range and past the old end, a length between the old and the new one, and all else as before.
pub record CutShort (at n : ℕ) (old new : List ℕ) : Type 0 where
  pub before : take (min at (length old)) new ≡ take at old
  pub after : drop (at + n) new ≡ drop (at + n) old
  pub no_shorter : length old ≤ length new
  pub no_longer : length new ≤ max (length old) (at + n)

-- so many bytes were read from this offset to the front of a slice: all that is there and fits
abbrev pub ReadAt : Option (List ℕ) → ℕ → List ℕ → List ℕ → ℕ → Type 0
ReadAt None at before after count = ⊤
ReadAt (Some bytes) at before after count = (count ≡ min (length before) (length bytes - at)) × (after ≡ take count (drop at bytes) ++ drop count before)

-- these bytes were written at this offset
abbrev pub WroteAt : Option (List ℕ) → ℕ → List ℕ → Option (List ℕ) → Type 0
WroteAt None at bytes after = ⊤
WroteAt (Some before) at bytes after = after ≡ Some (overwritten at bytes before)

-- so many bytes were to be written at this offset, and what became of them is not known
abbrev pub WrotePart : Option (List ℕ) → ℕ → ℕ → Option (List ℕ) → Type 0
WrotePart None at n after = ⊤
WrotePart (Some before) at n after = (now : List ℕ) × (after ≡ Some now) × CutShort at n before now

-- a crash leaves the contents, and nothing else
abbrev pub LeavesContents : Option (List ℕ) → (List ℕ → Type 0) → Type 0
LeavesContents None images = ⊤
LeavesContents (Some bytes) images = (image : List ℕ) → images image → image ≡ bytes

-- each new image is an old one
abbrev pub NoneNew : (List ℕ → Type 0) → (List ℕ → Type 0) → Type 0
NoneNew old new = (image : List ℕ) → new image → old image

-- each new image is an old one after a step
abbrev pub Follows : (List ℕ → List ℕ → Type 0) → (List ℕ → Type 0) → (List ℕ → Type 0) → Type 0
Follows step old new = (image : List ℕ) → new image → (from : List ℕ) × old from × step from image

-- Time goes on: a crash since a moment might have left what it might have left before, or what it may leave now.
pub record Elapses (before now : ℕ) (past since : ℕ → List ℕ → Type 0) (images : List ℕ → Type 0) : Type 0 where
  pub later : before ≤ now
  pub nothing_else : (moment : ℕ) (image : List ℕ) → moment ≤ before → since moment image → past moment image ⊎ images image
  pub keeps : (moment : ℕ) (image : List ℕ) → moment ≤ before → past moment image → since moment image

-- A crash at any moment since the old disk leaves a file that has P; before speaks of a run that began earlier.
pub record LeavesOnly {D : Type 0} (moment : D → ℕ) (images_since : D → ℕ → List ℕ → Type 0) (old new : D) (P : List ℕ → Type 0) : Type 0 where
  pub later : moment old ≤ moment new
  pub each : (image : List ℕ) → images_since new (moment old) image → P image
  pub before : (from : ℕ) (image : List ℕ) → from ≤ moment old → images_since new from image → images_since old from image ⊎ P image
