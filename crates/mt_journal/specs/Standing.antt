-- What a journal that is in use knows of its file.
use Rattle.std.specs.Prelude.{◌≡◌, ◌≤◌, ◌<◌, ◌+◌, ◌-◌, ℕ, Bool, false, List, [], ◌∷◌, ◌++◌, length, take, drop, get_or, Ok, Option, Some, None, nat_lt, not, ◌⊎◌, ◌%◌, ◌/◌, ◌^◌, min}
use Rattle.mt_outside.specs.Disk.{LeavesContents}
use Rattle.mt_journal.specs.Layout.{MayFollow, Reads, Records, ◌>>=◌, is_open, journal_at, log_at, log_mark, mark, names_slot_one, records_at, slot_at, slot_length, slot_start, slots_at}
use Rattle.mt_journal.specs.declared.position.Position.{Position}
use Rattle.mt_journal.specs.declared.position.Position.TheVariants.{Fresh, Begun, Log, InUse}

-- a length as four bytes, the lowest first
abbrev pub length_field : ℕ → List ℕ
length_field count = count % 256 ∷ count / 256 % 256 ∷ count / 65536 % 256 ∷ count / 16777216 % 256 ∷ []

-- the changes go on after these
abbrev pub go_on : List (List ℕ) → Records → Reads Records
go_on list records = Ok (record { changes = list ++ records.changes; moved = records.moved })

-- What is read from the start on has this list up to the gate at this place: so has each file that is the same there, whatever follows.
abbrev pub HasUpTo : (List ℕ → Reads Records) → MayFollow → Option ℕ → ℕ → ℕ → List (List ℕ) → List ℕ → Type 0
HasUpTo reads may_follow limit start gate list file = (other : List ℕ) → take (gate - start) (drop start other) ≡ take (gate - start) (drop start file)
    → reads other ≡ (records_at may_follow (length other) limit list 0 gate (drop gate other) >>= go_on list)

-- Selectors are read at the base in each file that is the same in front of them.
abbrev pub HasHead : (List ℕ → Bool) → MayFollow → ℕ → List ℕ → Type 0
HasHead is_image may_follow base file = (other : List ℕ) → take base other ≡ take base file → base ≤ length other → 10 ≤ length other → journal_at is_image may_follow other ≡ slots_at is_image may_follow base other

-- A file with a current slot, whose next gate stands at this place and is closed.
pub record IsInUse (is_image : List ℕ → Bool) (may_follow : MayFollow) (base p0 p1 gate : ℕ) (list : List (List ℕ)) (file : List ℕ) : Type 0 where
  pub far : 9 ≤ base
  pub head : HasHead is_image may_follow base file
  pub p0_is : get_or file base 0 ≡ p0
  pub p1_is : get_or file (base + 1) 0 ≡ p1
  pub behind : slot_start base (names_slot_one p0 p1) + 4 ≤ gate
  pub before_end : gate < slot_start base (names_slot_one p0 p1) + slot_length
  pub there : gate < length file
  pub closed : is_open (get_or file gate 0) ≡ false
  pub slot : HasUpTo (slot_at is_image may_follow (slot_start base (names_slot_one p0 p1))) may_follow (Some (slot_start base (names_slot_one p0 p1) + slot_length)) (slot_start base (names_slot_one p0 p1)) gate list file

-- A file with a closed begin gate.
pub record IsBegun (list : List (List ℕ)) (file : List ℕ) : Type 0 where
  pub head : take 8 file ≡ mark
  pub there : 8 < length file
  pub closed : is_open (get_or file 8 0) ≡ false
  pub none : list ≡ []

-- A log that was not moved, whose next gate stands at this place and is closed.
pub record IsLog (may_follow : MayFollow) (gate : ℕ) (list : List (List ℕ)) (file : List ℕ) : Type 0 where
  pub head : take 8 file ≡ log_mark
  pub many : 10 ≤ length file
  pub behind : 8 ≤ gate
  pub there : gate < length file
  pub closed : is_open (get_or file gate 0) ≡ false
  pub log : HasUpTo (log_at may_follow) may_follow None 8 gate list file

-- The place that a journal keeps is that of this file, which has this list.
abbrev pub Stands : (List ℕ → Bool) → MayFollow → Position → List (List ℕ) → List ℕ → Type 0
Stands is_image may_follow Fresh list file = (length file ≤ 9) × (list ≡ [])
Stands is_image may_follow Begun list file = IsBegun list file
Stands is_image may_follow (Log gate) list file = IsLog may_follow gate list file
Stands is_image may_follow (InUse base p0 p1 gate) list file = IsInUse is_image may_follow base p0 p1 gate list file

-- The disk tells its contents, all of them safe, and they have this list.
pub record StandsFor {D : Type 0} (contents : D → Option (List ℕ)) (images : D → List ℕ → Type 0) (is_image : List ℕ → Bool) (may_follow : MayFollow) (disk : D) (place : Position) (list : List (List ℕ)) : Type 0 where
  pub file : List ℕ
  pub told : contents disk ≡ Some file
  pub safe : LeavesContents (Some file) (images disk)
  pub stands : Stands is_image may_follow place list file
  pub has : journal_at is_image may_follow file ≡ Ok list

-- a record of this length and its next gate end within the current slot, and there is one
abbrev pub fits_at : Position → ℕ → Bool
fits_at (InUse base p0 p1 gate) count = not (nat_lt (slot_start base (names_slot_one p0 p1) + slot_length) (gate + 6 + count))
fits_at Fresh count = false
fits_at Begun count = false
fits_at (Log gate) count = false

-- where the selectors are, or where they will be
abbrev pub selectors_at : Position → ℕ
selectors_at (InUse base p0 p1 gate) = base
selectors_at (Log gate) = gate + 5
selectors_at Fresh = 9
selectors_at Begun = 9

-- no place of it comes near the last number of 64 bits
abbrev pub IsWithin : Position → Type 0
IsWithin place = selectors_at place ≤ 2 ^ 62 + 5

-- the file has the one list or the other
abbrev pub HasEither : (List ℕ → Bool) → MayFollow → List (List ℕ) → List (List ℕ) → List ℕ → Type 0
HasEither is_image may_follow one other file = (journal_at is_image may_follow file ≡ Ok one) ⊎ (journal_at is_image may_follow file ≡ Ok other)

-- a count of 64 bits after so many more, which stays at its last value once it is there
abbrev pub after_calls : ℕ → ℕ → ℕ
after_calls more count = min (count + more) (2 ^ 64 - 1)

-- how many calls of the disk an image takes
abbrev pub switch_calls : Position → ℕ
switch_calls Fresh = 6
switch_calls Begun = 4
switch_calls (Log gate) = 4
switch_calls (InUse base p0 p1 gate) = 4
