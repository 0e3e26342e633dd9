-- The parts of a mark, in their order, and what each compares.
use Rattle.std.specs.Prelude.{◌≡◌, ℕ, List, [], ◌∷◌, codes}
use Rattle.mt_marks.specs.declared.difference.Part.{Part}
use Rattle.mt_marks.specs.declared.difference.Part.TheVariants as parts
use Rattle.mt_marks.specs.declared.mark.Mark.{Mark}

-- the parts, in the order in which marks are compared
abbrev pub all_parts : List Part
all_parts = parts.Event ∷ parts.Born ∷ parts.Rows ∷ parts.Fabrics ∷ parts.Roots ∷ parts.Networks ∷ parts.Failsafe ∷ parts.Versions ∷ parts.Events ∷ parts.Numbers ∷ parts.Boot ∷ parts.Now ∷ []

-- where a part stands among them
abbrev pub place_of : Part → ℕ
place_of parts.Event = 0
place_of parts.Born = 1
place_of parts.Rows = 2
place_of parts.Fabrics = 3
place_of parts.Roots = 4
place_of parts.Networks = 5
place_of parts.Failsafe = 6
place_of parts.Versions = 7
place_of parts.Events = 8
place_of parts.Numbers = 9
place_of parts.Boot = 10
place_of parts.Now = 11

-- the part is the same in both marks; that a fabric enters the table is in none of these
abbrev pub IsSame : Part → Mark → Mark → Type 0
IsSame parts.Event one other = one.event ≡ other.event
IsSame parts.Born one other = Unit {0}
IsSame parts.Rows one other = (one.rows ≡ other.rows) × (one.owners ≡ other.owners)
IsSame parts.Fabrics one other = one.fabrics ≡ other.fabrics
IsSame parts.Roots one other = one.roots ≡ other.roots
IsSame parts.Networks one other = one.networks ≡ other.networks
IsSame parts.Failsafe one other = one.failsafe ≡ other.failsafe
IsSame parts.Versions one other = (one.versions ≡ other.versions) × (one.changes ≡ other.changes)
IsSame parts.Events one other = one.events ≡ other.events
IsSame parts.Numbers one other = one.next ≡ other.next
IsSame parts.Boot one other = one.boot ≡ other.boot
IsSame parts.Now one other = one.now ≡ other.now

-- the word for a part
abbrev pub word_of : Part → List ℕ
word_of parts.Event = codes "event"
word_of parts.Born = codes "born"
word_of parts.Rows = codes "rows"
word_of parts.Fabrics = codes "fabrics"
word_of parts.Roots = codes "roots"
word_of parts.Networks = codes "networks"
word_of parts.Failsafe = codes "failsafe"
word_of parts.Versions = codes "versions"
word_of parts.Events = codes "events"
word_of parts.Numbers = codes "numbers"
word_of parts.Boot = codes "boot"
word_of parts.Now = codes "now"
