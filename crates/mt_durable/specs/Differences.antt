-- The change that leads from one map to another: what differs, key by key.
use Rattle.std.specs.Prelude.{ℕ, List, [], ◌∷◌, ◌++◌, take, drop, None, if◌then◌else◌}
use Rattle.mt_durable.specs.Changes.{change_bytes}
use Rattle.mt_durable.specs.Fronts.{entry_bytes}
use Rattle.mt_durable.specs.Keys.{is_same}
use Rattle.mt_durable.specs.Reading.{said}
use Rattle.mt_durable.specs.Setting.{count_before, without}
use Rattle.mt_durable.specs.declared.durable.Entry.{Entry}

-- the entry under whose key nothing stands any more
abbrev pub gone : Entry → Entry
gone entry = record entry { value = None }

-- What is set under the key of an entry, where the other map has these from that key on: what it has there, unless that is the same to the
-- byte; and the key goes where it has nothing there.
abbrev pub set_at : Entry → List Entry → List Entry
set_at one [] = gone one ∷ []
set_at one (other ∷ others) = if is_same one.key other.key then (if is_same (entry_bytes one) (entry_bytes other) then [] else other ∷ []) else gone one ∷ []

-- what is set where the one map has no more in front of this entry: what the other has before its key, and what is set under its key
abbrev pub set_up_to : Entry → List Entry → List Entry
set_up_to one others = take (count_before one.key others) others ++ set_at one (drop (count_before one.key others) others)

-- what the other map has behind a key
abbrev pub behind : List ℕ → List Entry → List Entry
behind key others = without key (drop (count_before key others) others)

-- what is set, from the one map to the other
abbrev pub differences : List Entry → List Entry → List Entry
differences [] others = others
differences (one ∷ map) others = set_up_to one others ++ differences map (behind one.key others)

-- the bytes of the change from the map of one image to that of another
abbrev pub difference_bytes : List ℕ → List ℕ → List ℕ
difference_bytes from to = change_bytes (differences (said from) (said to))
