-- Which list of changes the bytes of a journal are: an image of the whole state and the changes after it, each in the order in which they were made. Which bytes are an image, and which may follow a list as a change, is given. There are two layouts: slots, and the earlier log, which a move carries over into slots behind it.
use Rattle.std.specs.Prelude.{ℕ, zero, suc, ◌+◌, ◌*◌, Bool, true, false, List, [], ◌∷◌, length, take, drop, get_or, Option, Some, None, Result, Ok, Err, nat_lt, not, ◌==◌, ◌++◌, ◌&&◌, ◌||◌, if◌then◌else◌}

-- what is read, or the place of the byte from which on the file is no journal
abbrev pub Reads : Type 0 → Type 0
Reads A = Result A ℕ

infixl 10 ◌>>=◌
abbrev pub ◌>>=◌ : {A B : Type 0} → Reads A → (A → Reads B) → Reads B
(Ok x) >>= f = f x
(Err place) >>= f = Err place

-- which bytes are a change that may follow a list
abbrev pub MayFollow : Type 0
MayFollow = List (List ℕ) → List ℕ → Bool

-- a gate is open where it is 5a, and closed otherwise
abbrev pub is_open : ℕ → Bool
is_open gate = gate == 0x5a

-- a length of four bytes, the lowest first
abbrev pub length_of : List ℕ → ℕ
length_of field = get_or field 0 0 + 256 * get_or field 1 0 + 65536 * get_or field 2 0 + 16777216 * get_or field 3 0

-- Pieces and records. Where they stand in a slot, the limit is its end; a log has no limit but the end of the file.

abbrev pub is_past : Option ℕ → ℕ → Bool
is_past (Some end) place = nat_lt end place
is_past None place = false

-- The bytes behind a length at this place, which are an image or a change, and what follows them. All of it lies before the limit, and the next gate too.
abbrev pub piece_at : (List ℕ → Bool) → ℕ → Option ℕ → ℕ → List ℕ → Reads (List ℕ × List ℕ)
piece_at is_piece whole limit place rest =
    if nat_lt (length rest) 4 then Err whole
    else let count = length_of (take 4 rest) in
    if nat_lt 65536 count || is_past limit (place + 5 + count) then Err place
    else if nat_lt (length rest) (4 + count) then Err whole
    else if is_piece (take count (drop 4 rest)) then Ok (take count (drop 4 rest), drop (4 + count) rest)
    else Err (place + 4)

-- in a log a length ffffffff is the mark of a move
abbrev pub marks_move : Option ℕ → ℕ → Bool
marks_move (Some end) count = false
marks_move None count = count == 0xffffffff

abbrev pub is_move : Option ℕ → List ℕ → Bool
is_move limit rest = not (nat_lt (length rest) 4) && marks_move limit (length_of (take 4 rest))

-- the changes of records, and, where the mark of a move ended them, the place behind it
pub record Records : Type 0 where
  pub changes : List (List ℕ)
  pub moved : Option ℕ

-- one change more in front
abbrev pub after_one : List ℕ → Records → Reads Records
after_one change records = Ok (record { changes = change ∷ records.changes; moved = records.moved })

-- The records behind a list, from a gate on, which stands behind so many bytes; they begin at this place. Each change may follow the list and the changes before it. The first closed gate ends them, and so does the mark of a move; what follows is not read.
abbrev pub records_at : MayFollow → ℕ → Option ℕ → List (List ℕ) → ℕ → ℕ → List ℕ → Reads Records
records_at may_follow whole limit list behind place [] = Err whole
records_at may_follow whole limit list (suc behind) place (byte ∷ rest) = records_at may_follow whole limit list behind (place + 1) rest
records_at may_follow whole limit list zero place (gate ∷ rest) =
    if is_open gate then (if is_move limit rest then Ok (record { changes = []; moved = Some (place + 5) })
    else (piece_at (may_follow list) whole limit (place + 1) rest >>= λ piece. records_at may_follow whole limit (list ++ piece.0 ∷ []) (4 + length piece.0) (place + 1) rest >>= after_one piece.0))
    else Ok (record { changes = []; moved = None })

-- Slots.

-- how many bytes a slot has
abbrev pub slot_length : ℕ
slot_length = 1048576

-- the image of a slot that begins here, and its changes
abbrev pub slot_at : (List ℕ → Bool) → MayFollow → ℕ → List ℕ → Reads Records
slot_at is_image may_follow start file =
    piece_at is_image (length file) (Some (start + slot_length)) start (drop start file) >>= λ image.
    records_at may_follow (length file) (Some (start + slot_length)) (image.0 ∷ []) 0 (start + 4 + length image.0) image.1 >>= after_one image.0

abbrev pub is_selector : ℕ → Bool
is_selector byte = byte == 0x5a || byte == 0x5b || byte == 0x5c

-- the selector after this one
abbrev pub successor : ℕ → ℕ
successor byte = if byte == 0x5c then 0x5a else byte + 1

-- which slot the selectors name: slot 1 exactly where p0 is the successor of p1, or p0 is a selector and p1 is none
abbrev pub names_slot_one : ℕ → ℕ → Bool
names_slot_one p0 p1 = is_selector p0 && (if is_selector p1 then p0 == successor p1 else true)

-- what a selector gets when its slot becomes the current one, where this is the other selector
abbrev pub selector_above : ℕ → ℕ
selector_above other = if is_selector other then successor other else 0x5a

-- where a slot begins, in a file whose selectors begin at the base
abbrev pub slot_start : ℕ → Bool → ℕ
slot_start base is_one = if is_one then base + 2 + slot_length else base + 2

-- what a slot has is the list
abbrev pub list_of_slot : Records → Reads (List (List ℕ))
list_of_slot slot = Ok slot.changes

-- two selectors, and the two slots after them
abbrev pub slots_at : (List ℕ → Bool) → MayFollow → ℕ → List ℕ → Reads (List (List ℕ))
slots_at is_image may_follow base file =
    if nat_lt (length file) (base + 2) then Err (length file)
    else slot_at is_image may_follow (slot_start base (names_slot_one (get_or file base 0) (get_or file (base + 1) 0))) file >>= list_of_slot

-- The earlier layout: a log, whose first gate stands at 8.

abbrev pub log_at : MayFollow → List ℕ → Reads Records
log_at may_follow file = records_at may_follow (length file) None [] 0 8 (drop 8 file)

-- what a log has is the list, unless a move ended it: then what the slots behind it hold, and nothing else
abbrev pub list_of_log : (List ℕ → Bool) → MayFollow → List ℕ → List (List ℕ) → Option ℕ → Reads (List (List ℕ))
list_of_log is_image may_follow file changes None = Ok changes
list_of_log is_image may_follow file changes (Some base) = slots_at is_image may_follow base file

abbrev pub log_list : (List ℕ → Bool) → MayFollow → List ℕ → Records → Reads (List (List ℕ))
log_list is_image may_follow file log = list_of_log is_image may_follow file log.changes log.moved

-- The eight bytes in front: "MTJRNL2" and a line feed, and of a log "MTJRNL1".

abbrev pub mark : List ℕ
mark = 0x4d ∷ 0x54 ∷ 0x4a ∷ 0x52 ∷ 0x4e ∷ 0x4c ∷ 0x32 ∷ 0x0a ∷ []

abbrev pub log_mark : List ℕ
log_mark = 0x4d ∷ 0x54 ∷ 0x4a ∷ 0x52 ∷ 0x4e ∷ 0x4c ∷ 0x31 ∷ 0x0a ∷ []

-- a log where the byte at 6 says so
abbrev pub is_log : List ℕ → Bool
is_log file = get_or file 6 0 == 0x31

abbrev pub mark_for : Bool → List ℕ
mark_for true = log_mark
mark_for false = mark

-- how many bytes of a text are those of the other, from the front on
abbrev pub same_front : List ℕ → List ℕ → ℕ
same_front (x ∷ xs) (y ∷ ys) = if x == y then suc (same_front xs ys) else 0
same_front xs ys = 0

-- what follows the mark of a log, or the mark of slots: these have no record where the begin gate is closed
abbrev pub marked_at : (List ℕ → Bool) → MayFollow → Bool → List ℕ → Reads (List (List ℕ))
marked_at is_image may_follow true file = log_at may_follow file >>= log_list is_image may_follow file
marked_at is_image may_follow false file = if is_open (get_or file 8 0) then slots_at is_image may_follow 9 file else Ok []

-- The list of a file. At most nine bytes are a journal without a record, whatever they are.
abbrev pub journal_at : (List ℕ → Bool) → MayFollow → List ℕ → Reads (List (List ℕ))
journal_at is_image may_follow file =
    if nat_lt (length file) 10 then Ok []
    else if nat_lt (same_front (mark_for (is_log file)) file) 8 then Err (same_front (mark_for (is_log file)) file)
    else marked_at is_image may_follow (is_log file) file
