-- What is set up to the key of an entry, as bytes.
use Rattle.std.proofs.Common.{◌≡◌, ◌-◌, ℕ, Bool, true, false, List, [], ◌∷◌, ◌++◌, length, take, drop, refl, sym, ap, ◌∙◌, append_assoc, append-nil, arith}
use Rattle.std.specs.Prelude.{if◌then◌else◌, Some}
use Rattle.std.proofs.lemmas.List.{length-append, take_at}
use Rattle.mt_durable.specs.Differences.{behind, differences, gone, set_at, set_up_to}
use Rattle.mt_durable.specs.Fronts.{IsFront, Stands, bytes_to_end, entries_bytes, entries_said, entry_bytes, lower_bytes}
use Rattle.mt_durable.specs.Keys.{is_same}
use Rattle.mt_durable.specs.Setting.{begins_with, count_before, without}
use Rattle.mt_durable.specs.declared.durable.Entry.{Entry}
use Rattle.mt_durable.specs.declared.image.Front.{Front}
use Rattle.mt_durable.proofs.Fronts.{bytes_append}

-- the bytes of one entry, or of none
bytes_unless : (same : Bool) (other : Entry) → entries_bytes (if same then [] else other ∷ []) ≡ (if same then [] else entry_bytes other)
bytes_unless true other = refl
bytes_unless false other = append-nil (entry_bytes other)

-- The other map has the key: it stands in front there.
set_where_same : (one : Entry) (others : List Entry) (other : Front) → IsFront others (Some other) → begins_with one.key others ≡ true
    → entries_bytes (set_at one others) ≡ (if is_same (entry_bytes one) other.bytes.now then [] else other.bytes.now)
set_where_same one [] other is there = absurd is
set_where_same one (next ∷ others) other is there =
    ap (λ (b : Bool). entries_bytes (if b then (if is_same (entry_bytes one) (entry_bytes next) then [] else next ∷ []) else gone one ∷ [])) there
    ∙ bytes_unless (is_same (entry_bytes one) (entry_bytes next)) next
    ∙ ap (λ (l : List ℕ). if is_same (entry_bytes one) l then [] else l) (sym is.2)

pub set_there : (front : Front) (stands : Stands front) (others : List Entry) (other : Front) → IsFront others (Some other) → begins_with front.key.now others ≡ true
    → (if is_same front.bytes.now other.bytes.now then [] else other.bytes.now) ≡ entries_bytes (set_at stands.entry others)
set_there front stands others other is there =
    ap (λ (l : List ℕ). if is_same l other.bytes.now then [] else other.bytes.now) stands.bytes
    ∙ sym (set_where_same stands.entry others other is (ap (λ (k : List ℕ). begins_with k others) (sym stands.key) ∙ there))

pub left_there : (key : List ℕ) (others : List Entry) (other : Front) → IsFront others (Some other) → begins_with key others ≡ true → entries_said other.rest.now ≡ without key others
left_there key [] other is there = absurd is
left_there key (next ∷ others) other is there = is.4 ∙ sym (ap (λ (b : Bool). if b then others else next ∷ others) there)

-- It does not have it.
set_where_none : (one : Entry) (others : List Entry) → begins_with one.key others ≡ false → entries_bytes (set_at one others) ≡ entry_bytes (gone one)
set_where_none one [] not_there = append-nil (entry_bytes (gone one))
set_where_none one (next ∷ others) not_there =
    ap (λ (b : Bool). entries_bytes (if b then (if is_same (entry_bytes one) (entry_bytes next) then [] else next ∷ []) else gone one ∷ [])) not_there
    ∙ append-nil (entry_bytes (gone one))

pub set_gone : (front : Front) (stands : Stands front) (others : List Entry) → begins_with front.key.now others ≡ false → entry_bytes (gone stands.entry) ≡ entries_bytes (set_at stands.entry others)
set_gone front stands others not_there = sym (set_where_none stands.entry others (ap (λ (k : List ℕ). begins_with k others) (sym stands.key) ∙ not_there))

-- what the other map has before the key, and what is set under it
pub set_both : (front : Front) (stands : Stands front) (others left lower : List ℕ) → others ≡ lower_bytes front.key.now (entries_said others) ++ left
    → entries_said left ≡ drop (count_before front.key.now (entries_said others)) (entries_said others) → lower ≡ take (length others - length left) others
    → lower ++ entries_bytes (set_at stands.entry (entries_said left)) ≡ entries_bytes (set_up_to stands.entry (entries_said others))
set_both front stands others left lower parts said is =
    let one = stands.entry in
    let map = entries_said others in
    let before = lower_bytes front.key.now map in
    let size : length others - length left ≡ length before = omega (arith, ap length parts, length-append before left) in
    let lower_is : lower ≡ before = is ∙ ap (λ (l : List ℕ). take (length others - length left) l) parts ∙ take_at before left (length others - length left) (sym size) in
    ap (λ (l : List ℕ). l ++ entries_bytes (set_at one (entries_said left))) lower_is
    ∙ ap (λ (l : List Entry). before ++ entries_bytes (set_at one l)) said
    ∙ ap (λ (k : List ℕ). lower_bytes k map ++ entries_bytes (set_at one (drop (count_before k map) map))) stands.key
    ∙ sym (bytes_append (take (count_before one.key map) map) (set_at one (drop (count_before one.key map) map)))

-- The entry in front of the one map, and what is set behind it.
abbrev pub stands_front : (entries : List Entry) (front : Front) → IsFront entries (Some front) → Stands front
stands_front [] front is = absurd is
stands_front (entry ∷ entries) front is = record { entry = entry; key = is.0; bytes = is.2 }

pub differences_front : (entries others : List Entry) (front : Front) (is : IsFront entries (Some front))
    → entries_bytes (set_up_to (stands_front entries front is).entry others) ++ bytes_to_end (differences (entries_said front.rest.now) (behind front.key.now others)) ≡ bytes_to_end (differences entries others)
differences_front [] others front is = absurd is
differences_front (one ∷ entries) others front is =
    let own = entries_bytes (set_up_to one others) in
    let rest = differences entries (behind one.key others) in
    ap (λ (l : List Entry). own ++ bytes_to_end (differences l (behind front.key.now others))) is.4
    ∙ ap (λ (k : List ℕ). own ++ bytes_to_end (differences entries (behind k others))) is.0
    ∙ sym (append_assoc own (entries_bytes rest) (24 ∷ []))
    ∙ ap (λ (l : List ℕ). l ++ 24 ∷ []) (sym (bytes_append (set_up_to one others) rest))
