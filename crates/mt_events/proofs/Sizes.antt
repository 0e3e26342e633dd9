-- How many bytes refusals and events have together.
use Rattle.std.proofs.Common.{◌≡◌, ℕ, zero, suc, ◌+◌, ◌-◌, ◌*◌, ◌/◌, ◌^◌, ◌<◌, ◌≤◌, nat_le, nat_lt, Bool, true, false, List, [], ◌∷◌, length, filter, get_or, min, take, Option, Some, None, Result, Ok, Err, refl, ap, sym, ◌∙◌, inl, inr, arith, lit≤, if◌then◌else◌}
use Rattle.std.specs.List.{flat_map}
use Rattle.std.proofs.lemmas.Bool.{cases_Bool, cond-true, cond-false, leb-true, lt-leb}
use Rattle.std.proofs.lemmas.List.{length-append}
use Rattle.std.proofs.lemmas.List.Sums.{sum_by-append, sum_by-cons, sum_by_more}
use Rattle.mt_tlv.specs.Narrow.{end_of_container, length_and_value, little_endian, narrow_elements, narrow_unsigned, width_of}
use Rattle.mt_tlv.specs.Tree.{Tree, Elements, none, more, structure, uint}
use Rattle.mt_tlv.specs.declared.value.Tag.TheVariants.{Context}
use Rattle.mt_meta.specs.declared.meta.EventMeta.{EventMeta}
use Rattle.mt_meta.specs.Finding.{find_event_of}
use Rattle.mt_model.specs.messages.Blocks.{event_path_tree, optional_number, path_of, place_named}
use Rattle.mt_model.specs.messages.Status.{code_of}
use Rattle.mt_model.specs.declared.messages.message.Happened.{Happened}
use Rattle.mt_model.specs.declared.messages.message.Item.{Item}
use Rattle.mt_model.specs.declared.messages.message.Item.TheVariants.{Event, EventRefused}
use Rattle.mt_model.specs.declared.messages.message.Path.{Path}
use Rattle.mt_model.specs.declared.messages.status.Status.{Status}
use Rattle.mt_model.specs.declared.messages.status.Status.TheVariants.{UnsupportedAccess}
use Rattle.mt_model.specs.declared.rows.place.Place.{Place}
use Rattle.mt_events.specs.Reading.{Asking, is_told, may_see, missing_items, refusal_at, refusal_of, refusals}
use Rattle.mt_events.specs.Telling.{answered, bytes_of, fitting, size_of, told_events}

bytes_many : (k n : ℕ) → length (little_endian k n) ≡ k
bytes_many zero n = refl
bytes_many (suc k) n = let rest = bytes_many k (n / 256) in omega (arith, rest)

by_width : (a b c : Bool) → 2 ^ (if a then 0 else if b then 1 else if c then 2 else 3) ≤ 8
by_width true b c = lit≤ tt
by_width false true c = lit≤ tt
by_width false false true = lit≤ tt
by_width false false false = lit≤ tt

-- a number takes 8 bytes at most
number_short : (n : ℕ) → length (narrow_unsigned n) ≤ 8
number_short n = let wide = by_width (nat_lt n (2 ^ 8)) (nat_lt n (2 ^ 16)) (nat_lt n (2 ^ 32)) in let long = bytes_many (2 ^ width_of n) n in omega (arith, wide, long)

one_number : (tag : ℕ) (n : Option ℕ) (others : Elements) → length (narrow_elements (optional_number tag n others)) ≤ 10 + length (narrow_elements others)
one_number tag None others = omega arith
one_number tag (Some n) others = let short = number_short n in omega (arith, short, length-append (narrow_unsigned n) (narrow_elements others))

path_short : (path : Path) → length (length_and_value (event_path_tree path)) ≤ 31
path_short path =
    let last = optional_number 3 path.leaf none in
    let middle = optional_number 2 path.cluster last in
    let one = one_number 1 path.endpoint middle in
    let two = one_number 2 path.cluster last in
    let three = one_number 3 path.leaf none in
    simp length-append (omega (arith, one, two, three))

-- a field of a structure, and a structure
field_long : (n : ℕ) (v : Tree) (others : Elements) → length (narrow_elements (more (Context n) v others)) ≡ 2 + length (length_and_value v) + length (narrow_elements others)
field_long n v others = omega (arith, length-append (length_and_value v) (narrow_elements others))

structure_long : (es : Elements) → length (length_and_value (structure es)) ≡ length (narrow_elements es) + 1
structure_long es = length-append (narrow_elements es) (end_of_container ∷ [])

-- a refusal takes 51 bytes at most
refusal_short : (place : Place) (code : ℕ) → size_of (EventRefused (path_of place) code) ≤ 51
refusal_short place code =
    let path = event_path_tree (path_of place) in
    let status = more (Context 0) (uint code) none in
    let refused = more (Context 0) path (more (Context 1) (structure status) none) in
    let report = more (Context 0) (structure refused) none in
    let whole : size_of (EventRefused (path_of place) code) ≡ 1 + length (length_and_value (structure report)) = omega arith in
    let number : length (narrow_elements status) ≡ 2 + length (narrow_unsigned code) + 0 = field_long 0 (uint code) none in
    let path_only = path_short (path_of place) in
    let number_only = number_short code in
    omega (
      arith,
      whole,
      number,
      path_only,
      number_only,
      structure_long report,
      field_long 0 (structure refused) none,
      structure_long refused,
      field_long 0 path (more (Context 1) (structure status) none),
      field_long 1 (structure status) none,
      structure_long status,
    )

one_size : (item : Item) → bytes_of (item ∷ []) ≡ size_of item
one_size item = omega (arith, sum_by-cons size_of item [])

refused_short : (asking : Asking) (place : Place) → bytes_of (refusal_at asking place) ≤ 51
refused_short asking place = go (may_see asking place) (find_event_of place)
  where
    missing : (there : Result EventMeta Status) → bytes_of (missing_items place there) ≤ 51
    missing (Ok meta) = omega arith
    missing (Err status) = omega (arith, one_size (EventRefused (path_of place) (code_of status)), refusal_short place (code_of status))

    go : (may : Bool) (there : Result EventMeta Status) → bytes_of (if may then missing_items place there else EventRefused (path_of place) (code_of UnsupportedAccess) ∷ []) ≤ 51
    go true there = missing there
    go false there = omega (arith, one_size (EventRefused (path_of place) (code_of UnsupportedAccess)), refusal_short place (code_of UnsupportedAccess))

path_refused : (asking : Asking) (there : Option Place) → bytes_of (refusal_of asking there) ≤ 51
path_refused asking None = omega arith
path_refused asking (Some place) = refused_short asking place

paths_refused : (asking : Asking) (paths : List Path) → bytes_of (flat_map (λ path. refusal_of asking (place_named path)) paths) ≤ 51 * length paths
paths_refused asking [] = omega arith
paths_refused asking (path ∷ paths) =
    let here = path_refused asking (place_named path) in
    let rest = paths_refused asking paths in
    let both = sum_by-append size_of (refusal_of asking (place_named path)) (flat_map (λ path. refusal_of asking (place_named path)) paths) in
    omega (arith, here, rest, both)

pub refusals_short : (asking : Asking) → length asking.paths ≤ 16 → bytes_of (refusals asking) ≤ 1176
refusals_short asking few = omega (arith, few, paths_refused asking asking.paths)

pub fitting_short : (room : ℕ) (es : List Happened) → bytes_of (fitting room es) ≤ room
fitting_short room [] = omega arith
fitting_short room (e ∷ es) = elim (cases_Bool (nat_le (size_of (Event e)) room)) [
  | inl fits ↦
      let low : size_of (Event e) ≤ room = leb-true (size_of (Event e)) room fits in
      let rest = fitting_short (room - size_of (Event e)) es in
      let is = ap (λ (l : List Item). bytes_of l) (cond-true (nat_le (size_of (Event e)) room) (Event e ∷ fitting (room - size_of (Event e)) es) [] fits) in
      let all = sum_by-cons size_of (Event e) (fitting (room - size_of (Event e)) es) in
      omega (arith, low, rest, is, all)
  | inr fails ↦
      let is = ap (λ (l : List Item). bytes_of l) (cond-false (nat_le (size_of (Event e)) room) (Event e ∷ fitting (room - size_of (Event e)) es) [] fails) in
      omega (arith, is)
]

pub answered_short : (asking : Asking) (rings : List (List Happened)) → length asking.paths ≤ 16 → bytes_of (answered asking rings) ≤ 1176
answered_short asking rings few =
    let refused = refusals asking in
    let first = refusals_short asking few in
    let rest = fitting_short (1176 - bytes_of refused) (told_events asking rings) in
    let both = sum_by-append size_of refused (fitting (1176 - bytes_of refused) (told_events asking rings)) in
    omega (arith, first, rest, both)

-- one item more
pub bytes_more : (items : List Item) (i : ℕ) (item : Item) → i < length items → item ≡ get_or items i item → bytes_of (take (i + 1) items) ≡ bytes_of (take i items) + size_of item
bytes_more items i item lt is = sum_by_more size_of items i item lt ∙ ap (λ (x : Item). bytes_of (take i items) + size_of x) (sym is)

-- an event that the room does not take is told no more, nor is one behind it
pub no_room : (asking : Asking) (e : Happened) (es all : List Happened) (room size : ℕ) → all ≡ e ∷ es → is_told asking e ≡ true → size ≡ min (size_of (Event e)) (2 ^ 64 - 1) → room < size → fitting room (filter (is_told asking) all) ≡ []
no_room asking e es all room size is may long over =
    let first : filter (is_told asking) all ≡ e ∷ filter (is_told asking) es = ap (λ (l : List Happened). filter (is_told asking) l) is ∙ cond-true (is_told asking e) (e ∷ filter (is_told asking) es) (filter (is_told asking) es) may in
    let above : room < size_of (Event e) = omega (arith, long, over) in
    ap (λ (l : List Happened). fitting room l) first
    ∙ cond-false (nat_le (size_of (Event e)) room) (Event e ∷ fitting (room - size_of (Event e)) (filter (is_told asking) es)) [] (lt-leb (size_of (Event e)) room above)
