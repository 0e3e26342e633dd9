-- How an image or a change that was laid out is read again.
use Rattle.std.proofs.Common.{◌≡◌, ℕ, zero, suc, ◌+◌, ◌≤◌, ◌<◌, Bool, true, false, List, [], ◌∷◌, ◌++◌, length, take, drop, refl, sym, ap, ◌∙◌, arith, append_assoc}
use Rattle.std.specs.Prelude.{Ok, Err, Option, Some, None, nat_lt, ◌||◌, ◌&&◌, not, if◌then◌else◌}
use Rattle.std.proofs.lemmas.Bool.{le-ltb, lt-ltb}
use Rattle.std.proofs.lemmas.Bool.Decides.{nat_tests}
use Rattle.std.proofs.lemmas.List.{append-nil, drop_at, take_at, drop-drop, length-append}
use Rattle.mt_journal.specs.Layout.{MayFollow, Reads, Records, ◌>>=◌, after_one, is_move, marks_move, is_open, is_past, length_of, piece_at, records_at}
use Rattle.mt_journal.specs.Standing.{go_on, length_field}

-- the four bytes of a length stand for it
pub length_field-back : (count : ℕ) → count < 4294967296 → length_of (length_field count) ≡ count
length_field-back count fits = omega arith

pub if_false : {A : Type 0} (test : Bool) (x y : A) → test ≡ false → (if test then x else y) ≡ y
if_false test x y is = ap (λ (b : Bool). if b then x else y) is

pub if_true : {A : Type 0} (test : Bool) (x y : A) → test ≡ true → (if test then x else y) ≡ x
if_true test x y is = ap (λ (b : Bool). if b then x else y) is

-- a length that is another is no mark of a move
pub no_move : (limit : Option ℕ) (rest : List ℕ) → marks_move limit (length_of (take 4 rest)) ≡ false → is_move limit rest ≡ false
no_move limit rest differs = ap (λ (b : Bool). not (nat_lt (length rest) 4) && b) differs ∙ and_false (not (nat_lt (length rest) 4))
  where
    and_false : (b : Bool) → (b && false) ≡ false
    and_false true = refl
    and_false false = refl

-- nor is one that is short enough
pub short_is_no_move : (limit : Option ℕ) (rest : List ℕ) → length_of (take 4 rest) ≤ 65536 → is_move limit rest ≡ false
short_is_no_move limit rest short = no_move limit rest (other limit)
  where
    other : (l : Option ℕ) → marks_move l (length_of (take 4 rest)) ≡ false
    other (Some end) = refl
    other None = grind (arith, nat_tests)

-- neither is a length that is cut off
pub cut_is_no_move : (limit : Option ℕ) (rest : List ℕ) → length rest < 4 → is_move limit rest ≡ false
cut_is_no_move limit rest few = ap (λ (b : Bool). not b && marks_move limit (length_of (take 4 rest))) (lt-ltb (length rest) 4 few)

pub move_is : (limit : Option ℕ) (rest : List ℕ) → 4 ≤ length rest → marks_move limit (length_of (take 4 rest)) ≡ true → is_move limit rest ≡ true
move_is limit rest long is = ap (λ (b : Bool). not b && marks_move limit (length_of (take 4 rest))) (le-ltb (length rest) 4 long) ∙ is

pub marks_of : (limit : Option ℕ) (rest : List ℕ) → is_move limit rest ≡ true → marks_move limit (length_of (take 4 rest)) ≡ true
marks_of limit rest is = second (not (nat_lt (length rest) 4)) (marks_move limit (length_of (take 4 rest))) is
  where
    second : (a b : Bool) → (a && b) ≡ true → b ≡ true
    second true b both = both
    second false true both = refl
    second false false both = both

-- a piece that ends before the limit is read
pub piece_read : (is_piece : List ℕ → Bool) (whole : ℕ) (limit : Option ℕ) (place : ℕ) (piece tail : List ℕ) → length piece ≤ 65536 → is_past limit (place + 5 + length piece) ≡ false → is_piece piece ≡ true
    → piece_at is_piece whole limit place (length_field (length piece) ++ (piece ++ tail)) ≡ Ok (piece, tail)
piece_read is_piece whole limit place piece tail short within is =
    let n = length piece in
    let rest : List ℕ = length_field n ++ (piece ++ tail) in
    let long : length rest ≡ 4 + (n + length tail) = omega (arith, length-append piece tail) in
    let count : length_of (take 4 rest) ≡ n = length_field-back n (omega arith) in
    let A : Reads (List ℕ × List ℕ) = Err whole in
    let body : ℕ → Reads (List ℕ × List ℕ) = λ count.
    if nat_lt 65536 count || is_past limit (place + 5 + count) then Err place
    else if nat_lt (length rest) (4 + count) then Err whole
    else if is_piece (take count (drop 4 rest)) then Ok (take count (drop 4 rest), drop (4 + count) rest)
    else Err (place + 4) in
    let front : take n (piece ++ tail) ≡ piece = take_at piece tail n refl in
    let back : drop n (piece ++ tail) ≡ tail = drop_at piece tail n refl in
    let small : (nat_lt 65536 n || is_past limit (place + 5 + n)) ≡ false = rw (le-ltb 65536 n short) within in
    let enough : nat_lt (length rest) (4 + n) ≡ false = le-ltb (length rest) (4 + n) (omega (arith, long)) in
    let whole_piece : is_piece (take n (piece ++ tail)) ≡ true = ap is_piece front ∙ is in
    let last : drop (4 + n) rest ≡ tail = sym (drop-drop n 4 rest) ∙ back in
    if_false (nat_lt (length rest) 4) A (body (length_of (take 4 rest))) (le-ltb (length rest) 4 (omega (arith, long)))
    ∙ ap body count
    ∙ if_false (nat_lt 65536 n || is_past limit (place + 5 + n)) (Err place) _ small
    ∙ if_false (nat_lt (length rest) (4 + n)) (Err whole) _ enough
    ∙ if_true (is_piece (take n (piece ++ tail))) (Ok (take n (piece ++ tail), drop (4 + n) rest)) (Err (place + 4)) whole_piece
    ∙ ap (λ (p : List ℕ). Ok (p, drop (4 + n) rest)) front
    ∙ ap (λ (t : List ℕ). Ok (piece, t)) last

-- no record follows
abbrev pub no_more : Records
no_more = record { changes = []; moved = None }

module _ (may_follow : MayFollow) (whole : ℕ) (limit : Option ℕ) where
  -- bytes that are passed over
  pub passed_over : (list : List (List ℕ)) (bytes tail : List ℕ) (behind place : ℕ) → behind ≡ length bytes → records_at may_follow whole limit list behind place (bytes ++ tail) ≡ records_at may_follow whole limit list 0 (place + length bytes) tail
  passed_over list [] tail zero place is = ap (λ (p : ℕ). records_at may_follow whole limit list 0 p tail) (omega arith)
  passed_over list [] tail (suc behind) place is = absurd (omega arith)
  passed_over list (byte ∷ bytes) tail zero place is = absurd (omega arith)
  passed_over list (byte ∷ bytes) tail (suc behind) place is =
      passed_over list bytes tail behind (place + 1) (omega arith) ∙ ap (λ (p : ℕ). records_at may_follow whole limit list 0 p tail) (omega arith)

  -- a closed gate ends the records
  pub closed_gate : (list : List (List ℕ)) (gate place : ℕ) (rest : List ℕ) → is_open gate ≡ false → records_at may_follow whole limit list 0 place (gate ∷ rest) ≡ Ok no_more
  closed_gate list gate place rest shut = if_false (is_open gate) _ (Ok no_more) shut

  -- behind an open gate a change is read
  pub open_gate : (list : List (List ℕ)) (place : ℕ) (change tail : List ℕ) → length change ≤ 65536 → is_past limit (place + 1 + 5 + length change) ≡ false → may_follow list change ≡ true
      → records_at may_follow whole limit list 0 place (0x5a ∷ length_field (length change) ++ (change ++ tail)) ≡ (records_at may_follow whole limit (list ++ change ∷ []) 0 (place + 5 + length change) tail >>= after_one change)
  open_gate list place change tail short within is =
      let n = length change in
      let more : List (List ℕ) = list ++ change ∷ [] in
      let rest : List ℕ = length_field n ++ (change ++ tail) in
      let stays : is_move limit rest ≡ false = short_is_no_move limit rest (omega (arith, length_field-back n (omega arith), short)) in
      let go : Reads (List ℕ × List ℕ) → Reads Records = λ read. (read >>= λ piece. records_at may_follow whole limit (list ++ piece.0 ∷ []) (4 + length piece.0) (place + 1) rest >>= after_one piece.0) in
      let over : records_at may_follow whole limit more (4 + n) (place + 1) rest ≡ records_at may_follow whole limit more 0 (place + 5 + n) tail =
      ap (λ (l : List ℕ). records_at may_follow whole limit more (4 + n) (place + 1) l) (sym (append_assoc (length_field n) change tail))
      ∙ passed_over more (length_field n ++ change) tail (4 + n) (place + 1) (omega (arith, length-append (length_field n) change))
      ∙ ap (λ (p : ℕ). records_at may_follow whole limit more 0 p tail) (omega (arith, length-append (length_field n) change)) in
      if_false (is_move limit rest) _ (go (piece_at (may_follow list) whole limit (place + 1) rest)) stays
      ∙ ap go (piece_read (may_follow list) whole limit (place + 1) change tail short within is)
      ∙ ap (λ (r : Reads Records). r >>= after_one change) over

-- more changes after one more
pub go_on-push : (list : List (List ℕ)) (change : List ℕ) (rest : Reads Records) → ((rest >>= after_one change) >>= go_on list) ≡ (rest >>= go_on (list ++ change ∷ []))
go_on-push list change (Ok records) = ap (λ (l : List (List ℕ)). Ok (record { changes = l; moved = records.moved })) (sym (append_assoc list (change ∷ []) records.changes))
go_on-push list change (Err place) = refl

pub go_on-none : (list : List (List ℕ)) → go_on list no_more ≡ Ok (record { changes = list; moved = None })
go_on-none list = ap (λ (l : List (List ℕ)). Ok (record { changes = l; moved = None })) (append-nil list)
