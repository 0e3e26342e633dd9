-- What is read piece by piece.
use Rattle.std.proofs.Common.{◌≡◌, ◌≢◌, ⊎_elim, ℕ, ◌+◌, ◌≤◌, ◌<◌, Bool, true, false, List, length, take, drop, sym, ap, ◌∙◌, arith}
use Rattle.std.specs.Prelude.{Ok, Err, Option, nat_lt, ◌||◌, if◌then◌else◌}
use Rattle.std.proofs.lemmas.Bool.{cases_lt, le-ltb, lt-ltb}
use Rattle.std.proofs.lemmas.List.{drop-drop, drop-take, length-take, length-drop, take-take}
use Rattle.mt_journal.specs.Layout.{Reads, is_past, length_of, piece_at}
use Rattle.mt_journal.specs.Recovering.{LaysOut}
use Rattle.mt_journal.proofs.Pieces.{if_false, if_true}

-- what is read behind a length that was read
module _ (limit : Option ℕ) (place : ℕ) (file bytes : List ℕ) (n : ℕ) (four : 4 ≤ length (drop place file)) (n_is : n ≡ length_of (take 4 (drop place file)))
    (short : n ≤ 65536) (within : is_past limit (place + 5 + n) ≡ false) (bytes_is : bytes ≡ take n (drop (place + 4) file)) where
  abbrev rest : List ℕ
  rest = drop place file

  behind : drop 4 rest ≡ drop (place + 4) file
  behind = drop-drop 4 place file

  pub laid : length bytes ≡ n → LaysOut limit place rest bytes
  laid whole = record {
    count = sym n_is ∙ sym whole;
    there = omega (arith, four, whole, ap length bytes_is, length-take n (drop (place + 4) file), ap length behind, length-drop 4 rest);
    short = omega (arith, short, whole);
    within = ap (λ (k : ℕ). is_past limit (place + 5 + k)) whole ∙ within;
    bytes_are = ap (λ (k : ℕ). take k (drop 4 rest)) whole ∙ ap (λ (l : List ℕ). take n l) behind ∙ sym bytes_is;
  }

  pub cut_off : (is_piece : List ℕ → Bool) (whole : ℕ) → length bytes ≢ n → piece_at is_piece whole limit place rest ≡ Err whole
  cut_off is_piece whole differ =
      let few : length rest < 4 + n = ⊎_elim (λ lt. lt) (λ le. absurd (differ (omega (arith, le, ap length bytes_is, length-take n (drop (place + 4) file), ap length behind, length-drop 4 rest)))) (cases_lt (length rest) (4 + n)) in
      let body : ℕ → Reads (List ℕ × List ℕ) = λ count.
      if nat_lt 65536 count || is_past limit (place + 5 + count) then Err place
      else if nat_lt (length rest) (4 + count) then Err whole
      else if is_piece (take count (drop 4 rest)) then Ok (take count (drop 4 rest), drop (4 + count) rest)
      else Err (place + 4) in
      let small : (nat_lt 65536 n || is_past limit (place + 5 + n)) ≡ false = rw (le-ltb 65536 n short) within in
      if_false (nat_lt (length rest) 4) (Err whole) (body (length_of (take 4 rest))) (le-ltb (length rest) 4 four)
      ∙ ap body (sym n_is)
      ∙ if_false (nat_lt 65536 n || is_past limit (place + 5 + n)) (Err place) _ small
      ∙ if_true (nat_lt (length rest) (4 + n)) (Err whole) _ (lt-ltb (length rest) (4 + n) few)

-- a length that is too great, or leads past the limit
pub too_long : (is_piece : List ℕ → Bool) (whole : ℕ) (limit : Option ℕ) (place : ℕ) (rest : List ℕ) (n : ℕ) → 4 ≤ length rest → n ≡ length_of (take 4 rest)
    → (nat_lt 65536 n || is_past limit (place + 5 + n)) ≡ true → piece_at is_piece whole limit place rest ≡ Err place
too_long is_piece whole limit place rest n four n_is wrong =
    let body : ℕ → Reads (List ℕ × List ℕ) = λ count.
    if nat_lt 65536 count || is_past limit (place + 5 + count) then Err place
    else if nat_lt (length rest) (4 + count) then Err whole
    else if is_piece (take count (drop 4 rest)) then Ok (take count (drop 4 rest), drop (4 + count) rest)
    else Err (place + 4) in
    if_false (nat_lt (length rest) 4) (Err whole) (body (length_of (take 4 rest))) (le-ltb (length rest) 4 four)
    ∙ ap body (sym n_is)
    ∙ if_true (nat_lt 65536 n || is_past limit (place + 5 + n)) (Err place) _ wrong

-- a length that is cut off
pub no_length : (is_piece : List ℕ → Bool) (whole : ℕ) (limit : Option ℕ) (place : ℕ) (rest : List ℕ) → length rest < 4 → piece_at is_piece whole limit place rest ≡ Err whole
no_length is_piece whole limit place rest few = if_true (nat_lt (length rest) 4) (Err whole) _ (lt-ltb (length rest) 4 few)

-- what was laid out is read if it has the form
module _ (limit : Option ℕ) (place : ℕ) (rest bytes : List ℕ) (lies : LaysOut limit place rest bytes) (is_piece : List ℕ → Bool) (whole : ℕ) where
  abbrev size : ℕ
  size = length bytes

  tested : piece_at is_piece whole limit place rest ≡ (if is_piece bytes then Ok (bytes, drop (4 + size) rest) else Err (place + 4))
  tested =
      let body : ℕ → Reads (List ℕ × List ℕ) = λ count.
      if nat_lt 65536 count || is_past limit (place + 5 + count) then Err place
      else if nat_lt (length rest) (4 + count) then Err whole
      else if is_piece (take count (drop 4 rest)) then Ok (take count (drop 4 rest), drop (4 + count) rest)
      else Err (place + 4) in
      let small : (nat_lt 65536 size || is_past limit (place + 5 + size)) ≡ false = rw (le-ltb 65536 size lies.short) lies.within in
      let choose : List ℕ → Reads (List ℕ × List ℕ) = λ piece. if is_piece piece then Ok (piece, drop (4 + size) rest) else Err (place + 4) in
      if_false (nat_lt (length rest) 4) (Err whole) (body (length_of (take 4 rest))) (le-ltb (length rest) 4 (omega (arith, lies.there)))
      ∙ ap body lies.count
      ∙ if_false (nat_lt 65536 size || is_past limit (place + 5 + size)) (Err place) _ small
      ∙ if_false (nat_lt (length rest) (4 + size)) (Err whole) _ (le-ltb (length rest) (4 + size) lies.there)
      ∙ ap choose lies.bytes_are

  pub piece_found : is_piece bytes ≡ true → piece_at is_piece whole limit place rest ≡ Ok (bytes, drop (4 + size) rest)
  piece_found is = tested ∙ if_true (is_piece bytes) (Ok (bytes, drop (4 + size) rest)) (Err (place + 4)) is

  pub piece_refused : is_piece bytes ≡ false → piece_at is_piece whole limit place rest ≡ Err (place + 4)
  piece_refused is = tested ∙ if_false (is_piece bytes) (Ok (bytes, drop (4 + size) rest)) (Err (place + 4)) is

-- so it is in another file that is the same there
pub lies_too : (limit : Option ℕ) (place : ℕ) (rest bytes : List ℕ) → LaysOut limit place rest bytes → (other : List ℕ) → take (4 + length bytes) other ≡ take (4 + length bytes) rest → LaysOut limit place other bytes
lies_too limit place rest bytes lies other same = let size = length bytes in record {
  count = ap length_of (sym (take-take 4 (4 + size) other (omega arith)) ∙ ap (λ (l : List ℕ). take 4 l) same ∙ take-take 4 (4 + size) rest (omega arith)) ∙ lies.count;
  there = omega (arith, lies.there, ap length same, length-take (4 + size) other, length-take (4 + size) rest);
  short = lies.short;
  within = lies.within;
  bytes_are = sym (drop-take 4 size other) ∙ ap (λ (l : List ℕ). drop 4 l) same ∙ drop-take 4 size rest ∙ lies.bytes_are;
}
