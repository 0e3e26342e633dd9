-- Lists that are the same up to a place, or from one on.
use Rattle.std.proofs.Common.{◌≡◌, ℕ, ◌+◌, ◌-◌, ◌≤◌, ◌<◌, min, max, List, [], ◌∷◌, ◌++◌, length, take, drop, replicate, get_or, sym, ap, ◌∙◌, arith, append_assoc}
use Rattle.std.proofs.lemmas.List.{append-nil, drop_more, drop_at, take_at, drop-drop, drop-take, take-append-drop, take-take, length-append, length-take, length-drop, length-replicate, get_or-drop, get_or-take}
use Rattle.mt_outside.specs.Disk.{CutShort, overwritten}

-- up to an earlier place too
pub same_earlier : (a b : List ℕ) (m n : ℕ) → m ≤ n → take n a ≡ take n b → take m a ≡ take m b
same_earlier a b m n le same = sym (take-take m n a le) ∙ ap (λ (l : List ℕ). take m l) same ∙ take-take m n b le

pub same_byte : (a b : List ℕ) (i n : ℕ) → i < n → take n a ≡ take n b → get_or a i 0 ≡ get_or b i 0
same_byte a b i n lt same = sym (get_or-take n a i 0 lt) ∙ ap (λ (l : List ℕ). get_or l i 0) same ∙ get_or-take n b i 0 lt

-- a part of what is the same
pub same_part : (a b : List ℕ) (from n : ℕ) → from ≤ n → take n a ≡ take n b → take (n - from) (drop from a) ≡ take (n - from) (drop from b)
same_part a b from n le same =
    let is : n ≡ from + (n - from) = omega arith in
    sym (drop-take from (n - from) a)
    ∙ ap (λ (k : ℕ). drop from (take k a)) (sym is)
    ∙ ap (λ (l : List ℕ). drop from l) same
    ∙ ap (λ (k : ℕ). drop from (take k b)) is
    ∙ drop-take from (n - from) b

-- so it is as long
pub as_long : (a b : List ℕ) (n : ℕ) → n ≤ length b → take n a ≡ take n b → n ≤ length a
as_long a b n fits same = omega (arith, length-take n a, length-take n b, ap length same)

-- Writes.

pub overwritten_within : (at : ℕ) (bytes old : List ℕ) → at ≤ length old → overwritten at bytes old ≡ take at old ++ (bytes ++ drop (at + length bytes) old)
overwritten_within at bytes old within =
    let none : at - length old ≡ 0 = omega arith in
    ap (λ (k : ℕ). take at old ++ replicate k 0 ++ bytes ++ drop (at + length bytes) old) none
    ∙ ap (λ (l : List ℕ). l ++ bytes ++ drop (at + length bytes) old) (append-nil (take at old))
    ∙ append_assoc (take at old) bytes (drop (at + length bytes) old)

module _ (at : ℕ) (bytes old : List ℕ) (within : at ≤ length old) where
  pub before_written : take at (overwritten at bytes old) ≡ take at old
  before_written = ap (λ (l : List ℕ). take at l) (overwritten_within at bytes old within) ∙ take_at (take at old) (bytes ++ drop (at + length bytes) old) at (omega (arith, length-take at old))

  pub from_written : drop at (overwritten at bytes old) ≡ bytes ++ drop (at + length bytes) old
  from_written = ap (λ (l : List ℕ). drop at l) (overwritten_within at bytes old within) ∙ drop_at (take at old) (bytes ++ drop (at + length bytes) old) at (omega (arith, length-take at old))

  pub length_written : length (overwritten at bytes old) ≡ max (length old) (at + length bytes)
  length_written =
      omega (arith, ap length (overwritten_within at bytes old within), length-append (take at old) (bytes ++ drop (at + length bytes) old), length-append bytes (drop (at + length bytes) old), length-take at old, length-drop (at + length bytes) old)

-- before a write that is cut short, within the old file
pub before_cut : (at n : ℕ) (old new : List ℕ) → at ≤ length old → CutShort at n old new → take at new ≡ take at old
before_cut at n old new within cut = let is : min at (length old) ≡ at = omega arith in ap (λ (k : ℕ). take k new) (sym is) ∙ cut.before

-- a file that the write of one byte may have left: that byte may be any
pub one_byte : (at : ℕ) (old new : List ℕ) → at < length old → CutShort at 1 old new → drop at new ≡ get_or new at 0 ∷ drop (at + 1) old
one_byte at old new there cut = drop_more new at 0 (omega (arith, cut.no_shorter)) ∙ ap (λ (l : List ℕ). get_or new at 0 ∷ l) cut.after

-- Writes that may leave a gap.

module _ (at : ℕ) (bytes old : List ℕ) where
  abbrev filled : List ℕ
  filled = take at old ++ replicate (at - length old) 0

  length-filled : length filled ≡ at
  length-filled = omega (arith, length-append (take at old) (replicate (at - length old) 0), length-take at old, length-replicate {A = ℕ} (at - length old) 0)

  pub from_put : drop at (overwritten at bytes old) ≡ bytes ++ drop (at + length bytes) old
  from_put = ap (λ (l : List ℕ). drop at l) (append_assoc filled bytes (drop (at + length bytes) old)) ∙ drop_at filled (bytes ++ drop (at + length bytes) old) at length-filled

  pub length_put : length (overwritten at bytes old) ≡ max (length old) (at + length bytes)
  length_put = omega (arith, length-append (filled ++ bytes) (drop (at + length bytes) old), length-append filled bytes, length-filled, length-drop (at + length bytes) old)

  pub before_put : take (min at (length old)) (overwritten at bytes old) ≡ take at old
  before_put =
      ap (λ (l : List ℕ). take (min at (length old)) l) (append_assoc filled bytes (drop (at + length bytes) old) ∙ append_assoc (take at old) (replicate (at - length old) 0) (bytes ++ drop (at + length bytes) old))
      ∙ take_at (take at old) (replicate (at - length old) 0 ++ (bytes ++ drop (at + length bytes) old)) (min at (length old)) (omega (arith, length-take at old))

-- a file that is the same before a write, at an earlier place
pub earlier_kept : (at n : ℕ) (old new : List ℕ) → n ≤ at → n ≤ length old → take (min at (length old)) new ≡ take at old → take n new ≡ take n old
earlier_kept at n old new le there same =
    sym (take-take n (min at (length old)) new (omega arith)) ∙ ap (λ (l : List ℕ). take n l) same ∙ take-take n at old le

-- and from a later place on
pub later_kept : (from at : ℕ) (old new : List ℕ) → from ≤ at → drop from new ≡ drop from old → drop at new ≡ drop at old
later_kept from at old new le same =
    let is : from + (at - from) ≡ at = omega arith in
    ap (λ (n : ℕ). drop n new) (sym is) ∙ sym (drop-drop (at - from) from new) ∙ ap (λ (l : List ℕ). drop (at - from) l) same ∙ drop-drop (at - from) from old ∙ ap (λ (n : ℕ). drop n old) is

-- One byte is written over.

module _ (at byte : ℕ) (old : List ℕ) (there : at < length old) where
  pub byte_from : drop at (overwritten at (byte ∷ []) old) ≡ byte ∷ drop (at + 1) old
  byte_from = from_written at (byte ∷ []) old (omega (arith, there))

  pub byte_there : get_or (overwritten at (byte ∷ []) old) at 0 ≡ byte
  byte_there = ap (λ (k : ℕ). get_or (overwritten at (byte ∷ []) old) k 0) (omega arith) ∙ sym (get_or-drop at (overwritten at (byte ∷ []) old) 0 0) ∙ ap (λ (l : List ℕ). get_or l 0 0) byte_from

  pub behind_byte : drop (at + 1) (overwritten at (byte ∷ []) old) ≡ drop (at + 1) old
  behind_byte = ap (λ (k : ℕ). drop k (overwritten at (byte ∷ []) old)) (omega arith) ∙ sym (drop-drop 1 at (overwritten at (byte ∷ []) old)) ∙ ap (λ (l : List ℕ). drop 1 l) byte_from

  pub next_byte : get_or (overwritten at (byte ∷ []) old) (at + 1) 0 ≡ get_or old (at + 1) 0
  next_byte =
      ap (λ (k : ℕ). get_or (overwritten at (byte ∷ []) old) k 0) (omega arith) ∙ sym (get_or-drop (at + 1) (overwritten at (byte ∷ []) old) 0 0)
      ∙ ap (λ (l : List ℕ). get_or l 0 0) behind_byte ∙ get_or-drop (at + 1) old 0 0 ∙ ap (λ (k : ℕ). get_or old k 0) (omega arith)

-- the front of a file and what comes behind it
pub put_together : (at : ℕ) (file front middle rest : List ℕ) → take at file ≡ front → drop at file ≡ middle ++ rest → at ≤ length file → take (at + length middle) file ≡ front ++ middle
put_together at file front middle rest before from long =
    let whole : file ≡ (front ++ middle) ++ rest = sym (take-append-drop at file) ∙ ap (λ (l : List ℕ). l ++ drop at file) before ∙ ap (λ (l : List ℕ). front ++ l) from ∙ sym (append_assoc front middle rest) in
    ap (λ (l : List ℕ). take (at + length middle) l) whole ∙ take_at (front ++ middle) rest (at + length middle) (omega (arith, length-append front middle, ap length before, length-take at file, long))

-- two bytes that were read
pub selectors_read : (file read : List ℕ) (base : ℕ) → read ≡ take 2 (drop base file) → 2 ≤ length read → (base + 2 ≤ length file) × (get_or file base 0 ≡ get_or read 0 0) × (get_or file (base + 1) 0 ≡ get_or read 1 0)
selectors_read file read base is two =
    let byte : (i : ℕ) → i < 2 → get_or file (base + i) 0 ≡ get_or read i 0 = λ i lt. (sym (get_or-drop base file i 0) ∙ sym (get_or-take 2 (drop base file) i 0 lt) ∙ ap (λ (l : List ℕ). get_or l i 0) (sym is)) in (
      omega (arith, ap length is, two, length-take 2 (drop base file), length-drop base file),
      ap (λ (k : ℕ). get_or file k 0) (omega arith) ∙ byte 0 (omega arith),
      byte 1 (omega arith),
    )
