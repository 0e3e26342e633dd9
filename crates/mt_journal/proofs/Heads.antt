-- How a file is read by what stands in front of it.
use Rattle.std.proofs.Common.{◌≡◌, ⊎_elim, ℕ, zero, suc, ◌+◌, ◌-◌, ◌≤◌, ◌<◌, Bool, true, false, List, [], ◌∷◌, ◌++◌, length, take, drop, get_or, refl, sym, ap, ◌∙◌, arith}
use Rattle.std.specs.Prelude.{Ok, Err, None, nat_lt, ◌==◌, if◌then◌else◌}
use Rattle.std.proofs.lemmas.Bool.{cases_eq, cases_lt, le-ltb, lt-ltb}
use Rattle.std.proofs.lemmas.Bool.Decides.{nat_tests}
use Rattle.std.proofs.lemmas.List.{drop_all, drop_more, take-append-drop, length-drop, length-take}
use Rattle.mt_journal.specs.Layout.{MayFollow, Reads, Records, ◌>>=◌, is_log, is_move, is_open, length_of, marks_move, journal_at, list_of_slot, log_at, log_list, log_mark, mark, mark_for, marked_at, names_slot_one, same_front, slot_at, slot_start, slots_at}
use Rattle.mt_journal.specs.Recovering.{OpenRead}
use Rattle.mt_journal.specs.Standing.{HasHead, HasUpTo}
use Rattle.mt_journal.proofs.Lists.{same_byte, same_earlier, same_part}
use Rattle.mt_journal.proofs.Pieces.{go_on-none, if_false, if_true, marks_of, move_is}
use Rattle.mt_journal.proofs.Walking.{ends_closed, ends_moved}

-- all of a mark is there
pub front_whole : (xs ys : List ℕ) → same_front xs ys ≡ length xs → take (length xs) ys ≡ xs
front_whole [] ys all = refl
front_whole (x ∷ xs) [] all = absurd (omega arith)
front_whole (x ∷ xs) (y ∷ ys) all = ⊎_elim
    (λ (same : x ≡ y).
    (let more : same_front xs ys ≡ length xs = grind (arith, nat_tests) in
    ap (λ (l : List ℕ). y ∷ l) (front_whole xs ys more) ∙ ap (λ (b : ℕ). b ∷ xs) (sym same)))
    (λ differ. absurd (grind (arith, nat_tests)))
    (cases_eq x y)

-- no more than the mark is looked at
pub front_of_part : (xs ys : List ℕ) (n : ℕ) → length xs ≤ n → same_front xs (take n ys) ≡ same_front xs ys
front_of_part [] ys n fits = refl
front_of_part (x ∷ xs) ys zero fits = absurd (omega arith)
front_of_part (x ∷ xs) [] (suc n) fits = refl
front_of_part (x ∷ xs) (y ∷ ys) (suc n) fits = ap (λ (k : ℕ). if x == y then suc k else 0) (front_of_part xs ys n (omega arith))

-- what the first nine bytes tell
pub head_of : (file head : List ℕ) → head ≡ take 9 file → same_front mark head ≡ 8 → get_or head 8 0 ≡ 0x5a → 9 ≤ length file → take 9 file ≡ mark ++ 0x5a ∷ []
head_of file head is all gate long =
    let size : length head ≡ 9 = omega (arith, ap length is, length-take 9 file, long) in
    let rest : drop 8 head ≡ 0x5a ∷ [] = drop_more head 8 0 (omega (arith, size)) ∙ ap (λ (b : ℕ). b ∷ drop 9 head) gate ∙ ap (λ (l : List ℕ). 0x5a ∷ l) (drop_all 9 head (omega (arith, size))) in
    sym is ∙ sym (take-append-drop 8 head) ∙ ap (λ (l : List ℕ). l ++ drop 8 head) (front_whole mark head all) ∙ ap (λ (l : List ℕ). mark ++ l) rest

-- a file of more than nine bytes is read by its mark
pub by_mark : (is_image : List ℕ → Bool) (may_follow : MayFollow) (old : Bool) (file : List ℕ) → take 8 file ≡ mark_for old → 10 ≤ length file → journal_at is_image may_follow file ≡ marked_at is_image may_follow old file
by_mark is_image may_follow old file head many =
    if_false (nat_lt (length file) 10) (Ok []) (body (is_log file)) (le-ltb (length file) 10 many)
    ∙ ap body (tells old whole)
    ∙ if_false (nat_lt (same_front (mark_for old) file) 8) (Err (same_front (mark_for old) file)) (marked_at is_image may_follow old file) (ap (λ (k : ℕ). nat_lt k 8) (all old whole))
  where
    body : Bool → Reads (List (List ℕ))
    body b = if nat_lt (same_front (mark_for b) file) 8 then Err (same_front (mark_for b) file) else marked_at is_image may_follow b file

    whole : file ≡ mark_for old ++ drop 8 file
    whole = sym (take-append-drop 8 file) ∙ ap (λ (l : List ℕ). l ++ drop 8 file) head

    tells : (b : Bool) → file ≡ mark_for b ++ drop 8 file → is_log file ≡ b
    tells true is = ap is_log is
    tells false is = ap is_log is

    all : (b : Bool) → file ≡ mark_for b ++ drop 8 file → same_front (mark_for b) file ≡ 8
    all true is = ap (λ (l : List ℕ). same_front log_mark l) is
    all false is = ap (λ (l : List ℕ). same_front mark l) is

-- the mark is none
pub mark_wrong : (is_image : List ℕ → Bool) (may_follow : MayFollow) (old : Bool) (file : List ℕ) → is_log file ≡ old → 10 ≤ length file → same_front (mark_for old) file < 8 → journal_at is_image may_follow file ≡ Err (same_front (mark_for old) file)
mark_wrong is_image may_follow old file is many few =
    let body : Bool → Reads (List (List ℕ)) = λ b. if nat_lt (same_front (mark_for b) file) 8 then Err (same_front (mark_for b) file) else marked_at is_image may_follow b file in
    if_false (nat_lt (length file) 10) (Ok []) (body (is_log file)) (le-ltb (length file) 10 many)
    ∙ ap body is
    ∙ if_true (nat_lt (same_front (mark_for old) file) 8) (Err (same_front (mark_for old) file)) _ (lt-ltb (same_front (mark_for old) file) 8 few)

-- A file with no record.

pub few_bytes : (is_image : List ℕ → Bool) (may_follow : MayFollow) (file : List ℕ) → length file ≤ 9 → journal_at is_image may_follow file ≡ Ok []
few_bytes is_image may_follow file few = if_true (nat_lt (length file) 10) (Ok []) _ (lt-ltb (length file) 10 (omega arith))

pub no_record : (is_image : List ℕ → Bool) (may_follow : MayFollow) (file : List ℕ) → take 8 file ≡ mark → is_open (get_or file 8 0) ≡ false → journal_at is_image may_follow file ≡ Ok []
no_record is_image may_follow file head shut = ⊎_elim
    (λ (few : length file < 10). few_bytes is_image may_follow file (omega arith))
    (λ (many : 10 ≤ length file). (by_mark is_image may_follow false file head many ∙ if_false (is_open (get_or file 8 0)) (slots_at is_image may_follow 9 file) (Ok []) shut))
    (cases_lt (length file) 10)

-- Slots behind selectors.

-- the selectors behind an open begin gate are read
pub begin_opens : (is_image : List ℕ → Bool) (may_follow : MayFollow) (file : List ℕ) → take 9 file ≡ mark ++ 0x5a ∷ [] → 10 ≤ length file → journal_at is_image may_follow file ≡ slots_at is_image may_follow 9 file
begin_opens is_image may_follow file head many =
    let whole : file ≡ (mark ++ 0x5a ∷ []) ++ drop 9 file = sym (take-append-drop 9 file) ∙ ap (λ (l : List ℕ). l ++ drop 9 file) head in
    by_mark is_image may_follow false file (ap (λ (l : List ℕ). take 8 l) whole) many
    ∙ if_true (is_open (get_or file 8 0)) (slots_at is_image may_follow 9 file) (Ok []) (ap (λ (l : List ℕ). is_open (get_or l 8 0)) whole)

pub begin_head : (is_image : List ℕ → Bool) (may_follow : MayFollow) (file : List ℕ) → take 9 file ≡ mark ++ 0x5a ∷ [] → HasHead is_image may_follow 9 file
begin_head is_image may_follow file head other same long many = begin_opens is_image may_follow other (same ∙ head) many

-- a file whose selectors are these is read from the slot that they name
pub by_selectors : (is_image : List ℕ → Bool) (may_follow : MayFollow) (base : ℕ) (file : List ℕ) (p0 p1 : ℕ) → base + 2 ≤ length file → get_or file base 0 ≡ p0 → get_or file (base + 1) 0 ≡ p1
    → slots_at is_image may_follow base file ≡ (slot_at is_image may_follow (slot_start base (names_slot_one p0 p1)) file >>= list_of_slot)
by_selectors is_image may_follow base file p0 p1 long first second =
    if_false (nat_lt (length file) (base + 2)) (Err (length file)) _ (le-ltb (length file) (base + 2) long)
    ∙ ap (λ (p : ℕ). slot_at is_image may_follow (slot_start base (names_slot_one p (get_or file (base + 1) 0))) file >>= list_of_slot) first
    ∙ ap (λ (p : ℕ). slot_at is_image may_follow (slot_start base (names_slot_one p0 p)) file >>= list_of_slot) second

-- selectors that are cut off
pub no_selectors : (is_image : List ℕ → Bool) (may_follow : MayFollow) (base : ℕ) (file : List ℕ) → length file < base + 2 → slots_at is_image may_follow base file ≡ Err (length file)
no_selectors is_image may_follow base file few = if_true (nat_lt (length file) (base + 2)) (Err (length file)) _ (lt-ltb (length file) (base + 2) few)

-- A log.

module _ (is_image : List ℕ → Bool) (may_follow : MayFollow) (gate : ℕ) (list : List (List ℕ)) (file : List ℕ) (head : take 8 file ≡ log_mark) (many : 10 ≤ length file) (far : 8 ≤ gate) (log : HasUpTo (log_at may_follow) may_follow None 8 gate list file) where
  marked : (other : List ℕ) → take gate other ≡ take gate file → 10 ≤ length other → journal_at is_image may_follow other ≡ (log_at may_follow other >>= log_list is_image may_follow other)
  marked other same long = by_mark is_image may_follow true other (same_earlier other file 8 gate (omega (arith, far)) same ∙ head) long

  pub log_closed : (other : List ℕ) → take gate other ≡ take gate file → 10 ≤ length other → gate < length other → is_open (get_or other gate 0) ≡ false → journal_at is_image may_follow other ≡ Ok list
  log_closed other same long there shut =
      marked other same long
      ∙ ap (λ (r : Reads Records). r >>= log_list is_image may_follow other)
      (ends_closed (log_at may_follow) may_follow None 8 gate list file far log other (same_part other file 8 gate far same) there shut ∙ go_on-none list)

  pub log_moved : (other : List ℕ) → take gate other ≡ take gate file → 10 ≤ length other → OpenRead gate other → is_move None (drop (gate + 1) other) ≡ true → journal_at is_image may_follow other ≡ slots_at is_image may_follow (gate + 5) other
  log_moved other same long open_ is =
      marked other same long
      ∙ ap (λ (r : Reads Records). r >>= log_list is_image may_follow other) (ends_moved (log_at may_follow) may_follow None 8 gate list file far log other (same_part other file 8 gate far same) open_ is)

  -- so the slots behind the mark of a move are read in each file that is the same up to there
  pub moved_head : OpenRead gate file → is_move None (drop (gate + 1) file) ≡ true → HasHead is_image may_follow (gate + 5) file
  moved_head open_ is other same there long =
      let before = same_earlier other file gate (gate + 5) (omega arith) same in
      let byte : get_or other gate 0 ≡ get_or file gate 0 = same_byte other file gate (gate + 5) (omega arith) same in
      let size : gate + 5 - (gate + 1) ≡ 4 = omega arith in
      let field : take 4 (drop (gate + 1) other) ≡ take 4 (drop (gate + 1) file) =
      ap (λ (k : ℕ). take k (drop (gate + 1) other)) (sym size) ∙ same_part other file (gate + 1) (gate + 5) (omega arith) same ∙ ap (λ (k : ℕ). take k (drop (gate + 1) file)) size in
      let too : OpenRead gate other = record { there = omega (arith, there); opens = ap is_open byte ∙ open_.opens } in
      log_moved other before long too
      (move_is None (drop (gate + 1) other) (omega (arith, length-drop (gate + 1) other, there)) (ap (λ (l : List ℕ). marks_move None (length_of l)) field ∙ marks_of None (drop (gate + 1) file) is))
