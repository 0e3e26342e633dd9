-- What a file has after its first image was put behind a closed gate, and what a crash leaves meanwhile.
use Rattle.std.proofs.Common.{◌≡◌, inl, inr, ⊎_elim, ℕ, ◌+◌, ◌≤◌, ◌<◌, max, Bool, true, false, List, [], ◌∷◌, ◌++◌, length, take, drop, get_or, refl, sym, ap, subst, ◌∙◌, arith, append_assoc}
use Rattle.std.specs.Prelude.{Ok, None, Some}
use Rattle.std.proofs.lemmas.Bool.{cases_Bool}
use Rattle.std.proofs.lemmas.List.{drop_at, take_at, drop-drop, take-append-drop, length-append, length-drop, length-take, get_or-drop}
use Rattle.mt_outside.specs.Disk.{CutShort, overwritten}
use Rattle.mt_journal.specs.Committing.{Commits}
use Rattle.mt_journal.specs.Layout.{MayFollow, Reads, Records, ◌>>=◌, is_open, journal_at, length_of, list_of_slot, marks_move, slot_at, slot_length, slots_at}
use Rattle.mt_journal.specs.Recovering.{OpenRead}
use Rattle.mt_journal.specs.Standing.{HasEither, HasUpTo, IsBegun, IsInUse, IsLog, length_field}
use Rattle.mt_journal.specs.declared.position.Position.TheVariants.{InUse}
use Rattle.mt_journal.proofs.Heads.{begin_opens, by_selectors, log_closed, log_moved, no_record}
use Rattle.mt_journal.proofs.Images.{image_alone, image_up_to}
use Rattle.mt_journal.proofs.Lists.{before_cut, before_written, byte_there, from_written, length_written, one_byte, put_together, same_byte, same_earlier}
use Rattle.mt_journal.proofs.Pieces.{move_is}
use Rattle.mt_journal.proofs.Records.{gate_is}

-- A file has this list while its gate is closed, and behind the gate, once it is open, these bytes lead to selectors.
pub record IsShut (is_image : List ℕ → Bool) (may_follow : MayFollow) (gate : ℕ) (lead : List ℕ) (list : List (List ℕ)) (file : List ℕ) : Type 0 where
  pub far : 8 ≤ gate
  pub there : gate < length file
  pub closed : is_open (get_or file gate 0) ≡ false
  pub shut : (other : List ℕ) → take gate other ≡ take gate file → length file ≤ length other → is_open (get_or other gate 0) ≡ false → journal_at is_image may_follow other ≡ Ok list
  pub opens : (other : List ℕ) → take (gate + 1 + length lead) other ≡ take gate file ++ 0x5a ∷ lead → gate + 1 + length lead ≤ length other → 10 ≤ length other → journal_at is_image may_follow other ≡ slots_at is_image may_follow (gate + 1 + length lead) other

module _ (is_image : List ℕ → Bool) (may_follow : MayFollow) (gate : ℕ) (lead front : List ℕ) (list : List (List ℕ)) (file : List ℕ) (is_shut : IsShut is_image may_follow gate lead list file) (front_is : front ≡ lead ++ 0 ∷ 0 ∷ [])
    (image : List ℕ) (short : length image ≤ 65536) (is : is_image image ≡ true) where
  abbrev base : ℕ
  base = gate + 1 + length lead

  abbrev n : ℕ
  n = length image

  abbrev bytes : List ℕ
  bytes = front ++ length_field n ++ image ++ 0 ∷ []

  abbrev laid : List ℕ
  laid = overwritten (gate + 1) bytes file

  behind_gate : gate + 1 ≤ length file
  behind_gate = omega (arith, is_shut.there)

  abbrev tail : List ℕ
  tail = drop (gate + 1 + length bytes) file

  abbrev slot : List ℕ
  slot = length_field n ++ (image ++ 0 ∷ tail)

  -- what is behind the gate: the lead, two selectors that are none, and the slot
  bytes_split : bytes ++ tail ≡ lead ++ (0 ∷ 0 ∷ slot)
  bytes_split =
      append_assoc ((front ++ length_field n) ++ image) (0 ∷ []) tail
      ∙ append_assoc (front ++ length_field n) image (0 ∷ tail)
      ∙ append_assoc front (length_field n) (image ++ 0 ∷ tail)
      ∙ ap (λ (l : List ℕ). l ++ slot) front_is
      ∙ append_assoc lead (0 ∷ 0 ∷ []) slot

  long_laid : length laid ≡ max (length file) (gate + 1 + length bytes)
  long_laid = length_written (gate + 1) bytes file behind_gate

  laid_before : take (gate + 1) laid ≡ take (gate + 1) file
  laid_before = before_written (gate + 1) bytes file behind_gate

  laid_from : drop (gate + 1) laid ≡ lead ++ (0 ∷ 0 ∷ slot)
  laid_from = from_written (gate + 1) bytes file behind_gate ∙ bytes_split

  first_cut : (other : List ℕ) → CutShort (gate + 1) (length bytes) file other → journal_at is_image may_follow other ≡ Ok list
  first_cut other cut =
      let same = before_cut (gate + 1) (length bytes) file other behind_gate cut in
      is_shut.shut other (same_earlier other file gate (gate + 1) (omega arith) same) cut.no_shorter (ap is_open (same_byte other file gate (gate + 1) (omega arith) same) ∙ is_shut.closed)

  -- a file whose gate is open
  module _ (other : List ℕ) (same : take gate other ≡ take gate file) (from : drop gate other ≡ 0x5a ∷ lead ++ (0 ∷ 0 ∷ slot)) where
    there_from : drop base other ≡ 0 ∷ 0 ∷ slot
    there_from =
        ap (λ (k : ℕ). drop k other) (omega arith) ∙ sym (drop-drop (1 + length lead) gate other)
        ∙ ap (λ (l : List ℕ). drop (1 + length lead) l) from ∙ drop_at (0x5a ∷ lead) (0 ∷ 0 ∷ slot) (1 + length lead) (omega arith)

    long : base + 6 + n < length other
    long = omega (arith, ap length there_from, length-append (length_field n) (image ++ 0 ∷ tail), length-append image (0 ∷ tail), length-drop base other)

    head_is : take base other ≡ take gate file ++ 0x5a ∷ lead
    head_is = ap (λ (k : ℕ). take k other) (omega arith) ∙ put_together gate other (take gate file) (0x5a ∷ lead) (0 ∷ 0 ∷ slot) same from (omega (arith, long))

    byte : (i : ℕ) → get_or other (base + i) 0 ≡ get_or (0 ∷ 0 ∷ slot) i 0
    byte i = sym (get_or-drop base other i 0) ∙ ap (λ (l : List ℕ). get_or l i 0) there_from

    first_byte : get_or other base 0 ≡ 0
    first_byte = ap (λ (k : ℕ). get_or other k 0) (omega arith) ∙ byte 0

    slot_from : drop (base + 2) other ≡ slot
    slot_from = ap (λ (k : ℕ). drop k other) (omega arith) ∙ sym (drop-drop 2 base other) ∙ ap (λ (l : List ℕ). drop 2 l) there_from

    gate_from : drop (base + 6 + n) other ≡ 0 ∷ tail
    gate_from =
        ap (λ (k : ℕ). drop k other) (omega arith) ∙ sym (drop-drop (4 + n) (base + 2) other)
        ∙ ap (λ (l : List ℕ). drop (4 + n) l) (slot_from ∙ sym (append_assoc (length_field n) image (0 ∷ tail)))
        ∙ drop_at (length_field n ++ image) (0 ∷ tail) (4 + n) (length-append (length_field n) image)

    opened : journal_at is_image may_follow other ≡ Ok (image ∷ [])
    opened =
        is_shut.opens other head_is (omega (arith, long)) (omega (arith, long, is_shut.far))
        ∙ by_selectors is_image may_follow base other 0 0 (omega (arith, long)) first_byte (byte 1)
        ∙ ap (λ (r : Reads Records). r >>= list_of_slot) (image_alone is_image may_follow (base + 2) image short is other tail 0 refl slot_from)

    opened_stands : IsInUse is_image may_follow base 0 0 (base + 6 + n) (image ∷ []) other
    opened_stands = record {
      far = omega (arith, is_shut.far);
      head = λ others front there ten. is_shut.opens others (front ∙ head_is) there ten;
      p0_is = first_byte;
      p1_is = byte 1;
      behind = omega arith;
      before_end = omega (arith, short);
      there = omega (arith, long);
      closed = ap is_open (sym (get_or-drop (base + 6 + n) other 0 0 ∙ ap (λ (k : ℕ). get_or other k 0) (omega arith)) ∙ ap (λ (l : List ℕ). get_or l 0 0) gate_from);
      slot = subst (λ (k : ℕ). HasUpTo (slot_at is_image may_follow (base + 2)) may_follow (Some (base + 2 + slot_length)) (base + 2) k (image ∷ []) other) (omega arith) (image_up_to is_image may_follow (base + 2) image short is other (0 ∷ tail) slot_from);
    }

  there_laid : gate < length laid
  there_laid = omega (arith, long_laid, is_shut.there)

  second_cut : (other : List ℕ) → CutShort gate 1 laid other → HasEither is_image may_follow list (image ∷ []) other
  second_cut other cut =
      let same : take gate other ≡ take gate file = before_cut gate 1 laid other (omega (arith, there_laid)) cut ∙ same_earlier laid file gate (gate + 1) (omega arith) laid_before in
      let from : drop gate other ≡ get_or other gate 0 ∷ lead ++ (0 ∷ 0 ∷ slot) = one_byte gate laid other there_laid cut ∙ ap (λ (l : List ℕ). get_or other gate 0 ∷ l) laid_from in
      ⊎_elim
      (λ (opens : is_open (get_or other gate 0) ≡ true). inr (opened other same (from ∙ ap (λ (b : ℕ). b ∷ lead ++ (0 ∷ 0 ∷ slot)) (gate_is (get_or other gate 0) opens))))
      (λ (shut : is_open (get_or other gate 0) ≡ false). inl (is_shut.shut other same (omega (arith, cut.no_shorter, long_laid)) shut))
      (cases_Bool (is_open (get_or other gate 0)))

  -- a gate that is torn leaves the list
  torn_list : journal_at is_image may_follow (overwritten gate (0xa5 ∷ []) laid) ≡ Ok list
  torn_list =
      let other = overwritten gate (0xa5 ∷ []) laid in
      is_shut.shut other (before_written gate (0xa5 ∷ []) laid (omega (arith, there_laid)) ∙ same_earlier laid file gate (gate + 1) (omega arith) laid_before)
      (omega (arith, there_laid, long_laid, length_written gate (0xa5 ∷ []) laid (omega (arith, there_laid)))) (ap is_open (byte_there gate 0xa5 laid there_laid))

  abbrev put : List ℕ
  put = overwritten gate (0x5a ∷ []) laid

  put_same : take gate put ≡ take gate file
  put_same = before_written gate (0x5a ∷ []) laid (omega (arith, there_laid)) ∙ same_earlier laid file gate (gate + 1) (omega arith) laid_before

  put_from : drop gate put ≡ 0x5a ∷ lead ++ (0 ∷ 0 ∷ slot)
  put_from = from_written gate (0x5a ∷ []) laid (omega (arith, there_laid)) ∙ ap (λ (l : List ℕ). 0x5a ∷ l) laid_from

  pub first_commits : Commits is_image may_follow list (image ∷ []) (gate + 1) bytes gate 0x5a (InUse base 0 0 (base + 6 + n)) file
  first_commits = record {
    first = first_cut;
    second = second_cut;
    torn = torn_list;
    stands = opened_stands put put_same put_from;
    has = opened put put_same put_from;
  }

-- A file with a closed begin gate.
begun_is_shut : (is_image : List ℕ → Bool) (may_follow : MayFollow) (list : List (List ℕ)) (file : List ℕ) → IsBegun list file → IsShut is_image may_follow 8 [] list file
begun_is_shut is_image may_follow list file begun = record {
  far = omega arith;
  there = begun.there;
  closed = begun.closed;
  shut = λ other same long shut. (no_record is_image may_follow other (same ∙ begun.head) shut ∙ ap Ok (sym begun.none));
  opens = λ other head long many. begin_opens is_image may_follow other (head ∙ ap (λ (l : List ℕ). l ++ 0x5a ∷ []) begun.head) many;
}

-- A log.
abbrev move : List ℕ
move = 0xff ∷ 0xff ∷ 0xff ∷ 0xff ∷ []

module _ (is_image : List ℕ → Bool) (may_follow : MayFollow) (gate : ℕ) (list : List (List ℕ)) (file : List ℕ) (log : IsLog may_follow gate list file) where
  log_opens : (other : List ℕ) → take (gate + 1 + 4) other ≡ take gate file ++ 0x5a ∷ move → gate + 1 + 4 ≤ length other → 10 ≤ length other → journal_at is_image may_follow other ≡ slots_at is_image may_follow (gate + 1 + 4) other
  log_opens other head long many =
      let size : length (take gate file) ≡ gate = omega (arith, length-take gate file, log.there) in
      let whole : other ≡ take gate file ++ (0x5a ∷ move ++ drop (gate + 1 + 4) other) =
      sym (take-append-drop (gate + 1 + 4) other) ∙ ap (λ (l : List ℕ). l ++ drop (gate + 1 + 4) other) head ∙ append_assoc (take gate file) (0x5a ∷ move) (drop (gate + 1 + 4) other) in
      let same : take gate other ≡ take gate file = ap (λ (l : List ℕ). take gate l) whole ∙ take_at (take gate file) (0x5a ∷ move ++ drop (gate + 1 + 4) other) gate size in
      let from : drop gate other ≡ 0x5a ∷ move ++ drop (gate + 1 + 4) other = ap (λ (l : List ℕ). drop gate l) whole ∙ drop_at (take gate file) (0x5a ∷ move ++ drop (gate + 1 + 4) other) gate size in
      let byte : get_or other gate 0 ≡ 0x5a = ap (λ (k : ℕ). get_or other k 0) (omega arith) ∙ sym (get_or-drop gate other 0 0) ∙ ap (λ (l : List ℕ). get_or l 0 0) from in
      let behind : drop (gate + 1) other ≡ move ++ drop (gate + 1 + 4) other = ap (λ (k : ℕ). drop k other) (omega arith) ∙ sym (drop-drop 1 gate other) ∙ ap (λ (l : List ℕ). drop 1 l) from in
      let opens : OpenRead gate other = record { there = omega (arith, long); opens = ap is_open byte } in
      log_moved is_image may_follow gate list file log.head log.many log.behind log.log other same many opens
      (move_is None (drop (gate + 1) other) (omega (arith, length-drop (gate + 1) other, long)) (ap (λ (l : List ℕ). marks_move None (length_of (take 4 l))) behind))
      ∙ ap (λ (k : ℕ). slots_at is_image may_follow k other) (omega arith)

  log_is_shut : IsShut is_image may_follow gate move list file
  log_is_shut = record {
    far = log.behind;
    there = log.there;
    closed = log.closed;
    shut = λ other same long shut. log_closed is_image may_follow gate list file log.head log.many log.behind log.log other same (omega (arith, long, log.many)) (omega (arith, long, log.there)) shut;
    opens = log_opens;
  }

module _ (is_image : List ℕ → Bool) (may_follow : MayFollow) (list : List (List ℕ)) (file image : List ℕ) (short : length image ≤ 65536) (is : is_image image ≡ true) where
  pub begun_commits : IsBegun list file → Commits is_image may_follow list (image ∷ []) 9 (0 ∷ 0 ∷ length_field (length image) ++ image ++ 0 ∷ []) 8 0x5a (InUse 9 0 0 (15 + length image)) file
  begun_commits begun = first_commits is_image may_follow 8 [] (0 ∷ 0 ∷ []) list file (begun_is_shut is_image may_follow list file begun) refl image short is

  pub log_commits : (gate : ℕ) → IsLog may_follow gate list file
      → Commits is_image may_follow list (image ∷ []) (gate + 1) (0xff ∷ 0xff ∷ 0xff ∷ 0xff ∷ 0 ∷ 0 ∷ length_field (length image) ++ image ++ 0 ∷ []) gate 0x5a (InUse (gate + 5) 0 0 (gate + 5 + 6 + length image)) file
  log_commits gate log =
      subst (λ (b : ℕ). Commits is_image may_follow list (image ∷ []) (gate + 1) (0xff ∷ 0xff ∷ 0xff ∷ 0xff ∷ 0 ∷ 0 ∷ length_field (length image) ++ image ++ 0 ∷ []) gate 0x5a (InUse b 0 0 (b + 6 + length image)) file) (omega arith)
      (first_commits is_image may_follow gate move (0xff ∷ 0xff ∷ 0xff ∷ 0xff ∷ 0 ∷ 0 ∷ []) list file (log_is_shut is_image may_follow gate list file log) refl image short is)
