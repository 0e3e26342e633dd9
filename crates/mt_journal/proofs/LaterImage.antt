-- What a file has after a later image was put into the slot that is not the current one, and what a crash leaves meanwhile.
use Rattle.std.proofs.Common.{◌≡◌, ◌⊎◌, inl, inr, ⊎_elim, ℕ, ◌+◌, ◌-◌, ◌≤◌, ◌<◌, min, Bool, true, false, List, [], ◌∷◌, ◌++◌, length, take, drop, get_or, refl, sym, ap, subst, ◌∙◌, arith, append_assoc}
use Rattle.std.specs.Prelude.{Ok, Some, not}
use Rattle.std.proofs.lemmas.Bool.{cases_Bool}
use Rattle.std.proofs.lemmas.Bool.Decides.{nat_tests}
use Rattle.std.proofs.lemmas.List.{drop_at, drop-drop, length-append, length-drop, get_or-drop}
use Rattle.mt_outside.specs.Disk.{CutShort, overwritten}
use Rattle.mt_journal.specs.Committing.{Commits}
use Rattle.mt_journal.specs.Layout.{MayFollow, Reads, Records, ◌>>=◌, is_open, journal_at, list_of_slot, names_slot_one, selector_above, slot_at, slot_length, slot_start}
use Rattle.mt_journal.specs.Standing.{HasEither, HasUpTo, IsInUse, length_field}
use Rattle.mt_journal.specs.declared.position.Position.TheVariants.{InUse}
use Rattle.mt_journal.proofs.Heads.{by_selectors}
use Rattle.mt_journal.proofs.Images.{image_alone, image_up_to}
use Rattle.mt_journal.proofs.Lists.{as_long, before_cut, before_put, before_written, behind_byte, byte_there, earlier_kept, from_put, later_kept, length_written, next_byte, same_byte, same_earlier, same_part}
use Rattle.mt_journal.proofs.Records.{has_list_by, slots_apart}

-- a selector above the other names its slot
names_one : (p1 : ℕ) → names_slot_one (selector_above p1) p1 ≡ true
names_one p1 = grind (arith, nat_tests)

names_zero : (p0 : ℕ) → names_slot_one p0 (selector_above p0) ≡ false
names_zero p0 = grind (arith, nat_tests)

-- one that is torn leaves the other's slot
names_torn : (p0 p1 : ℕ) → names_slot_one p0 p1 ≡ true → names_slot_one p0 0xa5 ≡ true
names_torn p0 p1 one = grind (arith, nat_tests, one)

module _ (is_image : List ℕ → Bool) (may_follow : MayFollow) (base p0 p1 gate : ℕ) (list : List (List ℕ)) (file : List ℕ) (stands : IsInUse is_image may_follow base p0 p1 gate list file)
    (image : List ℕ) (short : length image ≤ 65536) (is : is_image image ≡ true) where
  abbrev start : Bool → ℕ
  start one = slot_start base one

  abbrev current : Bool
  current = names_slot_one p0 p1

  -- where the image goes
  abbrev at : ℕ
  at = start (not current)

  abbrev content : List ℕ
  content = length_field (length image) ++ image ++ 0 ∷ []

  length-content : length content ≡ 5 + length image
  length-content = omega (arith, length-append (length_field (length image) ++ image) (0 ∷ []), length-append (length_field (length image)) image)

  long_file : base + 2 ≤ length file
  long_file = omega (arith, stands.there, stands.behind, (slots_apart base current).0)

  behind_selectors : base + 2 ≤ at
  behind_selectors = (slots_apart base (not current)).0

  -- it is the same in the current slot, up to the gate and with it
  abbrev SlotSame : List ℕ → Type 0
  SlotSame other = take (gate + 1 - start current) (drop (start current) other) ≡ take (gate + 1 - start current) (drop (start current) file)

  -- then it has the list if its selectors name that slot
  has_list : (other : List ℕ) (a b : ℕ) → take base other ≡ take base file → base + 2 ≤ length other → get_or other base 0 ≡ a → get_or other (base + 1) 0 ≡ b → names_slot_one a b ≡ current → SlotSame other → journal_at is_image may_follow other ≡ Ok list
  has_list other a b head long first second named same =
      let s = start current in
      let there : gate + 1 - s ≤ length (drop s other) = as_long (drop s other) (drop s file) (gate + 1 - s) (omega (arith, length-drop s file, stands.there)) same in
      let same_gate : get_or other gate 0 ≡ get_or file gate 0 =
      ap (λ (k : ℕ). get_or other k 0) (omega (arith, stands.behind)) ∙ sym (get_or-drop s other (gate - s) 0) ∙ same_byte (drop s other) (drop s file) (gate - s) (gate + 1 - s) (omega (arith, stands.behind)) same ∙ get_or-drop s file (gate - s) 0 ∙ ap (λ (k : ℕ). get_or file k 0) (omega (arith, stands.behind)) in
      has_list_by is_image may_follow base p0 p1 gate list file stands other a b head long first second named
      (same_earlier (drop s other) (drop s file) (gate - s) (gate + 1 - s) (omega arith) same) (omega (arith, there, length-drop s other, stands.behind)) (ap is_open same_gate ∙ stands.closed)

  abbrev put : List ℕ
  put = overwritten at content file

  apart : ((at ≡ base + 2) × (current ≡ true)) ⊎ ((at ≡ base + 1048578) × (current ≡ false))
  apart = ⊎_elim
      (λ (one : current ≡ true). inl (ap (λ (o : Bool). start (not o)) one, one))
      (λ (zero : current ≡ false). inr (ap (λ (o : Bool). start (not o)) zero ∙ omega arith, zero))
      (cases_Bool current)

  -- outside of the other slot's first bytes a file is the same
  outside : (other : List ℕ) → take (min at (length file)) other ≡ take at file → drop (at + length content) other ≡ drop (at + length content) file → (take (base + 2) other ≡ take (base + 2) file) × SlotSame other
  outside other before after = ⊎_elim low high apart
    where
      low : (at ≡ base + 2) × (current ≡ true) → (take (base + 2) other ≡ take (base + 2) file) × SlotSame other
      low p =
          let s_is : start current ≡ base + 1048578 = ap start p.1 ∙ omega arith in (
            earlier_kept at (base + 2) file other behind_selectors long_file before,
            ap (λ (l : List ℕ). take (gate + 1 - start current) l) (later_kept (at + length content) (start current) file other (omega (arith, p.0, length-content, s_is, short)) after),
          )

      high : (at ≡ base + 1048578) × (current ≡ false) → (take (base + 2) other ≡ take (base + 2) file) × SlotSame other
      high p =
          let s_is : start current ≡ base + 2 = ap start p.1 in (
            earlier_kept at (base + 2) file other behind_selectors long_file before,
            same_part other file (start current) (gate + 1) (omega (arith, stands.behind)) (earlier_kept at (gate + 1) file other (omega (arith, p.0, stands.before_end, s_is)) (omega (arith, stands.there)) before),
          )

  first_cut : (other : List ℕ) → CutShort at (length content) file other → journal_at is_image may_follow other ≡ Ok list
  first_cut other cut =
      let kept = outside other cut.before cut.after in
      has_list other p0 p1 (same_earlier other file base (base + 2) (omega arith) kept.0) (as_long other file (base + 2) long_file kept.0)
      (same_byte other file base (base + 2) (omega arith) kept.0 ∙ stands.p0_is) (same_byte other file (base + 1) (base + 2) (omega arith) kept.0 ∙ stands.p1_is) refl kept.1

  put_slot : drop at put ≡ length_field (length image) ++ (image ++ 0 ∷ drop (at + length content) file)
  put_slot =
      from_put at content file
      ∙ append_assoc (length_field (length image) ++ image) (0 ∷ []) (drop (at + length content) file)
      ∙ append_assoc (length_field (length image)) image (0 ∷ drop (at + length content) file)

  put_after : drop (at + length content) put ≡ drop (at + length content) file
  put_after = sym (drop-drop (length content) at put) ∙ ap (λ (l : List ℕ). drop (length content) l) (from_put at content file) ∙ drop_at content (drop (at + length content) file) (length content) refl

  put_kept : (take (base + 2) put ≡ take (base + 2) file) × SlotSame put
  put_kept = outside put (before_put at content file) put_after

  long_put : base + 2 ≤ length put
  long_put = as_long put file (base + 2) long_file put_kept.0

  put_byte : (i : ℕ) → i < base + 2 → get_or put i 0 ≡ get_or file i 0
  put_byte i lt = same_byte put file i (base + 2) lt put_kept.0

  -- a file that differs from it in its selectors at most
  module _ (other : List ℕ) (a b : ℕ) (head : take base other ≡ take base put) (slots : drop (base + 2) other ≡ drop (base + 2) put) (long : length put ≤ length other)
      (first : get_or other base 0 ≡ a) (second : get_or other (base + 1) 0 ≡ b) where
    head_is : take base other ≡ take base file
    head_is = head ∙ same_earlier put file base (base + 2) (omega arith) put_kept.0

    slot_is : (from : ℕ) → base + 2 ≤ from → drop from other ≡ drop from put
    slot_is from le = later_kept (base + 2) from put other le slots

    far : base + 2 ≤ length other
    far = omega (arith, long, long_put)

    abbrev tail : List ℕ
    tail = drop (at + length content) file

    slot_from : drop at other ≡ length_field (length image) ++ (image ++ 0 ∷ tail)
    slot_from = slot_is at behind_selectors ∙ put_slot

    new_list : names_slot_one a b ≡ not current → journal_at is_image may_follow other ≡ Ok (image ∷ [])
    new_list named =
        stands.head other head_is (omega (arith, far)) (omega (arith, far, stands.far))
        ∙ by_selectors is_image may_follow base other a b far first second
        ∙ ap (λ (o : Bool). slot_at is_image may_follow (start o) other >>= list_of_slot) named
        ∙ ap (λ (r : Reads Records). r >>= list_of_slot) (image_alone is_image may_follow at image short is other tail 0 refl slot_from)

    old_list : names_slot_one a b ≡ current → journal_at is_image may_follow other ≡ Ok list
    old_list named = has_list other a b head_is far first second named (ap (λ (l : List ℕ). take (gate + 1 - start current) l) (slot_is (start current) (slots_apart base current).0) ∙ put_kept.1)

    either_list : HasEither is_image may_follow list (image ∷ []) other
    either_list = ⊎_elim (λ s. inl (old_list s)) (λ d. inr (new_list d)) (tests (names_slot_one a b) current)
      where
        tests : (x y : Bool) → (x ≡ y) ⊎ (x ≡ not y)
        tests true true = inl refl
        tests true false = inr refl
        tests false true = inr refl
        tests false false = inl refl

    gate_from : drop (at + 4 + length image) other ≡ 0 ∷ tail
    gate_from =
        ap (λ (k : ℕ). drop k other) (omega arith) ∙ sym (drop-drop (4 + length image) at other)
        ∙ ap (λ (l : List ℕ). drop (4 + length image) l) (slot_from ∙ sym (append_assoc (length_field (length image)) image (0 ∷ tail)))
        ∙ drop_at (length_field (length image) ++ image) (0 ∷ tail) (4 + length image) (length-append (length_field (length image)) image)

    new_stands : names_slot_one a b ≡ not current → IsInUse is_image may_follow base a b (at + 4 + length image) (image ∷ []) other
    new_stands named =
        let start_is : at ≡ start (names_slot_one a b) = ap start (sym named) in
        record {
          far = stands.far;
          head = λ others front. stands.head others (front ∙ head_is);
          p0_is = first;
          p1_is = second;
          behind = omega (arith, start_is);
          before_end = omega (arith, start_is, short);
          there = omega (arith, ap length gate_from, length-drop (at + 4 + length image) other);
          closed = ap is_open (sym (get_or-drop (at + 4 + length image) other 0 0 ∙ ap (λ (n : ℕ). get_or other n 0) (omega arith)) ∙ ap (λ (l : List ℕ). get_or l 0 0) gate_from);
          slot = subst (λ (s : ℕ). HasUpTo (slot_at is_image may_follow s) may_follow (Some (s + slot_length)) s (at + 4 + length image) (image ∷ []) other) start_is (image_up_to is_image may_follow at image short is other (0 ∷ tail) slot_from);
        }

  -- One selector is written.
  module _ (k : ℕ) (from : base ≤ k) (to : k < base + 2) where
    second_cut : (other : List ℕ) → CutShort k 1 put other → HasEither is_image may_follow list (image ∷ []) other
    second_cut other cut =
        either_list other (get_or other base 0) (get_or other (base + 1) 0)
        (same_earlier other put base k from (before_cut k 1 put other (omega (arith, to, long_put)) cut))
        (later_kept (k + 1) (base + 2) put other (omega (arith, to)) cut.after) cut.no_shorter refl refl

    module _ (byte a b : ℕ) where
      abbrev written : List ℕ
      written = overwritten k (byte ∷ []) put

      there : k < length put
      there = omega (arith, to, long_put)

      -- it differs in the selectors alone
      head : take base written ≡ take base put
      head = same_earlier written put base k from (before_written k (byte ∷ []) put (omega (arith, there)))

      slots : drop (base + 2) written ≡ drop (base + 2) put
      slots = later_kept (k + 1) (base + 2) put written (omega (arith, to)) (behind_byte k byte put there)

      long_written : length put ≤ length written
      long_written = omega (arith, length_written k (byte ∷ []) put (omega (arith, there)))

      keeps_list : get_or written base 0 ≡ a → get_or written (base + 1) 0 ≡ b → names_slot_one a b ≡ current → journal_at is_image may_follow written ≡ Ok list
      keeps_list first second named = old_list written a b head slots long_written first second named

      selector_commits : get_or written base 0 ≡ a → get_or written (base + 1) 0 ≡ b → names_slot_one a b ≡ not current → journal_at is_image may_follow (overwritten k (0xa5 ∷ []) put) ≡ Ok list
          → Commits is_image may_follow list (image ∷ []) at content k byte (InUse base a b (at + 4 + length image)) file
      selector_commits first second named torn = record {
        first = first_cut;
        second = second_cut;
        torn = torn;
        stands = new_stands written a b head slots long_written first second named;
        has = new_list written a b head slots long_written first second named;
      }

  -- the first selector in one of the slots, and the second
  first_selector : (byte : ℕ) → (get_or (overwritten base (byte ∷ []) put) base 0 ≡ byte) × (get_or (overwritten base (byte ∷ []) put) (base + 1) 0 ≡ p1)
  first_selector byte =
      let there : base < length put = omega (arith, long_put) in
      (byte_there base byte put there, next_byte base byte put there ∙ put_byte (base + 1) (omega arith) ∙ stands.p1_is)

  second_selector : (byte : ℕ) → (get_or (overwritten (base + 1) (byte ∷ []) put) base 0 ≡ p0) × (get_or (overwritten (base + 1) (byte ∷ []) put) (base + 1) 0 ≡ byte)
  second_selector byte =
      let there : base + 1 < length put = omega (arith, long_put) in
      let before : get_or (overwritten (base + 1) (byte ∷ []) put) base 0 ≡ get_or put base 0 = same_byte (overwritten (base + 1) (byte ∷ []) put) put base (base + 1) (omega arith) (before_written (base + 1) (byte ∷ []) put (omega (arith, there))) in
      (before ∙ put_byte base (omega arith) ∙ stands.p0_is, byte_there (base + 1) byte put there)

  pub one_commits : current ≡ false → Commits is_image may_follow list (image ∷ []) at content base (selector_above p1) (InUse base (selector_above p1) p1 (at + 4 + length image)) file
  one_commits zero =
      let byte = selector_above p1 in
      let read = first_selector byte in
      let torn = first_selector 0xa5 in
      selector_commits base (omega arith) (omega arith) byte byte p1 read.0 read.1 (names_one p1 ∙ sym (ap not zero))
      (keeps_list base (omega arith) (omega arith) 0xa5 0xa5 p1 torn.0 torn.1 (sym zero))

  pub zero_commits : current ≡ true → Commits is_image may_follow list (image ∷ []) at content (base + 1) (selector_above p0) (InUse base p0 (selector_above p0) (at + 4 + length image)) file
  zero_commits one =
      let byte = selector_above p0 in
      let read = second_selector byte in
      let torn = second_selector 0xa5 in
      selector_commits (base + 1) (omega arith) (omega arith) byte p0 byte read.0 read.1 (names_zero p0 ∙ sym (ap not one))
      (keeps_list (base + 1) (omega arith) (omega arith) 0xa5 p0 0xa5 torn.0 torn.1 (names_torn p0 p1 one ∙ sym one))
