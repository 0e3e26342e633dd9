-- What a file has after a record was added, and what a crash leaves meanwhile.
use Rattle.std.proofs.Common.{◌≡◌, inl, inr, ⊎_elim, ℕ, ◌+◌, ◌-◌, ◌≤◌, ◌<◌, max, Bool, true, false, List, [], ◌∷◌, ◌++◌, length, take, drop, get_or, refl, sym, ap, ◌∙◌, arith, append_assoc}
use Rattle.std.specs.Prelude.{Ok, Option, Some}
use Rattle.std.proofs.lemmas.Bool.{cases_Bool, le-ltb}
use Rattle.std.proofs.lemmas.Bool.Decides.{nat_tests}
use Rattle.std.proofs.lemmas.List.{drop_more, drop_at, take_at, drop-drop, drop-take, take-append-drop, length-append, length-drop, get_or-drop}
use Rattle.mt_outside.specs.Disk.{CutShort, overwritten}
use Rattle.mt_journal.specs.Committing.{Commits}
use Rattle.mt_journal.specs.Layout.{MayFollow, Reads, Records, ◌>>=◌, is_open, is_past, journal_at, list_of_slot, names_slot_one, records_at, slot_at, slot_length, slot_start}
use Rattle.mt_journal.specs.Standing.{HasEither, HasUpTo, IsInUse, go_on, length_field}
use Rattle.mt_journal.specs.declared.position.Position.TheVariants.{InUse}
use Rattle.mt_journal.proofs.Heads.{by_selectors}
use Rattle.mt_journal.proofs.Lists.{as_long, before_cut, before_written, byte_there, from_written, length_written, one_byte, same_byte, same_earlier, same_part}
use Rattle.mt_journal.proofs.Pieces.{closed_gate, go_on-none, go_on-push, open_gate}

pub gate_is : (byte : ℕ) → is_open byte ≡ true → byte ≡ 0x5a
gate_is byte opens = grind (arith, nat_tests)

-- where slots begin behind the base
pub slots_apart : (base : ℕ) (one : Bool) → (base + 2 ≤ slot_start base one) × (slot_start base one ≤ base + 1048578)
slots_apart base true = (omega arith, omega arith)
slots_apart base false = (omega arith, omega arith)

module _ (is_image : List ℕ → Bool) (may_follow : MayFollow) (base p0 p1 gate : ℕ) (list : List (List ℕ)) (file : List ℕ) (stands : IsInUse is_image may_follow base p0 p1 gate list file) where
  abbrev start : ℕ
  start = slot_start base (names_slot_one p0 p1)

  abbrev limit : Option ℕ
  limit = Some (start + slot_length)

  far : base + 2 ≤ start
  far = (slots_apart base (names_slot_one p0 p1)).0

  -- a file that is the same in its head, and whose selectors name the same slot, goes on at the gate if it is the same up to there
  pub reads_on_by : (other : List ℕ) (a b : ℕ) → take base other ≡ take base file → base + 2 ≤ length other → get_or other base 0 ≡ a → get_or other (base + 1) 0 ≡ b → names_slot_one a b ≡ names_slot_one p0 p1
      → take (gate - start) (drop start other) ≡ take (gate - start) (drop start file)
      → journal_at is_image may_follow other ≡ (records_at may_follow (length other) limit list 0 gate (drop gate other) >>= go_on list >>= list_of_slot)
  reads_on_by other a b head long first second named same =
      stands.head other head (omega (arith, long)) (omega (arith, long, stands.far))
      ∙ by_selectors is_image may_follow base other a b long first second
      ∙ ap (λ (o : Bool). slot_at is_image may_follow (slot_start base o) other >>= list_of_slot) named
      ∙ ap (λ (r : Reads Records). r >>= list_of_slot) (stands.slot other same)

  -- so it has the list where the gate is closed
  pub has_list_by : (other : List ℕ) (a b : ℕ) → take base other ≡ take base file → base + 2 ≤ length other → get_or other base 0 ≡ a → get_or other (base + 1) 0 ≡ b → names_slot_one a b ≡ names_slot_one p0 p1
      → take (gate - start) (drop start other) ≡ take (gate - start) (drop start file) → gate < length other → is_open (get_or other gate 0) ≡ false → journal_at is_image may_follow other ≡ Ok list
  has_list_by other a b head long first second named same there shut =
      reads_on_by other a b head long first second named same
      ∙ ap (λ (l : List ℕ). records_at may_follow (length other) limit list 0 gate l >>= go_on list >>= list_of_slot) (drop_more other gate 0 there)
      ∙ ap (λ (r : Reads Records). r >>= go_on list >>= list_of_slot) (closed_gate may_follow (length other) limit list (get_or other gate 0) gate (drop (gate + 1) other) shut)
      ∙ ap (λ (r : Reads Records). r >>= list_of_slot) (go_on-none list)

  -- each file that is the same before the gate has the list, and what is read from the gate on
  pub reads_on : (other : List ℕ) → take gate other ≡ take gate file → journal_at is_image may_follow other ≡ (records_at may_follow (length other) limit list 0 gate (drop gate other) >>= go_on list >>= list_of_slot)
  reads_on other same =
      let long : gate ≤ length other = as_long other file gate (omega (arith, stands.there)) same in
      let enough : base + 6 ≤ gate = omega (arith, far, stands.behind) in
      reads_on_by other p0 p1 (same_earlier other file base gate (omega (arith, enough)) same) (omega (arith, long, enough))
      (same_byte other file base gate (omega (arith, enough)) same ∙ stands.p0_is) (same_byte other file (base + 1) gate (omega (arith, enough)) same ∙ stands.p1_is) refl
      (same_part other file start gate (omega (arith, stands.behind)) same)

  -- the list, where the gate is closed
  pub has_list : (other : List ℕ) → take gate other ≡ take gate file → gate < length other → is_open (get_or other gate 0) ≡ false → journal_at is_image may_follow other ≡ Ok list
  has_list other same there shut =
      reads_on other same
      ∙ ap (λ (l : List ℕ). records_at may_follow (length other) limit list 0 gate l >>= go_on list >>= list_of_slot) (drop_more other gate 0 there)
      ∙ ap (λ (r : Reads Records). r >>= go_on list >>= list_of_slot) (closed_gate may_follow (length other) limit list (get_or other gate 0) gate (drop (gate + 1) other) shut)
      ∙ ap (λ (r : Reads Records). r >>= list_of_slot) (go_on-none list)

  pub has_itself : journal_at is_image may_follow file ≡ Ok list
  has_itself = has_list file refl stands.there stands.closed

  module _ (change : List ℕ) (short : length change ≤ 65536) (fits : gate + 6 + length change ≤ start + slot_length) (is : may_follow list change ≡ true) where
    abbrev bytes : List ℕ
    bytes = length_field (length change) ++ change ++ 0 ∷ []

    length-bytes : length bytes ≡ length change + 5
    length-bytes = omega (arith, length-append (length_field (length change) ++ change) (0 ∷ []), length-append (length_field (length change)) change)

    within : is_past limit (gate + 1 + 5 + length change) ≡ false
    within = le-ltb (start + slot_length) (gate + 1 + 5 + length change) (omega (arith, fits))

    -- the record stands behind the closed gate
    abbrev laid : List ℕ
    laid = overwritten (gate + 1) bytes file

    behind_gate : gate + 1 ≤ length file
    behind_gate = omega (arith, stands.there)

    laid_before : take (gate + 1) laid ≡ take (gate + 1) file
    laid_before = before_written (gate + 1) bytes file behind_gate

    laid_from : drop (gate + 1) laid ≡ bytes ++ drop (gate + 1 + length bytes) file
    laid_from = from_written (gate + 1) bytes file behind_gate

    long_laid : length laid ≡ max (length file) (gate + 1 + length bytes)
    long_laid = length_written (gate + 1) bytes file behind_gate

    -- a crash of the first write leaves the list
    first_cut : (other : List ℕ) → CutShort (gate + 1) (length bytes) file other → journal_at is_image may_follow other ≡ Ok list
    first_cut other cut =
        let same = before_cut (gate + 1) (length bytes) file other behind_gate cut in
        has_list other (same_earlier other file gate (gate + 1) (omega arith) same) (omega (arith, stands.there, cut.no_shorter)) (ap is_open (same_byte other file gate (gate + 1) (omega arith) same) ∙ stands.closed)

    abbrev tail : List ℕ
    tail = 0 ∷ drop (gate + 1 + length bytes) file

    bytes_split : bytes ++ drop (gate + 1 + length bytes) file ≡ length_field (length change) ++ (change ++ tail)
    bytes_split = append_assoc (length_field (length change) ++ change) (0 ∷ []) (drop (gate + 1 + length bytes) file) ∙ append_assoc (length_field (length change)) change tail

    -- a file in which the gate is open and the record stands behind it
    opened : (other : List ℕ) → take gate other ≡ take gate file → drop gate other ≡ 0x5a ∷ length_field (length change) ++ (change ++ tail)
        → journal_at is_image may_follow other ≡ Ok (list ++ change ∷ [])
    opened other same from =
        let w = length other in
        reads_on other same
        ∙ ap (λ (l : List ℕ). records_at may_follow w limit list 0 gate l >>= go_on list >>= list_of_slot) from
        ∙ ap (λ (r : Reads Records). r >>= go_on list >>= list_of_slot) (open_gate may_follow w limit list gate change tail short within is)
        ∙ ap (λ (r : Reads Records). r >>= list_of_slot) (go_on-push list change (records_at may_follow w limit (list ++ change ∷ []) 0 (gate + 5 + length change) tail))
        ∙ ap (λ (r : Reads Records). r >>= go_on (list ++ change ∷ []) >>= list_of_slot) (closed_gate may_follow w limit (list ++ change ∷ []) 0 (gate + 5 + length change) (drop (gate + 1 + length bytes) file) refl)
        ∙ ap (λ (r : Reads Records). r >>= list_of_slot) (go_on-none (list ++ change ∷ []))

    -- a crash of the second write leaves the list with the change or without it
    second_cut : (other : List ℕ) → CutShort gate 1 laid other → HasEither is_image may_follow list (list ++ change ∷ []) other
    second_cut other cut =
        let there : gate < length laid = omega (arith, long_laid, stands.there) in
        let same : take gate other ≡ take gate file = before_cut gate 1 laid other (omega (arith, there)) cut ∙ same_earlier laid file gate (gate + 1) (omega arith) laid_before in
        let from : drop gate other ≡ get_or other gate 0 ∷ length_field (length change) ++ (change ++ tail) = one_byte gate laid other there cut ∙ ap (λ (l : List ℕ). get_or other gate 0 ∷ l) (laid_from ∙ bytes_split) in
        let longer : gate < length other = omega (arith, there, cut.no_shorter) in
        ⊎_elim
        (λ (opens : is_open (get_or other gate 0) ≡ true). inr (opened other same (from ∙ ap (λ (b : ℕ). b ∷ length_field (length change) ++ (change ++ tail)) (gate_is (get_or other gate 0) opens))))
        (λ (shut : is_open (get_or other gate 0) ≡ false). inl (has_list other same longer shut))
        (cases_Bool (is_open (get_or other gate 0)))

    -- so does a gate that is torn
    torn_list : journal_at is_image may_follow (overwritten gate (0xa5 ∷ []) laid) ≡ Ok list
    torn_list =
        let there : gate < length laid = omega (arith, long_laid, stands.there) in
        let other = overwritten gate (0xa5 ∷ []) laid in
        has_list other (before_written gate (0xa5 ∷ []) laid (omega (arith, there)) ∙ same_earlier laid file gate (gate + 1) (omega arith) laid_before)
        (omega (arith, there, length_written gate (0xa5 ∷ []) laid (omega (arith, there)))) (ap is_open (byte_there gate 0xa5 laid there))

    -- the file after both writes
    abbrev added : List ℕ
    added = overwritten gate (0x5a ∷ []) laid

    added_before : take gate added ≡ take gate file
    added_before = before_written gate (0x5a ∷ []) laid (omega (arith, long_laid, stands.there)) ∙ same_earlier laid file gate (gate + 1) (omega arith) laid_before

    added_from : drop gate added ≡ 0x5a ∷ length_field (length change) ++ (change ++ tail)
    added_from = from_written gate (0x5a ∷ []) laid (omega (arith, long_laid, stands.there)) ∙ ap (λ (l : List ℕ). 0x5a ∷ l) (laid_from ∙ bytes_split)

    abbrev next : ℕ
    next = gate + 5 + length change

    abbrev record_bytes : List ℕ
    record_bytes = 0x5a ∷ length_field (length change) ++ change

    length-record : length record_bytes ≡ 5 + length change
    length-record = omega (arith, length-append (length_field (length change)) change)

    from_record : 0x5a ∷ length_field (length change) ++ (change ++ tail) ≡ record_bytes ++ tail
    from_record = ap (λ (l : List ℕ). 0x5a ∷ l) (sym (append_assoc (length_field (length change)) change tail))

    next_from : drop next added ≡ tail
    next_from =
        ap (λ (k : ℕ). drop k added) (omega arith) ∙ sym (drop-drop (5 + length change) gate added)
        ∙ ap (λ (l : List ℕ). drop (5 + length change) l) (added_from ∙ from_record) ∙ drop_at record_bytes tail (5 + length change) length-record

    long_added : next < length added
    long_added = omega (arith, ap length next_from, length-drop next added)

    slot_added : HasUpTo (slot_at is_image may_follow start) may_follow limit start next (list ++ change ∷ []) added
    slot_added other same =
        let w = length other in
        let earlier : take (gate - start) (drop start other) ≡ take (gate - start) (drop start file) =
        same_earlier (drop start other) (drop start added) (gate - start) (next - start) (omega (arith, stands.behind)) same ∙ same_part added file start gate (omega (arith, stands.behind)) added_before in
        let k : gate - start + (5 + length change) ≡ next - start = omega (arith, stands.behind) in
        let on : (l : List ℕ) → drop (gate - start) (take (next - start) (drop start l)) ≡ take (5 + length change) (drop gate l) = λ l.
        (ap (λ (n : ℕ). drop (gate - start) (take n (drop start l))) (sym k)
        ∙ drop-take (gate - start) (5 + length change) (drop start l)
        ∙ ap (λ (d : List ℕ). take (5 + length change) d) (drop-drop (gate - start) start l ∙ ap (λ (n : ℕ). drop n l) (omega (arith, stands.behind)))) in
        let record_there : take (5 + length change) (drop gate other) ≡ record_bytes =
        sym (on other) ∙ ap (λ (l : List ℕ). drop (gate - start) l) same ∙ on added
        ∙ ap (λ (l : List ℕ). take (5 + length change) l) (added_from ∙ from_record) ∙ take_at record_bytes tail (5 + length change) length-record in
        let from : drop gate other ≡ 0x5a ∷ length_field (length change) ++ (change ++ drop next other) =
        sym (take-append-drop (5 + length change) (drop gate other))
        ∙ ap (λ (l : List ℕ). l ++ drop (5 + length change) (drop gate other)) record_there
        ∙ ap (λ (l : List ℕ). record_bytes ++ l) (drop-drop (5 + length change) gate other ∙ ap (λ (n : ℕ). drop n other) (omega arith))
        ∙ ap (λ (l : List ℕ). 0x5a ∷ l) (append_assoc (length_field (length change)) change (drop next other)) in
        stands.slot other earlier
        ∙ ap (λ (l : List ℕ). records_at may_follow w limit list 0 gate l >>= go_on list) from
        ∙ ap (λ (r : Reads Records). r >>= go_on list) (open_gate may_follow w limit list gate change (drop next other) short within is)
        ∙ go_on-push list change (records_at may_follow w limit (list ++ change ∷ []) 0 next (drop next other))

    added_stands : IsInUse is_image may_follow base p0 p1 next (list ++ change ∷ []) added
    added_stands = record {
      far = stands.far;
      head = λ other same. stands.head other (same ∙ same_earlier added file base gate (omega (arith, far, stands.behind)) added_before);
      p0_is = same_byte added file base gate (omega (arith, far, stands.behind)) added_before ∙ stands.p0_is;
      p1_is = same_byte added file (base + 1) gate (omega (arith, far, stands.behind)) added_before ∙ stands.p1_is;
      behind = omega (arith, stands.behind);
      before_end = omega (arith, fits);
      there = long_added;
      closed = ap is_open (sym (get_or-drop next added 0 0 ∙ ap (λ (n : ℕ). get_or added n 0) (omega arith)) ∙ ap (λ (l : List ℕ). get_or l 0 0) next_from);
      slot = slot_added;
    }

    pub change_commits : Commits is_image may_follow list (list ++ change ∷ []) (gate + 1) bytes gate 0x5a (InUse base p0 p1 next) file
    change_commits = record {
      first = first_cut;
      second = second_cut;
      torn = torn_list;
      stands = added_stands;
      has = opened added added_before added_from;
    }
