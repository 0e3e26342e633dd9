-- How reads follow each other, and how records are read one after the other.
use Rattle.std.proofs.Common.{◌≡◌, ℕ, ◌+◌, ◌-◌, ◌≤◌, ◌<◌, Bool, true, false, List, [], ◌∷◌, ◌++◌, length, take, drop, get_or, refl, sym, ap, subst, ◌∙◌, arith}
use Rattle.std.specs.Prelude.{Ok, Err, Option, Some, None}
use Rattle.std.proofs.lemmas.List.{drop-drop, drop-take, drop_all, drop_more, length-take, length-drop, take-append-drop, get_or-drop}
use Rattle.mt_journal.specs.Layout.{MayFollow, Reads, Records, ◌>>=◌, after_one, is_move, is_open, log_at, piece_at, records_at, slot_at, slot_length}
use Rattle.mt_journal.specs.Recovering.{LaysOut, OnlyRead, OpenRead, RecordRead}
use Rattle.mt_journal.specs.Standing.{HasUpTo, go_on}
use Rattle.mt_journal.proofs.Fields.{lies_too, no_length, piece_found, piece_refused}
use Rattle.mt_journal.proofs.Lists.{as_long, same_byte, same_earlier}
use Rattle.mt_journal.proofs.Moments.{in_turn, weaker}
use Rattle.mt_journal.proofs.Pieces.{closed_gate, cut_is_no_move, go_on-push, if_false, if_true, no_more, passed_over, short_is_no_move}

module _ {D : Type 0} (contents : D → Option (List ℕ)) (images : D → List ℕ → Type 0) (moment : D → ℕ) (images_since : D → ℕ → List ℕ → Type 0) where
  pub reads_then : (old mid new : D) → OnlyRead contents images moment images_since old mid → OnlyRead contents images moment images_since mid new → OnlyRead contents images moment images_since old new
  reads_then old mid new first second = record {
    kept = second.kept ∙ first.kept;
    crash = λ image left. first.crash image (second.crash image left);
    moments = in_turn moment images_since old mid new (images old) first.moments (weaker moment images_since mid new (images mid) (images old) first.crash second.moments);
  }

module _ (may_follow : MayFollow) (list : List (List ℕ)) (whole : ℕ) (limit : Option ℕ) (gate : ℕ) (file : List ℕ) where
  pub no_gate : length file ≤ gate → records_at may_follow whole limit list 0 gate (drop gate file) ≡ Err whole
  no_gate short = ap (λ (l : List ℕ). records_at may_follow whole limit list 0 gate l) (drop_all gate file short)

  pub at_closed : gate < length file → is_open (get_or file gate 0) ≡ false → records_at may_follow whole limit list 0 gate (drop gate file) ≡ Ok no_more
  at_closed there shut = ap (λ (l : List ℕ). records_at may_follow whole limit list 0 gate l) (drop_more file gate 0 there) ∙ closed_gate may_follow whole limit list (get_or file gate 0) gate (drop (gate + 1) file) shut

  module _ (open_ : OpenRead gate file) where
    abbrev behind : List ℕ
    behind = drop (gate + 1) file

    abbrev with_piece : Reads Records
    with_piece = (piece_at (may_follow list) whole limit (gate + 1) behind >>= λ piece. records_at may_follow whole limit (list ++ piece.0 ∷ []) (4 + length piece.0) (gate + 1) behind >>= after_one piece.0)

    opened : records_at may_follow whole limit list 0 gate (drop gate file) ≡ records_at may_follow whole limit list 0 gate (0x5a ∷ behind)
    opened =
        ap (λ (l : List ℕ). records_at may_follow whole limit list 0 gate l) (drop_more file gate 0 open_.there)
        ∙ if_true (is_open (get_or file gate 0)) _ (Ok no_more) open_.opens

    pub at_move : is_move limit behind ≡ true → records_at may_follow whole limit list 0 gate (drop gate file) ≡ Ok (record { changes = []; moved = Some (gate + 5) })
    at_move is = opened ∙ if_true (is_move limit behind) (Ok (record { changes = []; moved = Some (gate + 5) })) with_piece is

    pub at_gate : is_move limit behind ≡ false → records_at may_follow whole limit list 0 gate (drop gate file) ≡ with_piece
    at_gate is = opened ∙ if_false (is_move limit behind) (Ok (record { changes = []; moved = Some (gate + 5) })) with_piece is

    pub piece_wrong : is_move limit behind ≡ false → (at : ℕ) → piece_at (may_follow list) whole limit (gate + 1) behind ≡ Err at → records_at may_follow whole limit list 0 gate (drop gate file) ≡ Err at
    piece_wrong is at wrong = at_gate is ∙ ap (λ (r : Reads (List ℕ × List ℕ)). r >>= λ piece. records_at may_follow whole limit (list ++ piece.0 ∷ []) (4 + length piece.0) (gate + 1) behind >>= after_one piece.0) wrong

    pub length_wrong : length behind < 4 → records_at may_follow whole limit list 0 gate (drop gate file) ≡ Err whole
    length_wrong few = piece_wrong (cut_is_no_move limit behind few) whole (no_length (may_follow list) whole limit (gate + 1) behind few)

    pub form_wrong : (bytes : List ℕ) → LaysOut limit (gate + 1) behind bytes → may_follow list bytes ≡ false → records_at may_follow whole limit list 0 gate (drop gate file) ≡ Err (gate + 5)
    form_wrong bytes lies wrong =
        piece_wrong (short_is_no_move limit behind (omega (arith, lies.count, lies.short))) (gate + 5)
        (piece_refused limit (gate + 1) behind bytes lies (may_follow list) whole wrong ∙ ap (λ (p : ℕ). Err p) (omega arith))

-- one record more
one_record : (may_follow : MayFollow) (list : List (List ℕ)) (whole : ℕ) (limit : Option ℕ) (gate : ℕ) (bytes file : List ℕ) → RecordRead may_follow list limit gate bytes file
    → records_at may_follow whole limit list 0 gate (drop gate file) ≡ (records_at may_follow whole limit (list ++ bytes ∷ []) 0 (gate + 5 + length bytes) (drop (gate + 5 + length bytes) file) >>= after_one bytes)
one_record may_follow list whole limit gate bytes file found =
    let n = length bytes in
    let more = list ++ bytes ∷ [] in
    let rest = drop (gate + 1) file in
    let go : Reads (List ℕ × List ℕ) → Reads Records = λ read. (read >>= λ piece. records_at may_follow whole limit (list ++ piece.0 ∷ []) (4 + length piece.0) (gate + 1) rest >>= after_one piece.0) in
    let long : length (take (4 + n) rest) ≡ 4 + n = omega (arith, length-take (4 + n) rest, found.lies.there) in
    let over : records_at may_follow whole limit more (4 + n) (gate + 1) rest ≡ records_at may_follow whole limit more 0 (gate + 5 + n) (drop (gate + 5 + n) file) =
    ap (λ (l : List ℕ). records_at may_follow whole limit more (4 + n) (gate + 1) l) (sym (take-append-drop (4 + n) rest))
    ∙ passed_over may_follow whole limit more (take (4 + n) rest) (drop (4 + n) rest) (4 + n) (gate + 1) (sym long)
    ∙ ap (λ (p : ℕ). records_at may_follow whole limit more 0 p (drop (4 + n) rest)) (omega (arith, long))
    ∙ ap (λ (l : List ℕ). records_at may_follow whole limit more 0 (gate + 5 + n) l) (drop-drop (4 + n) (gate + 1) file ∙ ap (λ (k : ℕ). drop k file) (omega arith)) in
    at_gate may_follow list whole limit gate file found.open_ (short_is_no_move limit rest (omega (arith, found.lies.count, found.lies.short)))
    ∙ ap go (piece_found limit (gate + 1) rest bytes found.lies (may_follow list) whole found.form)
    ∙ ap (λ (r : Reads Records). r >>= after_one bytes) over

-- a record stands in another file too that is the same up to its end
found_too : (may_follow : MayFollow) (list : List (List ℕ)) (limit : Option ℕ) (gate : ℕ) (bytes file other : List ℕ) → RecordRead may_follow list limit gate bytes file → take (5 + length bytes) (drop gate other) ≡ take (5 + length bytes) (drop gate file) → RecordRead may_follow list limit gate bytes other
found_too may_follow list limit gate bytes file other found same =
    let n = length bytes in
    let fits : 5 + n ≤ length (drop gate file) = omega (arith, found.lies.there, length-drop (gate + 1) file, length-drop gate file, found.open_.there) in
    let long : 5 + n ≤ length (drop gate other) = as_long (drop gate other) (drop gate file) (5 + n) fits same in
    let byte : get_or other gate 0 ≡ get_or file gate 0 =
    ap (λ (k : ℕ). get_or other k 0) (omega arith) ∙ sym (get_or-drop gate other 0 0) ∙ same_byte (drop gate other) (drop gate file) 0 (5 + n) (omega arith) same ∙ get_or-drop gate file 0 0 ∙ ap (λ (k : ℕ). get_or file k 0) (omega arith) in
    let behind : (l : List ℕ) → take (4 + n) (drop (gate + 1) l) ≡ drop 1 (take (5 + n) (drop gate l)) = λ l.
    (ap (λ (d : List ℕ). take (4 + n) d) (sym (drop-drop 1 gate l)) ∙ sym (drop-take 1 (4 + n) (drop gate l)) ∙ ap (λ (k : ℕ). drop 1 (take k (drop gate l))) (omega arith)) in
    record {
      open_ = record { there = omega (arith, long, length-drop gate other); opens = ap is_open byte ∙ found.open_.opens };
      lies = lies_too limit (gate + 1) (drop (gate + 1) file) bytes found.lies (drop (gate + 1) other) (behind other ∙ ap (λ (l : List ℕ). drop 1 l) same ∙ sym (behind file));
      form = found.form;
    }

-- What was read up to a gate goes on there.
module _ (reads : List ℕ → Reads Records) (may_follow : MayFollow) (limit : Option ℕ) (start gate : ℕ) (list : List (List ℕ)) (file : List ℕ) (behind : start ≤ gate) (up_to : HasUpTo reads may_follow limit start gate list file) where
  -- to one more record
  pub after_record : (bytes : List ℕ) → RecordRead may_follow list limit gate bytes file → HasUpTo reads may_follow limit start (gate + (5 + length bytes)) (list ++ bytes ∷ []) file
  after_record bytes found other same =
      let n = length bytes in
      let next = gate + (5 + n) in
      let w = length other in
      let earlier = same_earlier (drop start other) (drop start file) (gate - start) (next - start) (omega (arith, behind)) same in
      let k : gate - start + (5 + n) ≡ next - start = omega (arith, behind) in
      let on : (l : List ℕ) → drop (gate - start) (take (next - start) (drop start l)) ≡ take (5 + n) (drop gate l) = λ l.
      (ap (λ (m : ℕ). drop (gate - start) (take m (drop start l))) (sym k)
      ∙ drop-take (gate - start) (5 + n) (drop start l)
      ∙ ap (λ (d : List ℕ). take (5 + n) d) (drop-drop (gate - start) start l ∙ ap (λ (m : ℕ). drop m l) (omega (arith, behind)))) in
      let too = found_too may_follow list limit gate bytes file other found (sym (on other) ∙ ap (λ (l : List ℕ). drop (gate - start) l) same ∙ on file) in
      let place : gate + 5 + n ≡ next = omega arith in
      up_to other earlier
      ∙ ap (λ (r : Reads Records). r >>= go_on list) (one_record may_follow list w limit gate bytes other too)
      ∙ go_on-push list bytes (records_at may_follow w limit (list ++ bytes ∷ []) 0 (gate + 5 + n) (drop (gate + 5 + n) other))
      ∙ ap (λ (p : ℕ). records_at may_follow w limit (list ++ bytes ∷ []) 0 p (drop p other) >>= go_on (list ++ bytes ∷ [])) place

  -- to a record that is none
  pub record_wrong : (at : ℕ) → records_at may_follow (length file) limit list 0 gate (drop gate file) ≡ Err at → reads file ≡ Err at
  record_wrong at wrong = up_to file refl ∙ ap (λ (r : Reads Records). r >>= go_on list) wrong

  -- to a closed gate, in each file that is the same up to there
  pub ends_closed : (other : List ℕ) → take (gate - start) (drop start other) ≡ take (gate - start) (drop start file) → gate < length other → is_open (get_or other gate 0) ≡ false → reads other ≡ go_on list no_more
  ends_closed other same there shut = up_to other same ∙ ap (λ (r : Reads Records). r >>= go_on list) (at_closed may_follow list (length other) limit gate other there shut)

  -- to the mark of a move
  pub ends_moved : (other : List ℕ) → take (gate - start) (drop start other) ≡ take (gate - start) (drop start file) → OpenRead gate other → is_move limit (drop (gate + 1) other) ≡ true → reads other ≡ go_on list (record { changes = []; moved = Some (gate + 5) })
  ends_moved other same open_ is = up_to other same ∙ ap (λ (r : Reads Records). r >>= go_on list) (at_move may_follow list (length other) limit gate other open_ is)

module _ (is_image : List ℕ → Bool) (may_follow : MayFollow) (start : ℕ) (file : List ℕ) where
  -- after the image
  pub after_image : (image : List ℕ) → LaysOut (Some (start + slot_length)) start (drop start file) image → is_image image ≡ true
      → HasUpTo (slot_at is_image may_follow start) may_follow (Some (start + slot_length)) start (start + 4 + length image) (image ∷ []) file
  after_image image lies is other same =
      let n = length image in
      let e : Option ℕ = Some (start + slot_length) in
      let w = length other in
      let size : start + 4 + n - start ≡ 4 + n = omega arith in
      let same_piece : take (4 + n) (drop start other) ≡ take (4 + n) (drop start file) = ap (λ (k : ℕ). take k (drop start other)) (sym size) ∙ same ∙ ap (λ (k : ℕ). take k (drop start file)) size in
      let too = lies_too e start (drop start file) image lies (drop start other) same_piece in
      let go : Reads (List ℕ × List ℕ) → Reads Records = λ read. (read >>= λ image. records_at may_follow w e (image.0 ∷ []) 0 (start + 4 + length image.0) image.1 >>= after_one image.0) in
      ap go (piece_found e start (drop start other) image too is_image w is)
      ∙ ap (λ (l : List ℕ). records_at may_follow w e (image ∷ []) 0 (start + 4 + n) l >>= after_one image) (drop-drop (4 + n) start other ∙ ap (λ (k : ℕ). drop k other) (omega arith))

  -- the image is none
  pub image_wrong : (at : ℕ) → piece_at is_image (length file) (Some (start + slot_length)) start (drop start file) ≡ Err at → slot_at is_image may_follow start file ≡ Err at
  image_wrong at wrong = ap (λ (r : Reads (List ℕ × List ℕ)). r >>= λ image. records_at may_follow (length file) (Some (start + slot_length)) (image.0 ∷ []) 0 (start + 4 + length image.0) image.1 >>= after_one image.0) wrong

  -- the same, as it is read
  pub slot_up_to : (image : List ℕ) (list : List (List ℕ)) (n : ℕ) → LaysOut (Some (start + slot_length)) start (drop start file) image → is_image image ≡ true → list ≡ image ∷ [] → n ≡ length image
      → HasUpTo (slot_at is_image may_follow start) may_follow (Some (start + slot_length)) start (start + 4 + n) list file
  slot_up_to image list n lies is list_is n_is =
      subst (λ (l : List (List ℕ)). HasUpTo (slot_at is_image may_follow start) may_follow (Some (start + slot_length)) start (start + 4 + n) l file) (sym list_is)
      (subst (λ (k : ℕ). HasUpTo (slot_at is_image may_follow start) may_follow (Some (start + slot_length)) start (start + 4 + k) (image ∷ []) file) (sym n_is) (after_image image lies is))

-- a log begins with no change
pub log_begins : (may_follow : MayFollow) (list : List (List ℕ)) (file : List ℕ) → list ≡ [] → HasUpTo (log_at may_follow) may_follow None 8 8 list file
log_begins may_follow list file none other same = nothing (log_at may_follow other) ∙ ap (λ (l : List (List ℕ)). records_at may_follow (length other) None l 0 8 (drop 8 other) >>= go_on l) (sym none)
  where
    nothing : (read : Reads Records) → read ≡ (read >>= go_on [])
    nothing (Ok records) = refl
    nothing (Err place) = refl
