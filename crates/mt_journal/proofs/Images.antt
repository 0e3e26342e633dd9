-- How a slot with one image is read.
use Rattle.std.proofs.Common.{◌≡◌, ℕ, ◌+◌, ◌-◌, ◌≤◌, Bool, true, false, List, [], ◌∷◌, ◌++◌, length, take, drop, sym, ap, ◌∙◌, arith, append_assoc}
use Rattle.std.specs.Prelude.{Ok, Some, None}
use Rattle.std.proofs.lemmas.Bool.{le-ltb}
use Rattle.std.proofs.lemmas.List.{take_at, drop-drop, take-append-drop, length-append}
use Rattle.mt_journal.specs.Layout.{MayFollow, Reads, Records, ◌>>=◌, after_one, is_open, is_past, piece_at, records_at, slot_at, slot_length}
use Rattle.mt_journal.specs.Standing.{HasUpTo, go_on, length_field}
use Rattle.mt_journal.proofs.Pieces.{closed_gate, piece_read}

module _ (is_image : List ℕ → Bool) (may_follow : MayFollow) (start : ℕ) (image : List ℕ) (short : length image ≤ 65536) (is : is_image image ≡ true) where
  image_slot : (other tail : List ℕ) → drop start other ≡ length_field (length image) ++ (image ++ tail)
      → slot_at is_image may_follow start other ≡ (records_at may_follow (length other) (Some (start + slot_length)) (image ∷ []) 0 (start + 4 + length image) tail >>= go_on (image ∷ []))
  image_slot other tail from =
      let go : Reads (List ℕ × List ℕ) → Reads Records = λ read.
      (read >>= λ image. records_at may_follow (length other) (Some (start + slot_length)) (image.0 ∷ []) 0 (start + 4 + length image.0) image.1 >>= after_one image.0) in
      let within : is_past (Some (start + slot_length)) (start + 5 + length image) ≡ false = le-ltb (start + slot_length) (start + 5 + length image) (omega (arith, short)) in
      ap (λ (l : List ℕ). go (piece_at is_image (length other) (Some (start + slot_length)) start l)) from
      ∙ ap go (piece_read is_image (length other) (Some (start + slot_length)) start image tail short within is)

  -- with a closed gate behind it
  pub image_alone : (other tail : List ℕ) (gate : ℕ) → is_open gate ≡ false → drop start other ≡ length_field (length image) ++ (image ++ gate ∷ tail) → slot_at is_image may_follow start other ≡ Ok (record { changes = image ∷ []; moved = None })
  image_alone other tail gate shut from =
      image_slot other (gate ∷ tail) from
      ∙ ap (λ (r : Reads Records). r >>= go_on (image ∷ [])) (closed_gate may_follow (length other) (Some (start + slot_length)) (image ∷ []) gate (start + 4 + length image) tail shut)

  pub image_up_to : (file tail : List ℕ) → drop start file ≡ length_field (length image) ++ (image ++ tail) → HasUpTo (slot_at is_image may_follow start) may_follow (Some (start + slot_length)) start (start + 4 + length image) (image ∷ []) file
  image_up_to file tail from other same =
      let n = length image in
      let front : List ℕ = length_field n ++ image in
      let long : length front ≡ 4 + n = length-append (length_field n) image in
      let size : start + 4 + n - start ≡ 4 + n = omega arith in
      let there : take (4 + n) (drop start other) ≡ front =
      ap (λ (k : ℕ). take k (drop start other)) (sym size) ∙ same ∙ ap (λ (k : ℕ). take k (drop start file)) size
      ∙ ap (λ (l : List ℕ). take (4 + n) l) (from ∙ sym (append_assoc (length_field n) image tail)) ∙ take_at front tail (4 + n) long in
      let gate : ℕ = start + 4 + n in
      let behind : drop (4 + n) (drop start other) ≡ drop gate other = drop-drop (4 + n) start other ∙ ap (λ (k : ℕ). drop k other) (omega arith) in
      let whole : drop start other ≡ length_field n ++ (image ++ drop gate other) =
      sym (take-append-drop (4 + n) (drop start other)) ∙ ap (λ (l : List ℕ). l ++ drop (4 + n) (drop start other)) there ∙ ap (λ (l : List ℕ). front ++ l) behind ∙ append_assoc (length_field n) image (drop gate other) in
      image_slot other (drop gate other) whole
