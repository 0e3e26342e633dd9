-- How long the image after a change is, entry by entry.
use Rattle.std.proofs.Common.{◌≡◌, ◌+◌, ◌≤◌, ℕ, true, List, ◌++◌, length, drop, ap, arith}
use Rattle.std.specs.Prelude.{Some}
use Rattle.std.proofs.lemmas.List.{length-append}
use Rattle.mt_durable.specs.Fronts.{IsFront, bytes_if, bytes_to_end, entries_said, lower_bytes}
use Rattle.mt_durable.specs.Images.{IsImage, image_after}
use Rattle.mt_durable.specs.Keeping.{IsChange}
use Rattle.mt_durable.specs.Maps.{keys_ascend}
use Rattle.mt_durable.specs.Reading.{Says, change_at, said}
use Rattle.mt_durable.specs.Setting.{count_before, with_all, without}
use Rattle.mt_durable.specs.declared.durable.Entry.{Entry}
use Rattle.mt_durable.specs.declared.image.Front.{Front}
use Rattle.mt_durable.proofs.Adding.{adds_no_more}
use Rattle.mt_durable.proofs.Fronts.{merged_front, says_said}

-- what an entry of the change adds, and what is left behind it
pub front_size : (entries map : List Entry) (front : Front) → IsFront entries (Some front) → keys_ascend entries ≡ true
    → length (bytes_to_end (with_all entries map))
    ≡ (length (lower_bytes front.key.now map) + length (bytes_if front.has_value front.bytes.now)) + length (bytes_to_end (with_all (entries_said front.rest.now) (without front.key.now (drop (count_before front.key.now map) map))))
front_size entries map front is up =
    let lower = lower_bytes front.key.now map in
    let own = bytes_if front.has_value front.bytes.now in
    let behind = bytes_to_end (with_all (entries_said front.rest.now) (without front.key.now (drop (count_before front.key.now map) map))) in
    omega (arith, ap length (merged_front entries map front is up), length-append (lower ++ own) behind, length-append lower own)

-- it is at most as long as both together may be
pub at_most_both : ((entries : List Entry) (bytes : List ℕ) → Says entries bytes → change_at bytes ≡ Some entries) → (change image : List ℕ) → IsChange change → IsImage image → length (image_after change image) ≤ 131070
at_most_both read change image is kept =
    let says = says_said read change is in
    omega (arith, adds_no_more (said change) (said image), ap length says.narrow, ap length kept.0.narrow, says.element.short, kept.0.element.short)
