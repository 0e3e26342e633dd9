-- A change makes an image longer by its own length at most.
use Rattle.std.proofs.Common.{◌≡◌, ◌+◌, ◌≤◌, ⊎_elim, ℕ, true, false, List, [], ◌∷◌, length, arith}
use Rattle.std.proofs.lemmas.Bool.{cases_Bool}
use Rattle.std.proofs.lemmas.List.{length-append}
use Rattle.mt_tlv.specs.Narrow.{end_of_container}
use Rattle.mt_durable.specs.Changes.{change_bytes}
use Rattle.mt_durable.specs.Fronts.{entries_bytes, entry_bytes}
use Rattle.mt_durable.specs.Keys.{is_before, is_same}
use Rattle.mt_durable.specs.Maps.{has_value}
use Rattle.mt_durable.specs.Setting.{in_front, placed, with_all, with_entry, without}
use Rattle.mt_durable.specs.declared.durable.Entry.{Entry}

abbrev pub size : List Entry → ℕ
size entries = length (entries_bytes entries)

pub size_more : (entry : Entry) (entries : List Entry) → size (entry ∷ entries) ≡ length (entry_bytes entry) + size entries
size_more entry entries = length-append (entry_bytes entry) (entries_bytes entries)

fits_without : (key : List ℕ) (entries : List Entry) → size (without key entries) ≤ size entries
fits_without key [] = omega arith
fits_without key (one ∷ rest) = ⊎_elim
    (λ (is : is_same key one.key ≡ true). rw is (omega (arith, size_more one rest)))
    (λ (is : is_same key one.key ≡ false). rw is (omega arith))
    (cases_Bool (is_same key one.key))

fits_in_front : (entry : Entry) (entries : List Entry) → size (in_front entry entries) ≤ length (entry_bytes entry) + size entries
fits_in_front entry entries = ⊎_elim
    (λ (has : has_value entry.value ≡ true). rw has (omega (arith, size_more entry entries)))
    (λ (has : has_value entry.value ≡ false). rw has (omega arith))
    (cases_Bool (has_value entry.value))

fits_placed : (entry : Entry) (entries : List Entry) → size (placed entry entries) ≤ length (entry_bytes entry) + size entries
fits_placed entry entries = omega (arith, fits_in_front entry (without entry.key entries), fits_without entry.key entries)

fits_with : (entry : Entry) (map : List Entry) → size (with_entry entry map) ≤ length (entry_bytes entry) + size map
fits_with entry [] = fits_in_front entry []
fits_with entry (one ∷ rest) = ⊎_elim
    (λ (is : is_before one.key entry.key ≡ true). rw is (omega (arith, size_more one (with_entry entry rest), size_more one rest, fits_with entry rest)))
    (λ (is : is_before one.key entry.key ≡ false). rw is (fits_placed entry (one ∷ rest)))
    (cases_Bool (is_before one.key entry.key))

fits_with_all : (change map : List Entry) → size (with_all change map) ≤ size change + size map
fits_with_all [] map = omega arith
fits_with_all (entry ∷ change) map = omega (arith, fits_with_all change (with_entry entry map), fits_with entry map, size_more entry change)

pub length-change : (entries : List Entry) → length (change_bytes entries) ≡ size entries + 2
length-change entries = omega (arith, length-append (entries_bytes entries) (end_of_container ∷ []))

pub adds_no_more : (change map : List Entry) → length (change_bytes (with_all change map)) ≤ length (change_bytes change) + length (change_bytes map)
adds_no_more change map = omega (arith, fits_with_all change map, length-change (with_all change map), length-change change, length-change map)
