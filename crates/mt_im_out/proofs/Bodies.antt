-- The bytes of items, and of a report that has them.
use Rattle.std.proofs.Common.{◌≡◌, ℕ, Bool, Option, List, [], ◌∷◌, ◌++◌, length, refl, sym, ◌∙◌, ap, append_assoc, length-append}
use Rattle.std.specs.Prelude.{nat_le}
use Rattle.std.proofs.lemmas.List.{append-nil}
use Rattle.mt_tlv.specs.declared.value.Tag.TheVariants.{Anonymous}
use Rattle.mt_tlv.specs.Narrow.{narrow, narrow_elements, end_of_container}
use Rattle.mt_tlv.specs.Tree.{none}
use Rattle.mt_model.specs.Trees.{untagged}
use Rattle.mt_model.specs.messages.Blocks.{optional_number, item_block, item_tree}
use Rattle.mt_model.specs.declared.limits.TheConstants.{ITEM_BYTES}
use Rattle.mt_model.specs.declared.messages.message.Item.{Item}
use Rattle.mt_im.specs.Requests.{optional_blocks, revision}
use Rattle.mt_im_out.specs.Messages.{optional_truth, report_tree}
use Rattle.mt_im_out.specs.Chunks.{fit}
use Rattle.mt_im_out.specs.Packing.{optional_bytes, report_bytes, joins}
use Rattle.mt_im_out.proofs.Tails.{number_tail, truth_tail, items_tail}

-- the blocks of items, one after the other
abbrev pub bytes_of : List Item → List ℕ
bytes_of xs = narrow_elements (untagged item_tree xs)

pub bytes-append : (xs ys : List Item) → bytes_of (xs ++ ys) ≡ bytes_of xs ++ bytes_of ys
bytes-append [] ys = refl
bytes-append (x ∷ xs) ys = ap (λ z. item_block x ++ z) (bytes-append xs ys) ∙ sym (append_assoc (item_block x) (bytes_of xs) (bytes_of ys))

pub bytes_one : (x : Item) → bytes_of (x ∷ []) ≡ item_block x
bytes_one x = append-nil (item_block x)

pub bytes_more : (xs : List Item) (x : Item) → bytes_of xs ++ item_block x ≡ bytes_of (xs ++ x ∷ [])
bytes_more xs x = sym (bytes-append xs (x ∷ []) ∙ ap (λ z. bytes_of xs ++ z) (bytes_one x))

-- where items are begun, one more joins them exactly where they fit together
pub joins_fit : (b : Item) (bs : List Item) (x : Item) → joins (bytes_of (b ∷ bs)) (item_block x) ≡ fit ((b ∷ bs) ++ x ∷ [])
joins_fit b bs x = ap (λ n. nat_le n ITEM_BYTES) (sym (length-append (bytes_of (b ∷ bs)) (item_block x)) ∙ ap length (bytes_more (b ∷ bs) x))

-- the fields of a report, one after the other
fields_are : (subscription : Option ℕ) (xs es : List Item) (follows suppress : Bool)
    → narrow_elements (optional_number 0 subscription (optional_blocks 1 item_tree xs (optional_blocks 2 item_tree es (optional_truth 3 follows (optional_truth 4 suppress revision)))))
    ≡ narrow_elements (optional_number 0 subscription none) ++ (optional_bytes 1 (bytes_of xs) ++ (optional_bytes 2 (bytes_of es)
    ++ (narrow_elements (optional_truth 3 follows none) ++ (narrow_elements (optional_truth 4 suppress none) ++ narrow_elements revision))))
fields_are subscription xs es follows suppress =
    number_tail 0 subscription (optional_blocks 1 item_tree xs (optional_blocks 2 item_tree es (optional_truth 3 follows (optional_truth 4 suppress revision))))
    ∙ ap (λ z. narrow_elements (optional_number 0 subscription none) ++ z)
    (items_tail 1 xs (optional_blocks 2 item_tree es (optional_truth 3 follows (optional_truth 4 suppress revision)))
    ∙ ap (λ z. optional_bytes 1 (bytes_of xs) ++ z)
    (items_tail 2 es (optional_truth 3 follows (optional_truth 4 suppress revision))
    ∙ ap (λ z. optional_bytes 2 (bytes_of es) ++ z)
    (truth_tail 3 follows (optional_truth 4 suppress revision)
    ∙ ap (λ z. narrow_elements (optional_truth 3 follows none) ++ z) (truth_tail 4 suppress revision))))

-- the end of a container behind six parts
end_behind : (a b c d e f g : List ℕ) → a ++ (b ++ (c ++ (d ++ (e ++ (f ++ g))))) ≡ (a ++ (b ++ (c ++ (d ++ (e ++ f))))) ++ g
end_behind a b c d e f g = simp append_assoc

pub report_is : (subscription : Option ℕ) (xs es : List Item) (follows suppress : Bool) → report_bytes subscription (bytes_of xs) (bytes_of es) follows suppress ≡ narrow Anonymous (report_tree subscription xs es follows suppress)
report_is subscription xs es follows suppress =
    ap (λ z. 21 ∷ z)
    (end_behind (narrow_elements (optional_number 0 subscription none)) (optional_bytes 1 (bytes_of xs)) (optional_bytes 2 (bytes_of es))
    (narrow_elements (optional_truth 3 follows none)) (narrow_elements (optional_truth 4 suppress none)) (narrow_elements revision) (end_of_container ∷ [])
    ∙ ap (λ z. z ++ end_of_container ∷ []) (sym (fields_are subscription xs es follows suppress)))
