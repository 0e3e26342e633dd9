-- Digits that are written in parts.
use Rattle.std.proofs.Common.{◌≡◌, ℕ, List, [], ◌∷◌, ◌++◌, ◌/◌, ◌%◌, slice_index, take, drop, refl, sym, ap, ◌∙◌}
use Rattle.std.proofs.lemmas.List.{append_assoc, take-append-drop}
use Rattle.hex.specs.Hex.{encode_lower, encode_with, lower_digits}

encode-append : (digits xs ys : List ℕ) → encode_with digits (xs ++ ys) ≡ encode_with digits xs ++ encode_with digits ys
unfolding encode_with
encode-append digits [] ys = refl
encode-append digits (x ∷ xs) ys = ap (λ rest. slice_index digits (x / 16) ∷ slice_index digits (x % 16) ∷ rest) (encode-append digits xs ys)

-- what is written, with the digits of the rest, stays where the first part of the rest is written
pub part-written : (n : ℕ) (rest part behind before after all : List ℕ) → part ≡ take n rest → behind ≡ drop n rest → after ≡ before ++ encode_lower part
    → before ++ encode_lower rest ≡ all → after ++ encode_lower behind ≡ all
part-written n rest part behind before after all first last written so_far =
    ap (λ text. text ++ encode_lower behind) written
    ∙ append_assoc before (encode_lower part) (encode_lower behind)
    ∙ ap (λ text. before ++ text) (sym (encode-append lower_digits part behind) ∙ ap encode_lower (ap (λ xs. xs ++ behind) first ∙ ap (λ xs. take n rest ++ xs) last ∙ take-append-drop n rest))
    ∙ so_far
