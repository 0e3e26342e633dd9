-- A number of one byte under a tag of one byte.
use Rattle.std.proofs.Common.{◌≡◌, ℕ, ◌+◌, ◌*◌, ◌%◌, ◌^◌, ◌<◌, Bool, [], ◌∷◌, ap, ◌∙◌, if◌then◌else◌, arith}
use Rattle.std.specs.Prelude.{nat_lt}
use Rattle.std.proofs.lemmas.Bool.{lt-ltb}
use Rattle.mt_tlv.specs.declared.value.Tag.TheVariants.{Context}
use Rattle.mt_tlv.specs.Narrow.{little_endian, narrow, width_of}
use Rattle.mt_tlv.specs.Tree.{uint}

small_width : (number : ℕ) → number < 256 → width_of number ≡ 0
small_width number h = ap (λ (t : Bool). if t then 0 else if nat_lt number (2 ^ 16) then 1 else if nat_lt number (2 ^ 32) then 2 else 3) (lt-ltb number 256 h)

pub small_number : (field number : ℕ) → number < 256 → narrow (Context field) (uint number) ≡ 36 ∷ field ∷ number ∷ []
small_number field number h =
    let same : number % 256 ≡ number = omega arith in
    ap (λ (w : ℕ). (32 * 1 + (4 + w)) ∷ field ∷ little_endian (2 ^ w) number) (small_width number h) ∙ ap (λ (b : ℕ). 36 ∷ field ∷ b ∷ []) same
