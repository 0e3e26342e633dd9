-- Bytes that are a text, and bytes that are none.
use Rattle.std.proofs.Common.{◌≡◌, ℕ, Bool, true, false, List, Ok, Err, refl}
use Rattle.std.specs.Str.{is_utf8, IsUtf8}
use Rattle.std.proofs.lemmas.Str.{is_utf8-from_IsUtf8, IsUtf8-from_is_utf8}
use Rattle.mt_tlv.specs.declared.fault.TlvFault.TheVariants.{NotUtf8}
use Rattle.mt_tlv.specs.Reading.{text_of}

pub text_of-text : (s : List ℕ) → IsUtf8 s → text_of s ≡ Ok s
text_of-text s h = rw (is_utf8-from_IsUtf8 s h) refl

not_true : (b : Bool) → (b ≡ true → ⊥) → b ≡ false
not_true true h = absurd (h refl)
not_true false h = refl

pub text_of-none : (s : List ℕ) → (IsUtf8 s → ⊥) → text_of s ≡ Err NotUtf8
text_of-none s h =
    let no : is_utf8 s ≡ false = not_true (is_utf8 s) (λ e. h (IsUtf8-from_is_utf8 s e)) in
    rw no refl
