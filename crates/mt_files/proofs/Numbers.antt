-- Numbers that pass a limit.
use Rattle.std.proofs.Common.{◌≡◌, ℕ, ◌+◌, ◌-◌, ◌*◌, ◌<◌, ◌≤◌, ◌&&◌, Bool, true, false, cond, leb, List, [], ◌∷◌, length, get_or, drop, None, refl, ap, ◌∙◌, arith}
use Rattle.std.proofs.lemmas.Bool.{and_from, le-leb, lt-leb}
use Rattle.std.proofs.lemmas.List.{drop_more}
use Rattle.mt_files.specs.Field.{digits_from, up_to}

-- more digits make no number smaller
pub up_to-above : (limit number : ℕ) (digits : List ℕ) → limit < number → up_to limit (digits_from number digits) ≡ None
up_to-above limit number [] lt = rw (lt-leb number limit lt) refl
up_to-above limit number (digit ∷ digits) lt = by_case (leb 48 digit && leb digit 57) (up_to-above limit (number * 10 + (digit - 48)) digits (omega arith))
  where
    by_case : (t : Bool) → up_to limit (digits_from (number * 10 + (digit - 48)) digits) ≡ None → up_to limit (cond t (digits_from (number * 10 + (digit - 48)) digits) None) ≡ None
    by_case true rest = rest
    by_case false rest = refl

-- the digit with which a number passes the limit
pub up_to-passed : (limit number i : ℕ) (text : List ℕ) → i < length text → 48 ≤ get_or text i 0 → get_or text i 0 ≤ 57 → limit < number * 10 + (get_or text i 0 - 48) → up_to limit (digits_from number (drop i text)) ≡ None
up_to-passed limit number i text lt low high above =
    let digit = get_or text i 0 in
    let rest = drop (i + 1) text in
    let here : leb 48 digit && leb digit 57 ≡ true = and_from (leb 48 digit) (leb digit 57) (le-leb 48 digit low) (le-leb digit 57 high) in
    ap (λ (digits : List ℕ). up_to limit (digits_from number digits)) (drop_more text i 0 lt)
    ∙ ap (λ t. up_to limit (cond t (digits_from (number * 10 + (digit - 48)) rest) None)) here
    ∙ up_to-above limit (number * 10 + (digit - 48)) rest above
