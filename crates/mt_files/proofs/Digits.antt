-- The sixteen digits.
use Rattle.std.proofs.Common.{◌≡◌, ℕ, zero, suc, ◌+◌, ◌<◌, ◌≤◌, slice_index, refl, arith}
use Rattle.hex.specs.Hex.{lower_digits}

pub decimal_digit : (value : ℕ) → value < 10 → slice_index lower_digits value ≡ 48 + value
decimal_digit zero h = refl
decimal_digit (suc zero) h = refl
decimal_digit (suc (suc zero)) h = refl
decimal_digit (suc (suc (suc zero))) h = refl
decimal_digit (suc (suc (suc (suc zero)))) h = refl
decimal_digit (suc (suc (suc (suc (suc zero))))) h = refl
decimal_digit (suc (suc (suc (suc (suc (suc zero)))))) h = refl
decimal_digit (suc (suc (suc (suc (suc (suc (suc zero))))))) h = refl
decimal_digit (suc (suc (suc (suc (suc (suc (suc (suc zero)))))))) h = refl
decimal_digit (suc (suc (suc (suc (suc (suc (suc (suc (suc zero))))))))) h = refl
decimal_digit (suc (suc (suc (suc (suc (suc (suc (suc (suc (suc n)))))))))) h = absurd (omega arith)

pub letter_digit : (value : ℕ) → value < 16 → 10 ≤ value → slice_index lower_digits value ≡ 87 + value
letter_digit zero h k = absurd (omega arith)
letter_digit (suc zero) h k = absurd (omega arith)
letter_digit (suc (suc zero)) h k = absurd (omega arith)
letter_digit (suc (suc (suc zero))) h k = absurd (omega arith)
letter_digit (suc (suc (suc (suc zero)))) h k = absurd (omega arith)
letter_digit (suc (suc (suc (suc (suc zero))))) h k = absurd (omega arith)
letter_digit (suc (suc (suc (suc (suc (suc zero)))))) h k = absurd (omega arith)
letter_digit (suc (suc (suc (suc (suc (suc (suc zero))))))) h k = absurd (omega arith)
letter_digit (suc (suc (suc (suc (suc (suc (suc (suc zero)))))))) h k = absurd (omega arith)
letter_digit (suc (suc (suc (suc (suc (suc (suc (suc (suc zero))))))))) h k = absurd (omega arith)
letter_digit (suc (suc (suc (suc (suc (suc (suc (suc (suc (suc zero)))))))))) h k = refl
letter_digit (suc (suc (suc (suc (suc (suc (suc (suc (suc (suc (suc zero))))))))))) h k = refl
letter_digit (suc (suc (suc (suc (suc (suc (suc (suc (suc (suc (suc (suc zero)))))))))))) h k = refl
letter_digit (suc (suc (suc (suc (suc (suc (suc (suc (suc (suc (suc (suc (suc zero))))))))))))) h k = refl
letter_digit (suc (suc (suc (suc (suc (suc (suc (suc (suc (suc (suc (suc (suc (suc zero)))))))))))))) h k = refl
letter_digit (suc (suc (suc (suc (suc (suc (suc (suc (suc (suc (suc (suc (suc (suc (suc zero))))))))))))))) h k = refl
letter_digit (suc (suc (suc (suc (suc (suc (suc (suc (suc (suc (suc (suc (suc (suc (suc (suc n)))))))))))))))) h k = absurd (omega arith)
