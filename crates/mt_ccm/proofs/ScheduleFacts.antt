-- A key schedule and its key, which is the first of its round keys.
use Rattle.std.proofs.Common.{◌≡◌, ℕ, List, sym, subst, arith}
use Rattle.mt_ccm.specs.Aes.{round_key}
use Rattle.mt_ccm.specs.Words.{IsScheduleOf, block_at}

pub first_of : (key words : List ℕ) → IsScheduleOf key words → block_at words 0 ≡ key
unfolding round_key
first_of key words held = held 0 (omega arith)

pub own_schedule : (key words : List ℕ) → IsScheduleOf key words → IsScheduleOf (block_at words 0) words
own_schedule key words held =
    let P : List ℕ → Type 0 = λ k. IsScheduleOf k words in
    subst P (sym (first_of key words held)) held

pub schedule_of : (key words : List ℕ) → block_at words 0 ≡ key → IsScheduleOf (block_at words 0) words → IsScheduleOf key words
schedule_of key words same held =
    let P : List ℕ → Type 0 = λ k. IsScheduleOf k words in
    subst P same held
