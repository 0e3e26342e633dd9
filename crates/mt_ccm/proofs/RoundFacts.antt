-- The rounds on words are the rounds of the standard, under the schedule of a key.
use Rattle.std.proofs.Common.{◌≡◌, ℕ, ◌+◌, ◌*◌, ◌<◌, ◌≤◌, List, ◌∙◌, sym, ap, refl, arith, add-one, inl, inr, slice_index}
use Rattle.std.proofs.lemmas.Bool.{cases_lt}
use Rattle.mt_ccm.specs.Aes.{add_round_key, cipher, mix_columns, next_key_byte, round_key, shift_rows, state_after, state_of, sub_bytes}
use Rattle.mt_ccm.specs.Words.{IsScheduleOf, block_at}

pub first_state_is : (key block words loaded state : List ℕ) → IsScheduleOf key words → block_at loaded 0 ≡ block
    → block_at state 0 ≡ add_round_key (block_at loaded 0) (block_at words 0) → block_at state 0 ≡ state_after key block 0
unfolding state_after
first_state_is key block words loaded state held same e = e ∙ (λ i. add_round_key (same i) (held 0 (omega arith) i))

state_more : (key block : List ℕ) (n : ℕ)
    → state_after key block (n + 1) ≡ add_round_key (mix_columns (shift_rows (sub_bytes (state_after key block n)))) (round_key key (n + 1))
unfolding state_after
state_more key block n = rw add-one refl

pub next_state_is : (key block words state next : List ℕ) (n : ℕ) → n < 9 → IsScheduleOf key words → block_at state 0 ≡ state_after key block n
    → block_at next 0 ≡ add_round_key (mix_columns (shift_rows (sub_bytes (block_at state 0)))) (block_at words (4 * n + 4))
    → block_at next 0 ≡ state_after key block (n + 1)
next_state_is key block words state next n low held same e =
    let place : 4 * n + 4 ≡ 4 * (n + 1) = omega arith in
    let keys : block_at words (4 * n + 4) ≡ round_key key (n + 1) = ap (λ (at : ℕ). block_at words at) place ∙ held (n + 1) (omega arith) in
    e ∙ (λ i. add_round_key (mix_columns (shift_rows (sub_bytes (same i)))) (keys i)) ∙ sym (state_more key block n)

pub last_state_is : (key block words state last : List ℕ) (n : ℕ) → n ≡ 9 → IsScheduleOf key words → block_at state 0 ≡ state_after key block n
    → block_at last 0 ≡ add_round_key (shift_rows (sub_bytes (block_at state 0))) (block_at words 40)
    → block_at last 0 ≡ cipher key block
unfolding cipher
last_state_is key block words state last n at held same e =
    let done : block_at state 0 ≡ state_after key block 9 = same ∙ ap (state_after key block) at in
    e ∙ (λ i. add_round_key (shift_rows (sub_bytes (done i))) (held 10 (omega arith) i))

pub first_key : (key loaded : List ℕ) → block_at loaded 0 ≡ key → block_at loaded 0 ≡ round_key key 0
unfolding round_key
first_key key loaded same = same

key_more : (key : List ℕ) (n : ℕ) → round_key key (n + 1) ≡ state_of (next_key_byte (round_key key n) n)
unfolding round_key
key_more key n = rw add-one refl

pub next_key_is : (key last next : List ℕ) (n : ℕ) → block_at last 0 ≡ round_key key n
    → block_at next 0 ≡ state_of (next_key_byte (block_at last 0) n) → block_at next 0 ≡ round_key key (n + 1)
next_key_is key last next n same e = e ∙ ap (λ (k : List ℕ). state_of (next_key_byte k n)) same ∙ sym (key_more key n)

block_before : (old new : List ℕ) (at m : ℕ) → ((i : ℕ) → i < m → slice_index new i ≡ slice_index old i) → at + 4 ≤ m → block_at new at ≡ block_at old at
block_before old new at m same le =
    let a : slice_index new at ≡ slice_index old at = same at (omega arith) in
    let b : slice_index new (at + 1) ≡ slice_index old (at + 1) = same (at + 1) (omega arith) in
    let c : slice_index new (at + 2) ≡ slice_index old (at + 2) = same (at + 2) (omega arith) in
    let d : slice_index new (at + 3) ≡ slice_index old (at + 3) = same (at + 3) (omega arith) in
    rw (a, b, c, d) refl

-- one more round key in the schedule
pub keys_more : (key old new last : List ℕ) (n at : ℕ) → at ≡ 4 * n → ((m : ℕ) → m < n → block_at old (4 * m) ≡ round_key key m)
    → block_at last 0 ≡ round_key key n → block_at new at ≡ block_at last 0 → ((i : ℕ) → i < at → slice_index new i ≡ slice_index old i)
    → (m : ℕ) → m < n + 1 → block_at new (4 * m) ≡ round_key key m
keys_more key old new last n at place held same put before m low = elim (cases_lt m n) [
  | inl lt ↦ block_before old new (4 * m) at before (omega arith) ∙ held m lt
  | inr ge ↦
      let e : m ≡ n = omega arith in
      let f : at ≡ 4 * m = omega arith in
      rw e (ap (λ (i : ℕ). block_at new i) (sym place) ∙ put ∙ same)
]
