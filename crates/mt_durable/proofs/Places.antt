-- Places in a slice that is written from the front on.
use Rattle.std.proofs.Common.{◌≡◌, ◌+◌, ◌≤◌, ℕ, List, ◌++◌, length, take, ap, arith}
use Rattle.std.proofs.lemmas.List.{length-append, length-take}

-- how long what is written is, and what is still to come
pub size_with : (new rest whole : List ℕ) (end : ℕ) → take end new ++ rest ≡ whole → end ≤ length new → end + length rest ≡ length whole
size_with new rest whole end is within = omega (arith, ap length is, length-take end new, length-append (take end new) rest)

pub size_behind : (old new rest more : List ℕ) (at end : ℕ) → take end new ++ rest ≡ take at old ++ more → end ≤ length new → at ≤ length old → end + length rest ≡ at + length more
size_behind old new rest more at end is within before = omega (arith, size_with new rest (take at old ++ more) end is within, length-take at old, length-append (take at old) more)
