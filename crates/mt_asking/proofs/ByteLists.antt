-- Lists of bytes.
use Rattle.std.proofs.Common.{◌<◌, ℕ, zero, suc, List, [], ◌∷◌, ◌++◌, arith}
use Rattle.hex.specs.Hex.{IsBytes}

pub bytes-nil : IsBytes []
bytes-nil i = omega arith

pub bytes-cons : (b : ℕ) (bytes : List ℕ) → b < 256 → IsBytes bytes → IsBytes (b ∷ bytes)
bytes-cons b bytes first rest zero = first
bytes-cons b bytes first rest (suc i) = rest i

pub bytes-tail : (b : ℕ) (bytes : List ℕ) → IsBytes (b ∷ bytes) → IsBytes bytes
bytes-tail b bytes h i = h (suc i)

pub bytes-append : (xs ys : List ℕ) → IsBytes xs → IsBytes ys → IsBytes (xs ++ ys)
bytes-append [] ys h k = k
bytes-append (x ∷ xs) ys h k = bytes-cons x (xs ++ ys) (h 0) (bytes-append xs ys (bytes-tail x xs h) k)
