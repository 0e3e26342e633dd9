-- Codes stand for values one to one.
use base.Stored.{Gv}
use Rattle.std.proofs.Common.{◌≡◌, ◌==◌, ◌↔◌, true, ℕ, ap, subst, arith}
use Rattle.std.proofs.lemmas.Bool.{eqb-true}
use Rattle.std.specs.Coded.{Coded}
use Rattle.mt_model.specs.rows.Same.{are_same_codes}
use Rattle.mt_marks.specs.differences.Codes.{are_same}

-- codes are told to be the same exactly where they are
abbrev pub CodesTellThemselves : Type 0
CodesTellThemselves = (code other : Gv) → (are_same_codes code other ≡ true) ↔ (code ≡ other)

pub told_same : CodesTellThemselves → {A : Type 0} (c : Coded A) (x y : A) → (are_same c x y ≡ true) ↔ (x ≡ y)
told_same law c x y = (λ e. c.inj x y ((law (c.code x) (c.code y)).0 e), λ e. (law (c.code x) (c.code y)).1 (ap c.code e))

self_same : (n : ℕ) → (n == n) ≡ true
self_same n = grind arith

pub number_same : (m n : ℕ) → ((m == n) ≡ true) ↔ (m ≡ n)
number_same m n = (λ e. eqb-true m n e, λ e. subst (λ (k : ℕ). (m == k) ≡ true) e (self_same m))
