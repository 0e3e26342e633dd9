-- How calls of a disk follow each other.
use Rattle.std.proofs.Common.{inl, inr, ⊎_elim, ℕ, List, refl, arith}
use Rattle.std.proofs.lemmas.List.{take_min}
use Rattle.mt_outside.specs.Disk.{CutShort, Elapses, LeavesOnly}

-- a write that is cut short may leave all as it was
pub nothing_cut : (at n : ℕ) (file : List ℕ) → CutShort at n file file
nothing_cut at n file = record { before = take_min at file; after = refl; no_shorter = omega arith; no_longer = omega arith }

module _ {D : Type 0} (moment : D → ℕ) (images_since : D → ℕ → List ℕ → Type 0) where
  pub weaker : (old new : D) (P Q : List ℕ → Type 0) → ((image : List ℕ) → P image → Q image) → LeavesOnly moment images_since old new P → LeavesOnly moment images_since old new Q
  weaker old new P Q leads run = record {
    later = run.later;
    each = λ image left. leads image (run.each image left);
    before = λ from image le left. ⊎_elim (λ past. inl past) (λ here. inr (leads image here)) (run.before from image le left);
  }

  pub in_turn : (old mid new : D) (P : List ℕ → Type 0) → LeavesOnly moment images_since old mid P → LeavesOnly moment images_since mid new P → LeavesOnly moment images_since old new P
  in_turn old mid new P first second = record {
    later = omega (arith, first.later, second.later);
    each = λ image left. ⊎_elim (first.each image) (λ here. here) (second.before (moment old) image first.later left);
    before = λ from image le left. ⊎_elim (first.before from image le) (λ here. inr here) (second.before from image (omega (arith, le, first.later)) left);
  }

  -- two calls, before which, between which and behind which a crash leaves what has P
  pub two_calls : (P : List ℕ → Type 0) (images : D → List ℕ → Type 0) (old mid new : D) → Elapses (moment old) (moment mid) (images_since old) (images_since mid) (images mid) → Elapses (moment mid) (moment new) (images_since mid) (images_since new) (images new)
      → ((image : List ℕ) → images_since old (moment old) image → P image) → ((image : List ℕ) → images mid image → P image) → ((image : List ℕ) → images new image → P image) → LeavesOnly moment images_since old new P
  two_calls P images old mid new first second before between behind = record {
    later = omega (arith, first.later, second.later);
    each = λ image left. ⊎_elim (λ past. ⊎_elim (before image) (between image) (first.nothing_else (moment old) image (omega arith) past)) (behind image) (second.nothing_else (moment old) image first.later left);
    before = λ from image le left.
        ⊎_elim (λ past. ⊎_elim (λ older. inl older) (λ here. inr (between image here)) (first.nothing_else from image le past)) (λ here. inr (behind image here)) (second.nothing_else from image (omega (arith, le, first.later)) left);
  }
