-- A commit is carried out by a disk.
use Rattle.std.proofs.Common.{◌≡◌, inl, ⊎_elim, ℕ, Bool, List}
use Rattle.std.specs.Prelude.{Ok, Option, Some}
use Rattle.mt_outside.specs.Disk.{LeavesContents, LeavesOnly}
use Rattle.mt_journal.specs.Committing.{CutIn, StepCommits, list_with, written_by}
use Rattle.mt_journal.specs.Layout.{MayFollow, journal_at}
use Rattle.mt_journal.specs.Standing.{HasEither, StandsFor}
use Rattle.mt_journal.specs.declared.planning.Kind.{Kind}
use Rattle.mt_journal.specs.declared.planning.Step.{Step}
use Rattle.mt_journal.proofs.Moments.{in_turn, weaker}

module _ (is_image : List ℕ → Bool) (may_follow : MayFollow) (list : List (List ℕ)) where
  -- so far nothing but the list
  pub still : (other : List (List ℕ)) {D : Type 0} (moment : D → ℕ) (images_since : D → ℕ → List ℕ → Type 0) (old new : D) → LeavesOnly moment images_since old new (λ image. journal_at is_image may_follow image ≡ Ok list) → LeavesOnly moment images_since old new (HasEither is_image may_follow list other)
  still other moment images_since old new run = weaker moment images_since old new (λ image. journal_at is_image may_follow image ≡ Ok list) (HasEither is_image may_follow list other) (λ image has. inl has) run

  module _ (kind : Kind) (piece : List ℕ) (step : Step) (file : List ℕ) (commits : StepCommits is_image may_follow kind piece list step file) where
    abbrev other : List (List ℕ)
    other = list_with kind piece list

    module _ {D : Type 0} where
      pub both_moments : (moment : D → ℕ) (images_since : D → ℕ → List ℕ → Type 0) (old mid new : D) → LeavesOnly moment images_since old mid (λ image. journal_at is_image may_follow image ≡ Ok list) → LeavesOnly moment images_since mid new (CutIn step piece file)
          → LeavesOnly moment images_since old new (HasEither is_image may_follow list (list_with kind piece list))
      both_moments moment images_since old mid new first second =
          in_turn moment images_since old mid new (HasEither is_image may_follow list other) (still other moment images_since old mid first)
          (weaker moment images_since mid new (CutIn step piece file) (HasEither is_image may_follow list other) (λ image cut. ⊎_elim (λ short. inl (commits.first image short)) (commits.second image) cut) second)

      pub then_stands : (contents : D → Option (List ℕ)) (images : D → List ℕ → Type 0) (disk : D) → contents disk ≡ Some (written_by step piece file) → LeavesContents (Some (written_by step piece file)) (images disk) → StandsFor contents images is_image may_follow disk step.next (list_with kind piece list)
      then_stands contents images disk told safe = record { file = written_by step piece file; told = told; safe = safe; stands = commits.stands; has = commits.has }
