use Rattle.std.proofs.Common.{◌≡◌, ◌⊎◌, List, ℕ, [], ◌∷◌, ◌++◌, length, subst, ap, ◌∙◌}
use Rattle.std.specs.Prelude.{OnOk, Some}
use Rattle.mt_journal.specs.Committing.{laid_out}
use Rattle.mt_journal.specs.Standing.{length_field}
use Rattle.mt_outside.specs.Disk.{CutShort, LeavesContents, LeavesOnly, overwritten}
use Rattle.mt_journal.proofs.journal.carry_out.Goals as goal

pub returns-clause-safe : goal.returns-clause-safe
returns-clause-safe g c = λ file told safe.
    (let laid : c.deref.result.now ≡ laid_out c.args.step.front c.args.piece.now = c.deref.ensures.value ∙ c.lay_out.ensures.laid ∙ ap (λ (l : List ℕ). l ++ length_field (length c.args.piece.now) ++ c.args.piece.now ++ 0 ∷ []) c.front_bytes.ensures in
    let after : List ℕ → List ℕ = λ written. overwritten c.args.step.last_at (c.args.step.last ∷ []) (overwritten c.args.step.at written file) in
    subst (λ (b : List ℕ). OnOk c.put_both.result ((g.D.Disk.contents c.put_both.new.disk ≡ Some (after b)) × LeavesContents (Some (after b)) (g.D.Disk.images c.put_both.new.disk))) laid (c.put_both.ensures.safe file told safe))

pub returns-clause-moments : goal.returns-clause-moments
returns-clause-moments g c = λ file told safe.
    (let laid : c.deref.result.now ≡ laid_out c.args.step.front c.args.piece.now = c.deref.ensures.value ∙ c.lay_out.ensures.laid ∙ ap (λ (l : List ℕ). l ++ length_field (length c.args.piece.now) ++ c.args.piece.now ++ 0 ∷ []) c.front_bytes.ensures in
    subst (λ (b : List ℕ). LeavesOnly g.D.Disk.moment g.D.Disk.images_since c.args.disk.now c.put_both.new.disk (λ image. CutShort c.args.step.at (length b) file image ⊎ CutShort c.args.step.last_at 1 (overwritten c.args.step.at b file) image)) laid
    (c.put_both.ensures.moments file told safe))
