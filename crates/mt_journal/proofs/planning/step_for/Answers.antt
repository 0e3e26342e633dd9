use Rattle.std.proofs.Common.{◌+◌, subst, sym}
use Rattle.std.specs.Prelude.{IsTrue}
use Rattle.mt_journal.specs.Committing.{StepCommits, has_form, has_room}
use Rattle.mt_journal.specs.Standing.{Stands}
use Rattle.mt_journal.specs.declared.position.Position.TheVariants.{InUse}
use Rattle.mt_journal.specs.declared.planning.Front.TheVariants.{Nothing}
use Rattle.mt_journal.proofs.Steps.{begun_step, change_step, log_step}
use Rattle.mt_journal.proofs.planning.step_for.Goals as goal

pub returns-in-Begun-clause-commits : goal.returns-in-Begun-clause-commits
returns-in-Begun-clause-commits c = λ images changes list file piece form size stands.
    (subst (λ s. StepCommits images changes c.args.kind piece list s file) (sym c.first_image.ensures)
    (begun_step images changes list file piece c.args.count c.requires.short size c.args.kind (subst (λ p. IsTrue (has_room c.args.kind p c.args.count)) c.in-Begun.is c.requires.room) form
    (subst (λ p. Stands images changes p list file) c.in-Begun.is stands)))

pub returns-in-Log-clause-commits : goal.returns-in-Log-clause-commits
returns-in-Log-clause-commits c = λ images changes list file piece form size stands.
    (subst (λ s. StepCommits images changes c.args.kind piece list s file) (sym c.first_image-in-Log.ensures)
    (log_step images changes list file piece c.args.count c.requires.short size c.args.kind c.in-Log.gate (subst (λ p. IsTrue (has_room c.args.kind p c.args.count)) c.in-Log.is c.requires.room) form
    (subst (λ p. Stands images changes p list file) c.in-Log.is stands)))

pub returns-in-Change-clause-commits : goal.returns-in-Change-clause-commits
returns-in-Change-clause-commits c = λ images changes list file piece form size stands.
    (let gate = c.in-InUse.gate in
    let room = subst (λ k. IsTrue (has_room k (InUse c.in-InUse.base c.in-InUse.p0 c.in-InUse.p1 gate) c.args.count)) c.in-Change.is (subst (λ p. IsTrue (has_room c.args.kind p c.args.count)) c.in-InUse.is c.requires.room) in
    subst (λ k. StepCommits images changes k piece list (record { at = gate + 1; front = Nothing; last_at = gate; last = 0x5a; next = InUse c.in-InUse.base c.in-InUse.p0 c.in-InUse.p1 (gate + 5 + c.args.count) }) file) (sym c.in-Change.is)
    (change_step images changes list file piece c.args.count c.requires.short size c.in-InUse.base c.in-InUse.p0 c.in-InUse.p1 gate (subst (λ p. Stands images changes p list file) c.in-InUse.is stands) room
    (subst (λ k. IsTrue (has_form images changes k list piece)) c.in-Change.is form)))

pub returns-in-Image-clause-commits : goal.returns-in-Image-clause-commits
returns-in-Image-clause-commits c = λ images changes list file piece form size stands.
    (subst (λ k. StepCommits images changes k piece list c.later_image.result file) (sym c.in-Image.is)
    (c.later_image.ensures.commits images changes c.in-InUse.gate list file piece (subst (λ k. IsTrue (has_form images changes k list piece)) c.in-Image.is form) size (subst (λ p. Stands images changes p list file) c.in-InUse.is stands)))
