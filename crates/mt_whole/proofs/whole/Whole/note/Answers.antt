use Rattle.std.proofs.Common.{◌≡◌, Option, IfOk, map, sym, subst}
use Rattle.mt_interactions.specs.mt_runs.Lines.{talks_behind}
use Rattle.mt_model.specs.declared.texts.recording.Event.{Event}
use Rattle.mt_marks.specs.Noted.{noted_if}
use Rattle.mt_marks.specs.Remembered.{remembered}
use Rattle.mt_marks.specs.declared.shown.Note.{Note}
use Rattle.mt_whole.specs.Plan.{given_to}
use Rattle.mt_whole.proofs.whole.Whole.note.Goals as goal

pub returns-in-Resend : goal.returns-in-Resend
returns-in-Resend g c w is =
    let verdicts = c.args.verdicts.now in
    let given = given_to c.args.self.now (g.V.Verdicts.roots verdicts) (g.V.Verdicts.csrs verdicts) (g.V.Verdicts.joins verdicts) in
    subst (λ (event : Event). IfOk c.noted_resend.result (λ (note : Option Note). noted_if note (map remembered w.talks) ≡ map remembered (talks_behind given w event))) (sym c.in-Resend.is) (c.noted_resend.ensures given w is)
