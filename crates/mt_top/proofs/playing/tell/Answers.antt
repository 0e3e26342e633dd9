use Rattle.std.proofs.Common.{◌∙◌, ◌++◌, List, subst}
use Rattle.std.proofs.lemmas.Result.{on_ok_weaker}
use Rattle.mt_model.specs.declared.texts.recording.Sent.{Sent}
use Rattle.mt_soak.specs.Summary.{IsTallyOf}
use Rattle.mt_top.specs.Begun.{Tells}
use Rattle.mt_top.proofs.playing.tell.Goals as goal

pub returns-clause-tells : goal.returns-clause-tells
returns-clause-tells c begun before is tallied =
    let steps = c.in_ok-sent.ensures.steps begun.given begun.sessions begun.going is in
    on_ok_weaker {P = IsTallyOf c.note.new.self (before ++ c.as_slice.result.now)} {Q = Tells begun before c.step.new.self c.note.new.self c.args.event.now} c.note.result
    (λ noted. (subst (λ (messages : List Sent). IsTallyOf c.note.new.self (before ++ messages)) (c.as_slice.ensures ∙ steps.sent) noted, steps.stands)) (c.note.ensures.ok before tallied)
