use Rattle.std.proofs.Common.{◌≡◌, ◌∙◌, ℕ, ap}
use Rattle.std.proofs.lemmas.Result.{IfOk-weaker}
use Rattle.std.specs.Global.{Vec}
use Rattle.mt_files.specs.Output.{output_text}
use Rattle.mt_compare.specs.mt_play.Plays.{IsOnJournal}
use Rattle.mt_top.specs.Begun.{Steps}
use Rattle.mt_top.proofs.playing.step.Goals as goal

pub returns-clause-journal : goal.returns-clause-journal
returns-clause-journal c =
    IfOk-weaker c.text_of.result (λ (text : Vec ℕ). text.items ≡ output_text c.as_slice.result.now) (λ (text : Vec ℕ). IsOnJournal c.step.new.self) (λ text is. c.in_ok-sent.ensures.journal) c.text_of.ensures

pub returns-clause-steps : goal.returns-clause-steps
returns-clause-steps c begun is =
    let steps = c.in_ok-sent.ensures.steps begun.given begun.sessions begun.going is in
    IfOk-weaker c.text_of.result (λ (text : Vec ℕ). text.items ≡ output_text c.as_slice.result.now) (Steps begun c.step.new.self c.args.event.now)
    (λ text told. (told ∙ ap output_text (c.as_slice.ensures ∙ steps.sent), steps.stands)) c.text_of.ensures
