use Rattle.std.proofs.Common.{Some, ap, arith, sym, ◌∙◌}
use Rattle.mt_words.specs.Words.{command_of}
use Rattle.mt_words.proofs.Apart.{serve_asks_nothing}
use Rattle.mt_words.proofs.asked.asked_of.Goals as goal

pub returns-in-Some-Serve-clause-bad : goal.returns-in-Some-Serve-clause-bad
returns-in-Some-Serve-clause-bad c = λ bad.
    serve_asks_nothing c.args.words.now c.first-item.result (omega arith) c.first-item.is
    (ap command_of (sym c.as_str.ensures.value) ∙ (sym c.command_of.ensures ∙ (c.in-Some-Serve.is ∙ ap Some c.in-Some-Serve.field-0-is)))
