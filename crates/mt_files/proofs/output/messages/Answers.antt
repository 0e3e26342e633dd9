use Rattle.std.proofs.Common.{◌≡◌, ◌⊎◌, inl, inr, ◌∙◌, length, Err, sym, arith, eqb-true}
use Rattle.mt_model.specs.declared.texts.line_fault.LineFault.{LineFault}
use Rattle.mt_model.specs.declared.texts.line_fault.LineFault.TheVariants.{Memory}
use Rattle.mt_files.specs.Lines.{lines_of}
use Rattle.mt_files.specs.Output.{messages_from}
use Rattle.mt_files.proofs.Readings.{handed_on, messages-line, messages-stop, messages-done}
use Rattle.mt_files.proofs.output.messages.Goals as goal

pub returns-in_err-message-clause-refused : goal.returns-in_err-message-clause-refused
returns-in_err-message-clause-refused c =
    let l = c.loop-rest in
    let P : LineFault → Type 0 = λ fault. (fault ≡ Memory) ⊎ (messages_from 1 0 (lines_of c.args.lines.now) ≡ Err fault) in
    let fault : LineFault = c.in_err-message.field-0.0 in
    let stopped : P fault = elim c.in_err-message.ensures.refused [
      | inl memory ↦ inl memory
      | inr told ↦ inr (l.invariant.told ∙ messages-stop l.messages.items fault l.number l.before l.rest.now c.cut_line.result.0.now c.cut_line.result.1.now c.cut_line.ensures.lines told)
    ] in
    handed_on P c.from_residual.result fault c.from_residual.ensures.1 stopped

pub loop-rest-preserved : goal.loop-rest-preserved
loop-rest-preserved c =
    let l = c.loop-rest in
    let line = messages-line l.messages.items c.in_ok-message.message l.number l.before l.rest.now c.cut_line.result.0.now c.cut_line.result.1.now c.cut_line.ensures.lines c.in_ok-message.ensures.read in
    let told = l.invariant.told ∙ line in record {
      told = rw c.in_ok-push.ensures.items told;
      counted = omega (arith, c.in_ok-message.ensures.counted);
    }

pub returns-clause-read : goal.returns-clause-read
returns-clause-read c =
    let l = c.loop-rest in
    let none : length l.rest.now ≡ 0 = eqb-true (length l.rest.now) 0 (sym (c.loop-rest-test.ensures)) in
    rw c.from_vec.ensures (l.invariant.told ∙ messages-done l.messages.items l.number l.before l.rest.now none)
