use Rattle.std.proofs.Common.{◌≡◌, ◌⊎◌, inl, inr, ◌∙◌, length, Err, sym, arith, eqb-true}
use Rattle.mt_model.specs.declared.texts.line_fault.LineFault.{LineFault}
use Rattle.mt_model.specs.declared.texts.line_fault.LineFault.TheVariants.{Memory}
use Rattle.mt_files.specs.Lines.{lines_of}
use Rattle.mt_ctl.specs.Script.{steps_from}
use Rattle.mt_ctl.proofs.Readings.{handed_on, onto_all-line, onto_all-stop, onto_all-done, short_more}
use Rattle.mt_ctl.proofs.reading.steps_behind_head.Goals as goal

pub returns-in_err-step-clause-refused : goal.returns-in_err-step-clause-refused
returns-in_err-step-clause-refused c =
    let l = c.loop-rest in
    let P : LineFault → Type 0 = λ fault. (fault ≡ Memory) ⊎ (steps_from 2 0 (lines_of c.args.lines.now) ≡ Err fault) in
    let fault : LineFault = c.in_err-step.field-0.0 in
    let stopped : P fault = elim c.in_err-step.ensures.refused [
      | inl memory ↦ inl memory
      | inr told ↦ inr (l.invariant.told ∙ onto_all-stop l.steps.items fault l.number l.before l.rest.now c.cut_line.result.0.now c.cut_line.result.1.now c.cut_line.ensures.lines told)
    ] in
    handed_on P c.from_residual.result fault c.from_residual.ensures.1 stopped

pub loop-rest-preserved : goal.loop-rest-preserved
loop-rest-preserved c =
    let l = c.loop-rest in
    let line = onto_all-line l.steps.items c.in_ok-step.step l.number l.before l.rest.now c.cut_line.result.0.now c.cut_line.result.1.now c.cut_line.ensures.lines c.in_ok-step.ensures.read in
    let told = l.invariant.told ∙ line in record {
      told = rw c.in_ok-push.ensures.items told;
      counted = omega (arith, c.in_ok-step.ensures.counted);
      short = rw c.in_ok-push.ensures.items (short_more l.steps.items c.in_ok-step.step l.invariant.short c.in_ok-step.ensures.short);
    }

pub returns-clause-read : goal.returns-clause-read
returns-clause-read c =
    let l = c.loop-rest in
    let none : length l.rest.now ≡ 0 = eqb-true (length l.rest.now) 0 (sym (c.loop-rest-test.ensures)) in
    rw c.from_vec.ensures (l.invariant.told ∙ onto_all-done l.steps.items l.number l.before l.rest.now none)
