-- What is asked is opened, by the law of both ends.
use Rattle.std.proofs.Common.{List, ap, sym, subst, ◌∙◌, arith}
use Rattle.std.specs.Prelude.{All}
use Rattle.mt_ctl.specs.declared.steps.Step.{Step}
use Rattle.mt_ctl.specs.Asking.{asked, datagrams_told}
use Rattle.mt_ctl.specs.Hearing.{answers}
use Rattle.mt_ctl.specs.Steps.{script_headers}
use Rattle.mt_ctl.proofs.Askings.{IsSpelled}
use Rattle.mt_ctl.proofs.asking.ask.Goals as goal

pub returns-in_ok-sealed-in-None-clause-opened : goal.returns-in_ok-sealed-in-None-clause-opened
returns-in_ok-sealed-in-None-clause-opened c =
    let row = c.args.row.now in
    let steps = c.args.steps.now in
    let spelled : All IsSpelled (script_headers steps) =
    (let P : List Step → Type 0 = λ ss. All IsSpelled (script_headers ss) in subst P c.as_slice.ensures c.in_ok-sealed-in-None.ensures.spelled) in
    ap (λ events. answers row (datagrams_told events)) (c.in_ok-sealed-in-None.ensures.asked ∙ ap (asked row) c.as_slice.ensures)
    ∙ c.node_opens_what_is_asked.ensures row steps c.requires.session (omega arith) (omega arith) (sym c.in-None.ensures.line) spelled
