use Rattle.std.proofs.Common.{◌≡◌, ◌∙◌, OnOk, ap, refl, rules, subst, sym, true}
use Rattle.std.specs.Prelude.{is_err}
use mathlib.Core.List.{IsPrefix}
use Rattle.mt_queue.specs.Ends.{Taken}
use Rattle.mt_worker.proofs.Ended.{ok_always, ok_unless_failed, reported_as}
use Rattle.mt_worker.proofs.Few.{longer_same}
use Rattle.mt_worker.proofs.reporting.reporter.Goals.{then-is_err, else-is_err}
use Rattle.mt_worker.proofs.reporting.reporter.Goals as goal

pub returns-clause-reported : goal.returns-clause-reported
returns-clause-reported g c =
    let y = c.report-ended.new.pass in
    let jobs = c.report-ended.new.jobs.taken in
    let taken : OnOk c.report-ended.result (c.into_pass.result.taken ≡ jobs) = elim c.if-is_err.branch [
      | then-is_err w ↦ let failed : is_err c.report-ended.result ≡ true = search rules in ok_unless_failed c.report-ended.result _ failed
      | else-is_err w ↦ ok_always c.report-ended.result _ (ap (λ (j : Taken). j.taken) (c.into_pass.ensures.same ∙ w.jobs-is))
    ] in
    let longer : IsPrefix jobs c.into_pass.result.taken = elim c.if-is_err.branch [
      | then-is_err w ↦ subst (λ (j : Taken). IsPrefix jobs j.taken) (sym (c.into_pass.ensures.same ∙ w.jobs-is)) w.take_to_end.ensures.longer
      | else-is_err w ↦ longer_same jobs c.into_pass.result.taken (ap (λ (j : Taken). j.taken) (c.into_pass.ensures.same ∙ w.jobs-is))
    ] in
    reported_as c.args.pass y jobs c.report-ended.result (record { outlet = tt; pass = y; queue = c.into_pass.result; status = c.status_of.result }) c.report-ended.ensures.ticked c.status_of.ensures refl taken longer
