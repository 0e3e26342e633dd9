use Rattle.std.proofs.Common.{◌≡◌, Err, ap, ◌∙◌, rules}
use Rattle.mt_journal.specs.States.{JournalState}
use Rattle.mt_journal.proofs.journal.Journal.reopen.Goals as goal

pub returns-in_err-place-clause-refused : goal.returns-in_err-place-clause-refused
returns-in_err-place-clause-refused g c = λ file told.
    (let same : c.from_residual.result ≡ Err c.in_err-place.field-0.0 = search rules in
    let disk : c.self.inside.disk ≡ c.args.self.now.disk = ap (λ (s : JournalState g.row.D.Denot). s.disk) c.self.view_is in
    rw same (c.in_err-place.ensures.refused file (ap g.D.Disk.contents disk ∙ told)))
