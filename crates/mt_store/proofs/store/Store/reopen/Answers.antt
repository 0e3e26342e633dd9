use Rattle.std.proofs.Common.{◌≡◌, Err, ap, ◌∙◌, rules}
use Rattle.mt_store.specs.States.{StoreState}
use Rattle.mt_store.proofs.store.Store.reopen.Goals as goal

pub returns-in_err-list-clause-refused : goal.returns-in_err-list-clause-refused
returns-in_err-list-clause-refused g c = λ file told.
    (let same : c.from_residual.result ≡ Err c.in_err-list.field-0.0 = search rules in
    let disk : c.self.inside.journal.disk ≡ c.args.self.now.journal.disk = ap (λ (s : StoreState g.row.D.Denot). s.journal.disk) c.self.view_is in
    rw same (c.in_err-list.ensures.refused file (ap g.D.Disk.contents disk ∙ told)))

pub returns-in-Ok-clause-recovered : goal.returns-in-Ok-clause-recovered
returns-in-Ok-clause-recovered g c = λ file told.
    (let list = c.in_ok-list.list.items in
    let disk : c.self.inside.journal.disk ≡ c.args.self.now.journal.disk = ap (λ (s : StoreState g.row.D.Denot). s.journal.disk) c.self.view_is in
    let recovered = c.in_ok-list.ensures.recovered file (ap g.D.Disk.contents disk ∙ told) in
    (record { list = list; has = recovered.0; leads = c.in-Ok.ensures.map }, record { list = list; stands = recovered.1; leads = c.in-Ok.ensures.map }))
