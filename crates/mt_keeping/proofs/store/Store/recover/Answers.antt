use Rattle.std.proofs.Common.{◌≡◌, Err, rules}
use Rattle.mt_model.specs.texts.Contents.{contents_of}
use Rattle.mt_keeping.proofs.Recovering.{place_told, recovers_map}
use Rattle.mt_keeping.proofs.store.Store.recover.Goals as goal

pub returns-in_err-store-clause-refused : goal.returns-in_err-store-clause-refused
returns-in_err-store-clause-refused g c = λ file told.
    (let same : c.from_residual.result ≡ Err c.in_err-store.field-0.0 = search rules in
    rw same (place_told (contents_of c.args.config.now) file c.in_err-store.field-0.0.1 (c.in_err-store.ensures.refused file told)))

pub returns-in-Ok-clause-recovered : goal.returns-in-Ok-clause-recovered
returns-in-Ok-clause-recovered g c = λ file told.
    recovers_map (contents_of c.args.config.now) c.in_ok-store.map c.in-Ok.reopened file (c.in_ok-store.ensures.recovered file told).0 c.in-Ok.ensures.map

pub returns-in-Ok-clause-kept : goal.returns-in-Ok-clause-kept
returns-in-Ok-clause-kept g c = λ file told.
    rw c.in_ok-store.ensures.image (c.in_ok-store.ensures.recovered file told).1
