use Rattle.std.proofs.Common.{◌≡◌, ◌++◌, ◌∷◌, [], List, ap, map, rules, subst, sym, take, ℕ}
use Rattle.mt_worker.specs.Accounts.{Account}
use Rattle.mt_worker.specs.Due.{id_of}
use Rattle.mt_worker.specs.Seats.{AreSeats, IsSeatOf}
use Rattle.mt_worker.specs.declared.seat.Seat.{Seat}
use Rattle.mt_worker.proofs.Seats.{begun_at, ids_more, seats_push}
use Rattle.mt_worker.proofs.working.seats_of.Goals as goal

pub loop-row-preserved : goal.loop-row-preserved
loop-row-preserved c accounts begun =
    let rows = c.args.rows.now in
    let at = c.loop-row.row-index in
    let row = c.row-item.result in
    let is = begun_at rows accounts at row c.loop-row-test.true c.row-item.is begun in
    let stands : IsSeatOf c.in_ok-new.field-0 (accounts row.session) = subst (IsSeatOf c.in_ok-new.field-0) (sym is) c.in_ok-new.ensures in
    let longer : c.push.new.self.items ≡ c.loop-row.seats.items ++ c.in_ok-new.field-0 ∷ [] = search rules in
    subst (λ (ids : List ℕ). AreSeats c.push.new.self.items ids accounts) (sym (ids_more rows at row c.loop-row-test.true c.row-item.is))
    (subst (λ (seats : List Seat). AreSeats seats (map id_of (take at rows) ++ row.session ∷ []) accounts) (sym longer)
    (seats_push c.loop-row.seats.items (map id_of (take at rows)) accounts c.in_ok-new.field-0 row.session (c.loop-row.invariant accounts begun) (ap (λ (a : Account). a.row.session) is) stands))
