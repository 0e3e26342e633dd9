use Rattle.std.proofs.Common.{◌≡◌, ◌≤◌, ◌<◌, ◌+◌, true, false, Err, None, refl, ap, subst, ◌∙◌, arith}
use Rattle.std.proofs.lemmas.Grind.{common_steps}
use Rattle.mt_journal.specs.Layout.{◌>>=◌, is_past, log_at, log_list, slots_at}
use Rattle.mt_journal.specs.Recovering.{EndsAt, RecordsRead}
use Rattle.mt_journal.specs.declared.recovering.RecordsEnd.TheVariants.{Closed, Moved}
use Rattle.mt_journal.proofs.Faults.{at_place, handed_on}
use Rattle.mt_journal.proofs.Heads.{by_mark, log_closed, log_moved, moved_head}
use Rattle.mt_journal.proofs.Walking.{log_begins}
use Rattle.mt_journal.proofs.recovering.read_log.Goals as goal

pub returns-in_err-end-clause-refused : goal.returns-in_err-end-clause-refused
returns-in_err-end-clause-refused g c = λ file told whole many head.
    (let same : c.from_residual.result ≡ Err c.in_err-end.field-0.0 = grind (arith, common_steps) in
    handed_on c.from_residual.result c.in_err-end.field-0.0 (λ at. log_at g.F.Form.change file ≡ Err at) _ same
    (c.in_err-end.ensures.refused file (log_at g.F.Form.change) 8 told whole (omega arith) (log_begins g.F.Form.change c.new-none.result.items file c.new-none.ensures.items))
    (λ at wrong. by_mark g.F.Form.image g.F.Form.change true file head many ∙ ap (λ r. r >>= log_list g.F.Form.image g.F.Form.change file) wrong))

pub returns-in-Closed-clause-found : goal.returns-in-Closed-clause-found
returns-in-Closed-clause-found g c = λ file told whole many head.
    (let list = c.in_ok-end.changes.items in
    let gate = c.in-Closed.gate in
    let far : 8 ≤ gate = (subst (λ e. EndsAt e (λ gate. (8 ≤ gate) × (gate < c.args.whole) × (is_past None (gate + 1) ≡ false))) c.in-Closed.is c.in_ok-end.ensures.ends).0 in
    let read : RecordsRead (log_at g.F.Form.change) g.F.Form.change None 8 (Closed gate) list file =
    subst (λ e. RecordsRead (log_at g.F.Form.change) g.F.Form.change None 8 e list file) c.in-Closed.is
    (c.in_ok-end.ensures.found file (log_at g.F.Form.change) 8 told whole (omega arith) (log_begins g.F.Form.change c.new-none.result.items file c.new-none.ensures.items)) in (
      log_closed g.F.Form.image g.F.Form.change gate list file head many far read.0 file refl many read.1 read.2,
      record { head = head; many = many; behind = far; there = read.1; closed = read.2; log = read.0 },
    ))

pub returns-in-Moved-clause-found : goal.returns-in-Moved-clause-found
returns-in-Moved-clause-found g c = λ file told whole many head.
    (let list = c.in_ok-end.changes.items in
    let gate = c.in-Moved.gate in
    let far : 8 ≤ gate = (subst (λ e. EndsAt e (λ gate. (8 ≤ gate) × (gate < c.args.whole) × (is_past None (gate + 1) ≡ false))) c.in-Moved.is c.in_ok-end.ensures.ends).0 in
    let read : RecordsRead (log_at g.F.Form.change) g.F.Form.change None 8 (Moved gate) list file =
    subst (λ e. RecordsRead (log_at g.F.Form.change) g.F.Form.change None 8 e list file) c.in-Moved.is
    (c.in_ok-end.ensures.found file (log_at g.F.Form.change) 8 told whole (omega arith) (log_begins g.F.Form.change c.new-none.result.items file c.new-none.ensures.items)) in
    c.read_slots.ensures.found file (c.read_records.ensures.only.kept ∙ told) whole many (omega (arith, far))
    (moved_head g.F.Form.image g.F.Form.change gate list file head many far read.0 read.1 read.2))

pub returns-in-Moved-clause-refused : goal.returns-in-Moved-clause-refused
returns-in-Moved-clause-refused g c = λ file told whole many head.
    (let list = c.in_ok-end.changes.items in
    let gate = c.in-Moved.gate in
    let far : 8 ≤ gate = (subst (λ e. EndsAt e (λ gate. (8 ≤ gate) × (gate < c.args.whole) × (is_past None (gate + 1) ≡ false))) c.in-Moved.is c.in_ok-end.ensures.ends).0 in
    let read : RecordsRead (log_at g.F.Form.change) g.F.Form.change None 8 (Moved gate) list file =
    subst (λ e. RecordsRead (log_at g.F.Form.change) g.F.Form.change None 8 e list file) c.in-Moved.is
    (c.in_ok-end.ensures.found file (log_at g.F.Form.change) 8 told whole (omega arith) (log_begins g.F.Form.change c.new-none.result.items file c.new-none.ensures.items)) in
    at_place c.read_slots.result (λ at. slots_at g.F.Form.image g.F.Form.change (gate + 5) file ≡ Err at) _
    (c.read_slots.ensures.refused file (c.read_records.ensures.only.kept ∙ told) whole)
    (λ at wrong. log_moved g.F.Form.image g.F.Form.change gate list file head many far read.0 file refl many read.1 read.2 ∙ wrong))
