use Rattle.std.proofs.Common.{◌≡◌, ◌+◌, ℕ, List, [], ◌∷◌, ◌++◌, length, drop, Err, ap, subst, sym, ◌∙◌, arith}
use Rattle.std.proofs.lemmas.Grind.{common_steps}
use Rattle.mt_journal.specs.Layout.{records_at}
use Rattle.mt_journal.specs.Recovering.{GateRead, IsChange}
use Rattle.mt_journal.specs.Standing.{HasUpTo}
use Rattle.mt_journal.proofs.Faults.{handed_on}
use Rattle.mt_journal.proofs.Walking.{after_record, reads_then, record_wrong}
use Rattle.mt_journal.proofs.recovering.read_records.Goals as goal

pub returns-in_err-read_at_gate-clause-refused : goal.returns-in_err-read_at_gate-clause-refused
returns-in_err-read_at_gate-clause-refused g c = λ file reads start told whole le up_to.
    (let same : c.from_residual.result ≡ Err c.in_err-read_at_gate.field-0.0 = grind (arith, common_steps) in
    let was = c.records.invariant in
    let gate = c.records.gate in
    handed_on c.from_residual.result c.in_err-read_at_gate.field-0.0 (λ at. records_at g.F.Form.change c.args.whole c.args.limit c.records.list.items 0 gate (drop gate file) ≡ Err at) _ same
    (c.in_err-read_at_gate.ensures.refused file c.records.list.items (was.only.kept ∙ told) whole was.told)
    (λ at wrong. record_wrong reads g.F.Form.change c.args.limit start gate c.records.list.items file (omega (arith, le, was.behind)) (was.has file reads start told whole le up_to) at
    (subst (λ (w : ℕ). records_at g.F.Form.change w c.args.limit c.records.list.items 0 gate (drop gate file) ≡ Err at) whole wrong)))

pub returns-in-Closed-clause-found : goal.returns-in-Closed-clause-found
returns-in-Closed-clause-found g c = λ file reads start told whole le up_to.
    (let was = c.records.invariant in
    let read = subst (λ a. GateRead g.F.Form.change c.records.list.items c.args.limit c.records.gate a file) c.in-Closed.is (c.in_ok-read_at_gate.ensures.found file c.records.list.items (was.only.kept ∙ told) whole was.told) in
    (was.has file reads start told whole le up_to, read.0, read.1))

pub returns-in-Moved-clause-found : goal.returns-in-Moved-clause-found
returns-in-Moved-clause-found g c = λ file reads start told whole le up_to.
    (let was = c.records.invariant in
    let read = subst (λ a. GateRead g.F.Form.change c.records.list.items c.args.limit c.records.gate a file) c.in-Moved.is (c.in_ok-read_at_gate.ensures.found file c.records.list.items (was.only.kept ∙ told) whole was.told) in
    (was.has file reads start told whole le up_to, read.0, read.1))

pub records-preserved : goal.records-preserved
records-preserved g c =
    let change = c.in-Change.change in
    let gate = c.records.gate in
    let was = c.records.invariant in
    let items : c.push.new.self.items ≡ c.records.list.items ++ change ∷ [] = grind (arith, common_steps) in
    let size : length c.as_slice.result.now ≡ length change = ap length c.as_slice.ensures in
    record {
      has = λ file reads start told whole le up_to.
          (let found = subst (λ a. GateRead g.F.Form.change c.records.list.items c.args.limit gate a file) c.in-Change.is (c.in_ok-read_at_gate.ensures.found file c.records.list.items (was.only.kept ∙ told) whole was.told) in
          subst (λ (l : List (List ℕ)). HasUpTo reads g.F.Form.change c.args.limit start (gate + (5 + length c.as_slice.result.now)) l file) (sym items)
          (subst (λ (n : ℕ). HasUpTo reads g.F.Form.change c.args.limit start (gate + (5 + n)) (c.records.list.items ++ change ∷ []) file) (sym size)
          (after_record reads g.F.Form.change c.args.limit start gate c.records.list.items file (omega (arith, le, was.behind)) (was.has file reads start told whole le up_to) change found)));
      only = reads_then g.D.Disk.contents g.D.Disk.images g.D.Disk.moment g.D.Disk.images_since c.args.disk.now c.records.disk c.read_at_gate.new.disk was.only c.read_at_gate.ensures.only;
      told = subst (λ (l : List (List ℕ)). g.F.Form.was_told c.read_at_gate.new.form l) (sym items)
          (subst (λ a. IsChange a (λ bytes. g.F.Form.was_told c.read_at_gate.new.form (c.records.list.items ++ bytes ∷ []))) c.in-Change.is (c.in_ok-read_at_gate.ensures.told c.records.list.items was.told));
      calm = c.in_ok-read_at_gate.ensures.cause ∙ was.calm;
      behind = omega (arith, was.behind);
      before = grind (arith, common_steps);
    }
