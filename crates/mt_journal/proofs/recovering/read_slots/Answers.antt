use Rattle.std.proofs.Common.{◌≡◌, ℕ, ◌<◌, ◌+◌, Bool, length, Err, Some, ap, subst, ◌∙◌, sym, arith, rules}
use Rattle.mt_journal.specs.Layout.{◌>>=◌, list_of_slot, names_slot_one, slot_at, slot_length, slot_start}
use Rattle.mt_journal.specs.Recovering.{RecordsRead}
use Rattle.mt_journal.specs.Standing.{IsInUse}
use Rattle.mt_journal.specs.declared.recovering.RecordsEnd.TheVariants.{Closed}
use Rattle.mt_journal.proofs.Faults.{handed_on}
use Rattle.mt_journal.proofs.Heads.{by_selectors, no_selectors}
use Rattle.mt_journal.proofs.Records.{has_itself}
use Rattle.mt_journal.proofs.recovering.read_slots.Goals as goal

pub returns-in_err-p0-clause-refused : goal.returns-in_err-p0-clause-refused
returns-in_err-p0-clause-refused g c = λ file told whole.
    (let same : c.from_residual.result ≡ Err c.in_err-p0.field-0.0 = search rules in
    handed_on c.from_residual.result c.in_err-p0.field-0.0 (λ at. (at ≡ c.args.whole) × (length file < c.args.base + 2)) _ same
    (c.in_err-p0.ensures.refused file told)
    (λ at wrong. no_selectors g.F.Form.image g.F.Form.change c.args.base file wrong.1 ∙ ap (λ (n : ℕ). Err n) (sym (wrong.0 ∙ whole))))

pub returns-in_err-gate-clause-refused : goal.returns-in_err-gate-clause-refused
returns-in_err-gate-clause-refused g c = λ file told whole.
    (let p0 = c.in_ok-p0.p0 in
    let p1 = c.in_ok-p0.p1 in
    let read = c.in_ok-p0.ensures.found file told in
    let start_is : c.slot_start-start.result ≡ slot_start c.args.base (names_slot_one p0 p1) = c.slot_start-start.ensures ∙ ap (λ (o : Bool). slot_start c.args.base o) c.names_slot_one.ensures in
    let same : c.from_residual-in_err-gate.result ≡ Err c.in_err-gate.field-0.0 = search rules in
    handed_on c.from_residual-in_err-gate.result c.in_err-gate.field-0.0 (λ at. slot_at g.F.Form.image g.F.Form.change c.slot_start-start.result file ≡ Err at) _ same
    (c.in_err-gate.ensures.refused file (c.read_selectors.ensures.only.kept ∙ told) whole)
    (λ at wrong. by_selectors g.F.Form.image g.F.Form.change c.args.base file p0 p1 read.0 read.1 read.2
    ∙ ap (λ (s : ℕ). slot_at g.F.Form.image g.F.Form.change s file >>= list_of_slot) (sym start_is) ∙ ap (λ r. r >>= list_of_slot) wrong))

pub returns-clause-found : goal.returns-clause-found
returns-clause-found g c = λ file told whole many far head.
    (let p0 = c.in_ok-p0.p0 in
    let p1 = c.in_ok-p0.p1 in
    let two = c.in_ok-p0.ensures.found file told in
    let list = c.in_ok-gate.changes.items in
    let next = c.in_ok-gate.gate in
    let start_is : c.slot_start-start.result ≡ slot_start c.args.base (names_slot_one p0 p1) = c.slot_start-start.ensures ∙ ap (λ (o : Bool). slot_start c.args.base o) c.names_slot_one.ensures in
    let read = subst (λ (s : ℕ). RecordsRead (slot_at g.F.Form.image g.F.Form.change s) g.F.Form.change (Some (s + slot_length)) s (Closed next) list file) start_is
    (c.in_ok-gate.ensures.found file (c.read_selectors.ensures.only.kept ∙ told) whole) in
    let stands : IsInUse g.F.Form.image g.F.Form.change c.args.base p0 p1 next list file = record {
      far = far;
      head = head;
      p0_is = two.1;
      p1_is = two.2;
      behind = omega (arith, c.in_ok-gate.ensures.behind, start_is);
      before_end = omega (arith, c.in_ok-gate.ensures.before, start_is);
      there = read.1;
      closed = read.2;
      slot = read.0;
    } in
    (has_itself g.F.Form.image g.F.Form.change c.args.base p0 p1 next list file stands, stands))
