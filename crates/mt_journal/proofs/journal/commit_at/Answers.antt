use Rattle.std.proofs.Common.{◌≡◌, ℕ, ◌≤◌, ◌++◌, length, refl, sym, ap, subst, ◌∙◌, arith}
use Rattle.std.proofs.lemmas.List.{length-append}
use Rattle.std.specs.Prelude.{Err, Ok, OnErr, Result}
use Rattle.mt_outside.specs.Logs.{fewer}
use Rattle.mt_journal.specs.Committing.{calls_of, list_with}
use Rattle.mt_journal.specs.Standing.{switch_calls}
use Rattle.mt_journal.specs.Stopping.{StopLeaves, head_calls}
use Rattle.mt_journal.specs.declared.position.Position.{Position}
use Rattle.mt_journal.proofs.Commits.{both_moments, still, then_stands}
use Rattle.mt_journal.proofs.Logging.{logs_then}
use Rattle.mt_journal.proofs.Stopping.{calls_are, keeps_leaves, outlasts, rests_on, step_stops}
use Rattle.mt_journal.proofs.journal.commit_at.Goals as goal

pub returns-in_err-begun-clause-moments : goal.returns-in_err-begun-clause-moments
returns-in_err-begun-clause-moments g c = λ list s form.
    still g.F.Form.image g.F.Form.change list (list_with c.args.kind c.args.piece.now list) g.D.Disk.moment g.D.Disk.images_since c.args.disk.now c.begin.new.disk (c.begin.ensures.moments list s)

pub returns-in_err-carry_out-clause-moments : goal.returns-in_err-carry_out-clause-moments
returns-in_err-carry_out-clause-moments g c = λ list s form.
    (let mid = c.in_ok-begun.ensures.begun list s in
    both_moments g.F.Form.image g.F.Form.change list c.args.kind c.args.piece.now c.step_for-step.result mid.file (c.step_for-step.ensures.commits g.F.Form.image g.F.Form.change list mid.file c.args.piece.now form refl mid.stands)
    g.D.Disk.moment g.D.Disk.images_since c.args.disk.now c.begin.new.disk c.carry_out.new.disk (c.begin.ensures.moments list s) (c.carry_out.ensures.moments mid.file mid.told mid.safe))

pub returns-clause-moments : goal.returns-clause-moments
returns-clause-moments g c = λ list s form.
    (let mid = c.in_ok-begun.ensures.begun list s in
    both_moments g.F.Form.image g.F.Form.change list c.args.kind c.args.piece.now c.step_for-step.result mid.file (c.step_for-step.ensures.commits g.F.Form.image g.F.Form.change list mid.file c.args.piece.now form refl mid.stands)
    g.D.Disk.moment g.D.Disk.images_since c.args.disk.now c.begin.new.disk c.carry_out.new.disk (c.begin.ensures.moments list s) (c.carry_out.ensures.moments mid.file mid.told mid.safe))

pub returns-clause-committed : goal.returns-clause-committed
returns-clause-committed g c = λ list s form.
    (let mid = c.in_ok-begun.ensures.begun list s in
    let last = c.in_ok-carry_out.ensures.safe mid.file mid.told mid.safe in
    then_stands g.F.Form.image g.F.Form.change list c.args.kind c.args.piece.now c.step_for-step.result mid.file (c.step_for-step.ensures.commits g.F.Form.image g.F.Form.change list mid.file c.args.piece.now form refl mid.stands)
    g.D.Disk.contents g.D.Disk.images c.carry_out.new.disk last.0 last.1)

pub returns-clause-cause : goal.returns-clause-cause
returns-clause-cause g c =
    let same = c.in_ok-carry_out.ensures.cause.stays refl ∙ c.in_ok-begun.ensures.cause.stays refl in
    record {
      never_falls = omega (arith, same);
      rose = λ e. cc e;
      stays = λ e. same;
    }

-- what holds, holds of an error too
on_err : {T E : Type 0} (result : Result T E) (P : Type 0) → P → OnErr result P
on_err (Ok x) P p = tt
on_err (Err e) P p = p

some_calls : (place : Position) → 4 ≤ switch_calls place
some_calls place = omega (arith, calls_are place)

pub returns-in_err-begun-clause-left : goal.returns-in_err-begun-clause-left
returns-in_err-begun-clause-left g c = λ list s form.
    on_err c.from_residual.result _
    (keeps_leaves c.stops_are_crashes.ensures g.F.Form.image g.F.Form.change list s.file (switch_calls c.args.place) (list_with c.args.kind c.args.piece.now list) (g.D.Disk.allowed c.args.disk.now) (g.D.Disk.allowed c.begin.new.disk) (g.D.Disk.log c.begin.new.disk) (some_calls c.args.place)
    (c.in_err-begun.ensures.left list s))

pub returns-in_err-carry_out-clause-left : goal.returns-in_err-carry_out-clause-left
returns-in_err-carry_out-clause-left g c = λ list s form.
    (let mid = c.in_ok-begun.ensures.begun list s in
    let calls = head_calls c.args.place in
    let other = list_with c.args.kind c.args.piece.now list in
    on_err c.from_residual-in_err-carry_out.result _
    (subst (λ (n : ℕ). StopLeaves g.F.Form.image g.F.Form.change n list other (g.D.Disk.allowed c.args.disk.now) (g.D.Disk.allowed c.carry_out.new.disk) (g.D.Disk.log c.carry_out.new.disk)) (sym (calls_are c.args.place))
    (step_stops c.stops_are_crashes.ensures g.F.Form.image g.F.Form.change list mid.file c.args.kind c.args.piece.now c.step_for-step.result
    (c.step_for-step.ensures.commits g.F.Form.image g.F.Form.change list mid.file c.args.piece.now form refl mid.stands) (length calls) (g.D.Disk.log c.begin.new.disk) (g.D.Disk.log c.carry_out.new.disk)
    (rests_on {D = g.row.D.Denot} g.D.Disk.log g.D.Disk.images g.met.D.Disk.leaves c.stops_are_crashes.ensures c.begin.new.disk mid.file mid.safe)
    (g.D.Disk.allowed c.args.disk.now) (g.D.Disk.allowed c.begin.new.disk) (g.D.Disk.allowed c.carry_out.new.disk) c.in_ok-begun.ensures.logged.done.1
    (λ halts. ap length (c.in_ok-begun.ensures.logged.goes_on halts)) c.in_err-carry_out.ensures.logged.stopped)))

pub returns-clause-lasts : goal.returns-clause-lasts
returns-clause-lasts g c =
    let one = head_calls c.args.place in
    let other = calls_of c.step_for-step.result c.args.piece.now in
    let calls = switch_calls c.args.place in
    let all = logs_then one other (g.D.Disk.log c.args.disk.now) (g.D.Disk.log c.begin.new.disk) (g.D.Disk.log c.carry_out.new.disk) (g.D.Disk.allowed c.args.disk.now) (g.D.Disk.allowed c.begin.new.disk) (g.D.Disk.allowed c.carry_out.new.disk)
    c.in_ok-begun.begun (Ok c.in_ok-carry_out.field-0) c.in_ok-begun.ensures.logged c.in_ok-carry_out.ensures.logged in
    let size : length (one ++ other) ≡ calls = length-append one other ∙ sym (calls_are c.args.place) in
    let is : g.D.Disk.allowed c.carry_out.new.disk ≡ fewer calls (g.D.Disk.allowed c.args.disk.now) = all.done.1 ∙ ap (λ (n : ℕ). fewer n (g.D.Disk.allowed c.args.disk.now)) size in
    (is, outlasts calls (g.D.Disk.allowed c.args.disk.now) (g.D.Disk.allowed c.carry_out.new.disk) is (λ halts. sym size ∙ ap length (all.goes_on halts)) (omega (arith, some_calls c.args.place)))
