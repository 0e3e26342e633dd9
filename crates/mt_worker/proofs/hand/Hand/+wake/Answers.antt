use Rattle.std.proofs.lemmas.List.{nil_from_length}
use Rattle.std.proofs.Common.{length, ◌*◌, ◌≡◌, ◌∷◌, [], Err, rules, subst, sym}
use Rattle.mt_worker.specs.Due.{Sweeps}
use Rattle.mt_worker.specs.Works.{WentOn}
use Rattle.mt_worker.proofs.Sweeps.{wake_fails, wake_goes, wake_none}
use Rattle.mt_worker.proofs.hand.Hand.+wake.Goals as goal

pub returns-in_default-clause-went : goal.returns-in_default-clause-went
returns-in_default-clause-went g t c ids accounts are rising =
    let zero : length c.args.seats.now ≡ 0 = search rules in
    let none : c.args.seats.now ≡ [] = nil_from_length c.args.seats.now zero in
    wake_none g.O.Outlet.given g.O.Outlet.faults _ _ c.args.now ids c.args.self.now c.args.seats.now accounts c.requires.own.2 none are

pub returns-in_err-wake_over-clause-went : goal.returns-in_err-wake_over-clause-went
returns-in_err-wake_over-clause-went g t c ids accounts are rising =
    let same : c.from_residual.result ≡ Err c.in_err-wake_over.field-0.0 = search rules in
    let is : c.args.seats.now ≡ c.in-Some.seat.now ∷ c.in-Some.others.now = search rules in
    subst (λ r. WentOn g.O.Outlet.given g.O.Outlet.faults (λ f gots. Sweeps c.args.now ids f gots) 0 (4 * length ids) ids c.args.self.now c.wake_over.new.self (c.wake_over.new.seat ∷ c.in-Some.others.now) r accounts) (sym same)
    (wake_fails g.O.Outlet.given g.O.Outlet.faults c.args.now c.args.self.now c.wake_over.new.self c.args.seats.now c.in-Some.seat.now c.wake_over.new.seat c.in-Some.others.now is _ _ ids accounts (c.wake_over.new.seat ∷ c.in-Some.others.now) c.in_err-wake_over.field-0.0 are c.in_err-wake_over.ensures.went)

pub returns-clause-went : goal.returns-clause-went
returns-clause-went g t c ids accounts are rising =
    let is : c.args.seats.now ≡ c.in-Some.seat.now ∷ c.in-Some.others.now = search rules in
    wake_goes g.O.Outlet.given g.O.Outlet.faults c.args.now c.args.self.now c.wake_over.new.self c.args.seats.now c.in-Some.seat.now c.wake_over.new.seat c.in-Some.others.now is _ _ _ c.wake.new.self ids accounts c.wake.new.seats c.wake.result are rising c.in_ok-wake_over.ensures.went c.wake.ensures.went
