use Rattle.std.proofs.lemmas.List.{nil_from_length}
use Rattle.std.proofs.Common.{length, ◌≡◌, ◌∙◌, ◌∷◌, [], rules, sym}
use Rattle.mt_worker.proofs.Sweeps.{take_here, take_none, take_there}
use Rattle.mt_worker.proofs.hand.Hand.+take_of.Goals as goal

pub returns-in_default-clause-went : goal.returns-in_default-clause-went
returns-in_default-clause-went g t c ids accounts are rising =
    let zero : length c.args.seats.now ≡ 0 = search rules in
    let none : c.args.seats.now ≡ [] = nil_from_length c.args.seats.now zero in
    take_none g.O.Outlet.given g.O.Outlet.faults _ _ c.args.session c.args.now c.args.from c.args.bytes ids c.args.self.now c.args.seats.now accounts c.requires.own.2 none are

pub returns-then-session-clause-went : goal.returns-then-session-clause-went
returns-then-session-clause-went g t c ids accounts are rising =
    let is : c.args.seats.now ≡ c.in-Some.seat.now ∷ c.in-Some.others.now = search rules in
    take_here g.O.Outlet.given g.O.Outlet.faults c.args.session c.args.now c.args.from c.args.bytes c.args.self.now c.hear.new.self c.args.seats.now c.in-Some.seat.now c.hear.new.seat c.in-Some.others.now is _ ids accounts c.hear.result are rising c.requires.named
    (λ a stands. sym (c.session.ensures a stands) ∙ c.if-session.true) c.hear.ensures.went

pub returns-clause-went : goal.returns-clause-went
returns-clause-went g t c ids accounts are rising =
    let is : c.args.seats.now ≡ c.in-Some.seat.now ∷ c.in-Some.others.now = search rules in
    take_there g.O.Outlet.given g.O.Outlet.faults c.args.session c.args.now c.args.from c.args.bytes c.args.self.now c.take_of.new.self c.args.seats.now c.in-Some.seat.now c.in-Some.seat.now c.in-Some.others.now is _ ids accounts c.take_of.new.seats c.take_of.result are rising
    (λ a stands same. c.if-session.false (c.session.ensures a stands ∙ same)) c.take_of.ensures.went
