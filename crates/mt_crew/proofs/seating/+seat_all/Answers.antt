use Rattle.std.proofs.Common.{rules, arith, ap, length, refl, Some}
use Rattle.std.proofs.lemmas.List.Elements.{All-pop, All-push, All-same}
use Rattle.mt_turn.specs.Known.{part_given}
use Rattle.mt_crew.specs.Members.{BeginsWith, MayHave, MayWork, jobs_at, outlet_at}
use Rattle.mt_crew.specs.Ready.{IsFresh}
use Rattle.mt_crew.specs.declared.member.Member.{Member}
use Rattle.mt_crew.proofs.Crews.{numbers_push, same_given}
use Rattle.mt_crew.proofs.Lists.{all_more, kept_push}
use Rattle.mt_crew.proofs.seating.+seat_all.Goals as goal

pub returns-clause-ready : goal.returns-clause-ready
returns-clause-ready g t c =
    let own : MayHave c.in-Some-pop-2.own_rows = (All-pop MayHave _ _ (Some c.in-Some-pop-2.own_rows) c.in-Some-pop-2.ensures.items c.requires.rows).1 in
    let fresh : IsFresh c.in-Some-pop.own_jobs = (All-pop IsFresh _ _ (Some c.in-Some-pop.own_jobs) c.in-Some-pop.ensures.items c.requires.fresh).1 in
    All-same (MayWork c.args.node.now) c.push_reserved.new.self.items _ c.push_reserved.ensures.items
    (All-push (MayWork c.args.node.now) c.seat_all.new.members.items _ c.seat_all.ensures.ready (record { own = search rules; may = own; fresh = fresh }))

pub returns-clause-numbers : goal.returns-clause-numbers
returns-clause-numbers g t c =
    numbers_push c.push_reserved.new.self.items c.seat_all.new.members.items _ (length c.pop.new.self.items) (length c.args.outlets.now.items) c.push_reserved.ensures.items c.seat_all.ensures.numbers (search rules) (let l = c.in-Some.ensures.len in omega arith)

pub returns-clause-jobs : goal.returns-clause-jobs
returns-clause-jobs g t c =
    kept_push (λ (member : Member g.row.O.Denot). jobs_at member.post) c.push_reserved.new.self.items c.seat_all.new.members.items _ c.pop-2.new.self.items c.args.jobs.now.items c.in-Some-pop.own_jobs c.push_reserved.ensures.items refl c.seat_all.ensures.jobs c.in-Some-pop.ensures.items

pub returns-clause-outlets : goal.returns-clause-outlets
returns-clause-outlets g t c =
    kept_push (λ (member : Member g.row.O.Denot). outlet_at member.post) c.push_reserved.new.self.items c.seat_all.new.members.items _ c.pop.new.self.items c.args.outlets.now.items c.in-Some.outlet c.push_reserved.ensures.items refl c.seat_all.ensures.outlets c.in-Some.ensures.items

pub returns-clause-begins : goal.returns-clause-begins
returns-clause-begins g t c =
    all_more (BeginsWith (part_given c.args.pass.now)) c.push_reserved.new.self.items c.seat_all.new.members.items _ c.push_reserved.ensures.items c.seat_all.ensures.begins
    (ap Some (same_given c.args.pass.now c.seat_all.new.pass c.in-Ok.given c.seat_all.ensures.kept c.in-Ok.ensures.given))
