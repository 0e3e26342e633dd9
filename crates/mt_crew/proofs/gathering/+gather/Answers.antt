use Rattle.std.proofs.Common.{ap, sym, Some}
use Rattle.std.proofs.lemmas.List.Elements.{All-pop}
use Rattle.mt_crew.specs.Gathering.{TookAll}
use Rattle.mt_crew.specs.Members.{HasLeft}
use Rattle.mt_crew.proofs.Gatherings.{back_left, gathered_on, left_is, lefts_push, outlets_more, queues_more, status_more}
use Rattle.mt_crew.proofs.Lists.{zip_more}
use Rattle.mt_crew.proofs.gathering.+gather.Goals as goal

pub gather-before-requires-clause-queues : goal.gather-before-requires-clause-queues
gather-before-requires-clause-queues g t c κs within =
    let back : HasLeft c.args.node.now c.in-Some.member = (All-pop (HasLeft c.args.node.now) _ _ (Some c.in-Some.member) c.in-Some.ensures.items c.requires.back).1 in
    let left = left_is c.args.node.now c.in-Some.member.post back in
    (queues_more _ _ left.0 _ _ c.in-Some-pop.sender (lefts_push c.args.members.now.items c.pop.new.self.items c.in-Some.member left.0 c.in-Some.ensures.items left.1) c.in-Some-pop.ensures.items c.requires.queues).0

pub take_in-outlet-requires-clause-back : goal.take_in-outlet-requires-clause-back
take_in-outlet-requires-clause-back g t c κs within =
    back_left c.args.node.now c.in-Some.member.post c.in-Some-into_left.ended (All-pop (HasLeft c.args.node.now) _ _ (Some c.in-Some.member) c.in-Some.ensures.items c.requires.back).1 (sym c.in-Some-into_left.ensures)

pub take_in-outlet-requires-clause-queue : goal.take_in-outlet-requires-clause-queue
take_in-outlet-requires-clause-queue g t c κs within =
    (queues_more _ _ c.in-Some-into_left.ended _ _ c.in-Some-pop.sender (lefts_push c.args.members.now.items c.pop.new.self.items c.in-Some.member c.in-Some-into_left.ended c.in-Some.ensures.items (sym c.in-Some-into_left.ensures)) c.in-Some-pop.ensures.items c.requires.queues).1

pub returns-clause-outlets : goal.returns-clause-outlets
returns-clause-outlets g t c =
    outlets_more _ _ _ c.take_in-outlet.result.0 _ _ c.in-Some-into_left.ended (lefts_push c.args.members.now.items c.pop.new.self.items c.in-Some.member c.in-Some-into_left.ended c.in-Some.ensures.items (sym c.in-Some-into_left.ensures))
    c.gather-before.ensures.outlets c.push_reserved.ensures.items (ap (λ it. it.0) c.take_in-outlet.ensures.result)

pub returns-clause-gathered : goal.returns-clause-gathered
returns-clause-gathered g t c =
    gathered_on _ _ _ _ _ c.in-Some-into_left.ended (lefts_push c.args.members.now.items c.pop.new.self.items c.in-Some.member c.in-Some-into_left.ended c.in-Some.ensures.items (sym c.in-Some-into_left.ensures))
    c.gather-before.ensures.gathered c.take_in-outlet.ensures.took

pub returns-clause-taken : goal.returns-clause-taken
returns-clause-taken g t c =
    zip_more TookAll _ _ _ _ c.in-Some-pop.sender c.in-Some-into_left.ended c.in-Some-pop.ensures.items (lefts_push c.args.members.now.items c.pop.new.self.items c.in-Some.member c.in-Some-into_left.ended c.in-Some.ensures.items (sym c.in-Some-into_left.ensures))
    c.gather-before.ensures.taken c.take_in-outlet.ensures.taken

pub returns-clause-status : goal.returns-clause-status
returns-clause-status g t c =
    status_more _ c.take_in-outlet.result.1 _ _ _ c.in-Some-into_left.ended (lefts_push c.args.members.now.items c.pop.new.self.items c.in-Some.member c.in-Some-into_left.ended c.in-Some.ensures.items (sym c.in-Some-into_left.ensures))
    c.gather-before.ensures.status (ap (λ it. it.1) c.take_in-outlet.ensures.result) c.first_of.ensures
