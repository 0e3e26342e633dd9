use Rattle.std.proofs.Common.{◌∙◌, ap, arith, length, map, sym, subst, List, ℕ}
use Rattle.std.specs.Prelude.{is_some, slice_get}
use Rattle.mt_queue.specs.Ends.{Put}
use Rattle.mt_owners.specs.mt_shared.Acts.{IsHalted, StandsBetween}
use Rattle.mt_owners.specs.mt_shared.Book.{are_in_time, is_timed, stop_in}
use Rattle.mt_owners.specs.mt_shared.Entry.{Entry}
use Rattle.mt_owners.specs.mt_shared.Shared.{NodePass}
use Rattle.mt_served.specs.Crews.{begun_pass}
use Rattle.mt_turn.specs.Known.{part_given}
use Rattle.mt_crew.specs.Gathering.{TookOfAll, first_of}
use Rattle.mt_crew.specs.Members.{lefts}
use Rattle.mt_crew.specs.Ready.{AreSeated, queue_put}
use Rattle.mt_crew.proofs.Serving.{crewed, has_served, queues_are}
use Rattle.mt_crew.proofs.running.run.Goals as goal

pub gather_all-left-requires-clause-back : goal.gather_all-left-requires-clause-back
gather_all-left-requires-clause-back g c κs within = (
  c.serve_all-reception.ensures.reported.is_left,
  (crewed g.O.Outlet.given g.O.Outlet.faults c.args.node (part_given c.args.pass) c.args.outlets.items c.args.places c.take_places-given.result c.serve_all-reception.result.1.1.items c.take_places-given.ensures.seated c.serve_all-reception.ensures.length c.serve_all-reception.ensures.worked).back,
)

pub gather_all-left-requires-clause-queues : goal.gather_all-left-requires-clause-queues
gather_all-left-requires-clause-queues g c κs within =
    let services = crewed g.O.Outlet.given g.O.Outlet.faults c.args.node (part_given c.args.pass) c.args.outlets.items c.args.places c.take_places-given.result c.serve_all-reception.result.1.1.items c.take_places-given.ensures.seated c.serve_all-reception.ensures.length c.serve_all-reception.ensures.worked in
    queues_are g.I.Intake.held g.I.Intake.clock g.I.Intake.faults c.new-reception.result c.serve_all-reception.result.0.1 c.serve_all-reception.result.0.0 g.O.Outlet.given g.O.Outlet.faults c.args.node (part_given c.args.pass) c.args.outlets.items c.args.places
    c.take_places-given.result c.serve_all-reception.result.1.1.items c.serve_all-reception.result.1.0 services c.take_places-given.ensures.seated c.requires.ready c.new-reception.ensures.senders c.serve_all-reception.ensures.received c.serve_all-reception.ensures.reported
    ∙ ap (λ it. map queue_put it.1.items) (sym c.into_parts-intake.ensures)

pub gather_all-left-requires-clause-length : goal.gather_all-left-requires-clause-length
gather_all-left-requires-clause-length g c κs within =
    let back = ap (λ it. length it.1.items) c.into_parts-intake.ensures in
    let same = c.serve_all-reception.ensures.received.same.0 in
    let put = ap (λ it. length it.items) (c.new-reception.ensures.senders ∙ c.take_places-given.ensures.seated.senders) in
    let places = c.requires.ready.senders in
    let members = c.serve_all-reception.ensures.length in
    let seats = c.take_places-given.ensures.seated.length_is in
    omega arith

pub returns-clause-halted : goal.returns-clause-halted
returns-clause-halted g c stop is =
    let same = c.close.ensures.book in
    subst (λ (book : List Entry). IsHalted stop c.close.result.node book (g.K.Keeper.map c.close.result.keeper)) (sym same) (c.close.ensures.halted stop (ap stop_in (sym same) ∙ is))

pub returns-clause-failed : goal.returns-clause-failed
returns-clause-failed g c = c.close.ensures.failed ∙ ap (λ (book : List Entry). is_some (stop_in book)) (sym c.close.ensures.book)

pub returns-clause-in_time : goal.returns-clause-in_time
returns-clause-in_time g c = ap are_in_time c.close.ensures.book ∙ c.close.ensures.in_time

pub returns-clause-timed : goal.returns-clause-timed
returns-clause-timed g c = ap (is_timed 0) c.close.ensures.book ∙ c.close.ensures.timed

pub returns-clause-counted : goal.returns-clause-counted
returns-clause-counted g c stop is = c.close.ensures.counted stop (ap stop_in (sym c.close.ensures.book) ∙ is)

pub returns-clause-between : goal.returns-clause-between
returns-clause-between g c stop is =
    let same = c.close.ensures.book in
    subst (λ (book : List Entry). ∥ StandsBetween (g.K.Keeper.stands_between c.close.result.keeper) c.close.result.node (slice_get book stop.place) ∥₁) (sym same) (c.close.ensures.between stop (ap stop_in (sym same) ∙ is))

pub returns-clause-crew : goal.returns-clause-crew
returns-clause-crew g c boot sessions have =
    let seats = subst (λ (pass : NodePass). AreSeated c.args.node (part_given pass) c.args.places c.args.outlets.items c.take_places-given.result) c.requires.first c.take_places-given.ensures.seated in
    let services = crewed g.O.Outlet.given g.O.Outlet.faults c.args.node (begun_pass c.args.node.lock c.args.node.origin) c.args.outlets.items c.args.places c.take_places-given.result c.serve_all-reception.result.1.1.items seats c.serve_all-reception.ensures.length c.serve_all-reception.ensures.worked in
    let took = subst (λ (senders : List Put). TookOfAll senders (lefts c.serve_all-reception.result.1.1.items) c.serve_all-reception.result.1.0) (ap (λ it. it.1.items) c.into_parts-intake.ensures) c.gather_all-left.ensures.taken in
    has_served g.O.Outlet.given g.O.Outlet.faults c.args.node c.args.outlets.items c.args.places c.take_places-given.result c.serve_all-reception.result.1.1.items c.serve_all-reception.result.1.0 g.I.Intake.held g.I.Intake.clock g.I.Intake.faults c.new-reception.result c.serve_all-reception.result.0.1
    boot sessions c.args.limit c.gather_all-left.new.outlets.items c.args.intake c.into_parts-intake.result.0 c.serve_all-reception.result.0.0 c.take_places-given.new.pass c.gather_all-left.new.pass c.close.result.book.items c.first_of.result c.gather_all-left.result
    services seats c.requires.ready have c.serve_all-reception.ensures.reported c.new-reception.ensures.senders c.new-reception.ensures.ids c.new-reception.ensures.limit c.new-reception.ensures.intake (sym (ap (λ it. it.0) c.into_parts-intake.ensures))
    c.serve_all-reception.ensures.received took (ap (λ (pass : NodePass). pass.places) c.take_places-given.ensures.kept ∙ ap (λ (pass : NodePass). pass.places) c.requires.first) c.gather_all-left.ensures.gathered c.close.ensures.book c.close.ensures.once c.close.ensures.no_other
    c.gather_all-left.ensures.outlets c.gather_all-left.ensures.status (c.first_of.ensures ∙ ap (λ (n : ℕ). first_of n c.gather_all-left.result) c.status_of.ensures)
