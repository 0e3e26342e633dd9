use Rattle.std.proofs.Common.{ap, refl, subst, sym, ◌≡◌, ◌∙◌, ◌++◌, ◌∷◌, [], All, List, Some}
use Rattle.std.proofs.lemmas.List.Elements.{All-pop}
use Rattle.mt_owners.specs.mt_shared.Shared.{NodePass}
use Rattle.mt_queue.specs.Ends.{Taken}
use Rattle.mt_turn.specs.Known.{part_given}
use Rattle.mt_crew.specs.Members.{BeginsWith}
use Rattle.mt_crew.specs.Ready.{IsFresh}
use Rattle.mt_crew.proofs.Crews.{got_is, of_thread}
use Rattle.mt_crew.proofs.seating.take_places.Goals as goal

pub returns-clause-seated : goal.returns-clause-seated
returns-clause-seated g c =
    let is : c.in-Ok.given ≡ part_given c.args.pass.now = got_is c.in-Ok.given (part_given c.args.pass.now) c.in-Ok.ensures.given in
    record {
      pass_is = is;
      own = of_thread c.args.node.now c.args.pass.now c.in-Ok.given c.requires.own is;
      fresh = (All-pop IsFresh c.args.places.jobs.items c.pop.new.self.items (Some c.in-Some.ticks) c.in-Some.ensures.items c.requires.ready.fresh).1;
      length_is = c.seat_all.ensures.length;
      numbers = c.seat_all.ensures.numbers;
      rows = c.seat_all.ensures.rows;
      outlets_are = c.seat_all.ensures.outlets;
      jobs = ap (λ (l : List Taken). l ++ c.in-Some.ticks ∷ []) c.seat_all.ensures.jobs ∙ sym c.in-Some.ensures.items;
      begins = subst (λ (pass : NodePass). All (BeginsWith (part_given pass)) c.seat_all.new.members.items) c.in-Ok.ensures.kept c.seat_all.ensures.begins;
      ready = c.seat_all.ensures.ready;
      senders = refl;
      ids = refl;
    }
