use Rattle.std.proofs.Common.{subst}
use Rattle.mt_compare.specs.Sides.{HasLooked, HasPassed}
use Rattle.mt_compare.proofs.Going.{ends, goes_further, goes_to_change, goes_to_event, stands_still}
use Rattle.mt_compare.proofs.side.Side.go_to_next.Goals as goal

pub returns-then-branch-clause-next : goal.returns-then-branch-clause-next
returns-then-branch-clause-next c given sessions g is =
    let fabric = c.args.fabric in
    let go = c.events.invariant.goes given sessions g is in
    let first = c.in-Some.ensures.cases.0 in
    let looked = subst (HasLooked fabric go.now c.in-Some.event c.events.self c.look.new.self) c.if-branch.true (c.in_ok-look.ensures.looked given sessions go.now go.stands) in
    goes_to_event given sessions fabric g c.args.self.now c.events.self go c.in-Some.event c.in-Some.behind first c.look.new.self looked

pub returns-then-branch-2-clause-next : goal.returns-then-branch-2-clause-next
returns-then-branch-2-clause-next c given sessions g is =
    let fabric = c.args.fabric in
    let go = c.events.invariant.goes given sessions g is in
    let first = c.in-Some.ensures.cases.0 in
    let looked = subst (HasLooked fabric go.now c.in-Some.event c.events.self c.look.new.self) c.if-branch.false (c.in_ok-look.ensures.looked given sessions go.now go.stands) in
    let stands = stands_still given sessions fabric g c.args.self.now c.events.self go c.in-Some.event c.in-Some.behind first c.look.new.self looked in
    let passed = subst (HasPassed given sessions fabric go.now c.in-Some.event c.in-Some.behind c.pass.new.self) c.if-branch-2.true (c.in_ok-pass.ensures.passed given sessions go.now stands) in
    goes_to_change given sessions fabric g c.args.self.now c.events.self go c.in-Some.event c.in-Some.behind first c.look.new.self c.pass.new.self looked passed

pub events-preserved : goal.events-preserved
events-preserved c = record {
  journal = c.in_ok-pass.ensures.journal;
  told = c.in_ok-pass.ensures.told c.if-branch-2.false;
  goes = λ given sessions g is. (
      let fabric = c.args.fabric in
      let go = c.events.invariant.goes given sessions g is in
      let first = c.in-Some.ensures.cases.0 in
      let looked = subst (HasLooked fabric go.now c.in-Some.event c.events.self c.look.new.self) c.if-branch.false (c.in_ok-look.ensures.looked given sessions go.now go.stands) in
      let stands = stands_still given sessions fabric g c.args.self.now c.events.self go c.in-Some.event c.in-Some.behind first c.look.new.self looked in
      let passed = subst (HasPassed given sessions fabric go.now c.in-Some.event c.in-Some.behind c.pass.new.self) c.if-branch-2.false (c.in_ok-pass.ensures.passed given sessions go.now stands) in
      goes_further given sessions fabric g c.args.self.now c.events.self go c.in-Some.event c.in-Some.behind first c.look.new.self c.pass.new.self looked passed
      );
}

pub returns-clause-next : goal.returns-clause-next
returns-clause-next c given sessions g is = ends given sessions c.args.fabric g c.args.self.now c.events.self (c.events.invariant.goes given sessions g is) c.in_default.ensures.cases
