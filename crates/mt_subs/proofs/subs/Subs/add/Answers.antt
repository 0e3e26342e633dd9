use Rattle.std.proofs.Common.{◌≡◌, ◌≤◌, ◌<◌, ◌+◌, false, arith, rules, slice_set, subst, sym}
use Rattle.mt_subs.specs.Subscriptions.{IsSubs, added, is_full, next_id}
use Rattle.mt_subs.specs.declared.subscription.SubState.{SubState}
use Rattle.mt_subs.proofs.Staying.{added_is, not_given}
use Rattle.mt_subs.proofs.subs.Subs.add.Goals as goal
use Rattle.mt_subs.proofs.subs.Subs.add.Goals.{in-Ok, in-Err}

pub invariant_of-self : goal.invariant_of-self
invariant_of-self c =
    let fabric = c.args.fabric in
    let subs = c.args.self.now in
    let valid : IsSubs subs = subst (λ (s : SubState). IsSubs s) c.self.view_is c.self.invariant in
    let small : fabric < 256 = omega arith in
    let room : is_full fabric subs ≡ false = search rules in
    let after : SubState = record { subscriptions = c.push.new.self.items; next_ids = slice_set c.self.inside.next_ids c.from.result (c.next_id-id.result + 1) } in
    let is : after ≡ added fabric c.args.sub subs = search rules in
    subst (λ (s : SubState). IsSubs s) (sym is) (added_is fabric c.args.sub subs small valid room)

pub returns-clause-unused : goal.returns-clause-unused
returns-clause-unused c =
    let fabric = c.args.fabric in
    let subs = c.args.self.now in
    let valid : IsSubs subs = subst (λ (s : SubState). IsSubs s) c.self.view_is c.self.invariant in
    let next : c.next_id-id.result ≡ next_id fabric subs = search rules in
    let high : next_id fabric subs ≤ c.next_id-id.result = omega (arith, next) in
    elim c.match-push.branch [ in-Ok w ↦ rw w.result-is (not_given fabric c.next_id-id.result subs valid high) | in-Err w ↦ rw w.result-is tt ]
