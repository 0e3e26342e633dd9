use Rattle.std.proofs.Common.{◌≡◌, ℕ, ◌%◌, ◌^◌, []}
use Rattle.mt_turn.specs.Rule.{in_line, IsSame}
use Rattle.mt_turn.proofs.line.wait_for_turn.Given as goal

abbrev pub invariant-loop : goal.invariant-loop
invariant-loop g l = IsSame l.fn.stand l.stand × (l.stand.me.1 ≡ []) × ((t : ℕ) × (t % 2 ^ 64 ≡ l.ticket) × (l.stand.me.0 ≡ in_line l.fn.stand.me.0 t))
