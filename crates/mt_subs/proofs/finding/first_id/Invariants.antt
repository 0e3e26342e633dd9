-- the ids of those behind the place are the ids of all
use Rattle.std.proofs.Common.{◌≡◌, drop}
use Rattle.mt_subs.specs.Subscriptions.{ids_of}
use Rattle.mt_subs.proofs.finding.first_id.Given as goal

abbrev pub invariant-loop-place : goal.invariant-loop-place
invariant-loop-place l = ids_of l.fabric (drop l.place l.subs) ≡ ids_of l.fabric l.subs
