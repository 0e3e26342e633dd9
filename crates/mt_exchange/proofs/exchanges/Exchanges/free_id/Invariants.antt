-- the first free id is the first from here on
use Rattle.std.proofs.Common.{◌≡◌, ◌-◌}
use Rattle.mt_exchange.specs.Sending.{free_from, free_id}
use Rattle.mt_exchange.proofs.exchanges.Exchanges.free_id.Given as goal

abbrev pub invariant-ids : goal.invariant-ids
invariant-ids l = free_from l.id (65536 - l.tried) l.self.table ≡ free_id l.self.next_id l.self.table
