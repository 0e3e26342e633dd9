-- The ids are tried one after the other.
use Rattle.std.proofs.Common.{ℕ, ◌+◌, ◌-◌, ap, sym, ◌∙◌}
use Rattle.mt_exchange.specs.Sending.{free_from}
use Rattle.mt_exchange.proofs.Answered.{free-here, free-none, free-on}
use Rattle.mt_exchange.proofs.exchanges.Exchanges.free_id.Goals as goal

pub returns-then-not-is_there : goal.returns-then-not-is_there
returns-then-not-is_there c =
    sym (free-here c.ids.id c.ids.tried c.args.self.now.table c.ids-test.true (sym c.is_there.ensures ∙ c.if-not-is_there.true)) ∙ c.ids.invariant

pub ids-preserved : goal.ids-preserved
ids-preserved c =
    ap (λ (i : ℕ). free_from i (65536 - (c.ids.tried + 1)) c.args.self.now.table) c.id_after-id.ensures
    ∙ sym (free-on c.ids.id c.ids.tried c.args.self.now.table c.ids-test.true (sym c.is_there.ensures ∙ c.if-not-is_there.false)) ∙ c.ids.invariant

pub returns : goal.returns
returns c = sym (free-none c.ids.id c.ids.tried c.args.self.now.table c.ids-test.false) ∙ c.ids.invariant
