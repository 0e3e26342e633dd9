-- The whole behind a loss of power, and what that leaves of a fabric's own part.
use Rattle.std.specs.Prelude.{ℕ, ◌+◌, List, []}
use Rattle.mt_model.specs.declared.texts.config.SessionRow.{SessionRow}
use Rattle.mt_subs.specs.Subscriptions.{next_id, none}
use Rattle.mt_ledger.specs.Ledger as ledgers
use Rattle.mt_machine.specs.Isolation.{Own}
use Rattle.mt_regained.specs.Reopening as nodes
use Rattle.mt_regained.specs.Reopening.{reopened_node}
use Rattle.mt_runs.specs.Isolation.{OwnPart, talks_among}
use Rattle.mt_runs.specs.Whole.{Whole, begun_in}

-- where the numbers of events go on
abbrev pub ceiling_of : Whole → ℕ
ceiling_of w = w.ledger.history.numbers.ceiling

-- THE WHOLE REOPENED, with the sessions of its next boot: the node goes on with what it kept, rolled back; nobody has a deadline or has
-- subscribed, the node's start is all that happened, under the number at which events go on, and nothing was said over any session.
abbrev pub reopened : List SessionRow → Whole → Whole
reopened sessions w = record {
  state = record { node = reopened_node sessions (ceiling_of w) w.state.node; deadlines = [] };
  ledger = ledgers.opened_at (ceiling_of w);
  talks = begun_in (w.state.node.boot + 1) sessions;
}

-- What that leaves of a fabric's own part, with which the boot of this number begins.

abbrev pub node_reopened : List SessionRow → ℕ → ℕ → OwnPart → Own
node_reopened sessions boot fabric o = nodes.reopened_own sessions boot fabric o.whole.node

abbrev pub reopened_own : List SessionRow → ℕ → ℕ → OwnPart → OwnPart
reopened_own sessions boot fabric o = record {
  whole = record { node = node_reopened sessions boot fabric o; deadlines = [] };
  ledger = record { events = []; subs = []; next = next_id fabric none };
  talks = talks_among (node_reopened sessions boot fabric o).sessions (begun_in boot sessions);
}
