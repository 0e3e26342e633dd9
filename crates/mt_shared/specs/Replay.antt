-- What a book replays to, from the node with which it began: the node behind its entries, and what each of them was answered.
use Rattle.std.specs.Prelude.{ℕ, List, [], ◌∷◌, Option, Some, None}
use Rattle.mt_durable.specs.declared.durable.Entry as kept
use Rattle.mt_interactions.specs.mt_lasting.Contents.{durable}
use Rattle.mt_interactions.specs.mt_ledger.Behind.{Activity, action_in, ledger_behind}
use Rattle.mt_interactions.specs.mt_machine.Environment.{Environment, given_by}
use Rattle.mt_interactions.specs.mt_machine.Lines.{behind_action}
use Rattle.mt_model.specs.declared.messages.message.Reply.TheVariants as replies
use Rattle.mt_interactions.specs.Configured.{ConfiguredInteractions, behind}
use Rattle.mt_interactions.specs.Deeds.{activity_at, closed_with, fabric_at, replied}
use Rattle.mt_interactions.specs.Plan.{closed_by}
use Rattle.mt_interactions.specs.declared.deeds.Deed.{Deed}
use Rattle.mt_interactions.specs.declared.deeds.PlannedDeed.{PlannedDeed}
use Rattle.mt_shared.specs.declared.entry.Answer.{Answer}
use Rattle.mt_shared.specs.declared.entry.Entry.{Entry}
use Rattle.mt_shared.specs.declared.entry.Stop.{Stop}

-- what is given to a node: what its configuration gives
abbrev pub given_in : ConfiguredInteractions → Environment
given_in node = given_by node.config

-- what a node does for a deed at this time
abbrev pub activity_in : ConfiguredInteractions → Deed → ℕ → Activity
activity_in node deed ms = activity_at node.state.node deed ms

-- THE NODE BEHIND A BOOK.

-- behind a deed at this time
abbrev pub behind_deed : ConfiguredInteractions → Deed → ℕ → ConfiguredInteractions
behind_deed node deed ms = behind
    (behind_action (given_in node) node.state (action_in (activity_in node deed ms)) ms)
    (ledger_behind (given_in node) node.state.node (activity_in node deed ms) ms node.ledger)
    node

abbrev pub unless_stopped : {A : Type 0} → Option Stop → A → A → A
unless_stopped None going stopped = going
unless_stopped (Some stop) going stopped = stopped

-- A stop changes nothing.
abbrev pub next : ConfiguredInteractions → Entry → ConfiguredInteractions
next node entry = unless_stopped entry.stop (behind_deed node entry.call.deed entry.ms) node

abbrev pub replay : ConfiguredInteractions → List Entry → ConfiguredInteractions
replay node [] = node
replay node (entry ∷ entries) = replay (next node entry) entries

-- WHAT IS ANSWERED.

-- to a deed at this time
abbrev pub answer_to : ConfiguredInteractions → Deed → ℕ → Answer
answer_to node deed ms = record {
  reply = replied (given_in node) node.state.node node.ledger deed ms;
  fabric = fabric_at node.state.node deed;
  closed = closed_with (given_in node) node.state.node deed ms;
}

-- of what was planned
abbrev pub answer_of : PlannedDeed → Answer
answer_of planned = record { reply = planned.reply; fabric = planned.fabric; closed = closed_by planned.outcome }

abbrev pub no_answer : Answer
no_answer = record { reply = replies.Nothing; fabric = None; closed = [] }

abbrev pub answer_at : ConfiguredInteractions → Entry → Answer
answer_at node entry = unless_stopped entry.stop (answer_to node entry.call.deed entry.ms) no_answer

-- Each entry of a book, with what the replay answers there.
abbrev pub told : ConfiguredInteractions → List Entry → List (Entry × Answer)
told node [] = []
told node (entry ∷ entries) = (entry, answer_at node entry) ∷ told (next node entry) entries

-- WHAT LASTS OF A NODE.

-- its durable map
abbrev pub map_of : ConfiguredInteractions → List kept.Entry
map_of node = durable node.state.node node.ledger.history.numbers.ceiling
