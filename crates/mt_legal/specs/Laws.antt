-- THE BOOK IS A RUN.
use Rattle.std.specs.Prelude.{◌≡◌, ◌≤◌, List, map}
use Rattle.mt_shares.specs.mt_interactions.Configured.{ConfiguredInteractions}
use Rattle.mt_model.specs.declared.limits.TheConstants.{LAST_TIME}
use Rattle.mt_opcreds.specs.Laws.{KeepsRules}
use Rattle.mt_shares.specs.mt_runs.Course.{going_on}
use Rattle.mt_shares.specs.mt_runs.Isolation.{IsValidWhole}
use Rattle.mt_shares.specs.mt_runs.Messages as runs
use Rattle.mt_shares.specs.mt_shared.Book.{lines_in}
use Rattle.mt_shares.specs.mt_shared.Replay.{given_in, replay, told}
use Rattle.mt_shares.specs.mt_shared.Entry.{Entry}
use Rattle.mt_shares.specs.mt_worker.Accounts.{Accounts, all_sent}
use Rattle.mt_shares.specs.mt_worker.Due.{HaveBegun}
use Rattle.mt_shares.specs.mt_worker.Gots.{Each, Got}
use Rattle.mt_legal.specs.Lines.{AreLines, begun_whole, ids_of_boot, rows_of_boot, told_of}

-- A node that was started and serves: its configuration's verdicts keep their rules, and its whole is valid.
pub record IsServable (node : ConfiguredInteractions) : Type 0 where
  pub rules : KeepsRules (given_in node).judged
  pub valid : IsValidWhole (begun_whole node)

-- the entries were made at times that a recording can have
abbrev pub AreInTime : List Entry → Type 0
AreInTime book = Each (λ (entry : Entry). entry.ms ≤ LAST_TIME) book

-- These are all entries of the book, with what the replay answers there, and each is a line.
pub record IsWholeBook (node : ConfiguredInteractions) (accounts : Accounts) (book : List Entry) (gots : List Got) : Type 0 where
  pub begun : HaveBegun (rows_of_boot node) accounts
  pub told_are : map told_of gots ≡ told node book
  pub lines : AreLines (ids_of_boot node) accounts gots
  pub in_time : AreInTime book

-- What the written run sends over the lines of the book is what the answers of the shared node make each session's worker send.
abbrev pub BooksAreRuns : Type 0
BooksAreRuns = (node : ConfiguredInteractions) (accounts : Accounts) (book : List Entry) (gots : List Got) → IsServable node → IsWholeBook node accounts book gots
    → runs.run (given_in node) node.config.sessions (going_on (begun_whole node)) (lines_in book) ≡ all_sent accounts gots

-- And behind these lines the run has the state to which the book replays.

abbrev pub BooksEndAsRuns : Type 0
BooksEndAsRuns = (node : ConfiguredInteractions) (accounts : Accounts) (book : List Entry) (gots : List Got) → IsServable node → IsWholeBook node accounts book gots
    → (runs.behind (given_in node) node.config.sessions (going_on (begun_whole node)) (lines_in book)).whole.state ≡ (replay node book).state

abbrev pub LedgersEndAsRuns : Type 0
LedgersEndAsRuns = (node : ConfiguredInteractions) (accounts : Accounts) (book : List Entry) (gots : List Got) → IsServable node → IsWholeBook node accounts book gots
    → (runs.behind (given_in node) node.config.sessions (going_on (begun_whole node)) (lines_in book)).whole.ledger ≡ (replay node book).ledger
