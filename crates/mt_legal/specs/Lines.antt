-- Of which lines a book consists, and the whole with which its run begins.
use Rattle.std.specs.Prelude.{◌≡◌, ◌⊎◌, ℕ, true, List, [], ◌∷◌, filter, map, ⊤}
use Rattle.mt_shares.specs.mt_interactions.Configured.{ConfiguredInteractions}
use Rattle.mt_shares.specs.mt_layer.Lines.{whole_of}
use Rattle.mt_model.specs.declared.texts.config.SessionRow.{SessionRow}
use Rattle.mt_shares.specs.mt_runs.Whole.{Whole, begun_in, is_of_boot}
use Rattle.mt_shares.specs.mt_worker.Accounts.{Accounts, behind}
use Rattle.mt_shares.specs.mt_worker.Due.{id_of, is_in}
use Rattle.mt_shares.specs.mt_worker.Gots.{Got, Told}
use Rattle.mt_shares.specs.mt_worker.Made.{IsMade, IsTick}

-- THE WHOLE WITH WHICH IT BEGINS: nothing has been said over the sessions of its boot.

abbrev pub rows_of_boot : ConfiguredInteractions → List SessionRow
rows_of_boot node = filter (is_of_boot node.state.node.boot) node.config.sessions

abbrev pub begun_whole : ConfiguredInteractions → Whole
begun_whole node = whole_of node (begun_in node.state.node.boot node.config.sessions)

-- EACH ENTRY is a call over one of these sessions, made as its account then has it, or a time step of nobody.

abbrev pub IsLine : List ℕ → Accounts → Got → Type 0
IsLine ids accounts got = ((is_in ids got.session ≡ true) × IsMade (accounts got.session) got) ⊎ IsTick got

abbrev pub AreLines : List ℕ → Accounts → List Got → Type 0
AreLines ids accounts [] = ⊤
AreLines ids accounts (got ∷ gots) = IsLine ids accounts got × AreLines ids (behind accounts got) gots

abbrev pub told_of : Got → Told
told_of got = got.told

abbrev pub ids_of_boot : ConfiguredInteractions → List ℕ
ids_of_boot node = map id_of (rows_of_boot node)
