-- The run over the lines of a book, entry by entry.
use Rattle.std.proofs.Common.{◌≡◌, ◌∙◌, refl, sym, ap, subst, inl, inr, ℕ, ◌==◌, ◌≤◌, ◌||◌, cond, eq-eqb, Bool, true, true≢false, List, [], ◌∷◌, ◌++◌, Option, Some, None, map}
use Rattle.std.proofs.lemmas.Bool.{cases_Bool, eqb-true}
use Rattle.std.specs.List.{find}
use Rattle.mt_files.specs.Event.{at_time}
use Rattle.mt_model.specs.declared.limits.TheConstants.{LAST_TIME}
use Rattle.mt_model.specs.declared.texts.config.SessionRow.{SessionRow}
use Rattle.mt_opcreds.specs.Laws.{KeepsRules}
use Rattle.mt_shares.specs.mt_runs.Course.{Going, going_on}
use Rattle.mt_shares.specs.mt_runs.Isolation.{IsValidWhole}
use Rattle.mt_shares.specs.mt_runs.Messages as runs
use Rattle.mt_shares.specs.mt_runs.Whole.{SessionTalk, begun, is_talk_of}
use Rattle.mt_shares.specs.mt_interactions.Configured.{ConfiguredInteractions}
use Rattle.mt_shares.specs.mt_shared.Book.{lines_in}
use Rattle.mt_shares.specs.mt_shared.Replay.{answer_at, behind_deed, given_in, next, replay, told}
use Rattle.mt_shares.specs.mt_shared.Call.{Call}
use Rattle.mt_shares.specs.mt_shared.Entry.{Entry}
use Rattle.mt_shares.specs.mt_shared.Stop.{Stop}
use Rattle.mt_shares.specs.mt_layer.Laws.{BegunTalksServe}
use Rattle.mt_shares.specs.mt_layer.Lines.{next_with, whole_of}
use Rattle.mt_shares.specs.mt_worker.Accounts.{Account, Accounts, all_sent, begun_account, behind}
use Rattle.mt_shares.specs.mt_worker.Due.{HaveBegun, id_of, is_in}
use Rattle.mt_shares.specs.mt_worker.Gots.{Got, Told}
use Rattle.mt_legal.specs.Laws.{AreInTime, IsServable, IsWholeBook}
use Rattle.mt_legal.specs.Lines.{AreLines, IsLine, begun_whole, ids_of_boot, rows_of_boot, told_of}
use Rattle.mt_legal.proofs.Going.{behind_line, run_line}
use Rattle.mt_legal.proofs.Standing.{Stands, StandsFor, unmoved, whole_is}
use Rattle.mt_legal.proofs.Steps.{Laws, Moves, entry_moves, line_of}

-- What the run over the lines of a book sends, and with what it ends.
pub record IsRun (node : ConfiguredInteractions) (sessions : List SessionRow) (talks : List SessionTalk) (accounts : Accounts) (book : List Entry) (gots : List Got) : Type 0 where
  pub sent : runs.run (given_in node) sessions (going_on (whole_of node talks)) (lines_in book) ≡ all_sent accounts gots
  pub state : (runs.behind (given_in node) sessions (going_on (whole_of node talks)) (lines_in book)).whole.state ≡ (replay node book).state
  pub ledger : (runs.behind (given_in node) sessions (going_on (whole_of node talks)) (lines_in book)).whole.ledger ≡ (replay node book).ledger

-- an entry, as the replay answers it
abbrev got_of : ConfiguredInteractions → ℕ → ℕ → Entry → Got
got_of node place session entry = record { place = place; session = session; told = (entry, answer_at node entry) }

abbrev entry_of : Call → ℕ → Option Stop → Entry
entry_of call ms stop = record { call = call; ms = ms; stop = stop }

heads : (x y : Told) (xs ys : List Told) → x ∷ xs ≡ y ∷ ys → x ≡ y
heads x y xs ys same = cc

tails : (x y : Told) (xs ys : List Told) → x ∷ xs ≡ y ∷ ys → xs ≡ ys
tails x y xs ys same = cc

none_told : {A : Type 0} (x : Told) (xs : List Told) → x ∷ xs ≡ [] → A
none_told x xs same = absurd (cc)

module _ (sessions : List SessionRow) (node : ConfiguredInteractions) (talks : List SessionTalk) (accounts : Accounts) (place session ms : ℕ) (call : Call) (book : List Entry) (gots : List Got) where
  -- a stop is no line
  on_stopped : (stop : Stop) → IsRun node sessions talks accounts book gots → IsRun node sessions talks accounts (entry_of call ms (Some stop) ∷ book) (got_of node place session (entry_of call ms (Some stop)) ∷ gots)
  on_stopped stop it =
      let got : Got = got_of node place session (entry_of call ms (Some stop)) in
      record {
        sent = it.sent ∙ sym (ap (λ (those : Accounts). all_sent those gots) (unmoved accounts got (λ a. refl)));
        state = it.state;
        ledger = it.ledger;
      }

  -- and any other entry is one
  on_line : (ids : List ℕ) → Moves node talks ids accounts (line_of node place session ms call) ms call
      → IsRun (behind_deed node call.deed ms) sessions (next_with node talks (at_time ms call.event)).talks (behind accounts (line_of node place session ms call)) book gots
      → IsRun node sessions talks accounts (entry_of call ms None ∷ book) (line_of node place session ms call ∷ gots)
  on_line ids moves it =
      let got : Got = line_of node place session ms call in
      let now : ConfiguredInteractions = behind_deed node call.deed ms in
      let event = at_time ms call.event in
      let w = next_with node talks event in
      let is : w ≡ whole_of now w.talks = whole_is now w moves.state moves.ledger in
      let same = behind_line (given_in node) sessions (whole_of node talks) (whole_of now w.talks) event moves.line is (lines_in book) in
      record {
        sent = run_line (given_in node) sessions (whole_of node talks) (whole_of now w.talks) event moves.line is (lines_in book) ∙ (λ i. moves.sends i ++ it.sent i);
        state = ap (λ (g : Going). g.whole.state) same ∙ it.state;
        ledger = ap (λ (g : Going). g.whole.ledger) same ∙ it.ledger;
      }

module _ (laws : Laws) (sessions : List SessionRow) (ids : List ℕ) where
  abbrev GoesOn : List Entry → List Got → Type 0
  GoesOn book gots = (node : ConfiguredInteractions) (talks : List SessionTalk) (accounts : Accounts) → KeepsRules (given_in node).judged → Stands node talks ids accounts → map told_of gots ≡ told node book → AreLines ids accounts gots → AreInTime book
      → IsRun node sessions talks accounts book gots

  by_stop : (book : List Entry) (gots : List Got) → GoesOn book gots → (node : ConfiguredInteractions) (talks : List SessionTalk) (accounts : Accounts) (place session ms : ℕ) (call : Call) (stop : Option Stop)
      → KeepsRules (given_in node).judged → Stands node talks ids accounts → map told_of gots ≡ told (next node (entry_of call ms stop)) book → ms ≤ LAST_TIME → AreInTime book
      → IsLine ids accounts (got_of node place session (entry_of call ms stop)) → AreLines ids (behind accounts (got_of node place session (entry_of call ms stop))) gots
      → IsRun node sessions talks accounts (entry_of call ms stop ∷ book) (got_of node place session (entry_of call ms stop) ∷ gots)
  by_stop book gots goes_on node talks accounts place session ms call (Some stop) rules stands told_are in_time in_times line lines =
      let same = unmoved accounts (got_of node place session (entry_of call ms (Some stop))) (λ a. refl) in
      on_stopped sessions node talks accounts place session ms call book gots stop
      (goes_on node talks accounts rules stands told_are (subst (λ (those : Accounts). AreLines ids those gots) same lines) in_times)
  by_stop book gots goes_on node talks accounts place session ms call None rules stands told_are in_time in_times line lines =
      let moved = entry_moves laws node rules talks ids accounts stands place ms session call in_time line in
      on_line sessions node talks accounts place session ms call book gots ids moved
      (goes_on (behind_deed node call.deed ms) (next_with node talks (at_time ms call.event)).talks (behind accounts (line_of node place session ms call)) rules moved.stands told_are lines in_times)

  -- ENTRY BY ENTRY
  goes : (book : List Entry) (gots : List Got) → GoesOn book gots
  goes [] [] node talks accounts rules stands told_are lines in_time = record { sent = refl; state = refl; ledger = refl }
  goes [] (got ∷ gots) node talks accounts rules stands told_are lines in_time = none_told got.told (map told_of gots) told_are
  goes (entry ∷ book) [] node talks accounts rules stands told_are lines in_time = none_told (entry, answer_at node entry) (told (next node entry) book) (sym told_are)
  goes (entry ∷ book) (got ∷ gots) node talks accounts rules stands told_are lines in_time =
      let first : got.told ≡ (entry, answer_at node entry) = heads got.told (entry, answer_at node entry) (map told_of gots) (told (next node entry) book) told_are in
      let rest : map told_of gots ≡ told (next node entry) book = tails got.told (entry, answer_at node entry) (map told_of gots) (told (next node entry) book) told_are in
      let is : got ≡ got_of node got.place got.session entry = λ i. record { place = got.place; session = got.session; told = first i } in
      subst (λ (g : Got). IsLine ids accounts g → AreLines ids (behind accounts g) gots → IsRun node sessions talks accounts (entry ∷ book) (g ∷ gots)) (sym is)
      (λ line others. by_stop book gots (goes book gots) node talks accounts got.place got.session entry.ms entry.call entry.stop rules stands rest in_time.0 in_time.1 line others)
      lines.0 lines.1

-- AS IT BEGINS

-- a row of this id, over which nothing has been said
pub record HasBegun (rows : List SessionRow) (accounts : Accounts) (id : ℕ) : Type 0 where
  pub row : SessionRow
  pub is : row.session ≡ id
  pub account : accounts row.session ≡ begun_account row
  pub found : find (is_talk_of row.session) (map begun rows) ≡ Some (begun row)

begun_there : (rows : List SessionRow) (accounts : Accounts) (id : ℕ) → HaveBegun rows accounts → is_in (map id_of rows) id ≡ true → HasBegun rows accounts id
begun_there [] accounts id begun_all mine = absurd (true≢false (sym mine))
begun_there (row ∷ rows) accounts id begun_all mine = elim (cases_Bool (row.session == id)) [
  | inl same ↦ record {
    row = row;
    is = eqb-true row.session id same;
    account = begun_all.0;
    found = ap (λ (b : Bool). cond b (Some (begun row)) (find (is_talk_of row.session) (map begun rows))) (eq-eqb row.session row.session refl);
  }
  | inr differs ↦
      let it : HasBegun rows accounts id = begun_there rows accounts id begun_all.1 (subst (λ (b : Bool). (b || is_in (map id_of rows) id) ≡ true) differs mine) in
      record {
        row = it.row;
        is = it.is;
        account = it.account;
        found = ap (λ (b : Bool). cond b (Some (begun row)) (find (is_talk_of it.row.session) (map begun rows))) (ap (λ (n : ℕ). row.session == n) it.is ∙ differs) ∙ it.found;
      }
]

begins : BegunTalksServe → (node : ConfiguredInteractions) (accounts : Accounts) → HaveBegun (rows_of_boot node) accounts → IsValidWhole (begun_whole node) → Stands node (begun_whole node).talks (ids_of_boot node) accounts
begins serve node accounts begun_all valid = record { valid = valid; each = each }
  where
    each : (id : ℕ) → is_in (ids_of_boot node) id ≡ true → StandsFor node (begun_whole node).talks id (accounts id)
    each id mine =
        let it : HasBegun (rows_of_boot node) accounts id = begun_there (rows_of_boot node) accounts id begun_all mine in
        let first : StandsFor node (begun_whole node).talks it.row.session (begun_account it.row) = record { id_is = refl; serves = serve (begun_whole node) it.row it.found; told = tt } in
        subst (λ (n : ℕ). StandsFor node (begun_whole node).talks n (accounts n)) it.is
        (subst (λ (a : Account). StandsFor node (begun_whole node).talks it.row.session a) (sym it.account) first)

-- THE WHOLE BOOK
pub books : Laws → BegunTalksServe → (node : ConfiguredInteractions) (accounts : Accounts) (book : List Entry) (gots : List Got) → IsServable node → IsWholeBook node accounts book gots
    → IsRun node node.config.sessions (begun_whole node).talks accounts book gots
books laws serve node accounts book gots servable whole =
    goes laws node.config.sessions (ids_of_boot node) book gots node (begun_whole node).talks accounts servable.rules (begins serve node accounts whole.begun servable.valid) whole.told_are whole.lines whole.in_time
