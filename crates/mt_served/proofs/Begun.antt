-- The accounts with which all begins: over each session of a boot nothing has been said.
use Rattle.std.proofs.Common.{◌≡◌, ◌≢◌, ◌∙◌, refl, sym, ap, ℕ, ◌≤◌, Bool, true, false, List, [], ◌∷◌, eq-eqb, ne_eqb}
use Rattle.std.specs.Prelude.{◌==◌, ◌&&◌, if◌then◌else◌, nat_le, not, length, ⊤}
use Rattle.std.specs.List.{list_all, list_any}
use Rattle.std.proofs.lemmas.Bool.{and_from, and_parts, eqb-true, leb-true, not-true, or_parts, true≢false}
use Rattle.mt_legal.specs.mt_shares.Threads.{HaveTheirIds}
use Rattle.mt_model.specs.declared.limits.TheConstants.{SESSIONS}
use Rattle.mt_model.specs.declared.tables.access.Auth.TheVariants.{Pase}
use Rattle.mt_model.specs.declared.texts.config.SessionRow.{SessionRow}
use Rattle.mt_model.specs.texts.Config.{are_sessions, have_one_session, is_session, none_alike}
use Rattle.mt_rounds.specs.mt_owners.Rows.{rows_in}
use Rattle.mt_rounds.specs.mt_worker.Accounts.{Accounts, begun_account}
use Rattle.mt_rounds.specs.mt_worker.Due.{HaveBegun}
use Rattle.mt_rounds.specs.mt_worker.Gots.{Each}

-- a row that says nothing but its id
abbrev pub row_of_none : ℕ → SessionRow
row_of_none id = record {
  session = id;
  peer_session = 0;
  boot = 0;
  auth = Pase;
  root_key = [];
  fabric_id = 0;
  own_node = 0;
  peer_node = 0;
  cats = [];
  key_in = [];
  key_out = [];
  counter_in = 0;
  counter_out = 0;
}

-- the row of that id, or else one that says nothing
abbrev pub row_or : List SessionRow → ℕ → SessionRow
row_or [] id = row_of_none id
row_or (row ∷ rows) id = if row.session == id then row else row_or rows id

abbrev pub begun_accounts : List SessionRow → Accounts
begun_accounts rows id = begun_account (row_or rows id)

-- EACH IS THAT OF ITS SESSION.

pub their_ids : (rows : List SessionRow) → HaveTheirIds (begun_accounts rows)
their_ids [] id = refl
their_ids (row ∷ rows) id =
    let by : (b : Bool) → (row.session == id) ≡ b → (if b then row else row_or rows id).session ≡ id = elim [
      | true ↦ λ same. eqb-true row.session id same
      | false ↦ λ other. their_ids rows id
    ] in
    by (row.session == id) refl

-- NO TWO SESSIONS OF A BOOT have one id.

abbrev AreApart : List SessionRow → Type 0
AreApart [] = ⊤
AreApart (row ∷ rows) = Each (λ (later : SessionRow). row.session ≢ later.session) rows × AreApart rows

none_are_alike : (rows : List SessionRow) → are_sessions rows ≡ true → none_alike have_one_session rows ≡ true
unfolding are_sessions
none_are_alike rows fit =
    let front = and_parts (nat_le (length rows) SESSIONS && list_all is_session rows && none_alike have_one_session rows && _) _ fit in
    let before = and_parts (nat_le (length rows) SESSIONS && list_all is_session rows && none_alike have_one_session rows) _ front.0 in
    (and_parts (nat_le (length rows) SESSIONS && list_all is_session rows) (none_alike have_one_session rows) before.0).1

pub few_sessions : (rows : List SessionRow) → are_sessions rows ≡ true → length rows ≤ 64
unfolding are_sessions
few_sessions rows fit =
    let front = and_parts (nat_le (length rows) SESSIONS && list_all is_session rows && none_alike have_one_session rows && _) _ fit in
    let before = and_parts (nat_le (length rows) SESSIONS && list_all is_session rows && none_alike have_one_session rows) _ front.0 in
    let named = and_parts (nat_le (length rows) SESSIONS && list_all is_session rows) (none_alike have_one_session rows) before.0 in
    leb-true (length rows) SESSIONS (and_parts (nat_le (length rows) SESSIONS) (list_all is_session rows) named.0).0

abbrev in_boot : ℕ → SessionRow → Bool
in_boot boot row = row.boot == boot

differ : (boot : ℕ) (row other : SessionRow) → in_boot boot row ≡ true → in_boot boot other ≡ true → have_one_session row other ≡ false → row.session ≢ other.session
differ boot row other mine its not_one same =
    let boots : row.boot ≡ other.boot = eqb-true row.boot boot mine ∙ sym (eqb-true other.boot boot its) in
    true≢false (sym (and_from (row.boot == other.boot) (row.session == other.session) (eq-eqb row.boot other.boot boots) (eq-eqb row.session other.session same)) ∙ not_one)

others_differ : (boot : ℕ) (row : SessionRow) (rows : List SessionRow) → in_boot boot row ≡ true → list_any (have_one_session row) rows ≡ false → Each (λ (later : SessionRow). row.session ≢ later.session) (rows_in boot rows)
others_differ boot row [] mine none = tt
others_differ boot row (other ∷ rows) mine none =
    let parts = or_parts (have_one_session row other) (list_any (have_one_session row) rows) none in
    let rest = others_differ boot row rows mine parts.1 in
    let by : (b : Bool) → in_boot boot other ≡ b → Each (λ (later : SessionRow). row.session ≢ later.session) (if b then other ∷ rows_in boot rows else rows_in boot rows) = elim [
      | true ↦ λ its. (differ boot row other mine its parts.0, rest)
      | false ↦ λ not_its. rest
    ] in
    by (in_boot boot other) refl

apart : (boot : ℕ) (rows : List SessionRow) → none_alike have_one_session rows ≡ true → AreApart (rows_in boot rows)
apart boot [] none = tt
apart boot (row ∷ rows) none =
    let parts = and_parts (not (list_any (have_one_session row) rows)) (none_alike have_one_session rows) none in
    let rest = apart boot rows parts.1 in
    let by : (b : Bool) → in_boot boot row ≡ b → AreApart (if b then row ∷ rows_in boot rows else rows_in boot rows) = elim [
      | true ↦ λ mine. (others_differ boot row rows mine (not-true (list_any (have_one_session row) rows) parts.0), rest)
      | false ↦ λ not_mine. rest
    ] in
    by (in_boot boot row) refl

-- SO EACH HAS BEGUN.

abbrev IsFound : List SessionRow → SessionRow → Type 0
IsFound rows row = row_or rows row.session ≡ row

found_later : (first : SessionRow) (all rows : List SessionRow) → Each (λ (later : SessionRow). first.session ≢ later.session) rows → Each (IsFound all) rows → Each (IsFound (first ∷ all)) rows
found_later first all [] other each = tt
found_later first all (row ∷ rows) other each = (
  ap (λ (b : Bool). if b then first else row_or all row.session) (ne_eqb first.session row.session other.0) ∙ each.0,
  found_later first all rows other.1 each.1,
)

all_found : (rows : List SessionRow) → AreApart rows → Each (IsFound rows) rows
all_found [] are = tt
all_found (row ∷ rows) are = (
  ap (λ (b : Bool). if b then row else row_or rows row.session) (eq-eqb row.session row.session refl),
  found_later row rows rows are.0 (all_found rows are.1),
)

begun_there : (all rows : List SessionRow) → Each (IsFound all) rows → HaveBegun rows (begun_accounts all)
begun_there all [] found = tt
begun_there all (row ∷ rows) found = (ap begun_account found.0, begun_there all rows found.1)

pub all_begun : (boot : ℕ) (sessions : List SessionRow) → are_sessions sessions ≡ true → HaveBegun (rows_in boot sessions) (begun_accounts (rows_in boot sessions))
all_begun boot sessions fit = begun_there (rows_in boot sessions) (rows_in boot sessions) (all_found (rows_in boot sessions) (apart boot sessions (none_are_alike sessions fit)))
