-- The row that an id names is as a session needs it.
use Rattle.std.proofs.Common.{◌≡◌, ℕ, Bool, true, false, cond, List, [], ◌∷◌, Option, Some, None, subst, sym, arith, Bor}
use Rattle.std.specs.Prelude.{◌&&◌, IfSome, find, length, nat_le, option_copied}
use Rattle.std.specs.List.{list_all}
use Rattle.std.proofs.lemmas.Bool.{and_parts, leb-true}
use Rattle.mt_model.specs.declared.limits.TheConstants.{SESSIONS}
use Rattle.mt_model.specs.declared.tables.access.Auth.{Auth}
use Rattle.mt_model.specs.declared.tables.access.Auth.TheVariants.{Group}
use Rattle.mt_model.specs.declared.texts.config.SessionRow.{SessionRow}
use Rattle.mt_model.specs.texts.Config.{are_sessions, have_one_session, is_cat_or_none, is_established, is_session, none_alike}
use Rattle.mt_asking.specs.Rows.{IsUnicast, is_named}

unicast : (row : SessionRow) → is_session row ≡ true → IsUnicast row
unicast row is =
    let p = and_parts (nat_le 1 row.session && nat_le 1 row.peer_session && nat_le 1 row.boot && is_established row row.auth) (list_all is_cat_or_none row.cats) is in
    let q = and_parts (nat_le 1 row.session && nat_le 1 row.peer_session && nat_le 1 row.boot) (is_established row row.auth) p.0 in
    let r = and_parts (nat_le 1 row.session && nat_le 1 row.peer_session) (nat_le 1 row.boot) q.0 in
    let s = and_parts (nat_le 1 row.session) (nat_le 1 row.peer_session) r.0 in
    let one = leb-true 1 row.session s.0 in
    let other = leb-true 1 row.peer_session s.1 in record {
      auth = λ e. let none : is_established row Group ≡ true = subst (λ (a : Auth). is_established row a ≡ true) e q.1 in cc;
      session = λ e. omega arith;
      peer_session = λ e. omega arith;
    }

found : (session : ℕ) (rows : List SessionRow) (row : SessionRow) → list_all is_session rows ≡ true → find (is_named session) rows ≡ Some row → is_session row ≡ true
found session [] row all h = absurd (cc)
found session (x ∷ rows) row all h =
    let both = and_parts (is_session x) (list_all is_session rows) all in
    by_test (is_named session x) both.0 (λ later. found session rows row both.1 later) h
  where
    by_test : (t : Bool) → is_session x ≡ true → (find (is_named session) rows ≡ Some row → is_session row ≡ true) → cond t (Some x) (find (is_named session) rows) ≡ Some row → is_session row ≡ true
    by_test true first rest e = let same : x ≡ row = cc in subst (λ (r : SessionRow). is_session r ≡ true) same first
    by_test false first rest e = rest e

rows-fit : (rows : List SessionRow) → are_sessions rows ≡ true → list_all is_session rows ≡ true
unfolding are_sessions
rows-fit rows fit =
    let front = and_parts (nat_le (length rows) SESSIONS && list_all is_session rows && none_alike have_one_session rows && _) _ fit in
    let before = and_parts (nat_le (length rows) SESSIONS && list_all is_session rows && none_alike have_one_session rows) _ front.0 in
    let named = and_parts (nat_le (length rows) SESSIONS && list_all is_session rows) (none_alike have_one_session rows) before.0 in
    (and_parts (nat_le (length rows) SESSIONS) (list_all is_session rows) named.0).1

pub named_unicast : (session : ℕ) (rows : List SessionRow) (row : SessionRow) → are_sessions rows ≡ true → find (is_named session) rows ≡ Some row → IsUnicast row
named_unicast session rows row fit h = unicast row (found session rows row (rows-fit rows fit) h)

-- the same of one that was found
pub found_unicast : (session : ℕ) (rows : List SessionRow) → are_sessions rows ≡ true → (row : Option (Bor SessionRow)) → option_copied row ≡ find (is_named session) rows → IfSome row (λ r. IsUnicast r.now)
found_unicast session rows fit None h = tt
found_unicast session rows fit (Some row) h = named_unicast session rows row.now fit (sym h)
