-- What a configuration says of a session is within ranges.
use Rattle.std.proofs.Common.{◌≡◌, ◌≤◌, ℕ, Bool, true, false, cond, List, [], ◌∷◌, Option, Some, None, Result, Ok, Err, refl, sym, subst, ap, ◌∙◌}
use Rattle.std.specs.Prelude.{All, codes, nat_le, nat_lt, length, if◌then◌else◌, option_and_then}
use Rattle.std.specs.Result.{result_ok}
use Rattle.std.proofs.lemmas.Bool.{leb-true}
use Rattle.std.proofs.lemmas.List.Elements.{All-nil, All-cons}
use Rattle.hex.specs.Hex.{IsBytes, decode_sized}
use Rattle.hex.specs.declared.error.FromHexError.{FromHexError}
use Rattle.hex.proofs.HexLemmas.{decode_of-ok, decode_sized-ok, decode_sized-twice}
use Rattle.serde_json.specs.Data.{Data, Items, no_items, item}
use Rattle.serde_json.specs.Find.{get, as_number, as_str, as_u64}
use Rattle.mt_model.specs.declared.texts.config.SessionRow.{SessionRow}
use Rattle.mt_model.specs.texts.Config.{are_sessions}
use Rattle.mt_model.specs.texts.Contents.{Contents}
use Rattle.mt_model.specs.declared.limits.TheConstants.{CONFIGURATION_BYTES, SESSIONS}
use Rattle.mt_config.specs.Configuration.{configuration, contents, in_field, object, ◌>>=◌}
use Rattle.mt_config.specs.Json.{each, field, items_of, list_of, number, octets_of}
use Rattle.mt_config.specs.Lists.{csrs, fabrics, joins, reachable, roots, sessions, where_kept}
use Rattle.mt_config.specs.Rows.{cats, ids, keys, mode, number16, number32, owner, session}
use Rattle.mt_config.specs.declared.configuration.ConfigField.{ConfigField}
use Rattle.mt_config.specs.declared.configuration.ConfigField.TheVariants.{Csrs, Fabrics, Joins, Json, Reachable, Roots, Sessions, Size}

-- The numbers of a session fit their fields, and its keys are bytes.
pub record IsInRange (row : SessionRow) : Type 0 where
  pub session : row.session ≤ 65535
  pub peer_session : row.peer_session ≤ 65535
  pub counter_in : row.counter_in ≤ 4294967295
  pub key_in : IsBytes row.key_in

-- the type of what a form reads
abbrev Read : {A : Type 0} → (Data → Option A) → Type 0
Read {A} form = A

abbrev Ids : Type 0
Ids = Read ids

abbrev Keys : Type 0
Keys = Read keys

-- what was there, and what was made of it
then-some : {A B : Type 0} (o : Option A) (f : A → Option B) (b : B) → option_and_then f o ≡ Some b → (a : A) × (o ≡ Some a) × (f a ≡ Some b)
then-some None f b h = absurd (cc)
then-some (Some a) f b h = (a, refl, h)

then-ok : {A B : Type 0} (r : Result A ConfigField) (f : A → Result B ConfigField) (b : B) → (r >>= f) ≡ Ok b → (a : A) × (r ≡ Ok a) × (f a ≡ Ok b)
then-ok (Err e) f b h = absurd (cc)
then-ok (Ok a) f b h = (a, refl, h)

-- Single values.

number-below : (most : ℕ) (d : Data) (n : ℕ) → number most d ≡ Some n → n ≤ most
unfolding number
number-below most d n h =
    let p = then-some (option_and_then as_u64 (as_number d)) (λ found. if nat_le found most then Some found else None) n h in
    by_test p.0 (nat_le p.0 most) refl p.2
  where
    by_test : (found : ℕ) (t : Bool) → nat_le found most ≡ t → cond t (Some found) None ≡ Some n → n ≤ most
    by_test found true is e = let same : found ≡ n = cc in subst (λ (m : ℕ). m ≤ most) same (leb-true found most is)
    by_test found false is e = absurd (cc)

octets-bytes : (size : ℕ) (d : Data) (bytes : List ℕ) → octets_of size d ≡ Some bytes → IsBytes bytes
unfolding octets_of
octets-bytes size d bytes h =
    let p = then-some (as_str d) (λ digits. result_ok (decode_sized digits size)) bytes h in
    let is = decoded (decode_sized p.0 size) p.2 in
    let long = decode_sized-ok p.0 size bytes is in
    (decode_of-ok p.0 bytes (sym (decode_sized-twice p.0 size long) ∙ is)).3
  where
    decoded : (r : Result (List ℕ) FromHexError) → result_ok r ≡ Some bytes → r ≡ Ok bytes
    decoded (Ok found) e = ap Ok (cc)
    decoded (Err fault) e = absurd (cc)

field-some : {X : Type 0} (name : List ℕ) (form : Data → Option X) (d : Data) (x : X) → field name form d ≡ Some x → (value : Data) × (form value ≡ Some x)
unfolding field
field-some name form d x h = let p = then-some (get name d) form x h in (p.0, p.2)

-- Rows.

ids-below : (d : Data) (i : Ids) → ids d ≡ Some i → (i.session ≤ 65535) × (i.peer_session ≤ 65535)
unfolding ids
ids-below d i h =
    let a = then-some (field (codes "session") number16 d) _ i h in
    let b = then-some (field (codes "peer_session") number16 d) _ i a.2 in
    let c = then-some (field (codes "boot") number32 d) _ i b.2 in
    let e = then-some (field (codes "mode") mode d) _ i c.2 in
    let x = field-some (codes "session") number16 d a.0 a.1 in
    let y = field-some (codes "peer_session") number16 d b.0 b.1 in
    let same : (record { session = a.0; peer_session = b.0; boot = c.0; auth = e.0 }) ≡ i = cc in
    subst (λ (j : Ids). (j.session ≤ 65535) × (j.peer_session ≤ 65535)) same (number-below 65535 x.0 a.0 x.1, number-below 65535 y.0 b.0 y.1)

keys-below : (d : Data) (k : Keys) → keys d ≡ Some k → IsBytes k.key_in × (k.counter_in ≤ 4294967295)
unfolding keys
keys-below d k h =
    let a = then-some (field (codes "key_in") (octets_of 16) d) _ k h in
    let b = then-some (field (codes "key_out") (octets_of 16) d) _ k a.2 in
    let c = then-some (field (codes "counter_in") number32 d) _ k b.2 in
    let e = then-some (field (codes "counter_out") number32 d) _ k c.2 in
    let x = field-some (codes "key_in") (octets_of 16) d a.0 a.1 in
    let y = field-some (codes "counter_in") number32 d c.0 c.1 in
    let same : (record { key_in = a.0; key_out = b.0; counter_in = c.0; counter_out = e.0 }) ≡ k = cc in
    subst (λ (j : Keys). IsBytes j.key_in × (j.counter_in ≤ 4294967295)) same (octets-bytes 16 x.0 a.0 x.1, number-below 4294967295 y.0 c.0 y.1)

session-below : (d : Data) (row : SessionRow) → session d ≡ Some row → IsInRange row
unfolding session
session-below d row h =
    let a = then-some (ids d) _ row h in
    let b = then-some (owner a.0.auth d) _ row a.2 in
    let c = then-some (cats d) _ row b.2 in
    let e = then-some (keys d) _ row c.2 in
    let i = ids-below d a.0 a.1 in
    let k = keys-below d e.0 e.1 in
    let made : SessionRow = record {
      session = a.0.session;
      peer_session = a.0.peer_session;
      boot = a.0.boot;
      auth = a.0.auth;
      root_key = b.0.root_key;
      fabric_id = b.0.fabric_id;
      own_node = b.0.own_node;
      peer_node = b.0.peer_node;
      cats = c.0;
      key_in = e.0.key_in;
      key_out = e.0.key_out;
      counter_in = e.0.counter_in;
      counter_out = e.0.counter_out;
    } in
    let same : made ≡ row = cc in
    subst IsInRange same (record { session = i.0; peer_session = i.1; counter_in = k.1; key_in = k.0 })

-- Lists.

each-below : (items : Items) (rows : List SessionRow) → each session items ≡ Some rows → All IsInRange rows
each-below no_items rows h = let none : [] ≡ rows = cc in subst (All IsInRange) none (All-nil IsInRange)
each-below (item d ds) rows h =
    let a = then-some (session d) (λ (first : SessionRow). option_and_then (λ (others : List SessionRow). Some (first ∷ others)) (each session ds)) rows h in
    let b = then-some (each session ds) (λ (others : List SessionRow). Some (a.0 ∷ others)) rows a.2 in
    let same : a.0 ∷ b.0 ≡ rows = cc in
    subst (All IsInRange) same (All-cons IsInRange a.0 b.0 (session-below d a.0 a.1) (each-below ds b.0 b.1))

sessions-below : (d : Data) (rows : List SessionRow) → sessions d ≡ Some rows → All IsInRange rows
unfolding sessions list_of
sessions-below d rows h =
    let a = then-some (list_of (codes "sessions") SESSIONS session d) (where_kept are_sessions) rows h in
    let b = then-some (items_of (codes "sessions") SESSIONS d) _ a.0 a.1 in
    subst (All IsInRange) (kept a.0 (are_sessions a.0) a.2) (each-below b.0 a.0 b.2)
  where
    kept : (found : List SessionRow) (t : Bool) → cond t (Some found) None ≡ Some rows → found ≡ rows
    kept found true e = cc
    kept found false e = absurd (cc)

-- The whole.

field-ok : {X : Type 0} (place : ConfigField) (o : Option X) (x : X) → in_field place o ≡ Ok x → o ≡ Some x
field-ok place (Some y) x h = ap Some (cc)
field-ok place None x h = absurd (cc)

contents-below : (d : Data) (c : Contents) → contents d ≡ Ok c → All IsInRange c.sessions
unfolding contents
contents-below d c h =
    let a = then-ok (in_field Fabrics (fabrics d)) _ c h in
    let b = then-ok (in_field Sessions (sessions d)) _ c a.2 in
    let e = then-ok (in_field Roots (roots d)) _ c b.2 in
    let f = then-ok (in_field Csrs (csrs d)) _ c e.2 in
    let g = then-ok (in_field Joins (joins d)) _ c f.2 in
    let k = then-ok (in_field Reachable (reachable d)) _ c g.2 in
    let made : Contents = record { fabrics = a.0.fabrics; entries = a.0.entries; sessions = b.0; roots = e.0; csrs = f.0; joins = g.0; reachable = k.0 } in
    let same : made ≡ c = cc in
    subst (λ (all : Contents). All IsInRange all.sessions) same (sessions-below d b.0 (field-ok Sessions (sessions d) b.0 b.1))

pub rows_in_range : (bytes : List ℕ) (c : Contents) → configuration bytes ≡ Ok c → All IsInRange c.sessions
unfolding configuration
rows_in_range bytes c h = by_size (nat_lt CONFIGURATION_BYTES (length bytes)) h
  where
    by_size : (t : Bool) → cond t (Err Size) (in_field Json (object bytes) >>= contents) ≡ Ok c → All IsInRange c.sessions
    by_size true e = absurd (cc)
    by_size false e = let a = then-ok (in_field Json (object bytes)) contents c e in contents-below a.0 c a.2
