-- How long the lines of events are.
use lib.Dec.{T}
use Rattle.std.proofs.Common.{◌≡◌, ◌≢◌, refl, sym, subst, ℕ, ◌+◌, ◌*◌, ◌<◌, Bool, true, false, cond, List, [], ◌∷◌, ◌++◌, length, arith, length-append, eqb→eq, slice_index}
use Rattle.std.specs.Prelude.{◌==◌}
use Rattle.std.specs.Fmt.{decimal}
use Rattle.std.specs.Int.{w16, w32, w64, to_be_bytes}
use Rattle.std.specs.List.{flat_map, join_with_byte}
use Rattle.hex.specs.Hex.{encode_lower}
use Rattle.mt_outside.specs.declared.network.Peer.{Peer}
use Rattle.mt_model.specs.declared.texts.recording.Event.{Event}
use Rattle.mt_model.specs.declared.texts.recording.Event.TheVariants.{Ask, Datagram}
use Rattle.mt_files.specs.Event.{event_fields, line_size}
use Rattle.mt_files.specs.Field.{payload_text, peer_text}
use Rattle.mt_files.specs.Lines.{ended, line_of}
use Rattle.mt_files.specs.Subject.{cat_text, subject_text}
use Rattle.mt_files.proofs.EventLines.{fields-some, total}
use Rattle.mt_files.proofs.ReadAgain.{length-encode}

join-size : (part : List ℕ) (parts : List (List ℕ)) → length (join_with_byte 32 (part ∷ parts)) + 1 ≡ total (part ∷ parts)
join-size part [] = omega arith
join-size part (next ∷ parts) = let rest = join-size next parts in omega (arith, length-append part (32 ∷ join_with_byte 32 (next ∷ parts)))

ended-size : (line : List ℕ) (n : ℕ) → length line + 1 ≡ n → length (line ++ 10 ∷ []) ≡ n
ended-size line n is = omega (arith, length-append line (10 ∷ []))

sized : (fields : List (List ℕ)) → 0 < length fields → length (ended (line_of fields)) ≡ total fields
sized [] some = absurd (omega arith)
sized (field ∷ fields) some = ended-size (join_with_byte 32 (field ∷ fields)) (total (field ∷ fields)) (join-size field fields)

-- each field with the byte behind it
pub line_size-is : (e : Event) → line_size e ≡ total (event_fields e)
line_size-is e = sized (event_fields e) (fields-some e)

pub size-cat : (cat : ℕ) → cat ≢ 0 → 9 ≡ length (cat_text cat)
size-cat cat some =
    let Goal : Bool → Type 0 = λ b. (cat == 0) ≡ b → 9 ≡ length (cond b [] (43 ∷ encode_lower (to_be_bytes w32 cat))) in
    let both : (b : Bool) → Goal b = elim [ true ↦ λ is. absurd (some (eqb→eq cat 0 (subst T (sym is) tt))) | false ↦ λ is. (let size = length-encode (to_be_bytes w32 cat) in omega (arith, size)) ] in
    both (cat == 0) refl

pub size-payload : (bytes : List ℕ) → bytes ≢ [] → 2 * length bytes ≡ length (payload_text bytes)
size-payload [] some = absurd (some refl)
size-payload (byte ∷ bytes) some = sym (length-encode (byte ∷ bytes))

pub size-subject : (node : ℕ) (cats : List ℕ) (a b c : ℕ) → length cats ≡ 3 → a ≡ length (cat_text (slice_index cats 0)) → b ≡ length (cat_text (slice_index cats 1)) → c ≡ length (cat_text (slice_index cats 2))
    → 16 + a + b + c ≡ length (subject_text node cats)
size-subject node [] a b c three p q r = absurd (omega arith)
size-subject node (x ∷ []) a b c three p q r = absurd (omega arith)
size-subject node (x ∷ y ∷ []) a b c three p q r = absurd (omega arith)
size-subject node (x ∷ y ∷ z ∷ []) a b c three p q r =
    let id = length-encode (to_be_bytes w64 node) in
    let first = length-append (cat_text x) (cat_text y ++ (cat_text z ++ [])) in
    let second = length-append (cat_text y) (cat_text z ++ []) in
    let third = length-append (cat_text z) [] in
    omega (arith, id, first, second, third, p, q, r, length-append (encode_lower (to_be_bytes w64 node)) (flat_map cat_text (x ∷ y ∷ z ∷ [])))
size-subject node (x ∷ y ∷ z ∷ w ∷ cats) a b c three p q r = absurd (omega arith)

-- the lines of a request and of a datagram

pub size-ask : (ms fabric node : ℕ) (cats : List ℕ) (opcode : ℕ) (payload : List ℕ) (time index who bytes : ℕ) → time ≡ length (decimal ms) → index ≡ length (decimal fabric) → who ≡ length (subject_text node cats)
    → bytes ≡ length (payload_text payload) → 2 + time + 1 + (index + 1 + who + 1) + 2 + 1 + bytes + 1 ≡ line_size (Ask ms fabric node cats opcode payload)
size-ask ms fabric node cats opcode payload time index who bytes p q r s =
    let size = line_size-is (Ask ms fabric node cats opcode payload) in
    let code = length-encode (opcode ∷ []) in
    omega (arith, size, code, p, q, r, s)

pub size-peer : (peer : Peer) (n : ℕ) → n ≡ length peer.ip → 2 * n + 4 ≡ length (peer_text peer)
size-peer peer n is =
    let ip = length-encode peer.ip in
    let port = length-encode (to_be_bytes w16 peer.port) in
    omega (arith, ip, port, is, length-append (encode_lower peer.ip) (encode_lower (to_be_bytes w16 peer.port)))

pub size-datagram : (ms : ℕ) (peer : Peer) (bytes : List ℕ) (time from size : ℕ) → time ≡ length (decimal ms) → from ≡ length (peer_text peer) → size ≡ length (payload_text bytes) → 2 + time + 1 + from + 1 + size + 1 ≡ line_size (Datagram ms peer bytes)
size-datagram ms peer bytes time from size p q r =
    let whole = line_size-is (Datagram ms peer bytes) in
    omega (arith, whole, p, q, r)
