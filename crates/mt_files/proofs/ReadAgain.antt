-- The fields of a line as they are written, and read again.
use Rattle.std.proofs.Common.{◌≡◌, ◌≢◌, ℕ, zero, suc, ◌+◌, ◌-◌, ◌*◌, ◌%◌, ◌^◌, ◌<◌, ◌≤◌, Bool, true, false, cond, eqb, leb, List, [], ◌∷◌, ◌++◌, length, take, drop, map, replicate, Some, None, Result, Ok, refl, sym, ap, subst, ◌∙◌, arith, length-append}
use Rattle.std.specs.Prelude.{All, codes}
use Rattle.std.specs.Cmp.Lexicographic.{unequal}
use Rattle.std.specs.Prelude.{nat_eq}
use Rattle.std.specs.Int.{w16, w32, w64, byte_at, bytes_high_first, from_be_bytes, to_be_bytes}
use Rattle.std.specs.List.{flat_map, join_with_byte}
use Rattle.std.specs.Option.{option_and_then, option_map}
use Rattle.std.proofs.lemmas.Bool.{ne_eqb, le-leb}
use Rattle.std.proofs.lemmas.List.{append-nil}
use Rattle.std.proofs.lemmas.List.Elements.{All-nil, All-cons, All-head, All-tail}
use Rattle.std.proofs.lemmas.Nat.{from_be_bytes-to_be_bytes_2, from_be_bytes-to_be_bytes_4, from_be_bytes-to_be_bytes_8}
use Rattle.std.proofs.Math.Seq.{take-append_seam, drop-append_seam}
use Rattle.hex.specs.Hex.{encode_lower, lower_digits, IsBytes}
use Rattle.hex.proofs.HexLemmas.{decode_of-encode_lower, decode_sized-encode_lower, length-encode_with}
use Rattle.mt_outside.specs.declared.fate.Fate.{Fate}
use Rattle.mt_outside.specs.declared.fate.Fate.TheVariants.{Kept, Lost, Torn}
use Rattle.mt_outside.specs.declared.network.Peer.{Peer}
use Rattle.mt_model.specs.declared.texts.recording.Event.{Event}
use Rattle.mt_model.specs.declared.texts.line_fault.LineKind.{LineKind}
use Rattle.mt_outside.specs.Fates.{fate_text}
use Rattle.mt_files.specs.Field.{bytes_in, fate_in, first_byte, ok_of, opcode_in, payload_in, payload_text, peer_in, peer_of, peer_text, port_in}
use Rattle.mt_files.specs.Form.{AreCats, IsPeer}
use Rattle.mt_files.specs.Lines.{parts_of, text_is}
use Rattle.mt_files.specs.Subject.{cat_in, cat_text, cats_in, node_in, subject_in, subject_of, subject_parts, subject_text, three_of, with_version}
use Rattle.mt_files.proofs.Written.{IsMark, Lacks, Lacks-append, Lacks-hex, Lacks-hex_43, Lacks-high, Lacks-nil, at_index, parts_of-join}

abbrev told_as : Event → Result Event LineKind
told_as e = Ok e

-- Bytes.

abbrev IsByte : ℕ → Type 0
IsByte b = b < 256

bytes-all : (xs : List ℕ) → All IsByte xs → IsBytes xs
bytes-all xs h i = at_index IsByte xs i (omega arith) h

byte_at-byte : (k n : ℕ) → byte_at k n < 256
byte_at-byte zero n = omega arith
byte_at-byte (suc k) n = omega arith

high_first-bytes : (k n : ℕ) → All IsByte (bytes_high_first k n)
high_first-bytes zero n = All-nil IsByte
high_first-bytes (suc k) n = All-cons IsByte (byte_at k n) (bytes_high_first k n) (byte_at-byte k n) (high_first-bytes k n)

pub length-encode : (xs : List ℕ) → length (encode_lower xs) ≡ 2 * length xs
length-encode xs = length-encode_with lower_digits xs

bytes_in-encode : (size : ℕ) (xs : List ℕ) → length xs ≡ size → IsBytes xs → bytes_in size (encode_lower xs) ≡ Some xs
bytes_in-encode size xs long h = ap ok_of (decode_sized-encode_lower xs size long h)

-- Payloads.

pub payload_in-payload_text : (most : ℕ) (bytes : List ℕ) → length bytes ≤ most → IsBytes bytes → payload_in most (payload_text bytes) ≡ Some bytes
payload_in-payload_text most [] le h = refl
payload_in-payload_text most (b ∷ bytes) le h =
    let text = encode_lower (b ∷ bytes) in
    let long = length-encode (b ∷ bytes) in
    let some : eqb (length text) 0 ≡ false = ne_eqb (length text) 0 (λ e. omega arith) in
    let other : text_is text (codes "-") ≡ false = unequal nat_eq text (codes "-") (λ e. omega arith) in
    let fits : leb (length text) (2 * most) ≡ true = le-leb (length text) (2 * most) (omega arith) in
    let decoded = decode_of-encode_lower (b ∷ bytes) h in
    λ i. cond (some i) None (cond (other i) (Some []) (cond (fits i) (ok_of (decoded i)) None))

pub length-payload_text : (most : ℕ) (bytes : List ℕ) → length bytes ≤ most → length (payload_text bytes) ≤ 2 * most + 1
length-payload_text most [] le = omega arith
length-payload_text most (b ∷ bytes) le = let long = length-encode (b ∷ bytes) in omega arith

pub Lacks-payload_text : (byte : ℕ) (bytes : List ℕ) → IsMark byte → Lacks byte (payload_text bytes)
Lacks-payload_text byte [] m = Lacks-high byte (codes "-") m refl
Lacks-payload_text byte (b ∷ bytes) m = Lacks-hex byte (b ∷ bytes) m

-- Opcodes.

pub opcode_in-encode : (opcode : ℕ) → opcode < 2 ^ 8 → opcode_in (encode_lower (opcode ∷ [])) ≡ Some opcode
opcode_in-encode opcode h = ap (option_and_then first_byte) (bytes_in-encode 1 (opcode ∷ []) refl (bytes-all (opcode ∷ []) (All-cons IsByte opcode [] (omega arith) (All-nil IsByte))))

-- Peers.

port_in-encode : (port : ℕ) → port < 2 ^ 16 → port_in (encode_lower (to_be_bytes w16 port)) ≡ Some port
port_in-encode port h =
    ap (option_map (from_be_bytes w16)) (bytes_in-encode 2 (to_be_bytes w16 port) refl (bytes-all (to_be_bytes w16 port) (high_first-bytes 2 port)))
    ∙ ap Some (from_be_bytes-to_be_bytes_2 port h)

pub peer_in-peer_text : (peer : Peer) → IsPeer peer → peer_in (peer_text peer) ≡ Some peer
peer_in-peer_text peer p =
    let ip = encode_lower peer.ip in
    let port = encode_lower (to_be_bytes w16 peer.port) in
    let long_ip : length ip ≡ 32 = length-encode peer.ip ∙ ap (λ n. 2 * n) p.long in
    let long_port : length port ≡ 4 = length-encode (to_be_bytes w16 peer.port) in
    let long : eqb (length (ip ++ port)) 36 ≡ true = let sum : length (ip ++ port) ≡ 36 = omega (arith, length-append ip port) in rw sum refl in
    let front : take 32 (ip ++ port) ≡ ip = (λ i. take (sym long_ip i) (ip ++ port)) ∙ take-append_seam ip port in
    let back : drop 32 (ip ++ port) ≡ port = (λ i. drop (sym long_ip i) (ip ++ port)) ∙ drop-append_seam ip port in
    let address : bytes_in 16 (take 32 (ip ++ port)) ≡ Some peer.ip = ap (bytes_in 16) front ∙ bytes_in-encode 16 peer.ip p.long p.bytes in
    let number : port_in (drop 32 (ip ++ port)) ≡ Some peer.port = ap port_in back ∙ port_in-encode peer.port p.port in
    λ i. cond (long i) (peer_of (address i) (number i)) None

-- Subjects.

node_in-encode : (node : ℕ) → node < 2 ^ 64 → node_in (encode_lower (to_be_bytes w64 node)) ≡ Some node
node_in-encode node h =
    ap (option_map (from_be_bytes w64)) (bytes_in-encode 8 (to_be_bytes w64 node) refl (bytes-all (to_be_bytes w64 node) (high_first-bytes 8 node)))
    ∙ ap Some (from_be_bytes-to_be_bytes_8 node h)

abbrev cat_hex : ℕ → List ℕ
cat_hex cat = encode_lower (to_be_bytes w32 cat)

cat_in-encode : (cat : ℕ) → cat < 2 ^ 32 → cat % 65536 ≢ 0 → cat_in (cat_hex cat) ≡ Some cat
cat_in-encode cat h version =
    ap (λ o. option_and_then with_version (option_map (from_be_bytes w32) o)) (bytes_in-encode 4 (to_be_bytes w32 cat) refl (bytes-all (to_be_bytes w32 cat) (high_first-bytes 4 cat)))
    ∙ ap with_version (from_be_bytes-to_be_bytes_4 cat h)
    ∙ ap (λ t. cond t None (Some cat)) (ne_eqb (cat % 65536) 0 version)

-- a CAT that is there, behind its `+`
cat_text-some : (cat : ℕ) → cat % 65536 ≢ 0 → cat_text cat ≡ 43 ∷ cat_hex cat
cat_text-some cat version =
    let some : eqb cat 0 ≡ false = ne_eqb cat 0 (λ e. version (omega arith)) in
    ap (λ t. cond t [] (43 ∷ cat_hex cat)) some

abbrev HasVersion : ℕ → Type 0
HasVersion cat = cat % 65536 ≢ 0

abbrev pub Is32 : ℕ → Type 0
Is32 cat = cat < 2 ^ 32

-- a subject's text as its parts
abbrev subject_join : ℕ → List ℕ → List ℕ
subject_join node given = join_with_byte 43 (encode_lower (to_be_bytes w64 node) ∷ map cat_hex given)

-- zeros are not written
flat_map-zeros : (k : ℕ) → flat_map cat_text (replicate k 0) ≡ []
flat_map-zeros zero = refl
flat_map-zeros (suc k) = flat_map-zeros k

join-cats : (text : List ℕ) (given zeros : List ℕ) → flat_map cat_text zeros ≡ [] → All HasVersion given → text ++ flat_map cat_text (given ++ zeros) ≡ join_with_byte 43 (text ∷ map cat_hex given)
join-cats text [] zeros none h = ap (λ (w : List ℕ). text ++ w) none ∙ append-nil text
join-cats text (cat ∷ given) zeros none h =
    ap (λ (w : List ℕ). text ++ (w ++ flat_map cat_text (given ++ zeros))) (cat_text-some cat (All-head HasVersion cat given h))
    ∙ ap (λ (w : List ℕ). text ++ 43 ∷ w) (join-cats (cat_hex cat) given zeros none (All-tail HasVersion cat given h))

cats_in-given : (given : List ℕ) → length given ≤ 3 → All HasVersion given → All Is32 given → cats_in (map cat_hex given) ≡ Some (given ++ replicate (3 - length given) 0)
cats_in-given [] few h k = refl
cats_in-given (a ∷ []) few h k =
    let first = cat_in-encode a (All-head Is32 a [] k) (All-head HasVersion a [] h) in
    ap (λ o. three_of o (Some 0) (Some 0)) first
cats_in-given (a ∷ b ∷ []) few h k =
    let first = cat_in-encode a (All-head Is32 a (b ∷ []) k) (All-head HasVersion a (b ∷ []) h) in
    let h2 = All-tail HasVersion a (b ∷ []) h in
    let k2 = All-tail Is32 a (b ∷ []) k in
    let second = cat_in-encode b (All-head Is32 b [] k2) (All-head HasVersion b [] h2) in
    λ i. three_of (first i) (second i) (Some 0)
cats_in-given (a ∷ b ∷ c ∷ []) few h k =
    let first = cat_in-encode a (All-head Is32 a (b ∷ c ∷ []) k) (All-head HasVersion a (b ∷ c ∷ []) h) in
    let h2 = All-tail HasVersion a (b ∷ c ∷ []) h in
    let k2 = All-tail Is32 a (b ∷ c ∷ []) k in
    let second = cat_in-encode b (All-head Is32 b (c ∷ []) k2) (All-head HasVersion b (c ∷ []) h2) in
    let h3 = All-tail HasVersion b (c ∷ []) h2 in
    let k3 = All-tail Is32 b (c ∷ []) k2 in
    let third = cat_in-encode c (All-head Is32 c [] k3) (All-head HasVersion c [] h3) in
    λ i. three_of (first i) (second i) (third i)
cats_in-given (a ∷ b ∷ c ∷ d ∷ given) few h k = absurd (omega arith)

Lacks-parts_43 : (given : List ℕ) → All (Lacks 43) (map cat_hex given)
Lacks-parts_43 [] = All-nil (Lacks 43)
Lacks-parts_43 (cat ∷ given) = All-cons (Lacks 43) (cat_hex cat) (map cat_hex given) (Lacks-hex_43 (to_be_bytes w32 cat)) (Lacks-parts_43 given)

front-all : (xs ys : List ℕ) → All Is32 (xs ++ ys) → All Is32 xs
front-all [] ys h = All-nil Is32
front-all (x ∷ xs) ys h = All-cons Is32 x xs (All-head Is32 x (xs ++ ys) h) (front-all xs ys (All-tail Is32 x (xs ++ ys) h))

pub subject_in-subject_text : (node : ℕ) (cats : List ℕ) → node < 2 ^ 64 → AreCats cats → All Is32 cats → subject_in (subject_text node cats) ≡ Some (record { node = node; cats = cats })
subject_in-subject_text node cats id p k =
    let given = p.given in
    let zeros = replicate (3 - length given) 0 in
    let id_hex = encode_lower (to_be_bytes w64 node) in
    let small : All Is32 given = front-all given zeros (subst (All Is32) p.padded k) in
    let text : subject_text node cats ≡ subject_join node given = ap (λ (cs : List ℕ). id_hex ++ flat_map cat_text cs) p.padded ∙ join-cats id_hex given zeros (flat_map-zeros (3 - length given)) p.versions in
    let parts : parts_of 43 (subject_join node given) ≡ id_hex ∷ map cat_hex given = parts_of-join 43 id_hex (map cat_hex given) (All-cons (Lacks 43) id_hex (map cat_hex given) (Lacks-hex_43 (to_be_bytes w64 node)) (Lacks-parts_43 given)) in
    ap subject_in text
    ∙ ap subject_parts parts
    ∙ (λ i. subject_of (node_in-encode node id i) (cats_in-given given p.few p.versions small i))
    ∙ ap (λ (cs : List ℕ). Some (record { node = node; cats = cs })) (sym p.padded)

Lacks-cat_text : (byte cat : ℕ) → IsMark byte → Lacks byte (cat_text cat)
Lacks-cat_text byte cat m = by_test (eqb cat 0)
  where
    by_test : (t : Bool) → Lacks byte (cond t [] (43 ∷ cat_hex cat))
    by_test true = Lacks-nil byte
    by_test false = Lacks-append byte (43 ∷ []) (cat_hex cat) (Lacks-high byte (43 ∷ []) m refl) (Lacks-hex byte (to_be_bytes w32 cat) m)

Lacks-cats : (byte : ℕ) (cats : List ℕ) → IsMark byte → Lacks byte (flat_map cat_text cats)
Lacks-cats byte [] m = Lacks-nil byte
Lacks-cats byte (cat ∷ cats) m = Lacks-append byte (cat_text cat) (flat_map cat_text cats) (Lacks-cat_text byte cat m) (Lacks-cats byte cats m)

pub Lacks-subject_text : (byte node : ℕ) (cats : List ℕ) → IsMark byte → Lacks byte (subject_text node cats)
Lacks-subject_text byte node cats m = Lacks-append byte (encode_lower (to_be_bytes w64 node)) (flat_map cat_text cats) (Lacks-hex byte (to_be_bytes w64 node) m) (Lacks-cats byte cats m)

pub Lacks-peer_text : (byte : ℕ) (peer : Peer) → IsMark byte → Lacks byte (peer_text peer)
Lacks-peer_text byte peer m = Lacks-append byte (encode_lower peer.ip) (encode_lower (to_be_bytes w16 peer.port)) (Lacks-hex byte peer.ip m) (Lacks-hex byte (to_be_bytes w16 peer.port) m)

pub Lacks-fate_text : (byte : ℕ) (fate : Fate) → IsMark byte → Lacks byte (fate_text fate)
Lacks-fate_text byte Kept m = Lacks-high byte (codes "kept") m refl
Lacks-fate_text byte Lost m = Lacks-high byte (codes "lost") m refl
Lacks-fate_text byte Torn m = Lacks-high byte (codes "torn") m refl

length-cat_text : (cat : ℕ) → length (cat_text cat) ≤ 9
length-cat_text cat = by_test (eqb cat 0)
  where
    by_test : (t : Bool) → length (cond t [] (43 ∷ cat_hex cat)) ≤ 9
    by_test true = omega arith
    by_test false = let long = length-encode (to_be_bytes w32 cat) in omega arith

pub length-cats : (cats : List ℕ) → length (flat_map cat_text cats) ≤ 9 * length cats
length-cats [] = omega arith
length-cats (cat ∷ cats) = let one = length-cat_text cat in let rest = length-cats cats in omega (arith, length-append (cat_text cat) (flat_map cat_text cats))

-- Fates.

pub fate_in-fate_text : (fate : Fate) → fate_in (fate_text fate) ≡ Some fate
fate_in-fate_text Kept = refl
fate_in-fate_text Lost = refl
fate_in-fate_text Torn = refl
