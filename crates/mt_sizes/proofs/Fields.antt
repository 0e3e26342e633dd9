-- How long the fields of a line are.
use Rattle.std.proofs.Common.{◌≡◌, ℕ, ◌+◌, ◌-◌, ◌*◌, ◌^◌, ◌<◌, ◌≤◌, Bool, true, false, cond, List, [], ◌∷◌, ◌++◌, length, replicate, arith, length-append}
use Rattle.std.specs.Prelude.{◌==◌}
use Rattle.std.specs.Fmt.{decimal}
use Rattle.std.specs.Int.{w16, w32, w64, to_be_bytes}
use Rattle.std.specs.List.{flat_map, join_with_byte}
use Rattle.std.proofs.lemmas.Fmt.{length-decimal-le}
use Rattle.hex.specs.Hex.{encode_lower, lower_digits}
use Rattle.hex.proofs.HexLemmas.{length-encode_with}
use Rattle.mt_outside.specs.Fates.{fate_text}
use Rattle.mt_outside.specs.declared.fate.Fate.{Fate}
use Rattle.mt_outside.specs.declared.fate.Fate.TheVariants.{Kept, Lost, Torn}
use Rattle.mt_outside.specs.declared.network.Peer.{Peer}
use Rattle.mt_files.specs.Field.{payload_text, peer_text}
use Rattle.mt_files.specs.Form.{AreCats, IsPeer}
use Rattle.mt_files.specs.Subject.{cat_text, subject_text}

pub hex-long : (xs : List ℕ) → length (encode_lower xs) ≡ 2 * length xs
hex-long xs = length-encode_with lower_digits xs

-- times and other numbers

pub time-long : (ms : ℕ) → ms ≤ 281474976710655 → length (decimal ms) ≤ 15
time-long ms most = length-decimal-le 15 ms (omega arith) (omega arith) (omega arith)

pub fabric-long : (fabric : ℕ) → fabric ≤ 254 → length (decimal fabric) ≤ 3
fabric-long fabric most = length-decimal-le 3 fabric (omega arith) (omega arith) (omega arith)

pub id-long : (id : ℕ) → id < 2 ^ 32 → length (decimal id) ≤ 10
id-long id most = length-decimal-le 10 id (omega arith) (omega arith) (omega arith)

pub number-long : (number : ℕ) → number < 2 ^ 64 → length (decimal number) ≤ 20
number-long number most = length-decimal-le 20 number (omega arith) (omega arith) most

-- payloads and peers

pub payload-long : (most : ℕ) (bytes : List ℕ) → 1 ≤ most → length bytes ≤ most → length (payload_text bytes) ≤ 2 * most
payload-long most [] some few = omega arith
payload-long most (byte ∷ bytes) some few = let long = hex-long (byte ∷ bytes) in omega arith

pub peer-long : (peer : Peer) → IsPeer peer → length (peer_text peer) ≡ 36
peer-long peer is =
    let ip = hex-long peer.ip in
    let port = hex-long (to_be_bytes w16 peer.port) in
    let size = is.long in
    omega (arith, length-append (encode_lower peer.ip) (encode_lower (to_be_bytes w16 peer.port)))

-- who asks

cat-long : (cat : ℕ) → length (cat_text cat) ≤ 9
cat-long cat = by_case (cat == 0)
  where
    by_case : (none : Bool) → length (cond none [] (43 ∷ encode_lower (to_be_bytes w32 cat))) ≤ 9
    by_case true = omega arith
    by_case false = let long = hex-long (to_be_bytes w32 cat) in omega arith

cats-long : (cats : List ℕ) → length (flat_map cat_text cats) ≤ 9 * length cats
cats-long [] = omega arith
cats-long (cat ∷ cats) = let one = cat-long cat in let rest = cats-long cats in omega (arith, length-append (cat_text cat) (flat_map cat_text cats))

three : (given cats : List ℕ) → length given ≤ 3 → cats ≡ given ++ replicate (3 - length given) 0 → length cats ≤ 3
three [] cats few is = rw is (omega arith)
three (a ∷ []) cats few is = rw is (omega arith)
three (a ∷ b ∷ []) cats few is = rw is (omega arith)
three (a ∷ b ∷ c ∷ []) cats few is = rw is (omega arith)
three (a ∷ b ∷ c ∷ d ∷ given) cats few is = absurd (omega arith)

pub subject-long : (node : ℕ) (cats : List ℕ) → AreCats cats → length (subject_text node cats) ≤ 43
subject-long node cats are =
    let count = three are.given cats are.few are.padded in
    let tags = cats-long cats in
    let id = hex-long (to_be_bytes w64 node) in
    omega (arith, length-append (encode_lower (to_be_bytes w64 node)) (flat_map cat_text cats))

-- the fate of a disk

pub fate-long : (fate : Fate) → length (fate_text fate) ≤ 4
fate-long Kept = omega arith
fate-long Lost = omega arith
fate-long Torn = omega arith

-- the fields with the byte behind each of them

abbrev pub joined : List (List ℕ) → ℕ
joined [] = 0
joined (part ∷ parts) = length part + 1 + joined parts

pub joined-long : (part : List ℕ) (parts : List (List ℕ)) → length (join_with_byte 32 (part ∷ parts)) + 1 ≡ joined (part ∷ parts)
joined-long part [] = omega arith
joined-long part (next ∷ parts) = let rest = joined-long next parts in omega (arith, length-append part (32 ∷ join_with_byte 32 (next ∷ parts)))
