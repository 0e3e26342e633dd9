-- A datagram is a list of bytes, where the key and what is sealed are.
use Rattle.std.proofs.Common.{◌≡◌, ◌<◌, ◌+◌, ◌*◌, ◌-◌, ◌^◌, ◌%◌, ◌/◌, ℕ, zero, suc, Bool, true, false, cond, List, [], ◌∷◌, ◌++◌, length, take, drop, arith, refl}
use Rattle.std.specs.Prelude.{bit_xor, is_some, nat_lt, replicate, Option, Some, None}
use Rattle.std.specs.Int.{byte_at, bytes_low_first}
use Rattle.std.proofs.lemmas.Bool.{ltb-true}
use Rattle.std.proofs.lemmas.Nat.{xor_lt}
use Rattle.byteorder.specs.Endian.{little_bytes}
use Rattle.hex.specs.Hex.{IsBytes}
use Rattle.mt_ccm.specs.Aes.{affine, affine_bit, cipher, inverse, next_key_byte, round_constant, round_key, s_box, shift_rows, state_after, state_byte, state_of, sub_bytes, turned_byte, x_times, xored}
use Rattle.mt_ccm.specs.Ccm.{block_count, chained, counter_block, formatted, key_stream, masked, masked_tag, tag}
use Rattle.mt_frame.specs.Fields.{flag}
use Rattle.mt_frame.specs.Spelling.{exchange_flags}
use Rattle.mt_frame.specs.Writing.{IsProtocol, message_bytes, optional_bytes, protocol_bytes}
use Rattle.mt_frame.specs.declared.header.ProtocolHeader.{ProtocolHeader}
use Rattle.mt_model.specs.declared.texts.config.SessionRow.{SessionRow}
use Rattle.mt_session.specs.Datagrams.{datagram, nonce, nonce_node, sealed, sent_header}
use Rattle.mt_asking.proofs.ByteLists.{bytes-append, bytes-cons, bytes-nil, bytes-tail}

xor-byte : (a b : ℕ) → a < 256 → b < 256 → bit_xor a b < 256
xor-byte a b h k = xor_lt 8 a b h k

xored-bytes : (xs ys : List ℕ) → IsBytes xs → IsBytes ys → IsBytes (xored xs ys)
xored-bytes [] ys h k = bytes-nil
xored-bytes (x ∷ xs) [] h k = bytes-nil
xored-bytes (x ∷ xs) (y ∷ ys) h k = bytes-cons (bit_xor x y) (xored xs ys) (xor-byte x y (h 0) (k 0)) (xored-bytes xs ys (bytes-tail x xs h) (bytes-tail y ys k))

zeros-bytes : (n : ℕ) → IsBytes (replicate n 0)
zeros-bytes zero = bytes-nil
zeros-bytes (suc n) = bytes-cons 0 (replicate n 0) (omega arith) (zeros-bytes n)

-- AES.

column-bytes : (a b c d : ℕ) (rest : List ℕ) → a < 256 → b < 256 → c < 256 → d < 256 → IsBytes rest → IsBytes (a ∷ b ∷ c ∷ d ∷ rest)
column-bytes a b c d rest p q r s h = bytes-cons a (b ∷ c ∷ d ∷ rest) p (bytes-cons b (c ∷ d ∷ rest) q (bytes-cons c (d ∷ rest) r (bytes-cons d rest s h)))

state-bytes : (f : ℕ → ℕ → ℕ) → ((r c : ℕ) → f r c < 256) → IsBytes (state_of f)
state-bytes f h =
    column-bytes (f 0 0) (f 1 0) (f 2 0) (f 3 0) (f 0 1 ∷ f 1 1 ∷ f 2 1 ∷ f 3 1 ∷ f 0 2 ∷ f 1 2 ∷ f 2 2 ∷ f 3 2 ∷ f 0 3 ∷ f 1 3 ∷ f 2 3 ∷ f 3 3 ∷ []) (h 0 0) (h 1 0) (h 2 0) (h 3 0)
    (column-bytes (f 0 1) (f 1 1) (f 2 1) (f 3 1) (f 0 2 ∷ f 1 2 ∷ f 2 2 ∷ f 3 2 ∷ f 0 3 ∷ f 1 3 ∷ f 2 3 ∷ f 3 3 ∷ []) (h 0 1) (h 1 1) (h 2 1) (h 3 1)
    (column-bytes (f 0 2) (f 1 2) (f 2 2) (f 3 2) (f 0 3 ∷ f 1 3 ∷ f 2 3 ∷ f 3 3 ∷ []) (h 0 2) (h 1 2) (h 2 2) (h 3 2)
    (column-bytes (f 0 3) (f 1 3) (f 2 3) (f 3 3) [] (h 0 3) (h 1 3) (h 2 3) (h 3 3) bytes-nil)))

rest-of-two : (n : ℕ) → n % 2 < 2
rest-of-two n = omega arith

bit-below : (b i : ℕ) → affine_bit b i < 2
unfolding affine_bit
bit-below b i = rest-of-two (b / 2 ^ i + b / 2 ^ ((i + 4) % 8) + b / 2 ^ ((i + 5) % 8) + b / 2 ^ ((i + 6) % 8) + b / 2 ^ ((i + 7) % 8) + 0x63 / 2 ^ i)

eight-bits : (a b c d e f g h : ℕ) → a < 2 → b < 2 → c < 2 → d < 2 → e < 2 → f < 2 → g < 2 → h < 2 → a + 2 * b + 4 * c + 8 * d + 16 * e + 32 * f + 64 * g + 128 * h < 256
eight-bits a b c d e f g h p q r s t u v w = omega arith

box-byte : (b : ℕ) → s_box b < 256
unfolding s_box affine
box-byte b =
    let x = inverse b in
    eight-bits (affine_bit x 0) (affine_bit x 1) (affine_bit x 2) (affine_bit x 3) (affine_bit x 4) (affine_bit x 5) (affine_bit x 6) (affine_bit x 7)
    (bit-below x 0) (bit-below x 1) (bit-below x 2) (bit-below x 3) (bit-below x 4) (bit-below x 5) (bit-below x 6) (bit-below x 7)

times-byte : (b : ℕ) → b < 256 → x_times b < 256
times-byte b h = by_test (nat_lt b 128) refl
  where
    by_test : (t : Bool) → nat_lt b 128 ≡ t → cond t (b * 2) (bit_xor (b * 2 - 256) 0x1b) < 256
    by_test true is = let low = ltb-true b 128 is in omega arith
    by_test false is = xor-byte (b * 2 - 256) 0x1b (omega arith) (omega arith)

constant-byte : (n : ℕ) → round_constant n < 256
unfolding round_constant
constant-byte zero = omega arith
constant-byte (suc n) = times-byte (round_constant n) (constant-byte n)

turned-byte : (key : List ℕ) (n r : ℕ) → turned_byte key n r < 256
turned-byte key n zero = xor-byte (s_box (state_byte key 1 3)) (round_constant n) (box-byte (state_byte key 1 3)) (constant-byte n)
turned-byte key n (suc r) = box-byte (state_byte key ((suc r + 1) % 4) 3)

next-byte : (key : List ℕ) (n r c : ℕ) → IsBytes key → next_key_byte key n r c < 256
unfolding next_key_byte
next-byte key n r zero h = xor-byte (state_byte key r 0) (turned_byte key n r) (h (r + 4 * 0)) (turned-byte key n r)
next-byte key n r (suc c) h = xor-byte (state_byte key r (suc c)) (next_key_byte key n r c) (h (r + 4 * suc c)) (next-byte key n r c h)

round-bytes : (key : List ℕ) (n : ℕ) → IsBytes key → IsBytes (round_key key n)
unfolding round_key
round-bytes key zero h = h
round-bytes key (suc n) h = state-bytes (next_key_byte (round_key key n) n) (λ r c. next-byte (round_key key n) n r c (round-bytes key n h))

sub-bytes : (state : List ℕ) → IsBytes (sub_bytes state)
sub-bytes state = state-bytes (λ r c. s_box (state_byte state r c)) (λ r c. box-byte (state_byte state r c))

shift-bytes : (state : List ℕ) → IsBytes state → IsBytes (shift_rows state)
shift-bytes state h = state-bytes (λ r c. state_byte state r ((c + r) % 4)) (λ r c. h (r + 4 * ((c + r) % 4)))

cipher-bytes : (key block : List ℕ) → IsBytes key → IsBytes (cipher key block)
unfolding cipher
cipher-bytes key block h =
    xored-bytes (shift_rows (sub_bytes (state_after key block 9))) (round_key key 10) (shift-bytes (sub_bytes (state_after key block 9)) (sub-bytes (state_after key block 9))) (round-bytes key 10 h)

-- CCM.

stream-bytes : (key nonce : List ℕ) (i n : ℕ) → IsBytes key → IsBytes (key_stream key nonce i n)
unfolding key_stream
stream-bytes key nonce i zero h = bytes-nil
stream-bytes key nonce i (suc n) h =
    bytes-append (cipher key (counter_block nonce i)) (key_stream key nonce (i + 1) n) (cipher-bytes key (counter_block nonce i) h) (stream-bytes key nonce (i + 1) n h)

chained-bytes : (key y string : List ℕ) (n : ℕ) → IsBytes key → IsBytes y → IsBytes (chained key y string n)
unfolding chained
chained-bytes key y string zero h k = k
chained-bytes key y string (suc n) h k =
    chained-bytes key (cipher key (xored y (take 16 string))) (drop 16 string) n h (cipher-bytes key (xored y (take 16 string)) h)

masked-bytes : (key nonce plain : List ℕ) → IsBytes key → IsBytes plain → IsBytes (masked key nonce plain)
unfolding masked
masked-bytes key nonce plain h k = xored-bytes plain (key_stream key nonce 1 (block_count (length plain))) k (stream-bytes key nonce 1 (block_count (length plain)) h)

tag-bytes : (key nonce aad plain : List ℕ) → IsBytes key → IsBytes (masked_tag key nonce aad plain)
unfolding masked_tag tag
tag-bytes key nonce aad plain h =
    xored-bytes (tag key nonce aad plain) (cipher key (counter_block nonce 0))
    (chained-bytes key (replicate 16 0) (formatted nonce aad plain) (length (formatted nonce aad plain) / 16) h (zeros-bytes 16)) (cipher-bytes key (counter_block nonce 0) h)

-- Headers.

rest-of-byte : (n : ℕ) → n % 256 < 256
rest-of-byte n = omega arith

byte-below : (i n : ℕ) → byte_at i n < 256
byte-below zero n = rest-of-byte n
byte-below (suc i) n = rest-of-byte (n / 256 ^ suc i)

low-bytes : (i n x : ℕ) → IsBytes (bytes_low_first i n x)
low-bytes i zero x = bytes-nil
low-bytes i (suc n) x = bytes-cons (byte_at i x) (bytes_low_first (suc i) n x) (byte-below i x) (low-bytes (suc i) n x)

optional-bytes : (count : ℕ) (x : Option ℕ) → IsBytes (optional_bytes count x)
optional-bytes count None = bytes-nil
optional-bytes count (Some n) = low-bytes 0 count n

head-bytes : (row : SessionRow) (counter : ℕ) → IsBytes (message_bytes (sent_header row counter))
head-bytes row counter =
    let rest = bytes-append (little_bytes 4 counter) [] (low-bytes 0 4 counter) bytes-nil in
    bytes-cons 0 (little_bytes 2 row.peer_session ++ (0 ∷ (little_bytes 4 counter ++ []))) (omega arith)
    (bytes-append (little_bytes 2 row.peer_session) (0 ∷ (little_bytes 4 counter ++ [])) (low-bytes 0 2 row.peer_session) (bytes-cons 0 (little_bytes 4 counter ++ []) (omega arith) rest))

flags-byte : (header : ProtocolHeader) → exchange_flags header < 256
flags-byte header = by_flags header.initiator (is_some header.acknowledged) header.reliable (is_some header.vendor)
  where
    by_flags : (i a r v : Bool) → flag 0 i + flag 1 a + flag 2 r + flag 4 v < 256
    by_flags true true true true = omega arith
    by_flags true true true false = omega arith
    by_flags true true false true = omega arith
    by_flags true true false false = omega arith
    by_flags true false true true = omega arith
    by_flags true false true false = omega arith
    by_flags true false false true = omega arith
    by_flags true false false false = omega arith
    by_flags false true true true = omega arith
    by_flags false true true false = omega arith
    by_flags false true false true = omega arith
    by_flags false true false false = omega arith
    by_flags false false true true = omega arith
    by_flags false false true false = omega arith
    by_flags false false false true = omega arith
    by_flags false false false false = omega arith

protocol-bytes : (header : ProtocolHeader) → IsProtocol header → IsBytes (protocol_bytes header)
protocol-bytes header h =
    let ends = bytes-append (optional_bytes 2 header.vendor) (optional_bytes 4 header.acknowledged) (optional-bytes 2 header.vendor) (optional-bytes 4 header.acknowledged) in
    let behind = bytes-append (little_bytes 2 header.protocol) (optional_bytes 2 header.vendor ++ optional_bytes 4 header.acknowledged) (low-bytes 0 2 header.protocol) ends in
    let rest = bytes-append (little_bytes 2 header.exchange) (little_bytes 2 header.protocol ++ (optional_bytes 2 header.vendor ++ optional_bytes 4 header.acknowledged)) (low-bytes 0 2 header.exchange) behind in
    let all = little_bytes 2 header.exchange ++ (little_bytes 2 header.protocol ++ (optional_bytes 2 header.vendor ++ optional_bytes 4 header.acknowledged)) in
    bytes-cons (exchange_flags header) (header.opcode ∷ all) (flags-byte header) (bytes-cons header.opcode all h.opcode rest)

-- Datagrams.

pub datagram-bytes : (row : SessionRow) (counter : ℕ) (header : ProtocolHeader) (payload : List ℕ) → IsBytes row.key_out → IsProtocol header → IsBytes payload → IsBytes (datagram row counter header payload)
unfolding sealed
datagram-bytes row counter header payload key is_header is_payload =
    let head = message_bytes (sent_header row counter) in
    let plain = protocol_bytes header ++ payload in
    let once = nonce counter (nonce_node row.auth row.own_node) in
    let is_plain = bytes-append (protocol_bytes header) payload (protocol-bytes header is_header) is_payload in
    bytes-append head (masked row.key_out once plain ++ masked_tag row.key_out once head plain) (head-bytes row counter)
    (bytes-append (masked row.key_out once plain) (masked_tag row.key_out once head plain) (masked-bytes row.key_out once plain key is_plain) (tag-bytes row.key_out once head plain key))
