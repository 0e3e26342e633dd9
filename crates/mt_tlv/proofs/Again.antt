-- What is spelled so is read, whatever follows.
use Rattle.std.proofs.Common.{◌≡◌, ℕ, zero, suc, ◌+◌, ◌*◌, ◌/◌, ◌%◌, ◌^◌, ◌<◌, ◌≤◌, Bool, true, false, cond, ltb, List, [], ◌∷◌, ◌++◌, length, Ok, refl, ap, ◌∙◌, append_assoc, arith}
use Rattle.std.specs.Prelude.{ℤ}
use Rattle.std.specs.Int.{w64, cast_unsigned}
use Rattle.std.specs.Str.{is_utf8}
use Rattle.std.proofs.lemmas.Bool.{le-ltb, lt-ltb}
use Rattle.std.proofs.lemmas.Bool.Decides.{nat_tests}
use Rattle.std.proofs.lemmas.List.{take_at, drop_at, length-append}
use Rattle.mt_tlv.specs.declared.value.Tag.{Tag}
use Rattle.mt_tlv.specs.declared.value.Tag.TheVariants.{Anonymous, Context, Common, Implicit, Full}
use Rattle.mt_tlv.specs.declared.reading.Kind.{Kind}
use Rattle.mt_tlv.specs.declared.reading.Kind.TheVariants as kinds
use Rattle.mt_tlv.specs.Tree.{Tree, int, uint, bool, text, octets, null, bits32, bits64, structure, array, list, Elements, none, more}
use Rattle.mt_tlv.specs.Narrow.{little_endian, fits_beside_sign}
use Rattle.mt_tlv.specs.Spelling.{IsProfileNumber, IsTagField, IsOpening, IsString, IsBody, AreSpelled, bits_beside_sign}
use Rattle.mt_tlv.specs.Limits.{MayStand, IsAllowed, AreAllowed, IsElement}
use Rattle.mt_tlv.specs.Reading.{Reads, number_of, cut_at, piece_at, number_at, profile_number_at, full_at, tag_at, head_at, allowed, is_scalar_type, scalar_length, scalar_of, scalar_at, string_at, is_end, members_with, body_with, container_at, body_at, element_at}
use Rattle.mt_tlv.proofs.Numbers.{length-little_endian, number_of-little_endian}
use Rattle.mt_tlv.proofs.Signed.{again_1, again_2, again_4, again_8}

cut_again : (k : ℕ) (bytes rest : List ℕ) → length bytes ≡ k → cut_at k (bytes ++ rest) ≡ Ok (bytes, rest)
cut_again k bytes rest len =
    let long : ltb (length (bytes ++ rest)) k ≡ false = le-ltb _ _ (omega (arith, length-append bytes rest)) in
    rw (long, take_at bytes rest k len, drop_at bytes rest k len) refl

pub piece_again : (whole k : ℕ) (bytes rest : List ℕ) → length bytes ≡ k → k ≤ 65535 → whole ≤ 65535 + length rest → piece_at whole k (bytes ++ rest) ≡ Ok (bytes, rest)
piece_again whole k bytes rest len small short =
    let a : ltb 65535 k ≡ false = le-ltb _ _ small in
    let b : ltb (65535 + length (bytes ++ rest)) (whole + k) ≡ false = le-ltb _ _ (omega (arith, length-append bytes rest)) in
    rw (a, b) (cut_again k bytes rest len)

number_again : (k n : ℕ) (rest : List ℕ) → n < 256 ^ k → number_at k (little_endian k n ++ rest) ≡ Ok (n, rest)
number_again k n rest lt = rw (cut_again k (little_endian k n) rest (length-little_endian k n), number_of-little_endian k n lt) refl

-- a tag under its control
record Tagged (tag : Tag) (control : ℕ) (bytes rest : List ℕ) : Type 0 where
  small : control < 8
  read : tag_at control bytes ≡ Ok (tag, rest)

common_again : (long : Bool) (n control : ℕ) (field rest : List ℕ) → control ≡ cond long 3 2 → IsProfileNumber long n field → Tagged (Common n) control (field ++ rest) rest
common_again true n control field rest c h = rw (c, h.1) (record { small = omega arith; read = rw (number_again 4 n rest h.0) refl })
common_again false n control field rest c h = rw (c, h.1) (record { small = omega arith; read = rw (number_again 2 n rest h.0) refl })

implicit_again : (long : Bool) (n control : ℕ) (field rest : List ℕ) → control ≡ cond long 5 4 → IsProfileNumber long n field → Tagged (Implicit n) control (field ++ rest) rest
implicit_again true n control field rest c h = rw (c, h.1) (record { small = omega arith; read = rw (number_again 4 n rest h.0) refl })
implicit_again false n control field rest c h = rw (c, h.1) (record { small = omega arith; read = rw (number_again 2 n rest h.0) refl })

regroup_full : (a b c rest : List ℕ) → (a ++ (b ++ c)) ++ rest ≡ a ++ (b ++ (c ++ rest))
regroup_full a b c rest = append_assoc a (b ++ c) rest ∙ ap (λ (t : List ℕ). a ++ t) (append_assoc b c rest)

full_read : (control v p n : ℕ) (a b c rest : List ℕ) → number_at 2 (a ++ (b ++ (c ++ rest))) ≡ Ok (v, b ++ (c ++ rest)) → number_at 2 (b ++ (c ++ rest)) ≡ Ok (p, c ++ rest) → profile_number_at control (c ++ rest) ≡ Ok (n, rest)
    → full_at control ((a ++ (b ++ c)) ++ rest) ≡ Ok (Full v p n, rest)
full_read control v p n a b c rest e1 e2 e3 = rw (regroup_full a b c rest, e1, e2, e3) refl

full_again : (long : Bool) (v p n control : ℕ) (number rest : List ℕ) → control ≡ cond long 7 6 → v < 2 ^ 16 → p < 2 ^ 16 → IsProfileNumber long n number
    → Tagged (Full v p n) control ((little_endian 2 v ++ (little_endian 2 p ++ number)) ++ rest) rest
full_again true v p n control number rest c hv hp h = rw (c, h.1) (record {
  small = omega arith;
  read = full_read 7 v p n (little_endian 2 v) (little_endian 2 p) (little_endian 4 n) rest (number_again 2 v (little_endian 2 p ++ (little_endian 4 n ++ rest)) hv) (number_again 2 p (little_endian 4 n ++ rest) hp) (number_again 4 n rest h.0);
})
full_again false v p n control number rest c hv hp h = rw (c, h.1) (record {
  small = omega arith;
  read = full_read 6 v p n (little_endian 2 v) (little_endian 2 p) (little_endian 2 n) rest (number_again 2 v (little_endian 2 p ++ (little_endian 2 n ++ rest)) hv) (number_again 2 p (little_endian 2 n ++ rest) hp) (number_again 2 n rest h.0);
})

tag_again : (tag : Tag) (control : ℕ) (field rest : List ℕ) → IsTagField tag control field → Tagged tag control (field ++ rest) rest
tag_again Anonymous control field rest h = rw (h.0, h.1) (record { small = omega arith; read = refl })
tag_again (Context n) control field rest h = rw (h.0, h.1) (record { small = omega arith; read = refl })
tag_again (Common n) control field rest h = common_again h.0 n control field rest h.1 h.2
tag_again (Implicit n) control field rest h = implicit_again h.0 n control field rest h.1 h.2
tag_again (Full v p n) control field rest h = rw h.6 (full_again h.0 v p n control h.1 rest h.2 h.3 h.4 h.5)

pub head_again : (tag : Tag) (type : ℕ) (opening bytes : List ℕ) → type < 24 → IsOpening tag type opening → head_at (opening ++ bytes) ≡ Ok ((type, tag), bytes)
unfolding head_at
head_again tag type opening bytes lt h =
    let t = tag_again tag h.0 h.1 bytes h.2 in
    let lower : (32 * h.0 + type) % 32 ≡ type = omega (arith, lt) in
    let upper : (32 * h.0 + type) / 32 ≡ h.0 = omega (arith, lt) in
    rw (h.3, lower, upper, lt-ltb type 24 lt, t.read) refl

pub no_end : (tag : Tag) (type : ℕ) (opening bytes : List ℕ) → type < 24 → IsOpening tag type opening → is_end (opening ++ bytes) ≡ false
no_end tag type opening bytes lt h = rw h.3 (grind (arith, nat_tests))

pub shorter : (tag : Tag) (type : ℕ) (opening body others : List ℕ) (n : ℕ) → IsOpening tag type opening → length (opening ++ (body ++ others)) ≤ suc n → length others ≤ n
shorter tag type opening body others n h le =
    let e : opening ≡ (32 * h.0 + type) ∷ h.1 = h.3 in
    let l = rw e at le in
    omega (arith, l, length-append h.1 (body ++ others), length-append body others)

pub allowed_again : (kind : Kind) (tags : List Tag) (tag : Tag) → MayStand kind tags tag → allowed kind tags tag ≡ Ok tt
allowed_again kinds.Struct tags tag h = rw (h.0, h.1) refl
allowed_again kinds.Array tags tag h = rw h refl
allowed_again kinds.List tags tag h = refl

-- bytes that are the value of a scalar
pub record IsScalar (v : Tree) (type : ℕ) (body : List ℕ) : Type 0 where
  pub known : is_scalar_type type ≡ true
  pub small : type < 24
  pub long : length body ≡ scalar_length type
  pub few : length body ≤ 8
  pub is : scalar_of type (number_of body) ≡ v

pub int_scalar : (z : ℤ) (type : ℕ) (body : List ℕ) → type < 4 → fits_beside_sign (bits_beside_sign type) z ≡ true → body ≡ little_endian (2 ^ type) (cast_unsigned w64 z) → IsScalar (int z) type body
int_scalar z zero body lt f e = rw e (record { known = refl; small = omega arith; long = length-little_endian 1 (cast_unsigned w64 z); few = omega (arith, length-little_endian 1 (cast_unsigned w64 z)); is = ap int (again_1 z f) })
int_scalar z (suc zero) body lt f e = rw e (record { known = refl; small = omega arith; long = length-little_endian 2 (cast_unsigned w64 z); few = omega (arith, length-little_endian 2 (cast_unsigned w64 z)); is = ap int (again_2 z f) })
int_scalar z (suc (suc zero)) body lt f e = rw e (record { known = refl; small = omega arith; long = length-little_endian 4 (cast_unsigned w64 z); few = omega (arith, length-little_endian 4 (cast_unsigned w64 z)); is = ap int (again_4 z f) })
int_scalar z (suc (suc (suc zero))) body lt f e = rw e (record { known = refl; small = omega arith; long = length-little_endian 8 (cast_unsigned w64 z); few = omega (arith, length-little_endian 8 (cast_unsigned w64 z)); is = ap int (again_8 z f) })
int_scalar z (suc (suc (suc (suc w)))) body lt f e = absurd (omega arith)

pub uint_scalar : (n w type : ℕ) (body : List ℕ) → w < 4 → type ≡ 4 + w → n < 256 ^ (2 ^ w) → body ≡ little_endian (2 ^ w) n → IsScalar (uint n) type body
uint_scalar n zero type body lt t f e = rw (t, e) (record { known = refl; small = omega arith; long = length-little_endian 1 n; few = omega (arith, length-little_endian 1 n); is = ap uint (number_of-little_endian 1 n f) })
uint_scalar n (suc zero) type body lt t f e = rw (t, e) (record { known = refl; small = omega arith; long = length-little_endian 2 n; few = omega (arith, length-little_endian 2 n); is = ap uint (number_of-little_endian 2 n f) })
uint_scalar n (suc (suc zero)) type body lt t f e = rw (t, e) (record { known = refl; small = omega arith; long = length-little_endian 4 n; few = omega (arith, length-little_endian 4 n); is = ap uint (number_of-little_endian 4 n f) })
uint_scalar n (suc (suc (suc zero))) type body lt t f e = rw (t, e) (record { known = refl; small = omega arith; long = length-little_endian 8 n; few = omega (arith, length-little_endian 8 n); is = ap uint (number_of-little_endian 8 n f) })
uint_scalar n (suc (suc (suc (suc w)))) type body lt t f e = absurd (omega arith)

pub bool_scalar : (b : Bool) (type : ℕ) (body : List ℕ) → type ≡ cond b 9 8 → body ≡ [] → IsScalar (bool b) type body
bool_scalar true type body t e = rw (t, e) (record { known = refl; small = omega arith; long = refl; few = omega arith; is = refl })
bool_scalar false type body t e = rw (t, e) (record { known = refl; small = omega arith; long = refl; few = omega arith; is = refl })

pub null_scalar : (type : ℕ) (body : List ℕ) → type ≡ 20 → body ≡ [] → IsScalar null type body
null_scalar type body t e = rw (t, e) (record { known = refl; small = omega arith; long = refl; few = omega arith; is = refl })

pub bits32_scalar : (n type : ℕ) (body : List ℕ) → type ≡ 10 → n < 2 ^ 32 → body ≡ little_endian 4 n → IsScalar (bits32 n) type body
bits32_scalar n type body t f e = rw (t, e) (record { known = refl; small = omega arith; long = length-little_endian 4 n; few = omega (arith, length-little_endian 4 n); is = ap bits32 (number_of-little_endian 4 n f) })

pub bits64_scalar : (n type : ℕ) (body : List ℕ) → type ≡ 11 → n < 2 ^ 64 → body ≡ little_endian 8 n → IsScalar (bits64 n) type body
bits64_scalar n type body t f e = rw (t, e) (record { known = refl; small = omega arith; long = length-little_endian 8 n; few = omega (arith, length-little_endian 8 n); is = ap bits64 (number_of-little_endian 8 n f) })

pub scalar_again : (whole type : ℕ) (body rest : List ℕ) (v : Tree) → IsScalar v type body → whole ≤ 65535 + length rest → scalar_at whole type (body ++ rest) ≡ Ok (v, rest)
unfolding scalar_at
scalar_again whole type body rest v h short =
    let few = h.few in
    let long = h.long in
    rw (piece_again whole (scalar_length type) body rest h.long (omega (arith, few, long)) short, h.is) refl

scalar_body_again : (room whole type : ℕ) (body rest : List ℕ) (v : Tree) → IsScalar v type body → whole ≤ 65535 + length rest → body_at room whole type (body ++ rest) ≡ Ok (v, rest)
unfolding body_with
scalar_body_again room whole type body rest v h short = rw h.known (scalar_again whole type body rest v h short)

pub string_again : (whole type w : ℕ) (s rest : List ℕ) → type % 4 ≡ w → w < 4 → length s < 256 ^ (2 ^ w) → length s ≤ 65535 → whole ≤ 65535 + length rest
    → string_at whole type ((little_endian (2 ^ w) (length s) ++ s) ++ rest) ≡ Ok (s, rest)
unfolding string_at
string_again whole type w s rest t small fits few short =
    rw (t, append_assoc (little_endian (2 ^ w) (length s)) s rest, number_again (2 ^ w) (length s) (s ++ rest) fits, piece_again whole (length s) s rest refl few short) refl

-- the types of strings
pub record Stringy (type w : ℕ) (is_text : Bool) : Type 0 where
  pub small : type < 24
  pub no_scalar : is_scalar_type type ≡ false
  pub text : ltb type 16 ≡ is_text
  pub string : ltb type 20 ≡ true
  pub width : type % 4 ≡ w

pub text_type : (w : ℕ) → w < 4 → Stringy (12 + w) w true
text_type zero h = record { small = omega arith; no_scalar = refl; text = refl; string = refl; width = refl }
text_type (suc zero) h = record { small = omega arith; no_scalar = refl; text = refl; string = refl; width = refl }
text_type (suc (suc zero)) h = record { small = omega arith; no_scalar = refl; text = refl; string = refl; width = refl }
text_type (suc (suc (suc zero))) h = record { small = omega arith; no_scalar = refl; text = refl; string = refl; width = refl }
text_type (suc (suc (suc (suc w)))) h = absurd (omega arith)

pub octets_type : (w : ℕ) → w < 4 → Stringy (16 + w) w false
octets_type zero h = record { small = omega arith; no_scalar = refl; text = refl; string = refl; width = refl }
octets_type (suc zero) h = record { small = omega arith; no_scalar = refl; text = refl; string = refl; width = refl }
octets_type (suc (suc zero)) h = record { small = omega arith; no_scalar = refl; text = refl; string = refl; width = refl }
octets_type (suc (suc (suc zero))) h = record { small = omega arith; no_scalar = refl; text = refl; string = refl; width = refl }
octets_type (suc (suc (suc (suc w)))) h = absurd (omega arith)

text_again : (room whole : ℕ) (s : List ℕ) (type : ℕ) (body rest : List ℕ) → IsString 12 s type body → length s ≤ 65535 → is_utf8 s ≡ true → whole ≤ 65535 + length rest → body_at room whole type (body ++ rest) ≡ Ok (text s, rest)
unfolding body_with
text_again room whole s type body rest h few utf8 short =
    let t = text_type h.0 h.1 in
    rw (h.2, h.4, t.no_scalar, t.text, string_again whole (12 + h.0) h.0 s rest t.width h.1 h.3 few short, utf8) refl

octets_again : (room whole : ℕ) (s : List ℕ) (type : ℕ) (body rest : List ℕ) → IsString 16 s type body → length s ≤ 65535 → whole ≤ 65535 + length rest → body_at room whole type (body ++ rest) ≡ Ok (octets s, rest)
unfolding body_with
octets_again room whole s type body rest h few short =
    let t = octets_type h.0 h.1 in
    rw (h.2, h.4, t.no_scalar, t.text, t.string, string_again whole (16 + h.0) h.0 s rest t.width h.1 h.3 few short) refl

pub small_type : (v : Tree) (type : ℕ) (body : List ℕ) → IsBody v type body → type < 24
small_type (int z) type body h = let lt = h.0 in omega (arith, lt)
small_type (uint n) type body h = rw h.2 (let lt = h.1 in omega (arith, lt))
small_type (bool true) type body h = rw h.0 (omega arith)
small_type (bool false) type body h = rw h.0 (omega arith)
small_type (text s) type body h = rw h.2 (text_type h.0 h.1).small
small_type (octets s) type body h = rw h.2 (octets_type h.0 h.1).small
small_type null type body h = rw h.0 (omega arith)
small_type (bits32 n) type body h = rw h.0 (omega arith)
small_type (bits64 n) type body h = rw h.0 (omega arith)
small_type (structure es) type body h = rw h.1 (omega arith)
small_type (array es) type body h = rw h.1 (omega arith)
small_type (list es) type body h = rw h.1 (omega arith)

pub nothing_again : (whole : ℕ) (rest : List ℕ) → whole ≤ 65535 + length rest → piece_at whole 0 rest ≡ Ok ([], rest)
nothing_again whole rest short = piece_again whole 0 [] rest refl (omega arith) short

container_again : (room whole : ℕ) (kind : Kind) (es : Elements) (inner rest : List ℕ) → whole ≤ 65535 + length rest
    → members_with (body_at room whole) whole kind (length (inner ++ 24 ∷ rest)) [] (inner ++ 24 ∷ rest) ≡ Ok (es, rest)
    → container_at (suc room) whole kind ((inner ++ 24 ∷ []) ++ rest) ≡ Ok (es, rest)
unfolding container_at
container_again room whole kind es inner rest short h =
    rw (append_assoc inner (24 ∷ []) rest, nothing_again whole (inner ++ 24 ∷ rest) (omega (arith, length-append inner (24 ∷ rest)))) h

structure_again : (room whole : ℕ) (es : Elements) (bytes rest : List ℕ) → container_at room whole kinds.Struct bytes ≡ Ok (es, rest) → body_at room whole 21 bytes ≡ Ok (structure es, rest)
unfolding body_with
structure_again room whole es bytes rest h = rw h refl

array_again : (room whole : ℕ) (es : Elements) (bytes rest : List ℕ) → container_at room whole kinds.Array bytes ≡ Ok (es, rest) → body_at room whole 22 bytes ≡ Ok (array es, rest)
unfolding body_with
array_again room whole es bytes rest h = rw h refl

list_again : (room whole : ℕ) (es : Elements) (bytes rest : List ℕ) → container_at room whole kinds.List bytes ≡ Ok (es, rest) → body_at room whole 23 bytes ≡ Ok (list es, rest)
unfolding body_with
list_again room whole es bytes rest h = rw h refl

-- the end of a container
none_again : (f : ℕ → Reads Tree) (whole : ℕ) (kind : Kind) (n : ℕ) (tags : List Tag) (rest : List ℕ) → whole ≤ 65535 + length rest → length (24 ∷ rest) ≤ n → members_with f whole kind n tags (24 ∷ rest) ≡ Ok (none, rest)
unfolding members_with
none_again f whole kind zero tags rest short le = absurd (omega arith)
none_again f whole kind (suc n) tags rest short le = rw (piece_again whole 1 (24 ∷ []) rest refl (omega arith) short) refl

-- one more member in front
more_again : (f : ℕ → Reads Tree) (whole : ℕ) (kind : Kind) (n : ℕ) (tags : List Tag) (tag : Tag) (v : Tree) (es : Elements) (type : ℕ) (opening body others rest : List ℕ)
    → type < 24 → IsOpening tag type opening → MayStand kind tags tag → f type (body ++ others) ≡ Ok (v, others) → members_with f whole kind n (tags ++ tag ∷ []) others ≡ Ok (es, rest)
    → members_with f whole kind (suc n) tags (opening ++ (body ++ others)) ≡ Ok (more tag v es, rest)
unfolding members_with
more_again f whole kind n tags tag v es type opening body others rest lt o may b m =
    rw (no_end tag type opening (body ++ others) lt o, head_again tag type opening (body ++ others) lt o, allowed_again kind tags tag may, b, m) refl

pub regroup : (inner opening body others rest : List ℕ) → inner ≡ opening ++ (body ++ others) → inner ++ 24 ∷ rest ≡ opening ++ (body ++ (others ++ 24 ∷ rest))
regroup inner opening body others rest e = rw e (append_assoc opening (body ++ others) (24 ∷ rest) ∙ ap (λ (t : List ℕ). opening ++ t) (append_assoc body others (24 ∷ rest)))

mutual
  pub body_again : (v : Tree) (room whole type : ℕ) (body rest : List ℕ) → IsBody v type body → IsAllowed v room → whole ≤ 65535 + length rest → body_at room whole type (body ++ rest) ≡ Ok (v, rest)
  body_again (int z) room whole type body rest h may short = scalar_body_again room whole type body rest (int z) (int_scalar z type body h.0 h.1 h.2) short
  body_again (uint n) room whole type body rest h may short = scalar_body_again room whole type body rest (uint n) (uint_scalar n h.0 type body h.1 h.2 h.3 h.4) short
  body_again (bool b) room whole type body rest h may short = scalar_body_again room whole type body rest (bool b) (bool_scalar b type body h.0 h.1) short
  body_again (text s) room whole type body rest h may short = text_again room whole s type body rest h may.0 may.1 short
  body_again (octets s) room whole type body rest h may short = octets_again room whole s type body rest h may short
  body_again null room whole type body rest h may short = scalar_body_again room whole type body rest null (null_scalar type body h.0 h.1) short
  body_again (bits32 n) room whole type body rest h may short = scalar_body_again room whole type body rest (bits32 n) (bits32_scalar n type body h.0 h.1 h.2) short
  body_again (bits64 n) room whole type body rest h may short = scalar_body_again room whole type body rest (bits64 n) (bits64_scalar n type body h.0 h.1 h.2) short
  body_again (structure es) zero whole type body rest h may short = absurd may
  body_again (structure es) (suc room) whole type body rest h may short = rw (h.1, h.3) (structure_again (suc room) whole es ((h.0 ++ 24 ∷ []) ++ rest) rest (container_again room whole kinds.Struct es h.0 rest short (members_again es kinds.Struct [] room whole (length (h.0 ++ 24 ∷ rest)) h.0 rest h.2 may short (omega arith))))
  body_again (array es) zero whole type body rest h may short = absurd may
  body_again (array es) (suc room) whole type body rest h may short = rw (h.1, h.3) (array_again (suc room) whole es ((h.0 ++ 24 ∷ []) ++ rest) rest (container_again room whole kinds.Array es h.0 rest short (members_again es kinds.Array [] room whole (length (h.0 ++ 24 ∷ rest)) h.0 rest h.2 may short (omega arith))))
  body_again (list es) zero whole type body rest h may short = absurd may
  body_again (list es) (suc room) whole type body rest h may short = rw (h.1, h.3) (list_again (suc room) whole es ((h.0 ++ 24 ∷ []) ++ rest) rest (container_again room whole kinds.List es h.0 rest short (members_again es kinds.List [] room whole (length (h.0 ++ 24 ∷ rest)) h.0 rest h.2 may short (omega arith))))

  members_again : (es : Elements) (kind : Kind) (tags : List Tag) (room whole n : ℕ) (inner rest : List ℕ) → AreSpelled es inner → AreAllowed es kind tags room → whole ≤ 65535 + length rest
      → length (inner ++ 24 ∷ rest) ≤ n → members_with (body_at room whole) whole kind n tags (inner ++ 24 ∷ rest) ≡ Ok (es, rest)
  members_again none kind tags room whole n inner rest h may short le = rw h (none_again (body_at room whole) whole kind n tags rest short (rw h at le))
  members_again (more tag v es) kind tags room whole zero inner rest h may short le = absurd (omega (arith, length-append inner (24 ∷ rest)))
  members_again (more tag v es) kind tags room whole (suc n) inner rest h may short le =
      let type = h.0 in
      let opening = h.1 in
      let body = h.2 in
      let others = h.3 in
      let one : inner ++ 24 ∷ rest ≡ opening ++ (body ++ (others ++ 24 ∷ rest)) = regroup inner opening body others rest h.7 in
      let fewer : length (others ++ 24 ∷ rest) ≤ n = shorter tag type opening body (others ++ 24 ∷ rest) n h.4 (rw one at le) in
      let wide : whole ≤ 65535 + length (others ++ 24 ∷ rest) = omega (arith, length-append others (24 ∷ rest)) in
      rw one (more_again (body_at room whole) whole kind n tags tag v es type opening body (others ++ 24 ∷ rest) rest (small_type v type body h.5) h.4 may.1
      (body_again v room whole type body (others ++ 24 ∷ rest) h.5 may.2 wide)
      (members_again es kind (tags ++ tag ∷ []) room whole n others rest h.6 may.3 short fewer))

-- an element is read again, whatever follows it
pub element_again : (tag : Tag) (v : Tree) (bytes rest : List ℕ) → IsElement tag v bytes → element_at (bytes ++ rest) ≡ Ok ((tag, v), rest)
unfolding element_at
element_again tag v bytes rest h =
    let s = h.spelled in
    let type = s.0 in
    let opening = s.1 in
    let body = s.2 in
    let e : bytes ++ rest ≡ opening ++ (body ++ rest) = rw s.5 (append_assoc opening body rest) in
    let short : length (bytes ++ rest) ≤ 65535 + length rest = omega (arith, h.short, length-append bytes rest) in
    let head : head_at (bytes ++ rest) ≡ Ok ((type, tag), body ++ rest) = rw e (head_again tag type opening (body ++ rest) (small_type v type body s.4) s.3) in
    rw (head, body_again v 16 (length (bytes ++ rest)) type body rest s.4 h.allowed short) refl
