-- Reading from the first byte on, with the first fault that is met. No stack is known here: a container is
-- read by a function that reads the containers inside it.
use Rattle.std.specs.Prelude.{◌≡◌, ◌≢◌, ℕ, zero, suc, ◌+◌, ◌*◌, ◌/◌, ◌%◌, ◌^◌, ◌-◌, ℤ, pos, negsuc, Bool, false, List, [], ◌∷◌, ◌++◌, length, take, drop, Result, Ok, Err, nat_lt, ◌==◌, ◌||◌, if◌then◌else◌}
use Rattle.std.specs.Str.{is_utf8}
use Rattle.mt_tlv.specs.declared.value.Tag.{Tag}
use Rattle.mt_tlv.specs.declared.value.Tag.TheVariants.{Anonymous, Context, Common, Implicit, Full}
use Rattle.mt_tlv.specs.declared.value.Value.{Value}
use Rattle.mt_tlv.specs.declared.fault.TlvFault.{TlvFault}
use Rattle.mt_tlv.specs.declared.fault.TlvFault.TheVariants.{Short, Reserved, NotUtf8, TooDeep, SameTag, TagForm, TooLong, Memory}
use Rattle.mt_tlv.specs.declared.reading.Kind.{Kind}
use Rattle.mt_tlv.specs.declared.reading.Kind.TheVariants as kinds
use Rattle.mt_tlv.specs.Tree.{Tree, int, uint, bool, text, octets, null, bits32, bits64, structure, array, list, Elements, none, more}
use Rattle.mt_tlv.specs.View.{tree}
use Rattle.mt_tlv.specs.Narrow.{end_of_container}
use Rattle.mt_tlv.specs.Limits.{longest, deepest, is_anonymous, is_tag_in}

infixl 10 ◌>>=◌
abbrev pub ◌>>=◌ : {A B : Type 0} → Result A TlvFault → (A → Result B TlvFault) → Result B TlvFault
(Ok x) >>= f = f x
(Err e) >>= f = Err e

-- What a function returned, seen by view, is what reading gives, unless memory ran out.
abbrev pub Gives : {X Y : Type 0} → (X → Y) → Result X TlvFault → Result Y TlvFault → Type 0
Gives view (Ok x) read = read ≡ Ok (view x)
Gives view (Err e) read = e ≢ Memory → read ≡ Err e

-- The same of a function that takes no memory.
abbrev pub Exactly : {X Y : Type 0} → (X → Y) → Result X TlvFault → Result Y TlvFault → Type 0
Exactly view (Ok x) read = read ≡ Ok (view x)
Exactly view (Err e) read = read ≡ Err e

-- what is read, and the bytes after it
abbrev pub Reads : Type 0 → Type 0
Reads A = List ℕ → Result (A × List ℕ) TlvFault

-- this many bytes
abbrev pub cut_at : ℕ → Reads (List ℕ)
cut_at k bytes = if nat_lt (length bytes) k then Err Short else Ok (take k bytes, drop k bytes)

-- this many bytes of a value, where the outermost element begins a text of the whole length
abbrev pub piece_at : ℕ → ℕ → Reads (List ℕ)
piece_at whole k bytes = if nat_lt longest k || nat_lt (longest + length bytes) (whole + k) then Err TooLong else cut_at k bytes

-- the number that bytes stand for, the lowest first
unfoldable pub number_of : List ℕ → ℕ
number_of [] = 0
number_of (b ∷ bytes) = b + 256 * number_of bytes

-- a number of this many bytes
abbrev pub number_at : ℕ → Reads ℕ
number_at k bytes = cut_at k bytes >>= λ x. Ok (number_of x.0, x.1)

abbrev pub context_at : Reads Tag
context_at [] = Err Short
context_at (b ∷ bytes) = Ok (Context b, bytes)

-- a profile's tag number under this tag control
abbrev pub profile_number_at : ℕ → Reads ℕ
profile_number_at control bytes = number_at (if control % 2 == 0 then 2 else 4) bytes

abbrev pub full_at : ℕ → Reads Tag
full_at control bytes = number_at 2 bytes >>= λ v. number_at 2 v.1 >>= λ p. profile_number_at control p.1 >>= λ n. Ok (Full v.0 p.0 n.0, n.1)

-- the tag under this tag control
abbrev pub tag_at : ℕ → Reads Tag
tag_at control bytes =
    if control == 0 then Ok (Anonymous, bytes)
    else if control == 1 then context_at bytes
    else if nat_lt control 4 then (profile_number_at control bytes >>= λ n. Ok (Common n.0, n.1))
    else if nat_lt control 6 then (profile_number_at control bytes >>= λ n. Ok (Implicit n.0, n.1))
    else full_at control bytes

-- the element type and the tag
unfoldable pub head_at : Reads (ℕ × Tag)
head_at [] = Err Short
head_at (c ∷ bytes) = if nat_lt (c % 32) 24 then (tag_at (c / 32) bytes >>= λ tag. Ok ((c % 32, tag.0), tag.1)) else Err Reserved

-- a member's tag, behind members of these tags
abbrev pub allowed : Kind → List Tag → Tag → Result (Unit {0}) TlvFault
allowed kinds.Struct tags tag = if is_anonymous tag then Err TagForm else if is_tag_in tag tags then Err SameTag else Ok tt
allowed kinds.Array tags tag = if is_anonymous tag then Ok tt else Err TagForm
allowed kinds.List tags tag = Ok tt

abbrev pub is_scalar_type : ℕ → Bool
is_scalar_type type = nat_lt type 12 || type == 20

-- a number in two's complement of the width whose greatest number this is
abbrev pub signed_of : ℕ → ℕ → ℤ
signed_of greatest n = if nat_lt (greatest / 2) n then negsuc (greatest - n) else pos n

-- how many bytes the value of a scalar takes
abbrev pub scalar_length : ℕ → ℕ
scalar_length type = if nat_lt type 8 then 2 ^ (type % 4) else if type == 10 then 4 else if type == 11 then 8 else 0

-- the scalar of this type whose bytes stand for this number
abbrev pub scalar_of : ℕ → ℕ → Tree
scalar_of type n =
    if nat_lt type 4 then int (signed_of (256 ^ (2 ^ type) - 1) n)
    else if nat_lt type 8 then uint n
    else if nat_lt type 10 then bool (type == 9)
    else if type == 10 then bits32 n
    else if type == 11 then bits64 n
    else null

unfoldable pub scalar_at : ℕ → ℕ → Reads Tree
scalar_at whole type bytes = piece_at whole (scalar_length type) bytes >>= λ x. Ok (scalar_of type (number_of x.0), x.1)

-- the bytes behind a length
unfoldable pub string_at : ℕ → ℕ → Reads (List ℕ)
string_at whole type bytes = number_at (2 ^ (type % 4)) bytes >>= λ n. piece_at whole n.0 n.1

-- bytes that are to be a text
abbrev pub text_of : List ℕ → Result (List ℕ) TlvFault
text_of s = if is_utf8 s then Ok s else Err NotUtf8

-- the text behind a length
abbrev pub text_at : ℕ → ℕ → Reads (List ℕ)
text_at whole type bytes = string_at whole type bytes >>= λ x. text_of x.0 >>= λ s. Ok (s, x.1)

abbrev pub is_end : List ℕ → Bool
is_end [] = false
is_end (b ∷ bytes) = b == end_of_container

-- the members of a container up to its end, behind members of these tags; the number bounds the turns
unfoldable pub members_with : (ℕ → Reads Tree) → ℕ → Kind → ℕ → List Tag → Reads Elements
members_with body whole kind zero tags bytes = Err Short
members_with body whole kind (suc n) tags bytes =
    if is_end bytes then (piece_at whole 1 bytes >>= λ x. Ok (none, x.1)) else (head_at bytes >>= λ h.
    allowed kind tags h.0.1 >>= λ _.
    body h.0.0 h.1 >>= λ v.
    members_with body whole kind n (tags ++ h.0.1 ∷ []) v.1 >>= λ es.
    Ok (more h.0.1 v.0 es.0, es.1))

abbrev pub kind_of : ℕ → Kind
kind_of type = if type == 21 then kinds.Struct else if type == 22 then kinds.Array else kinds.List

abbrev pub container_of : Kind → Elements → Tree
container_of kinds.Struct es = structure es
container_of kinds.Array es = array es
container_of kinds.List es = list es

-- what stands behind the tag of an element of this type
unfoldable pub body_with : (Kind → Reads Elements) → ℕ → ℕ → Reads Tree
body_with members whole type bytes =
    if is_scalar_type type then scalar_at whole type bytes
    else if nat_lt type 16 then (text_at whole type bytes >>= λ x. Ok (text x.0, x.1))
    else if nat_lt type 20 then (string_at whole type bytes >>= λ x. Ok (octets x.0, x.1))
    else (members (kind_of type) bytes >>= λ x. Ok (container_of (kind_of type) x.0, x.1))

-- the members of a container up to its end, where this many containers may open inside each other
unfoldable pub container_at : ℕ → ℕ → Kind → Reads Elements
container_at zero whole kind bytes = Err TooDeep
container_at (suc room) whole kind bytes =
    piece_at whole 0 bytes >>= λ x. members_with (body_with (container_at room whole) whole) whole kind (length x.1) [] x.1

abbrev pub body_at : ℕ → ℕ → ℕ → Reads Tree
body_at room whole = body_with (container_at room whole) whole

-- the first element
unfoldable pub element_at : Reads (Tag × Tree)
element_at bytes = head_at bytes >>= λ h. body_at deepest (length bytes) h.0.0 h.1 >>= λ v. Ok ((h.0.1, v.0), v.1)

-- This element of this length was read, unless memory ran out.
abbrev pub IsReadAs : Result (Tag × Value × ℕ) TlvFault → Tag → Tree → ℕ → Type 0
IsReadAs (Ok x) tag v len = (x.0 ≡ tag) × (tree x.1 ≡ v) × (x.2 ≡ len)
IsReadAs (Err e) tag v len = e ≡ Memory
