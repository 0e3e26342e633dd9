-- What is seen of an element tells that it is there; outlines one after the other.
use Rattle.std.proofs.Common.{◌≡◌, ◌≢◌, ℕ, ℤ, ◌-◌, ◌^◌, Bool, true, false, List, [], ◌∷◌, ◌++◌, length, Result, Ok, Err, refl, sym, ap, subst, ◌∙◌, if◌then◌else◌}
use Rattle.std.specs.Prelude.{nat_lt, ◌==◌}
use Rattle.std.proofs.lemmas.Bool.{ne_eqb}
use Rattle.mt_tlv.specs.declared.value.Tag.{Tag}
use Rattle.mt_tlv.specs.declared.value.Value.{Value}
use Rattle.mt_tlv.specs.declared.fault.TlvFault.{TlvFault}
use Rattle.mt_tlv.specs.declared.reading.Kind.{Kind}
use Rattle.mt_tlv.specs.declared.reading.Kind.TheVariants as kinds
use Rattle.mt_tlv.specs.Tree.{Tree, int, uint, bool, text, octets, null, bits32, bits64, structure, Elements, none, more}
use Rattle.mt_tlv.specs.View.{tree, elements}
use Rattle.mt_tlv.specs.Reading.{◌>>=◌, Exactly, Gives, Reads, body_at, body_with, container_at, container_of, element_at, head_at, is_scalar_type, kind_of, number_of, piece_at, scalar_at, scalar_length, scalar_of, signed_of, string_at, text_at}
use Rattle.mt_tlv.specs.Outline.{behind, emptied, empty_of, fields_of, outlined, outlines, outlines_at, outlines_in, outlines_of}
use Rattle.mt_tlv.specs.declared.tag_set.TagSet.{TagSet}
use Rattle.mt_tlv.specs.Tags.{HasExactly, Remembers}

-- what was read, where these bytes are behind it
pub there_is : {A : Type 0} (r : Result (A × List ℕ) TlvFault) (rest : List ℕ) → behind r ≡ Ok rest → (x : A) × (r ≡ Ok (x, rest))
there_is (Ok x) rest e = let same : x.1 ≡ rest = cc in (x.0, ap (λ (after : List ℕ). Ok (x.0, after)) same)
there_is (Err d) rest e = absurd cc

pub fault_is : {A : Type 0} (r : Result (A × List ℕ) TlvFault) (d : TlvFault) → behind r ≡ Err d → r ≡ Err d
fault_is (Ok x) d e = absurd cc
fault_is (Err b) d e = let same : b ≡ d = cc in ap Err same

-- what was read, where this is its outline
pub there_stands : (r : Result (Tree × List ℕ) TlvFault) (y : Tree) (rest : List ℕ) → outlined r ≡ Ok (y, rest) → (v : Tree) × (r ≡ Ok (v, rest)) × (emptied v ≡ y)
there_stands (Ok x) y rest e =
    let same : (emptied x.0, x.1) ≡ (y, rest) = cc in
    (x.0, ap (λ (after : List ℕ). Ok (x.0, after)) (ap (λ (p : Tree × List ℕ). p.1) same), ap (λ (p : Tree × List ℕ). p.0) same)
there_stands (Err d) y rest e = absurd cc

pub fault_stands : (r : Result (Tree × List ℕ) TlvFault) (d : TlvFault) → outlined r ≡ Err d → r ≡ Err d
fault_stands (Ok x) d e = absurd cc
fault_stands (Err b) d e = let same : b ≡ d = cc in ap Err same

-- members behind others
abbrev joined : Elements → Elements → Elements
joined none others = others
joined (more tag v es) others = more tag v (joined es others)

elements_joined : (xs ys : List (Tag × Value)) → elements (xs ++ ys) ≡ joined (elements xs) (elements ys)
elements_joined [] ys = refl
elements_joined (x ∷ xs) ys = ap (more x.0 (tree x.1)) (elements_joined xs ys)

outlines_joined : (es others : Elements) → outlines (joined es others) ≡ joined (outlines es) (outlines others)
outlines_joined none others = refl
outlines_joined (more tag v es) others = ap (more tag (emptied v)) (outlines_joined es others)

-- one more member, and its outline behind the others
pub outlines_push : (xs ms : List (Tag × Value)) (tag : Tag) (seen there : Value) → elements xs ≡ outlines (elements ms) → tree seen ≡ emptied (tree there) → elements (xs ++ (tag, seen) ∷ []) ≡ outlines (elements (ms ++ (tag, there) ∷ []))
outlines_push xs ms tag seen there before same =
    elements_joined xs ((tag, seen) ∷ [])
    ∙ ap (λ (es : Elements). joined es (more tag (tree seen) none)) before
    ∙ ap (λ (v : Tree). joined (outlines (elements ms)) (more tag v none)) same
    ∙ sym (outlines_joined (elements ms) (more tag (tree there) none))
    ∙ ap outlines (sym (elements_joined ms ((tag, there) ∷ [])))

-- a value is made of what is read
abbrev made : {X : Type 0} → (X → Tree) → Result (X × List ℕ) TlvFault → Result (Tree × List ℕ) TlvFault
made f (Ok x) = Ok (f x.0, x.1)
made f (Err d) = Err d

made_of : {X : Type 0} (f : X → Tree) (r : Result (X × List ℕ) TlvFault) (v : Tree) (rest : List ℕ) → made f r ≡ Ok (v, rest) → (x : X) × (f x ≡ v)
made_of f (Ok x) v rest e =
    let same : (f x.0, x.1) ≡ (v, rest) = cc in
    (x.0, ap (λ (p : Tree × List ℕ). p.0) same)
made_of f (Err d) v rest e = absurd cc

emptied_container : (kind : Kind) (es : Elements) → emptied (container_of kind es) ≡ container_of kind none
emptied_container kinds.Struct es = refl
emptied_container kinds.Array es = refl
emptied_container kinds.List es = refl

emptied_by : (is_text is_octets : Bool) (kind : Kind) (t o : Result (List ℕ × List ℕ) TlvFault) (c : Result (Elements × List ℕ) TlvFault) (v : Tree) (rest : List ℕ)
    → (if is_text then made text t else if is_octets then made octets o else made (container_of kind) c) ≡ Ok (v, rest)
    → emptied v ≡ (if is_text then text [] else if is_octets then octets [] else container_of kind none)
emptied_by true is_octets kind t o c v rest e = ap emptied (sym (made_of text t v rest e).1)
emptied_by false true kind t o c v rest e = ap emptied (sym (made_of octets o v rest e).1)
emptied_by false false kind t o c v rest e =
    let made = made_of (container_of kind) c v rest e in
    ap emptied (sym made.1) ∙ emptied_container kind made.0

made_is : {X : Type 0} (f : X → Tree) (r : Result (X × List ℕ) TlvFault) → ◌>>=◌ {B = Tree × List ℕ} r (λ x. Ok (f x.0, x.1)) ≡ made f r
made_is f (Ok x) = refl
made_is f (Err d) = refl

-- what stands behind a tag, by its type
abbrev by_type : (scalar is_text is_octets : Bool) → Kind → Result (Tree × List ℕ) TlvFault → Result (List ℕ × List ℕ) TlvFault → Result (List ℕ × List ℕ) TlvFault → Result (Elements × List ℕ) TlvFault → Result (Tree × List ℕ) TlvFault
by_type scalar is_text is_octets kind s t o c = if scalar then s else if is_text then made text t else if is_octets then made octets o else made (container_of kind) c

body_by_type : (members : Kind → Reads Elements) (whole type : ℕ) (bytes : List ℕ) → body_with members whole type bytes
    ≡ by_type (is_scalar_type type) (nat_lt type 16) (nat_lt type 20) (kind_of type) (scalar_at whole type bytes) (text_at whole type bytes) (string_at whole type bytes) (members (kind_of type) bytes)
unfolding body_with
body_by_type members whole type bytes = rw (made_is text (text_at whole type bytes), made_is octets (string_at whole type bytes), made_is (container_of (kind_of type)) (members (kind_of type) bytes)) refl

-- the outline of what is no scalar is told by its type
pub emptied_is : (members : Kind → Reads Elements) (whole type : ℕ) (bytes : List ℕ) (v : Tree) (rest : List ℕ) → is_scalar_type type ≡ false → body_with members whole type bytes ≡ Ok (v, rest) → emptied v ≡ empty_of type
emptied_is members whole type bytes v rest other e =
    let is = subst (λ (scalar : Bool). by_type scalar (nat_lt type 16) (nat_lt type 20) (kind_of type) (scalar_at whole type bytes) (text_at whole type bytes) (string_at whole type bytes) (members (kind_of type) bytes) ≡ Ok (v, rest)) other (sym (body_by_type members whole type bytes) ∙ e) in
    emptied_by (nat_lt type 16) (nat_lt type 20) (kind_of type) (text_at whole type bytes) (string_at whole type bytes) (members (kind_of type) bytes) v rest is

-- a scalar, by its type
abbrev scalar_by : (is_int is_uint is_bool is_bits32 is_bits64 : Bool) → ℤ → ℕ → Bool → Tree
scalar_by is_int is_uint is_bool is_bits32 is_bits64 z n b = if is_int then int z else if is_uint then uint n else if is_bool then bool b else if is_bits32 then bits32 n else if is_bits64 then bits64 n else null

emptied_scalar : (is_int is_uint is_bool is_bits32 is_bits64 : Bool) (z : ℤ) (n : ℕ) (b : Bool) → emptied (scalar_by is_int is_uint is_bool is_bits32 is_bits64 z n b) ≡ scalar_by is_int is_uint is_bool is_bits32 is_bits64 z n b
emptied_scalar true b c d e z n t = refl
emptied_scalar false true c d e z n t = refl
emptied_scalar false false true d e z n t = refl
emptied_scalar false false false true e z n t = refl
emptied_scalar false false false false true z n t = refl
emptied_scalar false false false false false z n t = refl

scalar_has_no_fields : (is_int is_uint is_bool is_bits32 is_bits64 : Bool) (z : ℤ) (n : ℕ) (b : Bool) → fields_of (scalar_by is_int is_uint is_bool is_bits32 is_bits64 z n b) ≡ none
scalar_has_no_fields true b c d e z n t = refl
scalar_has_no_fields false true c d e z n t = refl
scalar_has_no_fields false false true d e z n t = refl
scalar_has_no_fields false false false true e z n t = refl
scalar_has_no_fields false false false false true z n t = refl
scalar_has_no_fields false false false false false z n t = refl

abbrev scalar_made : ℕ → List ℕ → Tree
scalar_made type bytes = scalar_of type (number_of bytes)

scalar_is_made : (whole type : ℕ) (bytes : List ℕ) → scalar_at whole type bytes ≡ made (scalar_made type) (piece_at whole (scalar_length type) bytes)
unfolding scalar_at
scalar_is_made whole type bytes = made_is (scalar_made type) (piece_at whole (scalar_length type) bytes)

outlined_made : (type : ℕ) (r : Result (List ℕ × List ℕ) TlvFault) → outlined (made (scalar_made type) r) ≡ made (scalar_made type) r
outlined_made type (Ok x) = ap (λ (v : Tree). Ok (v, x.1)) (emptied_scalar (nat_lt type 4) (nat_lt type 8) (nat_lt type 10) (type == 10) (type == 11) (signed_of (256 ^ (2 ^ type) - 1) (number_of x.0)) (number_of x.0) (type == 9))
outlined_made type (Err d) = refl

-- a scalar is its outline
pub outlined_scalar : (members : Kind → Reads Elements) (whole type : ℕ) (bytes : List ℕ) → is_scalar_type type ≡ true → outlined (body_with members whole type bytes) ≡ scalar_at whole type bytes
outlined_scalar members whole type bytes is =
    ap outlined (body_by_type members whole type bytes)
    ∙ ap (λ (scalar : Bool). outlined (by_type scalar (nat_lt type 16) (nat_lt type 20) (kind_of type) (scalar_at whole type bytes) (text_at whole type bytes) (string_at whole type bytes) (members (kind_of type) bytes))) is
    ∙ ap outlined (scalar_is_made whole type bytes)
    ∙ outlined_made type (piece_at whole (scalar_length type) bytes)
    ∙ sym (scalar_is_made whole type bytes)

scalar_fields : (whole type : ℕ) (bytes : List ℕ) (v : Tree) (rest : List ℕ) → scalar_at whole type bytes ≡ Ok (v, rest) → fields_of v ≡ none
scalar_fields whole type bytes v rest e =
    let made_here = made_of (scalar_made type) (piece_at whole (scalar_length type) bytes) v rest (sym (scalar_is_made whole type bytes) ∙ e) in
    let n = number_of made_here.0 in
    ap fields_of (sym made_here.1) ∙ scalar_has_no_fields (nat_lt type 4) (nat_lt type 8) (nat_lt type 10) (type == 10) (type == 11) (signed_of (256 ^ (2 ^ type) - 1) n) n (type == 9)

container_has_no_fields : (kind : Kind) (es : Elements) → kind ≢ kinds.Struct → fields_of (container_of kind es) ≡ none
container_has_no_fields kinds.Struct es other = absurd (other refl)
container_has_no_fields kinds.Array es other = refl
container_has_no_fields kinds.List es other = refl

fields_by : (scalar is_text is_octets : Bool) (kind : Kind) (s : Result (Tree × List ℕ) TlvFault) (t o : Result (List ℕ × List ℕ) TlvFault) (c : Result (Elements × List ℕ) TlvFault) (v : Tree) (rest : List ℕ)
    → (s ≡ Ok (v, rest) → fields_of v ≡ none) → kind ≢ kinds.Struct → by_type scalar is_text is_octets kind s t o c ≡ Ok (v, rest) → fields_of v ≡ none
fields_by true is_text is_octets kind s t o c v rest scalar other e = scalar e
fields_by false true is_octets kind s t o c v rest scalar other e = ap fields_of (sym (made_of text t v rest e).1)
fields_by false false true kind s t o c v rest scalar other e = ap fields_of (sym (made_of octets o v rest e).1)
fields_by false false false kind s t o c v rest scalar other e =
    let here = made_of (container_of kind) c v rest e in
    ap fields_of (sym here.1) ∙ container_has_no_fields kind here.0 other

-- an element of another type has no fields
pub has_no_fields : (members : Kind → Reads Elements) (whole type : ℕ) (bytes : List ℕ) (v : Tree) (rest : List ℕ) → kind_of type ≢ kinds.Struct → body_with members whole type bytes ≡ Ok (v, rest) → fields_of v ≡ none
has_no_fields members whole type bytes v rest other e =
    fields_by (is_scalar_type type) (nat_lt type 16) (nat_lt type 20) (kind_of type) (scalar_at whole type bytes) (text_at whole type bytes) (string_at whole type bytes) (members (kind_of type) bytes) v rest
    (scalar_fields whole type bytes v rest) other (sym (body_by_type members whole type bytes) ∙ e)

-- an element of a tag and what stands behind it
abbrev pub tagged : Tag → Result (Tree × List ℕ) TlvFault → Result ((Tag × Tree) × List ℕ) TlvFault
tagged tag (Ok x) = Ok ((tag, x.0), x.1)
tagged tag (Err d) = Err d

tagged_is : (tag : Tag) (r : Result (Tree × List ℕ) TlvFault) → ◌>>=◌ {B = (Tag × Tree) × List ℕ} r (λ v. Ok ((tag, v.0), v.1)) ≡ tagged tag r
tagged_is tag (Ok x) = refl
tagged_is tag (Err d) = refl

-- the first element, behind its head
pub element_is : (bytes : List ℕ) (type : ℕ) (tag : Tag) (rest : List ℕ) → head_at bytes ≡ Ok ((type, tag), rest) → element_at bytes ≡ tagged tag (body_at 16 (length bytes) type rest)
unfolding element_at
element_is bytes type tag rest e = rw e (tagged_is tag (body_at 16 (length bytes) type rest))

outlines_of_made : (tag : Tag) (r : Result (Elements × List ℕ) TlvFault) → outlines_of (tagged tag (made structure r)) ≡ outlines_in r
outlines_of_made tag (Ok x) = refl
outlines_of_made tag (Err d) = refl

-- the outlines of a structure's fields
pub outlines_of_structure : (bytes : List ℕ) (type : ℕ) (tag : Tag) (rest : List ℕ) → head_at bytes ≡ Ok ((type, tag), rest) → type ≡ 21 → outlines_at bytes ≡ outlines_in (container_at 16 (length bytes) kinds.Struct rest)
outlines_of_structure bytes type tag rest e is =
    let whole = length bytes in
    let body : body_at 16 whole 21 rest ≡ made structure (container_at 16 whole kinds.Struct rest) = body_by_type (container_at 16 whole) whole 21 rest in
    ap outlines_of (element_is bytes type tag rest e ∙ ap (λ (k : ℕ). tagged tag (body_at 16 whole k rest)) is ∙ ap (tagged tag) body) ∙ outlines_of_made tag (container_at 16 whole kinds.Struct rest)

-- no outlines of what is no structure
pub outlines_of_other : (bytes : List ℕ) (type : ℕ) (tag : Tag) (rest : List ℕ) (after : List ℕ) → head_at bytes ≡ Ok ((type, tag), rest) → kind_of type ≢ kinds.Struct → behind (body_at 16 (length bytes) type rest) ≡ Ok after → outlines_at bytes ≡ Ok none
outlines_of_other bytes type tag rest after e other there =
    let v = there_is (body_at 16 (length bytes) type rest) after there in
    ap outlines_of (element_is bytes type tag rest e ∙ ap (tagged tag) v.1) ∙ ap (λ es. Ok (outlines es)) (has_no_fields (container_at 16 (length bytes)) (length bytes) type rest v.0 after other v.1)

-- the fault of a body is that of its element
pub outlines_fail : (bytes : List ℕ) (type : ℕ) (tag : Tag) (rest : List ℕ) (d : TlvFault) → head_at bytes ≡ Ok ((type, tag), rest) → behind (body_at 16 (length bytes) type rest) ≡ Err d → outlines_at bytes ≡ Err d
outlines_fail bytes type tag rest d e there = ap outlines_of (element_is bytes type tag rest e ∙ ap (tagged tag) (fault_is (body_at 16 (length bytes) type rest) d there))

kind_by : (is_structure is_array : Bool) → is_structure ≡ false → (if is_structure then kinds.Struct else if is_array then kinds.Array else kinds.List) ≢ kinds.Struct
kind_by true is_array e = absurd cc
kind_by false true e = λ same. cc
kind_by false false e = λ same. cc

-- a type other than that of a structure is of another kind
pub other_kind : (type : ℕ) → type ≢ 21 → kind_of type ≢ kinds.Struct
other_kind type other = kind_by (type == 21) (type == 22) (ne_eqb type 21 other)

-- Behind no member nothing is remembered.
pub remembers_none : (kind : Kind) (set : TagSet) → HasExactly set [] → Remembers kind set []
remembers_none kinds.Struct set h = h
remembers_none kinds.Array set h = tt
remembers_none kinds.List set h = tt

-- An exact answer is an answer.
pub exactly_gives : {X Y : Type 0} (view : X → Y) (r : Result X TlvFault) (read : Result Y TlvFault) → Exactly view r read → Gives view r read
exactly_gives view (Ok x) read e = e
exactly_gives view (Err d) read e = λ ne. e
