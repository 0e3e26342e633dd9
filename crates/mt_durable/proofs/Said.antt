-- The bytes of a change are read, and what is read has these bytes.
use Rattle.std.proofs.Common.{◌≡◌, ℕ, true, false, List, [], ◌∷◌, ◌++◌, refl, sym, ap, subst, ◌∙◌, ⊎_elim, arith, append-nil, take, drop}
use Rattle.std.specs.Prelude.{IfOk, Option, Some, None, Result, Ok, Err, ◌&&◌}
use Rattle.std.proofs.lemmas.Bool.{and_parts, cases_Bool}
use Rattle.std.proofs.lemmas.List.{take-append-drop}
use Rattle.std.proofs.lemmas.Bool.Decides.{nat_tests}
use Rattle.mt_tlv.specs.Limits.{IsElement}
use Rattle.mt_tlv.specs.Narrow.{narrow}
use Rattle.mt_tlv.specs.Reading.{element_at}
use Rattle.mt_tlv.specs.Scalars.{octets_in}
use Rattle.mt_tlv.specs.Tree.{Tree, int, uint, bool, text, octets, null, bits32, bits64, structure, array, list, Elements, none, more}
use Rattle.mt_tlv.specs.View.{tree, value_of}
use Rattle.mt_tlv.specs.declared.fault.TlvFault.{TlvFault}
use Rattle.mt_tlv.specs.declared.value.Tag.{Tag}
use Rattle.mt_tlv.specs.declared.value.Tag.TheVariants.{Anonymous, Context, Common, Implicit, Full}
use Rattle.mt_tlv.specs.declared.value.Value.{Value}
use Rattle.mt_tlv.specs.declared.value.Value.TheVariants as values
use Rattle.mt_durable.specs.Changes.{change_bytes, entry_tree, entry_trees}
use Rattle.mt_durable.specs.Keys.{is_same}
use Rattle.mt_durable.specs.Maps.{keys_ascend}
use Rattle.mt_durable.specs.Reading.{change_at, change_in, entries_in, entries_of, entry_in, entry_of, entry_with, if_ascending, in_front, is_empty, is_field, Says}
use Rattle.mt_durable.specs.Readings.{Gives}
use Rattle.mt_durable.specs.declared.durable.Entry.{Entry}
use Rattle.mt_durable.specs.declared.reading.ChangeFault.{ChangeFault}
use Rattle.mt_durable.specs.declared.reading.ChangeFault.TheVariants.{NotAChange, Memory}
use Rattle.mt_durable.proofs.Keys.{same_is, same_itself}

-- a tree is that of its value
tree_of_value : (t : Tree) → tree (value_of t) ≡ t
tree_of_value (int z) = refl
tree_of_value (uint n) = refl
tree_of_value (bool b) = refl
tree_of_value (text s) = refl
tree_of_value (octets s) = refl
tree_of_value null = refl
tree_of_value (bits32 n) = refl
tree_of_value (bits64 n) = refl
tree_of_value (structure es) = refl
tree_of_value (array es) = refl
tree_of_value (list es) = refl

field_is : (number : ℕ) (tag : Tag) → is_field number tag ≡ true → tag ≡ Context number
field_is number Anonymous is = absurd (grind (arith, is))
field_is number (Context n) is = ap Context (grind (arith, nat_tests, is))
field_is number (Common n) is = absurd (grind (arith, is))
field_is number (Implicit n) is = absurd (grind (arith, is))
field_is number (Full v p n) is = absurd (grind (arith, is))

octets_are : (t : Tree) (s : List ℕ) → octets_in t ≡ Some s → t ≡ octets s
octets_are (int z) s is = absurd (grind (arith, is))
octets_are (uint n) s is = absurd (grind (arith, is))
octets_are (bool b) s is = absurd (grind (arith, is))
octets_are (text x) s is = absurd (grind (arith, is))
octets_are (octets x) s is = grind (arith, is)
octets_are null s is = absurd (grind (arith, is))
octets_are (bits32 n) s is = absurd (grind (arith, is))
octets_are (bits64 n) s is = absurd (grind (arith, is))
octets_are (structure es) s is = absurd (grind (arith, is))
octets_are (array es) s is = absurd (grind (arith, is))
octets_are (list es) s is = absurd (grind (arith, is))

-- what is read of a structure has its fields
with_key : (t : Tree) (key : Option (List ℕ)) (fields : Elements) (entry : Entry) → octets_in t ≡ key → entry_with key fields ≡ Some entry → structure (more (Context 0) t fields) ≡ entry_tree entry
with_key t None fields entry k is = absurd (grind (arith, is))
with_key t (Some key) none entry k is =
    let e : entry ≡ record { key = key; value = None } = grind (arith, is) in
    ap (λ (o : Tree). structure (more (Context 0) o none)) (octets_are t key k) ∙ sym (ap entry_tree e)
with_key t (Some key) (more tag v none) entry k is = ⊎_elim
    (λ (one : is_field 1 tag ≡ true).
    (let e : entry ≡ record { key = key; value = Some (value_of v) } = grind (arith, is, one) in
    ap (λ (o : Tree). structure (more (Context 0) o (more tag v none))) (octets_are t key k)
    ∙ ap (λ (g : Tag). structure (more (Context 0) (octets key) (more g v none))) (field_is 1 tag one)
    ∙ ap (λ (w : Tree). structure (more (Context 0) (octets key) (more (Context 1) w none))) (sym (tree_of_value v))
    ∙ sym (ap entry_tree e)))
    (λ (other : is_field 1 tag ≡ false). absurd (grind (arith, is, other)))
    (cases_Bool (is_field 1 tag))
with_key t (Some key) (more tag v (more next other fields)) entry k is = absurd (grind (arith, is))

fields_are : (fields : Elements) (entry : Entry) → entry_in fields ≡ Some entry → structure fields ≡ entry_tree entry
fields_are none entry is = absurd (grind (arith, is))
fields_are (more tag t fields) entry is = ⊎_elim
    (λ (zero : is_field 0 tag ≡ true).
    (let with : entry_with (octets_in t) fields ≡ Some entry = grind (arith, is, zero) in
    ap (λ (g : Tag). structure (more g t fields)) (field_is 0 tag zero) ∙ with_key t (octets_in t) fields entry refl with))
    (λ (other : is_field 0 tag ≡ false). absurd (grind (arith, is, other)))
    (cases_Bool (is_field 0 tag))

entry_is : (tag : Tag) (t : Tree) (entry : Entry) → entry_of tag t ≡ Some entry → (tag ≡ Anonymous) × (t ≡ entry_tree entry)
entry_is Anonymous (structure fields) entry is = (refl, fields_are fields entry is)
entry_is Anonymous (int z) entry is = absurd (grind (arith, is))
entry_is Anonymous (uint n) entry is = absurd (grind (arith, is))
entry_is Anonymous (bool b) entry is = absurd (grind (arith, is))
entry_is Anonymous (text x) entry is = absurd (grind (arith, is))
entry_is Anonymous (octets x) entry is = absurd (grind (arith, is))
entry_is Anonymous null entry is = absurd (grind (arith, is))
entry_is Anonymous (bits32 n) entry is = absurd (grind (arith, is))
entry_is Anonymous (bits64 n) entry is = absurd (grind (arith, is))
entry_is Anonymous (array es) entry is = absurd (grind (arith, is))
entry_is Anonymous (list es) entry is = absurd (grind (arith, is))
entry_is (Context n) t entry is = absurd (grind (arith, is))
entry_is (Common n) t entry is = absurd (grind (arith, is))
entry_is (Implicit n) t entry is = absurd (grind (arith, is))
entry_is (Full v p n) t entry is = absurd (grind (arith, is))

in_front_is : (first : Option Entry) (rest : Option (List Entry)) (entries : List Entry) → in_front first rest ≡ Some entries
    → (entry : Entry) × (others : List Entry) × (first ≡ Some entry) × (rest ≡ Some others) × (entries ≡ entry ∷ others)
in_front_is None rest entries is = absurd (grind (arith, is))
in_front_is (Some entry) None entries is = absurd (grind (arith, is))
in_front_is (Some entry) (Some others) entries is = (entry, others, refl, refl, grind (arith, is))

members_are : (members : Elements) (entries : List Entry) → entries_in members ≡ Some entries → members ≡ entry_trees entries
members_are none entries is =
    let e : entries ≡ [] = grind (arith, is) in
    sym (ap entry_trees e)
members_are (more tag t members) entries is =
    let parts = in_front_is (entry_of tag t) (entries_in members) entries is in
    let head = entry_is tag t parts.0 parts.2 in
    ap (λ (g : Tag). more g t members) head.0
    ∙ ap (λ (u : Tree). more Anonymous u members) head.1
    ∙ ap (λ (es : Elements). more Anonymous (entry_tree parts.0) es) (members_are members parts.1 parts.3)
    ∙ sym (ap entry_trees parts.4)

array_is : (tag : Tag) (t : Tree) (entries : List Entry) → entries_of tag t ≡ Some entries → (tag ≡ Anonymous) × (t ≡ array (entry_trees entries))
array_is Anonymous (array members) entries is = (refl, ap array (members_are members entries is))
array_is Anonymous (int z) entries is = absurd (grind (arith, is))
array_is Anonymous (uint n) entries is = absurd (grind (arith, is))
array_is Anonymous (bool b) entries is = absurd (grind (arith, is))
array_is Anonymous (text x) entries is = absurd (grind (arith, is))
array_is Anonymous (octets x) entries is = absurd (grind (arith, is))
array_is Anonymous null entries is = absurd (grind (arith, is))
array_is Anonymous (bits32 n) entries is = absurd (grind (arith, is))
array_is Anonymous (bits64 n) entries is = absurd (grind (arith, is))
array_is Anonymous (structure es) entries is = absurd (grind (arith, is))
array_is Anonymous (list es) entries is = absurd (grind (arith, is))
array_is (Context n) t entries is = absurd (grind (arith, is))
array_is (Common n) t entries is = absurd (grind (arith, is))
array_is (Implicit n) t entries is = absurd (grind (arith, is))
array_is (Full v p n) t entries is = absurd (grind (arith, is))

ascending_is : (said : Option (List Entry)) (entries : List Entry) → if_ascending said ≡ Some entries → (said ≡ Some entries) × (keys_ascend entries ≡ true)
ascending_is None entries is = absurd (grind (arith, is))
ascending_is (Some all) entries is = ⊎_elim
    (λ (up : keys_ascend all ≡ true).
    (let e : all ≡ entries = grind (arith, is, up) in
    (ap Some e, sym (ap keys_ascend e) ∙ up)))
    (λ (not : keys_ascend all ≡ false). absurd (grind (arith, is, not)))
    (cases_Bool (keys_ascend all))

empty_is : (rest : List ℕ) → is_empty rest ≡ true → rest ≡ []
empty_is [] is = refl
empty_is (b ∷ rest) is = absurd (grind (arith, is))

take_whole : (count : ℕ) (bytes : List ℕ) → drop count bytes ≡ [] → take count bytes ≡ bytes
take_whole count bytes nothing = sym (append-nil (take count bytes)) ∙ ap (λ (l : List ℕ). take count bytes ++ l) (sym nothing) ∙ take-append-drop count bytes

-- what was read in the narrow encoding, with nothing behind it
pub change_is : (bytes : List ℕ) (read : (Tag × Tree) × List ℕ) (entries : List Entry) → change_in bytes (Ok read) ≡ Some entries
    → (read.1 ≡ []) × (narrow read.0.0 read.0.1 ≡ bytes) × (read.0.0 ≡ Anonymous) × (read.0.1 ≡ array (entry_trees entries)) × (keys_ascend entries ≡ true)
change_is bytes read entries is = ⊎_elim
    (λ (all : (is_empty read.1 && is_same (narrow read.0.0 read.0.1) bytes) ≡ true).
    (let up : if_ascending (entries_of read.0.0 read.0.1) ≡ Some entries = grind (arith, is, all) in
    let both = and_parts (is_empty read.1) (is_same (narrow read.0.0 read.0.1) bytes) all in
    let said = ascending_is (entries_of read.0.0 read.0.1) entries up in
    let are = array_is read.0.0 read.0.1 entries said.0 in
    (empty_is read.1 both.0, same_is (narrow read.0.0 read.0.1) bytes both.1, are.0, are.1, said.1)))
    (λ (not : (is_empty read.1 && is_same (narrow read.0.0 read.0.1) bytes) ≡ false). absurd (grind (arith, is, not)))
    (cases_Bool (is_empty read.1 && is_same (narrow read.0.0 read.0.1) bytes))

said_by : (bytes : List ℕ) (read : Result ((Tag × Tree) × List ℕ) TlvFault) (entries : List Entry) → change_in bytes read ≡ Some entries → (bytes ≡ change_bytes entries) × (keys_ascend entries ≡ true)
said_by bytes (Err fault) entries is = absurd (grind (arith, is))
said_by bytes (Ok read) entries is =
    let are = change_is bytes read entries is in
    (sym are.1 ∙ ap (λ (t : Tag). narrow t read.0.1) are.2 ∙ ap (λ (t : Tree). narrow Anonymous t) are.3, are.4)

pub said_alone : (bytes : List ℕ) (entries : List Entry) → change_at bytes ≡ Some entries → (bytes ≡ change_bytes entries) × (keys_ascend entries ≡ true)
said_alone bytes entries is = said_by bytes (element_at bytes) entries is

-- a value is that of its tree
value_of_tree : (v : Value) → value_of (tree v) ≡ v
value_of_tree (values.Int z) = refl
value_of_tree (values.Uint n) = refl
value_of_tree (values.Bool b) = refl
value_of_tree (values.Text s) = refl
value_of_tree (values.Octets s) = refl
value_of_tree values.Null = refl
value_of_tree (values.Bits32 n) = refl
value_of_tree (values.Bits64 n) = refl
value_of_tree (values.Struct es) = refl
value_of_tree (values.Array es) = refl
value_of_tree (values.List es) = refl

-- what is written is read
entry_again : (key : List ℕ) (value : Option Value) → entry_of Anonymous (entry_tree (record { key = key; value = value })) ≡ Some (record { key = key; value = value })
entry_again key None = refl
entry_again key (Some v) = ap (λ (w : Value). Some (record { key = key; value = Some w })) (value_of_tree v)

entries_again : (entries : List Entry) → entries_in (entry_trees entries) ≡ Some entries
entries_again [] = refl
entries_again (entry ∷ entries) = rw (entry_again entry.key entry.value) (rw (entries_again entries) refl)

pub read_again : (entries : List Entry) → keys_ascend entries ≡ true → element_at (change_bytes entries ++ []) ≡ Ok ((Anonymous, array (entry_trees entries)), []) → change_at (change_bytes entries) ≡ Some entries
read_again entries up read =
    let there : element_at (change_bytes entries) ≡ Ok ((Anonymous, array (entry_trees entries)), []) = ap element_at (sym (append-nil (change_bytes entries))) ∙ read in
    rw there (rw (same_itself (change_bytes entries)) (rw (entries_again entries) (rw up refl)))

pub says_read : ((tag : Tag) (v : Tree) (bytes rest : List ℕ) → IsElement tag v bytes → element_at (bytes ++ rest) ≡ Ok ((tag, v), rest))
    → (entries : List Entry) (bytes : List ℕ) → Says entries bytes → change_at bytes ≡ Some entries
says_read is_read entries bytes says =
    ap change_at says.narrow ∙ read_again entries says.ascend
    (subst (λ (b : List ℕ). element_at (b ++ []) ≡ Ok ((Anonymous, array (entry_trees entries)), [])) says.narrow (is_read Anonymous (array (entry_trees entries)) bytes [] says.element))

-- an element of which this was read
pub element_of : (bytes : List ℕ) (tag : Tag) (t : Tree) (count : ℕ) (entries : List Entry) → IsElement tag t (take count bytes)
    → change_in bytes (Ok ((tag, t), drop count bytes)) ≡ Some entries → IsElement Anonymous (array (entry_trees entries)) bytes
element_of bytes tag t count entries element is =
    let are = change_is bytes ((tag, t), drop count bytes) entries is in
    let all : take count bytes ≡ bytes = take_whole count bytes are.0 in
    subst (λ (b : List ℕ). IsElement Anonymous (array (entry_trees entries)) b) all
    (subst (λ (u : Tree). IsElement Anonymous u (take count bytes)) are.3 (subst (λ (g : Tag). IsElement g t (take count bytes)) are.2 element))

pub gives_element : (bytes : List ℕ) (tag : Tag) (t : Tree) (count : ℕ) (result : Result (List Entry) ChangeFault) → IsElement tag t (take count bytes)
    → Gives (λ (x : List Entry). x) result (change_in bytes (Ok ((tag, t), drop count bytes))) → IfOk result (λ change. IsElement Anonymous (array (entry_trees change)) bytes)
gives_element bytes tag t count (Ok change) element gives = element_of bytes tag t count change element gives
gives_element bytes tag t count (Err NotAChange) element gives = tt
gives_element bytes tag t count (Err Memory) element gives = tt

-- entries that were read, and those of further members
abbrev pub with_those : List Entry → Option (List Entry) → Option (List Entry)
with_those [] rest = rest
with_those (entry ∷ entries) rest = in_front (Some entry) (with_those entries rest)

pub one_more_read : (entries : List Entry) (entry : Entry) (rest : Option (List Entry)) → with_those (entries ++ entry ∷ []) rest ≡ with_those entries (in_front (Some entry) rest)
one_more_read [] entry rest = refl
one_more_read (first ∷ entries) entry rest = ap (λ o. in_front (Some first) o) (one_more_read entries entry rest)

pub none_with : (entries : List Entry) → with_those entries None ≡ None
none_with [] = refl
none_with (first ∷ entries) = ap (λ o. in_front (Some first) o) (none_with entries)

pub all_with : (entries : List Entry) → with_those entries (Some []) ≡ Some entries
all_with [] = refl
all_with (first ∷ entries) = ap (λ o. in_front (Some first) o) (all_with entries)
