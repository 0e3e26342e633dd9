-- The entry in front of the bytes of entries, and a change merged entry by entry.
use Rattle.std.proofs.Common.{◌≡◌, ℕ, zero, suc, ◌+◌, ◌≤◌, Bool, true, false, List, [], ◌∷◌, ◌++◌, length, take, drop, refl, sym, ap, ◌∙◌, subst, ⊎_elim, append_assoc, arith}
use Rattle.std.specs.Prelude.{if◌then◌else◌, Option, Some, None}
use Rattle.std.proofs.lemmas.Bool.{and_parts, cases_Bool}
use Rattle.std.proofs.lemmas.List.{length-append}
use Rattle.mt_tlv.specs.Limits.{AreAllowed, IsAllowed, IsElement, IsTag, deepest, longest}
use Rattle.mt_tlv.specs.Narrow.{narrow}
use Rattle.mt_tlv.specs.Tree.{Tree, int, uint, bool, text, octets, null, bits32, bits64, structure, array, list, Elements, none, more}
use Rattle.mt_tlv.specs.declared.reading.Kind.{Kind}
use Rattle.mt_tlv.specs.declared.reading.Kind.TheVariants as kinds
use Rattle.mt_tlv.specs.declared.value.Tag.{Tag}
use Rattle.mt_tlv.specs.declared.value.Tag.TheVariants.{Anonymous}
use Rattle.mt_durable.specs.Changes.{change_bytes, entry_tree, entry_trees}
use Rattle.mt_durable.specs.Fronts.{AreEntries, bytes_if, bytes_to_end, entries_bytes, entries_said, entry_bytes, IsFront, IsKeyInFront, IsSplit, lower_bytes}
use Rattle.mt_durable.specs.Lengths.{Begins}
use Rattle.mt_durable.specs.declared.image.Front.{Front}
use Rattle.mt_durable.specs.Keys.{is_before, is_same}
use Rattle.mt_durable.specs.Keeping.{IsChange}
use Rattle.mt_durable.specs.Maps.{ascend_above, has_value, keys_ascend}
use Rattle.mt_durable.specs.Reading.{Says, change_at, entries_or_none, said}
use Rattle.mt_durable.specs.Setting.{count_before, in_front, with_all, with_entry, without}
use Rattle.mt_durable.specs.declared.durable.Entry.{Entry}
use Rattle.mt_durable.proofs.Allowed.{all_allowed, each_allowed}
use Rattle.mt_durable.proofs.Merging.{above_lower, ascend_rest}

-- An entry before all keys of a change stays in front.
pub stays_in_front : (one : Entry) (change rest : List Entry) → ascend_above one.key change ≡ true → with_all change (one ∷ rest) ≡ one ∷ with_all change rest
stays_in_front one [] rest up = refl
stays_in_front one (entry ∷ change) rest up =
    let both = and_parts (is_before one.key entry.key) (ascend_above entry.key change) up in
    rw both.0 (stays_in_front one change (with_entry entry rest) (above_lower one.key entry.key change both.0 both.1))

-- so does an entry of the change, if it has a value
front_out : (entry : Entry) (change rest : List Entry) → ascend_above entry.key change ≡ true → with_all change (in_front entry rest) ≡ in_front entry (with_all change rest)
front_out entry change rest up = ⊎_elim
    (λ (has : has_value entry.value ≡ true). rw has (stays_in_front entry change rest up))
    (λ (has : has_value entry.value ≡ false). rw has refl)
    (cases_Bool (has_value entry.value))

-- A change entry by entry: what stands before its key, the entry, and the rest of the change in what stands behind.
with_change : (entry : Entry) (change map : List Entry) → ascend_above entry.key change ≡ true
    → with_all (entry ∷ change) map ≡ take (count_before entry.key map) map ++ in_front entry (with_all change (without entry.key (drop (count_before entry.key map) map)))
with_change entry change [] up = front_out entry change [] up
with_change entry change (one ∷ rest) up = ⊎_elim
    (λ (is : is_before one.key entry.key ≡ true). rw is (stays_in_front one change (with_entry entry rest) (above_lower one.key entry.key change is up) ∙ ap (λ (l : List Entry). one ∷ l) (with_change entry change rest up)))
    (λ (is : is_before one.key entry.key ≡ false). rw is (front_out entry change (without entry.key (one ∷ rest)) up))
    (cases_Bool (is_before one.key entry.key))

pub bytes_append : (some others : List Entry) → entries_bytes (some ++ others) ≡ entries_bytes some ++ entries_bytes others
bytes_append [] others = refl
bytes_append (entry ∷ some) others = ap (λ (l : List ℕ). entry_bytes entry ++ l) (bytes_append some others) ∙ sym (append_assoc (entry_bytes entry) (entries_bytes some) (entries_bytes others))

front_bytes : (entry : Entry) (rest : List Entry) → entries_bytes (in_front entry rest) ≡ bytes_if (has_value entry.value) (entry_bytes entry) ++ entries_bytes rest
front_bytes entry rest = ⊎_elim
    (λ (has : has_value entry.value ≡ true). rw has refl)
    (λ (has : has_value entry.value ≡ false). rw has refl)
    (cases_Bool (has_value entry.value))

-- the same as bytes
pub merged_bytes : (entry : Entry) (change map : List Entry) → ascend_above entry.key change ≡ true
    → bytes_to_end (with_all (entry ∷ change) map) ≡ (lower_bytes entry.key map ++ bytes_if (has_value entry.value) (entry_bytes entry)) ++ bytes_to_end (with_all change (without entry.key (drop (count_before entry.key map) map)))
merged_bytes entry change map up =
    let lower = take (count_before entry.key map) map in
    let after = with_all change (without entry.key (drop (count_before entry.key map) map)) in
    let own = bytes_if (has_value entry.value) (entry_bytes entry) in
    ap bytes_to_end (with_change entry change map up)
    ∙ ap (λ (l : List ℕ). l ++ 24 ∷ []) (bytes_append lower (in_front entry after) ∙ ap (λ (l : List ℕ). entries_bytes lower ++ l) (front_bytes entry after) ∙ sym (append_assoc (entries_bytes lower) own (entries_bytes after)))
    ∙ append_assoc (entries_bytes lower ++ own) (entries_bytes after) (24 ∷ [])

-- What may be inside so many containers may be inside fewer.
mutual
  deeper : (v : Tree) (room : ℕ) → IsAllowed v room → IsAllowed v (suc room)
  deeper (int z) room is = is
  deeper (uint n) room is = is
  deeper (bool b) room is = is
  deeper (text s) room is = is
  deeper (octets s) room is = is
  deeper null room is = is
  deeper (bits32 n) room is = is
  deeper (bits64 n) room is = is
  deeper (structure es) zero is = absurd is
  deeper (structure es) (suc room) is = all_deeper es kinds.Struct [] room is
  deeper (array es) zero is = absurd is
  deeper (array es) (suc room) is = all_deeper es kinds.Array [] room is
  deeper (list es) zero is = absurd is
  deeper (list es) (suc room) is = all_deeper es kinds.List [] room is

  all_deeper : (es : Elements) (kind : Kind) (tags : List Tag) (room : ℕ) → AreAllowed es kind tags room → AreAllowed es kind tags (suc room)
  all_deeper none kind tags room are = tt
  all_deeper (more tag v es) kind tags room are = (are.0, are.1, deeper v room are.2, all_deeper es kind (tags ++ tag ∷ []) room are.3)

-- the bytes behind the first of those of a change
pub behind_first : (entries : List Entry) (first : ℕ) (bytes : List ℕ) → first ∷ bytes ≡ change_bytes entries → bytes ≡ bytes_to_end entries
behind_first entries first bytes is = ap (λ (l : List ℕ). drop 1 l) is

-- What is known of the entry in front.
pub record Fronted (entry : Entry) (entries : List Entry) (bytes : List ℕ) : Type 0 where
  pub is : bytes ≡ entry_bytes entry ++ bytes_to_end entries
  pub element : IsElement Anonymous (entry_tree entry) (entry_bytes entry)
  pub says : Says entries (22 ∷ bytes_to_end entries)
  pub above : ascend_above entry.key entries ≡ true

module _ (is_element : (tag : Tag) (v : Tree) → IsTag tag → IsAllowed v deepest → length (narrow tag v) ≤ longest → IsElement tag v (narrow tag v)) where
  pub fronted : (entry : Entry) (entries : List Entry) (bytes : List ℕ) → Says (entry ∷ entries) (22 ∷ bytes) → Fronted entry entries bytes
  fronted entry entries bytes says =
      let is : bytes ≡ entry_bytes entry ++ bytes_to_end entries = behind_first (entry ∷ entries) 22 bytes says.narrow ∙ append_assoc (entry_bytes entry) (entries_bytes entries) (24 ∷ []) in
      let allowed = says.element.allowed in
      let size : length bytes ≡ length (entry_bytes entry) + length (bytes_to_end entries) = ap length is ∙ length-append (entry_bytes entry) (bytes_to_end entries) in
      let small : length (entry_bytes entry) ≤ 65535 = omega (arith, size, says.element.short) in
      let some : 1 ≤ length (entry_bytes entry) = omega arith in
      let rest : length (22 ∷ bytes_to_end entries) ≤ 65535 = omega (arith, size, some, says.element.short) in
      let others : IsAllowed (array (entry_trees entries)) deepest = all_allowed entries [] (each_allowed entries ([] ++ Anonymous ∷ []) allowed.3) in
      record {
        is = is;
        element = is_element Anonymous (entry_tree entry) tt (deeper (entry_tree entry) 15 allowed.2) small;
        says = record { ascend = ascend_rest entry.key entries says.ascend; element = is_element Anonymous (array (entry_trees entries)) tt others rest; narrow = refl };
        above = says.ascend;
      }

module _ (read : (entries : List Entry) (bytes : List ℕ) → Says entries bytes → change_at bytes ≡ Some entries) where
  pub said_is : (entries : List Entry) (bytes : List ℕ) → Says entries bytes → said bytes ≡ entries
  said_is entries bytes says = ap entries_or_none (read entries bytes says)

  pub says_said : (bytes : List ℕ) → IsChange bytes → Says (said bytes) bytes
  says_said bytes is = subst (λ (es : List Entry). Says es bytes) (sym (said_is is.0 bytes is.1)) is.1

-- Bytes of entries that are not at their end.
pub record HasFront (bytes : List ℕ) : Type 0 where
  pub entry : Entry
  pub entries : List Entry
  pub known : Fronted entry entries bytes
  pub said : entries_said bytes ≡ entry ∷ entries

abbrev pub front_begins : (bytes : List ℕ) → HasFront bytes → Begins bytes
front_begins bytes has = record { tag = Anonymous; tree = entry_tree has.entry; rest = bytes_to_end has.entries; element = has.known.element; is = has.known.is }

abbrev first_or_zero : List ℕ → ℕ
first_or_zero [] = 0
first_or_zero (x ∷ xs) = x

-- what is at its end are no entries
no_entries : (entries : List Entry) (bytes : List ℕ) → bytes ≡ 24 ∷ [] → Says entries (22 ∷ bytes) → entries ≡ []
no_entries [] bytes at_end says = refl
no_entries (entry ∷ entries) bytes at_end says =
    let same : 24 ≡ 21 = ap first_or_zero (sym at_end ∙ behind_first (entry ∷ entries) 22 bytes says.narrow) in
    absurd (omega (arith, same))

module _ (read : (entries : List Entry) (bytes : List ℕ) → Says entries bytes → change_at bytes ≡ Some entries) where
  by_entries : ((tag : Tag) (v : Tree) → IsTag tag → IsAllowed v deepest → length (narrow tag v) ≤ longest → IsElement tag v (narrow tag v))
      → (entries : List Entry) (bytes : List ℕ) → entries_said bytes ≡ entries → Says entries (22 ∷ bytes) → (bytes ≡ 24 ∷ [] → ⊥) → HasFront bytes
  by_entries is_element [] bytes same says goes_on = absurd (goes_on (behind_first [] 22 bytes says.narrow))
  by_entries is_element (entry ∷ entries) bytes same says goes_on = record { entry = entry; entries = entries; known = fronted is_element entry entries bytes says; said = same }

  pub has_front : ((tag : Tag) (v : Tree) → IsTag tag → IsAllowed v deepest → length (narrow tag v) ≤ longest → IsElement tag v (narrow tag v))
      → (bytes : List ℕ) → AreEntries bytes → (bytes ≡ 24 ∷ [] → ⊥) → HasFront bytes
  has_front is_element bytes are goes_on = by_entries is_element (entries_said bytes) bytes refl (says_said read (22 ∷ bytes) are) goes_on

  pub is_front : (bytes : List ℕ) (has : HasFront bytes) (front : Front) → front.key.now ≡ has.entry.key → front.has_value ≡ has_value has.entry.value → front.bytes.now ≡ entry_bytes has.entry → front.rest.now ≡ bytes_to_end has.entries
      → IsFront (entries_said bytes) (Some front)
  is_front bytes has front key value own rest =
      let says : Says has.entries (22 ∷ front.rest.now) = subst (λ (b : List ℕ). Says has.entries (22 ∷ b)) (sym rest) has.known.says in
      subst (λ (es : List Entry). IsFront es (Some front)) (sym has.said) (key, value, own, (has.entries, says), said_is read has.entries (22 ∷ front.rest.now) says)

  -- the key of the entry in front, and its bytes cut off
  pub is_key : (bytes : List ℕ) (has : HasFront bytes) (key : Option (List ℕ)) → key ≡ Some has.entry.key → IsKeyInFront (entries_said bytes) key
  is_key bytes has key is = subst (λ (k : Option (List ℕ)). IsKeyInFront (entries_said bytes) k) (sym is) (subst (λ (es : List Entry). IsKeyInFront es (Some has.entry.key)) (sym has.said) refl)

  pub is_split : (bytes : List ℕ) (has : HasFront bytes) (own rest : List ℕ) → own ≡ entry_bytes has.entry → rest ≡ bytes_to_end has.entries → IsSplit (entries_said bytes) own rest
  is_split bytes has own rest same left =
      let says : Says has.entries (22 ∷ rest) = subst (λ (b : List ℕ). Says has.entries (22 ∷ b)) (sym left) has.known.says in
      subst (λ (es : List Entry). IsSplit es own rest) (sym has.said) (same, (has.entries, says), said_is read has.entries (22 ∷ rest) says)

  -- entries that are some are not at their end
  pub goes_on : (bytes : List ℕ) → AreEntries bytes → (entries_said bytes ≡ [] → ⊥) → bytes ≡ 24 ∷ [] → ⊥
  goes_on bytes are some at_end =
      let says : Says (entries_said bytes) (22 ∷ bytes) = says_said read (22 ∷ bytes) are in
      some (no_entries (entries_said bytes) bytes at_end says)

-- The key of the entry in front, its bytes, and the entries before a key.
pub lower_none : (key : List ℕ) (entries : List Entry) (first : List ℕ) → IsKeyInFront entries (Some first) → is_before first key ≡ false → lower_bytes key entries ≡ []
lower_none key [] first is not_before = absurd is
lower_none key (entry ∷ entries) first is not_before =
    let here : is_before entry.key key ≡ false = ap (λ (k : List ℕ). is_before k key) (sym is) ∙ not_before in
    ap (λ (b : Bool). entries_bytes (take (if b then suc (count_before key entries) else 0) (entry ∷ entries))) here

pub lower_more : (key : List ℕ) (entries : List Entry) (first bytes rest : List ℕ) → IsKeyInFront entries (Some first) → IsSplit entries bytes rest → is_before first key ≡ true
    → lower_bytes key entries ≡ bytes ++ lower_bytes key (entries_said rest)
lower_more key [] first bytes rest is split before = absurd is
lower_more key (entry ∷ entries) first bytes rest is split before =
    let here : is_before entry.key key ≡ true = ap (λ (k : List ℕ). is_before k key) (sym is) ∙ before in
    ap (λ (b : Bool). entries_bytes (take (if b then suc (count_before key entries) else 0) (entry ∷ entries))) here
    ∙ ap (λ (l : List ℕ). l ++ lower_bytes key entries) (sym split.0)
    ∙ ap (λ (l : List Entry). bytes ++ lower_bytes key l) (sym split.2)

pub lower_left : (key : List ℕ) (entries : List Entry) (first bytes rest : List ℕ) → IsKeyInFront entries (Some first) → IsSplit entries bytes rest → is_before first key ≡ true
    → drop (count_before key (entries_said rest)) (entries_said rest) ≡ drop (count_before key entries) entries
lower_left key [] first bytes rest is split before = absurd is
lower_left key (entry ∷ entries) first bytes rest is split before =
    let here : is_before entry.key key ≡ true = ap (λ (k : List ℕ). is_before k key) (sym is) ∙ before in
    ap (λ (l : List Entry). drop (count_before key l) l) split.2
    ∙ sym (ap (λ (b : Bool). drop (if b then suc (count_before key entries) else 0) (entry ∷ entries)) here)

pub no_key_in_front : (entries : List Entry) → IsKeyInFront entries None → entries ≡ []
no_key_in_front [] is = refl
no_key_in_front (entry ∷ entries) is = absurd is

pub some_in_front : (entries : List Entry) (first : List ℕ) → IsKeyInFront entries (Some first) → entries ≡ [] → ⊥
some_in_front [] first is empty = is
some_in_front (entry ∷ entries) first is empty = omega (arith, ap length empty)

pub entries_split : (entries : List Entry) (bytes rest : List ℕ) → IsSplit entries bytes rest → AreEntries rest
entries_split [] bytes rest is = absurd is
entries_split (entry ∷ entries) bytes rest is = is.1

pub fewer_split : (entries : List Entry) (bytes rest : List ℕ) → IsSplit entries bytes rest → suc (length (entries_said rest)) ≡ length entries
fewer_split [] bytes rest is = absurd is
fewer_split (entry ∷ entries) bytes rest is = ap (λ (l : List Entry). suc (length l)) is.2

-- the entry in front is passed over where it has this key
pub passed : (key : List ℕ) (entries : List Entry) (first bytes rest : List ℕ) → IsKeyInFront entries (Some first) → IsSplit entries bytes rest → is_same key first ≡ true → entries_said rest ≡ without key entries
passed key [] first bytes rest is split same = absurd is
passed key (entry ∷ entries) first bytes rest is split same =
    let here : is_same key entry.key ≡ true = ap (λ (k : List ℕ). is_same key k) (sym is) ∙ same in
    split.2 ∙ sym (ap (λ (b : Bool). if b then entries else entry ∷ entries) here)

pub none_in_front : (entries : List Entry) → IsFront entries None → entries ≡ []
none_in_front [] is = refl
none_in_front (entry ∷ entries) is = absurd is

pub entries_behind : (entries : List Entry) (front : Front) → IsFront entries (Some front) → AreEntries front.rest.now
entries_behind [] front is = absurd is
entries_behind (entry ∷ entries) front is = is.3

pub fewer : (entries : List Entry) (front : Front) → IsFront entries (Some front) → suc (length (entries_said front.rest.now)) ≡ length entries
fewer [] front is = absurd is
fewer (entry ∷ entries) front is = ap (λ (l : List Entry). suc (length l)) is.4

-- the entry in front of a change, merged
pub merged_front : (entries map : List Entry) (front : Front) → IsFront entries (Some front) → keys_ascend entries ≡ true
    → bytes_to_end (with_all entries map) ≡ (lower_bytes front.key.now map ++ bytes_if front.has_value front.bytes.now) ++ bytes_to_end (with_all (entries_said front.rest.now) (without front.key.now (drop (count_before front.key.now map) map)))
merged_front [] map front is up = absurd is
merged_front (entry ∷ entries) map front is up =
    merged_bytes entry entries map up
    ∙ ap (λ (k : List ℕ). (lower_bytes k map ++ bytes_if (has_value entry.value) (entry_bytes entry)) ++ bytes_to_end (with_all entries (without k (drop (count_before k map) map)))) (sym is.0)
    ∙ ap (λ (b : Bool). (lower_bytes front.key.now map ++ bytes_if b (entry_bytes entry)) ++ bytes_to_end (with_all entries (without front.key.now (drop (count_before front.key.now map) map)))) (sym is.1)
    ∙ ap (λ (l : List ℕ). (lower_bytes front.key.now map ++ bytes_if front.has_value l) ++ bytes_to_end (with_all entries (without front.key.now (drop (count_before front.key.now map) map)))) (sym is.2)
    ∙ ap (λ (l : List Entry). (lower_bytes front.key.now map ++ bytes_if front.has_value front.bytes.now) ++ bytes_to_end (with_all l (without front.key.now (drop (count_before front.key.now map) map)))) (sym is.4)
