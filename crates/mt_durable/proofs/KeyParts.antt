-- The first parts of an entry: the front of a structure, the key, and the value or the end.
use Rattle.std.proofs.Common.{◌≡◌, ℕ, false, not, List, [], ◌∷◌, ◌++◌, length, Ok, refl, sym, ap, ◌∙◌, subst}
use Rattle.std.specs.Prelude.{Option, Some, None}
use Rattle.mt_tlv.specs.Limits.{IsElement}
use Rattle.mt_tlv.specs.Parts.{Piece, Place, enter, leave, next_at, scalar, start}
use Rattle.mt_tlv.specs.Parts as parts
use Rattle.mt_tlv.specs.Runs.{Comes, behind, parts_inside, parts_of}
use Rattle.mt_tlv.specs.Tree.{Tree, int, uint, bool, text, octets, null, bits32, bits64, structure, array, list}
use Rattle.mt_tlv.specs.View.{tree}
use Rattle.mt_tlv.specs.declared.value.Tag.{Tag}
use Rattle.mt_tlv.specs.declared.value.Tag.TheVariants.{Anonymous, Context}
use Rattle.mt_tlv.specs.declared.value.Value.{Value}
use Rattle.mt_durable.specs.Changes.{entry_tree, value_field}
use Rattle.mt_durable.specs.Fronts.{entry_bytes, is_leave}
use Rattle.mt_durable.specs.Maps.{has_value}
use Rattle.mt_durable.specs.declared.durable.Entry.{Entry}

-- An element does not begin with the end of a container.
pub record First (xs : List Piece) : Type 0 where
  pub one : Piece
  pub rest : List Piece
  pub is : xs ≡ one ∷ rest
  pub no_leave : is_leave one ≡ false

first_part : (tag : Tag) (v : Tree) → First (parts_of tag v)
first_part tag (int z) = record { one = scalar tag (int z); rest = []; is = refl; no_leave = refl }
first_part tag (uint n) = record { one = scalar tag (uint n); rest = []; is = refl; no_leave = refl }
first_part tag (bool b) = record { one = scalar tag (bool b); rest = []; is = refl; no_leave = refl }
first_part tag (text s) = record { one = parts.text tag s; rest = []; is = refl; no_leave = refl }
first_part tag (octets s) = record { one = parts.octets tag s; rest = []; is = refl; no_leave = refl }
first_part tag null = record { one = scalar tag null; rest = []; is = refl; no_leave = refl }
first_part tag (bits32 n) = record { one = scalar tag (bits32 n); rest = []; is = refl; no_leave = refl }
first_part tag (bits64 n) = record { one = scalar tag (bits64 n); rest = []; is = refl; no_leave = refl }
first_part tag (structure es) = record { one = enter tag 21; rest = parts_inside es ++ leave ∷ []; is = refl; no_leave = refl }
first_part tag (array es) = record { one = enter tag 22; rest = parts_inside es ++ leave ∷ []; is = refl; no_leave = refl }
first_part tag (list es) = record { one = enter tag 23; rest = parts_inside es ++ leave ∷ []; is = refl; no_leave = refl }

-- The part behind the key.
pub record Behind (value : Option Value) (place : Place) : Type 0 where
  pub part : Piece
  pub next : Place
  pub steps : next_at place ≡ Ok (Some part, next)
  pub leaves : not (is_leave part) ≡ has_value value

behind_key : (value : Option Value) (place end : Place) → Comes place (parts_inside (value_field value) ++ leave ∷ []) end → Behind value place
behind_key None place end comes = record { part = leave; next = comes.0; steps = comes.1; leaves = refl }
behind_key (Some v) place end comes =
    let first = first_part (Context 1) (tree v) in
    let there = subst (λ (xs : List Piece). Comes place ((xs ++ []) ++ leave ∷ []) end) first.is comes in
    record { part = first.one; next = there.0; steps = there.1; leaves = ap not first.no_leave }

-- A cursor over an entry.
pub record Over (place : Place) (entry : Entry) : Type 0 where
  pub front : Piece
  pub inside : Place
  pub enters : next_at place ≡ Ok (Some front, inside)
  pub next : Place
  pub key : next_at inside ≡ Ok (Some (parts.octets (Context 0) entry.key), next)
  pub behind_it : Behind entry.value next

pub over_entry : ((tag : Tag) (v : Tree) (bytes rest : List ℕ) → IsElement tag v bytes → Comes (start (bytes ++ rest)) (parts_of tag v) (behind (length (bytes ++ rest)) rest))
    → (entry : Entry) (bytes rest : List ℕ) (place : Place) → IsElement Anonymous (entry_tree entry) (entry_bytes entry) → bytes ≡ entry_bytes entry ++ rest → place ≡ start bytes → Over place entry
over_entry over entry bytes rest place element is at =
    let comes = over Anonymous (entry_tree entry) (entry_bytes entry) rest element in
    let here = subst (λ (p : Place). Comes p (parts_of Anonymous (entry_tree entry)) (behind (length (entry_bytes entry ++ rest)) rest)) (sym (at ∙ ap start is)) comes in
    record {
      front = enter Anonymous 21;
      inside = here.0;
      enters = here.1;
      next = here.2.0;
      key = here.2.1;
      behind_it = behind_key entry.value here.2.0 (behind (length (entry_bytes entry ++ rest)) rest) here.2.2;
    }
