-- Where a field stands among members.
use Rattle.std.proofs.Common.{◌≡◌, ◌∙◌, sym, subst, ℕ, ◌+◌, ◌<◌, ◌≤◌, List, Some, None, true, false, length, drop, get_or, refl, add-one, drop-cons, if◌then◌else◌}
use Rattle.std.proofs.lemmas.List.{get_or_read, drop_all}
use Rattle.mt_tlv.specs.declared.value.Tag.{Tag}
use Rattle.mt_tlv.specs.declared.value.Value.{Value}
use Rattle.mt_tlv.specs.View.{tree, elements}
use Rattle.mt_model.specs.Trees.{is_context, field_in}

-- the field is the member at this place, or stands behind it
pub field_step : (n : ℕ) (members : List (Tag × Value)) (i : ℕ) (d : Tag × Value) → i < length members
    → field_in n (elements (drop i members)) ≡ (if is_context n (get_or members i d).0 then Some (tree (get_or members i d).1) else field_in n (elements (drop (i + 1) members)))
field_step n members i d h = rw (add-one, drop-cons members i d) refl

-- a member under the tag is the field, where none before it is
pub field_here : (n : ℕ) (members : List (Tag × Value)) (i : ℕ) (m : Tag × Value) → i < length members → m ≡ get_or members i m
    → is_context n m.0 ≡ true → field_in n (elements (drop i members)) ≡ field_in n (elements members)
    → (d : Tag × Value) → field_in n (elements members) ≡ Some (tree (get_or members i d).1)
field_here n members i m h same found here d =
    let e : m ≡ get_or members i d = get_or_read members i m h same d in
    let b : is_context n (get_or members i d).0 ≡ true = subst (λ (x : Tag × Value). is_context n x.0 ≡ true) e found in
    sym here ∙ field_step n members i d h ∙ rw b refl

-- a member under another tag is passed over
pub field_behind : (n : ℕ) (members : List (Tag × Value)) (i : ℕ) (m : Tag × Value) → i < length members → m ≡ get_or members i m
    → is_context n m.0 ≡ false → field_in n (elements (drop i members)) ≡ field_in n (elements members)
    → field_in n (elements (drop (i + 1) members)) ≡ field_in n (elements members)
field_behind n members i m h same missed here =
    let b : is_context n (get_or members i m).0 ≡ false = subst (λ (x : Tag × Value). is_context n x.0 ≡ false) same missed in
    sym (field_step n members i m h ∙ rw b refl) ∙ here

-- behind the last member there is none
pub field_nowhere : (n : ℕ) (members : List (Tag × Value)) (i : ℕ) → length members ≤ i
    → field_in n (elements (drop i members)) ≡ field_in n (elements members) → field_in n (elements members) ≡ None
field_nowhere n members i h here = sym here ∙ rw (drop_all i members h) refl
