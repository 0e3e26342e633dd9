-- A key set as it is kept has the form of the table.
use Rattle.std.proofs.Common.{◌≡◌, ℕ, ◌==◌, ◌&&◌, ◌||◌, ◌⊎◌, nat_le, Bool, true, false, List, length, Option, Some, None, inl, inr, refl, ◌∙◌, arith}
use Rattle.std.specs.Prelude.{option_and_then, unwrap_or}
use Rattle.std.proofs.lemmas.Bool.{and_from, and_parts}
use Rattle.mt_tlv.specs.Scalars.{octets_in, unsigned_in}
use Rattle.mt_tlv.specs.Tree.{Tree, uint, octets, null, Elements}
use Rattle.mt_meta.specs.Fields.{has_type, is_within}
use Rattle.mt_meta.specs.Forms.{is_of_kind}
use Rattle.mt_meta.specs.Rows.{any_number}
use Rattle.mt_meta.specs.Table.{fields_of}
use Rattle.mt_meta.specs.clusters.GroupKeyManagement.{key, start}
use Rattle.mt_meta.specs.declared.meta.Kind.TheVariants as kinds
use Rattle.mt_meta.specs.declared.rows.Form.{Form}
use Rattle.mt_meta.specs.declared.rows.Form.TheVariants as forms
use Rattle.mt_model.specs.Trees.{field_in}
use Rattle.mt_model.specs.tables.KeySets.{is_id, is_key, is_key_set, is_later, is_null, is_policy}
use Rattle.mt_model.specs.declared.limits.TheConstants.{KEY_SETS}
use Rattle.mt_groupkeys.specs.Sets.{has_starts, is_start, kept_set}

pub same_number : (n : ℕ) → (n == n) ≡ true
same_number n = grind arith

either : (a b : Bool) → (a || b) ≡ true → (a ≡ true) ⊎ (b ≡ true)
either true b h = inl refl
either false b h = inr h

-- What stands under a field by a test that it passes.

number_there : (test : Option ℕ → Bool) (field : Option Tree) → test None ≡ false → test (option_and_then unsigned_in field) ≡ true → (n : ℕ) × ((field ≡ Some (uint n)) × (test (Some n) ≡ true))
number_there test (Some (uint n)) unread h = (n, (refl, h))
number_there test field unread h = absurd (cc)

octets_there : (test : Option (List ℕ) → Bool) (field : Option Tree) → test None ≡ false → test (option_and_then octets_in field) ≡ true → (bytes : List ℕ) × ((field ≡ Some (octets bytes)) × (test (Some bytes) ≡ true))
octets_there test (Some (octets bytes)) unread h = (bytes, (refl, h))
octets_there test field unread h = absurd (cc)

null_there : (field : Option Tree) → is_null field ≡ true → field ≡ Some null
null_there (Some null) h = refl
null_there field h = absurd (cc)

-- a field that is there, and has a form
record Stands (form : Form) (field : Option Tree) : Type 0 where
  pub there : Some (unwrap_or field null) ≡ field
  pub fits : (has_type form (unwrap_or field null) && is_within form (unwrap_or field null)) ≡ true

stands_as : (form : Form) (field : Option Tree) (tree : Tree) → field ≡ Some tree → (has_type form tree && is_within form tree) ≡ true → Stands form field
stands_as form field tree is fits = record { there = rw is refl; fits = rw is fits }

number_within : (n greatest : ℕ) → nat_le n greatest ≡ true → (has_type (forms.Uint greatest) (uint n) && is_within (forms.Uint greatest) (uint n)) ≡ true
number_within n greatest h = and_from (nat_le n greatest) true h refl

none_within : (n : ℕ) → (n == 0) ≡ true → nat_le n 0xffffffffffffffff ≡ true
none_within n h = grind (arith, h)

id_stands : (field : Option Tree) → is_id (option_and_then unsigned_in field) ≡ true → Stands (forms.Uint 0xffff) field
id_stands field h =
    let a = number_there is_id field refl h in
    stands_as (forms.Uint 0xffff) field (uint a.0) a.1.0 (number_within a.0 0xffff (and_parts _ (nat_le a.0 0xffff) a.1.1).1)

policy_stands : (field : Option Tree) → is_policy (option_and_then unsigned_in field) ≡ true → Stands any_number field
policy_stands field h =
    let a = number_there is_policy field refl h in
    stands_as any_number field (uint a.0) a.1.0 (number_within a.0 0xffffffffffffffff (none_within a.0 a.1.1))

key_within : (bytes : List ℕ) → (length bytes == 16) ≡ true → (has_type key (octets bytes) && is_within key (octets bytes)) ≡ true
key_within bytes h = and_from (nat_le 16 (length bytes)) (nat_le (length bytes) 16) (grind (arith, h)) (grind (arith, h))

key_stands : (field : Option Tree) → is_key (option_and_then octets_in field) ≡ true → Stands key field
key_stands field h =
    let a = octets_there is_key field refl h in
    stands_as key field (octets a.0) a.1.0 (key_within a.0 a.1.1)

start_stands : (time : ℕ) (field : Option Tree) → is_later time (option_and_then unsigned_in field) ≡ true → is_start field ≡ true → Stands start field
start_stands time field h fits =
    let a = number_there (is_later time) field refl h in
    stands_as start field (uint a.0) a.1.0 (and_from (has_type start (uint a.0)) true (rw a.1.0 at fits) refl)

-- A key and its start.
record BothStand (secret time : Option Tree) : Type 0 where
  pub with_form : Stands key secret
  pub with_time : Stands start time

with_key : (after : ℕ) (secret time : Option Tree) → (is_key (option_and_then octets_in secret) && is_later after (option_and_then unsigned_in time)) ≡ true → is_start time ≡ true → BothStand secret time
with_key after secret time h fits =
    let both = and_parts (is_key (option_and_then octets_in secret)) (is_later after (option_and_then unsigned_in time)) h in
    record { with_form = key_stands secret both.0; with_time = start_stands after time both.1 fits }

without_key : (secret time : Option Tree) → (is_null secret && is_null time) ≡ true → BothStand secret time
without_key secret time h =
    let both = and_parts (is_null secret) (is_null time) h in
    record { with_form = stands_as key secret null (null_there secret both.0) refl; with_time = stands_as start time null (null_there time both.1) refl }

-- A set by its fields.
abbrev set_by : Option Tree → Option Tree → Option Tree → Option Tree → Option Tree → Option Tree → Option Tree → Option Tree → Bool
set_by a b c d e f g h =
    is_id (option_and_then unsigned_in a)
    && (is_policy (option_and_then unsigned_in b)
    && ((is_key (option_and_then octets_in c) && is_later 0 (option_and_then unsigned_in d))
    && (((is_null e && is_null f) && (is_null g && is_null h))
    || ((is_key (option_and_then octets_in e) && is_later (unwrap_or (option_and_then unsigned_in d) 0) (option_and_then unsigned_in f))
    && ((is_null g && is_null h) || (is_key (option_and_then octets_in g) && is_later (unwrap_or (option_and_then unsigned_in f) 0) (option_and_then unsigned_in h)))))))

-- The fields of a set.
record AllStand (a b c d e f g h : Option Tree) : Type 0 where
  pub id : Stands (forms.Uint 0xffff) a
  pub policy : Stands any_number b
  pub first : BothStand c d
  pub second : BothStand e f
  pub third : BothStand g h

-- the second and the third key, where the first is used from a time on
later_stand : (time : ℕ) (e f g h : Option Tree) → (((is_null e && is_null f) && (is_null g && is_null h))
    || ((is_key (option_and_then octets_in e) && is_later time (option_and_then unsigned_in f))
    && ((is_null g && is_null h) || (is_key (option_and_then octets_in g) && is_later (unwrap_or (option_and_then unsigned_in f) 0) (option_and_then unsigned_in h))))) ≡ true
    → is_start f ≡ true → is_start h ≡ true → BothStand e f × BothStand g h
later_stand time e f g h rise fits_f fits_h = elim (either _ _ rise) [
  | inl missing ↦
      let both = and_parts (is_null e && is_null f) (is_null g && is_null h) missing in
      (without_key e f both.0, without_key g h both.1)
  | inr there ↦
      let both = and_parts (is_key (option_and_then octets_in e) && is_later time (option_and_then unsigned_in f)) _ there in
      let third : BothStand g h = elim (either _ _ both.1) [ inl missing ↦ without_key g h missing | inr last ↦ with_key (unwrap_or (option_and_then unsigned_in f) 0) g h last fits_h ] in
      (with_key time e f both.0 fits_f, third)
]

all_stand : (a b c d e f g h : Option Tree) → set_by a b c d e f g h ≡ true → (is_start d && (is_start f && is_start h)) ≡ true → AllStand a b c d e f g h
all_stand a b c d e f g h is starts =
    let numbers = and_parts (is_id (option_and_then unsigned_in a)) _ is in
    let keys = and_parts (is_policy (option_and_then unsigned_in b)) _ numbers.1 in
    let rise = and_parts (is_key (option_and_then octets_in c) && is_later 0 (option_and_then unsigned_in d)) _ keys.1 in
    let fits = and_parts (is_start d) (is_start f && is_start h) starts in
    let later_fits = and_parts (is_start f) (is_start h) fits.1 in
    let later = later_stand (unwrap_or (option_and_then unsigned_in d) 0) e f g h rise.1 later_fits.0 later_fits.1 in
    record {
      id = id_stands a numbers.0;
      policy = policy_stands b keys.0;
      first = with_key 0 c d rise.0 fits.0;
      second = later.0;
      third = later.1;
    }

-- a field that stands in its form is kept as it is
kept_by : (a b c d e f g h : Option Tree) → AllStand a b c d e f g h → set_by a b c d e f g h ≡ true
    → set_by (Some (unwrap_or a null)) (Some (unwrap_or b null)) (Some (unwrap_or c null)) (Some (unwrap_or d null)) (Some (unwrap_or e null)) (Some (unwrap_or f null)) (Some (unwrap_or g null)) (Some (unwrap_or h null)) ≡ true
kept_by a b c d e f g h all is =
    (λ i. set_by (all.id.there i) (all.policy.there i) (all.first.with_form.there i) (all.first.with_time.there i) (all.second.with_form.there i) (all.second.with_time.there i) (all.third.with_form.there i) (all.third.with_time.there i))
    ∙ is

pub kept_form : (fabric : ℕ) (es : Elements) → (is_key_set es && has_starts es) ≡ true → is_of_kind kinds.KeySets 0 KEY_SETS fabric (kept_set fabric es) ≡ true
unfolding fields_of
kept_form fabric es h =
    let both = and_parts (is_key_set es) (has_starts es) h in
    let all = all_stand (field_in 0 es) (field_in 1 es) (field_in 2 es) (field_in 3 es) (field_in 4 es) (field_in 5 es) (field_in 6 es) (field_in 7 es) both.0 both.1 in
    and_from _ _ (kept_by (field_in 0 es) (field_in 1 es) (field_in 2 es) (field_in 3 es) (field_in 4 es) (field_in 5 es) (field_in 6 es) (field_in 7 es) all both.0)
    (and_from _ _ all.id.fits
    (and_from _ _ all.policy.fits
    (and_from _ _ all.first.with_form.fits
    (and_from _ _ all.first.with_time.fits
    (and_from _ _ all.second.with_form.fits
    (and_from _ _ all.second.with_time.fits
    (and_from _ _ all.third.with_form.fits
    (and_from _ _ all.third.with_time.fits
    (and_from _ _ (same_number fabric) refl)))))))))
