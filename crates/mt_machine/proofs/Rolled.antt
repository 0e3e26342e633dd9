-- What an expiry leaves of a valid state is valid.
use Rattle.std.proofs.Common.{◌≡◌, ℕ, ◌≤◌, ◌==◌, ◌&&◌, ◌||◌, inl, inr, not, nat_le, nat_lt, is_some, bytes_eq, Bool, true, false, List, [], ◌∷◌, Option, Some, None, Result, Ok, Err, length, refl, sym, ap, ◌∙◌, subst, filter, map, arith, ◌^◌}
use Rattle.std.proofs.lemmas.Bool.{and_from, and_parts, cases_Bool, eqb-true, eq-eqb, leb-true, le-leb, lt-ltb, ltb-true, not-true, or_cases, or_left, or_parts, or_right, or_from}
use Rattle.std.proofs.lemmas.List.Folds.{list_all-map}
use Rattle.std.proofs.lemmas.Slice.Eq.{bytes_eq-Decides}
use Rattle.std.proofs.lemmas.List.Sums.{length-filter}
use Rattle.std.specs.List.{count_by, list_all, list_any}
use Rattle.mt_fabrics.specs.Table.{has_index_up_to}
use Rattle.mt_tlv.specs.declared.value.Value.{Value}
use Rattle.mt_tlv.specs.declared.value.Value.TheVariants as values
use Rattle.mt_meta.specs.Finding.{find_data_of}
use Rattle.mt_meta.specs.Places.{all_places}
use Rattle.mt_model.specs.rows.Order.{are_ascending, fabrics_ascend, rise_above}
use Rattle.mt_model.specs.tables.Leaving.{stays}
use Rattle.mt_model.specs.texts.Config.{are_credentials, ascend_from, has_identity, have_one_identity, have_one_label, is_entry, is_fabric, is_label, is_of, none_alike, is_certificate}
use Rattle.mt_model.specs.rows.Setting.{is_entry_of, with_entries, with_rows}
use Rattle.mt_model.specs.rows.Sight.{stands_at}
use Rattle.mt_model.specs.declared.node.action.NodeStep.TheVariants.{SetRow}
use Rattle.mt_meta.specs.Table.{attributes_of, clusters_of, endpoints, extensions_of, globals}
use Rattle.mt_model.specs.declared.messages.status.Status.{Status}
use Rattle.mt_model.specs.declared.node.state.NodeSession.{NodeSession}
use Rattle.mt_model.specs.declared.node.state.NodeState.{NodeState}
use Rattle.mt_model.specs.declared.node.state.Standing.{Standing}
use Rattle.mt_model.specs.declared.node.state.Standing.TheVariants.{Waits, Live, Ended}
use Rattle.mt_model.specs.declared.rows.place.Place.{Place}
use Rattle.mt_model.specs.declared.tables.access.Auth.{Auth}
use Rattle.mt_model.specs.declared.tables.access.Auth.TheVariants.{Pase, Case, Group}
use Rattle.mt_meta.specs.Forms.{has_form}
use Rattle.mt_meta.specs.Stored.{is_stored}
use Rattle.mt_meta.specs.declared.meta.Meta.{Meta}
use Rattle.mt_model.specs.declared.rows.place.Row.{Row}
use Rattle.mt_model.specs.declared.tables.access.AclEntry.{AclEntry}
use Rattle.mt_model.specs.declared.tables.fabric.Credentials.{Credentials}
use Rattle.mt_model.specs.declared.tables.fabric.Fabric.{Fabric}
use Rattle.mt_model.specs.declared.tables.network.Armed.{Armed}
use Rattle.mt_machine.specs.Rollback.{breadcrumb, ends, fabrics_behind, given_back, rolled_back, session_behind, undone}
use Rattle.mt_opcreds.specs.Laws.{are_credentials_if}
use Rattle.mt_machine.specs.State.{IsValid, are_networks, follows, has_entries_up_to, has_one_row, is_added, is_among, is_row, is_row_at, is_row_of, is_session, is_unscoped, is_updated, is_used, keeps_facts, saves_rightly, stands_once, stands_rightly}
use Rattle.mt_model.specs.tables.Holding.{have_one_id, is_network, is_owned, is_root_of, saves_identity}
use Rattle.mt_machine.proofs.Counting.{all-filter, all-kept, all-weaker, impossible, place-same, few-filter}
use Rattle.mt_machine.proofs.Writes.{after_step, members_are_positive, nobodys}
use Rattle.mt_machine.specs.Taking.{fits}

-- Lists of which some stay.

pub any-filter : {X : Type 0} (p keep : X → Bool) (xs : List X) → list_any p xs ≡ false → list_any p (filter keep xs) ≡ false
any-filter p keep [] none = refl
any-filter p keep (x ∷ xs) none =
    let both = or_parts (p x) (list_any p xs) none in
    elim (cases_Bool (keep x)) [
      | inl kept ↦ rw kept (or_from _ _ both.0 (any-filter p keep xs both.1))
      | inr gone ↦ rw gone (any-filter p keep xs both.1)
    ]

pub none-filter : {X : Type 0} (alike : X → X → Bool) (keep : X → Bool) (xs : List X) → none_alike alike xs ≡ true → none_alike alike (filter keep xs) ≡ true
none-filter alike keep [] none = refl
none-filter alike keep (x ∷ xs) none =
    let both = and_parts (not (list_any (alike x) xs)) (none_alike alike xs) none in
    elim (cases_Bool (keep x)) [
      | inl kept ↦ rw kept (and_from _ _ (ap not (any-filter (alike x) keep xs (not-true _ both.0))) (none-filter alike keep xs both.1))
      | inr gone ↦ rw gone (none-filter alike keep xs both.1)
    ]

fewer-pass : {X : Type 0} (p keep : X → Bool) (xs : List X) → length (filter p (filter keep xs)) ≤ length (filter p xs)
fewer-pass p keep [] = omega arith
fewer-pass p keep (x ∷ xs) =
    let rest = fewer-pass p keep xs in
    elim (cases_Bool (keep x)) [
      | inl kept ↦ elim (cases_Bool (p x)) [ inl passes ↦ rw (kept, passes) (omega (arith, rest)) | inr fails ↦ rw (kept, fails) (omega (arith, rest)) ]
      | inr gone ↦ elim (cases_Bool (p x)) [ inl passes ↦ rw (gone, passes) (omega (arith, rest)) | inr fails ↦ rw (gone, fails) (omega (arith, rest)) ]
    ]

pub count-filter : {X : Type 0} (p keep : X → Bool) (xs : List X) → count_by p (filter keep xs) ≤ count_by p xs
count-filter p keep xs = omega (arith, fewer-pass p keep xs, length-filter p xs, length-filter p (filter keep xs))

length-filter-map : {X Y : Type 0} (h : X → Y) (keep : X → Bool) (xs : List X) → length (map h (filter keep xs)) ≤ length xs
length-filter-map h keep [] = omega arith
length-filter-map h keep (x ∷ xs) =
    let rest = length-filter-map h keep xs in
    elim (cases_Bool (keep x)) [ inl kept ↦ rw kept (omega (arith, rest)) | inr gone ↦ rw gone (omega (arith, rest)) ]

-- a test of two that is the same of what they become
module _ {X : Type 0} (alike : X → X → Bool) (h : X → X) (P : X → Bool) (same : (x y : X) → P x ≡ true → P y ≡ true → alike (h x) (h y) ≡ alike x y) where
  pub any-same : (x : X) (xs : List X) → P x ≡ true → list_all P xs ≡ true → list_any (alike (h x)) (map h xs) ≡ list_any (alike x) xs
  any-same x [] its all = refl
  any-same x (y ∷ xs) its all =
      let both = and_parts (P y) (list_all P xs) all in
      λ i. same x y its both.0 i || any-same x xs its both.1 i

  pub none-map : (xs : List X) → list_all P xs ≡ true → none_alike alike xs ≡ true → none_alike alike (map h xs) ≡ true
  none-map [] all none = refl
  none-map (x ∷ xs) all none =
      let both = and_parts (P x) (list_all P xs) all in
      let apart = and_parts (not (list_any (alike x) xs)) (none_alike alike xs) none in
      and_from _ _ (ap not (any-same x xs both.0 both.1) ∙ apart.0) (none-map xs both.1 apart.1)

-- Fabrics.

rise-weaker : (least more : ℕ) (fabrics : List Fabric) → least ≤ more → rise_above more fabrics ≡ true → rise_above least fabrics ≡ true
rise-weaker least more [] less rise = refl
rise-weaker least more (f ∷ fabrics) less rise =
    let both = and_parts (nat_lt more f.index) (rise_above f.index fabrics) rise in
    let higher = ltb-true more f.index both.0 in
    and_from _ _ (lt-ltb least f.index (omega (arith, less, higher))) both.1

pub rise-filter : (keep : Fabric → Bool) (least : ℕ) (fabrics : List Fabric) → rise_above least fabrics ≡ true → rise_above least (filter keep fabrics) ≡ true
rise-filter keep least [] rise = refl
rise-filter keep least (f ∷ fabrics) rise =
    let both = and_parts (nat_lt least f.index) (rise_above f.index fabrics) rise in
    let rest = rise-filter keep f.index fabrics both.1 in
    elim (cases_Bool (keep f)) [
      | inl kept ↦ rw kept (and_from _ _ both.0 rest)
      | inr gone ↦ rw gone (rise-weaker least f.index (filter keep fabrics) (omega (arith, ltb-true least f.index both.0)) rest)
    ]

pub given-index : (updated : Option ℕ) (saved : Option Credentials) (f : Fabric) → (given_back updated saved f).index ≡ f.index
given-index None saved f = refl
given-index (Some u) None f = refl
given-index (Some u) (Some c) f = elim (cases_Bool (f.index == u)) [ inl this ↦ rw this refl | inr other ↦ rw other refl ]

given-label : (updated : Option ℕ) (saved : Option Credentials) (f : Fabric) → (given_back updated saved f).label ≡ f.label
given-label None saved f = refl
given-label (Some u) None f = refl
given-label (Some u) (Some c) f = elim (cases_Bool (f.index == u)) [ inl this ↦ rw this refl | inr other ↦ rw other refl ]

rise-given : (updated : Option ℕ) (saved : Option Credentials) (least : ℕ) (fabrics : List Fabric) → rise_above least fabrics ≡ true → rise_above least (map (given_back updated saved) fabrics) ≡ true
rise-given updated saved least [] rise = refl
rise-given updated saved least (f ∷ fabrics) rise =
    let both = and_parts (nat_lt least f.index) (rise_above f.index fabrics) rise in
    subst (λ n. (nat_lt least n && rise_above n (map (given_back updated saved) fabrics)) ≡ true) (sym (given-index updated saved f))
    (and_from _ _ both.0 (rise-given updated saved f.index fabrics both.1))

-- each index once
pub later-others : (index : ℕ) (fabrics : List Fabric) → rise_above index fabrics ≡ true → list_all (λ (f : Fabric). nat_lt index f.index) fabrics ≡ true
later-others index [] rise = refl
later-others index (f ∷ fabrics) rise =
    let both = and_parts (nat_lt index f.index) (rise_above f.index fabrics) rise in
    and_from _ _ both.0 (later-others index fabrics (rise-weaker index f.index fabrics (omega (arith, ltb-true index f.index both.0)) both.1))

pub higher-is-other : (u n : ℕ) → nat_lt u n ≡ true → (not (n == u)) ≡ true
higher-is-other u n higher = grind (arith, higher)

module _ (u : ℕ) (q : Fabric → Bool) where
  others-pass : (fabrics : List Fabric) → list_all (λ (f : Fabric). nat_lt u f.index) fabrics ≡ true → list_all (λ (f : Fabric). not (f.index == u) || q f) fabrics ≡ true
  others-pass = all-weaker (λ (f : Fabric). nat_lt u f.index) (λ (f : Fabric). not (f.index == u) || q f) (λ f higher. or_left _ _ (higher-is-other u f.index higher))

  none-higher : (fabrics : List Fabric) → list_all (λ (f : Fabric). nat_lt u f.index) fabrics ≡ true → list_any (λ (f : Fabric). f.index == u && q f) fabrics ≡ false
  none-higher [] all = refl
  none-higher (f ∷ fabrics) all =
      let both = and_parts (nat_lt u f.index) (list_all (λ (g : Fabric). nat_lt u g.index) fabrics) all in
      or_from _ _ (ap (λ b. b && q f) (not-true (f.index == u) (higher-is-other u f.index both.0))) (none-higher fabrics both.1)

  pub only-one : (least : ℕ) (fabrics : List Fabric) → rise_above least fabrics ≡ true → list_any (λ (f : Fabric). f.index == u && q f) fabrics ≡ true → list_all (λ (f : Fabric). not (f.index == u) || q f) fabrics ≡ true
  only-one least [] rise some = refl
  only-one least (f ∷ fabrics) rise some =
      let both = and_parts (nat_lt least f.index) (rise_above f.index fabrics) rise in
      let later = later-others f.index fabrics both.1 in
      elim (or_cases (f.index == u && q f) (list_any (λ (g : Fabric). g.index == u && q g) fabrics) some) [
        | inl here ↦
            let its = and_parts (f.index == u) (q f) here in
            let above : list_all (λ (g : Fabric). nat_lt u g.index) fabrics ≡ true = subst (λ n. list_all (λ (g : Fabric). nat_lt n g.index) fabrics ≡ true) (eqb-true f.index u its.0) later in
            and_from _ _ (or_right _ _ its.1) (others-pass fabrics above)
        | inr among ↦ elim (cases_Bool (f.index == u)) [
          | inl this ↦
              let above : list_all (λ (g : Fabric). nat_lt u g.index) fabrics ≡ true = subst (λ n. list_all (λ (g : Fabric). nat_lt n g.index) fabrics ≡ true) (eqb-true f.index u this) later in
              impossible (sym (none-higher fabrics above) ∙ among)
          | inr other ↦ and_from _ _ (or_left _ _ (ap not other)) (only-one f.index fabrics both.1 among)
        ]
      ]

-- what is told of a fabric by its index, is told of what it has become
module _ (added updated : Option ℕ) (saved : Option Credentials) where
  abbrev behind : List Fabric → List Fabric
  behind fabrics = map (given_back updated saved) (filter (λ (f : Fabric). stays added f.index) fabrics)

  any-behind : (p : ℕ → Bool) → ((n : ℕ) → p n ≡ true → stays added n ≡ true) → (fabrics : List Fabric) → list_any (λ (f : Fabric). p f.index) fabrics ≡ true → list_any (λ (f : Fabric). p f.index) (behind fabrics) ≡ true
  any-behind p kept [] some = impossible some
  any-behind p kept (f ∷ fabrics) some = elim (cases_Bool (p f.index)) [
    | inl here ↦
        let stay = kept f.index here in
        let its : p (given_back updated saved f).index ≡ true = ap p (given-index updated saved f) ∙ here in
        rw stay (or_left _ _ its)
    | inr not_here ↦
        let later : list_any (λ (g : Fabric). p g.index) fabrics ≡ true = rw not_here at some in
        elim (cases_Bool (stays added f.index)) [
          | inl stay ↦ rw stay (or_right _ _ (any-behind p kept fabrics later))
          | inr gone ↦ rw gone (any-behind p kept fabrics later)
        ]
  ]

  all-behind : (p : Fabric → Bool) → ((f : Fabric) → p f ≡ true → p (given_back updated saved f) ≡ true) → (fabrics : List Fabric) → list_all p fabrics ≡ true → list_all p (behind fabrics) ≡ true
  all-behind p each fabrics all =
      list_all-map p (given_back updated saved) (filter (λ (f : Fabric). stays added f.index) fabrics)
      ∙ all-weaker p (λ f. p (given_back updated saved f)) each (filter (λ (f : Fabric). stays added f.index) fabrics) (all-filter p (λ (f : Fabric). stays added f.index) fabrics all)

-- The fabric that was updated has the identity that it had.

abbrev has_its : Option ℕ → Option Credentials → Fabric → Bool
has_its None saved f = true
has_its (Some u) None f = true
has_its (Some u) (Some c) f = not (f.index == u) || has_identity c.root_key c.fabric_id f

pub all-true : (fabrics : List Fabric) (P : Fabric → Bool) → ((f : Fabric) → P f ≡ true) → list_all P fabrics ≡ true
all-true [] P each = refl
all-true (f ∷ fabrics) P each = and_from _ _ (each f) (all-true fabrics P each)

all-have : (fabrics : List Fabric) (armed : Armed) (added updated : Option ℕ) (saved : Option Credentials) → armed.saved_credentials ≡ saved → fabrics_ascend fabrics ≡ true
    → is_updated fabrics armed added updated ≡ true → list_all (has_its updated saved) fabrics ≡ true
all-have fabrics armed added None saved are rise is = all-true fabrics (has_its None saved) (λ f. refl)
all-have fabrics armed (Some a) (Some u) saved are rise is = impossible is
all-have fabrics armed None (Some u) None are rise is =
    let both = and_parts (armed.owner == u) (armed.context == u && saves_identity fabrics u armed.saved_credentials) is in
    let saves = (and_parts (armed.context == u) (saves_identity fabrics u armed.saved_credentials) both.1).1 in
    impossible (subst (λ (c : Option Credentials). saves_identity fabrics u c ≡ true) are saves)
all-have fabrics armed None (Some u) (Some c) are rise is =
    let both = and_parts (armed.owner == u) (armed.context == u && saves_identity fabrics u armed.saved_credentials) is in
    let saves = (and_parts (armed.context == u) (saves_identity fabrics u armed.saved_credentials) both.1).1 in
    only-one u (has_identity c.root_key c.fabric_id) 0 fabrics rise (subst (λ (kept : Option Credentials). saves_identity fabrics u kept ≡ true) are saves)

given-key : (updated : Option ℕ) (saved : Option Credentials) (f : Fabric) → has_its updated saved f ≡ true → (given_back updated saved f).credentials.root_key ≡ f.credentials.root_key
given-key None saved f its = refl
given-key (Some u) None f its = refl
given-key (Some u) (Some c) f its = elim (cases_Bool (f.index == u)) [
  | inl this ↦
      let same : has_identity c.root_key c.fabric_id f ≡ true = rw this at its in
      rw this (sym ((bytes_eq-Decides f.credentials.root_key c.root_key).0 (and_parts (bytes_eq f.credentials.root_key c.root_key) (f.credentials.fabric_id == c.fabric_id) same).0))
  | inr other ↦ rw other refl
]

given-id : (updated : Option ℕ) (saved : Option Credentials) (f : Fabric) → has_its updated saved f ≡ true → (given_back updated saved f).credentials.fabric_id ≡ f.credentials.fabric_id
given-id None saved f its = refl
given-id (Some u) None f its = refl
given-id (Some u) (Some c) f its = elim (cases_Bool (f.index == u)) [
  | inl this ↦
      let same : has_identity c.root_key c.fabric_id f ≡ true = rw this at its in
      rw this (sym (eqb-true f.credentials.fabric_id c.fabric_id (and_parts (bytes_eq f.credentials.root_key c.root_key) (f.credentials.fabric_id == c.fabric_id) same).1))
  | inr other ↦ rw other refl
]

module _ (added updated : Option ℕ) (saved : Option Credentials) where
  abbrev given : Fabric → Fabric
  given = given_back updated saved

  one_identity : (f g : Fabric) → has_its updated saved f ≡ true → has_its updated saved g ≡ true → have_one_identity (given f) (given g) ≡ have_one_identity f g
  one_identity f g its others = λ i. bytes_eq (given-key updated saved f its i) (given-key updated saved g others i) && (given-id updated saved f its i == given-id updated saved g others i)

  one_label : (f g : Fabric) → true ≡ true → true ≡ true → have_one_label (given f) (given g) ≡ have_one_label f g
  one_label f g its others = λ i. nat_le 1 (length (given-label updated saved f i)) && bytes_eq (given-label updated saved f i) (given-label updated saved g i)

  its_identity : (key : List ℕ) (id : ℕ) (f : Fabric) → has_its updated saved f ≡ true → has_identity key id (given f) ≡ has_identity key id f
  its_identity key id f its = λ i. bytes_eq (given-key updated saved f its i) key && (given-id updated saved f its i == id)

  -- a test that says the same of what a fabric has become
  some-behind : (q : Fabric → Bool) → ((f : Fabric) → q f ≡ true → stays added f.index ≡ true) → ((f : Fabric) → has_its updated saved f ≡ true → q (given f) ≡ q f)
      → (fabrics : List Fabric) → list_all (has_its updated saved) fabrics ≡ true → list_any q fabrics ≡ true → list_any q (behind added updated saved fabrics) ≡ true
  some-behind q kept same [] all some = impossible some
  some-behind q kept same (f ∷ fabrics) all some =
      let both = and_parts (has_its updated saved f) (list_all (has_its updated saved) fabrics) all in
      elim (cases_Bool (q f)) [
        | inl here ↦ rw (kept f here) (or_left _ _ (same f both.0 ∙ here))
        | inr not_here ↦
            let later : list_any q fabrics ≡ true = rw not_here at some in
            elim (cases_Bool (stays added f.index)) [
              | inl stay ↦ rw stay (or_right _ _ (some-behind q kept same fabrics both.1 later))
              | inr gone ↦ rw gone (some-behind q kept same fabrics both.1 later)
            ]
      ]

  none-behind : (q : Fabric → Bool) → ((f : Fabric) → has_its updated saved f ≡ true → q (given f) ≡ q f)
      → (fabrics : List Fabric) → list_all (has_its updated saved) fabrics ≡ true → list_any q fabrics ≡ false → list_any q (behind added updated saved fabrics) ≡ false
  none-behind q same [] all none = refl
  none-behind q same (f ∷ fabrics) all none =
      let both = and_parts (has_its updated saved f) (list_all (has_its updated saved) fabrics) all in
      let parts = or_parts (q f) (list_any q fabrics) none in
      elim (cases_Bool (stays added f.index)) [
        | inl stay ↦ rw stay (or_from _ _ (same f both.0 ∙ parts.0) (none-behind q same fabrics both.1 parts.1))
        | inr gone ↦ rw gone (none-behind q same fabrics both.1 parts.1)
      ]

-- Lists of which what passes stays.

pub all-passed : {X : Type 0} (p q : X → Bool) → ((x : X) → p x ≡ true → q x ≡ true) → (xs : List X) → list_all q (filter p xs) ≡ true
all-passed p q each [] = refl
all-passed p q each (x ∷ xs) = elim (cases_Bool (p x)) [
  | inl passes ↦ rw passes (and_from _ _ (each x passes) (all-passed p q each xs))
  | inr fails ↦ rw fails (all-passed p q each xs)
]

pub all-staying : {X : Type 0} (p q keep : X → Bool) → ((x : X) → keep x ≡ true → p x ≡ true → q x ≡ true) → (xs : List X) → list_all p xs ≡ true → list_all q (filter keep xs) ≡ true
all-staying p q keep each xs all = all-kept p q keep each xs (all-filter p keep xs all)

pub pass-stay : {X : Type 0} (p good keep : X → Bool) → ((x : X) → good x ≡ true → p x ≡ true → keep x ≡ true) → (xs : List X) → list_all good xs ≡ true → length (filter p (filter keep xs)) ≡ length (filter p xs)
pass-stay p good keep each [] all = refl
pass-stay p good keep each (x ∷ xs) all =
    let both = and_parts (good x) (list_all good xs) all in
    let rest = pass-stay p good keep each xs both.1 in
    elim (cases_Bool (p x)) [
      | inl passes ↦ rw (each x both.0 passes, passes) (omega (arith, rest))
      | inr fails ↦ elim (cases_Bool (keep x)) [ inl kept ↦ rw (kept, fails) rest | inr gone ↦ rw (gone, fails) rest ]
    ]

-- what is nobody's stays, since the one that was added is in the table
stays-nobody : (fabrics : List Fabric) (armed : Armed) (added : Option ℕ) → fabrics_ascend fabrics ≡ true → is_added fabrics armed added ≡ true → stays added 0 ≡ true
stays-nobody fabrics armed None rise is = refl
stays-nobody fabrics armed (Some a) rise is =
    let some = members_are_positive fabrics a rise (and_parts (armed.context == a) (is_among fabrics a) is).1 in
    grind (arith, some)

-- a session of CASE that does not end is of a fabric that stays
stays-live : (fabrics : List Fabric) (armed : Armed) (added updated : Option ℕ) (fabric : ℕ) → is_added fabrics armed added ≡ true
    → (fabric == armed.context && (is_some added || is_some updated)) ≡ false → stays added fabric ≡ true
stays-live fabrics armed None updated fabric is lives = refl
stays-live fabrics armed (Some a) updated fabric is lives =
    let context = eqb-true armed.context a (and_parts (armed.context == a) (is_among fabrics a) is).0 in
    grind (arith, context, lives)

-- The state but for Breadcrumb, by the laws of the model on what stays of rows and of entries.
module _
    (rows_stay : (keep : Row → Bool) (rows : List Row) → are_ascending rows ≡ true → are_ascending (filter keep rows) ≡ true)
    (entries_stay : (keep : AclEntry → Bool) (least : ℕ) (entries : List AclEntry) → ascend_from least entries ≡ true → ascend_from least (filter keep entries) ≡ true)
    (s : NodeState) (valid : IsValid s) (armed : Armed) (is : s.armed ≡ Some armed) where
  facts : keeps_facts s.fabrics (Some armed) ≡ true
  facts = subst (λ (a : Option Armed). keeps_facts s.fabrics a ≡ true) is valid.failsafe_facts

  is_the_added : is_added s.fabrics armed armed.added ≡ true
  is_the_added = (and_parts (is_added s.fabrics armed armed.added) (is_updated s.fabrics armed armed.added armed.updated) facts).0

  saves : saves_rightly (Some armed) ≡ true
  saves = subst (λ (a : Option Armed). saves_rightly a ≡ true) is valid.saved_stand

  saved_networks : are_networks armed.saved_networks ≡ true
  saved_networks = (and_parts (are_networks armed.saved_networks) (are_credentials_if armed.saved_credentials) saves).0

  saved_credentials : are_credentials_if armed.saved_credentials ≡ true
  saved_credentials = (and_parts (are_networks armed.saved_networks) (are_credentials_if armed.saved_credentials) saves).1

  abbrev added : Option ℕ
  added = armed.added

  abbrev updated : Option ℕ
  updated = armed.updated

  abbrev kept : Option Credentials
  kept = armed.saved_credentials

  abbrev left : List Fabric
  left = fabrics_behind armed s.fabrics

  have_all : list_all (has_its updated kept) s.fabrics ≡ true
  have_all = all-have s.fabrics armed added updated kept refl valid.fabrics_rise (and_parts (is_added s.fabrics armed armed.added) (is_updated s.fabrics armed armed.added armed.updated) facts).1

  given_forms : (u : Option ℕ) (c : Option Credentials) → are_credentials_if c ≡ true → (f : Fabric) → is_fabric f ≡ true → is_fabric (given_back u c f) ≡ true
  given_forms None c are f form = form
  given_forms (Some u) None are f form = form
  given_forms (Some u) (Some c) are f form = elim (cases_Bool (f.index == u)) [
    | inl this ↦
        let outer = and_parts (are_credentials f.credentials && is_label f.label) (nat_lt f.vendor (2 ^ 16)) form in
        rw this (and_from _ _ (and_from _ _ are (and_parts (are_credentials f.credentials) (is_label f.label) outer.0).1) outer.1)
    | inr other ↦ rw other form
  ]

  among_left : (fabric : ℕ) → stays added fabric ≡ true → is_among s.fabrics fabric ≡ true → is_among left fabric ≡ true
  among_left fabric stay among =
      any-behind added updated kept (λ n. n == fabric) (λ n is_it. subst (λ m. stays added m ≡ true) (sym (eqb-true n fabric is_it)) stay) s.fabrics among

  row_of_left : (scoped : Bool) (fabric : ℕ) → stays added fabric ≡ true → is_row_of s.fabrics scoped fabric ≡ true → is_row_of left scoped fabric ≡ true
  row_of_left true fabric stay of = among_left fabric stay of
  row_of_left false fabric stay of = of

  row_at_left : (row : Row) (found : Result Meta Status) → stays added row.fabric ≡ true → is_row_at s.fabrics row found ≡ true → is_row_at left row found ≡ true
  row_at_left row (Err status) stay at = impossible at
  row_at_left row (Ok meta) stay at =
      let both = and_parts (has_form meta row.fabric row.value) (is_row_of s.fabrics meta.scoped row.fabric) at in
      and_from _ _ both.0 (row_of_left meta.scoped row.fabric stay both.1)

  row_left : (row : Row) → stays added row.fabric ≡ true → is_row s.fabrics row ≡ true → is_row left row ≡ true
  row_left row stay of =
      let both = and_parts (is_stored row.place) (is_row_at s.fabrics row (find_data_of row.place)) of in
      and_from _ _ both.0 (row_at_left row (find_data_of row.place) stay both.1)

  abbrev rows_left : List Row
  rows_left = filter (λ (row : Row). stays added row.fabric) s.rows

  -- rows of places that are not scoped are nobody's
  stays_at : (place : Place) → is_unscoped (find_data_of place) ≡ true → (row : Row) → is_row s.fabrics row ≡ true → stands_at place row ≡ true → stays added row.fabric ≡ true
  stays_at place unscoped row of at =
      let same = place-same row.place place at in
      let here = (and_parts (is_stored row.place) (is_row_at s.fabrics row (find_data_of row.place)) of).1 in
      let nobody : row.fabric ≡ 0 = nobodys s.fabrics row (find_data_of row.place) here (subst (λ (p : Place). is_unscoped (find_data_of p) ≡ true) (sym same) unscoped) in
      subst (λ n. stays added n ≡ true) (sym nobody) (stays-nobody s.fabrics armed added valid.fabrics_rise is_the_added)

  stands_left : (place : Place) → has_one_row place ≡ true → stands_once s.rows place ≡ true → stands_once rows_left place ≡ true
  stands_left place single once =
      let unscoped = (and_parts (is_stored place) (is_unscoped (find_data_of place)) single).1 in
      let before : count_by (stands_at place) s.rows ≡ 1 = eqb-true _ _ once in
      let same = pass-stay (stands_at place) (is_row s.fabrics) (λ (row : Row). stays added row.fabric) (stays_at place unscoped) s.rows valid.row_forms in
      eq-eqb _ _ (sym (length-filter (stands_at place) rows_left) ∙ same ∙ length-filter (stands_at place) s.rows ∙ before)

  abbrev entries_left : List AclEntry
  entries_left = filter (λ (entry : AclEntry). stays added entry.fabric) s.entries

  owned_left : (entry : AclEntry) → stays added entry.fabric ≡ true → is_owned s.fabrics entry ≡ true → is_owned left entry ≡ true
  owned_left entry stay owned =
      any-behind added updated kept (λ n. entry.fabric == n) (λ n is_it. subst (λ m. stays added m ≡ true) (eqb-true entry.fabric n is_it) stay) s.fabrics owned

  few_left : (f : Fabric) → has_entries_up_to 4 s.entries f ≡ true → has_entries_up_to 4 entries_left f ≡ true
  few_left f few = le-leb _ _ (omega (arith, leb-true _ _ few, count-filter (is_of f) (λ (entry : AclEntry). stays added entry.fabric) s.entries))

  few_given : (f : Fabric) → has_entries_up_to 4 entries_left f ≡ true → has_entries_up_to 4 entries_left (given_back updated kept f) ≡ true
  few_given f few = subst (λ n. nat_le (count_by (λ (entry : AclEntry). entry.fabric == n) entries_left) 4 ≡ true) (sym (given-index updated kept f)) few

  index_given : (f : Fabric) → has_index_up_to 16 f ≡ true → has_index_up_to 16 (given_back updated kept f) ≡ true
  index_given f most = subst (λ n. nat_le n 16 ≡ true) (sym (given-index updated kept f)) most

  -- Sessions.

  live_left : (session : NodeSession) (fabric : ℕ) → (fabric == armed.context && (is_some added || is_some updated)) ≡ false
      → list_any (λ (f : Fabric). f.index == fabric && has_identity session.root_key session.fabric_id f) s.fabrics ≡ true
      → list_any (λ (f : Fabric). f.index == fabric && has_identity session.root_key session.fabric_id f) left ≡ true
  live_left session fabric lives there =
      let stay = stays-live s.fabrics armed added updated fabric is_the_added lives in
      some-behind added updated kept (λ (f : Fabric). f.index == fabric && has_identity session.root_key session.fabric_id f)
      (λ f its. subst (λ n. stays added n ≡ true) (sym (eqb-true f.index fabric (and_parts _ _ its).0)) stay)
      (λ f its. λ i. (given-index updated kept f i == fabric) && its_identity added updated kept session.root_key session.fabric_id f its i)
      s.fabrics have_all there

  waits_left : (session : NodeSession) → not (list_any (has_identity session.root_key session.fabric_id) s.fabrics) ≡ true → not (list_any (has_identity session.root_key session.fabric_id) left) ≡ true
  waits_left session none =
      ap not (none-behind added updated kept (has_identity session.root_key session.fabric_id) (its_identity added updated kept session.root_key session.fabric_id) s.fabrics have_all (not-true _ none))

  still : (session : NodeSession) (auth : Auth) (standing : Standing) → ends armed auth standing ≡ false → stands_rightly s.fabrics session auth standing ≡ true → stands_rightly left session auth standing ≡ true
  still session Pase Waits lives stands = impossible stands
  still session Pase (Live fabric) lives stands = impossible (sym lives)
  still session Pase Ended lives stands = refl
  still session Case Waits lives stands = waits_left session stands
  still session Case (Live fabric) lives stands = live_left session fabric lives stands
  still session Case Ended lives stands = refl
  still session Group Waits lives stands = waits_left session stands
  still session Group (Live fabric) lives stands = live_left session fabric lives stands
  still session Group Ended lives stands = refl

  ended_stands : (session : NodeSession) (auth : Auth) → stands_rightly left session auth Ended ≡ true
  ended_stands session Pase = refl
  ended_stands session Case = refl
  ended_stands session Group = refl

  session_stands : (session : NodeSession) → is_session s.fabrics session ≡ true → is_session left (session_behind armed session) ≡ true
  session_stands session stands = elim (cases_Bool (ends armed session.auth session.standing)) [
    | inl over ↦ rw over (ended_stands session session.auth)
    | inr lives ↦ rw lives (still session session.auth session.standing lives stands)
  ]

  -- none of PASE is live
  follows_none : (auth : Auth) (standing : Standing) → ends armed auth standing ≡ false → follows None auth standing ≡ true
  follows_none Pase Waits lives = refl
  follows_none Pase (Live fabric) lives = impossible (sym lives)
  follows_none Pase Ended lives = refl
  follows_none Case standing lives = refl
  follows_none Group standing lives = refl

  ended_follows : (auth : Auth) → follows None auth Ended ≡ true
  ended_follows Pase = refl
  ended_follows Case = refl
  ended_follows Group = refl

  session_follows : (session : NodeSession) → follows None (session_behind armed session).auth (session_behind armed session).standing ≡ true
  session_follows session = elim (cases_Bool (ends armed session.auth session.standing)) [
    | inl over ↦ rw over (ended_follows session.auth)
    | inr lives ↦ rw lives (follows_none session.auth session.standing lives)
  ]

  all-sessions : (sessions : List NodeSession) → list_all (λ (session : NodeSession). follows None session.auth session.standing) (map (session_behind armed) sessions) ≡ true
  all-sessions [] = refl
  all-sessions (session ∷ sessions) = and_from _ _ (session_follows session) (all-sessions sessions)

  root_used : (root : List ℕ) → list_any (is_root_of root) left ≡ true → is_used left None root ≡ true
  root_used root used = or_left _ _ used

  networks_apart : nat_le (length armed.saved_networks) 4 ≡ true
  networks_apart = (and_parts (nat_le (length armed.saved_networks) 4) (list_all is_network armed.saved_networks && none_alike have_one_id armed.saved_networks) saved_networks).0

  networks_forms : (list_all is_network armed.saved_networks && none_alike have_one_id armed.saved_networks) ≡ true
  networks_forms = (and_parts (nat_le (length armed.saved_networks) 4) (list_all is_network armed.saved_networks && none_alike have_one_id armed.saved_networks) saved_networks).1

  pub undone-valid : IsValid (undone armed s)
  undone-valid = record {
    fabric_count = le-leb _ _ (omega (arith, leb-true _ _ valid.fabric_count, length-filter-map (given_back updated kept) (λ (f : Fabric). stays added f.index) s.fabrics));
    fabrics_rise = rise-given updated kept 0 (filter (λ (f : Fabric). stays added f.index) s.fabrics) (rise-filter (λ (f : Fabric). stays added f.index) 0 s.fabrics valid.fabrics_rise);
    indexes = all-behind added updated kept (has_index_up_to 16) index_given s.fabrics valid.indexes;
    fabric_forms = all-behind added updated kept is_fabric (given_forms updated kept saved_credentials) s.fabrics valid.fabric_forms;
    identities_differ = none-map have_one_identity (given_back updated kept) (has_its updated kept) (one_identity added updated kept) (filter (λ (f : Fabric). stays added f.index) s.fabrics)
        (all-filter (has_its updated kept) (λ (f : Fabric). stays added f.index) s.fabrics have_all)
        (none-filter have_one_identity (λ (f : Fabric). stays added f.index) s.fabrics valid.identities_differ);
    labels_differ = none-map have_one_label (given_back updated kept) (λ (f : Fabric). true) (one_label added updated kept) (filter (λ (f : Fabric). stays added f.index) s.fabrics)
        (all-true (filter (λ (f : Fabric). stays added f.index) s.fabrics) (λ (f : Fabric). true) (λ f. refl))
        (none-filter have_one_label (λ (f : Fabric). stays added f.index) s.fabrics valid.labels_differ);
    entries_rise = entries_stay (λ (entry : AclEntry). stays added entry.fabric) 1 s.entries valid.entries_rise;
    entry_forms = all-filter is_entry (λ (entry : AclEntry). stays added entry.fabric) s.entries valid.entry_forms;
    entries_owned = all-staying (is_owned s.fabrics) (is_owned left) (λ (entry : AclEntry). stays added entry.fabric) owned_left s.entries valid.entries_owned;
    entry_counts = all-behind added updated kept (has_entries_up_to 4 entries_left) few_given s.fabrics (all-weaker (has_entries_up_to 4 s.entries) (has_entries_up_to 4 entries_left) few_left s.fabrics valid.entry_counts);
    rows_rise = rows_stay (λ (row : Row). stays added row.fabric) s.rows valid.rows_rise;
    row_forms = all-staying (is_row s.fabrics) (is_row left) (λ (row : Row). stays added row.fabric) row_left s.rows valid.row_forms;
    rows_stand = all-kept (stands_once s.rows) (stands_once rows_left) has_one_row stands_left all_places valid.rows_stand;
    row_counts = few-filter (λ (row : Row). stays added row.fabric) s.rows valid.row_counts;
    roots_differ = none-filter bytes_eq (λ (root : List ℕ). list_any (is_root_of root) left) s.roots valid.roots_differ;
    root_forms = all-filter is_certificate (λ (root : List ℕ). list_any (is_root_of root) left) s.roots valid.root_forms;
    roots_used = all-passed (λ (root : List ℕ). list_any (is_root_of root) left) (is_used left None) root_used s.roots;
    network_count = networks_apart;
    network_forms = (and_parts (list_all is_network armed.saved_networks) (none_alike have_one_id armed.saved_networks) networks_forms).0;
    network_ids_differ = (and_parts (list_all is_network armed.saved_networks) (none_alike have_one_id armed.saved_networks) networks_forms).1;
    sessions_stand = list_all-map (is_session left) (session_behind armed) s.sessions ∙ all-weaker (is_session s.fabrics) (λ session. is_session left (session_behind armed session)) session_stands s.sessions valid.sessions_stand;
    plain_stands = refl;
    versions_stand = valid.versions_stand;
    count_fits = valid.count_fits;
    changes_counted = valid.changes_counted;
    newest_counts = valid.newest_counts;
    changes_stand = valid.changes_stand;
    changes_of_all = valid.changes_of_all;
    changes_of_attributes = valid.changes_of_attributes;
    failsafe_facts = refl;
    failsafe_names = refl;
    saved_stand = refl;
    given_stand = refl;
    sessions_follow = all-sessions s.sessions;
    plain_follow = refl;
    boot_fits = valid.boot_fits;
  }

-- The whole rollback.
module _
    (rows_stay : (keep : Row → Bool) (rows : List Row) → are_ascending rows ≡ true → are_ascending (filter keep rows) ≡ true)
    (entries_stay : (keep : AclEntry → Bool) (least : ℕ) (entries : List AclEntry) → ascend_from least entries ≡ true → ascend_from least (filter keep entries) ≡ true)
    (rows_rise : (rows : List Row) (place : Place) (fabric : ℕ) (vs : List Value) → are_ascending rows ≡ true → are_ascending (with_rows place fabric vs rows) ≡ true)
    (entries_rise : (entries new : List AclEntry) (least fabric : ℕ) → least ≤ fabric → ascend_from least entries ≡ true → list_all (is_entry_of fabric) new ≡ true → ascend_from least (with_entries fabric new entries) ≡ true)
  where
    fits_breadcrumb : (fabrics : List Fabric) → fits fabrics (SetRow breadcrumb 0 (values.Uint 0 ∷ [])) ≡ true
    unfolding endpoints clusters_of attributes_of globals extensions_of is_stored
    fits_breadcrumb fabrics = refl

    pub rolled-valid : (armed : Option Armed) (s : NodeState) → s.armed ≡ armed → IsValid s → IsValid (rolled_back armed s)
    rolled-valid None s is valid = valid
    rolled-valid (Some armed) s is valid =
        after_step rows_rise entries_rise None (SetRow breadcrumb 0 (values.Uint 0 ∷ [])) (undone armed s) (undone-valid rows_stay entries_stay s valid armed is) (fits_breadcrumb (undone armed s).fabrics)
