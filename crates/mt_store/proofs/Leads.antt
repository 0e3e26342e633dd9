-- What a change adds to a list, and what an image is in its place.
use Rattle.std.proofs.Common.{◌≡◌, ◌≤◌, ℕ, true, false, List, [], ◌∷◌, ◌++◌, length, take, drop, sym, ap, ◌∙◌, subst, ⊎_elim, inl, inr, arith}
use Rattle.std.specs.Prelude.{Some, Result, Ok, Err, IfOk, IsTrue, OnOk, Bool, ◌&&◌}
use Rattle.std.proofs.lemmas.Bool.{cases_Bool}
use Rattle.std.proofs.lemmas.List.{append-nil, drop_all, take_all}
use Rattle.mt_durable.specs.Changes.{change_bytes, entry_trees}
use Rattle.mt_durable.specs.Images.{IsImage, image_after}
use Rattle.mt_durable.specs.Keeping.{HasRoom, IsChange, LeadsTo}
use Rattle.mt_durable.specs.Maps.{Merged, have_values, keys_ascend}
use Rattle.mt_durable.specs.Reading.{Says, change_at, entries_or_none, is_change, is_image, is_said, is_said_whole, said}
use Rattle.mt_durable.specs.Setting.{with_all}
use Rattle.mt_durable.specs.declared.durable.Entry.{Entry}
use Rattle.mt_journal.specs.Layout.{MayFollow, journal_at}
use Rattle.mt_journal.specs.Recovering.{HasPlace}
use Rattle.mt_journal.specs.Standing.{HasEither}
use Rattle.mt_journal.specs.declared.reading.JournalFault.{JournalFault}
use Rattle.mt_journal.specs.declared.reading.JournalFault.TheVariants.{Disk, NotAJournal, Memory}
use Rattle.mt_outside.specs.Disk.{LeavesOnly}
use Rattle.mt_tlv.specs.Limits.{IsAllowed, deepest, longest}
use Rattle.mt_tlv.specs.Tree.{array}
use Rattle.mt_store.specs.Leading.{HoldsEither, map_after, map_of}

some_is : (a b : List Entry) → Some a ≡ Some b → a ≡ b
some_is a b e = ap entries_or_none e

-- one change more at the end of a list
pub map_more : (map : List Entry) (list : List (List ℕ)) (change : List ℕ) (after : List Entry) → is_change change ≡ true → map_after map list ≡ Some after → map_after map (list ++ change ∷ []) ≡ Some (with_all (said change) after)
map_more map [] change after is leads = rw is (ap (λ (m : List Entry). Some (with_all (said change) m)) (some_is map after leads))
map_more map (first ∷ list) change after is leads = ⊎_elim
    (λ (here : is_change first ≡ true).
    (let rest : map_after (with_all (said first) map) list ≡ Some after = grind (arith, leads, here) in
    rw here (map_more (with_all (said first) map) list change after is rest)))
    (λ (not : is_change first ≡ false). absurd (grind (arith, leads, not)))
    (cases_Bool (is_change first))

pub on_ok : {T E : Type 0} (result : Result T E) (P Q : Type 0) → (P → Q) → OnOk result P → OnOk result Q
on_ok (Ok x) P Q then p = then p
on_ok (Err e) P Q then p = p

pub always : {E : Type 0} (result : Result Bool E) (P : Type 0) → P → IfOk result (λ is. IsTrue is → P)
always (Ok is) P p = λ _. p
always (Err e) P p = tt

pub place_then : (fault : JournalFault) (P Q : ℕ → Type 0) → ((at : ℕ) → P at → Q at) → HasPlace fault P → HasPlace fault Q
place_then Disk P Q then p = p
place_then (NotAJournal at) P Q then p = then at p
place_then Memory P Q then p = p

-- what a crash leaves has what follows of it
pub leaves_then : {D : Type 0} (moment : D → ℕ) (images_since : D → ℕ → List ℕ → Type 0) (old new : D) (P Q : List ℕ → Type 0) → ((image : List ℕ) → P image → Q image)
    → LeavesOnly moment images_since old new P → LeavesOnly moment images_since old new Q
leaves_then moment images_since old new P Q then leaves = record {
  later = leaves.later;
  each = λ image left. then image (leaves.each image left);
  before = λ from image earlier left. ⊎_elim (λ (b : images_since old from image). inl b) (λ (p : P image). inr (then image p)) (leaves.before from image earlier left);
}

-- a change may follow where it leads to a map that is admitted
pub may_follow : (admits : List Entry → Bool) (follows : Bool) (change image : List ℕ) (map : List Entry) → is_change change ≡ true → follows ≡ (admits (with_all (said change) map) && is_change change)
    → said image ≡ with_all (said change) map → admits (said image) ≡ true → follows ≡ true
may_follow admits follows change image map is law next admitted = law ∙ ap (λ (b : Bool). admits (with_all (said change) map) && b) is ∙ ap (λ (m : List Entry). admits m && true) (sym next) ∙ ap (λ (b : Bool). b && true) admitted

-- the list from before or the one behind leads to one of two maps
pub either_holds : (image : List ℕ → Bool) (change : MayFollow) (list other : List (List ℕ)) (map after : List Entry) → map_of list ≡ Some map → map_of other ≡ Some after
    → (file : List ℕ) → HasEither image change list other file → HoldsEither image change map after file
either_holds image change list other map after leads then file has = ⊎_elim
    (λ (is : journal_at image change file ≡ Ok list). inl (record { list = list; has = is; leads = leads }))
    (λ (is : journal_at image change file ≡ Ok other). inr (record { list = other; has = is; leads = then }))
    has

-- What is said is read: a law of mt_durable.
module _ (read : (entries : List Entry) (bytes : List ℕ) → Says entries bytes → change_at bytes ≡ Some entries) where
  pub said_is : (entries : List Entry) (bytes : List ℕ) → Says entries bytes → said bytes ≡ entries
  said_is entries bytes says = ap entries_or_none (read entries bytes says)

  pub change_is : (bytes : List ℕ) → IsChange bytes → is_change bytes ≡ true
  change_is bytes is = ap is_said (read is.0 bytes is.1)

  pub image_is : (bytes : List ℕ) → IsImage bytes → is_image bytes ≡ true
  image_is bytes is = ap is_said_whole (read (said bytes) bytes is.0) ∙ is.1

  pub change_says : (bytes : List ℕ) → IsChange bytes → Says (said bytes) bytes
  change_says bytes is = subst (λ (es : List Entry). Says es bytes) (sym (said_is is.0 bytes is.1)) is.1

  pub short : (bytes : List ℕ) → IsChange bytes → length bytes ≤ 65535
  short bytes is = is.1.element.short

  -- bytes that say a map are its image
  pub image_said : (entries : List Entry) (bytes : List ℕ) → Says entries bytes → have_values entries ≡ true → IsImage bytes
  image_said entries bytes says whole = subst (λ (es : List Entry). Says es bytes × (have_values es ≡ true)) (sym (said_is entries bytes says)) (says, whole)

  -- the map to which an image leads from the empty one
  pub map_of_image : ((map : List Entry) → keys_ascend map ≡ true → have_values map ≡ true → with_all map [] ≡ map) → (image : List ℕ) → IsImage image → map_of (image ∷ []) ≡ Some (said image)
  map_of_image from_empty image is = rw (change_is image (said image, is.0)) (ap (λ (m : List Entry). Some m) (from_empty (said image) is.0.ascend is.1))

  -- a change of a map
  pub leads_to : ((change map : List Entry) → keys_ascend change ≡ true → keys_ascend map ≡ true → have_values map ≡ true → Merged change map (with_all change map))
      → (change : List ℕ) (map : List Entry) → IsChange change → keys_ascend map ≡ true → have_values map ≡ true → LeadsTo change map (with_all (said change) map)
  leads_to merged change map is up whole =
      let says = change_says change is in
      record { entries = said change; says = says; merged = merged (said change) map says.ascend up whole }

  -- What is known of the image after a change.
  pub record Followed (change : List ℕ) (from : List Entry) : Type 0 where
    pub leads : LeadsTo change from (with_all (said change) from)
    pub image : IsImage (change_bytes (with_all (said change) from))
    pub said_again : said (change_bytes (with_all (said change) from)) ≡ with_all (said change) from

  pub followed : ((change map : List Entry) → keys_ascend change ≡ true → keys_ascend map ≡ true → have_values map ≡ true → Merged change map (with_all change map))
      → ((change map : List Entry) (bytes : List ℕ) → Says change bytes → IsAllowed (array (entry_trees map)) deepest → IsAllowed (array (entry_trees (with_all change map))) deepest)
      → ((map : List Entry) → keys_ascend map ≡ true → IsAllowed (array (entry_trees map)) deepest → length (change_bytes map) ≤ longest → Says map (change_bytes map))
      → (change image : List ℕ) (from : List Entry) → IsChange change → IsImage image → said image ≡ from → HasRoom change (Some from) → Followed change from
  followed merged allowed says change image from is kept view room =
      let after = with_all (said change) from in
      let up : keys_ascend from ≡ true = sym (ap keys_ascend view) ∙ kept.0.ascend in
      let whole : have_values from ≡ true = sym (ap have_values view) ∙ kept.1 in
      let leads = leads_to merged change from is up whole in
      let from_allowed : IsAllowed (array (entry_trees from)) deepest = subst (λ (es : List Entry). IsAllowed (array (entry_trees es)) deepest) view kept.0.element.allowed in
      let made : Says after (change_bytes after) = says after leads.merged.ascend (allowed (said change) from change (change_says change is) from_allowed) (room after leads) in
      let again : said (change_bytes after) ≡ after = said_is after (change_bytes after) made in
      record {
        leads = leads;
        image = (subst (λ (es : List Entry). Says es (change_bytes after)) (sym again) made, ap have_values again ∙ leads.merged.whole);
        said_again = again;
      }

  -- What is known of bytes in whose front the image after a change was left.
  pub record MergedInto (change : List ℕ) (from : List Entry) (items : List ℕ) (count : ℕ) : Type 0 where
    pub image : IsImage (take count items)
    pub value : said (take count items) ≡ with_all (said change) from
    pub leads : LeadsTo change from (said (take count items))
    pub short : count ≤ 65535

  pub fits_in : ((change map : List Entry) → keys_ascend change ≡ true → keys_ascend map ≡ true → have_values map ≡ true → Merged change map (with_all change map))
      → (change image : List ℕ) (from : List Entry) → IsChange change → Says from image → have_values from ≡ true → HasRoom change (Some from) → length (image_after change image) ≤ 65535
  fits_in merged change image from is says whole room =
      let leads = leads_to merged change from is says.ascend whole in
      omega (arith, room (with_all (said change) from) leads, ap (λ (m : List Entry). length (change_bytes (with_all (said change) m))) (said_is from image says))

  pub merged_into : ((change map : List Entry) → keys_ascend change ≡ true → keys_ascend map ≡ true → have_values map ≡ true → Merged change map (with_all change map))
      → ((change map : List Entry) (bytes : List ℕ) → Says change bytes → IsAllowed (array (entry_trees map)) deepest → IsAllowed (array (entry_trees (with_all change map))) deepest)
      → ((map : List Entry) → keys_ascend map ≡ true → IsAllowed (array (entry_trees map)) deepest → length (change_bytes map) ≤ longest → Says map (change_bytes map))
      → (change image : List ℕ) (from : List Entry) (items : List ℕ) (count : ℕ) → IsChange change → Says from image → have_values from ≡ true → HasRoom change (Some from)
      → take count items ≡ image_after change image → count ≡ length (image_after change image) → MergedInto change from items count
  merged_into merged allowed says change image from items count is said_there whole room made size =
      let view : said image ≡ from = said_is from image said_there in
      let follows = followed merged allowed says change image from is (image_said from image said_there whole) view room in
      let after = with_all (said change) from in
      let there : take count items ≡ change_bytes after = made ∙ ap (λ (m : List Entry). change_bytes (with_all (said change) m)) view in
      let value : said (take count items) ≡ after = ap said there ∙ follows.said_again in
      record {
        image = subst IsImage (sym there) follows.image;
        value = value;
        leads = subst (λ (m : List Entry). LeadsTo change from m) (sym value) follows.leads;
        short = omega (arith, size, fits_in merged change image from is said_there whole room);
      }

-- a whole list in the place of one that is no longer
pub written_back : (new old : List ℕ) (n : ℕ) → n ≡ length new → length old ≤ length new → take n (new ++ drop (length new) old) ≡ new
written_back new old n is fits =
    ap (λ (l : List ℕ). take n (new ++ l)) (drop_all (length new) old fits) ∙ ap (λ (l : List ℕ). take n l) (append-nil new) ∙ take_all n new (omega arith)
