-- Fields that may be left out, in front of others.
use Rattle.std.proofs.Common.{◌≡◌, ℕ, Bool, true, false, Option, None, Some, List, [], ◌∷◌, ◌++◌, refl, sym, ◌∙◌, ap, append_assoc}
use Rattle.std.proofs.lemmas.List.{append-nil}
use Rattle.mt_tlv.specs.declared.value.Tag.TheVariants.{Anonymous, Context}
use Rattle.mt_tlv.specs.Narrow.{narrow, narrow_elements, length_and_value, opening, end_of_container}
use Rattle.mt_tlv.specs.Tree.{Tree, uint, bool, array, structure, Elements, none, more}
use Rattle.mt_model.specs.Trees.{untagged}
use Rattle.mt_model.specs.messages.Blocks.{optional_number, path_tree, event_path_tree, refused_tree, item_block, item_tree}
use Rattle.mt_model.specs.declared.messages.message.Item.TheVariants as items
use Rattle.mt_model.specs.declared.messages.message.Item.{Item}
use Rattle.mt_model.specs.declared.messages.message.Path.{Path}
use Rattle.mt_model.specs.declared.node.state.Version.{Version}
use Rattle.mt_im.specs.Requests.{optional_blocks, event_filter_tree, version_filter_tree, revision}
use Rattle.mt_im_out.specs.Chunks.{event_items}
use Rattle.mt_im_out.specs.Messages.{optional_truth, status_elements, invoke_response_tree}
use Rattle.mt_im_out.specs.Packing.{optional_bytes}

pub number_tail : (tag : ℕ) (n : Option ℕ) (others : Elements) → narrow_elements (optional_number tag n others) ≡ narrow_elements (optional_number tag n none) ++ narrow_elements others
number_tail tag None others = refl
number_tail tag (Some n) others = ap (λ x. x ++ narrow_elements others) (sym (append-nil (narrow (Context tag) (uint n))))

pub truth_tail : (tag : ℕ) (b : Bool) (others : Elements) → narrow_elements (optional_truth tag b others) ≡ narrow_elements (optional_truth tag b none) ++ narrow_elements others
truth_tail tag false others = refl
truth_tail tag true others = ap (λ x. x ++ narrow_elements others) (sym (append-nil (narrow (Context tag) (bool true))))

-- items in front of others
pub items_tail : (tag : ℕ) (xs : List Item) (others : Elements) → narrow_elements (optional_blocks tag item_tree xs others) ≡ optional_bytes tag (narrow_elements (untagged item_tree xs)) ++ narrow_elements others
items_tail tag [] others = refl
items_tail tag (x ∷ xs) others = refl

-- the numbers of a path in front of others
pub path_fields : (a b c : ℕ) (x y z : Option ℕ) (others : Elements) → narrow_elements (optional_number a x (optional_number b y (optional_number c z others)))
    ≡ narrow_elements (optional_number a x none) ++ (narrow_elements (optional_number b y none) ++ (narrow_elements (optional_number c z none) ++ narrow_elements others))
path_fields a b c x y z others =
    number_tail a x (optional_number b y (optional_number c z others))
    ∙ ap (λ s. narrow_elements (optional_number a x none) ++ s) (number_tail b y (optional_number c z others))
    ∙ ap (λ s. narrow_elements (optional_number a x none) ++ (narrow_elements (optional_number b y none) ++ s)) (number_tail c z others)

-- one item's status in front of others
pub statuses : (x : Item) (xs : List Item) → narrow_elements (status_elements (x ∷ xs)) ≡ narrow_elements (status_elements (x ∷ [])) ++ narrow_elements (status_elements xs)
statuses (items.Attribute path version value) xs = refl
statuses (items.Refused path code) xs = ap (λ s. s ++ narrow_elements (status_elements xs)) (sym (append-nil (narrow Anonymous (refused_tree (path_tree path) code))))
statuses (items.Event e) xs = refl
statuses (items.EventRefused path code) xs = refl

-- one item in front of others, where it is that of an event
pub events : (x : Item) (xs : List Item) → narrow_elements (untagged item_tree (event_items (x ∷ xs))) ≡ narrow_elements (untagged item_tree (event_items (x ∷ []))) ++ narrow_elements (untagged item_tree (event_items xs))
events (items.Attribute path version value) xs = refl
events (items.Refused path code) xs = refl
events (items.Event e) xs = ap (λ s. s ++ narrow_elements (untagged item_tree (event_items xs))) (sym (append-nil (item_block (items.Event e))))
events (items.EventRefused path code) xs = ap (λ s. s ++ narrow_elements (untagged item_tree (event_items xs))) (sym (append-nil (item_block (items.EventRefused path code))))

-- the answer to a command, with what stands around it
pub invoke_is : (tag : ℕ) (fields : Elements) → narrow Anonymous (invoke_response_tree tag (structure fields))
    ≡ ((opening Anonymous 21 ++ (narrow (Context 0) (bool false) ++ (opening (Context 1) 22 ++ (opening Anonymous 21 ++ opening (Context tag) 21)))) ++ length_and_value (structure fields))
    ++ (end_of_container ∷ end_of_container ∷ [] ++ (narrow_elements revision ++ end_of_container ∷ []))
invoke_is tag fields = simp (append_assoc, append-nil)

-- blocks in front of others
pub blocks_tail : {X : Type 0} (tag : ℕ) (block : X → Tree) (xs : List X) (others : Elements) → narrow_elements (optional_blocks tag block xs others) ≡ narrow_elements (optional_blocks tag block xs none) ++ narrow_elements others
blocks_tail tag block [] others = refl
blocks_tail tag block (x ∷ xs) others = ap (λ s. s ++ narrow_elements others) (sym (append-nil (narrow (Context tag) (array (untagged block (x ∷ xs))))))

-- what a read or a subscription asks, in front of others
asked : (a b c d e : ℕ) (paths events : List Path) (filters : List ℕ) (filtered : Bool) (versions : List Version) (others : Elements)
    → narrow_elements (optional_blocks a path_tree paths (optional_blocks b event_path_tree events (optional_blocks c event_filter_tree filters (more (Context d) (bool filtered) (optional_blocks e version_filter_tree versions others)))))
    ≡ narrow_elements (optional_blocks a path_tree paths none) ++ (narrow_elements (optional_blocks b event_path_tree events none) ++ (narrow_elements (optional_blocks c event_filter_tree filters none)
    ++ (narrow (Context d) (bool filtered) ++ (narrow_elements (optional_blocks e version_filter_tree versions none) ++ narrow_elements others))))
asked a b c d e paths events filters filtered versions others =
    blocks_tail a path_tree paths (optional_blocks b event_path_tree events (optional_blocks c event_filter_tree filters (more (Context d) (bool filtered) (optional_blocks e version_filter_tree versions others))))
    ∙ ap (λ s. narrow_elements (optional_blocks a path_tree paths none) ++ s)
    (blocks_tail b event_path_tree events (optional_blocks c event_filter_tree filters (more (Context d) (bool filtered) (optional_blocks e version_filter_tree versions others)))
    ∙ ap (λ s. narrow_elements (optional_blocks b event_path_tree events none) ++ s)
    (blocks_tail c event_filter_tree filters (more (Context d) (bool filtered) (optional_blocks e version_filter_tree versions others))
    ∙ ap (λ s. narrow_elements (optional_blocks c event_filter_tree filters none) ++ (narrow (Context d) (bool filtered) ++ s))
    (blocks_tail e version_filter_tree versions others)))

-- six parts behind what was there, and the end
parts_behind : (o a b c d e f g : List ℕ) → (((((o ++ a) ++ b) ++ c) ++ d) ++ e) ++ (f ++ g) ≡ o ++ ((a ++ (b ++ (c ++ (d ++ (e ++ f))))) ++ g)
parts_behind o a b c d e f g = simp append_assoc

pub asked_behind : (a b c d e : ℕ) (paths events : List Path) (filters : List ℕ) (filtered : Bool) (versions : List Version) (o : List ℕ)
    → (((((o ++ narrow_elements (optional_blocks a path_tree paths none)) ++ narrow_elements (optional_blocks b event_path_tree events none)) ++ narrow_elements (optional_blocks c event_filter_tree filters none))
    ++ narrow (Context d) (bool filtered)) ++ narrow_elements (optional_blocks e version_filter_tree versions none)) ++ (narrow_elements revision ++ end_of_container ∷ [])
    ≡ o ++ (narrow_elements (optional_blocks a path_tree paths (optional_blocks b event_path_tree events (optional_blocks c event_filter_tree filters (more (Context d) (bool filtered) (optional_blocks e version_filter_tree versions revision)))))
    ++ end_of_container ∷ [])
asked_behind a b c d e paths events filters filtered versions o =
    parts_behind o (narrow_elements (optional_blocks a path_tree paths none)) (narrow_elements (optional_blocks b event_path_tree events none)) (narrow_elements (optional_blocks c event_filter_tree filters none))
    (narrow (Context d) (bool filtered)) (narrow_elements (optional_blocks e version_filter_tree versions none)) (narrow_elements revision) (end_of_container ∷ [])
    ∙ ap (λ s. o ++ (s ++ end_of_container ∷ [])) (sym (asked a b c d e paths events filters filtered versions revision))

-- three parts behind what was there, and the end
pub three_behind : (o a b c f g : List ℕ) → (((o ++ a) ++ b) ++ c) ++ (f ++ g) ≡ o ++ ((a ++ (b ++ (c ++ f))) ++ g)
three_behind o a b c f g = simp append_assoc
