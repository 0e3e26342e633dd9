-- What is put block by block is what greedy payloads have.
use Rattle.std.proofs.Common.{◌≡◌, ℕ, Bool, true, false, not, Option, None, List, [], ◌∷◌, ◌++◌, map, refl, sym, ◌∙◌, ap, subst, append_assoc, if◌then◌else◌}
use Rattle.std.specs.List.{flat_map}
use Rattle.mt_model.specs.messages.Blocks.{item_block}
use Rattle.mt_model.specs.declared.messages.message.Item.{Item}
use Rattle.mt_model.specs.declared.messages.message.Payload.{Payload}
use Rattle.mt_model.specs.declared.messages.opcode.TheConstants.{REPORT_DATA}
use Rattle.mt_im_out.specs.Chunks.{fit, greedy_from, greedy, is_event, attribute_items, split_item, split_items, attribute_part, event_parts, at_least_one, parts_of, event_items, report_payload, report_payloads}
use Rattle.mt_im_out.specs.Packing.{Packed, blocks_payload, put, put_all, put_attributes, finished}
use Rattle.mt_im_out.proofs.Bodies.{bytes_of, bytes_one, bytes_more, joins_fit, report_is}

-- Items of attributes are put as what stands for them.

pub put_all-append : (p : Packed) (xs ys : List Item) → put_all p (xs ++ ys) ≡ put_all (put_all p xs) ys
put_all-append p [] ys = refl
put_all-append p (x ∷ xs) ys = put_all-append (put p (item_block x)) xs ys

pub put_attributes_are : (p : Packed) (xs : List Item) → put_attributes p xs ≡ put_all p (split_items (attribute_items xs))
put_attributes_are p [] = refl
put_attributes_are p (x ∷ xs) =
    elim (is_event x) as (λ b. put_attributes (if b then p else put_all p (split_item x)) xs
    ≡ put_all p (flat_map split_item (if not b then x ∷ attribute_items xs else attribute_items xs))) [
      | true ↦ put_attributes_are p xs
      | false ↦ put_attributes_are (put_all p (split_item x)) xs ∙ sym (put_all-append p (split_item x) (split_items (attribute_items xs)))
    ]

-- Payloads.

pub payload_is : (subscription : Option ℕ) (xs es : List Item) (follows suppress : Bool)
    → blocks_payload subscription (bytes_of xs) (bytes_of es) follows suppress ≡ report_payload subscription (record { attributes = xs; events = es }) follows suppress
payload_is subscription xs es follows suppress = ap (λ (z : List ℕ). let made : Payload = record { opcode = REPORT_DATA; bytes = z; deadline = None } in made) (report_is subscription xs es follows suppress)

-- there is a first payload
pub begins : (begun xs : List Item) → (first : List Item) × (others : List (List Item)) × (greedy_from begun xs ≡ first ∷ others)
unfolding greedy_from
begins begun [] = (begun, [], refl)
begins begun (x ∷ xs) =
    elim (fit (begun ++ x ∷ [])) as (λ b. (first : List Item) × (others : List (List Item))
    × ((if b then greedy_from (begun ++ x ∷ []) xs else begun ∷ greedy_from (x ∷ []) xs) ≡ first ∷ others)) [
      | true ↦ begins (begun ++ x ∷ []) xs
      | false ↦ (begun, greedy_from (x ∷ []) xs, refl)
    ]

-- the payloads of parts in front of others
abbrev pub payloads_with : Option ℕ → Bool → List Item → List (List Item) → List Payload
payloads_with subscription suppress es parts = report_payloads subscription suppress (map attribute_part parts ++ event_parts es)

-- a payload in front of others says that they follow
pub payload_first : (subscription : Option ℕ) (suppress : Bool) (es begun first : List Item) (others parts : List (List Item)) → parts ≡ first ∷ others
    → payloads_with subscription suppress es (begun ∷ parts) ≡ report_payload subscription (attribute_part begun) true false ∷ payloads_with subscription suppress es parts
payload_first subscription suppress es begun first others parts e =
    subst (λ (ps : List (List Item)). payloads_with subscription suppress es (begun ∷ ps) ≡ report_payload subscription (attribute_part begun) true false ∷ payloads_with subscription suppress es ps) (sym e) refl

abbrev pub begun_with : Option ℕ → List Payload → List ℕ → Packed
begun_with subscription done bytes = record { subscription = subscription; done = done; begun = bytes }

ends : (subscription : Option ℕ) (done : List Payload) (b : Item) (bs es : List Item) (suppress : Bool)
    → finished (begun_with subscription done (bytes_of (b ∷ bs))) (bytes_of es) suppress ≡ done ++ payloads_with subscription suppress es ((b ∷ bs) ∷ [])
ends subscription done b bs [] suppress = ap (λ p. done ++ p ∷ []) (payload_is subscription (b ∷ bs) [] false suppress)
ends subscription done b bs (e ∷ es) suppress =
    append_assoc done (blocks_payload subscription (bytes_of (b ∷ bs)) [] true false ∷ []) (blocks_payload subscription [] (bytes_of (e ∷ es)) false suppress ∷ [])
    ∙ ap (λ p. done ++ p ∷ blocks_payload subscription [] (bytes_of (e ∷ es)) false suppress ∷ []) (payload_is subscription (b ∷ bs) [] true false)
    ∙ ap (λ p. done ++ report_payload subscription (attribute_part (b ∷ bs)) true false ∷ p ∷ []) (payload_is subscription [] (e ∷ es) false suppress)

pub packs : (subscription : Option ℕ) (done : List Payload) (b : Item) (bs xs es : List Item) (suppress : Bool)
    → finished (put_all (begun_with subscription done (bytes_of (b ∷ bs))) xs) (bytes_of es) suppress ≡ done ++ payloads_with subscription suppress es (greedy_from (b ∷ bs) xs)
unfolding greedy_from
packs subscription done b bs [] es suppress = ends subscription done b bs es suppress
packs subscription done b bs (x ∷ xs) es suppress =
    let here : Payload = blocks_payload subscription (bytes_of (b ∷ bs)) [] true false in
    let joined : Packed = begun_with subscription done (bytes_of (b ∷ bs) ++ item_block x) in
    let next : Packed = begun_with subscription (done ++ here ∷ []) (item_block x) in
    let Goes : Bool → Bool → Type 0 = λ j f. finished (put_all (if j then joined else next) xs) (bytes_of es) suppress
    ≡ done ++ payloads_with subscription suppress es (if f then greedy_from ((b ∷ bs) ++ x ∷ []) xs else (b ∷ bs) ∷ greedy_from (x ∷ []) xs) in
    let joins_here : Goes true true =
    ap (λ z. finished (put_all (begun_with subscription done z) xs) (bytes_of es) suppress) (bytes_more (b ∷ bs) x)
    ∙ packs subscription done b (bs ++ x ∷ []) xs es suppress in
    let begins_next : Goes false false =
    ap (λ z. finished (put_all (begun_with subscription (done ++ here ∷ []) z) xs) (bytes_of es) suppress) (sym (bytes_one x))
    ∙ packs subscription (done ++ here ∷ []) x [] xs es suppress
    ∙ append_assoc done (here ∷ []) (payloads_with subscription suppress es (greedy_from (x ∷ []) xs))
    ∙ ap (λ p. done ++ p ∷ payloads_with subscription suppress es (greedy_from (x ∷ []) xs)) (payload_is subscription (b ∷ bs) [] true false)
    ∙ ap (λ z. done ++ z) (sym (payload_first subscription suppress es (b ∷ bs) (begins (x ∷ []) xs).0 (begins (x ∷ []) xs).1 (greedy_from (x ∷ []) xs) (begins (x ∷ []) xs).2)) in
    let same : (f : Bool) → Goes f f = λ f. elim f as (λ v. Goes v v) [ true ↦ joins_here | false ↦ begins_next ] in
    subst (λ j. Goes j (fit ((b ∷ bs) ++ x ∷ []))) (sym (joins_fit b bs x)) (same (fit ((b ∷ bs) ++ x ∷ [])))

-- from no item on
pub packs_all : (subscription : Option ℕ) (xs es : List Item) (suppress : Bool)
    → finished (put_all (begun_with subscription [] []) xs) (bytes_of es) suppress
    ≡ report_payloads subscription suppress (at_least_one (map attribute_part (greedy xs) ++ event_parts es))
packs_all subscription [] [] suppress = ap (λ p. p ∷ []) (payload_is subscription [] [] false suppress)
packs_all subscription [] (e ∷ es) suppress = ap (λ p. p ∷ []) (payload_is subscription [] (e ∷ es) false suppress)
packs_all subscription (x ∷ xs) es suppress =
    let found = begins (x ∷ []) xs in
    let Ends : List (List Item) → Type 0 = λ parts. payloads_with subscription suppress es parts
    ≡ report_payloads subscription suppress (at_least_one (map attribute_part parts ++ event_parts es)) in
    ap (λ z. finished (put_all (begun_with subscription [] z) xs) (bytes_of es) suppress) (sym (bytes_one x))
    ∙ packs subscription [] x [] xs es suppress
    ∙ subst Ends (sym found.2) refl

-- the payloads of a report
pub packs_report : (subscription : Option ℕ) (items : List Item) (suppress : Bool)
    → finished (put_attributes (begun_with subscription [] []) items) (bytes_of (event_items items)) suppress ≡ report_payloads subscription suppress (parts_of items)
packs_report subscription items suppress =
    ap (λ p. finished p (bytes_of (event_items items)) suppress) (put_attributes_are (begun_with subscription [] []) items)
    ∙ packs_all subscription (split_items (attribute_items items)) (event_items items) suppress
