-- The facts of the grammar hold of what is kept of a valid state.
use Rattle.std.proofs.Common.{◌≡◌, ◌∙◌, ◌==◌, ◌&&◌, ◌||◌, ℕ, nat_le, bytes_eq, filter, length, inl, inr, Bool, true, false, List, [], ◌∷◌, Option, Some, None, Result, Ok, Err, option_map, refl}
use Rattle.std.specs.List.{flat_map, list_all}
use Rattle.std.proofs.lemmas.Bool.{and_from, and_parts, cases_Bool, or_left, or_right}
use Rattle.std.proofs.lemmas.List.Folds.{list_all-append}
use Rattle.mt_fabrics.specs.Table as table
use Rattle.mt_failsafe.specs.Facts.{is_added_to, is_updated_in}
use Rattle.mt_meta.specs.Finding.{find_data_of}
use Rattle.mt_meta.specs.Forms.{has_form}
use Rattle.mt_meta.specs.Stored.{is_stored}
use Rattle.mt_meta.specs.declared.meta.Meta.{Meta}
use Rattle.mt_model.specs.tables.Holding.{have_one_id, is_network, saves_identity}
use Rattle.mt_model.specs.texts.Config.{are_credentials, is_certificate, none_alike}
use Rattle.mt_model.specs.declared.limits.TheConstants.{FABRICS, NETWORKS}
use Rattle.mt_model.specs.declared.messages.status.Status.{Status}
use Rattle.mt_model.specs.declared.node.state.NodeState.{NodeState}
use Rattle.mt_model.specs.declared.rows.place.Row.{Row}
use Rattle.mt_model.specs.declared.tables.fabric.Credentials.{Credentials}
use Rattle.mt_model.specs.declared.tables.fabric.Fabric.{Fabric}
use Rattle.mt_model.specs.declared.tables.network.Armed.{Armed}
use Rattle.mt_model.specs.declared.tables.network.Network.{Network}
use Rattle.mt_grammar.specs.Facts.{are_networks, are_roots, are_rows, are_saved, facts_hold, is_failsafe, is_idle, most_idle}
use Rattle.mt_grammar.specs.Facts as facts
use Rattle.mt_grammar.specs.declared.keys.Key.{Key}
use Rattle.mt_grammar.specs.declared.keys.Key.TheVariants as keys
use Rattle.mt_machine.specs.State.{IsValid, is_added, is_row, is_row_at, is_updated, is_used, keeps_facts, names_rightly, saves_rightly}
use Rattle.mt_machine.specs.State as state
use Rattle.mt_lasting.specs.Contents.{kept_failsafe, kept_of, rows_under}
use Rattle.mt_lasting.specs.Keys.{all_keys}
use Rattle.mt_lasting.proofs.IdleRoots.{few_idle}

-- Rows: each that is kept is of the state, and so it is of a fabric of the table or of none.

all_filter : {X : Type 0} (p keep : X → Bool) (xs : List X) → list_all p xs ≡ true → list_all p (filter keep xs) ≡ true
all_filter p keep [] all = refl
all_filter p keep (x ∷ xs) all =
    let both = and_parts (p x) (list_all p xs) all in
    elim (cases_Bool (keep x)) [
      | inl kept ↦ rw kept (and_from _ _ both.0 (all_filter p keep xs both.1))
      | inr gone ↦ rw gone (all_filter p keep xs both.1)
    ]

all_weaker : {X : Type 0} (p q : X → Bool) → ((x : X) → p x ≡ true → q x ≡ true) → (xs : List X) → list_all p xs ≡ true → list_all q xs ≡ true
all_weaker p q each [] all = refl
all_weaker p q each (x ∷ xs) all = let both = and_parts (p x) (list_all p xs) all in and_from _ _ (each x both.0) (all_weaker p q each xs both.1)

all_flat : {X Y : Type 0} (p : Y → Bool) (f : X → List Y) → ((x : X) → list_all p (f x) ≡ true) → (xs : List X) → list_all p (flat_map f xs) ≡ true
all_flat p f each [] = refl
all_flat p f each (x ∷ xs) = list_all-append p (f x) (flat_map f xs) ∙ and_from _ _ (each x) (all_flat p f each xs)

owner_known : (fabrics : List Fabric) (scoped : Bool) (fabric : ℕ) → state.is_row_of fabrics scoped fabric ≡ true → (fabric == 0 || table.is_used fabric fabrics) ≡ true
owner_known fabrics true fabric its = or_right (fabric == 0) (table.is_used fabric fabrics) its
owner_known fabrics false fabric its = or_left (fabric == 0) (table.is_used fabric fabrics) its

row_known : (fabrics : List Fabric) (row : Row) (found : Result Meta Status) → is_row_at fabrics row found ≡ true → facts.is_row_of fabrics row ≡ true
row_known fabrics row (Ok meta) its = owner_known fabrics meta.scoped row.fabric (and_parts (has_form meta row.fabric row.value) (state.is_row_of fabrics meta.scoped row.fabric) its).1
row_known fabrics row (Err status) its = absurd cc

under_known : (p : Row → Bool) (s : NodeState) → list_all p s.rows ≡ true → (key : Key) → list_all p (rows_under s key) ≡ true
under_known p s all keys.Boot = refl
under_known p s all keys.Ceiling = refl
under_known p s all (keys.Single place) = all_filter p _ s.rows all
under_known p s all (keys.Items fabric place) = all_filter p _ s.rows all
under_known p s all (keys.Fabric index) = refl
under_known p s all keys.Roots = refl
under_known p s all keys.Networks = refl
under_known p s all keys.Failsafe = refl

rows_hold : (s : NodeState) → list_all (is_row s.fabrics) s.rows ≡ true → are_rows s.fabrics (flat_map (rows_under s) all_keys) ≡ true
rows_hold s forms =
    let known = all_weaker (is_row s.fabrics) (facts.is_row_of s.fabrics)
    (λ row its. row_known s.fabrics row (find_data_of row.place) (and_parts (is_stored row.place) (is_row_at s.fabrics row (find_data_of row.place)) its).1) s.rows forms in
    all_flat (facts.is_row_of s.fabrics) (rows_under s) (under_known (facts.is_row_of s.fabrics) s known) all_keys

-- Roots and networks.

most_kept : (armed : Option Armed) → most_idle (option_map kept_failsafe armed) ≡ most_idle armed
most_kept None = refl
most_kept (Some armed) = refl

roots_hold : (fabrics : List Fabric) (armed : Option Armed) (roots : List (List ℕ)) → list_all is_certificate roots ≡ true → none_alike bytes_eq roots ≡ true → list_all (is_used fabrics armed) roots ≡ true
    → are_roots fabrics (option_map kept_failsafe armed) roots ≡ true
unfolding are_roots
roots_hold fabrics armed roots forms differ used = rw (most_kept armed) (and_from _ _ forms (and_from _ _ differ (few_idle fabrics armed roots used differ)))

networks_hold : (networks : List Network) → (nat_le (length networks) NETWORKS && (list_all is_network networks && none_alike have_one_id networks)) ≡ true → are_networks networks ≡ true
unfolding are_networks
networks_hold networks holds = holds

-- The fail-safe.

added_kept : (there : ℕ → Bool) (armed : Armed) (added : Option ℕ) → is_added_to there armed added ≡ true → is_added_to there (kept_failsafe armed) added ≡ true
added_kept there armed None holds = holds
added_kept there armed (Some fabric) holds = holds

updated_kept : (saves : ℕ → Option Credentials → Bool) (armed : Armed) (added updated : Option ℕ) → is_updated_in saves armed added updated ≡ true → is_updated_in saves (kept_failsafe armed) added updated ≡ true
updated_kept saves armed added None holds = holds
updated_kept saves armed None (Some fabric) holds = holds
updated_kept saves armed (Some added) (Some fabric) holds = holds

-- credentials that are saved have their form
saved_kept : (armed : Armed) (saved : Option Credentials) → saves_rightly (Some (record armed { saved_credentials = saved })) ≡ true → are_saved saved ≡ true
saved_kept armed None saves = refl
saved_kept armed (Some saved) saves = (and_parts (state.are_networks armed.saved_networks) (are_credentials saved) saves).1

failsafe_holds : (fabrics : List Fabric) (armed : Option Armed) → keeps_facts fabrics armed ≡ true → names_rightly fabrics armed ≡ true → saves_rightly armed ≡ true → is_failsafe fabrics (option_map kept_failsafe armed) ≡ true
unfolding is_failsafe
failsafe_holds fabrics None facts names saves = refl
failsafe_holds fabrics (Some armed) facts names saves =
    let fact = and_parts (is_added fabrics armed armed.added) (is_updated fabrics armed armed.added armed.updated) facts in
    let name = and_parts (nat_le armed.owner FABRICS) (armed.context == 0 || state.is_among fabrics armed.context) names in
    let saved = saved_kept armed armed.saved_credentials saves in
    let networks = and_parts (state.are_networks armed.saved_networks) _ saves in
    and_from _ _ name.1
    (and_from _ _ (added_kept (state.is_among fabrics) armed armed.added fact.0)
    (and_from _ _ (updated_kept (saves_identity fabrics) armed armed.added armed.updated fact.1)
    (and_from _ _ saved (networks_hold armed.saved_networks networks.0))))

pub kept_facts : (s : NodeState) (ceiling : ℕ) → IsValid s → facts_hold (kept_of s ceiling) ≡ true
kept_facts s ceiling valid =
    let fabrics = and_from _ _ valid.fabric_forms (and_from _ _ valid.identities_differ valid.labels_differ) in
    let entries = and_from _ _ valid.entry_forms (and_from _ _ valid.entries_owned valid.entry_counts) in
    let rows = rows_hold s valid.row_forms in
    let roots = roots_hold s.fabrics s.armed s.roots valid.root_forms valid.roots_differ valid.roots_used in
    let networks = networks_hold s.networks (and_from _ _ valid.network_count (and_from _ _ valid.network_forms valid.network_ids_differ)) in
    let failsafe = failsafe_holds s.fabrics s.armed valid.failsafe_facts valid.failsafe_names valid.saved_stand in
    and_from _ _ (and_from _ _ fabrics (and_from _ _ rows entries)) (and_from _ _ roots (and_from _ _ networks failsafe))
