-- What a time step gives back is given back once: a reopening behind it leaves the same own part as one before it.
use Rattle.std.proofs.Common.{◌≡◌, ◌≢◌, ℕ, ◌==◌, ◌++◌, inl, inr, nat_le, Bool, true, false, List, [], ◌∷◌, Option, Some, None, arith, refl, sym, ap, ◌∙◌, filter, map, if◌then◌else◌}
use Rattle.std.proofs.lemmas.Bool.{and_from, and_parts, cases_Bool, cond_both, eqb-true}
use Rattle.mt_fabrics.specs.Table.{has_index}
use Rattle.mt_failsafe.specs.Notes.{was_added, was_updated}
use Rattle.mt_model.specs.Optional.{is_that}
use Rattle.mt_model.specs.rows.Seen.{own_entries}
use Rattle.mt_model.specs.tables.Leaving.{stays}
use Rattle.mt_model.specs.declared.node.action.Action.TheVariants as actions
use Rattle.mt_model.specs.declared.node.action.NodeStep.{NodeStep}
use Rattle.mt_model.specs.declared.node.action.NodeStep.TheVariants.{Expire}
use Rattle.mt_model.specs.declared.node.state.NodeState.{NodeState}
use Rattle.mt_model.specs.declared.tables.fabric.Credentials.{Credentials}
use Rattle.mt_model.specs.declared.tables.fabric.Fabric.{Fabric}
use Rattle.mt_model.specs.declared.tables.network.Armed.{Armed}
use Rattle.mt_model.specs.declared.texts.config.SessionRow.{SessionRow}
use Rattle.mt_admin.specs.Windows.{closed, has_ended, number_at, window_end}
use Rattle.mt_opcreds.specs.Laws.{are_credentials_if}
use Rattle.mt_machine.specs.Effects.{after_all}
use Rattle.mt_machine.specs.Environment.{Environment}
use Rattle.mt_machine.specs.Isolation.{own, owns}
use Rattle.mt_machine.specs.Laws.{TicksSpareOthers}
use Rattle.mt_machine.specs.Rollback.{given_back, is_due}
use Rattle.mt_machine.specs.State.{IsValid, are_networks, is_added, is_updated, keeps_facts, saves_rightly}
use Rattle.mt_machine.specs.Step.{after_action, at_time, rows_of_nobody}
use Rattle.mt_regained.specs.Reopening as nodes
use Rattle.mt_regained.specs.Reopening.{fabrics_given_back, own_sessions, with_given_back}
use Rattle.mt_runs.specs.Isolation.{talks_among}
use Rattle.mt_runs.specs.Laws.{TicksGiveBackOnce}
use Rattle.mt_runs.specs.Whole.{begun_in}
use Rattle.mt_subs.specs.Subscriptions.{next_id, none}

contradiction : {A : Type 0} → false ≡ true → A
contradiction is = absurd cc

-- A fail-safe under which nothing was updated, with all else as it is.

abbrev unnoted : Armed → Armed
unnoted armed = record armed { updated = None; saved_credentials = None }

abbrev without_update : Option Armed → Option Armed
without_update None = None
without_update (Some armed) = Some (unnoted armed)

abbrev with_armed : NodeState → Option Armed → NodeState
with_armed s armed = record s { armed = armed }

-- It stands beside the state as well.

facts_still : (s : NodeState) (armed : Armed) → keeps_facts s.fabrics (Some armed) ≡ true → keeps_facts s.fabrics (Some (unnoted armed)) ≡ true
facts_still s armed facts = and_from _ _ (and_parts (is_added s.fabrics armed armed.added) (is_updated s.fabrics armed armed.added armed.updated) facts).0 refl

saves_still : (armed : Armed) → saves_rightly (Some armed) ≡ true → saves_rightly (Some (unnoted armed)) ≡ true
saves_still armed saves = and_from _ _ (and_parts (are_networks armed.saved_networks) (are_credentials_if armed.saved_credentials) saves).0 refl

valid_still : (s : NodeState) (armed : Option Armed) → IsValid (with_armed s armed) → IsValid (with_armed s (without_update armed))
valid_still s None valid = valid
valid_still s (Some armed) valid = record {
  fabric_count = valid.fabric_count;
  fabrics_rise = valid.fabrics_rise;
  indexes = valid.indexes;
  fabric_forms = valid.fabric_forms;
  identities_differ = valid.identities_differ;
  labels_differ = valid.labels_differ;
  entries_rise = valid.entries_rise;
  entry_forms = valid.entry_forms;
  entries_owned = valid.entries_owned;
  entry_counts = valid.entry_counts;
  rows_rise = valid.rows_rise;
  row_forms = valid.row_forms;
  rows_stand = valid.rows_stand;
  row_counts = valid.row_counts;
  roots_differ = valid.roots_differ;
  root_forms = valid.root_forms;
  roots_used = valid.roots_used;
  network_count = valid.network_count;
  network_forms = valid.network_forms;
  network_ids_differ = valid.network_ids_differ;
  sessions_stand = valid.sessions_stand;
  plain_stands = valid.plain_stands;
  versions_stand = valid.versions_stand;
  count_fits = valid.count_fits;
  changes_counted = valid.changes_counted;
  newest_counts = valid.newest_counts;
  changes_stand = valid.changes_stand;
  changes_of_all = valid.changes_of_all;
  changes_of_attributes = valid.changes_of_attributes;
  failsafe_facts = facts_still s armed valid.failsafe_facts;
  failsafe_names = valid.failsafe_names;
  saved_stand = saves_still armed valid.saved_stand;
  given_stand = valid.given_stand;
  sessions_follow = valid.sessions_follow;
  plain_follow = valid.plain_follow;
  boot_fits = valid.boot_fits;
}

added_still : (fabric : ℕ) (armed : Option Armed) → was_added fabric (without_update armed) ≡ was_added fabric armed
added_still fabric None = refl
added_still fabric (Some armed) = refl

updated_no_more : (fabric : ℕ) (armed : Option Armed) → was_updated fabric (without_update armed) ≡ false
updated_no_more fabric None = refl
updated_no_more fabric (Some armed) = refl

-- Rows and entries behind a time step hang on nothing that was updated.

abbrev ticks_of : Bool → Bool → List NodeStep
ticks_of due ended = (if due then Expire ∷ [] else []) ++ (if ended then closed else [])

same_rows : (s : NodeState) (armed : Armed) (ms : ℕ) (due ended : Bool)
    → (after_all None (ticks_of due ended) (at_time ms (with_armed s (Some armed)))).rows ≡ (after_all None (ticks_of due ended) (at_time ms (with_armed s (Some (unnoted armed))))).rows
same_rows s armed ms true true = refl
same_rows s armed ms true false = refl
same_rows s armed ms false true = refl
same_rows s armed ms false false = refl

same_entries : (s : NodeState) (armed : Armed) (ms : ℕ) (due ended : Bool)
    → (after_all None (ticks_of due ended) (at_time ms (with_armed s (Some armed)))).entries ≡ (after_all None (ticks_of due ended) (at_time ms (with_armed s (Some (unnoted armed))))).entries
same_entries s armed ms true true = refl
same_entries s armed ms true false = refl
same_entries s armed ms false true = refl
same_entries s armed ms false false = refl

-- What is given back.

-- the fabric keeps its index
pub given_back_still : (updated : Option ℕ) (saved : Option Credentials) (f : Fabric) → (given_back updated saved f).index ≡ f.index
given_back_still None saved f = refl
given_back_still (Some updated) None f = refl
given_back_still (Some updated) (Some saved) f = cond_both (f.index == updated) (record f { credentials = saved }) f (λ (g : Fabric). g.index ≡ f.index) (λ is. refl) (λ other. refl)

turned : (a b : ℕ) → (a == b) ≡ (b == a)
turned a b = grind arith

same_either : (b : Bool) (saved : Option Credentials) → (if b then saved else saved) ≡ saved
same_either true saved = refl
same_either false saved = refl

saved_if : (b : Bool) (saved : Credentials) (f : Fabric) → (if b then record f { credentials = saved } else f) ≡ with_given_back (if b then Some saved else None) f
saved_if true saved f = refl
saved_if false saved f = refl

one_back : (updated : Option ℕ) (saved : Option Credentials) (fabric : ℕ) (f : Fabric) → f.index ≡ fabric → given_back updated saved f ≡ with_given_back (if is_that fabric updated then saved else None) f
one_back None saved fabric f is = refl
one_back (Some updated) None fabric f is = ap (λ (kept : Option Credentials). with_given_back kept f) (sym (same_either (updated == fabric) None))
one_back (Some updated) (Some saved) fabric f is =
    ap (λ (b : Bool). if b then record f { credentials = saved } else f) (ap (λ n. n == updated) is ∙ turned fabric updated)
    ∙ saved_if (updated == fabric) saved f

-- of a fabric that was not added the rollback gives back what is saved of it
all_back : (updated added : Option ℕ) (saved : Option Credentials) (fabric : ℕ) → is_that fabric added ≡ false → (fabrics : List Fabric)
    → map (with_given_back None) (filter (has_index fabric) (map (given_back updated saved) (filter (λ (f : Fabric). stays added f.index) fabrics)))
    ≡ map (with_given_back (if is_that fabric updated then saved else None)) (filter (has_index fabric) fabrics)
all_back updated added saved fabric kept [] = refl
all_back updated added saved fabric kept (f ∷ fabrics) =
    let rest = all_back updated added saved fabric kept fabrics in
    let still : ((given_back updated saved f).index == fabric) ≡ (f.index == fabric) = ap (λ n. n == fabric) (given_back_still updated saved f) in
    elim (cases_Bool (f.index == fabric)) [
      | inl its ↦
          let stay : is_that f.index added ≡ false = ap (λ n. is_that n added) (eqb-true f.index fabric its) ∙ kept in
          let same : ((given_back updated saved f).index == fabric) ≡ true = still ∙ its in
          rw (stay, same, its) (λ i. one_back updated saved fabric f (eqb-true f.index fabric its) i ∷ rest i)
      | inr other ↦
          let same : ((given_back updated saved f).index == fabric) ≡ false = still ∙ other in
          elim (cases_Bool (is_that f.index added)) [
            | inl goes ↦ rw (goes, other) rest
            | inr stay ↦ rw (stay, same, other) rest
          ]
    ]

module _ (given : Environment) where
  abbrev ticked : NodeState → ℕ → NodeState
  ticked s ms = after_action given s actions.Expire ms

  rows_ticked : (s : NodeState) (armed : Option Armed) (ms : ℕ) → (ticked (with_armed s armed) ms).rows ≡ (ticked (with_armed s (without_update armed)) ms).rows
  rows_ticked s None ms = refl
  rows_ticked s (Some armed) ms = same_rows s armed ms (nat_le armed.until ms) (has_ended ms (number_at (rows_of_nobody s) window_end))

  entries_ticked : (s : NodeState) (armed : Option Armed) (ms : ℕ) → (ticked (with_armed s armed) ms).entries ≡ (ticked (with_armed s (without_update armed)) ms).entries
  entries_ticked s None ms = refl
  entries_ticked s (Some armed) ms = same_entries s armed ms (nat_le armed.until ms) (has_ended ms (number_at (rows_of_nobody s) window_end))

  back_by : (s : NodeState) (armed : Option Armed) (fabric ms : ℕ) (due ended : Bool) → was_added fabric armed ≡ false → due ≡ is_due armed ms
      → fabrics_given_back (own fabric (after_all None (ticks_of due ended) (at_time ms (with_armed s armed)))) ≡ fabrics_given_back (own fabric (with_armed s armed))
  back_by s None fabric ms true ended kept is = contradiction (sym is)
  back_by s None fabric ms false true kept is = refl
  back_by s None fabric ms false false kept is = refl
  back_by s (Some armed) fabric ms false true kept is = refl
  back_by s (Some armed) fabric ms false false kept is = refl
  back_by s (Some armed) fabric ms true true kept is = all_back armed.updated armed.added armed.saved_credentials fabric kept s.fabrics
  back_by s (Some armed) fabric ms true false kept is = all_back armed.updated armed.added armed.saved_credentials fabric kept s.fabrics

  back_ticked : (s : NodeState) (fabric ms : ℕ) → was_added fabric s.armed ≡ false → fabrics_given_back (own fabric (ticked s ms)) ≡ fabrics_given_back (own fabric s)
  back_ticked s fabric ms kept = back_by s s.armed fabric ms (is_due s.armed ms) (has_ended ms (number_at (rows_of_nobody s) window_end)) kept refl

  -- The node.
  module _ (spare : TicksSpareOthers) (fabric ms : ℕ) (some : fabric ≢ 0) (s : NodeState) (valid : IsValid s) (kept : was_added fabric s.armed ≡ false) where
    abbrev bare : NodeState
    bare = with_armed s (without_update s.armed)

    bare_spared : own fabric (ticked bare ms) ≡ own fabric bare
    bare_spared = λ i.
        (spare given fabric (record { node = bare; deadlines = [] }) ms (valid_still s s.armed valid) some (added_still fabric s.armed ∙ kept) (updated_no_more fabric s.armed) i).node

    rows_same : (own fabric (ticked s ms)).rows ≡ (own fabric s).rows
    rows_same = ap (filter (owns fabric)) (rows_ticked s s.armed ms) ∙ (λ i. (bare_spared i).rows)

    entries_same : (own fabric (ticked s ms)).entries ≡ (own fabric s).entries
    entries_same = ap (own_entries fabric) (entries_ticked s s.armed ms) ∙ (λ i. (bare_spared i).entries)

    node_once : (sessions : List SessionRow) (boot : ℕ) → nodes.reopened_own sessions boot fabric (own fabric (ticked s ms)) ≡ nodes.reopened_own sessions boot fabric (own fabric s)
    node_once sessions boot = λ i. record {
      rows = rows_same i;
      entries = entries_same i;
      fabrics = back_ticked s fabric ms kept i;
      saved = None;
      sessions = own_sessions sessions boot fabric (back_ticked s fabric ms kept i);
      is_plain = false;
    }

pub give_back_once : TicksSpareOthers → TicksGiveBackOnce
give_back_once spare given sessions boot fabric ms w keeps valid some there kept =
    let same : nodes.reopened_own sessions boot fabric (own fabric (after_action given w.state.node actions.Expire ms)) ≡ nodes.reopened_own sessions boot fabric (own fabric w.state.node) =
    node_once given spare fabric ms some w.state.node valid.node kept sessions boot in
    λ i. record {
      whole = record { node = same i; deadlines = [] };
      ledger = record { events = []; subs = []; next = next_id fabric none };
      talks = talks_among (same i).sessions (begun_in boot sessions);
    }
