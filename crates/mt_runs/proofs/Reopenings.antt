-- The whole that is reopened is valid, who is in its table, and what it leaves of a fabric's own part.
use Rattle.std.proofs.Common.{◌≡◌, ℕ, zero, suc, ◌+◌, ◌^◌, ◌==◌, Bool, true, false, List, [], ◌∷◌, refl, sym, filter, if◌then◌else◌, replicate}
use Rattle.std.proofs.lemmas.Bool.{le-leb}
use Rattle.mt_model.specs.declared.messages.message.Happened.{Happened}
use Rattle.mt_events.specs.Rings.{ring_of}
use Rattle.mt_subs.specs.Subscriptions.{next_id, none}
use Rattle.mt_ledger.specs.Laws as ledger_laws
use Rattle.mt_ledger.specs.history.History.{begun_at}
use Rattle.mt_ledger.specs.history.Isolation.{own_events}
use Rattle.mt_machine.specs.Isolation.{own}
use Rattle.mt_regained.specs.Reopening as nodes
use Rattle.mt_regained.specs.Reopening.{reopened_node}
use Rattle.mt_runs.specs.Isolation.{talks_among}
use Rattle.mt_runs.specs.Laws.{ReopeningsAreRollbacks, WholeReopensValid, WholeReopeningsSeeTheOwn, WholeReopeningsTakeTheAdded}
use Rattle.mt_runs.specs.Reopening.{ceiling_of, reopened}
use Rattle.mt_runs.specs.Whole.{begun_in, is_of_boot}
use Rattle.mt_runs.proofs.Standing.{begun_names, begun_quiet}
use Rattle.mt_runs.proofs.Valid.{ids_differ, rows_differ}

-- The reopened node has the sessions of its boot, and each has its talk, in which nothing was said.
pub reopens_valid : nodes.ReopensValid → ledger_laws.OpensLedger → WholeReopensValid
reopens_valid node_valid opens_ledger sessions w fit valid room =
    let boot = w.state.node.boot + 1 in
    let behind = reopened sessions w in
    let fabrics = behind.state.node.fabrics in
    record {
      node = node_valid sessions (ceiling_of w) w.state.node valid.node (le-leb boot (2 ^ 31) room);
      deadlines = record { few = λ fabric. refl; differ = refl; known = refl };
      ledger = opens_ledger behind.state.node (ceiling_of w);
      sessions_differ = rows_differ boot fabrics sessions (ids_differ sessions fit);
      talks_stand = begun_names fabrics (filter (is_of_boot boot) sessions);
      quiet = begun_quiet behind.state.node (filter (is_of_boot boot) sessions);
    }

pub reopenings_take : nodes.ReopeningsTakeTheAdded → WholeReopeningsTakeTheAdded
reopenings_take takes sessions fabric w valid = takes sessions (ceiling_of w) fabric w.state.node valid.node

contradiction : {A : Type 0} → false ≡ true → A
contradiction is = absurd cc

-- Behind a start nothing is private to anybody.

none_in : (count fabric : ℕ) → ring_of fabric (replicate count []) ≡ []
none_in zero fabric = refl
none_in (suc count) zero = refl
none_in (suc count) (suc fabric) = none_in count fabric

none_behind : (fabric : ℕ) (ring : List Happened) (nobody : Bool) → (fabric == 0) ≡ nobody → (if nobody then [] else ring_of fabric (ring ∷ replicate 16 [])) ≡ []
none_behind fabric ring true is = refl
none_behind zero ring false is = contradiction (sym is)
none_behind (suc fabric) ring false is = none_in 16 fabric

no_events : (fabric ceiling : ℕ) → own_events fabric (begun_at ceiling) ≡ []
no_events fabric ceiling = none_behind fabric (ring_of 0 (begun_at ceiling).rings) (fabric == 0) refl

pub reopenings_see : nodes.ReopeningsSeeTheOwn → WholeReopeningsSeeTheOwn
reopenings_see sees sessions fabric w valid some there kept =
    let boot = w.state.node.boot + 1 in
    let same : own fabric (reopened_node sessions (ceiling_of w) w.state.node) ≡ nodes.reopened_own sessions boot fabric (own fabric w.state.node) = sees sessions (ceiling_of w) fabric w.state.node valid.node some there kept in
    λ i. record {
      whole = record { node = same i; deadlines = [] };
      ledger = record { events = no_events fabric (ceiling_of w) i; subs = []; next = next_id fabric none };
      talks = talks_among (same i).sessions (begun_in boot sessions);
    }

-- What is kept behind a reopening is what was kept before, rolled back.
pub reopenings_roll_back : nodes.ReopeningsRollBack → ReopeningsAreRollbacks
reopenings_roll_back back sessions w valid = back sessions (ceiling_of w) w.state.node valid.node
