-- The node behind a loss of power, made of the state before it, and what that leaves of a fabric's own part.
use Rattle.std.specs.Prelude.{◌≡◌, ◌≢◌, ◌+◌, ◌^◌, ◌&&◌, ℕ, true, false, not, nat_le, List, Option, Some, None, filter, map}
use Rattle.mt_failsafe.specs.Notes.{was_added}
use Rattle.mt_model.specs.declared.node.state.NodeSession.{NodeSession}
use Rattle.mt_model.specs.declared.node.state.NodeState.{NodeState}
use Rattle.mt_model.specs.declared.tables.fabric.Credentials.{Credentials}
use Rattle.mt_model.specs.declared.tables.fabric.Fabric.{Fabric}
use Rattle.mt_model.specs.declared.texts.config.SessionRow.{SessionRow}
use Rattle.mt_subs.specs.Leaving.{is_live_as}
use Rattle.mt_machine.specs.Isolation.{Own, own}
use Rattle.mt_machine.specs.Opened.{sessions_of}
use Rattle.mt_machine.specs.Rollback.{rollback}
use Rattle.mt_machine.specs.State.{IsValid, is_member}
use Rattle.mt_lasting.specs.Contents.{kept_of}
use Rattle.mt_regained.specs.Begun.{begun_at_boot}
use Rattle.mt_regained.specs.Rolled.{rolled}

-- THE NODE REOPENED: its next boot, with these sessions, of what it kept, rolled back.
abbrev pub reopened_node : List SessionRow → ℕ → NodeState → NodeState
reopened_node sessions ceiling s = begun_at_boot sessions (s.boot + 1) (rolled (kept_of s ceiling))

-- What that leaves of a fabric's own part, which hangs on nothing but that part and the boot: its items and entries stay, its credentials are
-- those that an expiry gives back, where there are some, and its sessions are those of the boot that have its identity.

abbrev pub with_given_back : Option Credentials → Fabric → Fabric
with_given_back None fabric = fabric
with_given_back (Some saved) fabric = record fabric { credentials = saved }

abbrev pub fabrics_given_back : Own → List Fabric
fabrics_given_back o = map (with_given_back o.saved) o.fabrics

-- the sessions of a boot that are live for a fabric, where these are its credentials
abbrev pub own_sessions : List SessionRow → ℕ → ℕ → List Fabric → List NodeSession
own_sessions sessions boot fabric mine = filter (λ (session : NodeSession). is_live_as fabric session.standing) (sessions_of boot mine sessions)

abbrev pub reopened_own : List SessionRow → ℕ → ℕ → Own → Own
reopened_own sessions boot fabric o = record {
  rows = o.rows;
  entries = o.entries;
  fabrics = fabrics_given_back o;
  saved = None;
  sessions = own_sessions sessions boot fabric (fabrics_given_back o);
  is_plain = false;
}

-- A reopened node is valid, where its boot is one that there may be.
abbrev pub ReopensValid : Type 0
ReopensValid = (sessions : List SessionRow) (ceiling : ℕ) (s : NodeState) → IsValid s → nat_le (s.boot + 1) (2 ^ 31) ≡ true → IsValid (reopened_node sessions ceiling s)

-- What is kept of it is what was kept before, rolled back, but for the number of the boot.
abbrev pub ReopeningsRollBack : Type 0
ReopeningsRollBack = (sessions : List SessionRow) (ceiling : ℕ) (s : NodeState) → IsValid s → kept_of (reopened_node sessions ceiling s) ceiling ≡ record (rolled (kept_of s ceiling)) { boot = Some (s.boot + 1) }

-- And what was kept, rolled back, is what is kept of the state, rolled back.
abbrev pub RolledIsRollback : Type 0
RolledIsRollback = (ceiling : ℕ) (s : NodeState) → IsValid s → rolled (kept_of s ceiling) ≡ kept_of (rollback s) ceiling

-- The fabrics of it are those that were there, but for the one that was added under the fail-safe.
abbrev pub ReopeningsTakeTheAdded : Type 0
ReopeningsTakeTheAdded = (sessions : List SessionRow) (ceiling fabric : ℕ) (s : NodeState) → IsValid s → is_member fabric (reopened_node sessions ceiling s) ≡ (is_member fabric s && not (was_added fabric s.armed))

-- REOPENINGS SEE THE OWN PART ALONE: what is left of it is made of it and of the boot.
abbrev pub ReopeningsSeeTheOwn : Type 0
ReopeningsSeeTheOwn = (sessions : List SessionRow) (ceiling fabric : ℕ) (s : NodeState) → IsValid s → fabric ≢ 0 → is_member fabric s ≡ true → was_added fabric s.armed ≡ false
    → own fabric (reopened_node sessions ceiling s) ≡ reopened_own sessions (s.boot + 1) fabric (own fabric s)
