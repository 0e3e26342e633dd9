-- A command is denied exactly where nothing grants.
use Rattle.std.proofs.Common.{◌≡◌, ◌||◌, ◌&&◌, not, Bool, true, false, Option, Some, None, Result, Ok, Err, refl, sym, ap, ◌∙◌, if◌then◌else◌}
use Rattle.std.specs.List.{list_any}
use Rattle.mt_acl.specs.Access.{implicit_grants, is_granted_if_asked, own_entry_grants}
use Rattle.mt_meta.specs.Finding.{command_of, find_command_of, found, has_cluster, is_endpoint, privilege_of}
use Rattle.mt_meta.specs.declared.finding.Asked.TheVariants.{Command}
use Rattle.mt_meta.specs.declared.meta.CommandMeta.{CommandMeta}
use Rattle.mt_model.specs.rows.Seen.{Seen}
use Rattle.mt_model.specs.declared.rows.place.Place.{Place}
use Rattle.mt_model.specs.declared.tables.access.Actor.{Actor}
use Rattle.mt_model.specs.declared.tables.access.Privilege.{Privilege}
use Rattle.mt_model.specs.declared.messages.status.Status.{Status}
use Rattle.mt_model.specs.declared.messages.status.Status.TheVariants.{NeedsTimedInteraction, UnsupportedAccess, UnsupportedCluster, UnsupportedCommand, UnsupportedEndpoint}
use Rattle.mt_invoke.specs.Checking.{if_found, is_scoped, may_invoke}
use Rattle.mt_invoke.specs.Laws.{DeniesCommandsExactly, IsDenied}

-- What is no denial.

abbrev is_access : Status → Bool
is_access UnsupportedAccess = true
is_access status = false

abbrev no_denial : Result CommandMeta Status → Bool
no_denial (Ok meta) = true
no_denial (Err status) = not (is_access status)

timely-no : (late : Bool) (meta : CommandMeta) → no_denial (if late then Err NeedsTimedInteraction else Ok meta) ≡ true
timely-no true meta = refl
timely-no false meta = refl

found-no : (timed a b : Bool) (row : Option CommandMeta) → no_denial (if_found timed (found (if not a then Some UnsupportedEndpoint else if not b then Some UnsupportedCluster else None) row UnsupportedCommand)) ≡ true
found-no timed false b row = refl
found-no timed true false row = refl
found-no timed true true None = refl
found-no timed true true (Some meta) = timely-no (meta.timed && not timed) meta

or_false : (a b : Bool) → (a || b) ≡ false → (a ≡ false) × (b ≡ false)
or_false true b h = absurd (cc)
or_false false b h = (refl, h)

module _ (seen : Seen) (actor : Actor) (command : Place) where
  abbrev allowed : Option Privilege → Bool
  allowed asked = is_granted_if_asked seen.entries actor command asked (is_scoped (find_command_of command))

  denied_by : (asked : Option Privilege) → privilege_of command Command ≡ asked → allowed asked ≡ false → IsDenied seen actor command
  denied_by None is h = absurd (cc)
  denied_by (Some asked) is h =
      let nothing = or_false (implicit_grants actor (is_scoped (find_command_of command))) (list_any (own_entry_grants actor command asked) seen.entries) h in
      record { asked = asked; is = is; implicit = nothing.0; entries = nothing.1 }

  not_granted : IsDenied seen actor command → may_invoke seen actor command ≡ false
  not_granted d = ap allowed d.is ∙ (λ i. d.implicit i || d.entries i)

  module _ (timed : Bool) where
    abbrev outcome : Bool → Result CommandMeta Status
    outcome may = if may then if_found timed (find_command_of command) else Err UnsupportedAccess

    to_denied : (may : Bool) → may_invoke seen actor command ≡ may → outcome may ≡ Err UnsupportedAccess → IsDenied seen actor command
    to_denied true is h =
        let no : false ≡ true = sym (ap no_denial h) ∙ found-no timed (is_endpoint command.endpoint) (has_cluster command.endpoint command.cluster) (command_of command) in
        absurd cc
    to_denied false is h = denied_by (privilege_of command Command) refl is

pub denies_exactly : DeniesCommandsExactly
denies_exactly seen actor command timed = (
  to_denied seen actor command timed (may_invoke seen actor command) refl,
  λ d. ap (outcome seen actor command timed) (not_granted seen actor command d),
)
