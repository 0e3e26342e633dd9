-- Of which forms the steps of a command are.
use Rattle.std.specs.Prelude.{◌≡◌, ℕ, Bool, true, false, List, [], ◌∷◌}
use Rattle.std.specs.List.{list_all}
use Rattle.mt_tlv.specs.declared.value.Value.{Value}
use Rattle.mt_model.specs.rows.Setting.{is_entry_of}
use Rattle.mt_model.specs.tables.Known.{Known}
use Rattle.mt_model.specs.declared.node.action.NodeStep.{NodeStep}
use Rattle.mt_model.specs.declared.node.action.NodeStep.TheVariants.{AddFabric, AddRoot, Csr, Expire, Label, SetEntries, UpdateFabric}
use Rattle.mt_model.specs.declared.rows.place.Place.{Place}
use Rattle.mt_model.specs.declared.tables.access.AclEntry.{AclEntry}
use Rattle.mt_model.specs.declared.tables.access.Actor.{Actor}
use Rattle.mt_model.specs.declared.tables.fabric.Credentials.{Credentials}
use Rattle.mt_model.specs.declared.tables.fabric.Fabric.{Fabric}
use Rattle.mt_opcreds.specs.Commands.{invoked}
use Rattle.mt_opcreds.specs.Judged.{Judged}
use Rattle.mt_failsafe.specs.Calls.{is_context}
use Rattle.mt_failsafe.specs.Notes.{was_added}
use Rattle.mt_opcreds.specs.RemoveFabric.{leaving}

-- A command makes nothing, or one step; behind that by which a fabric joins entries of its own are set, and one that leaves is told of. A
-- fabric for which commissioning goes on leaves once the fail-safe has expired, and by that alone where it was added under it. New
-- credentials and labels are the actor's own.
pub data IsMove (known : Known) (fabric : ℕ) (steps : List NodeStep) : Type 0 where
  nothing : steps ≡ [] → IsMove known fabric steps
  requests : (nonce : List ℕ) (update : Bool) → steps ≡ Csr nonce update ∷ [] → IsMove known fabric steps
  trusts : (cert : List ℕ) → steps ≡ AddRoot cert ∷ [] → IsMove known fabric steps
  joins : (new : Fabric) (entries : List AclEntry) → list_all (is_entry_of new.index) entries ≡ true → steps ≡ AddFabric new ∷ SetEntries new.index entries ∷ [] → IsMove known fabric steps
  renews : (given : Credentials) → steps ≡ UpdateFabric fabric given ∷ [] → IsMove known fabric steps
  names : (label : List ℕ) → steps ≡ Label fabric label ∷ [] → IsMove known fabric steps
  leaves : (index : ℕ) → is_context index known.armed ≡ false → steps ≡ leaving index → IsMove known fabric steps
  expires : (index : ℕ) → is_context index known.armed ≡ true → was_added index known.armed ≡ true → steps ≡ Expire ∷ [] → IsMove known fabric steps
  expires_and_leaves : (index : ℕ) → is_context index known.armed ≡ true → was_added index known.armed ≡ false → steps ≡ Expire ∷ leaving index → IsMove known fabric steps

abbrev pub StepsAreMoves : Type 0
StepsAreMoves = (judged : Judged) (known : Known) (actor : Actor) (command : Place) (fields : Value) → IsMove known actor.fabric (invoked judged known actor command fields).steps
