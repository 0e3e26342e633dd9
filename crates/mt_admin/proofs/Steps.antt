-- The steps of commands and of time steps are sound.
use Rattle.std.proofs.Common.{◌≡◌, ℕ, ◌+◌, ◌*◌, ◌^◌, ◌==◌, min, nat_lt, Bool, true, false, cond, List, [], ◌∷◌, Option, Some, None, refl, arith, if◌then◌else◌}
use Rattle.std.specs.Prelude.{option_and_then}
use Rattle.std.specs.List.{find, list_all}
use Rattle.std.specs.Option.{option_map}
use Rattle.std.proofs.lemmas.Bool.{and_from, and_parts}
use Rattle.mt_fabrics.specs.Table.{has_index}
use Rattle.mt_tlv.specs.declared.value.Value.TheVariants as values
use Rattle.mt_meta.specs.Stored.{is_stored}
use Rattle.mt_meta.specs.Table.{attributes_of, clusters_of, endpoints, extensions_of, globals}
use Rattle.mt_model.specs.messages.Effects.{answered_with, refused_at}
use Rattle.mt_model.specs.declared.messages.status.Status.TheVariants.{InvalidCommand, Success, UnsupportedCommand}
use Rattle.mt_model.specs.declared.node.action.Effect.{Effect}
use Rattle.mt_model.specs.declared.node.action.NodeStep.{NodeStep}
use Rattle.mt_model.specs.declared.rows.place.Place.{Place}
use Rattle.mt_model.specs.declared.tables.fabric.Fabric.{Fabric}
use Rattle.mt_meta.specs.Given.{number_of}
use Rattle.mt_admin.specs.Commands.{failed, open_basic_window, open_window, revoke}
use Rattle.mt_admin.specs.Laws.{CommandsAreSound, TicksAreSound, has_vendor, is_sound_step}
use Rattle.mt_admin.specs.Windows.{closed, end_behind, has_ended, is_open, nullable_value, number_at, number_of_window, opened, set_attribute, some_fabric, vendor_of, window_end}
use Rattle.mt_admin.specs.declared.windows.Window.{Window}
use Rattle.mt_admin.specs.declared.windows.Window.TheVariants.{Closed, Enhanced, Basic}
use Rattle.mt_admin.specs.declared.windows.WindowFault.TheVariants as faults

abbrev are_sound : List NodeStep → Bool
are_sound steps = list_all is_sound_step steps

-- Attributes.

-- a number, where there is one, has 64 bits
abbrev fits : Option ℕ → Bool
fits None = true
fits (Some n) = nat_lt n (2 ^ 64)

status_set : (window : Window) → is_sound_step (set_attribute 0 (values.Uint (number_of_window window))) ≡ true
unfolding is_stored endpoints clusters_of attributes_of globals extensions_of
status_set Closed = refl
status_set Enhanced = refl
status_set Basic = refl

fabric_set : (number : Option ℕ) → fits number ≡ true → is_sound_step (set_attribute 1 (nullable_value number)) ≡ true
unfolding is_stored endpoints clusters_of attributes_of globals extensions_of
fabric_set None h = refl
fabric_set (Some n) h = rw h refl

vendor_set : (number : Option ℕ) → fits number ≡ true → is_sound_step (set_attribute 2 (nullable_value number)) ≡ true
unfolding is_stored endpoints clusters_of attributes_of globals extensions_of
vendor_set None h = refl
vendor_set (Some n) h = rw h refl

end_set : (number : Option ℕ) → fits number ≡ true → is_sound_step (set_attribute window_end (nullable_value number)) ≡ true
unfolding is_stored endpoints clusters_of attributes_of globals extensions_of
end_set None h = refl
end_set (Some n) h = rw h refl

-- Numbers.

some_fabric_fits : (fabric : ℕ) (nobody : Bool) → nat_lt fabric (2 ^ 64) ≡ true → fits (if nobody then None else Some fabric) ≡ true
some_fabric_fits fabric true h = refl
some_fabric_fits fabric false h = h

found_fits : (here : Bool) (fabric : Fabric) (rest : Option Fabric) → has_vendor fabric ≡ true → fits (option_map (λ (f : Fabric). f.vendor) rest) ≡ true → fits (option_map (λ (f : Fabric). f.vendor) (cond here (Some fabric) rest)) ≡ true
found_fits true fabric rest h others = h
found_fits false fabric rest h others = others

vendor_fits : (fabrics : List Fabric) (index : ℕ) → list_all has_vendor fabrics ≡ true → fits (vendor_of fabrics index) ≡ true
vendor_fits [] index h = refl
vendor_fits (fabric ∷ fabrics) index h =
    let both = and_parts (has_vendor fabric) (list_all has_vendor fabrics) h in
    found_fits (has_index index fabric) fabric (find (has_index index) fabrics) both.0 (vendor_fits fabrics index both.1)

admin_vendor_fits : (fabrics : List Fabric) (fabric : ℕ) (nobody : Bool) → list_all has_vendor fabrics ≡ true → fits (option_and_then (vendor_of fabrics) (if nobody then None else Some fabric)) ≡ true
admin_vendor_fits fabrics fabric true h = refl
admin_vendor_fits fabrics fabric false h = vendor_fits fabrics fabric h

least_fits : (n : ℕ) → nat_lt (min n 0xffffffffffffffff) (2 ^ 64) ≡ true
least_fits n = grind arith

end_fits : (now seconds : ℕ) → nat_lt (end_behind now seconds) (2 ^ 64) ≡ true
end_fits now seconds = least_fits (now + 1000 * seconds)

-- Opening and closing.

closed_sound : are_sound closed ≡ true
closed_sound = and_from _ _ (status_set Closed) (and_from _ _ (fabric_set None refl) (and_from _ _ (vendor_set None refl) (and_from _ _ (end_set None refl) refl)))

opened_sound : (window : Window) (fabrics : List Fabric) (fabric seconds now : ℕ) → nat_lt fabric (2 ^ 64) ≡ true → list_all has_vendor fabrics ≡ true → are_sound (opened window fabrics fabric seconds now) ≡ true
opened_sound window fabrics fabric seconds now h vendors =
    and_from _ _ (status_set window)
    (and_from _ _ (fabric_set (some_fabric fabric) (some_fabric_fits fabric (fabric == 0) h))
    (and_from _ _ (vendor_set (option_and_then (vendor_of fabrics) (some_fabric fabric)) (admin_vendor_fits fabrics fabric (fabric == 0) vendors))
    (and_from _ _ (end_set (Some (end_behind now seconds)) (end_fits now seconds)) refl)))

ticked_sound : (ended : Bool) → are_sound (if ended then closed else []) ≡ true
ticked_sound true = closed_sound
ticked_sound false = refl

pub ticks_sound : TicksAreSound
ticks_sound rows_at now = ticked_sound (has_ended now (number_at rows_at window_end))

-- Commands.

abbrev Passes : Effect → Type 0
Passes effect = are_sound effect.steps ≡ true

module _ (command : Place) where
  open_by : (refused busy unverified : Bool) (steps : List NodeStep) → are_sound steps ≡ true
      → Passes (if refused then refused_at command InvalidCommand else if busy then failed command faults.Busy else if unverified then failed command faults.PakeParameterError else answered_with command Success steps)
  open_by true busy unverified steps sound = refl
  open_by false true unverified steps sound = refl
  open_by false false true steps sound = refl
  open_by false false false steps sound = sound

  open_basic_by : (refused busy : Bool) (steps : List NodeStep) → are_sound steps ≡ true
      → Passes (if refused then refused_at command InvalidCommand else if busy then failed command faults.Busy else answered_with command Success steps)
  open_basic_by true busy steps sound = refl
  open_basic_by false true steps sound = refl
  open_basic_by false false steps sound = sound

  revoke_by : (is_there : Bool) → Passes (if is_there then answered_with command Success closed else failed command faults.WindowNotOpen)
  revoke_by true = closed_sound
  revoke_by false = refl

  one_of : (zero one two : Bool) (first second third : Effect) → Passes first → Passes second → Passes third → Passes (if zero then first else if one then second else if two then third else refused_at command UnsupportedCommand)
  one_of true one two first second third a b c = a
  one_of false true two first second third a b c = b
  one_of false false true first second third a b c = c
  one_of false false false first second third a b c = refl

pub commands_sound : CommandsAreSound
commands_sound rows_at known actor command fields now h vendors =
    let opening = λ (window : Window). opened_sound window known.fabrics actor.fabric (number_of 0 fields) now h vendors in
    one_of command (command.leaf == 0) (command.leaf == 1) (command.leaf == 2) (open_window rows_at known actor command fields now) (open_basic_window rows_at known actor command fields now) (revoke rows_at command)
    (open_by command _ _ _ (opened Enhanced known.fabrics actor.fabric (number_of 0 fields) now) (opening Enhanced))
    (open_basic_by command _ _ (opened Basic known.fabrics actor.fabric (number_of 0 fields) now) (opening Basic))
    (revoke_by command (is_open rows_at))
