use Rattle.std.proofs.Common.{◌≡◌, List, refl, subst, sym, arith}
use Rattle.std.specs.Prelude.{IfOk, Result, Ok, Err}
use Rattle.mt_durable.specs.declared.durable.Entry.{Entry}
use Rattle.mt_machine.specs.State.{IsValid}
use Rattle.mt_lasting.specs.Contents.{durable}
use Rattle.mt_regained.specs.Reopened.{HasImage}
use Rattle.mt_regained.proofs.reopened.new_map.Goals as goal

has_image : {E : Type 0} (result : Result (List Entry) E) (map : List Entry) → IfOk result (λ (found : List Entry). found ≡ map) → HasImage map → IfOk result HasImage
has_image (Ok found) map is image = subst HasImage (sym is) image
has_image (Err e) map is image = tt

pub durable_of-requires : goal.durable_of-requires
durable_of-requires c =
    let config = c.args.config.now in
    subst IsValid (sym c.in_ok-state.ensures) (c.states_are_valid.ensures.opens 0 config.fabrics config.entries config.sessions refl config.fabrics_are_valid config.entries_are_valid)

pub returns-clause-image : goal.returns-clause-image
returns-clause-image c =
    let config = c.args.config.now in
    let valid : IsValid c.in_ok-state.state = subst IsValid (sym c.in_ok-state.ensures) (c.states_are_valid.ensures.opens 0 config.fabrics config.entries config.sessions refl config.fabrics_are_valid config.entries_are_valid) in
    has_image c.durable_of.result (durable c.in_ok-state.state 0) c.durable_of.ensures (c.maps_and_changes_are_elements.ensures.maps c.in_ok-state.state 0 valid (omega arith))
