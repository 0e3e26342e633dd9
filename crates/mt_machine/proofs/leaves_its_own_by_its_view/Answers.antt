use Rattle.std.proofs.Common.{sym, ◌∙◌}
use Rattle.mt_machine.specs.Isolation.{own_of_whole, whole_of}
use Rattle.mt_machine.specs.Lines.{plain_next}
use Rattle.mt_machine.specs.State.{IsValid, State}
use Rattle.mt_machine.proofs.Kept.{alike_on}
use Rattle.mt_machine.proofs.Veiled.{AlikeOn, leaves_on_veil}
use Rattle.mt_machine.proofs.leaves_its_own_by_its_view.Goals as goal

pub returns : goal.returns
returns c = λ given s t e keeps valid_s valid_t fabric own public.
    let alike : (x : State) → IsValid x.node → AlikeOn given x.node = λ x valid. alike_on c.requests_keep_rules.ensures
    c.stored_places_are_those_of_the_model.ensures c.steps_see_the_veil.ensures.each c.steps_see_the_veil.ensures.removal c.the_index_is_the_least.ensures given keeps x.node valid in
    sym (leaves_on_veil given s e valid_s (alike s valid_s))
    ∙ (λ i. own_of_whole (fabric i) (plain_next given (whole_of (fabric i) (own i) (public i)) e))
    ∙ leaves_on_veil given t e valid_t (alike t valid_t)
