use Rattle.std.proofs.Common.{sym, ◌∙◌}
use Rattle.mt_machine.specs.Isolation.{whole_of}
use Rattle.mt_machine.specs.Lines.{plain_sent}
use Rattle.mt_machine.proofs.Veiled.{sends_on_veil}
use Rattle.mt_machine.proofs.sees_its_view_alone.Goals as goal

pub returns : goal.returns
returns c = λ given s t e valid_s valid_t fabric own public.
    sym (sends_on_veil given s e valid_s)
    ∙ (λ i. plain_sent given (whole_of (fabric i) (own i) (public i)) e)
    ∙ sends_on_veil given t e valid_t
