use Rattle.std.proofs.Common.{◌≡◌, ◌≢◌, sym, List, [], ◌∷◌, None, length, refl, arith}
use Rattle.mt_tlv.specs.declared.value.Tag.{Tag}
use Rattle.mt_tlv.specs.declared.value.Value.{Value}
use Rattle.mt_tlv.specs.View.{elements}
use Rattle.mt_im.specs.Blocks.{command_among}
use Rattle.mt_im.proofs.messages.only_command.Goals as goal

-- more or fewer than one are no command
not_one : (commands : List (Tag × Value)) → length commands ≢ 1 → command_among (elements commands) ≡ None
not_one [] h = refl
not_one (m ∷ []) h = absurd (h refl)
not_one (m ∷ (n ∷ ms)) h = refl

pub returns-then-len-ne1 : goal.returns-then-len-ne1
returns-then-len-ne1 c = sym (not_one c.args.commands.items (λ one. c.if-len-ne1.true (omega arith)))
