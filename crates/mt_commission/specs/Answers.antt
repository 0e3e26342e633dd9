-- What answers are made of: a response in the place of its command, and rows of attributes on endpoint 0, which are nobody's.
use Rattle.std.specs.Prelude.{ℕ, List, [], ◌∷◌}
use Rattle.mt_tlv.specs.Tree.{Elements}
use Rattle.mt_tlv.specs.declared.value.Value.{Value}
use Rattle.mt_tlv.specs.declared.value.Value.TheVariants as values
use Rattle.mt_model.specs.declared.messages.message.Reply.TheVariants as replies
use Rattle.mt_model.specs.declared.node.action.Effect.{Effect}
use Rattle.mt_model.specs.declared.node.action.NodeStep.{NodeStep}
use Rattle.mt_model.specs.declared.node.action.NodeStep.TheVariants.{SetRow}
use Rattle.mt_model.specs.declared.rows.place.Place.{Place}

-- the response of this number, from the endpoint and the cluster of the command, and what is made of the node
abbrev pub responded_with : Place → ℕ → Elements → List NodeStep → Effect
responded_with command response fields steps = record { reply = replies.Invoked (record command { leaf = response }) (values.Struct fields); steps = steps }

-- an attribute on endpoint 0 has this value
abbrev pub set_value : ℕ → ℕ → Value → NodeStep
set_value cluster attribute value = SetRow (record { endpoint = 0; cluster = cluster; leaf = attribute }) 0 (value ∷ [])

-- how far the commissioner has come
abbrev pub set_breadcrumb : ℕ → NodeStep
set_breadcrumb breadcrumb = set_value 0x30 0 (values.Uint breadcrumb)
