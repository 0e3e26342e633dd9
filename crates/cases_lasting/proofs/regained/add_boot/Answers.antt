use Rattle.std.proofs.Common.{◌≡◌, ◌∙◌, ◌^◌, refl, subst, sym, arith, Bool, true, false, Option, Some, None}
use Rattle.std.proofs.lemmas.Bool.{le-leb}
use Rattle.std.specs.Prelude.{IfSome, is_some}
use Rattle.mt_model.specs.declared.node.state.NodeState.{NodeState}
use Rattle.mt_model.specs.declared.tables.network.Armed.{Armed}
use Rattle.mt_regained.specs.Begun.{IsValidWhereRolled}
use Rattle.cases_lasting.proofs.regained.add_boot.Goals as goal

-- what is not there is None
unarmed : (armed : Option Armed) → is_some armed ≡ false → armed ≡ None
unarmed None none = refl
unarmed (Some armed) none = absurd cc

pub durable_of-requires : goal.durable_of-requires
durable_of-requires c =
    let next = c.in-Some.next in
    let valid : IsValidWhereRolled next = subst (λ (found : Option NodeState). IfSome found IsValidWhereRolled) c.in-Some.is c.in_ok-next.ensures.valid in
    valid (unarmed next.armed (sym c.is_some.ensures ∙ c.if-is_some.false)) (le-leb next.boot (2 ^ 31) (omega (arith, c.if-next-gt-LAST_BOOT.false)))
