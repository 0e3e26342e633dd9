-- No action begins another boot.
use Rattle.std.proofs.Common.{◌≡◌, ◌∙◌, refl, Bool, true, false, List, [], ◌∷◌, Option, Some, None, if◌then◌else◌}
use Rattle.mt_model.specs.declared.node.action.NodeStep.{NodeStep}
use Rattle.mt_model.specs.declared.node.action.NodeStep.TheVariants.{SetRow, SetEntries, PutNetwork, RemoveNetwork, ConnectNetwork, MoveNetwork, Arm, Renew, Expire, Complete, AddRoot, Csr, AddFabric, UpdateFabric, RemoveFabric, Label, Emit}
use Rattle.mt_model.specs.declared.node.state.NodeState.{NodeState}
use Rattle.mt_model.specs.declared.tables.access.Actor.{Actor}
use Rattle.mt_model.specs.declared.tables.network.Armed.{Armed}
use Rattle.mt_machine.specs.Effects.{after, after_all, completed}
use Rattle.mt_machine.specs.Rollback.{rolled_back}
use Rattle.mt_machine.specs.Step.{asker_of, at_time, steps_of}
use Rattle.mt_lasting.specs.Laws.{ActionsKeepTheBoot}

of_either : (b : Bool) (t s : NodeState) → t.boot ≡ s.boot → (if b then t else s).boot ≡ s.boot
of_either true t s same = same
of_either false t s same = refl

of_completed : (armed : Option Armed) (s : NodeState) → (completed armed s).boot ≡ s.boot
of_completed None s = refl
of_completed (Some armed) s = refl

of_rolled : (armed : Option Armed) (s : NodeState) → (rolled_back armed s).boot ≡ s.boot
of_rolled None s = refl
of_rolled (Some armed) s = refl

of_step : (asking : Option Actor) (step : NodeStep) (s : NodeState) → (after asking step s).boot ≡ s.boot
of_step asking (SetRow place fabric values) s = refl
of_step asking (SetEntries fabric entries) s = refl
of_step asking (PutNetwork id secret) s = refl
of_step asking (RemoveNetwork id) s = refl
of_step asking (ConnectNetwork id) s = refl
of_step asking (MoveNetwork id index) s = refl
of_step asking (Arm owner seconds) s = refl
of_step asking (Renew seconds) s = refl
of_step asking Expire s = of_rolled s.armed s
of_step asking Complete s = of_completed s.armed s
of_step asking (AddRoot cert) s = of_either _ _ s refl
of_step asking (Csr nonce update) s = of_either _ _ s refl
of_step asking (AddFabric fabric) s = of_either _ _ s refl
of_step asking (UpdateFabric index credentials) s = of_either _ _ s refl
of_step asking (RemoveFabric index) s = of_either _ _ s refl
of_step asking (Label index label) s = of_either _ _ s refl
of_step asking (Emit place priority fabric value) s = refl

of_steps : (asking : Option Actor) (steps : List NodeStep) (s : NodeState) → (after_all asking steps s).boot ≡ s.boot
of_steps asking [] s = refl
of_steps asking (step ∷ steps) s = of_steps asking steps (after asking step s) ∙ of_step asking step s

pub boot_stays : ActionsKeepTheBoot
boot_stays given s action now = of_steps (asker_of s action) (steps_of given s action now) (at_time now s)
