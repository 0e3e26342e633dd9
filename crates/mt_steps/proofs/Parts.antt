-- Steps that are made in part.
use Rattle.std.proofs.Common.{List, ◌∷◌, OnErr, Option, Result, Ok, Err, arith, refl, suc}
use Rattle.mt_model.specs.declared.node.action.NodeStep.{NodeStep}
use Rattle.mt_model.specs.declared.node.state.NodeState.{NodeState}
use Rattle.mt_model.specs.declared.tables.access.Actor.{Actor}
use Rattle.mt_machine.specs.Effects.{after}
use Rattle.mt_steps.specs.Partly.{IsMadeInPart}

-- nothing is made of one step or more
pub none_made : (asking : Option Actor) (step : NodeStep) (rest : List NodeStep) (s : NodeState) → IsMadeInPart asking (step ∷ rest) s s
none_made asking step rest s = record { count = 0; fewer = omega arith; state = refl }

-- a part of the steps behind one that is made is a part of them all
pub later : (asking : Option Actor) (step : NodeStep) (rest : List NodeStep) (s t : NodeState) → IsMadeInPart asking rest (after asking step s) t → IsMadeInPart asking (step ∷ rest) s t
later asking step rest s t p = record { count = suc p.count; fewer = omega (arith, p.fewer); state = p.state }

pub on_err : {A E : Type 0} (result : Result A E) (P : Type 0) → P → OnErr result P
on_err (Ok x) P p = tt
on_err (Err e) P p = p
