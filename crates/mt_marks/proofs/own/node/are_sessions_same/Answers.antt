use Rattle.std.proofs.Common.{List, sym, ap, ◌∙◌, filter}
use Rattle.mt_model.specs.declared.node.state.NodeSession.{NodeSession}
use Rattle.mt_subs.specs.Leaving.{is_live_as}
use Rattle.mt_marks.proofs.own.node.are_sessions_same.Goals as goal

pub returns : goal.returns
returns c =
    let live : List NodeSession → List NodeSession = filter (λ (session : NodeSession). is_live_as c.args.fabric session.standing) in (
      λ yes. ap live (sym c.as_slice.ensures) ∙ c.are_own_same.ensures.0 yes ∙ ap live c.as_slice-2.ensures,
      λ same. c.are_own_same.ensures.1 (ap live c.as_slice.ensures ∙ same ∙ ap live (sym c.as_slice-2.ensures)),
    )
