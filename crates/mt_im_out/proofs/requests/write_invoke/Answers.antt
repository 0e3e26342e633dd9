use Rattle.std.proofs.Common.{◌≡◌, ℕ, List, [], ◌∷◌, ◌++◌, OnOk, subst, ap, ◌∙◌}
use Rattle.mt_tlv.specs.declared.value.Tag.TheVariants.{Anonymous, Context}
use Rattle.mt_tlv.specs.Narrow.{narrow, narrow_elements, end_of_container}
use Rattle.mt_tlv.specs.Tree.{bool, array, none, more}
use Rattle.mt_im.specs.Requests.{command_tree, revision}
use Rattle.mt_im_out.proofs.Tails.{three_behind}
use Rattle.mt_im_out.proofs.requests.write_invoke.Goals as goal

pub returns : goal.returns
returns c =
    let first : List ℕ = narrow (Context 0) (bool c.args.suppress) in
    let second : List ℕ = narrow (Context 1) (bool c.args.timed) in
    let third : List ℕ = narrow (Context 2) (array (more Anonymous (command_tree c.args.command.now c.args.fields.now) none)) in
    let written : c.write_command.new.out.items ≡ ((c.args.out.now.items ++ first) ++ second) ++ third =
    c.in_ok-write_command.ensures
    ∙ ap (λ s. s ++ third) (c.in_ok-write_bool-2.ensures
    ∙ ap (λ s. s ++ second) (c.in_ok-write_bool.ensures)) in
    subst (λ (z : List ℕ). OnOk c.end_message.result (c.end_message.new.out.items ≡ z))
    (ap (λ s. s ++ (narrow_elements revision ++ end_of_container ∷ [])) written
    ∙ three_behind c.args.out.now.items first second third (narrow_elements revision) (end_of_container ∷ []))
    c.end_message.ensures
