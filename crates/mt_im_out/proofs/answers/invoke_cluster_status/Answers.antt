use Rattle.std.proofs.Common.{◌≡◌, ℕ, List, [], ◌∷◌, ◌++◌, None, IfOk, subst, sym, ◌∙◌, arith, false}
use Rattle.std.proofs.lemmas.Grind.{common_steps}
use Rattle.mt_tlv.specs.declared.value.Tag.TheVariants.{Anonymous, Context}
use Rattle.mt_tlv.specs.Narrow.{narrow, narrow_elements, length_and_value, opening, end_of_container}
use Rattle.mt_tlv.specs.Tree.{bool, none, more}
use Rattle.mt_im.specs.Requests.{revision, command_path_tree}
use Rattle.mt_model.specs.declared.messages.opcode.TheConstants.{INVOKE_RESPONSE}
use Rattle.mt_im_out.specs.Messages.{cluster_status_tree, command_failure_tree, invoke_response_tree}
use Rattle.mt_im_out.proofs.Tails.{invoke_is}
use Rattle.mt_im_out.proofs.answers.invoke_cluster_status.Goals as goal

pub returns : goal.returns
returns c =
    let bytes_are : c.end_invoke_response.new.out.items
    ≡ ((opening Anonymous 21 ++ (narrow (Context 0) (bool false) ++ (opening (Context 1) 22 ++ (opening Anonymous 21 ++ opening (Context 1) 21)))) ++ length_and_value (command_failure_tree c.args.command.now c.args.code c.args.reason))
    ++ (end_of_container ∷ end_of_container ∷ [] ++ (narrow_elements revision ++ end_of_container ∷ [])) = grind (arith, common_steps) in
    let made : c.end_invoke_response.new.out.items ≡ narrow Anonymous (invoke_response_tree 1 (command_failure_tree c.args.command.now c.args.code c.args.reason)) = bytes_are ∙ sym (invoke_is 1 (more (Context 0) (command_path_tree c.args.command.now) (more (Context 1) (cluster_status_tree c.args.code c.args.reason) none))) in
    subst (λ (z : List ℕ). IfOk c.one.result (λ payloads. payloads ≡ record { opcode = INVOKE_RESPONSE; bytes = z; deadline = None } ∷ [])) made c.one.ensures
