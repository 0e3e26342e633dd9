use Rattle.std.proofs.Common.{◌≡◌, ℕ, List, [], ◌∷◌, ◌++◌, OnOk, subst, ap, ◌∙◌}
use Rattle.mt_tlv.specs.declared.value.Tag.TheVariants.{Context}
use Rattle.mt_tlv.specs.Narrow.{narrow, narrow_elements, end_of_container}
use Rattle.mt_tlv.specs.Tree.{bool, none}
use Rattle.mt_model.specs.messages.Blocks.{path_tree, event_path_tree}
use Rattle.mt_im.specs.Requests.{optional_blocks, event_filter_tree, event_filters, version_filter_tree, revision}
use Rattle.mt_im_out.proofs.Tails.{asked_behind}
use Rattle.mt_im_out.proofs.requests.write_read.Goals as goal

pub returns : goal.returns
returns c =
    let first : List ℕ = narrow_elements (optional_blocks 0 path_tree c.args.paths.now none) in
    let second : List ℕ = narrow_elements (optional_blocks 1 event_path_tree c.args.events.now none) in
    let third : List ℕ = narrow_elements (optional_blocks 2 event_filter_tree (event_filters c.args.minimum) none) in
    let fourth : List ℕ = narrow (Context 3) (bool c.args.filtered) in
    let fifth : List ℕ = narrow_elements (optional_blocks 4 version_filter_tree c.args.versions.now none) in
    let written : c.write_version_filters.new.out.items ≡ ((((c.args.out.now.items ++ first) ++ second) ++ third) ++ fourth) ++ fifth =
    c.in_ok-write_version_filters.ensures
    ∙ ap (λ s. s ++ fifth) (c.in_ok-write_bool.ensures
    ∙ ap (λ s. s ++ fourth) (c.in_ok-write_event_filter.ensures
    ∙ ap (λ s. s ++ third) (c.in_ok-write_event_paths.ensures
    ∙ ap (λ s. s ++ second) (c.in_ok-write_paths.ensures)))) in
    subst (λ (z : List ℕ). OnOk c.end_message.result (c.end_message.new.out.items ≡ z))
    (ap (λ s. s ++ (narrow_elements revision ++ end_of_container ∷ [])) written
    ∙ asked_behind 0 1 2 3 4 c.args.paths.now c.args.events.now (event_filters c.args.minimum) c.args.filtered c.args.versions.now c.args.out.now.items)
    c.end_message.ensures
