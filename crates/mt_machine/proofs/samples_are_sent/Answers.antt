-- The samples, by computation.
use Rattle.std.proofs.Common.{refl}
use Rattle.mt_tlv.specs.Reading.{number_of, head_at, scalar_at, string_at, members_with, body_with, container_at, element_at}
use Rattle.mt_im.specs.Blocks.{number_at, optional_number_at, optional_truth_at, blocks_of, index_at, attribute_path_in, event_path_in, event_filter_in, version_filter_in}
use Rattle.mt_im.specs.Reading.{kind_of, read_at, require, selection_at}
use Rattle.mt_im_out.specs.Chunks.{greedy_from}
use Rattle.mt_meta.specs.Table.{attributes_of, clusters_of, endpoints, extensions_of, globals}
use Rattle.mt_apps.specs.Computed.{computed_rows}
use Rattle.mt_meta.specs.Stored.{is_stored}
use Rattle.mt_machine.proofs.samples_are_sent.Goals as goal

pub returns-clause-named_node : goal.returns-clause-named_node
unfolding number_of head_at scalar_at string_at members_with body_with container_at element_at number_at optional_number_at optional_truth_at blocks_of index_at attribute_path_in event_path_in event_filter_in version_filter_in kind_of read_at require selection_at greedy_from attributes_of clusters_of endpoints extensions_of globals computed_rows is_stored
returns-clause-named_node c = refl

pub returns-clause-other_node : goal.returns-clause-other_node
unfolding number_of head_at scalar_at string_at members_with body_with container_at element_at number_at optional_number_at optional_truth_at blocks_of index_at attribute_path_in event_path_in event_filter_in version_filter_in kind_of read_at require selection_at greedy_from attributes_of clusters_of endpoints extensions_of globals computed_rows is_stored
returns-clause-other_node c = refl

pub returns-clause-earlier_tag : goal.returns-clause-earlier_tag
unfolding number_of head_at scalar_at string_at members_with body_with container_at element_at number_at optional_number_at optional_truth_at blocks_of index_at attribute_path_in event_path_in event_filter_in version_filter_in kind_of read_at require selection_at greedy_from attributes_of clusters_of endpoints extensions_of globals computed_rows is_stored
returns-clause-earlier_tag c = refl

pub returns-clause-same_tag : goal.returns-clause-same_tag
unfolding number_of head_at scalar_at string_at members_with body_with container_at element_at number_at optional_number_at optional_truth_at blocks_of index_at attribute_path_in event_path_in event_filter_in version_filter_in kind_of read_at require selection_at greedy_from attributes_of clusters_of endpoints extensions_of globals computed_rows is_stored
returns-clause-same_tag c = refl

pub returns-clause-later_tag : goal.returns-clause-later_tag
unfolding number_of head_at scalar_at string_at members_with body_with container_at element_at number_at optional_number_at optional_truth_at blocks_of index_at attribute_path_in event_path_in event_filter_in version_filter_in kind_of read_at require selection_at greedy_from attributes_of clusters_of endpoints extensions_of globals computed_rows is_stored
returns-clause-later_tag c = refl

pub returns-clause-others_entries : goal.returns-clause-others_entries
unfolding number_of head_at scalar_at string_at members_with body_with container_at element_at number_at optional_number_at optional_truth_at blocks_of index_at attribute_path_in event_path_in event_filter_in version_filter_in kind_of read_at require selection_at greedy_from attributes_of clusters_of endpoints extensions_of globals computed_rows is_stored
returns-clause-others_entries c = refl

pub returns-clause-wildcard : goal.returns-clause-wildcard
unfolding number_of head_at scalar_at string_at members_with body_with container_at element_at number_at optional_number_at optional_truth_at blocks_of index_at attribute_path_in event_path_in event_filter_in version_filter_in kind_of read_at require selection_at greedy_from attributes_of clusters_of endpoints extensions_of globals computed_rows is_stored
returns-clause-wildcard c = refl

pub returns-clause-hidden_endpoint : goal.returns-clause-hidden_endpoint
unfolding number_of head_at scalar_at string_at members_with body_with container_at element_at number_at optional_number_at optional_truth_at blocks_of index_at attribute_path_in event_path_in event_filter_in version_filter_in kind_of read_at require selection_at greedy_from attributes_of clusters_of endpoints extensions_of globals computed_rows is_stored
returns-clause-hidden_endpoint c = refl

pub returns-clause-no_endpoint : goal.returns-clause-no_endpoint
unfolding number_of head_at scalar_at string_at members_with body_with container_at element_at number_at optional_number_at optional_truth_at blocks_of index_at attribute_path_in event_path_in event_filter_in version_filter_in kind_of read_at require selection_at greedy_from attributes_of clusters_of endpoints extensions_of globals computed_rows is_stored
returns-clause-no_endpoint c = refl

pub returns-clause-no_cluster : goal.returns-clause-no_cluster
unfolding number_of head_at scalar_at string_at members_with body_with container_at element_at number_at optional_number_at optional_truth_at blocks_of index_at attribute_path_in event_path_in event_filter_in version_filter_in kind_of read_at require selection_at greedy_from attributes_of clusters_of endpoints extensions_of globals computed_rows is_stored
returns-clause-no_cluster c = refl

pub returns-clause-malformed : goal.returns-clause-malformed
unfolding number_of head_at scalar_at string_at members_with body_with container_at element_at number_at optional_number_at optional_truth_at blocks_of index_at attribute_path_in event_path_in event_filter_in version_filter_in kind_of read_at require selection_at greedy_from attributes_of clusters_of endpoints extensions_of globals computed_rows is_stored
returns-clause-malformed c = refl
