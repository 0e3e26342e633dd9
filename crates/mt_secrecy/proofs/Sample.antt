-- The sample, by computation.
use Rattle.std.proofs.Common.{refl}
use Rattle.mt_tlv.specs.Reading.{number_of, head_at, scalar_at, string_at, members_with, body_with, container_at, element_at}
use Rattle.mt_im.specs.Blocks.{number_at, optional_number_at, optional_truth_at, blocks_of, index_at, command_data_in, command_path_in}
use Rattle.mt_im.specs.Reading.{kind_of, invoke_at, request_at, require}
use Rattle.mt_secrecy.specs.Sample.{KeyWritesAreRead, OtherKeysAreAlike, write_of_key}

pub writes_are_read : KeyWritesAreRead
unfolding number_of head_at scalar_at string_at members_with body_with container_at element_at number_at optional_number_at optional_truth_at blocks_of index_at command_path_in command_data_in kind_of invoke_at request_at require
writes_are_read byte = refl

pub keys_alike : OtherKeysAreAlike
unfolding number_of head_at scalar_at string_at members_with body_with container_at element_at number_at optional_number_at optional_truth_at blocks_of index_at command_path_in command_data_in kind_of invoke_at request_at require
keys_alike ms fabric node cats byte other = record { asked = write_of_key other; same = refl; alike = refl }
