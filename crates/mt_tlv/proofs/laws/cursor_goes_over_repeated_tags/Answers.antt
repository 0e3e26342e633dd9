use Rattle.mt_tlv.proofs.Repeats.{element_or_same_tag}
use Rattle.mt_tlv.proofs.Runs.{cursor_comes, is_repeating}
use Rattle.mt_tlv.proofs.laws.cursor_goes_over_repeated_tags.Goals as goal

pub returns-clause-parts : goal.returns-clause-parts
returns-clause-parts c = cursor_comes

pub returns-clause-read : goal.returns-clause-read
returns-clause-read c = element_or_same_tag

pub returns-clause-elements : goal.returns-clause-elements
returns-clause-elements c = is_repeating
