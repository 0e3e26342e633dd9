use Rattle.mt_tlv.proofs.Runs.{cursor_comes, cursor_ends, is_repeating}
use Rattle.mt_tlv.proofs.laws.cursor_comes_over_the_element.Goals as goal

pub returns-clause-parts : goal.returns-clause-parts
returns-clause-parts c tag v bytes rest h = cursor_comes tag v bytes rest (is_repeating tag v bytes h)

pub returns-clause-end : goal.returns-clause-end
returns-clause-end c = cursor_ends
