use Rattle.mt_im.proofs.Lowest.{lowest_missing, lowest_malformed}
use Rattle.mt_im.proofs.laws.the_lowest_tag_is_told.Goals as goal

pub returns-clause-missing : goal.returns-clause-missing
returns-clause-missing c = λ opcode bytes kind fields n k m. rw (k, m) (lowest_missing kind fields n)

pub returns-clause-malformed : goal.returns-clause-malformed
returns-clause-malformed c = λ opcode bytes kind fields n k m. rw (k, m) (lowest_malformed kind fields n)
