use Rattle.mt_model.proofs.Same.{entries_same, rows_same, same_code, same_codes, same_entries, same_rows}
use Rattle.mt_model.proofs.laws.what_is_told_the_same_is.Goals as goal

pub returns-clause-codes : goal.returns-clause-codes
returns-clause-codes c = λ code other. (same_codes code other, same_code code other)

pub returns-clause-rows : goal.returns-clause-rows
returns-clause-rows c = λ rows others. (rows_same rows others, same_rows rows others)

pub returns-clause-entries : goal.returns-clause-entries
returns-clause-entries c = λ entry other. (entries_same entry other, same_entries entry other)
