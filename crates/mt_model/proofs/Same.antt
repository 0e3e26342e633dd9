-- Rows and entries are told apart by their codes.
use base.Stored.{Gv, gnil, gnum, gcons}
use Rattle.std.proofs.Common.{◌≡◌, ◌==◌, true, List, refl, sym, ap, ◌∙◌, subst, arith, ℕ, Some}
use Rattle.std.proofs.lemmas.Bool.{and_parts, eqb-true}
use Rattle.mt_tlv.specs.contracts.value.Value as values
use Rattle.mt_model.specs.rows.Same.{are_same_codes, are_same_rows, is_same_entry, rows_code}
use Rattle.mt_model.specs.tables.Entries.{entry_in, entry_value}
use Rattle.mt_model.specs.declared.rows.place.Row.{Row}
use Rattle.mt_model.specs.declared.tables.access.AclEntry.{AclEntry}
use Rattle.mt_model.proofs.Entries.{read_again}

pub same_codes : (g h : Gv) → are_same_codes g h ≡ true → g ≡ h
same_codes gnil gnil e = refl
same_codes gnil (gnum n) e = absurd (cc)
same_codes gnil (gcons c d) e = absurd (cc)
same_codes (gnum m) gnil e = absurd (cc)
same_codes (gnum m) (gnum n) e = ap gnum (eqb-true m n e)
same_codes (gnum m) (gcons c d) e = absurd (cc)
same_codes (gcons a b) gnil e = absurd (cc)
same_codes (gcons a b) (gnum n) e = absurd (cc)
same_codes (gcons a b) (gcons c d) e =
    let both = and_parts (are_same_codes a c) (are_same_codes b d) e in
    λ i. gcons (same_codes a c both.0 i) (same_codes b d both.1 i)

same_number : (n : ℕ) → (n == n) ≡ true
same_number n = grind arith

code_same : (g : Gv) → are_same_codes g g ≡ true
code_same gnil = refl
code_same (gnum n) = same_number n
code_same (gcons a b) = rw (code_same a) (code_same b)

pub same_code : (g h : Gv) → g ≡ h → are_same_codes g h ≡ true
same_code g h e = subst (λ (c : Gv). are_same_codes g c ≡ true) e (code_same g)

pub rows_same : (rows others : List Row) → are_same_rows rows others ≡ true → rows ≡ others
rows_same rows others e = rows_code.inj rows others (same_codes (rows_code.code rows) (rows_code.code others) e)

pub same_rows : (rows others : List Row) → rows ≡ others → are_same_rows rows others ≡ true
same_rows rows others e = subst (λ (l : List Row). are_same_rows rows l ≡ true) e (code_same (rows_code.code rows))

some_same : (entry other : AclEntry) → Some entry ≡ Some other → entry ≡ other
some_same entry other e = cc

pub entries_same : (entry other : AclEntry) → is_same_entry entry other ≡ true → entry ≡ other
entries_same entry other e =
    let written = values.the_row.coded.inj (entry_value entry) (entry_value other) (same_codes _ _ e) in
    some_same entry other (sym (read_again entry) ∙ ap entry_in written ∙ read_again other)

pub same_entries : (entry other : AclEntry) → entry ≡ other → is_same_entry entry other ≡ true
same_entries entry other e = subst (λ (o : AclEntry). is_same_entry entry o ≡ true) e (code_same (values.the_row.coded.code (entry_value entry)))
