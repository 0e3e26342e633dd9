-- Values are told apart by their codes.
use base.Stored.{Gv, gnil, gnum, gcons}
use Rattle.std.proofs.Common.{◌≡◌, true, refl, ap, subst, arith}
use Rattle.std.proofs.lemmas.Bool.{and_parts, eqb-true}
use Rattle.mt_tlv.specs.contracts.value.Value as codes
use Rattle.mt_tlv.specs.declared.value.Value.{Value}
use Rattle.mt_model.specs.rows.Same.{are_same_codes}
use Rattle.mt_lasting.specs.Changes.{is_same_value}

same_codes : (g h : Gv) → are_same_codes g h ≡ true → g ≡ h
same_codes gnil gnil e = refl
same_codes gnil (gnum n) e = absurd (cc)
same_codes gnil (gcons c d) e = absurd (cc)
same_codes (gnum m) gnil e = absurd (cc)
same_codes (gnum m) (gnum n) e = ap gnum (eqb-true m n e)
same_codes (gnum m) (gcons c d) e = absurd (cc)
same_codes (gcons a b) gnil e = absurd (cc)
same_codes (gcons a b) (gnum n) e = absurd (cc)
same_codes (gcons a b) (gcons c d) e =
    let both = and_parts (are_same_codes a c) (are_same_codes b d) e in
    λ i. gcons (same_codes a c both.0 i) (same_codes b d both.1 i)

pub values_same : (value other : Value) → is_same_value value other ≡ true → value ≡ other
values_same value other e = codes.the_row.coded.inj value other (same_codes _ _ e)

code_same : (g : Gv) → are_same_codes g g ≡ true
code_same gnil = refl
code_same (gnum n) = grind arith
code_same (gcons a b) = rw (code_same a) (code_same b)

pub same_values : (value other : Value) → value ≡ other → is_same_value value other ≡ true
same_values value other e = subst (λ (v : Value). is_same_value value v ≡ true) e (code_same (codes.the_row.coded.code value))
