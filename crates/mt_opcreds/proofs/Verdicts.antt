-- What is found among the verdicts keeps their rules.
use Rattle.std.proofs.Common.{◌≡◌, ℕ, ◌^◌, ◌==◌, ◌&&◌, nat_lt, Bool, true, false, List, [], ◌∷◌, length, bytes_eq, Some, refl, sym, subst, ◌∙◌}
use Rattle.std.proofs.lemmas.Bool.{and_parts, cond-false, cond-true}
use Rattle.std.proofs.lemmas.Slice.Eq.{bytes_eq-Decides}
use Rattle.std.specs.List.{find, list_all}
use Rattle.mt_model.specs.texts.Config.{is_certificate, is_intermediate, is_join, is_root}
use Rattle.mt_model.specs.texts.Verdicts.{is_cert_of, is_chain_of}
use Rattle.mt_model.specs.declared.texts.config.JoinRow.{JoinRow}
use Rattle.mt_model.specs.declared.texts.config.RootRow.{RootRow}
use Rattle.mt_opcreds.specs.Judged.{Judged, chain_verdict, root_verdict}
use Rattle.mt_opcreds.specs.Laws.{KeepsRules}

-- what is found passes the test, and keeps what all keep
found : {X : Type 0} (test rule : X → Bool) (xs : List X) (x : X) → list_all rule xs ≡ true → find test xs ≡ Some x → (test x ≡ true) × (rule x ≡ true)
found test rule [] x all is = absurd (cc)
found test rule (y ∷ ys) x all is =
    let parts = and_parts (rule y) (list_all rule ys) all in
    by_test (test y) refl parts.0 (found test rule ys x parts.1)
  where
    by_test : (passes : Bool) → test y ≡ passes → rule y ≡ true → (find test ys ≡ Some x → (test x ≡ true) × (rule x ≡ true)) → (test x ≡ true) × (rule x ≡ true)
    by_test true e keeps rest =
        let some : Some y ≡ Some x = sym (cond-true (test y) (Some y) (find test ys) e) ∙ is in
        let same : y ≡ x = cc in
        (subst (λ z. test z ≡ true) same e, subst (λ z. rule z ≡ true) same keeps)
    by_test false e keeps rest = rest (sym (cond-false (test y) (Some y) (find test ys) e) ∙ is)

same_bytes : (xs ys : List ℕ) → bytes_eq xs ys ≡ true → xs ≡ ys
same_bytes xs ys e = (bytes_eq-Decides xs ys).0 e

-- a root certificate of which a verdict speaks is one, and its key has its length
pub root_judged : (judged : Judged) → KeepsRules judged → (cert : List ℕ) (row : RootRow) → root_verdict judged cert ≡ Some row → (is_certificate cert ≡ true) × ((length row.key == 65) ≡ true)
root_judged judged keeps cert row is =
    let both = found (is_cert_of cert) is_root judged.roots row keeps.roots is in
    let rules = and_parts (is_certificate row.cert) (length row.key == 65) both.1 in
    (subst (λ (bytes : List ℕ). is_certificate bytes ≡ true) (same_bytes row.cert cert both.0) rules.0, rules.1)

-- the certificates of a chain of which a verdict speaks are such
pub chain_judged : (judged : Judged) → KeepsRules judged → (root noc icac : List ℕ) (row : JoinRow) → chain_verdict judged root noc icac ≡ Some row
    → (is_certificate root ≡ true) × (is_certificate noc ≡ true) × (is_intermediate icac ≡ true) × (nat_lt row.fabric_id (2 ^ 64) ≡ true)
chain_judged judged keeps root noc icac row is =
    let both = found (is_chain_of root noc icac) is_join judged.joins row keeps.joins is in
    let names = and_parts (bytes_eq row.root root) (bytes_eq row.noc noc && bytes_eq row.icac icac) both.0 in
    let others = and_parts (bytes_eq row.noc noc) (bytes_eq row.icac icac) names.1 in
    let four = and_parts (is_certificate row.root && is_certificate row.noc && is_intermediate row.icac && (length row.nonce == 32)) (nat_lt row.fabric_id (2 ^ 64)) both.1 in
    let three = and_parts (is_certificate row.root && is_certificate row.noc && is_intermediate row.icac) (length row.nonce == 32) four.0 in
    let two = and_parts (is_certificate row.root && is_certificate row.noc) (is_intermediate row.icac) three.0 in
    let one = and_parts (is_certificate row.root) (is_certificate row.noc) two.0 in (
      subst (λ (bytes : List ℕ). is_certificate bytes ≡ true) (same_bytes row.root root names.0) one.0,
      subst (λ (bytes : List ℕ). is_certificate bytes ≡ true) (same_bytes row.noc noc others.0) one.1,
      subst (λ (bytes : List ℕ). is_intermediate bytes ≡ true) (same_bytes row.icac icac others.1) two.1,
      four.1,
    )
