-- What was judged of certificates, and the verdicts on those that a command brings. A certificate of which no verdict speaks is no
-- good.
use Rattle.std.specs.Prelude.{ℕ, List, Option}
use Rattle.std.specs.List.{find}
use Rattle.mt_model.specs.texts.Verdicts.{is_cert_of, is_chain_of, is_nonce_of}
use Rattle.mt_model.specs.declared.texts.config.CsrRow.{CsrRow}
use Rattle.mt_model.specs.declared.texts.config.JoinRow.{JoinRow}
use Rattle.mt_model.specs.declared.texts.config.RootRow.{RootRow}

pub record Judged : Type 0 where
  -- on root certificates
  pub roots : List RootRow
  -- on signing requests
  pub csrs : List CsrRow
  -- on chains of certificates
  pub joins : List JoinRow

abbrev pub judged_by : List RootRow → List CsrRow → List JoinRow → Judged
judged_by roots csrs joins = record { roots = roots; csrs = csrs; joins = joins }

-- on this root certificate
abbrev pub root_verdict : Judged → List ℕ → Option RootRow
root_verdict judged cert = find (is_cert_of cert) judged.roots

-- the answer to a signing request of this nonce
abbrev pub csr_verdict : Judged → List ℕ → Option CsrRow
csr_verdict judged nonce = find (is_nonce_of nonce) judged.csrs

-- on the chain from this root to this NOC, with this ICAC, no bytes where there is none
abbrev pub chain_verdict : Judged → List ℕ → List ℕ → List ℕ → Option JoinRow
chain_verdict judged root noc icac = find (is_chain_of root noc icac) judged.joins
