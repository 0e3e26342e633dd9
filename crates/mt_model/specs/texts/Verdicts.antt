-- Which row of the verdicts speaks of what is asked.
use Rattle.std.specs.Prelude.{ℕ, List, Bool, ◌&&◌, bytes_eq}
use Rattle.mt_model.specs.declared.texts.config.CsrRow.{CsrRow}
use Rattle.mt_model.specs.declared.texts.config.JoinRow.{JoinRow}
use Rattle.mt_model.specs.declared.texts.config.RootRow.{RootRow}

abbrev pub is_cert_of : List ℕ → RootRow → Bool
is_cert_of cert row = bytes_eq row.cert cert

abbrev pub is_nonce_of : List ℕ → CsrRow → Bool
is_nonce_of nonce row = bytes_eq row.nonce nonce

abbrev pub is_chain_of : List ℕ → List ℕ → List ℕ → JoinRow → Bool
is_chain_of root noc icac row = bytes_eq row.root root && (bytes_eq row.noc noc && bytes_eq row.icac icac)
