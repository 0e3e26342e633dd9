-- The bench configuration, on which the samples rest.
use lib.Utf8.{encode}
use Rattle.std.specs.Prelude.{ℕ, ◌+◌, ◌*◌, List, [], ◌∷◌, Some, None, codes, replicate, IsTrue, refl}
use Rattle.std.specs.Str.{is_utf8, chars}
use Rattle.mt_model.specs.texts.Config.{are_fabrics, are_entries, are_sessions, are_roots, are_csrs, are_joins, are_network_ids}
use Rattle.mt_model.specs.declared.tables.access.AclEntry.{AclEntry}
use Rattle.mt_model.specs.declared.tables.access.Auth.TheVariants.{Pase, Case}
use Rattle.mt_model.specs.declared.tables.access.Privilege.TheVariants.{View, Administer}
use Rattle.mt_model.specs.declared.texts.config.Config.{Config}
use Rattle.mt_model.specs.declared.texts.config.CsrRow.{CsrRow}
use Rattle.mt_model.specs.declared.texts.config.JoinRow.{JoinRow}
use Rattle.mt_model.specs.declared.texts.config.RootRow.{RootRow}
use Rattle.mt_model.specs.declared.texts.config.SessionRow.{SessionRow}
use Rattle.mt_model.specs.declared.tables.fabric.Fabric.{Fabric}
use Rattle.mt_opcreds.specs.Judged.{judged_by}
use Rattle.mt_machine.specs.Environment.{Environment}

-- a public key that is 4 and then one byte throughout
abbrev pub public_key : ℕ → List ℕ
public_key fill = 4 ∷ replicate 64 fill

-- a fabric whose bytes tell its index
abbrev pub bench_fabric : ℕ → List ℕ → Fabric
bench_fabric index label = record {
  index = index;
  credentials = record {
    root = (0xa0 + index) ∷ [];
    root_key = public_key (0x11 * index);
    fabric_id = index;
    node_id = 10 * index;
    noc = (0xb0 + index) ∷ [];
    icac = [];
    ipk = replicate 16 (0xc0 + index);
  };
  vendor = 0xfff1;
  label = label;
}

-- node 1 may do all
abbrev pub administrator_of : ℕ → AclEntry
administrator_of fabric = record { privilege = Administer; auth = Case; subjects = 1 ∷ []; targets = []; fabric = fabric }

-- who has the CAT 1 in version 2 or later may view endpoint 1
abbrev pub tagged_viewer : AclEntry
tagged_viewer = record {
  privilege = View;
  auth = Case;
  subjects = 0xfffffffd00010002 ∷ [];
  targets = record { cluster = None; endpoint = Some 1; device = None } ∷ [];
  fabric = 2;
}

abbrev pub case_session_of : ℕ → SessionRow
case_session_of fabric = record {
  session = fabric;
  peer_session = 100 + fabric;
  boot = 1;
  auth = Case;
  root_key = public_key (0x11 * fabric);
  fabric_id = fabric;
  own_node = 10 * fabric;
  peer_node = 1;
  cats = replicate 3 0;
  key_in = replicate 16 (0x41 + 0x10 * fabric);
  key_out = replicate 16 (0x42 + 0x10 * fabric);
  counter_in = 1000;
  counter_out = 5000;
}

abbrev pub pase_session_of : SessionRow
pase_session_of = record {
  session = 3;
  peer_session = 103;
  boot = 1;
  auth = Pase;
  root_key = [];
  fabric_id = 0;
  own_node = 0;
  peer_node = 0;
  cats = replicate 3 0;
  key_in = replicate 16 0x71;
  key_out = replicate 16 0x72;
  counter_in = 1000;
  counter_out = 5000;
}

abbrev pub root_verdict : RootRow
root_verdict = record { cert = 0xa3 ∷ []; key = public_key 0x33 }

abbrev pub csr_verdict : CsrRow
csr_verdict = record { nonce = replicate 32 0x0e; elements = 0xd1 ∷ []; signature = replicate 64 0xd2 }

-- a third fabric
abbrev pub first_join : JoinRow
first_join = record { root = 0xa3 ∷ []; noc = 0xb3 ∷ []; icac = []; nonce = replicate 32 0x0e; fabric_id = 3; node_id = 30 }

-- new credentials on the first fabric
abbrev pub second_join : JoinRow
second_join = record { root = 0xa1 ∷ []; noc = 0xb9 ∷ []; icac = []; nonce = replicate 32 0x0e; fabric_id = 1; node_id = 11 }

abbrev pub bench_fabrics : List Fabric
bench_fabrics = bench_fabric 1 (codes "one") ∷ bench_fabric 2 (codes "two") ∷ []

abbrev pub bench_entries : List AclEntry
bench_entries = administrator_of 1 ∷ administrator_of 2 ∷ tagged_viewer ∷ []

abbrev pub bench_sessions : List SessionRow
bench_sessions = case_session_of 1 ∷ case_session_of 2 ∷ pase_session_of ∷ []

abbrev pub bench_roots : List RootRow
bench_roots = root_verdict ∷ []

abbrev pub bench_csrs : List CsrRow
bench_csrs = csr_verdict ∷ []

abbrev pub bench_joins : List JoinRow
bench_joins = first_join ∷ second_join ∷ []

-- The rows keep the rules on configurations: each test computes.

pub fabrics_hold : IsTrue (are_fabrics bench_fabrics)
unfolding are_fabrics is_utf8 chars encode
fabrics_hold = refl

pub entries_hold : IsTrue (are_entries bench_fabrics bench_entries)
unfolding are_entries
entries_hold = refl

pub sessions_hold : IsTrue (are_sessions bench_sessions)
unfolding are_sessions
sessions_hold = refl

pub roots_hold : IsTrue (are_roots bench_roots)
unfolding are_roots
roots_hold = refl

pub csrs_hold : IsTrue (are_csrs bench_csrs)
unfolding are_csrs
csrs_hold = refl

pub joins_hold : IsTrue (are_joins bench_joins)
unfolding are_joins
joins_hold = refl

pub reachable_hold : IsTrue (are_network_ids [])
unfolding are_network_ids
reachable_hold = refl

abbrev pub bench_of : Config
bench_of = record {
  fabrics = bench_fabrics;
  entries = bench_entries;
  sessions = bench_sessions;
  roots = bench_roots;
  csrs = bench_csrs;
  joins = bench_joins;
  reachable = [];
  fabrics_are_valid = fabrics_hold;
  entries_are_valid = entries_hold;
  sessions_are_valid = sessions_hold;
  roots_are_valid = roots_hold;
  csrs_are_valid = csrs_hold;
  joins_are_valid = joins_hold;
  reachable_are_valid = reachable_hold;
}

-- no certificate was judged, and no network is within reach
abbrev pub bench_given : Environment
bench_given = record { judged = judged_by [] [] []; reachable = [] }
