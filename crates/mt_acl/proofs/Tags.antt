-- The parts of a CAT, by its identifier and version.
use Rattle.std.proofs.Common.{ℕ, ◌≡◌, ◌<◌, ◌+◌, ◌*◌, ◌/◌, ◌%◌, ◌^◌, ◌==◌, ◌&&◌, nat_le, refl, arith}
use Rattle.mt_acl.specs.Access.{names_cat}

subject-kind : (identifier version : ℕ) → identifier < 2 ^ 16 → version < 2 ^ 16 → (0xfffffffd * 2 ^ 32 + identifier * 2 ^ 16 + version) / 2 ^ 32 ≡ 0xfffffffd
subject-kind identifier version i v = omega arith

subject-identifier : (identifier version : ℕ) → identifier < 2 ^ 16 → version < 2 ^ 16 → (0xfffffffd * 2 ^ 32 + identifier * 2 ^ 16 + version) / 2 ^ 16 % 2 ^ 16 ≡ identifier
subject-identifier identifier version i v = omega arith

subject-version : (identifier version : ℕ) → version < 2 ^ 16 → (0xfffffffd * 2 ^ 32 + identifier * 2 ^ 16 + version) % 2 ^ 16 ≡ version
subject-version identifier version v = omega arith

tag-identifier : (identifier version : ℕ) → version < 2 ^ 16 → (identifier * 2 ^ 16 + version) / 2 ^ 16 ≡ identifier
tag-identifier identifier version v = omega arith

tag-version : (identifier version : ℕ) → version < 2 ^ 16 → (identifier * 2 ^ 16 + version) % 2 ^ 16 ≡ version
tag-version identifier version v = omega arith

pub names_cat-parts : (identifier version held_identifier held_version : ℕ) → identifier < 2 ^ 16 → version < 2 ^ 16 → held_version < 2 ^ 16 → names_cat (0xfffffffd * 2 ^ 32 + identifier * 2 ^ 16 + version) (held_identifier * 2 ^ 16 + held_version) ≡ (identifier == held_identifier && (nat_le 1 held_version && nat_le version held_version))
names_cat-parts identifier version held_identifier held_version i v h =
    rw (subject-kind identifier version i v, subject-identifier identifier version i v, subject-version identifier version v, tag-identifier held_identifier held_version h, tag-version held_identifier held_version h) refl
