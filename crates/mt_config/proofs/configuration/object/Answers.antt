use Rattle.std.proofs.Common.{IsTrue, false, sym, ◌∙◌, refl}
use Rattle.serde_json.specs.View.{view}
use Rattle.mt_config.proofs.Objects.{object_found, object_refused}
use Rattle.mt_config.proofs.configuration.object.Goals as goal

pub returns-then-is_object : goal.returns-then-is_object
returns-then-is_object c =
    object_found c.args.bytes.now (view c.in-Ok.value) c.in-Ok.ensures.ok.0 c.in-Ok.ensures.ok.1 (sym c.is_object.ensures ∙ c.if-is_object.true)

pub returns-else-is_memory : goal.returns-else-is_memory
returns-else-is_memory c =
    (refl, object_refused c.args.bytes.now (λ u. c.in-Err.ensures.err (λ m. let t : IsTrue false = c.if-is_memory.ensures.1 m in cc) u))
