use Rattle.std.proofs.Common.{◌≡◌, ap, arith, filter, length}
use Rattle.mt_model.specs.rows.Setting.{is_at}
use Rattle.mt_model.specs.rows.Sight.{stands_at}
use Rattle.mt_model.proofs.Stored.{counted_others}
use Rattle.mt_model.proofs.rows.stored.StoredRows.others_at.Goals as goal

pub overflow_sub-result : goal.overflow_sub-result
overflow_sub-result c =
    let all : length c.at.result.now ≡ length (filter (stands_at c.args.place.now) c.args.self.now) = ap length c.at.ensures.value in
    let own : length c.of.result.now ≡ length (filter (is_at c.args.place.now c.args.fabric) c.args.self.now) = ap length c.of.ensures in
    omega (arith, counted_others c.args.place.now c.args.fabric c.args.self.now)

pub returns : goal.returns
returns c =
    let all : length c.at.result.now ≡ length (filter (stands_at c.args.place.now) c.args.self.now) = ap length c.at.ensures.value in
    let own : length c.of.result.now ≡ length (filter (is_at c.args.place.now c.args.fabric) c.args.self.now) = ap length c.of.ensures in
    omega (arith, counted_others c.args.place.now c.args.fabric c.args.self.now)
