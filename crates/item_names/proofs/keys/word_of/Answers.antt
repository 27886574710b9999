use Rattle.std.proofs.Common.{◌<◌, ◌/◌, ◌^◌, ◌-◌, ◌*◌, length, arith}
use Rattle.item_names.proofs.KeyLemmas.{number_of-both, AreBytes-from, div-le}
use Rattle.item_names.proofs.keys.word_of.Goals as goal

few : (c : goal.After-four_bytes-high) → c.four_bytes-high.result / 2 ^ (64 - 8 * length c.args.name.now) < 4294967296
few c = div-le c.four_bytes-high.result (2 ^ (64 - 8 * length c.args.name.now)) 4294967296 c.four_bytes-high.ensures.most

pub overflow_mul-result-then-len-ge4 : goal.overflow_mul-result-then-len-ge4
overflow_mul-result-then-len-ge4 c = omega (arith, few c)

pub overflow_add-result : goal.overflow_add-result
overflow_add-result c = omega (arith, few c, c.four_bytes-low.ensures.most)

pub returns-then-len-ge4 : goal.returns-then-len-ge4
returns-then-len-ge4 c =
    rw (c.four_bytes-low.ensures.number, c.four_bytes-high.ensures.number)
    (number_of-both c.args.name.now (AreBytes-from c.args.name.now c.type_inv.name) c.if-len-ge4.true c.requires)
