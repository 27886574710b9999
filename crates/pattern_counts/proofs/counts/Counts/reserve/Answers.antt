use Rattle.std.proofs.Common.{◌≡◌, ◌+◌, ◌<◌, ◌≤◌, length, vec_capacity, ap, arith}
use Rattle.std.proofs.lemmas.List.{length-map}
use Rattle.pattern_counts.specs.Hashes.{hash_of}
use Rattle.pattern_counts.proofs.counts.Counts.reserve.Goals as goal

pub overflow_sub-len : goal.overflow_sub-len
overflow_sub-len c = omega (arith, c.len.ensures, c.self.invariant.few)

pub make_room-requires-clause-few : goal.make_room-requires-clause-few
make_room-requires-clause-few c =
    omega (arith, ap length c.as_slice.ensures.value, ap length c.self.invariant.hashed, length-map c.self.inside.lists.lists hash_of, c.self.invariant.few, c.len.ensures)

pub returns-clause-room : goal.returns-clause-room
returns-clause-room c =
    let hashes = length-map c.self.inside.lists.lists hash_of in
    let same : length c.reserve.new.self.lists ≡ length c.self.inside.lists.lists = ap length c.in_ok-reserve.ensures.lists in
    let lists : length c.reserve.new.self.lists + c.args.lists ≤ c.reserve.new.self.most_lists = c.in_ok-reserve.ensures.room_for_lists in
    let sums : length c.reserve.new.self.lists + c.args.lists ≤ vec_capacity c.reserve-2.new.self = omega (arith, same, c.self.invariant.are.each, c.in_ok-reserve-2.ensures.ok, c.in_ok-reserve-2.ensures.len, c.self.inside.sums.ok.0) in
    let more : length c.reserve.new.self.lists + c.args.lists ≤ vec_capacity c.reserve-3.new.self = omega (arith, same, ap length c.self.invariant.hashed, hashes, c.in_ok-reserve-3.ensures.ok, c.in_ok-reserve-3.ensures.len, c.self.inside.hashes.ok.0) in
    let slots : length c.reserve.new.self.lists + c.args.lists < length c.make_room.new.slots.items = omega (arith, same, ap length c.self.invariant.hashed, hashes, ap length c.as_slice.ensures.value, ap length c.in_ok-reserve-3.ensures.items, c.in_ok-make_room.ensures.room) in
    let few : length c.reserve.new.self.lists + c.args.lists ≤ 4294967295 = omega (arith, same, c.if-lists-len.false, c.len.ensures, c.self.invariant.few) in
    record { for_lists = omega (arith, lists, sums, more, slots, few); for_ranks = c.in_ok-reserve.ensures.room_for_elements }
