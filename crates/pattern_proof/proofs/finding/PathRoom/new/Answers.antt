use Rattle.std.proofs.Common.{◌≡◌, ℕ, ◌+◌, ◌*◌, ◌≤◌, min, arith}
use Rattle.pattern_proof.proofs.RoomLemmas.{room-fits}
use Rattle.pattern_proof.proofs.finding.PathRoom.new.Goals as goal

pub returns : goal.returns
returns c = λ n m shorter fewer.
    let w : ℕ = c.args.states in
    let most : ℕ = c.min-pattern.result in
    let least : most ≡ min c.args.pattern c.args.items = c.min-pattern.ensures in
    let bits : ℕ = (c.args.items + 1) * (most + 1) * w in
    let words = c.in_ok-with_capacity.ensures.capacity in
    let deep = c.in_ok-with_capacity-2.ensures.capacity in
    record {
      table = λ few.
          let fits : (n + 1) * (m + 1) * w ≤ bits = room-fits n c.args.items m most w shorter (omega (arith, least, shorter, fewer, few)) in
          omega (arith, fits, words);
      deep = omega (arith, deep, shorter);
    }
