use Rattle.std.proofs.Common.{ℕ, ◌∙◌, ◌≤◌, ◌+◌, ◌-◌, List, take, drop, length, arith}
use Rattle.text_ports.proofs.Written.{told_then}
use Rattle.text_ports.proofs.Written.{piece_within, piece_joins}
use Rattle.text_ports.proofs.writing.write_all.Goals as goal

pub loop-at-preserved : goal.loop-at-preserved
loop-at-preserved g c =
    let text : List ℕ = c.args.text.now in
    let at : ℕ = c.loop-at.at in
    let end : ℕ = c.loop-at.at + c.min.result in
    let n : ℕ = c.in_ok-count.count in
    let least = c.min.ensures in
    let end_within : end ≤ length text = omega (arith, least) in
    let within : at + n ≤ end = piece_within text at end n end_within (omega arith) c.in_ok-count.ensures.fits in
    record {
      within = omega (arith, within, end_within);
      written = told_then _ _ _ (take at text) (take n (take (end - at) (drop at text))) _ c.loop-at.invariant.written c.in_ok-count.ensures.appends
          (piece_joins text at end n (omega (arith, within)));
      passed = c.in_ok-count.ensures.passed ∙ c.loop-at.invariant.passed;
    }
