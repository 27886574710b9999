use Rattle.std.proofs.Common.{Some, None, refl, take, drop, length, get_or, ◌-◌, ◌≡◌, ◌∷◌}
use Rattle.patex_parser.specs.declared.bytes.Class.TheVariants.{BeforeComma}
use Rattle.patex_parser.specs.Classes.{test_of}
use Rattle.patex_parser.proofs.PartLemmas.{IsCutAt, run-cut, nothing-behind, first-behind, bad-parts, bad-number, one-number, number-comma, comma-number, two-numbers, number-other, blank-no-number, other-any}
use Rattle.patex_parser.proofs.bounds.repeat.Goals as goal

pub returns-in-Number : goal.returns-in-Number
returns-in-Number c =
    let between = c.args.between.now in
    let front = c.split_at.result.0.now in
    let behind = c.split_at.result.1.now in
    let cut : IsCutAt (test_of BeforeComma) between front behind =
    run-cut (test_of BeforeComma) between front behind c.run_of.result c.split_at.ensures.front c.split_at.ensures.back c.run_of.ensures.each c.run_of.ensures.longest in
    let is = c.in-Number.ensures in
    c.judged.ensures between is.0 (Some is.0) (one-number between front behind is.0 cut (nothing-behind behind c.in_default.len_below) is.1) is.2 (c.in-Number.n, refl, is.2)

pub returns-in_default-left : goal.returns-in_default-left
returns-in_default-left c =
    let between = c.args.between.now in
    let front = c.split_at.result.0.now in
    let behind = c.split_at.result.1.now in
    let cut : IsCutAt (test_of BeforeComma) between front behind =
    run-cut (test_of BeforeComma) between front behind c.run_of.result c.split_at.ensures.front c.split_at.ensures.back c.run_of.ensures.each c.run_of.ensures.longest in
    bad-number between front behind c.part_of-left.result cut (nothing-behind behind c.in_default.len_below) c.in_default-left.not-Number c.part_of-left.ensures

pub returns-in-Number-Blank : goal.returns-in-Number-Blank
returns-in-Number-Blank c =
    let between = c.args.between.now in
    let front = c.split_at.result.0.now in
    let behind = c.split_at.result.1.now in
    let cut : IsCutAt (test_of BeforeComma) between front behind =
    run-cut (test_of BeforeComma) between front behind c.run_of.result c.split_at.ensures.front c.split_at.ensures.back c.run_of.ensures.each c.run_of.ensures.longest in
    let back = take (length behind - 1) (drop 1 behind) in
    let more : behind ≡ get_or behind 0 0 ∷ back = first-behind behind c.in-len1-up.len_at_least in
    let is = rw c.in-Number-Blank.is-0 at c.part_of-left.ensures in
    c.judged-in-Number-Blank.ensures between is.0 None (number-comma between front behind back (get_or behind 0 0) is.0 cut more is.1 c.in-Number-Blank.ensures) is.2 refl

pub returns-in-Number-Number : goal.returns-in-Number-Number
returns-in-Number-Number c =
    let between = c.args.between.now in
    let front = c.split_at.result.0.now in
    let behind = c.split_at.result.1.now in
    let cut : IsCutAt (test_of BeforeComma) between front behind =
    run-cut (test_of BeforeComma) between front behind c.run_of.result c.split_at.ensures.front c.split_at.ensures.back c.run_of.ensures.each c.run_of.ensures.longest in
    let back = take (length behind - 1) (drop 1 behind) in
    let more : behind ≡ get_or behind 0 0 ∷ back = first-behind behind c.in-len1-up.len_at_least in
    let is = rw c.in-Number-Number.is-0 at c.part_of-left.ensures in
    let is' = rw c.in-Number-Number.is-1 at c.part_of.ensures in
    c.judged-in-Number-Number.ensures between is.0 (Some is'.0) (two-numbers between front behind back (get_or behind 0 0) is.0 is'.0 cut more is.1 is'.1) is.2 (c.in-Number-Number.m, refl, is'.2)

pub returns-in-Blank-Number : goal.returns-in-Blank-Number
returns-in-Blank-Number c =
    let between = c.args.between.now in
    let front = c.split_at.result.0.now in
    let behind = c.split_at.result.1.now in
    let cut : IsCutAt (test_of BeforeComma) between front behind =
    run-cut (test_of BeforeComma) between front behind c.run_of.result c.split_at.ensures.front c.split_at.ensures.back c.run_of.ensures.each c.run_of.ensures.longest in
    let back = take (length behind - 1) (drop 1 behind) in
    let more : behind ≡ get_or behind 0 0 ∷ back = first-behind behind c.in-len1-up.len_at_least in
    let is = rw c.in-Blank-Number.is-0 at c.part_of-left.ensures in
    let is' = rw c.in-Blank-Number.is-1 at c.part_of.ensures in
    c.judged-in-Blank-Number.ensures between 0 (Some is'.0) (comma-number between front behind back (get_or behind 0 0) is'.0 cut more is is'.1) refl (c.in-Blank-Number.m, refl, is'.2)

pub returns-in_default-2 : goal.returns-in_default-2
returns-in_default-2 c =
    let between = c.args.between.now in
    let front = c.split_at.result.0.now in
    let behind = c.split_at.result.1.now in
    let cut : IsCutAt (test_of BeforeComma) between front behind =
    run-cut (test_of BeforeComma) between front behind c.run_of.result c.split_at.ensures.front c.split_at.ensures.back c.run_of.ensures.each c.run_of.ensures.longest in
    let back = take (length behind - 1) (drop 1 behind) in
    let more : behind ≡ get_or behind 0 0 ∷ back = first-behind behind c.in-len1-up.len_at_least in
    bad-parts between front behind back (get_or behind 0 0) c.part_of-left.result c.part_of.result cut more
    (number-other c.part_of-left.result c.part_of.result c.in_default-2.field-0-0 c.in_default-2.is-0 c.in_default-2.is-1) c.part_of-left.ensures c.part_of.ensures

pub returns-in_default-2-2 : goal.returns-in_default-2-2
returns-in_default-2-2 c =
    let between = c.args.between.now in
    let front = c.split_at.result.0.now in
    let behind = c.split_at.result.1.now in
    let cut : IsCutAt (test_of BeforeComma) between front behind =
    run-cut (test_of BeforeComma) between front behind c.run_of.result c.split_at.ensures.front c.split_at.ensures.back c.run_of.ensures.each c.run_of.ensures.longest in
    let back = take (length behind - 1) (drop 1 behind) in
    let more : behind ≡ get_or behind 0 0 ∷ back = first-behind behind c.in-len1-up.len_at_least in
    bad-parts between front behind back (get_or behind 0 0) c.part_of-left.result c.part_of.result cut more
    (blank-no-number c.part_of-left.result c.part_of.result c.in_default-2.is-0 c.in_default-2.not-Number-1) c.part_of-left.ensures c.part_of.ensures

pub returns-in_default-2-3 : goal.returns-in_default-2-3
returns-in_default-2-3 c =
    let between = c.args.between.now in
    let front = c.split_at.result.0.now in
    let behind = c.split_at.result.1.now in
    let cut : IsCutAt (test_of BeforeComma) between front behind =
    run-cut (test_of BeforeComma) between front behind c.run_of.result c.split_at.ensures.front c.split_at.ensures.back c.run_of.ensures.each c.run_of.ensures.longest in
    let back = take (length behind - 1) (drop 1 behind) in
    let more : behind ≡ get_or behind 0 0 ∷ back = first-behind behind c.in-len1-up.len_at_least in
    bad-parts between front behind back (get_or behind 0 0) c.part_of-left.result c.part_of.result cut more
    (other-any c.part_of-left.result c.part_of.result c.in_default-2.is-0) c.part_of-left.ensures c.part_of.ensures
