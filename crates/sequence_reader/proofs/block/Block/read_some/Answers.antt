use Rattle.std.proofs.Common.{◌≡◌, ◌≤◌, ◌+◌, ◌-◌, ◌++◌, ℕ, List, length, take, ap, ◌∙◌, refl, arith}
use Rattle.std.proofs.Common.{rules}
use Rattle.std.specs.Vec.{with_items}
use Rattle.std.proofs.lemmas.List.{with_items_is, places}
use borrow.Rule.Slice.PartMut.{post_of}
use Rattle.sequence_reader.proofs.AddingLemmas.{bytes-behind, added-some, end-of-read}
use Rattle.sequence_reader.proofs.block.Block.read_some.Goals as goal

pub returns-clause-added : goal.returns-clause-added
returns-clause-added g c =
    let filled : ℕ = c.args.self.now.filled in
    let count : ℕ = c.in_ok-count.count in
    let old : List ℕ = c.deref_mut.result.now in
    let tail : List ℕ = post_of filled ((filled + c.min-most.result) - filled) old in
    let fits : count ≤ length c.read.new.buffer = c.in_ok-count.ensures.fits in
    let size = ap length c.deref_mut.ensures.value in
    let within : filled ≤ length old = let free = c.requires.free in omega (arith, free, size) in
    let whole : List ℕ = take filled old ++ (c.read.new.buffer ++ tail) in
    let kept = with_items_is c.args.self.now.buffer whole (search (rules, places)) in
    let bytes : take (filled + count) (with_items c.args.self.now.buffer whole).items ≡ take filled c.args.self.now.buffer.items ++ take count c.read.new.buffer =
    ap (take (filled + count)) kept
    ∙ bytes-behind old c.read.new.buffer tail filled count within fits ∙ ap (λ w. take filled w ++ take count c.read.new.buffer) c.deref_mut.ensures.value in
    added-some (g.F.Files.left c.args.files.now) (g.F.Files.left c.read.new.self) (take filled c.args.self.now.buffer.items) (take (filled + count) (with_items c.args.self.now.buffer whole).items) c.read.new.buffer
    c.args.self.now.total (c.args.self.now.total + count) count c.in_ok-count.ensures.next c.in_ok-count.ensures.rest c.in_ok-count.ensures.within bytes refl

pub returns-clause-end : goal.returns-clause-end
returns-clause-end g c is =
    let zero : c.in_ok-count.count ≡ 0 = cc is in
    end-of-read (g.F.Files.left c.args.files.now) (g.F.Files.left c.read.new.self) c.in_ok-count.count zero c.in_ok-count.ensures.end c.in_ok-count.ensures.rest
