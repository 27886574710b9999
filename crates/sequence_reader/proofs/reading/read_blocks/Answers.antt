use Rattle.std.proofs.Common.{◌≤◌, ◌<◌, ◌++◌, [], ℕ, List, IsTrue, length, refl, ◌∙◌, ap, sym, subst, arith, append_assoc}
use Rattle.std.proofs.lemmas.List.{append-nil}
use Rattle.text_ports.specs.Scanning.{lines_behind}
use Rattle.sequence_reader.specs.declared.block.Block.{Block}
use Rattle.sequence_reader.specs.declared.reading.Reading.{Reading}
use Rattle.sequence_reader.specs.Blocks.{text_of, IsBlock, IsAt}
use Rattle.sequence_reader.specs.Taking.{all_waiting, with_waiting}
use Rattle.sequence_reader.proofs.TakingLemmas.{IsTaken-start, IsTaken-same}
use Rattle.sequence_reader.proofs.BlockLemmas.{whole-file}
use Rattle.sequence_reader.proofs.reading.read_blocks.Goals as goal

pub loop-files-init : goal.loop-files-init
loop-files-init g c =
    let reading : Reading = c.args.reading.now in
    let none = c.new-waiting.ensures.items in
    let zero = ap length c.requires.empty in
    let nothing = ap length (ap all_waiting none) in
    let names : length reading.names ≤ 1048576 = let count = c.count.ensures.count in let most = c.count.ensures.most in omega (arith, count, most) in
    record {
      block = c.in-Ok.ensures.block;
      buffer = let size = c.in_ok-next.ensures.size in let some = c.block_bytes-size.ensures in omega (arith, size, some);
      room = omega (arith, zero, nothing);
      so_far = (
        [],
        IsTaken-same reading.names reading.weighted [] reading (with_waiting reading c.new-waiting.result.items) refl (ap (λ w. reading.db ++ all_waiting w) none ∙ append-nil reading.db) refl
            (IsTaken-start reading names c.requires.empty),
        c.in-Ok.ensures.at,
      );
      kept = ([], sym (append-nil reading.names));
      same = c.begin.ensures.same_files;
      names = c.begin.ensures.same_names;
      rising = c.begin.ensures.never_falls;
    }

pub returns-in_err-read_block-clause-refused : goal.returns-in_err-read_block-clause-refused
returns-in_err-read_block-clause-refused g c fault is no_read no_memory =
    let (lines, taken, at) = c.loop-files.invariant.so_far in
    let gives = rw is at c.from_residual-in_err-read_block.ensures.1 in
    c.read_block.ensures.refused fault (c.in_err-read_block.was ∙ cc gives) no_read no_memory (g.F.Files.left c.args.files.now) c.args.reading.now.names lines c.args.reading.now.weighted at taken

pub loop-files-preserved : goal.loop-files-preserved
loop-files-preserved g c =
    let (lines, taken, at) = c.loop-files.invariant.so_far in
    let more = c.read_block.ensures.never_falls in
    let so_far = c.loop-files.invariant.rising in
    let next : Block = c.read_block.new.next in
    record {
      block = subst IsBlock (sym c.swap.ensures.x_after) c.in_ok-read_block.ensures.block.is;
      buffer = subst (λ (b : Block). 0 < length b.buffer.items) (sym c.swap.ensures.y_after) c.loop-files.invariant.block.some;
      room = c.in_ok-read_block.ensures.room;
      so_far = (
        lines ++ lines_behind (text_of c.loop-files.block),
        c.in_ok-read_block.ensures.taken c.args.reading.now.names lines c.args.reading.now.weighted taken,
        subst (IsAt (g.F.Files.left c.args.files.now) (g.F.Files.left c.read_block.new.files) (lines ++ lines_behind (text_of c.loop-files.block))) (sym c.swap.ensures.x_after)
            (c.in_ok-read_block.ensures.at (g.F.Files.left c.args.files.now) lines at),
      );
      kept = (
        c.loop-files.invariant.kept.0 ++ c.read_block.ensures.kept.0,
        c.read_block.ensures.kept.1 ∙ ap (λ (w : List (List ℕ)). w ++ c.read_block.ensures.kept.0) c.loop-files.invariant.kept.1
            ∙ append_assoc c.args.reading.now.names c.loop-files.invariant.kept.0 c.read_block.ensures.kept.0,
      );
      same = c.read_block.ensures.same_files ∙ c.loop-files.invariant.same;
      names = c.read_block.ensures.same_names ∙ c.loop-files.invariant.names;
      rising = omega (arith, more, so_far);
    }

pub returns-in_err-read_block-2-clause-refused : goal.returns-in_err-read_block-2-clause-refused
returns-in_err-read_block-2-clause-refused g c fault is no_read no_memory =
    let (lines, taken, at) = c.loop-files.invariant.so_far in
    let gives = rw is at c.from_residual-in_err-read_block-2.ensures.1 in
    c.read_block-2.ensures.refused fault (c.in_err-read_block-2.was ∙ cc gives) no_read no_memory (g.F.Files.left c.args.files.now) c.args.reading.now.names lines c.args.reading.now.weighted at taken

pub returns-clause-taken : goal.returns-clause-taken
returns-clause-taken g c =
    let (lines, taken, at) = c.loop-files.invariant.so_far in
    let reading : Reading = c.read_block-2.new.reading in
    let all = lines ++ lines_behind (text_of c.loop-files.block) in
    let done : Reading = record { weighted = reading.weighted; names = reading.names; items = c.append_waiting.new.items; db = c.append_waiting.new.db } in
    let last : IsTrue c.loop-files.block.is_last = sym c.is_last.ensures ∙ c.loop-files-test.false in (
      all,
      IsTaken-same c.args.reading.now.names c.args.reading.now.weighted all (with_waiting reading c.read_block-2.new.waiting.items) done refl
          (c.in_ok-append_waiting.ensures ∙ ap (λ w. reading.db ++ all_waiting w) c.as_slice.ensures.value) refl
          (c.in_ok-read_block-2.ensures.taken c.args.reading.now.names lines c.args.reading.now.weighted taken),
      whole-file (g.F.Files.left c.args.files.now) (g.F.Files.left c.loop-files.files) lines c.loop-files.block c.loop-files.invariant.block last at,
    )
