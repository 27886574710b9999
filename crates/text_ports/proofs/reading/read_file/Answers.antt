use Rattle.std.proofs.Common.{◌≤◌, drop, length, arith, ◌∙◌, length-take}
use Rattle.std.proofs.lemmas.List.{take-append-le}
use Rattle.text_ports.proofs.Told.{IsReadTo-start, IsReadTo-more, IsReadTo-end, IsReadTo-length}
use Rattle.text_ports.proofs.reading.read_file.Goals as goal

pub loop-buffer-init : goal.loop-buffer-init
loop-buffer-init g c =
    let start = IsReadTo-start _ _ c.in_ok-open.ensures.opened in
    record {
      read = rw c.new-bytes.ensures.items start;
      within = let none = c.new-bytes.ensures.len in omega (arith, none);
      same = c.open.ensures.same_files;
      names = c.open.ensures.same_names;
      passed = c.in_ok-open.ensures.passed;
      rising = c.open.ensures.never_falls;
    }

pub returns-then-count-eq0-clause-whole : goal.returns-then-count-eq0-clause-whole
returns-then-count-eq0-clause-whole g c = IsReadTo-end _ _ c.loop-buffer.bytes.items c.in_ok-count.count c.loop-buffer.invariant.read c.in_ok-count.ensures.end c.if-count-eq0.true

pub loop-buffer-preserved : goal.loop-buffer-preserved
loop-buffer-preserved g c = record {
  read =
      let more = IsReadTo-more _ _ _ c.loop-buffer.bytes.items _ c.in_ok-count.count c.loop-buffer.invariant.read c.in_ok-count.ensures.next c.in_ok-count.ensures.rest in
      let fits : c.in_ok-count.count ≤ length c.read.new.buffer = c.in_ok-count.ensures.fits in
      let front = take-append-le c.in_ok-count.count c.read.new.buffer (drop c.min-most.result c.loop-buffer.buffer) fits in
      rw (c.in_ok-extend_from_slice.ensures.items, front) more;
  within =
      let fits : c.in_ok-count.count ≤ length c.read.new.buffer = c.in_ok-count.ensures.fits in
      let same = c.read.auto.buffer in
      let before = c.len-in-loop-buffer.ensures in
      let most = c.min-most.ensures in
      let front = take-append-le c.in_ok-count.count c.read.new.buffer (drop c.min-most.result c.loop-buffer.buffer) fits in
      let len = rw (front, length-take) at c.in_ok-extend_from_slice.ensures.len in
      let size = rw length-take at same in
      let test = c.loop-buffer-test.true in
      let whole = c.len.ensures in
      omega (arith, len, fits, size, before, most, test, whole);
  same = c.read.ensures.same_files ∙ c.loop-buffer.invariant.same;
  names = c.read.ensures.same_names ∙ c.loop-buffer.invariant.names;
  passed = c.in_ok-count.ensures.passed ∙ c.loop-buffer.invariant.passed;
  rising = let more = c.read.ensures.never_falls in let so_far = c.loop-buffer.invariant.rising in omega (arith, more, so_far);
}

pub returns-clause-too_large : goal.returns-clause-too_large
returns-clause-too_large g c is = IsReadTo-length _ _ _ 67108864 c.loop-buffer.invariant.read (let len = c.len.ensures in let ok = c.loop-buffer.bytes.ok.0 in omega (arith, len, ok))
