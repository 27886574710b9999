use Rattle.std.proofs.Common.{rules, ◌≡◌, ℕ, true, false, List, length, get_or, sym, ap, ◌∙◌, subst, arith}
use Rattle.std.specs.List.{slice_index_or}
use Rattle.std.proofs.lemmas.Option.{slice_get_within}
use Rattle.mine_model.specs.Ancestry.{item_at}
use Rattle.pattern_proof.specs.Listing.{ListsAll, Fronts, fronts_of}
use Rattle.pattern_proof.proofs.ListingLemmas.{under-lists}
use Rattle.pattern_proof.proofs.listing.lists_of.Goals as goal

pub returns : goal.returns
returns c =
    let numbers : List ℕ = c.in_ok-numbers.numbers.items in
    let are = c.in_ok-numbers.ensures in
    let slice : c.deref-number-items.result.now ≡ numbers = c.deref-number-items.ensures.value in
    let count : length c.deref-number-items.result.now ≡ length numbers = ap length slice in
    let last = c.loop-number-test.false in
    let most = c.loop-number.auto.number-index-end in
    let long : length c.loop-number.starts.items ≡ c.loop-number.number-index = search (rules, c.loop-number.invariant.long) in
    let whole = are.whole in
    let fronts : Fronts = fronts_of c.in_ok-lister.lister in
    record {
      whole = omega (arith, long, last, most, count, whole);
      each = λ number row found.
          let inside = slice_get_within c.args.rows.now number row found in
          let w : ℕ = get_or numbers number 0 in
          let start : get_or c.loop-number.starts.items number 0 ≡ get_or fronts.newest w 0 =
          c.loop-number.invariant.starts number (omega (arith, inside, last, count, whole)) ∙ ap (λ l. get_or fronts.newest (get_or l number 0) 0) slice in
          let marked = c.in_ok-marked.ensures.marked number (omega (arith, inside, whole, ap length c.as_slice.ensures.value)) in
          let is_marked : slice_index_or c.in_ok-marked.marked.items w false ≡ true = ap (λ l. slice_index_or c.in_ok-marked.marked.items (get_or l number 0) false) (sym c.as_slice.ensures.value) ∙ marked in
          let listed = c.in_ok-lister.ensures.each (item_at w) (ap (λ l. slice_index_or l w false) c.as_slice-2.ensures.value ∙ is_marked) in
          subst (λ n. ListsAll c.args.job.now fronts.listed n row.pattern) (sym start) (under-lists c.args.job.now fronts row.pattern (item_at w) (are.held number row found) listed);
    }
