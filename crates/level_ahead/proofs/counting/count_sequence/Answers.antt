use Rattle.std.proofs.Common.{◌≡◌, ◌∙◌, ◌<◌, ℕ, List, [], length, get_or, subst, arith, rules}
use Rattle.std.proofs.lemmas.List.{get_or_default}
use Rattle.state_bits.specs.Members.{Has}
use Rattle.mask_sums.specs.Kept.{HasOneMore}
use Rattle.level_ahead.proofs.GatherLemmas.{left-start, left-more, left-member, left-new, left-all, counted-none, counted-more, counted-all}
use Rattle.level_ahead.proofs.counting.count_sequence.Goals as goal

pub loop-rank-init : goal.loop-rank-init
loop-rank-init c =
    rw c.into_iter-rank-iterator.ensures.into_iter_gives (record {
      left = left-start (Has c.args.gathered.now.touched) c.iter-rank-items.result c.iter-rank-items.ensures.rising c.iter-rank-items.ensures.members;
      counted = counted-none c.args.gathered.now.sets.items c.args.counts.now;
    })

pub bounds-counts-rank : goal.bounds-counts-rank
bounds-counts-rank c =
    let member = left-member (Has c.args.gathered.now.touched) c.loop-rank.yielded c.loop-rank.rank-iterator c.next.new.self c.in-Some.rank c.loop-rank.invariant.left c.in-Some.ensures.steps in
    let inside = c.requires.counts c.in-Some.rank member in
    let room = c.loop-rank.invariant.counted.room in
    omega arith

pub index-requires : goal.index-requires
index-requires c =
    let member = left-member (Has c.args.gathered.now.touched) c.loop-rank.yielded c.loop-rank.rank-iterator c.next.new.self c.in-Some.rank c.loop-rank.invariant.left c.in-Some.ensures.steps in
    let inside = c.requires.sets c.in-Some.rank member in
    search rules

pub loop-rank-preserved : goal.loop-rank-preserved
loop-rank-preserved c =
    let rank : ℕ = c.in-Some.rank in
    let touched = Has c.args.gathered.now.touched in
    let sets : List ℕ = c.args.gathered.now.sets.items in
    let counts : List (List ℕ) = c.loop-rank.counts in
    let member = left-member touched c.loop-rank.yielded c.loop-rank.rank-iterator c.next.new.self rank c.loop-rank.invariant.left c.in-Some.ensures.steps in
    let new = left-new touched c.loop-rank.yielded c.loop-rank.rank-iterator c.next.new.self rank c.loop-rank.invariant.left c.in-Some.ensures.steps in
    let in_sets : rank < length sets = c.requires.sets rank member in
    let before = c.requires.counts rank member in
    let room = c.loop-rank.invariant.counted.room in
    let inside : rank < length counts = omega arith in
    let set_is : c.index.result.now ≡ get_or sets rank 0 = c.index.ensures ∙ get_or_default sets rank c.index.result.now 0 in_sets in
    let count_is : get_or counts rank c.index-counts-rank.result ≡ get_or counts rank [] = get_or_default counts rank c.index-counts-rank.result [] inside in
    let one : HasOneMore (Has (get_or sets rank 0)) (get_or counts rank []) c.add.new.self =
    subst (λ (n : ℕ). HasOneMore (Has n) (get_or counts rank []) c.add.new.self) set_is
    (subst (λ (l : List ℕ). HasOneMore (Has c.index.result.now) l c.add.new.self) count_is (record { members = λ q few has. c.in_ok-add.ensures.members q few has; others = λ q lacks. c.in_ok-add.ensures.others q lacks })) in
    record {
      left = left-more touched c.loop-rank.yielded c.loop-rank.rank-iterator c.next.new.self rank c.loop-rank.invariant.left c.in-Some.ensures.steps;
      counted = counted-more sets c.args.counts.now counts c.loop-rank.yielded rank c.add.new.self c.loop-rank.invariant.counted inside new one;
    }

pub returns-clause-counted : goal.returns-clause-counted
returns-clause-counted c =
    counted-all c.args.gathered.now c.args.counts.now c.loop-rank.counts c.loop-rank.yielded
    (left-all (Has c.args.gathered.now.touched) c.loop-rank.yielded c.loop-rank.rank-iterator c.loop-rank.invariant.left c.in-None.ensures.steps.0) c.loop-rank.invariant.counted
