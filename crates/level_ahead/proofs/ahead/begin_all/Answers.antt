use Rattle.std.proofs.Common.{◌≡◌, ◌∙◌, ◌+◌, ◌<◌, ◌++◌, [], ◌∷◌, ℕ, true, false, List, length, set, replicate, get_or, sym, subst}
use Rattle.stand_sums.specs.declared.next_rank.NextRank.{NextRank}
use Rattle.stand_sums.proofs.WritingLemmas.{no_rank}
use Rattle.level_ahead.specs.Counts.{is_asked}
use Rattle.level_ahead.proofs.RoomLemmas.{AreBegun, begun-start, begun-skip, begun-more, begun-all}
use Rattle.level_ahead.proofs.ahead.begin_all.Goals.{then-asks_about+in_ok-push, else-asks_about}
use Rattle.level_ahead.proofs.ahead.begin_all.Goals as goal

pub loop-next-init : goal.loop-next-init
loop-next-init c = begun-start c.args.lacking c.args.found.now c.args.ranks.now.items c.args.asked.now c.args.counts.now c.requires.no_ranks c.requires.none_asked

pub loop-next-preserved : goal.loop-next-preserved
loop-next-preserved c =
    let found : List NextRank = c.args.found.now in
    let k : ℕ = c.loop-next.next-index in
    let inside : k < length found = c.loop-next-test.true in
    let this : NextRank = get_or found k no_rank in
    let before : List (List ℕ) = c.args.counts.now in
    let ranks : List ℕ = c.loop-next.ranks.items in
    let counts : List (List ℕ) = c.loop-next.counts in
    elim c.if-asks_about.branch [
      | then-asks_about+in_ok-push w ↦
          let is : is_asked c.args.lacking this ≡ true = sym c.asks_about.ensures ∙ w.if-asks_about.true in
          let more : AreBegun c.args.lacking found (k + 1) (ranks ++ this.rank ∷ []) w.add.new.self before (set counts this.rank (replicate 256 0)) =
          begun-more c.args.lacking found k no_rank inside ranks c.loop-next.asked w.add.new.self before counts is (c.requires.few k no_rank inside) c.requires.room c.loop-next.invariant w.add.ensures in
          rw (w.ranks-is, w.asked-is, w.counts-is)
          (subst (λ (l : List ℕ). AreBegun c.args.lacking found (k + 1) l w.add.new.self before (set counts this.rank w.clear.new.self)) (sym w.in_ok-push.ensures.items)
          (subst (λ (l : List ℕ). AreBegun c.args.lacking found (k + 1) (ranks ++ this.rank ∷ []) w.add.new.self before (set counts this.rank l)) (sym w.clear.ensures) more))
      | else-asks_about w ↦
          let is : is_asked c.args.lacking this ≡ false = sym c.asks_about.ensures ∙ w.if-asks_about.false in
          rw (w.ranks-is, w.asked-is, w.counts-is) (begun-skip c.args.lacking found k no_rank inside ranks c.loop-next.asked before counts is c.loop-next.invariant)
    ]

pub returns-clause-begun : goal.returns-clause-begun
returns-clause-begun c =
    begun-all c.args.lacking c.args.found.now c.loop-next.next-index c.loop-next.ranks.items c.loop-next.asked c.args.counts.now c.loop-next.counts c.loop-next.invariant c.loop-next-test.false
