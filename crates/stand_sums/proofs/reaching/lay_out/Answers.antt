use Rattle.std.proofs.Common.{◌≡◌, ◌+◌, ◌<◌, ◌++◌, ◌∙◌, ℕ, List, length, get_or, set, take, drop, ap, arith, rules, refl}
use Rattle.std.proofs.lemmas.List.{set-set, get_or-set_same, get_or_default}
use Rattle.stand_sums.specs.declared.next_rank.NextRank.{NextRank}
use Rattle.stand_sums.specs.Kept.{moved}
use Rattle.stand_sums.proofs.ReachLemmas.{end_from, left-next, laid-more, end-more}
use Rattle.stand_sums.proofs.reaching.lay_out.Goals as goal

pub loop-index-init : goal.loop-index-init
loop-index-init c = record { now = refl; end = refl }

pub loop-index-preserved : goal.loop-index-preserved
loop-index-preserved c =
    let nexts : List NextRank = c.args.found.now.items in
    let k : ℕ = c.loop-index.index in
    let found : List NextRank = c.loop-index.found.items in
    let one : NextRank = c.index_mut.result.now in
    let two : NextRank = c.index_mut-in-loop-index.result.now in
    let read : NextRank = c.index.result.now in
    let inside : k < length nexts = search rules in
    let long : length found ≡ length nexts = search rules in
    let next : NextRank = get_or nexts k one in
    let now : found ≡ moved 0 (take k nexts) ++ drop k nexts = c.loop-index.invariant.now in
    let one_is : one ≡ next = c.index_mut.ensures.value ∙ ap (λ (l : List NextRank). get_or l k one) now ∙ left-next nexts k one inside in
    let read_is : read ≡ next =
    c.index.ensures ∙ ap (λ (l : List NextRank). get_or l k read) now ∙ left-next nexts k read inside ∙ get_or_default nexts k read one inside in
    let first : NextRank = record one { first = c.loop-index.end } in
    let two_is : two ≡ first = c.index_mut-in-loop-index.ensures.value ∙ get_or-set_same found k first two (omega arith) in
    let sum : c.in_ok-end.end ≡ c.loop-index.end + read.last = search rules in
    let end_is : c.in_ok-end.end ≡ end_from 0 (take k nexts) + next.last =
    sum ∙ ap (λ (n : ℕ). n + read.last) c.loop-index.invariant.end ∙ ap (λ (n : NextRank). end_from 0 (take k nexts) + n.last) read_is in
    let last : NextRank = record two { last = c.in_ok-end.end } in
    let last_is : last ≡ record next { first = end_from 0 (take k nexts); last = end_from 0 (take k nexts) + next.last } =
    (λ i. record {
      rank = (ap (λ (n : NextRank). n.rank) two_is ∙ ap (λ (n : NextRank). n.rank) one_is) i;
      weight = (ap (λ (n : NextRank). n.weight) two_is ∙ ap (λ (n : NextRank). n.weight) one_is) i;
      support = (ap (λ (n : NextRank). n.support) two_is ∙ ap (λ (n : NextRank). n.support) one_is) i;
      longer = (ap (λ (n : NextRank). n.longer) two_is ∙ ap (λ (n : NextRank). n.longer) one_is) i;
      first = (ap (λ (n : NextRank). n.first) two_is ∙ c.loop-index.invariant.end) i;
      last = end_is i;
    }) in
    record {
      now = set-set found k first last ∙ ap (λ (l : List NextRank). set l k last) now ∙ laid-more nexts k one inside last last_is;
      end = end_is ∙ end-more nexts k one inside;
    }
