use Rattle.std.proofs.Common.{◌≡◌, ◌∙◌, ◌+◌, ◌<◌, ◌≤◌, List, length, get_or, sym, ap, subst, arith}
use Rattle.std.specs.List.{slice_get}
use Rattle.std.specs.Result.{IfOk}
use Rattle.std.proofs.lemmas.Option.{slice_get_within}
use Rattle.stand_sums.specs.Sums.{Tally, empty_tally, AreNext}
use Rattle.mask_sums.proofs.RoomLemmas.{at-together, together-none, replicate-at}
use Rattle.mask_sums.proofs.sums.MaskedSums.reaching.Goals.{then-self, else-self}
use Rattle.mask_sums.proofs.sums.MaskedSums.reaching.Goals as goal

pub returns-then-not-self : goal.returns-then-not-self
returns-then-not-self c =
    let same : c.self.inside.sums ≡ c.args.self.now =
    sym (together-none c.self.inside.masked 0 c.self.inside.sums (c.self.invariant.not_by_sets c.if-not-self.true)) ∙ c.self.view_is in
    subst (λ (l : List Tally). IfOk c.reaching.result (λ found. AreNext c.args.least c.args.longer l found.items)) same c.reaching.ensures

pub reaching-requires-2-clause-looked_for : goal.reaching-requires-2-clause-looked_for
reaching-requires-2-clause-looked_for c rank tally some at reached =
    let (one, there, is) = at-together c.self.inside.masked c.self.inside.sums rank tally at in
    let inside : rank < length c.self.inside.sums = slice_get_within c.self.inside.sums rank one there in
    let long = c.self.invariant.long in
    let few = c.self.invariant.few c.if-not-self.false in
    let weight_is : tally.weight ≡ one.weight + get_or c.self.inside.masked.followed rank 0 = ap (λ (t : Tally). t.weight) is in
    let enough : c.if-self.threshold ≤ get_or c.self.inside.masked.followed rank 0 = elim c.if-self.branch [
      | then-self w ↦ let none = w.threshold-is in omega arith
      | else-self w ↦
          let none : one ≡ empty_tally =
          replicate-at c.self.inside.ranks rank one (ap (λ (l : List Tally). slice_get l rank) (sym (c.self.invariant.not_by_ranks w.if-self.false)) ∙ there) in
          let no_weight : one.weight ≡ 0 = ap (λ (t : Tally). t.weight) none in
          let same = w.threshold-is in omega arith
    ] in
    (c.reaching-looked_for.ensures rank).1 (omega arith, enough)
