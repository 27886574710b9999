use Rattle.std.proofs.Common.{◌≡◌, ◌∙◌, ◌<◌, ℕ, Some, List, [], length, get_or, sym, ap, subst, rules}
use Rattle.std.specs.List.{slice_get}
use Rattle.std.proofs.lemmas.List.{get_or_default}
use Rattle.std.proofs.lemmas.Option.{get_or_from_slice_get}
use Rattle.std.proofs.lemmas.Result.{IfOk-weaker}
use Rattle.level_ahead.specs.Counts.{Behind, AreReaching}
use Rattle.level_ahead.proofs.RoomLemmas.{entry-at, rank-asked}
use Rattle.level_ahead.proofs.ahead.Ahead.reaching.Goals as goal

pub index-requires : goal.index-requires
index-requires c =
    let inside = rank-asked c.self.inside.counts.items c.self.inside.ranks.items c.self.inside.asked c.self.inside.gathered.sets.items c.args.self.now c.args.entry c.index-rank.result.now
    c.self.invariant c.self.view_is c.requires c.index-rank.ensures in
    search rules

pub returns : goal.returns
returns c =
    let ranks : List ℕ = c.self.inside.ranks.items in
    let counts : List (List ℕ) = c.self.inside.counts.items in
    let rank : ℕ = c.index-rank.result.now in
    let inside : rank < length counts = rank-asked counts ranks c.self.inside.asked c.self.inside.gathered.sets.items c.args.self.now c.args.entry rank c.self.invariant c.self.view_is c.requires c.index-rank.ensures in
    let is : c.index.result.now ≡ get_or counts rank [] = c.index.ensures ∙ get_or_default counts rank c.index.result.now [] inside in
    IfOk-weaker c.reaching.result (λ found. AreReaching c.args.least c.index.result.now found.items)
    (λ found. (behind : Behind) → slice_get c.args.self.now c.args.entry ≡ Some behind → AreReaching c.args.least behind.counts found.items)
    (λ found reaching behind at.
    let (one, there, same) = entry-at counts ranks c.args.entry behind (ap (λ (l : List Behind). slice_get l c.args.entry) c.self.view_is ∙ at) in
    let rank_is : one ≡ rank = sym (get_or_from_slice_get ranks c.args.entry one rank there) ∙ sym c.index-rank.ensures in
    let counts_are : behind.counts ≡ c.index.result.now = ap (λ (b : Behind). b.counts) same ∙ ap (λ (r : ℕ). get_or counts r []) rank_is ∙ sym is in
    subst (λ (l : List ℕ). AreReaching c.args.least l found.items) (sym counts_are) reaching)
    c.reaching.ensures
