use Rattle.std.proofs.Common.{◌≡◌, ◌∙◌, ◌<◌, ◌+◌, ◌∷◌, ◌++◌, false, if◌then◌else◌, List, [], ℕ, get_or, length, take, sym, ap, subst, rules}
use Rattle.std.specs.List.{All}
use Rattle.std.proofs.lemmas.List.{take_more}
use Rattle.std.proofs.lemmas.List.Elements.{All-push}
use Rattle.std.proofs.lemmas.Option.{get_or_from_slice_get, slice_get_within}
use Rattle.place_walk.specs.declared.stand.Stand.{Stand}
use Rattle.candidate_graph.proofs.WordLemmas.{words-more}
use Rattle.candidate_graph.proofs.words.write_key.Goals as goal

pub loop-index-preserved : goal.loop-index-preserved
loop-index-preserved c =
    let k = c.loop-index.index in
    let stands : List Stand = c.args.stands.now in
    let stand : Stand = c.get-stand.result in
    let inside : k < length stands = slice_get_within stands k stand c.get-stand.ensures in
    let is : get_or stands k stand ≡ stand = get_or_from_slice_get stands k stand stand c.get-stand.ensures in
    let flag : ℕ = if c.args.seen then 1 else 0 in
    let small : stand.state < 65536 = search rules in
    let more : take (k + 1) stands ≡ take k stands ++ stand ∷ [] = subst (λ (s : Stand). take (k + 1) stands ≡ take k stands ++ s ∷ []) is (take_more stands k stand inside) in
    record {
      written = c.in_ok-push-3.ensures.items ∙ ap (λ (n : ℕ). c.push-in-loop-index.new.self.items ++ n ∷ []) c.from.ensures
          ∙ ap (λ (l : List ℕ). l ++ stand.state ∷ []) (c.in_ok-push-2.ensures.items ∙ ap (λ (l : List ℕ). l ++ stand.place ∷ []) c.loop-index.invariant.written)
          ∙ words-more flag stands k stand inside is;
      small = subst (All (λ (s : Stand). s.state < 65536)) (sym more) (All-push (λ (s : Stand). s.state < 65536) (take k stands) stand c.loop-index.invariant.small small);
    }
