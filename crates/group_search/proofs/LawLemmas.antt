-- Which automata can be searched, and that their rows are those of groups.
use Rattle.std.proofs.Common.{◌≡◌, ℕ, ◌+◌, ◌≤◌, ◌<◌, ◌↔◌, inl, inr, List, [], ◌∷◌, ◌++◌, length, get_or, sym, ap, ◌∙◌, subst, arith, append_assoc}
use Rattle.std.specs.List.{AllZip, Contains}
use Rattle.std.proofs.lemmas.List.Elements.{Contains-get_or}
use Rattle.std.proofs.lemmas.Option.{slice_get_within}
use Rattle.mine_model.specs.declared.item.Item.{Item}
use Rattle.mine_model.specs.declared.row.Row.{Row}
use Rattle.mine_model.specs.Support.{Sequence, Counts}
use Rattle.mine_model.specs.Answer.{Data}
use Rattle.mine_model.proofs.AboveLemmas.{pattern-shorter}
use Rattle.mine_model.proofs.RankedLemmas.{ranked-bounds, ranked-length}
use Rattle.mine_model.proofs.ElementLemmas.{get-place}
use Rattle.automaton_model.specs.declared.groups.Group.{Group}
use Rattle.automaton_model.specs.Automata.{StateValue, Accepts}
use Rattle.automaton_model.specs.Codes.{IsMinimalAutomaton, IsStateAfter}
use Rattle.automaton_model.specs.Registry.{IsRegistry}
use Rattle.automaton_model.specs.Searches.{Load, Weigh}
use Rattle.automaton_model.specs.Members.{IsPivotMember, IsPivotCode}
use Rattle.automaton_model.specs.Groups.{LieIn, grouped, AreGroups, AreGroupRows}
use Rattle.automaton_model.proofs.AutomatonLemmas.{accepts-exact, first-visit, accepts_back}
use Rattle.automaton_model.proofs.PivotLemmas.{lie-exact}
use Rattle.automaton_model.proofs.ZipLemmas.{zip-there, zip-second}
use Rattle.group_search.specs.Found.{AreLoadedRows, StandsFor}
use Rattle.group_search.specs.Searched.{IsTrim, IsSearched}

-- Registries

pub registry-trim : (states : List StateValue) → IsRegistry states → IsTrim states
registry-trim states registry = λ state held.
    let (number, is) = get-place states state held in
    let kept = registry.kept number state is in
    record { rising = kept.rising; alive = kept.alive }

pub registry-short : (states : List StateValue) → IsRegistry states → (number : ℕ) (list : List ℕ) → Accepts states number list → length list ≤ number
registry-short states registry number [] accepts = omega arith
registry-short states registry number (rank ∷ list) (state, edge, is, held, by, next) =
    let back : edge.to < number = (registry.kept number state is).back edge held in
    let rest : length list ≤ edge.to = registry-short states registry edge.to list next in
    omega (arith, back, rest)

-- Minimal automata

module _ (IsMember : List ℕ → Type 0) (states : List StateValue) (least : IsMinimalAutomaton IsMember states) where
  pub least-trim : IsTrim states
  least-trim = λ state held.
      let (visit, inside, after) = zip-second (IsStateAfter IsMember least.visits) least.visits states least.state state held in
      record {
        rising = after.rising;
        alive = λ edge on.
            (let leads = (after.exact edge).0 on in
            let moved : IsMember ((visit ++ edge.rank ∷ []) ++ leads.more) = subst IsMember (sym (append_assoc visit (edge.rank ∷ []) leads.more)) leads.begins in
            (leads.more, accepts_back IsMember states least leads.more edge.to leads.first leads.numbered ((leads.same leads.more).1 moved)));
      }

  pub least-some : 0 < length states
  least-some =
      let (t, is, after) = zip-there (IsStateAfter IsMember least.visits) least.visits states least.state 0 [] (first-visit IsMember states least) in
      slice_get_within states 0 t is

-- Codes of candidates

pub pivot-searched : (d : Data Item) (order : List Item) (pivot : ℕ) (code : List ℕ) (items : List Item) → IsPivotCode d order pivot code items
    → IsSearched (length order) (length items) code
pivot-searched d order pivot code items (states, least, coded) = record {
  states = states;
  coded = coded;
  some = least-some (IsPivotMember d order pivot items) states least;
  trim = least-trim (IsPivotMember d order pivot items) states least;
  finite = λ list accepts. (let member = (accepts-exact (IsPivotMember d order pivot items) states least list).0 accepts in
      let short : length member.pattern ≤ length items = pattern-shorter d.links d.expression items member.pattern member.generated in
      let long : length member.pattern ≡ length list = ranked-length order member.pattern list member.ranked in
      record { short = omega (arith, short, long); ranks = λ k e below. ranked-bounds order member.pattern list member.ranked (get_or list k e) (Contains-get_or list k e below) });
}

pub searched-longer : (count least most : ℕ) (code : List ℕ) → least ≤ most → IsSearched count least code → IsSearched count most code
searched-longer count least most code less is = record {
  states = is.states;
  coded = is.coded;
  some = is.some;
  trim = is.trim;
  finite = λ list accepts. (let ranks = is.finite list accepts in let short = ranks.short in record { short = omega (arith, less, short); ranks = ranks.ranks });
}

pub groups-searched : (d : Data Item) (order : List Item) (pivot most : ℕ) (sequences : List (Sequence Item)) (groups : List Group) → AreGroups d order pivot sequences groups
    → ((sequence : Sequence Item) → Contains sequences sequence → length sequence.items ≤ most) → (group : Group) → Contains groups group → IsSearched (length order) most group.automaton
groups-searched d order pivot most sequences groups are short group held =
    let one = are.group group held in
    searched-longer (length order) (length one.one.items) most group.automaton (short one.one one.held) (pivot-searched d order pivot group.automaton one.one.items one.coded)

-- Loads that stand for groups

-- the group's lists are accepted from the load's state, and both weigh the same
pub record Stands (states : List StateValue) (load : Load) (group : Group) : Type 0 where
  pub same : (list : List ℕ) → Accepts states load.state list ↔ LieIn list group.automaton
  pub weight : load.weight ≡ group.count

module _ (states : List StateValue) (list : List ℕ) where
  pub weigh-counts : (loads : List Load) (groups : List Group) → AllZip (Stands states) loads groups → (n : ℕ) → Weigh (λ state. Accepts states state list) loads n → Counts (LieIn list) (grouped groups) n
  weigh-counts [] [] zip n weighs = weighs
  weigh-counts [] (group ∷ groups) zip n weighs = absurd zip
  weigh-counts (load ∷ loads) [] zip n weighs = absurd zip
  weigh-counts (load ∷ loads) (group ∷ groups) zip n (inl (has, (rest, sum, weighs))) =
      inl ((zip.0.same list).0 has, (rest, sum ∙ ap (λ w. w + rest) zip.0.weight, weigh-counts loads groups zip.1 rest weighs))
  weigh-counts (load ∷ loads) (group ∷ groups) zip n (inr (never, weighs)) = inr ((λ lies. never ((zip.0.same list).1 lies)), weigh-counts loads groups zip.1 n weighs)

  pub counts-weigh : (loads : List Load) (groups : List Group) → AllZip (Stands states) loads groups → (n : ℕ) → Counts (LieIn list) (grouped groups) n → Weigh (λ state. Accepts states state list) loads n
  counts-weigh [] [] zip n counts = counts
  counts-weigh [] (group ∷ groups) zip n counts = absurd zip
  counts-weigh (load ∷ loads) [] zip n counts = absurd zip
  counts-weigh (load ∷ loads) (group ∷ groups) zip n (inl (lies, (rest, sum, counts))) =
      inl ((zip.0.same list).1 lies, (rest, sum ∙ ap (λ w. w + rest) (sym zip.0.weight), counts-weigh loads groups zip.1 rest counts))
  counts-weigh (load ∷ loads) (group ∷ groups) zip n (inr (never, counts)) = inr ((λ accepts. never ((zip.0.same list).0 accepts)), counts-weigh loads groups zip.1 n counts)

-- WHAT LOADS HAVE FOR ROWS is what their groups have
pub rows-of-stands : (order : List Item) (threshold : ℕ) (states : List StateValue) (loads : List Load) (groups : List Group) → AllZip (Stands states) loads groups → (rows : List Row)
    → AreLoadedRows order threshold states loads rows → AreGroupRows order threshold groups rows
rows-of-stands order threshold states loads groups zip rows are = record {
  once = are.once;
  exact = λ row. (
    (λ held. (let is = (are.exact row).0 held in record {
      ranks = is.ranks;
      ranked = is.ranked;
      counted = weigh-counts states is.ranks loads groups zip row.support is.weighed;
      enough = is.enough;
    })),
    (λ is. (are.exact row).1 (record {
      ranks = is.ranks;
      ranked = is.ranked;
      weighed = counts-weigh states is.ranks loads groups zip row.support is.counted;
      enough = is.enough;
    })),
  );
}

stands-for : (states : List StateValue) (loads : List Load) (groups : List Group) → AllZip (StandsFor states) loads groups → AllZip (Stands states) loads groups
stands-for states [] [] zip = zip
stands-for states [] (group ∷ groups) zip = absurd zip
stands-for states (load ∷ loads) [] zip = absurd zip
stands-for states (load ∷ loads) (group ∷ groups) zip = (
  record {
    same = λ list. (let exact = lie-exact (Accepts states load.state) group.automaton list zip.0.coded in ((λ a. exact.1 a), (λ l. exact.0 l)));
    weight = zip.0.weight;
  },
  stands-for states loads groups zip.1,
)

pub rows-of-loaded : (order : List Item) (threshold : ℕ) (states : List StateValue) (loads : List Load) (groups : List Group) → AllZip (StandsFor states) loads groups → (rows : List Row)
    → AreLoadedRows order threshold states loads rows → AreGroupRows order threshold groups rows
rows-of-loaded order threshold states loads groups zip rows are = rows-of-stands order threshold states loads groups (stands-for states loads groups zip) rows are
