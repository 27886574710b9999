-- The search over prefixes, from its first step to its last.
use Rattle.std.proofs.Common.{◌≡◌, ◌≢◌, ℕ, ◌≤◌, ◌<◌, ◌^◌, inl, inr, Bool, true, false, cond, List, [], ◌∷◌, ◌++◌, length, map, All, refl, sym, ap, ◌∙◌, subst, arith}
use Rattle.std.specs.List.{AllPairs, Contains}
use Rattle.std.specs.List.Sorted.{IsPermutation}
use Rattle.std.proofs.lemmas.List.{append-nil}
use Rattle.std.proofs.lemmas.List.Elements.{Contains-push}
use Rattle.mine_model.specs.declared.item.Item.{Item}
use Rattle.mine_model.specs.declared.row.Row.{Row}
use Rattle.mine_model.proofs.ListLemmas.{Contains-cases, Contains-first, Contains-none, Contains-by}
use Rattle.mine_model.proofs.OnceLemmas.{some-part}
use Rattle.mine_model.proofs.SumLemmas.{sum_by-same}
use Rattle.automaton_model.specs.Automata.{StateValue, Accepts}
use Rattle.group_search.specs.declared.loads.LoadedState.{LoadedState}
use Rattle.group_search.specs.declared.step.Step.{Step}
use Rattle.group_search.specs.declared.stack.Stack.{Stack}
use Rattle.group_search.specs.Found.{load_of, AreLoadedRows}
use Rattle.group_search.specs.Searched.{IsTrim, AreFinite}
use Rattle.group_search.specs.Steps.{state_at, weigh, weigh_by, steps_of}
use Rattle.group_search.specs.Waits.{Wait, waits_of, waits_behind}
use Rattle.group_search.specs.Search.{IsSound, IsBehind, IsOwn, IsGrown, IsSearching, work_of}
use Rattle.group_search.proofs.WeighLemmas.{is_accepted, weight_behind, accepted-holds, ends-here, steps-most, by-permuted}
use Rattle.group_search.proofs.GrowthLemmas.{search-goes-on, kid-sound, kid-rank}
use Rattle.group_search.proofs.WorkLemmas.{work-less}

-- What loads weigh where a list may end

pub here-is : (states : List StateValue) (loads : List LoadedState) → ((load : LoadedState) → Contains loads load → load.state < length states)
    → weigh (λ state. (state_at states state).accepts) loads ≡ weight_behind states [] loads
here-is states loads there =
    sum_by-same (λ (load : LoadedState). cond (state_at states load.state).accepts load.weight 0) (λ (load : LoadedState). cond (is_accepted states [] load.state) load.weight 0) loads
    (λ load held. ap (λ b. cond b load.weight 0) (ends-here states load.state (there load held)))

some-weight : (b : Bool) (n : ℕ) → 1 ≤ cond b n 0 → b ≡ true
some-weight true n some = refl
some-weight false n some = absurd (omega (arith, some))

-- a prefix at which something ends has ranks of items
pub sound-ranks : (states : List StateValue) (count most : ℕ) (wait : Wait) → IsSound states count most wait → 1 ≤ weight_behind states [] wait.loads
    → All (λ rank. (1 ≤ rank) × (rank ≤ count)) wait.prefix
sound-ranks states count most wait sound some = elim (some-part (λ (load : LoadedState). cond (is_accepted states [] load.state) load.weight 0) wait.loads) [
  | inl none ↦ absurd (omega (arith, some, none))
  | inr one ↦
      let (load, held, weighs) = one in
      let accepts : Accepts states load.state [] = accepted-holds states [] load.state (some-weight (is_accepted states [] load.state) load.weight weighs) in
      subst (λ l. All (λ rank. (1 ≤ rank) × (rank ≤ count)) l) (append-nil wait.prefix) (sound.lists load held [] accepts).ranks
]

-- the steps by one rank weigh less than 2^64
pub sound-fits : (states : List StateValue) (trim : IsTrim states) (count most : ℕ) (wait : Wait) → IsSound states count most wait → (steps : List Step) → IsPermutation (steps_of states wait.loads) steps
    → (rank : ℕ) → weigh_by rank (λ state. true) steps < 2 ^ 64
sound-fits states trim count most wait sound steps same rank =
    let moved = by-permuted rank (λ state. true) (steps_of states wait.loads) steps same in
    let less = steps-most states trim rank (λ state. true) wait.loads sound.there in
    let fits = sound.fits in
    omega (arith, moved, less, fits)

-- The first step

pub search-first : (order : List Item) (threshold : ℕ) (states : List StateValue) (count most : ℕ) (all : Wait) → IsSound states count most all
    → IsSearching order threshold states count most all ([] ++ all ∷ []) []
search-first order threshold states count most all sound = record {
  sound = λ wait held. subst (IsSound states count most) (sym (only wait held)) sound;
  exact = λ row. (
    (λ is. inr (all, Contains-first all [], is)),
    (λ found. elim found [
      | inl none ↦ absurd (Contains-none row none)
      | inr waits ↦ (let (wait, held, is) = waits in subst (λ w. IsBehind order threshold states w row) (only wait held) is)
    ]),
  );
  once = λ i j d less within. absurd (omega (arith, less, within));
  past = λ row held. absurd (Contains-none row held);
  apart = λ i j d less within. absurd (omega (arith, less, within));
}
  where
    only : (wait : Wait) → Contains (all ∷ []) wait → wait ≡ all
    only wait held = elim (Contains-cases all [] wait held) [ inl is ↦ is | inr none ↦ absurd (Contains-none wait none) ]

-- One prefix more

module _ (order : List Item) (different : AllPairs (λ v w. v ≢ w) order) (states : List StateValue) (trim : IsTrim states) (count most threshold : ℕ) (least : 1 ≤ threshold)
    (all : Wait) (waits : List Wait) (wait : Wait) (rows : List Row) (searching : IsSearching order threshold states count most all (waits ++ wait ∷ []) rows)
    (before after : Stack) (found : List Row) (there : waits_of before ≡ waits) (here : before.prefix.items ≡ wait.prefix)
    (grown : IsGrown order threshold states wait.loads before rows after found) where
  sound : IsSound states count most wait
  sound = searching.sound wait (Contains-push waits wait)

  own : IsOwn order threshold wait.prefix (weight_behind states [] wait.loads) grown.own
  own =
      subst (λ n. IsOwn order threshold wait.prefix n grown.own) (here-is states wait.loads sound.there)
      (subst (λ p. IsOwn order threshold p (weigh (λ state. (state_at states state).accepts) wait.loads) grown.own) here grown.row)

  waits-now : waits_of after ≡ waits ++ waits_behind wait.prefix grown.kids.kids
  waits-now = grown.kids.pushed.waits ∙ (λ i. there i ++ waits_behind (here i) grown.kids.kids)

  pub grown-searching : IsSearching order threshold states count most all (waits_of after) found
  grown-searching =
      subst (λ w. IsSearching order threshold states count most all w found) (sym waits-now)
      (subst (λ r. IsSearching order threshold states count most all (waits ++ waits_behind wait.prefix grown.kids.kids) r) (sym grown.added)
      (search-goes-on order different states trim count most threshold least all waits wait rows searching grown.own own grown.steps grown.same grown.kids.kids grown.kids.are))

  pub grown-less : work_of count most (waits_of after) < work_of count most (waits ++ wait ∷ [])
  grown-less =
      subst (λ w. work_of count most w < work_of count most (waits ++ wait ∷ [])) (sym waits-now)
      (work-less count most waits wait grown.kids.kids grown.kids.are.rising
      (λ kid held. kid-rank states trim count most threshold least wait sound grown.steps grown.same grown.kids.kids grown.kids.are kid (grown.kids.are.each kid held))
      (λ kid held. (kid-sound states trim count most threshold least wait sound grown.steps grown.same grown.kids.kids grown.kids.are kid (grown.kids.are.each kid held)).deep))

-- The end

pub search-ends : (order : List Item) (threshold : ℕ) (states : List StateValue) (count most : ℕ) (loads : List LoadedState) (waits : List Wait) (rows : List Row)
    → IsSearching order threshold states count most (record { prefix = []; loads = loads }) waits rows → waits ≡ [] → AreLoadedRows order threshold states (map load_of loads) rows
search-ends order threshold states count most loads waits rows searching none = record {
  once = searching.once;
  exact = λ row. (
    (λ held. (let is = (searching.exact row).1 (inl held) in record { ranks = is.more; ranked = is.ranked; weighed = is.weighed; enough = is.enough })),
    (λ is. elim ((searching.exact row).0 (record { more = is.ranks; ranked = is.ranked; weighed = is.weighed; enough = is.enough })) [
      | inl held ↦ held
      | inr left ↦ (let (wait, held, behind) = left in absurd (Contains-none wait (subst (λ l. Contains l wait) none held)))
    ]),
  );
}

-- What the caller knows of the loads

pub loads-sound : (states : List StateValue) (count most : ℕ) (loads : List LoadedState) → ((load : LoadedState) → Contains loads load → load.state < length states)
    → AreFinite states count most (map load_of loads) → weigh (λ state. true) loads < 2 ^ 64 → IsSound states count most (record { prefix = []; loads = loads })
loads-sound states count most loads there finite fits = record {
  there = there;
  lists = λ load held list accepts. finite (load_of load) (Contains-by load_of loads load held) list accepts;
  fits = fits;
  deep = omega arith;
}
