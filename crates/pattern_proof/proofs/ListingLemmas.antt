-- Lists that grow at their front.
use Rattle.std.proofs.Common.{◌≡◌, ◌≢◌, ℕ, ◌+◌, ◌-◌, ◌≤◌, ◌<◌, inl, inr, Bool, true, false, List, [], ◌∷◌, ◌++◌, length, get_or, Some, refl, sym, ap, ◌∙◌, subst, arith, All, Contains, length-append}
use Rattle.std.specs.List.{AllByRecursion, slice_get, slice_index_or}
use Rattle.std.proofs.lemmas.Bool.{cases_eq}
use Rattle.std.proofs.Math.Seq.{get_or-append_seam}
use Rattle.std.proofs.lemmas.List.{get_or_append_left}
use Rattle.std.proofs.lemmas.Option.{get_or_from_slice_get}
use Rattle.mine_model.specs.declared.item.Item.{Item}
use Rattle.mine_model.specs.Answer.{IsFrequent}
use Rattle.mine_model.specs.Generation.{IsPatternOf}
use Rattle.mine_model.specs.Hierarchy.{IsAncestor}
use Rattle.mine_model.specs.Numbered.{tree_of}
use Rattle.mine_model.specs.Support.{HoldsUnder}
use Rattle.mine_model.proofs.ElementLemmas.{get-left, get_last}
use Rattle.mine_model.proofs.AboveLemmas.{pattern-above, IsAncestor-keeps}
use Rattle.mine_model.proofs.ListLemmas.{Contains-first, Contains-other, AllByRecursion-contained, AllByRecursion-weaker}
use Rattle.mine_model.proofs.SupportLemmas.{Counts-some}
use Rattle.mining_job.specs.Problems.{Problem, IsWhole, data_of, items_of}
use Rattle.pattern_proof.specs.declared.listing.Listed.{Listed}
use Rattle.pattern_proof.specs.Listing.{IsChain, Rise, ListsAll, Fronts, ListsUnder, AreListed, BeginsAt, PutsFirst, HasFirst}

-- ---- chains

-- a list stays as it is where more is listed behind all
pub chain-more : (listed more : List Listed) (first : ℕ) (places : List ℕ) → IsChain listed first places → IsChain (listed ++ more) first places
chain-more listed more first [] chain = chain
chain-more listed more first (place ∷ places) (entry, some, found, is, less, chain) =
    (entry, some, get-left listed more (first - 1) entry found, is, less, chain-more listed more entry.next places chain)

-- a list with one more place at its front
pub chain-push : (listed : List Listed) (first place : ℕ) (places : List ℕ) → first ≤ length listed → IsChain listed first places
    → IsChain (listed ++ (record { place = place; next = first }) ∷ []) (length listed + 1) (place ∷ places)
chain-push listed first place places within chain =
    let entry : Listed = record { place = place; next = first } in
    let last : length listed + 1 - 1 ≡ length listed = omega arith in
    (entry, omega arith, ap (slice_get (listed ++ entry ∷ [])) last ∙ get_last listed entry, refl, omega (arith, within), chain-more listed (entry ∷ []) first places chain)

-- the first of a list
pub chain-first : (listed : List Listed) (first : ℕ) (places : List ℕ) (entry : Listed) → 1 ≤ first → slice_get listed (first - 1) ≡ Some entry → IsChain listed first places
    → (others : List ℕ) × (places ≡ entry.place ∷ others) × (entry.next < first) × IsChain listed entry.next others
chain-first listed first [] entry some found none = absurd (omega (arith, some, none))
chain-first listed first (place ∷ places) entry some found (other, _, got, is, less, chain) =
    let e : Some other ≡ Some entry = sym got ∙ found in
    let same : other ≡ entry = cc in (
      places,
      ap (λ p. p ∷ places) (sym is ∙ ap (λ (l : Listed). l.place) same),
      subst (λ (l : Listed). l.next < first) same less,
      subst (λ (l : Listed). IsChain listed l.next places) same chain,
    )

-- a list that is not empty has a first
pub chain-entry : (listed : List Listed) (first : ℕ) (places : List ℕ) (none : Listed) → 0 < first → IsChain listed first places → slice_get listed (first - 1) ≡ Some (get_or listed (first - 1) none)
chain-entry listed first [] none some chain = absurd (omega (arith, some, chain))
chain-entry listed first (place ∷ places) none some (entry, _, found, is, less, chain) =
    found ∙ ap (λ (l : Listed). Some l) (sym (get_or_from_slice_get listed (first - 1) entry none found))

module _ (problem : Problem) (marked : List Bool) (old new : Fronts) (place : ℕ) (w : Item) where
  abbrev Lists : Fronts → Item → Type 0
  Lists fronts v = ListsUnder problem fronts place (place + 1) v

  module _ (puts : PutsFirst old place w new) (within : place < length problem.sequences) (heads : slice_index_or old.newest w.0 0 ≤ length old.listed) where
    -- the list that got the place
    own : (v : Item) → v.0 ≡ w.0 → Lists old v → Lists new v
    own v same lists =
        let chain : IsChain old.listed (slice_index_or old.newest w.0 0) lists.places = subst (λ n. IsChain old.listed (slice_index_or old.newest n 0) lists.places) same lists.chain in
        let pushed = chain-push old.listed (slice_index_or old.newest w.0 0) place lists.places heads chain in
        let less = all-later lists.places chain lists.rise lists.from in
        record {
          places = place ∷ lists.places;
          chain = subst (λ n. IsChain new.listed (slice_index_or new.newest n 0) (place ∷ lists.places)) (sym same)
              (subst (λ n. IsChain new.listed n (place ∷ lists.places)) (sym puts.first)
              (subst (λ l. IsChain l (length old.listed + 1) (place ∷ lists.places)) (sym puts.added) pushed));
          rise = (less, lists.rise);
          from = (omega arith, lists.from);
          within = (within, lists.within);
          all = λ p done inside holds. Contains-other place lists.places p (lists.all p done inside holds);
        }
      where
        all-later : (places : List ℕ) → IsChain old.listed (slice_index_or old.newest w.0 0) places → Rise places → AllByRecursion (λ p. place ≤ p) places → AllByRecursion (λ p. place < p) places
        all-later [] chain rise from = tt
        all-later (p ∷ places) (entry, some, found, is, less, chain) (first, rise) (least, from) = elim (cases_eq p place) [
          | inl same ↦ absurd (puts.other (record { entry = entry; some = some; first = found; is = is ∙ same }))
          | inr apart ↦
              let more : place < p = omega (arith, least, apart) in
              (more, AllByRecursion-weaker (λ q. p < q) (λ q. place < q) (λ q later. omega (arith, more, later)) places first)
        ]

    -- each other list
    others : (v : Item) → v.0 ≢ w.0 → Lists old v → Lists new v
    others v apart lists = record {
      places = lists.places;
      chain = subst (λ n. IsChain new.listed n lists.places) (sym (puts.others v.0 apart))
          (subst (λ l. IsChain l (slice_index_or old.newest v.0 0) lists.places) (sym puts.added) (chain-more old.listed _ (slice_index_or old.newest v.0 0) lists.places lists.chain));
      rise = lists.rise;
      from = lists.from;
      within = lists.within;
      all = lists.all;
    }

    puts-begins : (v : Item) → BeginsAt old place v → BeginsAt new place v
    puts-begins v begins = elim (cases_eq v.0 w.0) [
      | inl same ↦ absurd (puts.other (record {
        entry = begins.entry;
        some = subst (λ n. 1 ≤ slice_index_or old.newest n 0) same begins.some;
        first = subst (λ n. slice_get old.listed (slice_index_or old.newest n 0 - 1) ≡ Some begins.entry) same begins.first;
        is = begins.is;
      }))
      | inr apart ↦
          let stays = puts.others v.0 apart in record {
            entry = begins.entry;
            some = subst (λ n. 1 ≤ n) (sym stays) begins.some;
            first = subst (λ n. slice_get new.listed (n - 1) ≡ Some begins.entry) (sym stays)
                (subst (λ l. slice_get l (slice_index_or old.newest v.0 0 - 1) ≡ Some begins.entry) (sym puts.added) (get-left old.listed _ _ begins.entry begins.first));
            is = begins.is;
          }
    ]

    puts-first : BeginsAt new place w
    puts-first =
        let entry : Listed = record { place = place; next = slice_index_or old.newest w.0 0 } in
        let last : length old.listed + 1 - 1 ≡ length old.listed = omega arith in record {
          entry = entry;
          some = subst (λ n. 1 ≤ n) (sym puts.first) (omega arith);
          first = subst (λ n. slice_get new.listed (n - 1) ≡ Some entry) (sym puts.first)
              (subst (λ l. slice_get l (length old.listed + 1 - 1) ≡ Some entry) (sym puts.added) (ap (slice_get (old.listed ++ entry ∷ [])) last ∙ get_last old.listed entry));
          is = refl;
        }

    puts-listed : AreListed problem marked old place (place + 1) → AreListed problem marked new place (place + 1)
    puts-listed listed =
        let long : length new.listed ≡ length old.listed + 1 = ap length puts.added ∙ length-append old.listed _ in record {
          whole = puts.whole ∙ listed.whole;
          few = let few = puts.few in omega (arith, long, few);
          heads = λ v. elim (cases_eq v w.0) [
            | inl same ↦ (let at : slice_index_or new.newest v 0 ≡ length old.listed + 1 = ap (λ n. slice_index_or new.newest n 0) same ∙ puts.first in omega (arith, at, long))
            | inr apart ↦ (let at = puts.others v apart in let least = listed.heads v in omega (arith, at, least, long))
          ];
          each = λ v is. elim (cases_eq v.0 w.0) [
            | inl same ↦ own v same (listed.each v is)
            | inr apart ↦ others v apart (listed.each v is)
          ];
        }

  -- what stays and what comes where a list has the place as its first
  pub first-listed : HasFirst old place w new → place < length problem.sequences → AreListed problem marked old place (place + 1)
      → AreListed problem marked new place (place + 1) × BeginsAt new place w × ((v : Item) → BeginsAt old place v → BeginsAt new place v)
  first-listed (inl (same, begins)) within listed = (
    subst (λ f. AreListed problem marked f place (place + 1)) (sym same) listed,
    subst (λ f. BeginsAt f place w) (sym same) begins,
    (λ v had. subst (λ f. BeginsAt f place v) (sym same) had),
  )
  first-listed (inr puts) within listed =
      (puts-listed puts within (listed.heads w.0) listed, puts-first puts within (listed.heads w.0), puts-begins puts within (listed.heads w.0))

-- ---- all lists

module _ (problem : Problem) (marked : List Bool) (fronts : Fronts) where
  -- the sequence is in all lists to which it belongs
  pub listed-all : (place : ℕ) → AreListed problem marked fronts place (place + 1)
      → ((t w : Item) → Contains (items_of problem place) t → IsAncestor problem.hierarchy.links w t → slice_index_or marked w.0 false ≡ true → BeginsAt fronts place w)
      → AreListed problem marked fronts place place
  listed-all place listed begins = record {
    whole = listed.whole;
    few = listed.few;
    heads = listed.heads;
    each = λ w is. let lists = listed.each w is in record {
      places = lists.places;
      chain = lists.chain;
      rise = lists.rise;
      from = lists.from;
      within = lists.within;
      all = λ p done within holds. elim (cases_eq p place) [
        | inr apart ↦ lists.all p (omega (arith, done, apart)) within holds
        | inl same ↦ here p w is lists.places lists.chain same holds
      ];
    };
  }
    where
      here : (p : ℕ) (w : Item) → slice_index_or marked w.0 false ≡ true → (places : List ℕ) → IsChain fronts.listed (slice_index_or fronts.newest w.0 0) places → p ≡ place
          → HoldsUnder problem.hierarchy.links w (items_of problem p) → Contains places p
      here p w is places chain same (t, held, above) =
          let first = begins t w (subst (λ n. Contains (items_of problem n) t) same held) above is in
          let (others, cut, less, rest) = chain-first fronts.listed (slice_index_or fronts.newest w.0 0) places first.entry first.some first.first chain in
          subst (λ l. Contains l p) (sym cut) (subst (λ n. Contains (n ∷ others) p) (same ∙ sym first.is) (Contains-first p others))

-- ---- rows

-- a sequence that has a pattern is in the list of each of its items
pub under-lists : (problem : Problem) (fronts : Fronts) (pattern : List Item) (w : Item) → Contains pattern w → ListsUnder problem fronts 0 0 w
    → ListsAll problem fronts.listed (slice_index_or fronts.newest w.0 0) pattern
under-lists problem fronts pattern w held lists = record {
  places = lists.places;
  chain = lists.chain;
  rise = lists.rise;
  within = lists.within;
  all = λ place inside has. lists.all place (omega arith) inside
      (pattern-above problem.hierarchy.links (tree_of problem.transducer.expression) (items_of problem place) pattern has w held);
}

-- the items of a frequent pattern are items of the hierarchy
pub frequent-known : (problem : Problem) → IsWhole problem
    → All (λ link. (link.child.0 < problem.hierarchy.items) × (link.parent.0 < problem.hierarchy.items)) problem.hierarchy.links
    → (pattern : List Item) (support : ℕ) → IsFrequent (data_of problem) pattern support → (w : Item) → Contains pattern w → w.0 < problem.hierarchy.items
frequent-known problem whole ends pattern support frequent w held =
    let least = whole.least in
    let enough = frequent.enough in
    let (items, has, known) = Counts-some (λ items. IsPatternOf problem.hierarchy.links (tree_of problem.transducer.expression) items pattern)
    (λ items. AllByRecursion (λ t. t.0 < problem.hierarchy.items) items) problem.sequences support frequent.exact (omega (arith, least, enough)) whole.items in
    let (t, inside, above) = pattern-above problem.hierarchy.links (tree_of problem.transducer.expression) items pattern has w held in
    IsAncestor-keeps problem.hierarchy.links (λ x. x.0 < problem.hierarchy.items) ends w t (AllByRecursion-contained (λ t. t.0 < problem.hierarchy.items) items t known inside) above

-- one more element at the end, of each of which something holds
pub pushed : (P : ℕ → ℕ → Type 0) (xs new : List ℕ) (x i : ℕ) → new ≡ xs ++ x ∷ [] → length xs ≡ i → ((n : ℕ) → n < i → P n (get_or xs n 0)) → P i x
    → (n : ℕ) → n < i + 1 → P n (get_or new n 0)
pushed P xs new x i is long before here n less = elim (cases_eq n i) [
  | inl same ↦
      let at : get_or new n 0 ≡ x = ap (λ l. get_or l n 0) is ∙ ap (λ m. get_or (xs ++ x ∷ []) m 0) (same ∙ sym long) ∙ get_or-append_seam xs x [] 0 in
      subst (λ m. P m (get_or new n 0)) (sym same) (subst (P i) (sym at) here)
  | inr apart ↦
      let at : get_or new n 0 ≡ get_or xs n 0 = ap (λ l. get_or l n 0) is ∙ get_or_append_left xs (x ∷ []) 0 n (omega (arith, less, apart, long)) in
      subst (P n) (sym at) (before n (omega (arith, less, apart)))
]
