-- Frequencies and an order of the frequent items are the ranks.
use Rattle.std.proofs.Common.{◌≡◌, ◌≢◌, ℕ, ◌≤◌, ◌<◌, ◌↔◌, inl, inr, List, length, get_or, ap, ◌∙◌, arith}
use Rattle.std.specs.List.{All, AllByRecursion, AllPairs, Contains, slice_index}
use Rattle.std.specs.Cmp.{tied_itself}
use Rattle.std.specs.Cmp.Lexicographic.{slice_cmp}
use Rattle.std.specs.Ordering.{nat_cmp}
use Rattle.std.specs.declared.cmp.Ordering.TheVariants.{Less, Equal}
use Rattle.std.proofs.lemmas.Cmp.{nat_list_cmp_total}
use Rattle.mine_model.specs.declared.item.Item.{Item}
use Rattle.mine_model.specs.Hierarchy.{Link}
use Rattle.mine_model.specs.Names.{name_of}
use Rattle.mine_model.specs.Support.{Sequence, HoldsUnder}
use Rattle.mine_model.specs.Ranks.{AreFrequencies, AreRanks, AreTiesByName}
use Rattle.mine_model.proofs.SupportLemmas.{Counts-unique}
use Rattle.mine_model.proofs.FrequencyLemmas.{HasFrequency-within}
use Rattle.frequency_list.specs.Order.{ComesBefore}

module _ (frequencies : List ℕ) (names : List (List ℕ)) where
  -- nothing comes before itself
  pub comes_apart : (v w : Item) → ComesBefore frequencies names v w → v ≢ w
  comes_apart v w (inl less) same = let e : slice_index frequencies v.0 ≡ slice_index frequencies w.0 = ap (λ (u : Item). slice_index frequencies u.0) same in omega (arith, less, e)
  comes_apart v w (inr (equal, earlier)) same =
      let tied : slice_cmp nat_cmp (name_of names v) (name_of names v) ≡ Equal = tied_itself nat_list_cmp_total (name_of names v) in
      let less : slice_cmp nat_cmp (name_of names v) (name_of names v) ≡ Less = ap (λ (u : Item). slice_cmp nat_cmp (name_of names v) (name_of names u)) same ∙ earlier in
      cc

  comes_falling : (v w : Item) → ComesBefore frequencies names v w → slice_index frequencies w.0 ≤ slice_index frequencies v.0
  comes_falling v w (inl less) = omega arith
  comes_falling v w (inr (equal, earlier)) = omega (arith, equal)

  comes_by_name : (v w : Item) → ComesBefore frequencies names v w → slice_index frequencies v.0 ≡ slice_index frequencies w.0
      → slice_cmp nat_cmp (name_of names v) (name_of names w) ≡ Less
  comes_by_name v w (inl less) same = absurd (omega arith)
  comes_by_name v w (inr (equal, earlier)) same = earlier

  module _ (order : List Item) (sorted : AllPairs (ComesBefore frequencies names) order) where
    pub order_apart : AllPairs (λ v w. v ≢ w) order
    order_apart i j d less within = comes_apart (get_or order i d) (get_or order j d) (sorted i j d less within)

    pub AreTiesByName-sorted : AreTiesByName names (record { order = order; frequencies = frequencies })
    AreTiesByName-sorted i j d less within = comes_by_name (get_or order i d) (get_or order j d) (sorted i j d less within)

    pub AreRanks-sorted : (links : List (Link Item)) (sequences : List (Sequence Item)) (threshold : ℕ)
        → All (λ link. (link.child.0 < length frequencies) × (link.parent.0 < length frequencies)) links
        → AllByRecursion (λ s. AllByRecursion (λ t. t.0 < length frequencies) s.items) sequences → 1 ≤ threshold → AreFrequencies links sequences frequencies
        → ((w : Item) → Contains order w ↔ ((w.0 < length frequencies) × (threshold ≤ slice_index frequencies w.0)))
        → AreRanks links sequences threshold (record { order = order; frequencies = frequencies })
    AreRanks-sorted links sequences threshold ends within least are frequent = record {
      exact = are;
      frequent = λ w. (
        (λ held. let both = (frequent w).0 held in record { frequency = slice_index frequencies w.0; exact = are w both.0; enough = both.1 }),
        (λ is.
            let below : w.0 < length frequencies = HasFrequency-within links (length frequencies) ends sequences w is.frequency within is.exact (omega (arith, least, is.enough)) in
            let same : is.frequency ≡ slice_index frequencies w.0 = Counts-unique (HoldsUnder links w) sequences is.frequency (slice_index frequencies w.0) is.exact (are w below) in
            (frequent w).1 (below, omega (arith, same, is.enough))),
      );
      once = order_apart;
      falling = λ i j d less within. comes_falling (get_or order i d) (get_or order j d) (sorted i j d less within);
    }
