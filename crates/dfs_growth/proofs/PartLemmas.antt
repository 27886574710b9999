-- What is counted in the part of a complete seed is what is counted in all sequences.
use Rattle.std.proofs.Common.{◌≡◌, ◌↔◌, ℕ, ◌<◌, Option, Some, None, IfSome, List, [], ◌++◌, length, refl, sym, ap, ◌∙◌, subst, arith}
use Rattle.std.specs.List.{Contains}
use Rattle.mine_model.specs.declared.item.Item.{Item}
use Rattle.mine_model.specs.Generation.{IsPatternOf}
use Rattle.mine_model.specs.Numbered.{tree_of}
use Rattle.mine_model.specs.Ranks.{AreRanked}
use Rattle.mine_model.specs.Support.{Counts}
use Rattle.mine_model.specs.Growth.{WeighAtLeast, HasPatternBehind}
use Rattle.mine_model.specs.Pivots.{IsWithin, IsWithinPivot}
use Rattle.std.proofs.lemmas.Option.{IfSome_then}
use Rattle.mine_model.proofs.ListLemmas.{rising_same}
use Rattle.mine_model.proofs.RankedLemmas.{ranked-same}
use Rattle.mine_model.proofs.AliveLemmas.{Counts-part, WeighAtLeast-part}
use Rattle.mining_job.specs.declared.part_seed.PartSeed.{PartSeed}
use Rattle.mining_job.specs.Problems.{Problem, data_of, items_of}
use Rattle.sequence_grids.specs.Grids.{GridList}
use Rattle.mining_job.specs.Parts.{pivot_of, IsComplete}
use Rattle.snapshot_project.specs.Snapshots.{bound_of, part_for}
use Rattle.snapshot_project.specs.Extensions.{sequences_of, GrowsBehind, GeneratesWithin}
use Rattle.snapshot_project.specs.Rooms.{RoomValue}
use Rattle.snapshot_project.proofs.BoundLemmas.{within-pivot}
use Rattle.dfs_growth.specs.Projections.{IsPartBy, IsRoomFor}

-- what holds of the parts of complete seeds holds of this one
pub for_part : (problem : Problem) (pivot : ℕ) (part : GridList) → IsPartBy problem pivot part → (P : ℕ → GridList → Type 0)
    → ((seed : PartSeed) → IsComplete problem seed → P (pivot_of seed.pivot) (part_for problem seed)) → P pivot part
for_part problem pivot part is P each =
    subst (λ q. P q part) is.pivot_is (subst (P (pivot_of is.seed.pivot)) (sym is.part_is) (each is.seed is.complete))

module _ (problem : Problem) (seed : PartSeed) (complete : IsComplete problem seed) where
  abbrev pub Within : List Item → Type 0
  Within = IsWithinPivot problem.ranking.order (pivot_of seed.pivot)

  abbrev pub Behind : List Item → List Item → Type 0
  Behind prefix items = HasPatternBehind (data_of problem) Within prefix items

  within : (i : ℕ) → Contains seed.sequences.items i → i < length problem.sequences
  within i held = ((complete.exact i).0 held).0

  -- a sequence with a pattern within the bound is one of the part
  held : (Has : List Item → Type 0) → ((items : List Item) → Has items → Behind [] items)
      → (i : ℕ) → i < length problem.sequences → Has (items_of problem i) → Contains seed.sequences.items i
  held Has follows i below has = (complete.exact i).1 (below, follows (items_of problem i) has)

  -- a property that only sequences with such a pattern have is counted in the part as in all sequences
  pub part-counts : (Has : List Item → Type 0) → ((items : List Item) → Has items → Behind [] items)
      → (n : ℕ) → Counts Has (sequences_of (part_for problem seed)) n ↔ Counts Has problem.sequences n
  part-counts Has follows n = Counts-part Has problem.sequences seed.sequences.items complete.rising within (held Has follows) n

  pub part-weighs : (Has : List Item → Type 0) → ((items : List Item) → Has items → Behind [] items)
      → (m : ℕ) → WeighAtLeast Has problem.sequences m → WeighAtLeast Has (sequences_of (part_for problem seed)) m
  part-weighs Has follows m = WeighAtLeast-part Has problem.sequences seed.sequences.items complete.rising within (held Has follows) m

  -- a pattern that begins with the prefix is a pattern
  pub behind-any : (prefix items : List Item) → Behind prefix items → Behind [] items
  behind-any prefix items (more, pattern, inside) = (prefix ++ more, pattern, inside)

  -- where items grow behind ranks, a pattern begins with the items that have these ranks
  pub grows-behind : (prefix : List Item) (ranks : List ℕ) → AreRanked problem.ranking.order prefix ranks
      → (items : List Item) → GrowsBehind (part_for problem seed) ranks items ↔ Behind prefix items
  grows-behind prefix ranks ranked items = (
    (λ (other, also, behind).
        let same : other ≡ prefix = ranked-same problem.ranking.order other prefix ranks also ranked in
        let (more, pattern, inside) = subst (λ p. HasPatternBehind (data_of problem) (IsWithin problem.ranking.order (part_for problem seed).bound.top (part_for problem seed).bound.need) p items) same behind in
        (more, pattern, (within-pivot problem.ranking.order seed.pivot complete.least (prefix ++ more)).0 inside)),
    (λ (more, pattern, inside). (prefix, ranked, (more, pattern, (within-pivot problem.ranking.order seed.pivot complete.least (prefix ++ more)).1 inside))),
  )

  -- items generate the prefix with these ranks where it is a pattern of theirs
  pub generates-within : (pattern : List Item) (ranks : List ℕ) → AreRanked problem.ranking.order pattern ranks → Within pattern
      → (items : List Item) → GeneratesWithin (part_for problem seed) ranks items ↔ IsPatternOf problem.hierarchy.links (tree_of problem.transducer.expression) items pattern
  generates-within pattern ranks ranked inside items = (
    (λ (other, also, is, bounded). subst (IsPatternOf problem.hierarchy.links (tree_of problem.transducer.expression) items) (ranked-same problem.ranking.order other pattern ranks also ranked) is),
    (λ is. (pattern, ranked, is, (within-pivot problem.ranking.order seed.pivot complete.least pattern).1 inside)),
  )

-- ---- the part of a pivot is one

need-of : (ranks : ℕ) (pivot : Option ℕ) → (bound_of ranks pivot).need ≡ pivot
need-of ranks None = refl
need-of ranks (Some rank) = refl

module _ (problem : Problem) where
  same-sequences : (one other : PartSeed) → IsComplete problem one → IsComplete problem other → one.pivot ≡ other.pivot → one.sequences.items ≡ other.sequences.items
  same-sequences one other here there same =
      let bound : pivot_of one.pivot ≡ pivot_of other.pivot = ap pivot_of same in
      rising_same one.sequences.items other.sequences.items here.rising there.rising
      (λ i held. let (below, has) = (here.exact i).0 held in
      (there.exact i).1 (below, subst (λ (p : ℕ). HasPatternBehind (data_of problem) (IsWithinPivot problem.ranking.order p) [] (items_of problem i)) bound has))
      (λ i held. let (below, has) = (there.exact i).0 held in
      (here.exact i).1 (below, subst (λ (p : ℕ). HasPatternBehind (data_of problem) (IsWithinPivot problem.ranking.order p) [] (items_of problem i)) (sym bound) has))

  same-seeds : (one other : PartSeed) → IsComplete problem one → IsComplete problem other → one.pivot ≡ other.pivot → part_for problem one ≡ part_for problem other
  same-seeds one other here there same =
      let sequences = same-sequences one other here there same in
      λ i. record { problem = problem; bound = bound_of (length problem.ranking.order) (same i); sequences = sequences i }

  -- two parts of one problem that need the same are one
  pub one-part : (pivot also : ℕ) (part other : GridList) → IsPartBy problem pivot part → IsPartBy problem also other → part.bound.need ≡ other.bound.need → part ≡ other
  one-part pivot also part other is are same =
      let ranks = length problem.ranking.order in
      let here : part.bound.need ≡ is.seed.pivot = ap (λ (g : GridList). g.bound.need) is.part_is ∙ need-of ranks is.seed.pivot in
      let there : other.bound.need ≡ are.seed.pivot = ap (λ (g : GridList). g.bound.need) are.part_is ∙ need-of ranks are.seed.pivot in
      is.part_is ∙ same-seeds is.seed are.seed is.complete are.complete (sym here ∙ same ∙ there) ∙ sym are.part_is

  -- so the one that the room knows is the one that needs the same
  pub known-part : (room : RoomValue) → IsRoomFor problem room → (pivot : ℕ) (part : GridList) → IsPartBy problem pivot part
      → IfSome room.part (λ known. known.bound.need ≡ part.bound.need → known ≡ part)
  known-part room is pivot part by_seed = IfSome_then room.part is.known (λ known by_also same. one-part by_also.0 pivot known part by_also.1 by_seed same)

  -- room that knows this part, or none
  pub room-knows : (old new : RoomValue) → IsRoomFor problem old → new.ranks ≡ old.ranks → (pivot : ℕ) (part : GridList) → IsPartBy problem pivot part
      → IfSome new.part (λ known. known ≡ part) → IsRoomFor problem new
  room-knows old new is ranks pivot part by_seed knows = record {
    most = omega (arith, is.most, ranks);
    known = IfSome_then new.part knows (λ known same. (pivot, subst (IsPartBy problem pivot) (sym same) by_seed));
  }
